use Rattle.std.proofs.Common.{◌∙◌, ap}
use Rattle.smil_instances.specs.Instances.{SettledInstances}
use Rattle.smil_instance_rows.specs.Readings.{begins_in}
use Rattle.smil_instances.proofs.RowReadings.{begins_told}
use Rattle.smil_instances.proofs.instances.Instances.begins.Goals as goal

pub returns-clause-model : goal.returns-clause-model
returns-clause-model c = λ h now e is.
    c.begins.ensures ∙ ap (λ (v : SettledInstances). begins_in v.rows c.args.who) c.self.view_is ∙ begins_told c.args.self.now h now c.args.who e c.rows_tell_instances.ensures is
