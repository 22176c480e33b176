use Rattle.std.proofs.Common.{◌∙◌, ap}
use Rattle.smil_instances.specs.Instances.{SettledInstances}
use Rattle.smil_instance_rows.specs.Readings.{ends_in}
use Rattle.smil_model.specs.interval.Intervals.{has_any}
use Rattle.smil_instances.proofs.RowReadings.{ends_told}
use Rattle.smil_instances.proofs.instances.Instances.any_end.Goals as goal

pub returns-clause-model : goal.returns-clause-model
returns-clause-model c = λ h now e is.
    c.any_end.ensures ∙ ap has_any (ap (λ (v : SettledInstances). ends_in v.rows c.args.who) c.self.view_is ∙ ends_told c.args.self.now h now c.args.who e c.rows_tell_instances.ensures is)
