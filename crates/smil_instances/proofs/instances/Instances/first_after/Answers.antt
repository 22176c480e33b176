use Rattle.std.proofs.Common.{◌∙◌, ap, w64}
use Rattle.std.proofs.lemmas.Int.{to_z-of_z}
use Rattle.smil_instances.specs.Instances.{SettledInstances}
use Rattle.smil_instance_rows.specs.Readings.{first_after, times_in}
use Rattle.smil_instances.proofs.RowReadings.{times_told}
use Rattle.smil_instances.proofs.instances.Instances.first_after.Goals as goal

pub returns-clause-model : goal.returns-clause-model
returns-clause-model c = λ h now e is.
    c.first_after.ensures
    ∙ ap (λ v. first_after v (times_in c.self.inside.rows c.args.who c.args.side)) (to_z-of_z w64 c.args.value c.ranges.value)
    ∙ ap (first_after c.args.value) (ap (λ (v : SettledInstances). times_in v.rows c.args.who c.args.side) c.self.view_is ∙ times_told c.args.self.now h now c.args.who e c.rows_tell_instances.ensures is c.args.side)
