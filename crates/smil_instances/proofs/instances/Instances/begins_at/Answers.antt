use Rattle.std.proofs.Common.{◌∙◌, ap}
use Rattle.smil_instance_rows.specs.Changes.{row_at}
use Rattle.smil_instance_rows.specs.Rows.{ElementTimes}
use Rattle.smil_instance_rows.specs.Values.{begins_of}
use Rattle.smil_instances.specs.Instances.{SettledInstances}
use Rattle.smil_instances.proofs.DiaryTimes.{own_begins}
use Rattle.smil_instances.proofs.RowReadings.{row_there}
use Rattle.smil_instances.proofs.instances.Instances.begins_at.Goals as goal

pub returns : goal.returns
returns c = λ h now e is.
    c.begins_at.ensures
    ∙ ap (λ (v : SettledInstances). begins_of (row_at v.rows c.args.index).begins) c.self.view_is
    ∙ ap (λ (r : ElementTimes). begins_of r.begins) (row_there c.args.self.now c.args.index h e is)
    ∙ own_begins h now e
