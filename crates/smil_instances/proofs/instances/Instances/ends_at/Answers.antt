use Rattle.std.proofs.Common.{◌∙◌, ap}
use Rattle.smil_instance_rows.specs.Changes.{row_at}
use Rattle.smil_instance_rows.specs.Rows.{ElementTimes}
use Rattle.smil_instance_rows.specs.Values.{ends_of}
use Rattle.smil_instances.specs.Instances.{SettledInstances}
use Rattle.smil_instances.proofs.DiaryTimes.{own_ends}
use Rattle.smil_instances.proofs.RowReadings.{row_there}
use Rattle.smil_instances.proofs.instances.Instances.ends_at.Goals as goal

pub returns : goal.returns
returns c = λ h now e is.
    c.ends_at.ensures
    ∙ ap (λ (v : SettledInstances). ends_of (row_at v.rows c.args.index).ends) c.self.view_is
    ∙ ap (λ (r : ElementTimes). ends_of r.ends) (row_there c.args.self.now c.args.index h e is)
    ∙ own_ends h now e
