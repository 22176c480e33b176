use Rattle.std.proofs.Common.{◌∙◌, ap}
use Rattle.smil_instance_rows.specs.Rows.{ElementTimes}
use Rattle.smil_instance_rows.specs.Values.{ends_of}
use Rattle.smil_instance_rows.proofs.SideValues.{ends_same}
use Rattle.smil_instance_rows.proofs.row.InstanceRow.ends.Goals as goal

pub returns : goal.returns
returns c = c.values.ensures ∙ ends_same c.self.inside.ends ∙ ap (λ (r : ElementTimes). ends_of r.ends) c.self.view_is
