use Rattle.std.proofs.Common.{◌∙◌, ap}
use Rattle.smil_instance_rows.specs.Rows.{ElementTimes}
use Rattle.smil_instance_rows.specs.Values.{begins_of}
use Rattle.smil_instance_rows.proofs.SideValues.{begins_same}
use Rattle.smil_instance_rows.proofs.row.InstanceRow.begins.Goals as goal

pub returns : goal.returns
returns c = c.values.ensures ∙ begins_same c.self.inside.begins ∙ ap (λ (r : ElementTimes). begins_of r.begins) c.self.view_is
