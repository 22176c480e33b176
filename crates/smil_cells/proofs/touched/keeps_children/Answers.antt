use Rattle.std.proofs.Common.{ap}
use Rattle.smil_past.specs.declared.makeup.Makeup.{Makeup}
use Rattle.smil_cells.proofs.touched.keeps_children.Goals as goal

pub returns : goal.returns
returns c = λ e here. ap (λ (m : Makeup). m.keeps_children) (c.makeup.ensures e here)
