use Rattle.std.proofs.Common.{ap}
use Rattle.smil_past.specs.declared.makeup.Makeup.{Makeup}
use Rattle.smil_element.proofs.frozen.fill_of.Goals as goal

pub returns : goal.returns
returns c = λ e at. ap (λ (m : Makeup). m.fill) (c.makeup.ensures e at)
