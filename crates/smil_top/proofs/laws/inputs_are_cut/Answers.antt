use Rattle.smil_top.proofs.InputParts.{inputs_cut}
use Rattle.smil_top.proofs.laws.inputs_are_cut.Goals as goal

pub returns : goal.returns
returns c = λ came more. inputs_cut came more
