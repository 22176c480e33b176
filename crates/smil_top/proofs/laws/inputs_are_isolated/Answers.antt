use Rattle.smil_top.proofs.InputsOfOneName.{alone_in_input}
use Rattle.smil_top.proofs.laws.inputs_are_isolated.Goals as goal

pub returns : goal.returns
returns c = λ allowed name lines is_name few. alone_in_input allowed name lines is_name few
