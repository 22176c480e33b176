use Rattle.smil_top.proofs.OrdersOfOneName.{is_alone}
use Rattle.smil_top.proofs.laws.names_are_isolated.Goals as goal

pub returns : goal.returns
returns c = λ allowed name tried is_name few. is_alone allowed name is_name tried few
