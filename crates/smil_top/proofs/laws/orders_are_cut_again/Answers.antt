use Rattle.smil_top.proofs.OrdersCutAgain.{cut_again}
use Rattle.smil_top.proofs.laws.orders_are_cut_again.Goals as goal

pub returns : goal.returns
returns c = λ lines kept. cut_again lines kept
