use Rattle.smil_top.proofs.OrdersByName.{own_order}
use Rattle.smil_top.proofs.laws.answers_are_own.Goals as goal

pub returns : goal.returns
returns c = λ allowed name session order t h few. own_order allowed name session order t h few
