use Rattle.smil_top.proofs.NamesIsolated.{of_one}
use Rattle.smil_top.proofs.OrdersByName.{order_stays, presentation_stays}
use Rattle.smil_top.proofs.laws.others_stay.Goals as goal

pub returns-clause-one : goal.returns-clause-one
returns-clause-one c = λ name other order t u e d. of_one name other order t u e d

pub returns-clause-stay : goal.returns-clause-stay
returns-clause-stay c = λ allowed name session order h. order_stays allowed name session order h

pub returns-clause-presentations : goal.returns-clause-presentations
returns-clause-presentations c = λ allowed name session order h. presentation_stays allowed name session order h
