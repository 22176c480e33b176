use Rattle.smil_top.proofs.OrdersByName.{prefers_on}
use Rattle.smil_top.proofs.PreferOrders.{holds_on, of_none}
use Rattle.smil_top.proofs.laws.preferences_are_apart.Goals as goal

pub returns-clause-none : goal.returns-clause-none
returns-clause-none c = λ name order e. of_none name order e

pub returns-clause-held : goal.returns-clause-held
returns-clause-held c = λ allowed session order e. holds_on allowed session order e

pub returns-clause-preferred : goal.returns-clause-preferred
returns-clause-preferred c = λ allowed session order e. prefers_on allowed session order e
