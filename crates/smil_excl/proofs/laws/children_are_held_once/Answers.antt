use Rattle.smil_excl.proofs.QueueDistinct.{gone, once_deferred, once_paused, once_rest, once_waiting, once_without}
use Rattle.smil_excl.proofs.laws.children_are_held_once.Goals as goal

pub returns-clause-paused : goal.returns-clause-paused
returns-clause-paused c = λ child held once absent. once_paused child held once absent

pub returns-clause-deferred : goal.returns-clause-deferred
returns-clause-deferred c = λ child held once absent. once_deferred child held once absent

pub returns-clause-left : goal.returns-clause-left
returns-clause-left c = λ who held once. once_without who held once

pub returns-clause-taken : goal.returns-clause-taken
returns-clause-taken c = λ held once. once_rest held once

pub returns-clause-gone : goal.returns-clause-gone
returns-clause-gone c = λ who held. gone who held

pub returns-clause-waiting : goal.returns-clause-waiting
returns-clause-waiting c = λ h excl. once_waiting h excl
