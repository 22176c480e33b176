use Rattle.std.proofs.Common.{ap}
use Rattle.std.specs.Prelude.{unwrap_or}
use Rattle.smil_past.proofs.queues.classes.place_in.Goals as goal

pub returns-in-Some-clause-place : goal.returns-in-Some-clause-place
returns-in-Some-clause-place c = ap (λ o. unwrap_or o 0) c.in-Some.ensures.place

pub returns-in-None-clause-place : goal.returns-in-None-clause-place
returns-in-None-clause-place c = ap (λ o. unwrap_or o 0) c.in-None.ensures.place
