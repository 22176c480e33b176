use Rattle.std.proofs.Common.{ap, arith}
use Rattle.std.proofs.lemmas.Int.{ints}
use Rattle.smil_past.specs.declared.plays.facts.PlayFacts.{PlayFacts}
use Rattle.smil_element.proofs.comings.last_play.Goals as goal

pub returns-clause-first : goal.returns-clause-first
returns-clause-first c = omega (arith, ints, ap (λ (r : PlayFacts). r.first) c.requires.played_is)

pub returns-clause-start : goal.returns-clause-start
returns-clause-start c = omega (arith, ints, ap (λ (r : PlayFacts). r.start) c.requires.played_is)

pub returns-clause-iteration : goal.returns-clause-iteration
returns-clause-iteration c = ap (λ (r : PlayFacts). r.iteration) c.requires.played_is
