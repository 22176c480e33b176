use Rattle.std.proofs.Common.{◌≡◌, ◌≢◌, ℕ, ◌+◌, ◌/◌, ◌<◌, drop}
use Rattle.smil_model.specs.Tournaments.{IsDecided}
use Rattle.smil_model.proofs.tournament.decide_above.Given as goal

abbrev pub invariant-loop-decided : goal.invariant-loop-decided
invariant-loop-decided g l = record {
  above : 0 < l.decided;
  within : l.decided < l.half + l.half;
  others : (i : ℕ) → 0 < i → i < l.half → i ≢ l.decided / 2 → IsDecided g.T.Contender.none g.T.Contender.both l.places i;
  kept : drop l.half l.places ≡ drop l.half l.initial.places;
}

abbrev pub decreases-loop-decided : goal.decreases-loop-decided
decreases-loop-decided g l = l.decided
