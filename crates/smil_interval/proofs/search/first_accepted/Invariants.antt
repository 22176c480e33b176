use Rattle.std.proofs.Common.{◌≡◌, length}
use Rattle.std.specs.Prelude.{None}
use Rattle.smil_model.specs.interval.Intervals.{first_from, interval_end}
use Rattle.smil_interval.specs.Rising.{IsRising}
use Rattle.smil_interval.proofs.search.first_accepted.Given as goal

abbrev pub invariant-search : goal.invariant-search
invariant-search l = record {
  rising : IsRising l.rest;
  same : first_from l.facts (interval_end l.facts l.begins l.ends) None l.rest ≡ first_from l.facts (interval_end l.facts l.begins l.ends) None l.left;
}

abbrev pub decreases-search : goal.decreases-search
decreases-search l = length l.rest
