-- What the elements are sorted by.
use Rattle.std.specs.Prelude.{◌≡◌, ℕ, ◌<◌, ◌+◌, ◌-◌, List, length, Option, Some, None, slice_index_or}
use Rattle.std.specs.declared.cmp.Ordering.{Ordering}
use Rattle.std.specs.Ordering.{nat_cmp, ordering_then}
use Rattle.smil_graph.specs.declared.ordered.Rank.{Rank}
use Rattle.smil_graph.specs.Places.{up}

abbrev pub rank_of : List ℕ → List ℕ → ℕ → Rank
rank_of levels heights place = record {
  level = slice_index_or levels place 0;
  height = slice_index_or heights place 0;
  place = place;
}

abbrev pub rank_cmp : Rank → Rank → Ordering
rank_cmp a b = ordering_then (nat_cmp a.level b.level)
    (ordering_then (nat_cmp a.height b.height) (nat_cmp a.place b.place))

-- one below the parent's height, or the top where there is no parent
abbrev pub height_under : List ℕ → ℕ → Option ℕ → ℕ
height_under heights top None = top
height_under heights top (Some parent) = slice_index_or heights parent 0 - 1

-- every node stands one below its time parent
pub record AreHeights (parents : List (Option ℕ)) (heights : List ℕ) : Type 0 where
  pub count : length heights ≡ length parents
  pub each : (p q : ℕ) → p < length parents → up parents p ≡ Some q
      → slice_index_or heights p 0 + 1 ≡ slice_index_or heights q 0
