-- Current intervals: the rounds that define them come to rest,
-- and only one assignment of intervals agrees with itself.
use Rattle.std.specs.Prelude.{◌≡◌, ℕ, ◌+◌, ◌<◌, ℤ, List, reverse, length, true, false, ◌&&◌, ◌==◌, Option, Some, option_and_then}
use Rattle.std.specs.List.{list_any}
use Rattle.smil_model.specs.declared.document.Node.{Node}
use Rattle.smil_model.specs.declared.interval.Interval.{Interval}
use Rattle.smil_model.specs.document.Document.{elements, node_at, is_time_child, previous_in_seq}
use Rattle.smil_model.specs.document.Dependencies.{has_implicit_duration, all_items, is_sync_with, leads_to}
use Rattle.smil_model.specs.diary.Diary.{History}
use Rattle.smil_model.specs.interval.Current.{interval_given, table, in_table, current_interval}
use Rattle.smil_laws.specs.Locality.{ParentsBefore}

-- a rank rises along each dependency of an element that is not looped
pub record IsRank (nodes : List Node) (rank : ℕ → ℕ) (e : Node) : Type 0 where
  pub children : (s : ℕ) → has_implicit_duration e ≡ true
      → list_any (λ (c : Node). (c.serial == s) && is_time_child nodes e.serial c) nodes ≡ true
      → rank s < rank e.serial
  pub before : (b : Node) → previous_in_seq nodes e.serial ≡ Some b → rank b.serial < rank e.serial
  pub named : (x : ℕ) → list_any (is_sync_with nodes x) (all_items nodes e) ≡ true
      → leads_to nodes e.serial x ≡ false → rank x < rank e.serial

-- there is such a rank, so the dependencies that are not looped have no cycle
abbrev pub DependenciesHaveRank : Type 0
DependenciesHaveRank =
    (nodes : List Node) → ParentsBefore (reverse nodes)
    → (rank : ℕ → ℕ)
    × ((e : Node) → node_at (elements nodes) e.serial ≡ Some e → IsRank nodes rank e)

-- rounds past the number of elements change nothing
abbrev pub RoundsComeToRest : Type 0
RoundsComeToRest =
    (h : History) (now : ℤ) (more s : ℕ) → ParentsBefore (reverse h.nodes)
    → in_table (table h now (length (elements h.nodes) + more)) s ≡ current_interval h now s

-- intervals that are given, each by the others, are the current ones
abbrev pub AgreeingIsCurrent : Type 0
AgreeingIsCurrent =
    (h : History) (now : ℤ) (intervals : ℕ → Option Interval) → ParentsBefore (reverse h.nodes)
    → ((s : ℕ) → intervals s
    ≡ option_and_then (interval_given h intervals now) (node_at (elements h.nodes) s))
    → (s : ℕ) → intervals s ≡ current_interval h now s
