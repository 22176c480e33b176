-- Where a step shows besides its element, and elements by their places.
use Rattle.std.specs.Prelude.{◌≡◌, ℕ, ◌<◌, ◌≤◌, List, [], ◌∷◌, ◌++◌, drop, filter, length, Bool, true, false, ◌&&◌, ◌||◌, ◌⊎◌, if◌then◌else◌, Option, Some, None, is_some, IsSome}
use Rattle.std.specs.List.{list_any}
use Rattle.smil_model.specs.declared.diary.Entry.{Entry}
use Rattle.smil_model.specs.declared.diary.LogEntry.{LogEntry}
use Rattle.smil_model.specs.declared.diary.Step.{Step}
use Rattle.smil_model.specs.declared.document.Node.{Node}
use Rattle.smil_model.specs.document.Document.{elements, serials, time_parent, time_children, node_at, is_within}
use Rattle.smil_model.specs.document.Defaults.{effective_fill}
use Rattle.smil_model.specs.document.Edits.{place_in}
use Rattle.smil_model.specs.document.Closure.{has}
use Rattle.smil_model.specs.diary.Diary.{History}
use Rattle.smil_model.specs.diary.Plays.{last_finished}
use Rattle.smil_model.specs.happening.Resolution.{Progress, next_step}
use Rattle.smil_laws.specs.Agreement.{course_on}
use Rattle.smil_laws.specs.Seen.{starts}
use Rattle.smil_graph.specs.Tables.{takes_turns}
use Rattle.smil_past.specs.Makeups.{is_freeze}
use Rattle.smil_cells.specs.CellsState.{CellsState, progress_of}
use Rattle.smil_cells.specs.Evaluated.{acts_on, intervals_by}

-- a seq or an excl, of whose children one plays at a time
abbrev pub sequenced : Option Node → Option Node
sequenced None = None
sequenced (Some p) = if takes_turns (Some p) then Some p else None

-- the time parent in which a begin or a resume may displace frozen children
abbrev pub displaced_in : List Node → Step → ℕ → Option Node
displaced_in nodes step serial = if starts step then sequenced (time_parent nodes serial) else None

-- ---- whose views a step may change, given the same intervals

-- whether an element may be frozen until it is displaced: it has finished an interval, and its fill
-- freezes it
abbrev pub may_rest : History → Node → Bool
may_rest h e = is_freeze (effective_fill h.nodes e) && is_some (last_finished h e.serial)

-- whether an element is within one of these that may rest so
abbrev pub any_rests : History → List Node → ℕ → Bool
any_rests h children s =
    list_any (λ (n : Node). may_rest h n && is_within h.nodes n.serial s) children

abbrev pub rests_under : History → Option Node → ℕ → Bool
rests_under h None s = false
rests_under h (Some p) s = any_rests h (time_children h.nodes p.serial) s

-- a step shows in the views of its element and of those below it, and where the element begins or
-- resumes in a seq or an excl also in those of the children there that may rest, and of those below
-- them
abbrev pub shows_in : History → Step → ℕ → ℕ → Bool
shows_in h step x s = is_within h.nodes x s || rests_under h (displaced_in h.nodes step x) s

abbrev pub shows_from : History → Step → Option ℕ → ℕ → Bool
shows_from h step None s = false
shows_from h step (Some x) s = shows_in h step x s

-- whether one of the entries shows, by the history that ends with them; a logged one shows in no
-- view
abbrev pub any_shows : History → List Entry → ℕ → Bool
any_shows h entries s =
    list_any (λ (y : Entry). shows_from h y.step (acts_on y.step) s) entries

-- ---- elements by their places

-- the elements at these places, in document order
abbrev pub elements_at : List Node → List ℕ → List ℕ
elements_at nodes places =
    filter (λ (s : ℕ). has places (place_in nodes s)) (serials (elements nodes))

-- the node that there may be
abbrev pub nodes_of : Option Node → List Node
nodes_of None = []
nodes_of (Some n) = n ∷ []

-- each place that was in still is
abbrev pub StayIn : List ℕ → List ℕ → Type 0
StayIn old new = (place : ℕ) → has old place ≡ true → has new place ≡ true

-- the place of each node that is listed is in
abbrev pub ArePut : List Node → List ℕ → List ℕ → Type 0
ArePut nodes listed places =
    (s : ℕ) → has listed s ≡ true → IsSome (node_at nodes s) → has places (place_in nodes s) ≡ true

-- besides the places that were in, those from one on up to another are, and no others
pub record IsRangePut (start end : ℕ) (old new : List ℕ) : Type 0 where
  pub more : StayIn old new
  pub put : (place : ℕ) → start ≤ place → place < end → has new place ≡ true
  pub only : (place : ℕ) → has new place ≡ true
      → (has old place ≡ true) ⊎ ((start ≤ place) × (place < end))

-- each element at the places was there before, or passes the test
abbrev pub OnlyMore : List Node → List ℕ → List ℕ → (ℕ → Bool) → Type 0
OnlyMore nodes old new test =
    (e : Node) → node_at (elements nodes) e.serial ≡ Some e
    → has (elements_at nodes new) e.serial ≡ true
    → (has (elements_at nodes old) e.serial ≡ true) ⊎ (test e.serial ≡ true)

-- besides what was there, the elements that pass the test are at the places, and no others
pub record ArePutWhere (nodes : List Node) (test : ℕ → Bool) (old new : List ℕ) : Type 0 where
  pub more : StayIn old new
  pub put : (e : Node) → node_at (elements nodes) e.serial ≡ Some e → test e.serial ≡ true
      → has (elements_at nodes new) e.serial ≡ true
  pub only : OnlyMore nodes old new test

-- the cells with the elements at these places as those that are touched
abbrev pub touched_at : CellsState → List ℕ → CellsState
touched_at s places =
    record s { touched = elements_at s.presentation.document.nodes places }

-- ---- whose views entries may change

-- the view of an element may change from one progress of a resolution to a later one:
-- an entry between shows in it, or its interval is another
abbrev pub MayChange : List Node → List LogEntry → Progress → Progress → ℕ → Type 0
MayChange nodes log before after s =
    (any_shows (record { nodes = nodes; log = log; diary = after.diary })
    (drop (length before.diary) after.diary) s ≡ true)
    ⊎ (intervals_by nodes log after s ≡ intervals_by nodes log before s → ⊥)

-- what is touched besides what was has a view that the entries may have changed
abbrev pub TouchesOnly : CellsState → CellsState → Type 0
TouchesOnly old new =
    (e : Node) → node_at (elements new.presentation.document.nodes) e.serial ≡ Some e
    → has new.touched e.serial ≡ true
    → (has old.touched e.serial ≡ true)
    ⊎ MayChange new.presentation.document.nodes new.presentation.log (progress_of old)
    (progress_of new) e.serial

-- a step of the resolution by which a call appended entries
pub record IsAppended (old new : CellsState) (before after : Progress) : Type 0 where
  pub next :
      next_step (course_on new.presentation.document.nodes new.presentation.log before.moment)
      before
      ≡ Some after
  pub from : (more : List Entry) × (before.diary ≡ old.diary ++ more)
  pub within : (more : List Entry) × (new.diary ≡ after.diary ++ more)

-- a step of the call may have changed the view of an element
abbrev pub MayHaveChanged : CellsState → CellsState → ℕ → Type 0
MayHaveChanged old new s =
    (before : Progress) × (after : Progress) × IsAppended old new before after
    × MayChange new.presentation.document.nodes new.presentation.log before after s

-- what is touched besides what was has a view that a step of the call may have changed
abbrev pub TouchesOnlySince : CellsState → CellsState → Type 0
TouchesOnlySince old new =
    (e : Node) → node_at (elements new.presentation.document.nodes) e.serial ≡ Some e
    → has new.touched e.serial ≡ true
    → (has old.touched e.serial ≡ true) ⊎ MayHaveChanged old new e.serial

-- each element that is touched has a view that a step of the call may have changed
abbrev pub OnlyChanged : CellsState → CellsState → Type 0
OnlyChanged old new =
    (e : Node) → node_at (elements new.presentation.document.nodes) e.serial ≡ Some e
    → has new.touched e.serial ≡ true
    → MayHaveChanged old new e.serial
