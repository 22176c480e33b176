-- The ends of the time children of each element, and where the ending of each stands.
use Rattle.std.specs.Prelude.{◌≡◌, ◌==◌, ℕ, zero, suc, ◌<◌, List, [], ◌∷◌, length, map, slice_get, slice_index_or, Bool, true, false, Option, Some, None}
use Rattle.std.specs.List.{position}
use Rattle.std.proofs.Common.{subst, sym}
use Rattle.smil_model.specs.declared.diary.Entry.{Entry}
use Rattle.smil_model.specs.declared.document.Node.{Node}
use Rattle.smil_model.specs.declared.interval.ChildEnd.{ChildEnd}
use Rattle.smil_model.specs.declared.interval.Interval.{Interval}
use Rattle.smil_model.specs.document.Document.{elements, node_at, serial_of, time_children, time_parent}
use Rattle.smil_model.specs.document.Dependencies.{has_implicit_duration}
use Rattle.smil_model.specs.diary.Diary.{History}
use Rattle.smil_model.specs.interval.Current.{child_end, is_named_child}
use Rattle.smil_endsync.specs.Ends.{set_ends}
use Rattle.smil_element.specs.declared.endings.Ending.{Ending}
use Rattle.smil_element.specs.Endings.{ending_by}
use Rattle.smil_rounds.specs.declared.current_rows.CurrentRow.{CurrentRow}
use Rattle.smil_rounds.specs.Current.{interval_in}
use Rattle.smil_rounds.specs.Round.{AreOfElements}
use Rattle.smil_nodes.specs.declared.endings.Home.{Home}

-- of the elements in document order where the ending of each stands,
-- and the ends of its time children
pub record KeptEnds : Type 0 where
  pub homes : List (Option Home)
  pub ends : List (List ChildEnd)

-- ---- where endings stand

abbrev pub home_at : List (Option Home) → ℕ → Option Home
home_at homes place = slice_index_or homes place None

-- each place is among the ends of a container
abbrev pub AreHoused : List (Option Home) → List (List ChildEnd) → Type 0
AreHoused homes ends =
    (place : ℕ) (home : Home) → home_at homes place ≡ Some home
    → (home.container < length ends) × (home.child < length (slice_index_or ends home.container []))

-- an element is that time child of the element that stands at that place
pub record IsHome (nodes : List Node) (who : ℕ) (home : Home) : Type 0 where
  pub container : Node
  pub element : Node
  pub known : node_at (elements nodes) who ≡ Some element
  pub above : slice_get (elements nodes) home.container ≡ Some container
  pub child : slice_get (time_children nodes container.serial) home.child ≡ Some element

-- an element has none where its time parent, if any, does not last as its time children do
abbrev pub HasHome : List Node → ℕ → Option Home → Type 0
HasHome nodes who None =
    (e : Node) → node_at (elements nodes) e.serial ≡ Some e
    → serial_of (time_parent nodes who) ≡ Some e.serial → has_implicit_duration e ≡ false
HasHome nodes who (Some home) = IsHome nodes who home

-- of these elements of a document, one after another
abbrev pub HaveHomes : List Node → List Node → List (Option Home) → Type 0
HaveHomes nodes [] [] = Unit {0}
HaveHomes nodes [] (home ∷ homes) = ⊥
HaveHomes nodes (e ∷ es) [] = ⊥
HaveHomes nodes (e ∷ es) (home ∷ homes) = HasHome nodes e.serial home × HaveHomes nodes es homes

abbrev pub AreHomes : List Node → List (Option Home) → Type 0
AreHomes nodes homes = HaveHomes nodes (elements nodes) homes

-- ---- endings that are put and read

abbrev pub put_among : List (List ChildEnd) → ℕ → ℕ → Ending → List (List ChildEnd)
put_among [] container child ending = []
put_among (cs ∷ rest) zero child ending = set_ends cs child ending.first ending.latest ∷ rest
put_among (cs ∷ rest) (suc container) child ending = cs ∷ put_among rest container child ending

abbrev pub put_home : List (List ChildEnd) → Ending → Option Home → List (List ChildEnd)
put_home ends ending None = ends
put_home ends ending (Some home) = put_among ends home.container home.child ending

-- an ending is put where it stands; nowhere for an element that has no such place
abbrev pub put_ending : KeptEnds → ℕ → Ending → KeptEnds
put_ending kept place ending = record {
  homes = kept.homes;
  ends = put_home kept.ends ending (home_at kept.homes place);
}

-- the ending of a child, none where there is none
abbrev pub ending_from : Option ChildEnd → Ending
ending_from None = record { first = None; latest = None }
ending_from (Some c) = record { first = c.first; latest = c.latest }

abbrev pub ending_home : List (List ChildEnd) → Option Home → Ending
ending_home ends None = ending_from None
ending_home ends (Some home) =
    ending_from (slice_get (slice_index_or ends home.container []) home.child)

-- the ending of the element at a place
abbrev pub ending_in : KeptEnds → ℕ → Ending
ending_in kept place = ending_home kept.ends (home_at kept.homes place)

-- ---- whether they are right

-- a time child of which no end is known
abbrev pub named_end : Node → Node → ChildEnd
named_end e c = record { named = is_named_child e.attrs.endsync c; first = None; latest = None }

abbrev pub named_ends : List Node → Node → List ChildEnd
named_ends nodes e = map (named_end e) (time_children nodes e.serial)

-- which children the endsync of each container names
abbrev pub names_of : List (List ChildEnd) → List (List Bool)
names_of ends = map (λ cs. map (λ (c : ChildEnd). c.named) cs) ends

-- of each element whose duration is implicit the ends of those time children that pass a test are
-- those by a history and these intervals
pub record AreKnown (h : History) (given : ℕ → Option Interval) (test : ℕ → Type 0)
    (kept : KeptEnds) : Type 0 where
  pub homes : AreHomes h.nodes kept.homes
  pub names : names_of kept.ends ≡ names_of (map (named_ends h.nodes) (elements h.nodes))
  pub right :
      (place child : ℕ) (e c : Node) → slice_get (elements h.nodes) place ≡ Some e
      → has_implicit_duration e ≡ true → slice_get (time_children h.nodes e.serial) child ≡ Some c → test c.serial
      → slice_get (slice_index_or kept.ends place []) child ≡ Some (child_end h given e c)

-- no element, and all elements
abbrev pub nobody : ℕ → Type 0
nobody serial = ⊥

abbrev pub anyone : ℕ → Type 0
anyone serial = Unit {0}

-- those by another history of the same document and diary
pub stay_known : (h k : History) (given : ℕ → Option Interval) (test : ℕ → Type 0) (kept : KeptEnds)
    → k.nodes ≡ h.nodes → k.diary ≡ h.diary → AreKnown h given test kept
    → AreKnown k given test kept
stay_known h k given test kept nodes diary are =
    subst
    (λ (x : List Node × List Entry).
    AreKnown (record { nodes = x.0; log = k.log; diary = x.1 }) given test kept)
    (λ i. (sym nodes i, sym diary i))
    (record { homes = are.homes; names = are.names; right = are.right })

-- the ends of the time children of one element are right
pub record KnowsEnds
    (rows : List CurrentRow) (kept : KeptEnds) (h : History) (who : ℕ) : Type 0 where
  pub of_elements : AreOfElements h.nodes rows
  pub as_many : length kept.ends ≡ length (elements h.nodes)
  pub ends_are :
      (place : ℕ) (e : Node) → slice_get (elements h.nodes) place ≡ Some e → e.serial ≡ who
      → slice_index_or kept.ends place []
      ≡ map (child_end h (interval_in rows) e) (time_children h.nodes who)

-- and its row has this index
pub record KnowsEndsAt
    (rows : List CurrentRow) (kept : KeptEnds) (h : History) (who index : ℕ) : Type 0 where
  pub known : KnowsEnds rows kept h who
  pub here : position (λ (r : CurrentRow). r.serial == who) rows ≡ Some index

-- the ending of one element was put, by its present interval
pub record IsEnded (h : History) (who : ℕ) (rows : List CurrentRow)
    (before after : KeptEnds) : Type 0 where
  pub place : ℕ
  pub element : Node
  pub here : slice_get (elements h.nodes) place ≡ Some element
  pub is_who : element.serial ≡ who
  pub after_is : after ≡ put_ending before place (ending_by h (interval_in rows who) who)
