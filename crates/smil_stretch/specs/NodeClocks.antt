-- What is kept of clocks, and how they turn where a pause begins or ends.
use Rattle.std.specs.Prelude.{◌≡◌, ℕ, ◌<◌, ◌≤◌, ℤ, pos, List, [], ◌∷◌, ◌++◌, length, take, drop, Bool, true, false, ◌||◌, ◌==◌, Option, Some, None, option_and_then, slice_get}
use Rattle.std.specs.List.{All, find}
use Rattle.smil_model.specs.declared.diary.Entry.{Entry}
use Rattle.smil_model.specs.declared.document.Node.{Node}
use Rattle.smil_model.specs.diary.Diary.{History, is_paused}
use Rattle.smil_model.specs.diary.Lawful.{has_element}
use Rattle.smil_model.specs.FirstPlaces.{AreFirstPlaces}
use Rattle.smil_diary.specs.Places.{is_from}
use Rattle.smil_stretch.specs.declared.clock.Clock.{Clock}
use Rattle.smil_stretch.specs.declared.clock.Clock.TheVariants.{Runs, Stands}
use Rattle.smil_stretch.specs.declared.clock.NodeClock.{NodeClock}
use Rattle.smil_stretch.specs.Clocks.{shown, is_standing, clock_by, MayFollow}
use Rattle.smil_tree.specs.Outline.{parent_place}
use Rattle.smil_model.specs.Times.{IsMoment}

-- the number of a clock is a moment
abbrev pub Fits : Clock → Type 0
Fits (Runs lost) = IsMoment lost
Fits (Stands at) = IsMoment at

abbrev pub AllFit : List NodeClock → Type 0
AllFit clocks = All (λ (n : NodeClock). Fits n.clock) clocks

-- the clock of the node with this serial
abbrev pub clock_at : List NodeClock → ℕ → Option NodeClock
clock_at clocks serial = find (λ (n : NodeClock). n.serial == serial) clocks

-- the clock at the place of a time parent
abbrev pub at_place : List NodeClock → Option ℕ → Option NodeClock
at_place clocks place = option_and_then (slice_get clocks) place

-- the clock of the time parent of a node
abbrev pub parent_of : List NodeClock → Option NodeClock → Option NodeClock
parent_of clocks node = option_and_then (λ (n : NodeClock). at_place clocks n.parent) node

-- the clock of the time parent of the node with this serial
abbrev pub parent_at : List NodeClock → ℕ → Option NodeClock
parent_at clocks serial = parent_of clocks (clock_at clocks serial)

-- what such a clock shows, and whether it stands; where there is none it is document time
abbrev pub shown_by : Option NodeClock → ℤ → ℤ
shown_by None moment = moment
shown_by (Some n) moment = shown n.clock moment

abbrev pub stands_by : Option NodeClock → Bool
stands_by None = false
stands_by (Some n) = is_standing n.clock

-- whether its node is itself paused
abbrev pub paused_by : Option NodeClock → Bool
paused_by None = false
paused_by (Some n) = n.paused

-- the clocks after the pause of the element at the first place began or ended:
-- each clock from there on stands where its node is paused or the clock of its time parent stands,
-- and from the first node that isn't below the element all stay
pub record IsTurned (first : ℕ) (moment : ℤ) (before after : List NodeClock) : Type 0 where
  pub same_length : length after ≡ length before
  pub earlier : take first after ≡ take first before
  pub parents : (place : ℕ) (n : NodeClock) (parent : ℕ) → slice_get before place ≡ Some n
      → n.parent ≡ Some parent → parent < place
  pub turned : (place : ℕ) (n : NodeClock) → first ≤ place → slice_get before place ≡ Some n
      → slice_get after place
      ≡ Some (record n {
        clock = clock_by (n.paused
            || stands_by (at_place after n.parent)) (shown n.clock moment) moment;
      })
  pub later : (place : ℕ) (n : NodeClock) → first < place → slice_get before place ≡ Some n
      → is_from first n.parent ≡ false → drop place after ≡ drop place before

-- an entry by which one element is paused or no longer paused, and no other
pub record Turns (h : History) (y : Entry) (serial : ℕ) (paused : Bool) : Type 0 where
  pub known : has_element h.nodes serial ≡ true
  pub own : is_paused (h.diary ++ y ∷ []) serial ≡ paused
  pub others : (s : ℕ) → s == serial ≡ false → is_paused (h.diary ++ y ∷ []) s ≡ is_paused h.diary s

-- the clocks of a history that such an entry may follow at this moment
pub record MayTurn
    (clocks : List NodeClock) (serial : ℕ) (paused : Bool) (moment : ℤ) : Type 0 where
  pub entry : Entry
  pub follows : MayFollow clocks entry
  pub turns : Turns follows.past entry serial paused
  pub at : entry.moment ≡ moment

-- the clock of a node to whose document nothing has happened yet
abbrev pub idle_clock : List Node → Node → NodeClock
idle_clock nodes n = record {
  serial = n.serial;
  parent = parent_place nodes n.serial;
  paused = false;
  clock = Runs (pos 0);
}

-- a clock that runs and lost nothing, of a node that isn't paused
abbrev pub reset_clock : NodeClock → NodeClock
reset_clock n =
    record { serial = n.serial; parent = n.parent; paused = false; clock = Runs (pos 0) }

-- a table from serials to places
abbrev pub ArePlacesOf : (ℕ → Option ℕ) → List NodeClock → Type 0
ArePlacesOf found clocks = AreFirstPlaces (λ (n : NodeClock). n.serial) found clocks
