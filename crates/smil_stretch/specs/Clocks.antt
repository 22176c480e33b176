-- The clocks of a document after what has happened so far: one for each node,
-- which runs or stands since the last entry.
use Rattle.std.specs.Prelude.{◌≡◌, ℕ, ℤ, ◌-ℤ◌, List, map, Bool, true, false, ◌&&◌, ◌==◌}
use Rattle.smil_model.specs.declared.diary.Entry.{Entry}
use Rattle.smil_model.specs.declared.diary.Step.{Step}
use Rattle.smil_model.specs.declared.diary.Step.TheVariants.{Resumed, Ended, Cut}
use Rattle.smil_model.specs.declared.document.Node.{Node}
use Rattle.smil_model.specs.document.Document.{Document, is_element}
use Rattle.smil_model.specs.document.Valid.{IsNumberedTree}
use Rattle.smil_model.specs.diary.Diary.{History, is_paused, with_entry, last_moment}
use Rattle.smil_model.specs.diary.Lawful.{IsLawful}
use Rattle.smil_model.specs.diary.Clocks.{run, stands}
use Rattle.smil_tree.specs.Outline.{parent_place}
use Rattle.smil_stretch.specs.declared.clock.Clock.{Clock}
use Rattle.smil_stretch.specs.declared.clock.Clock.TheVariants.{Runs, Stands}
use Rattle.smil_stretch.specs.declared.clock.NodeClock.{NodeClock}

-- what a clock shows at a moment
abbrev pub shown : Clock → ℤ → ℤ
shown (Runs lost) moment = moment -ℤ lost
shown (Stands at) moment = at

-- whether a clock stands
abbrev pub is_standing : Clock → Bool
is_standing (Runs lost) = false
is_standing (Stands at) = true

-- the clock that shows a time at a moment, and stands or runs from then on
abbrev pub clock_by : Bool → ℤ → ℤ → Clock
clock_by true time moment = Stands time
clock_by false time moment = Runs (moment -ℤ time)

-- the clock of an element since the last entry
abbrev pub clock_of : History → ℕ → Clock
clock_of h serial =
    clock_by (stands h serial) (run h serial (last_moment h.diary)) (last_moment h.diary)

-- the clock of a node, which for a priorityClass is that of its excl
abbrev pub node_clock : History → Node → NodeClock
node_clock h n = record {
  serial = n.serial;
  parent = parent_place h.nodes n.serial;
  paused = is_element n && is_paused h.diary n.serial;
  clock = clock_of h n.serial;
}

-- the clocks of all nodes, in document order
abbrev pub clocks_of : History → List NodeClock
clocks_of h = map (node_clock h) h.nodes

-- a history of this document with this diary, which is lawful for it
pub record IsHistoryOf (h : History) (document : Document) (diary : List Entry) : Type 0 where
  pub same_nodes : h.nodes ≡ document.nodes
  pub same_diary : h.diary ≡ diary
  pub lawful : IsLawful h

pub record IsLawfulFor (document : Document) (diary : List Entry) : Type 0 where
  pub past : History
  pub history : IsHistoryOf past document diary

-- these are the clocks of a history whose document is one tree in order and whose diary is lawful
-- for it
pub record AreClocksOf (clocks : List NodeClock) (h : History) : Type 0 where
  pub next : ℕ
  pub document : IsNumberedTree (record { nodes = h.nodes; next = next })
  pub lawful : IsLawful h
  pub value : clocks ≡ clocks_of h

-- the clocks of a history that this entry may follow
pub record MayFollow (clocks : List NodeClock) (entry : Entry) : Type 0 where
  pub past : History
  pub known : AreClocksOf clocks past
  pub lawful : IsLawful (with_entry past entry)

-- a resume, an end or a cut of the element, by which it is no longer paused
abbrev pub ends_pause : ℕ → Step → Bool
ends_pause serial (Resumed who) = who == serial
ends_pause serial (Ended who end') = who == serial
ends_pause serial (Cut who) = who == serial
ends_pause serial _ = false

-- the clocks of a history in which the element's pause may end at this moment
pub record MayEndPause (clocks : List NodeClock) (serial : ℕ) (moment : ℤ) : Type 0 where
  pub step : Step
  pub ends : ends_pause serial step ≡ true
  pub follows : MayFollow clocks (record { moment = moment; step = step })
