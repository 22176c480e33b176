-- The last entry of a diary, with what was before it.
use Rattle.std.specs.Prelude.{◌≡◌, List, [], ◌∷◌, ◌++◌}
use Rattle.smil_model.specs.declared.diary.Entry.{Entry}
use Rattle.smil_model.specs.declared.diary.LogEntry.{LogEntry}
use Rattle.smil_model.specs.document.Document.{Document}
use Rattle.smil_model.specs.diary.Diary.{History, with_entry}
use Rattle.smil_model.specs.diary.Lawful.{IsLawful}
use Rattle.smil_stretch.specs.declared.clock.NodeClock.{NodeClock}
use Rattle.smil_stretch.specs.Clocks.{AreClocksOf}
use Rattle.smil_instances.specs.declared.arrival.Arrival.{Arrival}
use Rattle.smil_instances.specs.Dependents.{AreDependentsOf}

-- the history before an entry, by what a call is given after the entry was appended: the document,
-- the clocks before the entry, the log, and the diary with it
pub record IsEntryOf (h : History) (y : Entry) (document : Document) (clocks : List NodeClock)
    (log : List LogEntry) (diary : List Entry) : Type 0 where
  pub same_nodes : h.nodes ≡ document.nodes
  pub same_log : h.log ≡ log
  pub same_diary : diary ≡ h.diary ++ y ∷ []
  pub lawful : IsLawful (with_entry h y)
  pub known : AreClocksOf clocks h

-- there are such a history and entry
pub record IsAtHand (document : Document) (clocks : List NodeClock) (log : List LogEntry)
    (diary : List Entry) : Type 0 where
  pub past : History
  pub entry : Entry
  pub is_entry : IsEntryOf past entry document clocks log diary

-- the arrival is that of this entry, with what was before it
abbrev pub IsArrivalOf : History → Entry → Arrival → Type 0
IsArrivalOf h y arrival =
    IsEntryOf h y arrival.history.tree.now arrival.clocks.now
    arrival.history.log.now arrival.history.book.now

-- it is that of some entry
abbrev pub HasArrived : Arrival → Type 0
HasArrived arrival =
    IsAtHand arrival.history.tree.now arrival.clocks.now
    arrival.history.log.now arrival.history.book.now

-- it has what the items of its document follow from, and which of them an entry concerns
abbrev pub HasDependents : Arrival → Type 0
HasDependents arrival = AreDependentsOf arrival.history.tree.now.nodes arrival.dependents.now
