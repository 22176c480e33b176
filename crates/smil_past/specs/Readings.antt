-- The readings of a document, its log and its diary.
use Rattle.std.specs.Prelude.{◌≡◌, ◌<◌, List, length, [], ◌∷◌, ◌++◌}
use Rattle.smil_model.specs.declared.limits.TheConstants.{DIARY_ENTRIES}
use Rattle.smil_model.specs.declared.diary.Entry.{Entry}
use Rattle.smil_model.specs.declared.diary.LogEntry.{LogEntry}
use Rattle.smil_model.specs.document.Document.{Document}
use Rattle.smil_model.specs.diary.Diary.{History, with_entry}
use Rattle.smil_model.specs.diary.Lawful.{IsLawful}
use Rattle.smil_laws.specs.Near.{HasNear}
use Rattle.smil_stretch.specs.Clocks.{AreClocksOf}
use Rattle.smil_past.specs.Played.{all_played}
use Rattle.smil_past.specs.Queues.{kept_queues}
use Rattle.smil_instance_rows.specs.Notes.{MarkedRows, rows_back}
use Rattle.smil_instances.specs.Instances.{IsSettled}
use Rattle.smil_instances.specs.SettledTimes.{settled_rows}
use Rattle.smil_instances.specs.Dependents.{AreDependentsOf}
use Rattle.smil_instances.specs.Intake.{history_of}
use Rattle.smil_past.specs.declared.readings.Readings.{Readings}
use Rattle.smil_past.specs.Past.{IsPossible}

-- these are the clocks, the plays, the queues and the instance times of a document after the
-- entries of a diary
pub record AreReadingsOf (readings : Readings) (document : Document) (log : List LogEntry)
    (diary : List Entry) : Type 0 where
  pub clocks_are : AreClocksOf readings.clocks (history_of document log diary)
  pub plays_are : readings.plays ≡ all_played (history_of document log diary)
  pub queues_are : readings.queues ≡ kept_queues (history_of document log diary)
  pub instances_are : IsSettled readings.instances document log diary

-- the clocks, the plays and the queues are those of a history
pub record FollowsAll (readings : Readings) (h : History) : Type 0 where
  pub clocks_are : AreClocksOf readings.clocks h
  pub plays_are : readings.plays ≡ all_played h
  pub queues_are : readings.queues ≡ kept_queues h

-- they are those of a history of this document and this log, which the entry may follow
pub record MayBeFollowed (readings : Readings) (y : Entry) (document : Document)
    (log : List LogEntry) (h : History) : Type 0 where
  pub same_nodes : h.nodes ≡ document.nodes
  pub same_log : h.log ≡ log
  pub follows : FollowsAll readings h
  pub lawful : IsLawful (with_entry h y)
  pub few : length h.diary < DIARY_ENTRIES

-- these are readings of some history of a document, and by the notes the instance times go back to
-- those of a possible diary and log
pub record MayGoBack (readings : Readings) (noted : MarkedRows) (document : Document)
    (log : List LogEntry) (diary : List Entry) : Type 0 where
  pub past : History
  pub same_nodes : past.nodes ≡ document.nodes
  pub follows : FollowsAll readings past
  pub dependents : AreDependentsOf document.nodes readings.instances.dependents
  pub rows : rows_back readings.instances.rows noted ≡ settled_rows (history_of document log diary)
  pub possible : IsPossible document log diary

-- the entry is the last one of the diary, and these are the readings before it
pub record IsLast (readings : Readings) (y : Entry) (document : Document) (log : List LogEntry)
    (diary : List Entry) : Type 0 where
  pub before : List Entry
  pub diary_is : diary ≡ before ++ y ∷ []
  pub readings_are : AreReadingsOf readings document log before
  pub lawful : IsLawful (with_entry (history_of document log before) y)
  pub near : HasNear y.step

-- what has happened is possible, and these are its readings
pub record Holds (document : Document) (log : List LogEntry) (diary : List Entry)
    (readings : Readings) : Type 0 where
  pub possible : IsPossible document log diary
  pub readings_are : AreReadingsOf readings document log diary
