-- What was before the last entry.
use Rattle.std.proofs.Common.{List}
use Rattle.smil_model.specs.declared.diary.Entry.{Entry}
use Rattle.smil_model.specs.declared.diary.LogEntry.{LogEntry}
use Rattle.smil_model.specs.document.Document.{Document}
use Rattle.smil_model.specs.diary.Diary.{History}
use Rattle.smil_stretch.specs.declared.clock.NodeClock.{NodeClock}
use Rattle.smil_stretch.proofs.LawfulDiaries.{lawful_last}
use Rattle.smil_instances.specs.Before.{IsBefore}
use Rattle.smil_instances.specs.Entry.{IsEntryOf}

-- what was before the last entry, by an entry with what was before it
pub before_of : (h : History) (y : Entry) (document : Document) (clocks : List NodeClock) (log : List LogEntry) (diary : List Entry) → IsEntryOf h y document clocks log diary → IsBefore h y diary
before_of h y document clocks log diary of = record { diary_is = of.same_diary; lawful = lawful_last h y of.lawful }
