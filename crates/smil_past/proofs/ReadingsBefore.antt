-- What readings before an entry give for it.
use Rattle.std.proofs.Common.{List, Bool}
use Rattle.smil_model.specs.declared.diary.Entry.{Entry}
use Rattle.smil_model.specs.declared.diary.LogEntry.{LogEntry}
use Rattle.smil_model.specs.document.Document.{Document}
use Rattle.smil_model.specs.diary.Diary.{History}
use Rattle.smil_past.specs.declared.readings.Readings.{Readings}
use Rattle.smil_past.specs.Followed.{IsEntryAfter}
use Rattle.smil_past.specs.Queues.{IsPastOf, MayStand}
use Rattle.smil_past.specs.Readings.{MayBeFollowed}

module _ (readings : Readings) (y : Entry) (document : Document) (log : List LogEntry) (h : History) (may : MayBeFollowed readings y document log h) where
  pub before_of : IsEntryAfter h y document readings.clocks log
  before_of = record {
    same_nodes = may.same_nodes;
    same_log = may.same_log;
    known = may.follows.clocks_are;
    lawful = may.lawful;
    few = may.few;
  }

  pub past_of : (waits : Bool) → MayStand h y.step waits → IsPastOf readings.queues document y waits h
  past_of waits stands = record {
    known = record { nodes = may.same_nodes; value = may.follows.queues_are };
    lawful = may.lawful;
    stands = stands;
  }
