-- What is known of an entry by the history before it: its moment, and the clocks.
use Rattle.std.proofs.Common.{List}
use Rattle.std.specs.Prelude.{pos}
use Rattle.smil_model.specs.Times.{IsMoment}
use Rattle.smil_model.specs.declared.diary.Entry.{Entry}
use Rattle.smil_model.specs.declared.diary.LogEntry.{LogEntry}
use Rattle.smil_model.specs.document.Document.{Document}
use Rattle.smil_model.specs.diary.Diary.{History, last_moment}
use Rattle.smil_model.proofs.NumberOrders.{le_from}
use Rattle.smil_stretch.specs.declared.clock.NodeClock.{NodeClock}
use Rattle.smil_stretch.proofs.ClockAtMoment.{rising_push}
use Rattle.smil_stretch.proofs.PauseTurns.{entry_moment}
use Rattle.smil_instances.specs.Contribution.{AreClocksAt}
use Rattle.smil_past.specs.Followed.{IsEntryAfter}

module _ (h : History) (y : Entry) (document : Document) (clocks : List NodeClock) (log : List LogEntry) (is : IsEntryAfter h y document clocks log) where
  pub clocks_at : AreClocksAt h clocks y.moment
  clocks_at = record { known = is.known; after = le_from (last_moment h.diary) y.moment (rising_push (pos 0) h.diary y is.lawful.moments).1 }

  pub moment_at : IsMoment y.moment
  moment_at = entry_moment h y is.lawful
