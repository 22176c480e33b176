use Rattle.smil_model.specs.diary.Diary.{deferral, is_alive, iteration}
use Rattle.smil_model.specs.diary.Clocks.{outer, run}
use Rattle.smil_model.specs.diary.Plays.{plays}
use Rattle.smil_model.specs.happening.Queue.{queue_of}
use Rattle.smil_text_laws.specs.PlainTexts.{history_in}
use Rattle.smil_text_laws.proofs.BareHistories.{alive_same, deferral_same, plays_same, iteration_same, run_same, outer_same}
use Rattle.smil_text_laws.proofs.BareHappenings.{queue_same}
use Rattle.smil_text_laws.proofs.BareSame.{same_of}
use Rattle.smil_text_laws.proofs.laws.readings_are_same.Goals as goal

pub returns : goal.returns
returns c =
    λ old new log diary s differ. record {
      alive = same_of (λ ns. is_alive (history_in ns log diary) s) (λ ns. alive_same (history_in ns log diary) s) old new differ;
      deferral = same_of (λ ns. deferral (history_in ns log diary) s) (λ ns. deferral_same (history_in ns log diary) s) old new differ;
      plays = same_of (λ ns. plays (history_in ns log diary) s) (λ ns. plays_same (history_in ns log diary) s) old new differ;
      iteration = same_of (λ ns. iteration (history_in ns log diary) s) (λ ns. iteration_same (history_in ns log diary) s) old new differ;
      clock = λ moment. same_of (λ ns. run (history_in ns log diary) s moment) (λ ns. run_same (history_in ns log diary) s moment) old new differ;
      outer = λ moment. same_of (λ ns. outer (history_in ns log diary) s moment) (λ ns. outer_same (history_in ns log diary) s moment) old new differ;
      queue = same_of (λ ns. queue_of (history_in ns log diary) s) (λ ns. queue_same (history_in ns log diary) s) old new differ;
    }
