use Rattle.smil_model.specs.interval.Instances.{begin_times, end_times}
use Rattle.smil_model.specs.interval.Current.{interval_given}
use Rattle.smil_text_laws.specs.PlainTexts.{history_in}
use Rattle.smil_text_laws.proofs.BareIntervals.{begin_times_same, end_times_same, given_same}
use Rattle.smil_text_laws.proofs.BareSame.{same_at}
use Rattle.smil_text_laws.proofs.laws.elements_are_timed_same.Goals as goal

pub returns : goal.returns
returns c =
    λ old new log diary intervals now e f differ alike. record {
      begins = same_at (λ ns n. begin_times (history_in ns log diary) intervals now n) (λ ns n. begin_times_same (history_in ns log diary) intervals now n) old new differ e f alike;
      ends = same_at (λ ns n. end_times (history_in ns log diary) intervals now n) (λ ns n. end_times_same (history_in ns log diary) intervals now n) old new differ e f alike;
      interval = same_at (λ ns n. interval_given (history_in ns log diary) intervals now n) (λ ns n. given_same (history_in ns log diary) intervals now n) old new differ e f alike;
    }
