use Rattle.smil_model.specs.interval.Current.{current_interval}
use Rattle.smil_model.specs.happening.Keys.{coming}
use Rattle.smil_model.specs.shown.Views.{views}
use Rattle.smil_text_laws.specs.PlainTexts.{history_in}
use Rattle.smil_text_laws.proofs.BareIntervals.{current_same}
use Rattle.smil_text_laws.proofs.BareHappenings.{coming_same}
use Rattle.smil_text_laws.proofs.BareViews.{views_same}
use Rattle.smil_text_laws.proofs.BareSame.{same_of}
use Rattle.smil_text_laws.proofs.laws.moments_are_same.Goals as goal

pub returns : goal.returns
returns c =
    λ old new log diary now differ. record {
      intervals = λ serial. same_of (λ ns. current_interval (history_in ns log diary) now serial) (λ ns. current_same (history_in ns log diary) now serial) old new differ;
      coming = same_of (λ ns. coming (history_in ns log diary) now) (λ ns. coming_same (history_in ns log diary) now) old new differ;
      views = same_of (λ ns. views (history_in ns log diary) now) (λ ns. views_same (history_in ns log diary) now) old new differ;
    }
