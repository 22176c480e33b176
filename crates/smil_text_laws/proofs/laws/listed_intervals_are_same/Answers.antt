use Rattle.smil_model.specs.shown.Histories.{intervals_of}
use Rattle.smil_text_laws.specs.PlainTexts.{history_in}
use Rattle.smil_text_laws.proofs.BareViews.{listed_same}
use Rattle.smil_text_laws.proofs.BareSame.{same_at}
use Rattle.smil_text_laws.proofs.laws.listed_intervals_are_same.Goals as goal

pub returns : goal.returns
returns c = λ old new log diary now e f differ alike. same_at (λ ns n. intervals_of (history_in ns log diary) now n) (λ ns n. listed_same (history_in ns log diary) now n) old new differ e f alike
