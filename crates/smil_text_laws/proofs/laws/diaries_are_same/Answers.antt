use Rattle.smil_model.specs.happening.Resolution.{diary_within}
use Rattle.smil_laws.specs.Agreement.{course_on}
use Rattle.smil_text_laws.proofs.BareHappenings.{diary_same}
use Rattle.smil_text_laws.proofs.BareSame.{same_of}
use Rattle.smil_text_laws.proofs.laws.diaries_are_same.Goals as goal

pub returns : goal.returns
returns c = λ old new log last entries differ. same_of (λ ns. diary_within entries (course_on ns log last)) (λ ns. diary_same (course_on ns log last) entries) old new differ
