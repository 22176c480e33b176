use Rattle.smil_model.specs.happening.Resolution.{after_steps}
use Rattle.smil_laws.specs.Agreement.{course_on}
use Rattle.smil_text_laws.proofs.BareHappenings.{after_steps_same}
use Rattle.smil_text_laws.proofs.BareSame.{same_of}
use Rattle.smil_text_laws.proofs.laws.steps_are_same.Goals as goal

pub returns : goal.returns
returns c = λ old new log last steps from differ. same_of (λ ns. after_steps (course_on ns log last) steps from) (λ ns. after_steps_same (course_on ns log last) steps from) old new differ
