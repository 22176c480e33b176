use Rattle.smil_laws.proofs.DiaryThroughBegin.{same_unless_begun}
use Rattle.smil_laws.proofs.laws.diaries_are_same_without_begin.Goals as goal

pub returns : goal.returns
returns c = λ aside p old new log last differ never. same_unless_begun aside p old new differ log last never
