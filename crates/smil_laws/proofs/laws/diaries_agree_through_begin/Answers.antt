use Rattle.smil_laws.proofs.DiaryThroughBegin.{agrees_through_begin}
use Rattle.smil_laws.proofs.laws.diaries_agree_through_begin.Goals as goal

pub returns : goal.returns
returns c = λ aside p old new log last k differ. agrees_through_begin aside p old new differ log last k
