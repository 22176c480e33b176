use Rattle.smil_laws.proofs.ResolutionsAgree.{agrees_until_begun}
use Rattle.smil_laws.proofs.laws.steps_agree_until_begin.Goals as goal

pub returns : goal.returns
returns c = λ aside p old new log last k differ never. agrees_until_begun aside p old new differ log last k never
