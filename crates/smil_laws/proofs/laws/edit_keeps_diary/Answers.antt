use Rattle.smil_laws.proofs.QuietEdits.{edit_keeps}
use Rattle.smil_laws.proofs.laws.edit_keeps_diary.Goals as goal

pub returns : goal.returns
returns c = λ document edit parent log last quiet never. edit_keeps document edit parent log last quiet never
