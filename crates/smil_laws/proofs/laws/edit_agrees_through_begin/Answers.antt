use Rattle.smil_laws.proofs.QuietEdits.{edit_agrees}
use Rattle.smil_laws.proofs.laws.edit_agrees_through_begin.Goals as goal

pub returns : goal.returns
returns c = λ document edit parent log last k quiet. edit_agrees document edit parent log last k quiet
