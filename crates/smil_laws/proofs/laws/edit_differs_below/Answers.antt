use Rattle.smil_laws.proofs.QuietEdits.{differs}
use Rattle.smil_laws.proofs.laws.edit_differs_below.Goals as goal

pub returns : goal.returns
returns c = λ document edit parent quiet. differs document edit parent quiet
