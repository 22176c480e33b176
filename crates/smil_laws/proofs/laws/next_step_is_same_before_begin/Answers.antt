use Rattle.smil_laws.proofs.SparedSteps.{steps_agree}
use Rattle.smil_laws.proofs.laws.next_step_is_same_before_begin.Goals as goal

pub returns : goal.returns
returns c = λ aside p old new log last at differ lawful never. steps_agree aside p old new log last at differ lawful never
