use Rattle.smil_laws.proofs.ResolvedSteps.{resolved_lawful}
use Rattle.smil_laws.proofs.resolved.resolved_diaries_are_lawful.Goals as goal

pub returns : goal.returns
returns c = λ document log last steps numbered near. resolved_lawful document log last steps numbered near
