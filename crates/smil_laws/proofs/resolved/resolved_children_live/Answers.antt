use Rattle.smil_laws.proofs.ResolvedSteps.{resolved_live}
use Rattle.smil_laws.proofs.resolved.resolved_children_live.Goals as goal

pub returns : goal.returns
returns c = λ document log last steps serial numbered active. resolved_live document log last steps serial numbered active
