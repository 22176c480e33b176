use Rattle.smil_laws.proofs.NearDiary.{resolved_near}
use Rattle.smil_laws.proofs.near.resolved_is_near.Goals as goal

pub returns : goal.returns
returns c = resolved_near
