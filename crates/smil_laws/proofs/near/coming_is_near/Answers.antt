use Rattle.smil_laws.proofs.NearComing.{coming_is_near}
use Rattle.smil_laws.proofs.near.coming_is_near.Goals as goal

pub returns : goal.returns
returns c = coming_is_near
