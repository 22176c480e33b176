use Rattle.smil_laws.proofs.FirstKey.{first_key}
use Rattle.smil_laws.proofs.firsts.first_has_least_key.Goals as goal

pub returns : goal.returns
returns c = first_key
