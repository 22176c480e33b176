use Rattle.smil_laws.proofs.SettledRounds.{has_rank}
use Rattle.smil_laws.proofs.laws.dependencies_have_rank.Goals as goal

pub returns : goal.returns
returns c = has_rank
