use Rattle.smil_laws.proofs.SettledRounds.{agreeing_all}
use Rattle.smil_laws.proofs.laws.agreeing_is_current.Goals as goal

pub returns : goal.returns
returns c = agreeing_all
