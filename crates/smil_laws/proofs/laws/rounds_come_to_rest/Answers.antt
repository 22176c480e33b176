use Rattle.smil_laws.proofs.SettledRounds.{come_to_rest}
use Rattle.smil_laws.proofs.laws.rounds_come_to_rest.Goals as goal

pub returns : goal.returns
returns c = come_to_rest
