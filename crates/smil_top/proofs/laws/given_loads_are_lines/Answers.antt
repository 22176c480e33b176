use Rattle.smil_top.proofs.LoadsCut.{load-cut}
use Rattle.smil_top.proofs.laws.given_loads_are_lines.Goals as goal

pub returns : goal.returns
returns c = λ cut head outline out short opens are. load-cut cut head outline out short opens are
