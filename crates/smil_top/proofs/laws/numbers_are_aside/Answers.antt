use Rattle.smil_top.proofs.LineNumbers.{are_aside}
use Rattle.smil_top.proofs.laws.numbers_are_aside.Goals as goal

pub returns : goal.returns
returns c = λ allowed given tried. are_aside allowed given tried
