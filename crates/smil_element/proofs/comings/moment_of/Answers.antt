use Rattle.std.proofs.Common.{arith}
use Rattle.std.proofs.lemmas.Int.{ints}
use Rattle.smil_element.proofs.comings.moment_of.Goals as goal

pub returns : goal.returns
returns c = omega (arith, ints, c.requires.found.own_is)
