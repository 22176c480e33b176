use Rattle.std.proofs.Common.{arith}
use Rattle.std.proofs.lemmas.Int.{ints}
use Rattle.smil_element.proofs.comings.to_document.Goals as goal

pub returns : goal.returns
returns c = omega (arith, ints, c.requires.found.outer_is)
