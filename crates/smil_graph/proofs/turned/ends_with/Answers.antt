use Rattle.std.proofs.Common.{sym}
use Rattle.smil_graph.proofs.RowsTurned.{last_is}
use Rattle.smil_graph.proofs.turned.ends_with.Goals as goal

pub returns-in-Some : goal.returns-in-Some
returns-in-Some c = sym (last_is c.args.places.now c.in-Some.last.now c.args.place (sym c.in-Some.ensures.value))
