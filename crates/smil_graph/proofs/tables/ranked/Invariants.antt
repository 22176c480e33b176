use Rattle.smil_graph.specs.Tables.{AreRanked}
use Rattle.smil_graph.proofs.tables.ranked.Given as goal

abbrev pub invariant-loop-serial : goal.invariant-loop-serial
invariant-loop-serial l = AreRanked l.tree.nodes l.order l.rows l.serial-index l.lists
