use Rattle.smil_graph.proofs.SearchInvariant.{IsSearch}
use Rattle.smil_graph.proofs.search.search.Given as goal

abbrev pub invariant-loop-next : goal.invariant-loop-next
invariant-loop-next l = IsSearch l.rows l.starts l.found.keys l.next
