use Rattle.std.proofs.Common.{ℕ, List}
use Rattle.smil_nodes.specs.Noted.{AreNoted, is_below_or_reader}
use Rattle.smil_nodes.proofs.RanksListed.{reached_by}
use Rattle.smil_nodes.proofs.concerned.note_below.Given as goal

-- with what is left listed besides, all below the element is
abbrev pub invariant-loop-node : goal.invariant-loop-node
invariant-loop-node l = (new : List ℕ) → AreNoted l.graph.order (reached_by l.graph.nodes l.node-iterator) l.agenda new
    → AreNoted l.graph.order (is_below_or_reader l.graph.nodes l.who) l.initial.agenda new
