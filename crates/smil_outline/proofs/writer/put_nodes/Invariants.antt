use Rattle.std.proofs.Common.{◌≡◌, ◌++◌, take, drop, reverse}
use Rattle.smil_model.specs.document.Words.{Begins}
use Rattle.smil_outline.specs.Written.{nodes_text}
use Rattle.smil_outline.specs.Open.{upwards}
use Rattle.smil_outline.proofs.DepthWalk.{IsWalkedTo, text_behind}
use Rattle.smil_outline.proofs.writer.put_nodes.Given as goal

abbrev pub invariant-loop-node : goal.invariant-loop-node
invariant-loop-node l = record {
  walked : IsWalkedTo l.doc.nodes l.node-index (upwards l.branch);
  text : l.out ++ text_behind l.saved (reverse (take l.node-index l.doc.nodes)) (drop l.node-index l.doc.nodes) ≡ l.fn.out ++ nodes_text l.saved l.doc.nodes;
  begins : Begins l.fn.out l.out;
}
