use Rattle.std.proofs.Common.{◌≡◌, ◌++◌}
use Rattle.smil_report.specs.Tellings.{Begins}
use Rattle.smil_tree.proofs.NodeWalks.{Walked}
use Rattle.smil_shown.specs.Told.{told_gone}
use Rattle.smil_shown.proofs.lines.put_all_gone.Given as goal

abbrev pub invariant-loop-node : goal.invariant-loop-node
invariant-loop-node g l = record {
  walk : Walked l.scene.tree.now.nodes l.node-iterator;
  told : l.out ≡ l.fn.out ++ told_gone g.I.ChangeItem.telling l.after.nodes l.scene.moment walk.past;
  begins : Begins l.fn.out l.out;
}
