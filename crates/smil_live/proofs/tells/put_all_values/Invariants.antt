use Rattle.std.proofs.Common.{◌≡◌, ℕ, List, ◌++◌}
use Rattle.std.specs.Prelude.{flat_map}
use Rattle.smil_model.specs.declared.view.Layer.{Layer as AnyLayer}
use Rattle.smil_model.specs.shown.Answers.{values_on}
use Rattle.smil_model.specs.document.Words.{Begins}
use Rattle.smil_tree.proofs.NodeWalks.{Walked}
use Rattle.smil_shown.specs.Sets.{AreSetsOf}
use Rattle.smil_live.proofs.tells.put_all_values.Given as goal

abbrev pub invariant-loop-node : goal.invariant-loop-node
invariant-loop-node l = record {
  walk : Walked l.document.tree.now.nodes l.node-iterator;
  text : (all : List (ℕ × AnyLayer)) → AreSetsOf l.document.sets.now all → l.out ≡ l.fn.out ++ flat_map (values_on l.document.tree.now.nodes all) walk.past;
  begins : Begins l.fn.out l.out;
}
