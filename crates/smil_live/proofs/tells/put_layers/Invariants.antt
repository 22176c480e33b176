use Rattle.std.proofs.Common.{◌≡◌, ℕ, ◌-◌, List, ◌++◌, take}
use Rattle.std.specs.Prelude.{flat_map}
use Rattle.smil_model.specs.declared.limits.TheConstants.{NODES}
use Rattle.smil_model.specs.declared.view.Layer.{Layer as AnyLayer}
use Rattle.smil_model.specs.shown.Sandwich.{stack_of}
use Rattle.smil_model.specs.document.Words.{Begins}
use Rattle.smil_shown.specs.Sets.{AreSetsOf}
use Rattle.smil_live.specs.Telling.{setter_text}
use Rattle.smil_live.proofs.tells.put_layers.Given as goal

abbrev pub invariant-loop-setter : goal.invariant-loop-setter
invariant-loop-setter l = record {
  text : (all : List (ℕ × AnyLayer)) → AreSetsOf l.document.sets.now all → l.out ≡ l.fn.out ++ flat_map (setter_text l.document.tree.now.nodes) (take l.k (stack_of all l.target l.attr));
  begins : Begins l.fn.out l.out;
}

abbrev pub decreases-loop-setter : goal.decreases-loop-setter
decreases-loop-setter l = NODES - l.k
