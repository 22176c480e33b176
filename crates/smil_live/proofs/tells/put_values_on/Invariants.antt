use Rattle.std.proofs.Common.{◌≡◌, ℕ, List, ◌++◌, take}
use Rattle.std.specs.Prelude.{flat_map}
use Rattle.smil_model.specs.declared.view.Layer.{Layer as AnyLayer}
use Rattle.smil_model.specs.shown.Answers.{top_text}
use Rattle.smil_model.specs.shown.Sandwich.{names_on, stack_of}
use Rattle.smil_model.specs.document.Words.{Begins}
use Rattle.smil_shown.specs.Sets.{AreSetsOf}
use Rattle.smil_live.proofs.tells.put_values_on.Given as goal

abbrev pub invariant-loop-name : goal.invariant-loop-name
invariant-loop-name l = record {
  text : (all : List (ℕ × AnyLayer)) → AreSetsOf l.document.sets.now all → l.out ≡ l.fn.out ++ flat_map (λ name. top_text l.document.tree.now.nodes l.target name (stack_of all l.target name)) (take l.name-index (names_on all l.target));
  begins : Begins l.fn.out l.out;
}
