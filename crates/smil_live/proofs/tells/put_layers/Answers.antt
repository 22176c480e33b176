use Rattle.std.proofs.Common.{◌≡◌, sym, subst, ℕ, ◌<◌, List, Some, None, arith}
use Rattle.std.specs.Prelude.{slice_get}
use Rattle.std.proofs.lemmas.Option.{slice_get_within}
use Rattle.smil_model.specs.declared.limits.TheConstants.{NODES}
use Rattle.smil_model.specs.shown.Sandwich.{stack_of}
use Rattle.smil_model.proofs.GrowingTexts.{begins_by}
use Rattle.smil_cells.proofs.LastEntryApart.{no_gap}
use Rattle.smil_live.specs.Telling.{setter_text}
use Rattle.smil_shown.proofs.SetLayers.{stack_few, stack_known}
use Rattle.smil_shown.proofs.LineTexts.{begins_more, lines_all, lines_next}
use Rattle.smil_live.proofs.tells.put_layers.Goals as goal
use Rattle.smil_live.proofs.tells.put_layers.Goals.{In-Some}

pub put_setter-requires : goal.put_setter-requires
put_setter-requires c =
    let s = c.requires.setters in
    let P : List ℕ → Type 0 = λ name. slice_get (stack_of s.0 c.args.target name) c.loop-setter.k ≡ Some c.in-Some.setter in
    stack_known c.args.document.tree.now.nodes s.0 c.args.target c.args.attr.now c.loop-setter.k c.in-Some.setter s.1.known (subst P c.slice.ensures (sym (c.in-Some.ensures s.0 s.1.are)))

-- a stack is no longer than the document
below : (c : In-Some) → c.loop-setter.k < NODES
below c =
    let s = c.requires.setters in
    let within = slice_get_within (stack_of s.0 c.args.target c.slice.result.now) c.loop-setter.k c.in-Some.setter (sym (c.in-Some.ensures s.0 s.1.are)) in
    let few = stack_few s.0 c.args.target c.slice.result.now in
    let among = s.1.few in
    let most = c.valid.ensures.nodes in
    omega arith

pub overflow_add-k : goal.overflow_add-k
overflow_add-k c = omega (arith, below (goal.at.overflow_add-k c).In-Some)

pub loop-setter-smaller : goal.loop-setter-smaller
loop-setter-smaller c = omega (arith, below (goal.at.loop-setter-smaller c).In-Some)

pub loop-setter-preserved : goal.loop-setter-preserved
loop-setter-preserved c = record {
  text = λ all are.
      let P : List ℕ → Type 0 = λ name. slice_get (stack_of all c.args.target name) c.loop-setter.k ≡ Some c.in-Some.setter in
      lines_next (setter_text c.args.document.tree.now.nodes) (stack_of all c.args.target c.args.attr.now) c.args.out.now c.loop-setter.k c.in-Some.setter c.loop-setter.out c.put_setter.new.out
      (subst P c.slice.ensures (sym (c.in-Some.ensures all are))) (c.loop-setter.invariant.text all are) c.in_ok-put_setter.ensures.ok;
  begins = begins_by c.args.out.now c.loop-setter.out c.put_setter.new.out c.loop-setter.invariant.begins (begins_more c.loop-setter.out c.put_setter.new.out _ c.in_ok-put_setter.ensures.ok);
}

pub returns-clause-told : goal.returns-clause-told
returns-clause-told c = λ all are.
    let P : List ℕ → Type 0 = λ name. None ≡ slice_get (stack_of all c.args.target name) c.loop-setter.k in
    lines_all (setter_text c.args.document.tree.now.nodes) (stack_of all c.args.target c.args.attr.now) c.args.out.now c.loop-setter.k c.loop-setter.out
    (no_gap (stack_of all c.args.target c.args.attr.now) c.loop-setter.k (subst P c.slice.ensures (c.in_default.ensures all are)))
    (c.loop-setter.invariant.text all are)
