use Rattle.std.proofs.Common.{◌≡◌, sym, subst, ℕ, List, Some}
use Rattle.std.specs.Prelude.{slice_get}
use Rattle.smil_model.specs.shown.Sandwich.{stack_of}
use Rattle.smil_shown.proofs.SetLayers.{stack_known}
use Rattle.smil_live.proofs.tells.put_top.Goals as goal

pub value_of-value-requires : goal.value_of-value-requires
value_of-value-requires c =
    let s = c.requires.setters in
    let P : List ℕ → Type 0 = λ name. slice_get (stack_of s.0 c.args.target name) 0 ≡ Some c.in-Some.setter in
    stack_known c.args.document.tree.now.nodes s.0 c.args.target c.args.name.now 0 c.in-Some.setter s.1.known (subst P c.slice.ensures (sym (c.in-Some.ensures s.0 s.1.are)))

pub name_of-requires-2 : goal.name_of-requires-2
name_of-requires-2 c =
    let s = c.requires.setters in
    let P : List ℕ → Type 0 = λ name. slice_get (stack_of s.0 c.args.target name) 0 ≡ Some c.in-Some.setter in
    stack_known c.args.document.tree.now.nodes s.0 c.args.target c.args.name.now 0 c.in-Some.setter s.1.known (subst P c.slice.ensures (sym (c.in-Some.ensures s.0 s.1.are)))
