use Rattle.std.proofs.Common.{◌≡◌, refl, sym, ◌∙◌, ap, subst, ℕ, length, Option, IsSome, arith}
use Rattle.std.specs.Prelude.{◌==◌, unwrap_or}
use Rattle.std.specs.List.{position_or_len}
use Rattle.smil_model.specs.declared.document.Node.{Node as AnyNode}
use Rattle.smil_shown.proofs.LayersApart.{found_below, found_place}
use Rattle.smil_shown.proofs.layers.place_of.Goals as goal

pub unwrap-requires : goal.unwrap-requires
unwrap-requires c =
    let e = c.position.ensures ∙ found_place (λ (n : AnyNode). n.serial == c.args.serial) c.args.tree.now.nodes c.requires in
    let P : Option ℕ → Type 0 = λ o. IsSome o in subst P (sym e) refl

pub overflow_cast-result : goal.overflow_cast-result
overflow_cast-result c =
    let e = sym c.unwrap.ensures ∙ c.position.ensures ∙ found_place (λ (n : AnyNode). n.serial == c.args.serial) c.args.tree.now.nodes c.requires in
    let is : c.unwrap.result ≡ position_or_len (λ (n : AnyNode). n.serial == c.args.serial) c.args.tree.now.nodes = cc in
    let below = found_below (λ (n : AnyNode). n.serial == c.args.serial) c.args.tree.now.nodes c.requires in
    let most = c.valid.ensures.nodes in
    omega arith

pub returns : goal.returns
returns c =
    ap (λ (o : Option ℕ). unwrap_or o (length c.args.tree.now.nodes)) (sym c.unwrap.ensures ∙ c.position.ensures)
