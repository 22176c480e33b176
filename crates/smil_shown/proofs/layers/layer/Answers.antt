use Rattle.std.proofs.Common.{◌≡◌, IfOk, Option, true, ℕ, ap, sym, ◌∙◌, subst}
use Rattle.std.specs.Prelude.{is_some, not, option_map, ℤ}
use Rattle.smil_model.specs.declared.document.Node.{Node as AnyNode}
use Rattle.smil_model.specs.declared.view.Layer.{Layer as AnyLayer}
use Rattle.smil_model.specs.document.Document.{is_set_kind}
use Rattle.smil_model.specs.document.Edits.{place_in}
use Rattle.smil_model.specs.document.Valid.{kind_of}
use Rattle.smil_model.specs.shown.Sandwich.{layer_by, target_by}
use Rattle.smil_shown.proofs.LayersApart.{layer_made}
use Rattle.smil_shown.proofs.layers.layer.Goals as goal

pub returns : goal.returns
returns c = λ n here.
    let nodes = c.args.tree.now.nodes in
    let view = c.args.view.now in
    let kind : c.kind.result ≡ n.kind = let there = c.kind.ensures ∙ ap kind_of here in cc in
    let set : is_set_kind n.kind ≡ true = ap is_set_kind (sym kind) ∙ sym c.is_set.ensures ∙ c.if-not-is_set.false in
    let plays = sym c.contributes.ensures ∙ c.if-not-contributes.false in
    let to : is_some c.attrs-attrs.result.now.texts.to ≡ true = c.is_none.ensures ∙ ap not c.if-is_none.false in
    let attrs : c.attrs-attrs.result.now ≡ n.attrs = let there = c.attrs-attrs.ensures ∙ ap (option_map (λ (m : AnyNode). m.attrs)) here in cc in
    let made = layer_made nodes view n c.attrs-attrs.result.now here attrs set plays to in
    let P : Option AnyLayer → Type 0 = λ x. IfOk c.layer_at.result (λ layer. layer ≡ x) in
    let at = c.layer_at.ensures (target_by nodes view.serial c.attrs-attrs.result.now.texts.target_element) c.in_ok-target.ensures in
    let named = c.attrs-attrs.result.now.texts.attribute_name in
    let target = target_by nodes view.serial c.attrs-attrs.result.now.texts.target_element in
    subst P
    (ap (λ (p : ℕ). layer_by p target named c.begin_of.result) c.place_of-place.ensures
    ∙ ap (λ (b : Option ℤ). layer_by (place_in nodes view.serial) target named b) c.begin_of.ensures
    ∙ made)
    at
