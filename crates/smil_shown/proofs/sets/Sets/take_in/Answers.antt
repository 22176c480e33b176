use Rattle.std.proofs.Common.{◌≡◌, sym, ◌∙◌, ap, subst, ℕ, OnOk, Option, Some}
use Rattle.std.specs.Prelude.{option_and_then}
use Rattle.std.proofs.lemmas.Result.{on_ok_weaker}
use Rattle.smil_model.specs.declared.document.Node.{Node as AnyNode}
use Rattle.smil_model.specs.declared.view.Layer.{Layer as AnyLayer}
use Rattle.smil_model.specs.document.Document.{node_at}
use Rattle.smil_model.specs.shown.Sandwich.{layer_in, layer_of, with_setter}
use Rattle.smil_model.specs.ListTables.{rows}
use Rattle.smil_shown.specs.Sets.{AreSetsOf, LayerTable, and_layer}
use Rattle.smil_tree.proofs.AttributesChanged.{some_node}
use Rattle.smil_shown.proofs.SetLayers.{rows_noted, taken}
use Rattle.smil_sandwich.specs.Stacks.{AreApart}
use Rattle.smil_shown.proofs.sets.Sets.take_in.Goals as goal

pub returns : goal.returns
returns c = λ before are apart.
    let nodes = c.args.tree.now.nodes in
    let view = c.args.view.now in
    let n = some_node (node_at nodes view.serial) c.requires in
    let made : layer_in nodes view ≡ Some (view.serial, c.in-Some.layer) =
    ap (λ (o : Option AnyNode). with_setter view.serial (option_and_then (layer_of nodes view) o)) n.1
    ∙ ap (with_setter view.serial) (sym (c.in_ok-layer.ensures n.0 n.1) ∙ c.in-Some.is) in
    let new : LayerTable = record { layers = c.apply.new.self; names = rows c.note.new.table.entries } in
    let here = subst (λ sets. AreSetsOf sets before) (sym c.self.view_is) are in
    let P : Option (ℕ × AnyLayer) → Type 0 = λ o. AreApart (and_layer before o) → OnOk c.apply.result (AreSetsOf new (and_layer before o)) in
    subst P (sym made)
    (λ differs. on_ok_weaker c.apply.result (λ kept. taken (record { layers = c.self.inside.sandwich; names = rows c.self.inside.names.entries }) new before (view.serial, c.in-Some.layer) here differs kept (rows_noted c.self.inside.names.entries c.note.new.table.entries c.in-Some.layer.target c.in-Some.layer.attr c.in_ok-note.ensures)) c.apply.ensures.ok) apart
