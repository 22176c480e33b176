use Rattle.std.proofs.Common.{◌≡◌, sym, ap, ◌∙◌, ◌++◌, [], ◌∷◌, map, take, length, List, Some, arith}
use Rattle.std.specs.Prelude.{slice_get}
use Rattle.std.proofs.lemmas.List.{take_all}
use Rattle.std.proofs.lemmas.Option.{slice_get-get_or}
use Rattle.smil_model.specs.declared.document.Item.{Item}
use Rattle.smil_instances.specs.Sources.{source_of}
use Rattle.smil_instances.proofs.ListsMade.{map_next}
use Rattle.smil_instances.proofs.sources.sources_of.Goals as goal

pub loop-item-preserved : goal.loop-item-preserved
loop-item-preserved c =
    let f = source_of c.args.element.now.tree.now.nodes c.args.element.now.who in
    let items = c.args.items.now in
    let i = c.loop-item.item-index in
    let item = c.item-item.result in
    let there : slice_get items i ≡ Some item =
    ap (λ (xs : List Item). slice_get xs i) (sym c.slice-item-items.ensures) ∙ slice_get-get_or c.slice-item-items.result.now i item c.loop-item-test.true ∙ ap Some (sym c.item-item.is) in
    c.in_ok-push.ensures.ok ∙ ap (λ xs. xs ++ c.in_ok-source_of.field-0 ∷ []) c.loop-item.invariant
    ∙ ap (λ s. map f (take i items) ++ s ∷ []) c.in_ok-source_of.ensures
    ∙ sym (map_next f items i item there)

pub returns : goal.returns
returns c =
    let f = source_of c.args.element.now.tree.now.nodes c.args.element.now.who in
    let same = ap (λ (xs : List Item). length xs) c.slice-item-items.ensures in
    c.loop-item.invariant ∙ ap (map f) (take_all c.loop-item.item-index c.args.items.now (omega (arith, same, c.loop-item-test.false)))
