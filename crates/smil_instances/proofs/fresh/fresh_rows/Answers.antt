use Rattle.std.proofs.Common.{sym, ap, ◌∙◌, ◌++◌, [], ◌∷◌, None, map, take}
use Rattle.std.specs.Prelude.{is_some, option_map}
use Rattle.smil_model.specs.declared.document.Node.{Node}
use Rattle.smil_model.specs.document.Document.{elements, previous_child, time_parent, serial_of}
use Rattle.smil_instances.specs.Spread.{fresh_row}
use Rattle.smil_instances.proofs.EmptyRows.{at_place, element_at, mapped_at, same_some}
use Rattle.smil_instances.proofs.ListsMade.{map_next}
use Rattle.smil_instances.proofs.fresh.fresh_rows.Goals as goal

pub fresh_row-requires-clause-known : goal.fresh_row-requires-clause-known
fresh_row-requires-clause-known c =
    let here = at_place (elements c.args.tree.now.nodes) c.args.whos.now c.loop-place.place c.requires.whos c.loop-place-test.true in
    ap is_some (element_at c.args.tree.now c.valid.ensures.numbered c.loop-place.place _ here)

pub fresh_row-requires-clause-before : goal.fresh_row-requires-clause-before
fresh_row-requires-clause-before c =
    let here = at_place (elements c.args.tree.now.nodes) c.args.whos.now c.loop-place.place c.requires.whos c.loop-place-test.true in
    mapped_at (λ (n : Node). serial_of (previous_child c.args.tree.now.nodes (time_parent c.args.tree.now.nodes n.serial) n.serial)) (elements c.args.tree.now.nodes) c.args.befores.now c.loop-place.place here.node None c.requires.befores here.at
    ∙ ap (λ s. serial_of (previous_child c.args.tree.now.nodes (time_parent c.args.tree.now.nodes s) s)) (sym here.serial)

pub loop-place-preserved : goal.loop-place-preserved
loop-place-preserved c =
    let nodes = c.args.tree.now.nodes in
    let here = at_place (elements nodes) c.args.whos.now c.loop-place.place c.requires.whos c.loop-place-test.true in
    c.in_ok-push.ensures.items ∙ ap (λ xs. xs ++ c.in_ok-fresh_row.field-0 ∷ []) c.loop-place.invariant
    ∙ ap (λ r. map (fresh_row nodes) (take c.loop-place.place (elements nodes)) ++ r ∷ [])
    (same_some c.in_ok-fresh_row.field-0 (fresh_row nodes here.node) (c.in_ok-fresh_row.ensures ∙ ap (option_map (fresh_row nodes)) (element_at c.args.tree.now c.valid.ensures.numbered c.loop-place.place _ here)))
    ∙ sym (map_next (fresh_row nodes) (elements nodes) c.loop-place.place here.node here.at)
