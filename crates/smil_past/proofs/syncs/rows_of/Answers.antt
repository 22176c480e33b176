use Rattle.std.proofs.Common.{sym, ap, ◌∙◌, ◌++◌, [], ◌∷◌, map, take, List}
use Rattle.std.specs.Prelude.{is_some}
use Rattle.smil_model.specs.document.Document.{elements}
use Rattle.smil_instances.proofs.EmptyRows.{at_place, element_at}
use Rattle.smil_instances.proofs.ListsMade.{map_next}
use Rattle.smil_past.specs.Syncs.{SyncRow, sync_row}
use Rattle.smil_past.proofs.syncs.rows_of.Goals as goal

pub row_of-requires-clause-known : goal.row_of-requires-clause-known
row_of-requires-clause-known c =
    let here = at_place (elements c.args.tree.now.nodes) c.args.whos.now c.loop-place.place c.requires.whos c.loop-place-test.true in
    ap is_some (element_at c.args.tree.now c.valid.ensures.numbered c.loop-place.place _ here)

pub loop-place-preserved : goal.loop-place-preserved
loop-place-preserved c =
    let nodes = c.args.tree.now.nodes in
    let here = at_place (elements nodes) c.args.whos.now c.loop-place.place c.requires.whos c.loop-place-test.true in
    c.in_ok-push.ensures.items ∙ ap (λ (xs : List SyncRow). xs ++ c.in_ok-row_of.field-0 ∷ []) c.loop-place.invariant
    ∙ ap (λ (r : SyncRow). map (sync_row nodes) (take c.loop-place.place (elements nodes)) ++ r ∷ [])
    (c.in_ok-row_of.ensures here.node here.at (element_at c.args.tree.now c.valid.ensures.numbered c.loop-place.place _ here))
    ∙ sym (map_next (sync_row nodes) (elements nodes) c.loop-place.place here.node here.at)
