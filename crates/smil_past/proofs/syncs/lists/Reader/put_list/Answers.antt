use Rattle.std.proofs.Common.{◌≡◌, ◌∙◌, ap, sym, refl, List, Some, ◌++◌, length, take, arith}
use Rattle.std.specs.Prelude.{slice_get, filter_map}
use Rattle.std.proofs.lemmas.List.{append_assoc, append-nil, length-append, take_all}
use Rattle.std.proofs.lemmas.Option.{slice_get-get_or}
use Rattle.smil_model.specs.declared.document.Item.{Item}
use Rattle.smil_instance_rows.specs.declared.cell.Cell.{Cell}
use Rattle.smil_graph.specs.Graph.{looped_at}
use Rattle.smil_instances.specs.declared.syncbase.Syncbase.{Syncbase}
use Rattle.smil_instances.specs.Dependents.{source_in}
use Rattle.smil_past.specs.Syncs.{listed, sync_of}
use Rattle.smil_past.proofs.ItemReferences.{item_told, list_more}
use Rattle.smil_past.proofs.syncs.lists.Reader.put_list.Goals as goal

pub loop-at-init : goal.loop-at-init
loop-at-init c = record {
  told = λ e list. sym (append-nil c.args.syncs.now.items);
  most = omega arith;
}

pub loop-at-preserved : goal.loop-at-preserved
loop-at-preserved c = record {
  told = λ e list.
      let nodes = c.args.self.now.graph.now.nodes in
      let items = c.args.items.now in
      let k = c.loop-at.at in
      let item = c.item-item.result in
      let there : slice_get items k ≡ Some item =
      ap (λ (xs : List Item). slice_get xs k) (sym c.slice-item-items.ensures) ∙ slice_get-get_or c.slice-item-items.result.now k item c.loop-at-test.true ∙ ap Some (sym c.item-item.is) in
      let cell : Cell = record { row = c.args.place; side = c.args.side; item = k } in
      let before = filter_map (sync_of nodes e.serial) (take k items) in
      c.in_ok-push_some.ensures
      ∙ ap (λ (syncs : List Syncbase). syncs ++ listed c.sync.result) (c.loop-at.invariant.told e list)
      ∙ append_assoc c.args.syncs.now.items before (listed c.sync.result)
      ∙ ap (λ (own : List Syncbase). c.args.syncs.now.items ++ own)
      (list_more nodes e.serial items k item before (before ++ listed c.sync.result) c.sync.result there refl
      (c.sync.ensures ∙ item_told nodes c.args.place c.args.who k c.args.side e items item c.args.self.now.dependents.now (looped_at nodes c.args.who c.args.side k) (source_in c.args.self.now.dependents.now.rows cell) c.requires list there refl refl)
      refl);
  most =
      let longer = ap length c.in_ok-push_some.ensures ∙ length-append c.loop-at.syncs.items (listed c.sync.result) in
      omega (arith, longer, c.loop-at.invariant.most);
}

pub returns-clause-told : goal.returns-clause-told
returns-clause-told c = λ e list.
    let many = ap (λ (xs : List Item). length xs) c.slice-item-items.ensures in
    c.loop-at.invariant.told e list
    ∙ ap (λ (own : List Item). c.args.syncs.now.items ++ filter_map (sync_of c.args.self.now.graph.now.nodes e.serial) own) (take_all c.loop-at.at c.args.items.now (omega (arith, many, c.loop-at-test.false)) ∙ sym list.same)
