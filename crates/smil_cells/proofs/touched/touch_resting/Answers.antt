use Rattle.std.proofs.Common.{◌≡◌, ◌∙◌, refl, sym, ap, subst, ℕ, ◌+◌, ◌≤◌, List, length, take, arith}
use Rattle.std.specs.Prelude.{◌&&◌, is_some}
use Rattle.std.proofs.lemmas.List.{length-map, take_all}
use Rattle.smil_model.specs.declared.document.Node.{Node}
use Rattle.smil_model.specs.document.Document.{Document, elements, is_within, node_at, serials, time_children}
use Rattle.smil_instances.proofs.IdTargets.{some_of}
use Rattle.smil_past.specs.Past.{history_of}
use Rattle.smil_past.proofs.ItemReferences.{stands}
use Rattle.smil_element.proofs.KnownElements.{child_at}
use Rattle.smil_cells.specs.Shown.{ArePutWhere, any_rests, may_rest}
use Rattle.smil_cells.proofs.ElementsShown.{turns_known}
use Rattle.smil_cells.proofs.ElementsPut.{none_freezes, none_rest, put_none, put_then, rests_more}
use Rattle.smil_cells.proofs.touched.touch_resting.Goals as goal

pub touch_where_resting-requires : goal.touch_where_resting-requires
touch_where_resting-requires c =
    let are : c.time_children-child-items.result.now ≡ serials (time_children c.args.past.now.document.nodes c.args.parent) = c.time_children-child-items.ensures ∙ ap (λ (d : Document). serials (time_children d.nodes c.args.parent)) c.tree.ensures in
    ap is_some (child_at c.args.past.now.document c.possible.ensures.valid.numbered c.args.parent c.loop-child.child-index c.time_children-child-items.result.now are c.loop-child-test.true).known

pub keeps_children-requires : goal.keeps_children-requires
keeps_children-requires c = turns_known (node_at (elements c.args.past.now.document.nodes) c.args.parent) c.requires

pub returns-then-not-keeps_children : goal.returns-then-not-keeps_children
returns-then-not-keeps_children c =
    let h = history_of c.args.past.now in
    let found = some_of (node_at (elements h.nodes) c.args.parent) (turns_known (node_at (elements h.nodes) c.args.parent) c.requires) in
    let none = none_freezes h.nodes c.args.parent found.0 found.1 c.requires (sym (c.keeps_children.ensures found.0 found.1) ∙ c.if-not-keeps_children.true) in
    put_none h.nodes (any_rests h (time_children h.nodes c.args.parent)) c.args.touched.now (λ s. none_rest h (time_children h.nodes c.args.parent) s none)

pub loop-child-init : goal.loop-child-init
loop-child-init c =
    let h = history_of c.args.past.now in
    let children = time_children h.nodes c.args.parent in
    put_none h.nodes (any_rests h (take 0 children)) c.args.touched.now (λ s. refl)

pub loop-child-preserved : goal.loop-child-preserved
loop-child-preserved c =
    let h = history_of c.args.past.now in
    let document : Document = c.args.past.now.document in
    let children = time_children h.nodes c.args.parent in
    let k = c.loop-child.child-index in
    let new = c.touch_where_resting.new.touched in
    let are : c.time_children-child-items.result.now ≡ serials children = c.time_children-child-items.ensures ∙ ap (λ (d : Document). serials (time_children d.nodes c.args.parent)) c.tree.ensures in
    let there = child_at document c.possible.ensures.valid.numbered c.args.parent k c.time_children-child-items.result.now are c.loop-child-test.true in
    put_then h.nodes (any_rests h (take k children)) (λ (s : ℕ). may_rest h there.node && is_within h.nodes there.node.serial s) (any_rests h (take (k + 1) children)) c.args.touched.now c.loop-child.touched new
    (λ s. rests_more h children k s there.node there.at)
    c.loop-child.invariant
    (subst (λ (who : ℕ). ArePutWhere h.nodes (λ (s : ℕ). may_rest h there.node && is_within h.nodes who s) c.loop-child.touched new) (sym (stands (elements h.nodes) _ there.node there.known).serial)
    (c.in_ok-touch_where_resting.ensures there.node there.known))

pub returns : goal.returns
returns c =
    let h = history_of c.args.past.now in
    let children = time_children h.nodes c.args.parent in
    let are : c.time_children-child-items.result.now ≡ serials children = c.time_children-child-items.ensures ∙ ap (λ (d : Document). serials (time_children d.nodes c.args.parent)) c.tree.ensures in
    let many : length c.time_children-child-items.result.now ≡ length children = ap (λ (xs : List ℕ). length xs) are ∙ length-map children (λ (n : Node). n.serial) in
    let done : length children ≤ c.loop-child.child-index = omega (arith, many, c.loop-child-test.false) in
    subst (λ (ns : List Node). ArePutWhere h.nodes (any_rests h ns) c.args.touched.now c.loop-child.touched) (take_all c.loop-child.child-index children done) c.loop-child.invariant
