use Rattle.std.proofs.Common.{◌≡◌, ◌∙◌, sym, ap, ◌++◌, [], ◌∷◌, map, take, List, ℕ, length, arith}
use Rattle.std.specs.Prelude.{is_some, Option}
use Rattle.std.proofs.lemmas.List.{length-map, take_all}
use Rattle.smil_model.specs.declared.interval.ChildEnd.{ChildEnd}
use Rattle.smil_model.specs.declared.interval.Interval.{Interval}
use Rattle.smil_model.specs.declared.document.Node.{Node}
use Rattle.smil_model.specs.document.Document.{Document, serials, time_children}
use Rattle.smil_model.specs.diary.Diary.{History}
use Rattle.smil_model.specs.interval.Current.{child_end}
use Rattle.smil_instances.proofs.ListsMade.{map_next}
use Rattle.smil_past.specs.Past.{history_of}
use Rattle.smil_element.proofs.KnownElements.{child_at}
use Rattle.smil_element.proofs.endings.children_ends.Goals as goal

pub end_of_child-requires-clause-child : goal.end_of_child-requires-clause-child
end_of_child-requires-clause-child g c =
    let are : c.time_children-child-items.result.now ≡ serials (time_children c.args.past.now.document.nodes c.args.who) = c.time_children-child-items.ensures ∙ ap (λ (d : Document). serials (time_children d.nodes c.args.who)) c.tree.ensures in
    ap is_some (child_at c.args.past.now.document c.possible.ensures.valid.numbered c.args.who c.loop-child.child-index c.time_children-child-items.result.now are c.loop-child-test.true).known

pub loop-child-preserved : goal.loop-child-preserved
loop-child-preserved g c = λ e here.
    let document : Document = c.args.past.now.document in
    let h : History = history_of c.args.past.now in
    let given : ℕ → Option Interval = g.J.Intervals.given c.args.intervals.now in
    let k = c.loop-child.child-index in
    let children = time_children document.nodes c.args.who in
    let are : c.time_children-child-items.result.now ≡ serials children = c.time_children-child-items.ensures ∙ ap (λ (d : Document). serials (time_children d.nodes c.args.who)) c.tree.ensures in
    let there = child_at document c.possible.ensures.valid.numbered c.args.who k c.time_children-child-items.result.now are c.loop-child-test.true in
    c.in_ok-push.ensures.items
    ∙ ap (λ (xs : List ChildEnd). xs ++ c.end_of_child.result ∷ []) (c.loop-child.invariant e here)
    ∙ ap (λ (x : ChildEnd). map (child_end h given e) (take k children) ++ x ∷ []) (c.end_of_child.ensures e there.node here there.known there.parent)
    ∙ sym (map_next (child_end h given e) children k there.node there.at)

pub returns : goal.returns
returns g c = λ e here.
    let h : History = history_of c.args.past.now in
    let given : ℕ → Option Interval = g.J.Intervals.given c.args.intervals.now in
    let children = time_children c.args.past.now.document.nodes c.args.who in
    let are : c.time_children-child-items.result.now ≡ serials children = c.time_children-child-items.ensures ∙ ap (λ (d : Document). serials (time_children d.nodes c.args.who)) c.tree.ensures in
    let many : length c.time_children-child-items.result.now ≡ length children = ap (λ (xs : List ℕ). length xs) are ∙ length-map children (λ (n : Node). n.serial) in
    c.loop-child.invariant e here ∙ ap (map (child_end h given e)) (take_all c.loop-child.child-index children (omega (arith, many, c.loop-child-test.false)))
