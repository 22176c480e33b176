use Rattle.std.proofs.Common.{◌≡◌, ◌∙◌, sym, ap, ◌++◌, [], ◌∷◌, ◌-◌, map, List, ℕ, length}
use Rattle.std.specs.Prelude.{is_some, Option, Some, slice_get}
use Rattle.std.proofs.lemmas.List.{length-map}
use Rattle.smil_model.specs.declared.interval.ChildEnd.{ChildEnd}
use Rattle.smil_model.specs.declared.interval.Interval.{Interval}
use Rattle.smil_model.specs.declared.document.Node.{Node}
use Rattle.smil_model.specs.document.Document.{Document, serials, time_children}
use Rattle.smil_model.specs.diary.Diary.{History}
use Rattle.smil_model.specs.interval.Current.{child_end}
use Rattle.smil_past.specs.Past.{history_of}
use Rattle.smil_element.proofs.ChildEnds.{alone_at}
use Rattle.smil_element.proofs.KnownElements.{last_child}
use Rattle.smil_element.proofs.endings.last_end.Goals as goal

pub end_of_child-requires-clause-child : goal.end_of_child-requires-clause-child
end_of_child-requires-clause-child g c =
    let are : c.time_children.result.now ≡ serials (time_children c.args.past.now.document.nodes c.args.who) = c.time_children.ensures ∙ ap (λ (d : Document). serials (time_children d.nodes c.args.who)) c.tree.ensures in
    ap is_some (last_child c.args.past.now.document c.possible.ensures.valid.numbered c.args.who c.time_children.result.now are c.in-Some.child.now (sym c.in-Some.ensures.value)).known

pub returns-in_ok-push : goal.returns-in_ok-push
returns-in_ok-push g c = λ e here.
    let document : Document = c.args.past.now.document in
    let h : History = history_of c.args.past.now in
    let given : ℕ → Option Interval = g.J.Intervals.given c.args.intervals.now in
    let children = time_children document.nodes c.args.who in
    let are : c.time_children.result.now ≡ serials children = c.time_children.ensures ∙ ap (λ (d : Document). serials (time_children d.nodes c.args.who)) c.tree.ensures in
    let there = last_child document c.possible.ensures.valid.numbered c.args.who c.time_children.result.now are c.in-Some.child.now (sym c.in-Some.ensures.value) in
    let many : length c.time_children.result.now ≡ length children = ap (λ (xs : List ℕ). length xs) are ∙ length-map children (λ (n : Node). n.serial) in
    let at : slice_get children (length children - 1) ≡ Some there.node = ap (λ (n : ℕ). slice_get children (n - 1)) (sym many) ∙ there.at in
    c.in_ok-push.ensures.items
    ∙ ap (λ (xs : List ChildEnd). xs ++ c.end_of_child.result ∷ []) c.clear.ensures.items
    ∙ ap (λ (x : ChildEnd). x ∷ []) (c.end_of_child.ensures e there.node here there.known there.parent)
    ∙ ap (map (child_end h given e)) (sym (alone_at children there.node at))
