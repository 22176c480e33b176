use Rattle.std.proofs.Common.{◌≡◌, ◌∙◌, sym, ap, ◌++◌, [], ◌∷◌, map, take, List, ℕ, length, arith}
use Rattle.std.specs.Prelude.{is_some, None}
use Rattle.std.proofs.lemmas.List.{length-map, take_all}
use Rattle.smil_model.specs.declared.interval.ChildEnd.{ChildEnd}
use Rattle.smil_model.specs.declared.document.Attrs.{Attrs}
use Rattle.smil_model.specs.declared.document.Node.{Node}
use Rattle.smil_model.specs.document.Document.{elements, time_children}
use Rattle.smil_model.specs.interval.Current.{is_named_child}
use Rattle.smil_laws.proofs.RoundsRest.{find-serial}
use Rattle.smil_instances.proofs.ListsMade.{map_next}
use Rattle.smil_element.proofs.KnownElements.{child_at}
use Rattle.smil_element.proofs.ElementReadings.{tree_attrs, tree_node}
use Rattle.smil_nodes.specs.Endings.{named_end}
use Rattle.std.proofs.Common.{refl}
use Rattle.smil_nodes.proofs.endings.children_of.Goals as goal

pub attrs-requires : goal.attrs-requires
attrs-requires c = tree_node c.args.tree.now c.args.tree.now c.args.who refl c.requires

pub attrs-requires-in-loop-child : goal.attrs-requires-in-loop-child
attrs-requires-in-loop-child c =
    let document = c.args.tree.now in
    let there = child_at document c.valid.ensures.numbered c.args.who c.loop-child.child-index c.time_children-child-items.result.now c.time_children-child-items.ensures c.loop-child-test.true in
    tree_node document document _ refl (ap is_some there.known)

pub loop-child-preserved : goal.loop-child-preserved
loop-child-preserved c = λ e here.
    let document = c.args.tree.now in
    let k = c.loop-child.child-index in
    let children = time_children document.nodes c.args.who in
    let there = child_at document c.valid.ensures.numbered c.args.who k c.time_children-child-items.result.now c.time_children-child-items.ensures c.loop-child-test.true in
    let distinct = c.valid.ensures.numbered.distinct in
    let named : c.is_named.result ≡ is_named_child e.attrs.endsync there.node =
    c.is_named.ensures there.node (sym (tree_attrs document document _ there.node c.attrs-in-loop-child.result.now distinct refl there.known c.attrs-in-loop-child.ensures))
    ∙ ap (λ (a : Attrs). is_named_child a.endsync there.node) (tree_attrs document document c.args.who e c.attrs.result.now distinct refl here c.attrs.ensures) in
    c.in_ok-push.ensures.items
    ∙ ap (λ (xs : List ChildEnd). xs ++ record { named = c.is_named.result; first = None; latest = None } ∷ []) (c.loop-child.invariant e here)
    ∙ (λ i. map (named_end e) (take k children) ++ record { named = named i; first = None; latest = None } ∷ [])
    ∙ sym (map_next (named_end e) children k there.node there.at)

pub returns : goal.returns
returns c = λ e here.
    let nodes = c.args.tree.now.nodes in
    let children = time_children nodes c.args.who in
    let many : length c.time_children-child-items.result.now ≡ length children = ap (λ (xs : List ℕ). length xs) c.time_children-child-items.ensures ∙ length-map children (λ (n : Node). n.serial) in
    c.loop-child.invariant e here
    ∙ ap (map (named_end e)) (take_all c.loop-child.child-index children (omega (arith, many, c.loop-child-test.false)))
    ∙ ap (λ s. map (named_end e) (time_children nodes s)) (sym (find-serial c.args.who (elements nodes) e here))
