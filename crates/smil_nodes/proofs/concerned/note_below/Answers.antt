use Rattle.std.proofs.Common.{◌∙◌, refl, sym, ap, subst, List, []}
use Rattle.smil_model.specs.declared.document.Node.{Node}
use Rattle.smil_model.specs.document.Document.{descendants}
use Rattle.smil_past.proofs.KnownNodes.{known_node}
use Rattle.smil_nodes.specs.Noted.{AreNoted, is_self_or_reader}
use Rattle.smil_nodes.proofs.RanksListed.{none_noted, noted_then, reached_by}
use Rattle.smil_nodes.proofs.concerned.note_below.Goals as goal

pub below-node-items-requires : goal.below-node-items-requires
below-node-items-requires c = known_node c.args.tree.now.nodes c.args.who c.requires.element

pub loop-node-init : goal.loop-node-init
loop-node-init c = λ new noted.
    subst (λ (ns : List Node). AreNoted c.args.graph.now.order (reached_by c.args.graph.now.nodes ns) c.args.agenda.now new)
    (c.into_iter-node-iterator.ensures.into_iter_gives ∙ c.below-node-items.ensures ∙ ap (λ (ns : List Node). descendants ns c.args.who) (sym c.requires.graph)) noted

pub loop-node-preserved : goal.loop-node-preserved
loop-node-preserved c = λ new noted.
    let graph = c.args.graph.now in
    c.loop-node.invariant new
    (subst (λ (ns : List Node). AreNoted graph.order (reached_by graph.nodes ns) c.loop-node.agenda new) (sym c.in-Some.ensures.steps)
    (noted_then graph.order (is_self_or_reader graph.nodes c.in-Some.node.now.serial) (reached_by graph.nodes c.next.new.self) c.loop-node.agenda c.note_element.new.agenda new c.in_ok-note_element.ensures noted))

pub returns : goal.returns
returns c =
    let graph = c.args.graph.now in
    c.loop-node.invariant c.loop-node.agenda
    (subst (λ (ns : List Node). AreNoted graph.order (reached_by graph.nodes ns) c.loop-node.agenda c.loop-node.agenda) (sym c.in-None.ensures.steps.0)
    (none_noted graph.order (reached_by graph.nodes []) c.loop-node.agenda (λ s r at. refl)))
