use Rattle.std.proofs.Common.{◌≡◌, ◌∙◌, refl, sym, ap, subst, ℕ, List, true}
use mathlib.Core.Bool.{and-false, and-true}
use Rattle.std.specs.Prelude.{IfSome, Option, ◌==◌, ◌&&◌}
use Rattle.std.proofs.lemmas.Result.{on_ok_weaker}
use Rattle.smil_model.specs.declared.document.Node.{Node}
use Rattle.smil_model.specs.document.Document.{time_parent}
use Rattle.smil_model.specs.diary.Lawful.{has_element}
use Rattle.smil_element.proofs.ElementReadings.{parent_known, tree_node}
use Rattle.smil_cells.specs.Evaluated.{is_container}
use Rattle.smil_nodes.proofs.CellsListed.{container_is}
use Rattle.smil_nodes.proofs.RanksListed.{none_noted, noted_by}
use Rattle.smil_nodes.proofs.concerned.note_container.Goals as goal

pub time_parent-requires : goal.time_parent-requires
time_parent-requires c = tree_node c.args.tree.now c.args.tree.now c.args.who refl c.requires.element

pub attrs-requires : goal.attrs-requires
attrs-requires c =
    let nodes = c.args.tree.now.nodes in
    tree_node c.args.tree.now c.args.tree.now c.in-Some.parent refl
    (subst (λ (o : Option ℕ). IfSome o (λ p. has_element nodes p ≡ true)) c.in-Some.is
    (parent_known nodes c.args.who c.time_parent.result c.valid.ensures.numbered.distinct c.requires.element c.time_parent.ensures))

pub returns-then-takes_implicit : goal.returns-then-takes_implicit
returns-then-takes_implicit c =
    let graph = c.args.graph.now in
    let tree = c.args.tree.now in
    let attrs = c.attrs.result.now in
    on_ok_weaker c.note.result
    (noted_by graph.order _ (is_container (time_parent graph.nodes c.args.who)) c.args.agenda.now c.note.new.agenda
    (λ s r at.
    sym (and-true (c.in-Some.parent == s))
    ∙ ap (λ t. (c.in-Some.parent == s) && t) (sym c.if-takes_implicit.true ∙ c.takes_implicit.ensures)
    ∙ sym (container_is tree.nodes c.args.who c.in-Some.parent s attrs c.valid.ensures.numbered.distinct c.requires.element (sym c.time_parent.ensures ∙ c.in-Some.is) c.attrs.ensures)
    ∙ ap (λ (ns : List Node). is_container (time_parent ns c.args.who) s) (sym c.requires.graph)))
    c.note.ensures

pub returns-else-takes_implicit : goal.returns-else-takes_implicit
returns-else-takes_implicit c =
    let graph = c.args.graph.now in
    let tree = c.args.tree.now in
    let attrs = c.attrs.result.now in
    none_noted graph.order (is_container (time_parent graph.nodes c.args.who)) c.args.agenda.now
    (λ s r at.
    ap (λ (ns : List Node). is_container (time_parent ns c.args.who) s) c.requires.graph
    ∙ container_is tree.nodes c.args.who c.in-Some.parent s attrs c.valid.ensures.numbered.distinct c.requires.element (sym c.time_parent.ensures ∙ c.in-Some.is) c.attrs.ensures
    ∙ ap (λ t. (c.in-Some.parent == s) && t) (sym c.takes_implicit.ensures ∙ c.if-takes_implicit.false)
    ∙ and-false (c.in-Some.parent == s))
