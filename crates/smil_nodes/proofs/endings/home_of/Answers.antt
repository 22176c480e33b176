use Rattle.std.proofs.Common.{◌≡◌, ◌∙◌, ap, sym, subst, ℕ, refl, Some, None, ◌<◌, ◌≤◌, List, length, arith}
use Rattle.std.specs.Prelude.{Option, IfSome, is_some, true}
use Rattle.std.proofs.lemmas.List.{length-map}
use Rattle.std.proofs.lemmas.Option.{slice_get_within}
use Rattle.smil_model.specs.declared.document.Attrs.{Attrs}
use Rattle.smil_model.specs.declared.document.Node.{Node}
use Rattle.smil_model.specs.document.Defaults.{takes_implicit}
use Rattle.smil_model.specs.document.Document.{elements, node_at, time_children}
use Rattle.smil_model.specs.diary.Lawful.{has_element}
use Rattle.smil_element.proofs.ElementReadings.{parent_known, tree_attrs, tree_node}
use Rattle.smil_rounds.proofs.RowEvaluated.{elements_few, found, has_row}
use Rattle.smil_nodes.specs.Endings.{HasHome}
use Rattle.smil_nodes.proofs.EndingPlaces.{among_children, few_children, is_home}
use Rattle.smil_instances.proofs.IdTargets.{element_of}
use Rattle.smil_nodes.proofs.endings.home_of.Goals as goal
use Rattle.smil_nodes.proofs.endings.home_of.Goals.{In_ok-parent}

pub time_parent-requires : goal.time_parent-requires
time_parent-requires c = tree_node c.args.tree.now c.args.tree.now c.args.who refl c.requires.element

pub returns-in_err-parent-clause-home : goal.returns-in_err-parent-clause-home
returns-in_err-parent-clause-home c =
    subst (HasHome c.args.tree.now.nodes c.args.who) (sym c.from_residual.ensures)
    (λ e known under. let never : None ≡ Some e.serial = sym c.in_err-parent.was ∙ c.time_parent.ensures ∙ under in absurd (cc))

-- the time parent is an element
parent_is : (c : In_ok-parent) → has_element c.args.tree.now.nodes c.in_ok-parent.parent ≡ true
parent_is c =
    let nodes = c.args.tree.now.nodes in
    subst (λ (o : Option ℕ). IfSome o (λ p. has_element nodes p ≡ true)) c.in_ok-parent.was (parent_known nodes c.args.who c.time_parent.result c.valid.ensures.numbered.distinct c.requires.element c.time_parent.ensures)

pub attrs-requires : goal.attrs-requires
attrs-requires c = tree_node c.args.tree.now c.args.tree.now c.in_ok-parent.parent refl (parent_is (goal.at.attrs-requires c).In_ok-parent)

pub unwrap-container-requires : goal.unwrap-container-requires
unwrap-container-requires c =
    let nodes = c.args.tree.now.nodes in
    let distinct = c.valid.ensures.numbered.distinct in
    let known = parent_is (goal.at.unwrap-container-requires c).In_ok-parent in
    ap is_some c.index_of.ensures ∙ has_row nodes c.args.schedule.now c.in_ok-parent.parent distinct c.requires.of_elements known

pub place_among-child-requires : goal.place_among-child-requires
place_among-child-requires c =
    let e = element_of c.args.tree.now.nodes c.args.who c.requires.element in
    among_children c.args.tree.now c.valid.ensures.numbered c.args.who c.in_ok-parent.parent e.0 c.time_children.result.now e.1 (sym c.time_parent.ensures ∙ c.in_ok-parent.was) c.time_children.ensures

pub returns-clause-home : goal.returns-clause-home
returns-clause-home c =
    let nodes = c.args.tree.now.nodes in
    let distinct = c.valid.ensures.numbered.distinct in
    let known = parent_is (goal.at.returns-clause-home c).In_ok-parent in
    let above = found nodes c.args.schedule.now c.in_ok-parent.parent distinct c.requires.of_elements known c.unwrap-container.result (sym c.unwrap-container.ensures ∙ c.index_of.ensures) in
    let e = element_of nodes c.args.who c.requires.element in
    is_home c.args.tree.now c.valid.ensures.numbered c.args.schedule.now c.args.who c.in_ok-parent.parent c.unwrap-container.result c.place_among-child.result e.0 c.time_children.result.now e.1 above c.time_children.ensures c.place_among-child.ensures

pub returns-then-not-takes_implicit-clause-home : goal.returns-then-not-takes_implicit-clause-home
returns-then-not-takes_implicit-clause-home c = λ e known under.
    let document = c.args.tree.now in
    let parent = c.in_ok-parent.parent in
    let same : Some parent ≡ Some e.serial = sym c.in_ok-parent.was ∙ c.time_parent.ensures ∙ under in
    let own : parent ≡ e.serial = cc in
    let here : node_at (elements document.nodes) parent ≡ Some e = ap (node_at (elements document.nodes)) own ∙ known in
    let attrs = tree_attrs document document parent e c.attrs.result.now c.valid.ensures.numbered.distinct refl here c.attrs.ensures in
    sym (c.takes_implicit.ensures ∙ ap (λ (a : Attrs). takes_implicit a a.dur) attrs) ∙ c.if-not-takes_implicit.true

pub overflow_add-child : goal.overflow_add-child
overflow_add-child c =
    let nodes = c.args.tree.now.nodes in
    let whos = c.time_children.result.now in
    let within : c.place_among-child.result < length whos = slice_get_within whos c.place_among-child.result c.args.who c.place_among-child.ensures in
    let count : length whos ≡ length (time_children nodes c.in_ok-parent.parent) = ap (λ (ss : List ℕ). length ss) c.time_children.ensures ∙ length-map (time_children nodes c.in_ok-parent.parent) (λ (n : Node). n.serial) in
    let few : length (time_children nodes c.in_ok-parent.parent) ≤ length nodes = few_children nodes c.in_ok-parent.parent in
    let all : length nodes ≤ 8000 = c.valid.ensures.nodes in
    omega (arith, within, count, few, all)

-- the index of the container, and the place of the child, are within 32 bits
pub overflow_cast-result : goal.overflow_cast-result
overflow_cast-result c =
    let nodes = c.args.tree.now.nodes in
    let known = parent_is (goal.at.overflow_cast-result c).In_ok-parent in
    let above = found nodes c.args.schedule.now c.in_ok-parent.parent c.valid.ensures.numbered.distinct c.requires.of_elements known c.unwrap-container.result (sym c.unwrap-container.ensures ∙ c.index_of.ensures) in
    let some : length (elements nodes) ≤ length nodes = elements_few nodes in
    let all : length nodes ≤ 8000 = c.valid.ensures.nodes in
    omega (arith, above.within, some, all)

pub overflow_cast-result-2 : goal.overflow_cast-result-2
overflow_cast-result-2 c =
    let nodes = c.args.tree.now.nodes in
    let whos = c.time_children.result.now in
    let within : c.place_among-child.result < length whos = slice_get_within whos c.place_among-child.result c.args.who c.place_among-child.ensures in
    let count : length whos ≡ length (time_children nodes c.in_ok-parent.parent) = ap (λ (ss : List ℕ). length ss) c.time_children.ensures ∙ length-map (time_children nodes c.in_ok-parent.parent) (λ (n : Node). n.serial) in
    let few : length (time_children nodes c.in_ok-parent.parent) ≤ length nodes = few_children nodes c.in_ok-parent.parent in
    let all : length nodes ≤ 8000 = c.valid.ensures.nodes in
    omega (arith, within, count, few, all)
