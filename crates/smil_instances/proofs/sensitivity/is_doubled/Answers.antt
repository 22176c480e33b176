use Rattle.std.proofs.Common.{sym, ap, ◌∙◌, Some}
use Rattle.std.specs.List.{list_any}
use Rattle.std.proofs.lemmas.List.{take_all}
use Rattle.std.proofs.lemmas.Option.{slice_get-get_or}
use Rattle.smil_model.specs.declared.document.Attrs.{Attrs}
use Rattle.smil_model.specs.interval.Instances.{is_same_event}
use Rattle.smil_instances.proofs.IdTargets.{known_node, attrs_of}
use Rattle.smil_instances.proofs.BeginItems.{free_without, list_is, none_more, one_found}
use Rattle.smil_instances.proofs.sensitivity.is_doubled.Goals as goal

pub attrs-requires : goal.attrs-requires
attrs-requires c = known_node c.args.tree.now.nodes c.args.own.now.who c.requires.element

pub returns-in_default : goal.returns-in_default
returns-in_default c = λ e at.
    let same = attrs_of c.args.tree.now.nodes c.args.own.now.who e c.attrs.result.now c.valid.ensures.numbered.distinct at c.attrs.ensures in
    sym (free_without c.args.tree.now.nodes c.args.own.now.who c.args.own.now.item.now e (sym (ap (λ (a : Attrs). a.begin) same) ∙ c.in_default.is))

pub loop-other-preserved : goal.loop-other-preserved
loop-other-preserved c =
    none_more (is_same_event c.args.tree.now.nodes c.args.own.now.who c.args.own.now.item.now) c.slice-other-items.result.now c.loop-other.other-index c.other-item.result
    (slice_get-get_or c.slice-other-items.result.now c.loop-other.other-index c.other-item.result c.loop-other-test.true ∙ ap Some (sym c.other-item.is))
    c.loop-other.invariant (sym c.is_same_event.ensures ∙ c.if-is_same_event.false)

pub returns-then-is_same_event : goal.returns-then-is_same_event
returns-then-is_same_event c = λ e at.
    let test = is_same_event c.args.tree.now.nodes c.args.own.now.who c.args.own.now.item.now in
    let same = attrs_of c.args.tree.now.nodes c.args.own.now.who e c.attrs.result.now c.valid.ensures.numbered.distinct at c.attrs.ensures in
    let items = c.slice-other-items.result.now in
    sym
    (ap (list_any test) (list_is c.args.tree.now.nodes e c.attrs.result.now c.in-Some.begin same c.in-Some.is ∙ sym c.slice-other-items.ensures)
    ∙ one_found test items c.loop-other.other-index c.other-item.result
    (slice_get-get_or items c.loop-other.other-index c.other-item.result c.loop-other-test.true ∙ ap Some (sym c.other-item.is)) (sym c.is_same_event.ensures ∙ c.if-is_same_event.true))

pub returns : goal.returns
returns c = λ e at.
    let test = is_same_event c.args.tree.now.nodes c.args.own.now.who c.args.own.now.item.now in
    let same = attrs_of c.args.tree.now.nodes c.args.own.now.who e c.attrs.result.now c.valid.ensures.numbered.distinct at c.attrs.ensures in
    sym
    (ap (list_any test) (list_is c.args.tree.now.nodes e c.attrs.result.now c.in-Some.begin same c.in-Some.is ∙ sym c.slice-other-items.ensures)
    ∙ ap (list_any test) (sym (take_all c.loop-other.other-index c.slice-other-items.result.now c.loop-other-test.false))
    ∙ c.loop-other.invariant)
