use Rattle.std.proofs.Common.{◌≡◌, sym, ◌∙◌, ap, subst, w64, rules}
use mir.Val.{SFits}
use Rattle.std.specs.Prelude.{IsSome, is_some}
use Rattle.std.proofs.lemmas.Int.{to_z-of_z}
use Rattle.smil_model.specs.document.Document.{Document, elements, node_at}
use Rattle.smil_instances.proofs.IdTargets.{element_in}
use Rattle.smil_tree.proofs.AttributesChanged.{serial_of as own_serial}
use Rattle.smil_shown.specs.ViewTable.{has_view, view_now}
use Rattle.smil_live.proofs.TouchedViews.{no_line, on_line}
use Rattle.smil_live.proofs.viewer.put_one.Goals as goal

pub put-requires : goal.put-requires
put-requires g c =
    let e = c.requires.element in
    let es = elements c.args.cells.now.presentation.document.nodes in
    subst (λ v. has_view c.args.seen.now v.serial ≡ _) (sym (c.view_in-view.ensures e.0 e.1))
    (subst (λ s. has_view c.args.seen.now s ≡ _) (sym (own_serial es c.args.serial e.0 e.1)) c.requires.known)

pub put_view-requires : goal.put_view-requires
put_view-requires g c =
    let e = c.requires.element in
    let nodes = c.args.cells.now.presentation.document.nodes in
    subst (λ (d : Document). IsSome (node_at d.nodes c.view_in-view.result.serial)) (sym c.tree.ensures)
    (subst (λ v. IsSome (node_at nodes v.serial)) (sym (c.view_in-view.ensures e.0 e.1))
    (subst (λ s. IsSome (node_at nodes s)) (sym (own_serial (elements nodes) c.args.serial e.0 e.1)) (ap is_some (element_in nodes c.args.serial e.0 c.requires.state.document.numbered.distinct e.1))))

pub returns-then-put-clause-told : goal.returns-then-put-clause-told
returns-then-put-clause-told g c = λ e at.
    let s = c.args.cells.now in
    let v = c.view_in-view.result in
    let fits : SFits w64 c.moment.result = search rules in
    let differ = sym c.put.ensures.differs ∙ c.if-put.true in
    on_line g.I.ChangeItem.telling c.put_view.result c.tree.result.now s.presentation.document s.presentation.now _ c.args.seen.now v (view_now s e) c.args.out.now c.put_view.new.out c.tree.ensures
    (to_z-of_z w64 c.moment.result fits ∙ c.moment.ensures) (c.view_in-view.ensures e at) differ c.put_view.ensures.ok

pub returns-else-put-clause-told : goal.returns-else-put-clause-told
returns-else-put-clause-told g c = λ e at.
    let s = c.args.cells.now in
    let differ = sym c.put.ensures.differs ∙ c.if-put.false in
    no_line g.I.ChangeItem.telling s.presentation.document.nodes s.presentation.now c.args.seen.now c.view_in-view.result (view_now s e) c.args.out.now (c.view_in-view.ensures e at) differ
