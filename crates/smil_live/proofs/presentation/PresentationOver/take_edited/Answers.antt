use Rattle.std.proofs.Common.{◌≡◌, ◌∙◌, ◌-◌, ap, sym, subst, true, false}
use Rattle.smil_model.specs.shown.Orders.{IsState, Presentation}
use Rattle.smil_text_laws.specs.PlainTexts.{bare}
use Rattle.smil_tree.proofs.ResultClauses.{on_err}
use Rattle.smil_cells.specs.CellsState.{CellsState}
use Rattle.smil_live.specs.Editing.{IsEdited}
use Rattle.smil_live.specs.Moves.{IsTooFull, edited_to}
use Rattle.smil_live.specs.Sites.{most_resolving}
use Rattle.smil_live.proofs.EditedPresentations.{edited_anew, replayed_own}
use Rattle.smil_live.proofs.TextMoves.{edit_told}
use Rattle.smil_live.proofs.UnchangedDocuments.{least_edited, least_retold, none_told, retold}
use Rattle.smil_live.proofs.presentation.PresentationOver.take_edited.Goals as goal

-- ---- plain texts alone are others

pub invariant_of-self : goal.invariant_of-self
invariant_of-self g c = record {
  playing = c.self.invariant.playing;
  valid = c.valid.ensures;
  differ = c.self.invariant.differ ∙ (ap (λ (p : Presentation). bare p.document.nodes) c.self.view_is ∙ c.changes_texts_alone.ensures.differ c.if-changes_texts_alone.true);
}

pub returns-then-changes_texts_alone-clause-ok : goal.returns-then-changes_texts_alone-clause-ok
returns-then-changes_texts_alone-clause-ok g c =
    let p = c.args.self.now in
    let d = c.args.edited.tree in
    subst (λ (q : Presentation). IsEdited g.I.ChangeItem.telling p d q c.args.out.now c.args.out.now) (sym (ap (λ (q : Presentation). edited_to q d) c.self.view_is))
    (retold g.I.ChangeItem.telling p d c.args.out.now (c.changes_texts_alone.ensures.differ c.if-changes_texts_alone.true) c.settled.ensures.state c.settled.ensures.diary)

pub returns-then-changes_texts_alone-clause-most : goal.returns-then-changes_texts_alone-clause-most
returns-then-changes_texts_alone-clause-most g c = none_told g.T.Table.counts c.args.steps.now (most_resolving c.args.self.now c.args.edited.site c.args.edited.tree)

pub returns-then-changes_texts_alone-clause-free : goal.returns-then-changes_texts_alone-clause-free
returns-then-changes_texts_alone-clause-free g c agree = none_told g.T.Table.counts c.args.steps.now 0

pub returns-then-changes_texts_alone-clause-least : goal.returns-then-changes_texts_alone-clause-least
returns-then-changes_texts_alone-clause-least g c =
    least_retold g.T.Table.counts c.args.self.now c.args.edited.tree (c.args.steps.now - c.args.steps.now)
    (c.changes_texts_alone.ensures.differ c.if-changes_texts_alone.true) (c.changes_texts_alone.ensures.next c.if-changes_texts_alone.true)

-- ---- other attributes are, or nodes

pub take_over-requires-clause-playing : goal.take_over-requires-clause-playing
take_over-requires-clause-playing g c = c.self.invariant.playing

pub take_over-requires-clause-state : goal.take_over-requires-clause-state
take_over-requires-clause-state g c = subst IsState (sym c.in_ok-cells.ensures.ok.presentation_is) c.in_ok-cells.ensures.state

pub take_over-requires-clause-replayed : goal.take_over-requires-clause-replayed
take_over-requires-clause-replayed g c = replayed_own (edited_to c.args.self.now c.args.edited.tree) c.in_ok-cells.cells c.in_ok-cells.ensures.ok

pub returns-clause-ok : goal.returns-clause-ok
returns-clause-ok g c =
    let tell = g.I.ChangeItem.telling in
    let taken = c.in_ok-take_over.ensures in
    edited_anew tell c.args.self.now c.take_over.new.self.cells.presentation c.args.edited.tree c.in_ok-cells.cells c.args.out.now c.take_over.new.out c.in_ok-cells.ensures.ok
    (ap (λ (s : CellsState). s.presentation) taken.cells)
    (edit_told tell c.self.inside.viewer.cells c.self.inside.viewer.seen c.self.inside.edited c.args.self.now c.in_ok-cells.cells.presentation c.self.invariant c.self.view_is c.args.out.now c.take_over.new.out taken.told)

pub returns-clause-most : goal.returns-clause-most
returns-clause-most g c = c.in_ok-cells.ensures.most

pub returns-clause-free : goal.returns-clause-free
returns-clause-free g c agree =
    let both : false ≡ true = sym c.if-changes_texts_alone.false ∙ c.changes_texts_alone.ensures.alone.1 agree in absurd cc

pub returns-clause-least : goal.returns-clause-least
returns-clause-least g c =
    least_edited g.T.Table.counts c.args.self.now (edited_to c.args.self.now c.args.edited.tree) (c.edited_cells.new.steps - c.args.steps.now) c.in_ok-cells.ensures.least

pub returns-in_err-cells-clause-refused : goal.returns-in_err-cells-clause-refused
returns-in_err-cells-clause-refused g c =
    on_err (IsTooFull (edited_to c.args.self.now c.args.edited.tree)) c.from_residual.result c.in_err-cells.field-0.0 c.from_residual.ensures.1 c.in_err-cells.ensures.refused
