use Rattle.std.proofs.Common.{sym, ◌∙◌, ap, ℕ, Option}
use Rattle.smil_model.specs.diary.Diary.{History, is_active}
use Rattle.std.specs.Prelude.{not}
use Rattle.std.proofs.lemmas.Bool.{and_parts, not-true}
use Rattle.smil_stretch.proofs.LawfulDiaries.{lawful_last}
use Rattle.smil_instances.specs.Contribution.{is_end_heard, may_give}
use Rattle.smil_instances.specs.Intake.{history_of}
use Rattle.smil_instances.specs.Sources.{source_at}
use Rattle.smil_instances.proofs.ConcernedCells.{cell_known}
use Rattle.smil_instances.proofs.BeforeEntry.{at_hand}
use Rattle.smil_instances.proofs.EmptyGifts.{none_for_deaf, none_given, none_there}
use Rattle.smil_instances.proofs.additions.given_to.Goals as goal

pub returns-then-not-may_give : goal.returns-then-not-may_give
returns-then-not-may_give c = λ before y q.
    let h : History = history_of c.args.arrival.now.history.tree.now c.args.arrival.now.history.log.now before in
    let source = c.source-source.ensures ∙ c.requires.dependents.sources c.args.cell in
    sym (none_given h y c.args.cell
    (ap (λ (on : Option ℕ). may_give on y.step (source_at h.nodes c.args.cell)) (sym (c.requires.on before y q))
    ∙ ap (λ step. may_give c.args.on step (source_at h.nodes c.args.cell)) (sym (c.requires.step before y q))
    ∙ ap (may_give c.args.on c.args.step) (sym source)
    ∙ sym c.may_give.ensures ∙ c.if-not-may_give.true))

pub returns-in_err-who : goal.returns-in_err-who
returns-in_err-who c = λ before y q.
    c.from_residual.ensures
    ∙ sym (none_there (history_of c.args.arrival.now.history.tree.now c.args.arrival.now.history.log.now before) y c.args.cell c.in_err-who.ensures)

pub given_item-requires-clause-cell : goal.given_item-requires-clause-cell
given_item-requires-clause-cell c =
    cell_known c.args.arrival.now.history.tree.now.nodes c.valid.ensures.numbered.distinct c.args.arrival.now.dependents.now c.args.cell c.in_ok-who.who c.source-source.result
    c.requires.dependents (sym c.in_ok-who.ensures) c.source-source.ensures

pub returns-then-is_deaf : goal.returns-then-is_deaf
returns-then-is_deaf c = λ before y q.
    let h : History = history_of c.args.arrival.now.history.tree.now c.args.arrival.now.history.log.now before in
    let is = cell_known c.args.arrival.now.history.tree.now.nodes c.valid.ensures.numbered.distinct c.args.arrival.now.dependents.now c.args.cell c.in_ok-who.who c.source-source.result
    c.requires.dependents (sym c.in_ok-who.ensures) c.source-source.ensures in
    let entry = at_hand c.args.arrival.now.history.tree.now c.args.arrival.now.clocks.now c.args.arrival.now.history.log.now c.args.arrival.now.history.book.now before y c.requires.hand q in
    let both = and_parts (is_end_heard c.source-source.result c.args.cell.side) (not (is_active before c.in_ok-who.who))
    (sym (c.is_deaf.ensures h y (record { diary_is = q; lawful = lawful_last h y entry.lawful })) ∙ c.if-is_deaf.true) in
    sym (none_for_deaf h y c.args.cell c.in_ok-who.who c.source-source.result is both.0 (not-true (is_active before c.in_ok-who.who) both.1))
