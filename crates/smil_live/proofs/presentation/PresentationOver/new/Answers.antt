use Rattle.std.proofs.Common.{◌≡◌, ◌∙◌, sym, subst, ◌-◌, ◌≤◌, Ok, Err, inl}
use Rattle.std.specs.Prelude.{◌⊎◌}
use Rattle.std.proofs.lemmas.Result.{IfErr-weaker, IfOk-weaker}
use Rattle.smil_model.specs.declared.order.Refusal.TheVariants as refusal
use Rattle.smil_model.specs.shown.Orders.{IsState, Presentation, opened}
use Rattle.smil_tree.proofs.ResultClauses.{on_err}
use Rattle.smil_cells.specs.CellsState.{WhereTold}
use Rattle.smil_live.specs.Counts.{least_loading, most_loading}
use Rattle.smil_live.proofs.OpenedPresentations.{first_state, not_opened, opens}
use Rattle.smil_live.proofs.presentation.PresentationOver.new.Goals as goal

pub over-requires-clause-state : goal.over-requires-clause-state
over-requires-clause-state g c =
    subst IsState (sym c.in_ok-cells.ensures.ok.presentation_is) (first_state c.args.doc c.requires)

pub returns-clause-state : goal.returns-clause-state
returns-clause-state g c =
    IfOk-weaker c.over.result (λ q. q ≡ c.in_ok-cells.cells.presentation) (λ q. opened c.args.doc ≡ Ok q)
    (λ q same. opens c.args.doc q c.in_ok-cells.cells same c.in_ok-cells.ensures.ok) c.over.ensures.state

pub returns-in_err-cells-clause-refused : goal.returns-in_err-cells-clause-refused
returns-in_err-cells-clause-refused g c =
    let given = c.in_err-cells.field-0.0 in
    on_err (λ e. (e ≡ refusal.Memory) ⊎ (opened c.args.doc ≡ Err e)) c.from_residual.result given c.from_residual.ensures.1 (not_opened c.args.doc given c.in_err-cells.ensures.refused)

pub returns-clause-most : goal.returns-clause-most
returns-clause-most g c =
    let rise = c.replayed.new.steps - c.args.steps.now in
    let told : (q : Presentation) → Type 0 = λ (q : Presentation). WhereTold g.T.Table.counts (rise ≤ most_loading q) in
    IfOk-weaker c.over.result (λ q. q ≡ c.in_ok-cells.cells.presentation) told (λ q same. subst told (sym (same ∙ c.in_ok-cells.ensures.ok.presentation_is)) c.in_ok-cells.ensures.most) c.over.ensures.state

pub returns-clause-least : goal.returns-clause-least
returns-clause-least g c =
    let rise = c.replayed.new.steps - c.args.steps.now in
    let told : (q : Presentation) → Type 0 = λ (q : Presentation). WhereTold g.T.Table.counts (least_loading q ≤ rise) in
    IfOk-weaker c.over.result (λ q. q ≡ c.in_ok-cells.cells.presentation) told (λ q same. subst told (sym (same ∙ c.in_ok-cells.ensures.ok.presentation_is)) c.in_ok-cells.ensures.least) c.over.ensures.state

pub returns-clause-refused : goal.returns-clause-refused
returns-clause-refused g c =
    IfErr-weaker c.over.result (λ e. e ≡ refusal.Memory) (λ e. (e ≡ refusal.Memory) ⊎ (opened c.args.doc ≡ Err e)) (λ e memory. inl memory) c.over.ensures.refused
