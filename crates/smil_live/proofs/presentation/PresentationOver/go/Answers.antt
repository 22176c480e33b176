use Rattle.std.proofs.Common.{◌≡◌, ◌∙◌, ap, sym, subst, ◌-◌, ◌++◌, ℕ, Result}
use Rattle.std.proofs.lemmas.Result.{IfErr-weaker}
use Rattle.std.specs.Prelude.{OnErr, OnOk, ◌≤◌}
use Rattle.smil_model.specs.declared.order.Refusal.{Refusal}
use Rattle.smil_model.specs.shown.Orders.{Presentation}
use Rattle.smil_text_laws.specs.PlainTexts.{with_document}
use Rattle.smil_cells.specs.CellsState.{CellsState, WhereTold}
use Rattle.smil_live.specs.Moves.{IsTooFull, MayMove, changes_by, made, told_of}
use Rattle.smil_live.specs.Texts.{IsPlayed, current}
use Rattle.smil_live.proofs.CellCounts.{least_made, most_made}
use Rattle.smil_live.proofs.EditedPresentations.{on_err_always, on_ok_always}
use Rattle.smil_live.proofs.MadeMoves.{back_is, owned_again, plays_again, plays_on, settled_again, shown_marked, sound_again, state_again}
use Rattle.smil_live.proofs.TextMoves.{document_made, full_there, least_there, may_there, most_there, played_then, state_there, told_there}
use Rattle.smil_live.proofs.TextsApart.{cells_with}
use Rattle.smil_live.proofs.presentation.PresentationOver.go.Goals as goal
use Rattle.smil_live.proofs.presentation.PresentationOver.go.Goals.{in-Ok, in-Err}

pub go_on-gone-requires-clause-may : goal.go_on-gone-requires-clause-may
go_on-gone-requires-clause-may g c =
    subst (λ (u : CellsState). MayMove u.presentation c.args.step) (sym c.mark.ensures)
    (may_there c.self.inside.viewer.cells c.self.inside.viewer.seen c.self.inside.edited c.args.self.now c.self.invariant c.self.view_is c.args.step c.requires)

pub go_on-gone-requires-clause-shown : goal.go_on-gone-requires-clause-shown
go_on-gone-requires-clause-shown g c =
    shown_marked c.self.inside.viewer.cells c.mark.new.self c.self.inside.viewer.seen c.self.invariant.playing.shown_is c.mark.ensures

pub renew-requires-clause-sound : goal.renew-requires-clause-sound
renew-requires-clause-sound g c =
    let s = c.self.inside.viewer.cells in
    sound_again s c.mark.new.self c.go_on-gone.new.self.cells c.back.new.self c.self.inside.viewer.seen c.go_on-gone.new.self.seen c.self.invariant.playing c.mark.ensures c.go_on-gone.ensures.marked c.back.ensures

pub renew-requires-clause-state : goal.renew-requires-clause-state
renew-requires-clause-state g c =
    let s = c.self.inside.viewer.cells in
    state_again s c.mark.new.self c.go_on-gone.new.self.cells c.back.new.self c.self.inside.viewer.seen c.go_on-gone.new.self.seen c.self.invariant.playing c.mark.ensures c.go_on-gone.ensures.marked c.back.ensures

pub renew-requires-clause-settled : goal.renew-requires-clause-settled
renew-requires-clause-settled g c =
    let s = c.self.inside.viewer.cells in
    settled_again s c.mark.new.self c.go_on-gone.new.self.cells c.back.new.self c.self.inside.viewer.seen c.go_on-gone.new.self.seen c.self.invariant.playing c.mark.ensures c.go_on-gone.ensures.marked c.back.ensures

pub renew-requires-clause-all : goal.renew-requires-clause-all
renew-requires-clause-all g c =
    let s = c.self.inside.viewer.cells in
    owned_again s c.mark.new.self c.go_on-gone.new.self.cells c.back.new.self c.self.inside.viewer.seen c.go_on-gone.new.self.seen c.self.invariant.playing c.mark.ensures c.go_on-gone.ensures.marked c.back.ensures
    c.go_on-gone.ensures.owners_are

pub invariant_of-self : goal.invariant_of-self
invariant_of-self g c =
    let s = c.self.inside.viewer.cells in
    elim c.match-gone.branch [
      | in-Ok w ↦
          subst (λ i. IsPlayed i.viewer.cells i.viewer.seen (current i.viewer.cells.presentation.document i.edited)) (sym w.self-inside-is)
          (played_then s w.forget.new.self c.self.inside.viewer.seen c.go_on-gone.new.self.seen c.self.inside.edited c.self.invariant
          (plays_on (made c.mark.new.self.presentation c.args.step) c.go_on-gone.new.self.cells w.forget.new.self c.go_on-gone.new.self.seen w.in-Ok.ensures.ok w.forget.ensures)
          (ap (λ (u : CellsState). u.presentation.document) w.forget.ensures
          ∙ (ap (λ (q : Presentation). q.document) w.in-Ok.ensures.ok.presentation_is ∙ (document_made c.mark.new.self.presentation c.args.step ∙ ap (λ (u : CellsState). u.presentation.document) c.mark.ensures))))
      | in-Err w ↦
          subst (λ i. IsPlayed i.viewer.cells i.viewer.seen (current i.viewer.cells.presentation.document i.edited)) (sym w.self-inside-is)
          (played_then s w.back.new.self c.self.inside.viewer.seen w.renew.new.self c.self.inside.edited c.self.invariant
          (plays_again s c.mark.new.self c.go_on-gone.new.self.cells w.back.new.self c.self.inside.viewer.seen c.go_on-gone.new.self.seen c.self.invariant.playing c.mark.ensures c.go_on-gone.ensures.marked w.back.ensures
          w.renew.new.self w.renew.ensures)
          (ap (λ (u : CellsState). u.presentation.document) (back_is s c.mark.new.self c.go_on-gone.new.self.cells w.back.new.self c.self.inside.viewer.seen c.go_on-gone.new.self.seen c.self.invariant.playing c.mark.ensures c.go_on-gone.ensures.marked w.back.ensures)))
    ]

pub returns-clause-state : goal.returns-clause-state
returns-clause-state g c =
    let s = c.self.inside.viewer.cells in
    elim c.match-gone.branch [
      | in-Ok w ↦
          on_ok_always c.go_on-gone.result
          (ap (λ i. with_document i.viewer.cells.presentation (current i.viewer.cells.presentation.document i.edited)) w.self-inside-is
          ∙ state_there s c.self.inside.viewer.seen c.self.inside.edited c.args.self.now c.self.invariant c.self.view_is c.args.step w.forget.new.self
          (ap (λ (u : CellsState). u.presentation) w.forget.ensures ∙ (w.in-Ok.ensures.ok.presentation_is ∙ ap (λ (u : CellsState). made u.presentation c.args.step) c.mark.ensures)))
      | in-Err w ↦ subst (λ (r : Result (Unit {0}) Refusal). OnOk r (with_document c.match-gone.self-inside.viewer.cells.presentation (current c.match-gone.self-inside.viewer.cells.presentation.document c.match-gone.self-inside.edited) ≡ made c.args.self.now c.args.step)) (sym w.in-Err.is) tt
    ]

pub returns-clause-told : goal.returns-clause-told
returns-clause-told g c =
    let tell = g.I.ChangeItem.telling in
    elim c.match-gone.branch [
      | in-Ok w ↦
          on_ok_always c.go_on-gone.result
          (w.out-is
          ∙ (w.in-Ok.ensures.told
          ∙ (ap (λ (u : CellsState). c.args.out.now ++ told_of tell u.presentation (changes_by u.presentation c.args.step)) c.mark.ensures
          ∙ ap (λ l. c.args.out.now ++ l) (told_there c.self.inside.viewer.cells c.self.inside.viewer.seen c.self.inside.edited c.args.self.now c.self.invariant c.self.view_is c.args.step tell))))
      | in-Err w ↦ subst (λ (r : Result (Unit {0}) Refusal). OnOk r (c.match-gone.out ≡ c.args.out.now ++ told_of tell c.args.self.now (changes_by c.args.self.now c.args.step))) (sym w.in-Err.is) tt
    ]

pub returns-clause-refused : goal.returns-clause-refused
returns-clause-refused g c =
    let here : c.mark.new.self.presentation ≡ c.self.inside.viewer.cells.presentation = ap (λ (s : CellsState). s.presentation) c.mark.ensures in
    IfErr-weaker c.go_on-gone.result (IsTooFull (made c.mark.new.self.presentation c.args.step)) (IsTooFull (made c.args.self.now c.args.step))
    (λ e full.
    full_there c.self.inside.viewer.cells c.self.inside.viewer.seen c.self.inside.edited c.args.self.now c.self.invariant c.self.view_is c.args.step e
    (subst (λ p. IsTooFull (made p c.args.step) e) here full))
    c.go_on-gone.ensures.refused

pub returns-clause-kept : goal.returns-clause-kept
returns-clause-kept g c =
    let s = c.self.inside.viewer.cells in
    elim c.match-gone.branch [
      | in-Ok w ↦ subst (λ (r : Result (Unit {0}) Refusal). OnErr r (with_document c.match-gone.self-inside.viewer.cells.presentation (current c.match-gone.self-inside.viewer.cells.presentation.document c.match-gone.self-inside.edited) ≡ c.args.self.now)) (sym w.in-Ok.is) tt
      | in-Err w ↦
          on_err_always c.go_on-gone.result
          (ap (λ i. with_document i.viewer.cells.presentation (current i.viewer.cells.presentation.document i.edited)) w.self-inside-is
          ∙ (ap (λ (u : CellsState). (cells_with u c.self.inside.edited).presentation) (back_is s c.mark.new.self c.go_on-gone.new.self.cells w.back.new.self c.self.inside.viewer.seen c.go_on-gone.new.self.seen c.self.invariant.playing c.mark.ensures c.go_on-gone.ensures.marked w.back.ensures)
          ∙ c.self.view_is))
    ]

pub returns-clause-most : goal.returns-clause-most
returns-clause-most g c =
    let here : c.mark.new.self.presentation ≡ c.self.inside.viewer.cells.presentation = ap (λ (s : CellsState). s.presentation) c.mark.ensures in
    let rise = c.go_on-gone.new.steps - c.args.steps.now in
    subst (λ (n : ℕ). OnOk c.go_on-gone.result (WhereTold g.T.Table.counts (rise ≤ n)))
    (most_there c.self.inside.viewer.cells c.self.inside.viewer.seen c.self.inside.edited c.args.self.now c.self.invariant c.self.view_is c.args.step)
    (most_made c.go_on-gone.result g.T.Table.counts c.mark.new.self c.go_on-gone.new.self.cells c.self.inside.viewer.cells.presentation c.args.step c.go_on-gone.new.self.seen rise
    (shown_marked c.self.inside.viewer.cells c.mark.new.self c.self.inside.viewer.seen c.self.invariant.playing.shown_is c.mark.ensures).settled here c.go_on-gone.ensures.ok c.go_on-gone.ensures.most)

pub returns-clause-least : goal.returns-clause-least
returns-clause-least g c =
    let here : c.mark.new.self.presentation ≡ c.self.inside.viewer.cells.presentation = ap (λ (s : CellsState). s.presentation) c.mark.ensures in
    let rise = c.go_on-gone.new.steps - c.args.steps.now in
    subst (λ (n : ℕ). OnOk c.go_on-gone.result (WhereTold g.T.Table.counts (n ≤ rise)))
    (least_there c.self.inside.viewer.cells c.self.inside.viewer.seen c.self.inside.edited c.args.self.now c.self.invariant c.self.view_is c.args.step)
    (least_made c.go_on-gone.result g.T.Table.counts c.mark.new.self c.go_on-gone.new.self.cells c.self.inside.viewer.cells.presentation c.args.step c.go_on-gone.new.self.seen rise
    (shown_marked c.self.inside.viewer.cells c.mark.new.self c.self.inside.viewer.seen c.self.invariant.playing.shown_is c.mark.ensures).settled here c.go_on-gone.ensures.ok c.go_on-gone.ensures.least)
