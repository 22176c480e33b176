use Rattle.std.proofs.Common.{◌≡◌, refl, sym, ◌∙◌, ap, subst, ◌++◌, w64, to_z, of_z, rules}
use mir.Val.{SFits}
use Rattle.std.specs.Prelude.{OnOk, IfErr}
use Rattle.std.proofs.lemmas.Int.{to_z-of_z}
use Rattle.smil_model.specs.shown.Orders.{IsState, Presentation}
use Rattle.smil_diary.specs.Refusals.{of_book}
use Rattle.smil_report.proofs.Growing.{begins_itself}
use Rattle.smil_tree.proofs.ResultClauses.{on_err}
use Rattle.smil_cells.specs.CellsState.{with_logged}
use Rattle.smil_live.specs.Answered.{IsMoved}
use Rattle.smil_live.specs.Moves.{IsShownAt, IsTooFull, MayMove, changes_by, made, told_of}
use Rattle.smil_live.specs.declared.moves.Move.{Move}
use Rattle.smil_live.specs.declared.moves.Move.TheVariants as move
use Rattle.smil_live.proofs.EditedPresentations.{on_ok_always}
use Rattle.smil_live.proofs.MadeMoves.{shown_behind, told_behind}
use Rattle.smil_live.proofs.ReplayedLogs.{refused_as}
use Rattle.smil_live.proofs.SettledCells.{made_is_state, nothing_before}
use Rattle.smil_live.proofs.viewer.Viewer.go_on.Given.{Over}
use Rattle.smil_live.proofs.viewer.Viewer.go_on.Goals as goal
use Rattle.smil_live.proofs.viewer.Viewer.go_on.Goals.{In_ok-hear-in-Hear}

pub returns-in-Pass : goal.returns-in-Pass
returns-in-Pass g c =
    let to = c.in-Pass.to in
    let fits : SFits w64 to = search rules in
    let is : c.args.step ≡ move.Pass (to_z w64 (of_z w64 to)) = c.in-Pass.is ∙ ap move.Pass (sym (to_z-of_z w64 to fits)) in
    subst (λ (m : Move). IsMoved g.I.ChangeItem.telling g.T.Table.counts m c.pass_through.result c.args.self.now.cells c.pass_through.new.self.cells c.args.self.now.seen c.pass_through.new.self.seen c.args.out.now c.pass_through.new.out c.args.steps.now c.pass_through.new.steps) (sym is)
    c.pass_through.ensures

pub returns-in-Settle : goal.returns-in-Settle
returns-in-Settle g c =
    let to = c.in-Settle.to in
    let fits : SFits w64 to = search rules in
    let is : c.args.step ≡ move.Settle (to_z w64 (of_z w64 to)) = c.in-Settle.is ∙ ap move.Settle (sym (to_z-of_z w64 to fits)) in
    subst (λ (m : Move). IsMoved g.I.ChangeItem.telling g.T.Table.counts m c.settle_once.result c.args.self.now.cells c.settle_once.new.self.cells c.args.self.now.seen c.settle_once.new.self.seen c.args.out.now c.settle_once.new.out c.args.steps.now c.settle_once.new.steps) (sym is)
    c.settle_once.ensures.moved

pub hear-requires-clause-settled : goal.hear-requires-clause-settled
hear-requires-clause-settled g c = λ sound. nothing_before c.args.self.now.cells c.requires.shown.settled

-- where the entry is heard
heard_state : (g : Over) (c : In_ok-hear-in-Hear g) → IsState c.hear.new.self.presentation
heard_state g c =
    let p = c.args.self.now.cells.presentation in
    subst (λ (q : Presentation). IsState q) (sym c.in_ok-hear-in-Hear.ensures.state)
    (made_is_state p (move.Hear c.in-Hear.entry) c.requires.shown.state (subst (λ (m : Move). MayMove p m) c.in-Hear.is c.requires.may))

pub put_touched-requires-clause-state : goal.put_touched-requires-clause-state
put_touched-requires-clause-state g c = heard_state g (goal.at.put_touched-requires-clause-state g c).In_ok-hear-in-Hear

pub returns-in_ok-hear-in-Hear : goal.returns-in_ok-hear-in-Hear
returns-in_ok-hear-in-Hear g c =
    let s = c.args.self.now.cells in
    let p = s.presentation in
    let q = with_logged p c.in-Hear.entry in
    let heard = c.in_ok-hear-in-Hear.ensures in
    let put = c.put_touched.ensures in
    let r = c.put_touched.result in
    let tell = g.I.ChangeItem.telling in
    let state = heard_state g (goal.at.returns-in_ok-hear-in-Hear g c).In_ok-hear-in-Hear in
    record {
      ok =
          subst (λ (m : Move). OnOk r (IsShownAt (made p m) c.hear.new.self c.put_touched.new.seen)) (sym c.in-Hear.is)
          (shown_behind r q c.hear.new.self c.put_touched.new.seen heard.state state heard.goes_on.sound heard.settled put.views);
      told =
          subst (λ (m : Move). OnOk r (c.put_touched.new.out ≡ c.args.out.now ++ told_of tell p (changes_by p m))) (sym c.in-Hear.is)
          (told_behind tell r s c.hear.new.self q c.args.self.now.seen c.args.out.now c.put_touched.new.out heard.state refl c.requires.shown.views_are c.requires.shown.settled heard.settled put.told);
      refused = search rules;
      marked = search rules;
      owners_are = put.owners;
      begins = put.begins;
      counted = search rules;
      most = on_ok_always r heard.most;
      least = on_ok_always r heard.least;
    }

pub returns-in_err-hear-in-Hear : goal.returns-in_err-hear-in-Hear
returns-in_err-hear-in-Hear g c =
    let s = c.args.self.now.cells in
    let q = with_logged s.presentation c.in-Hear.entry in
    let fault = c.in_err-hear-in-Hear.field-0.0 in
    let refused =
    subst (λ (m : Move). IfErr c.from_residual.result (IsTooFull (made s.presentation m))) (sym c.in-Hear.is)
    (on_err (IsTooFull q) c.from_residual.result (of_book fault) c.from_residual.ensures.1 (refused_as q q s fault c.requires.shown.sound c.in_err-hear-in-Hear.ensures.full (λ none. none))) in
    record { ok = search rules; told = search rules; refused = refused; marked = search rules; owners_are = refl; begins = begins_itself c.args.out.now; counted = search rules; most = search rules; least = search rules }
