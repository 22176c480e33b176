use Rattle.std.proofs.Common.{rules, ◌≡◌, refl, sym, ◌∙◌, ap, subst, ℤ, nat_abs, w64, Some, None}
use Rattle.std.specs.Prelude.{◌⊎◌}
use Rattle.std.proofs.lemmas.Int.{to_z-of_z}
use Rattle.smil_model.specs.happening.Resolution.{diary_of}
use Rattle.smil_model.specs.shown.Orders.{IsState, Presentation, course_of, as_of}
use Rattle.smil_diary.specs.declared.fault.BookFault.TheVariants.{DiaryFull}
use Rattle.smil_diary.specs.Refusals.{of_book}
use Rattle.smil_report.proofs.Growing.{begins_itself}
use Rattle.smil_tree.proofs.ResultClauses.{on_err}
use Rattle.smil_live.specs.Moves.{IsTooFull}
use Rattle.smil_live.specs.declared.moves.Move.TheVariants as move
use Rattle.smil_live.proofs.EditedPresentations.{on_ok_always}
use Rattle.smil_live.proofs.MadeMoves.{shown_behind, told_behind}
use Rattle.smil_live.proofs.ReplayedLogs.{refused_as}
use Rattle.smil_live.proofs.SettledCells.{made_is_state}
use Rattle.smil_live.proofs.viewer.Viewer.settle_once.Goals as goal

pub put_touched-requires-clause-state : goal.put_touched-requires-clause-state
put_touched-requires-clause-state g c =
    let p = c.args.self.now.cells.presentation in
    let is = c.in_ok-settle.ensures.state ∙ ap (λ (z : ℤ). as_of p (nat_abs z)) (to_z-of_z w64 c.args.to c.ranges.to) in
    subst (λ (q : Presentation). IsState q) (sym is) (made_is_state p (move.Settle c.args.to) c.requires.shown.state c.requires.may)

pub returns-clause-moved : goal.returns-clause-moved
returns-clause-moved g c =
    let s = c.args.self.now.cells in
    let p = s.presentation in
    let to = c.args.to in
    let q = as_of p (nat_abs to) in
    let settled = c.in_ok-settle.ensures in
    let put = c.put_touched.ensures in
    let r = c.put_touched.result in
    let is = settled.state ∙ ap (λ (z : ℤ). as_of p (nat_abs z)) (to_z-of_z w64 to c.ranges.to) in
    let state = subst (λ (x : Presentation). IsState x) (sym is) (made_is_state p (move.Settle to) c.requires.shown.state c.requires.may) in
    record {
      ok = shown_behind r q c.settle.new.self c.put_touched.new.seen is state settled.goes_on.sound settled.settled put.views;
      told =
          told_behind g.I.ChangeItem.telling r s c.settle.new.self q c.args.self.now.seen c.args.out.now c.put_touched.new.out is refl c.requires.shown.views_are c.requires.shown.settled settled.settled put.told;
      refused = search rules;
      marked = search rules;
      owners_are = put.owners;
      begins = put.begins;
      counted = search rules;
      most = on_ok_always r settled.most;
      least = on_ok_always r settled.least;
    }

pub returns-clause-goes_on : goal.returns-clause-goes_on
returns-clause-goes_on g c = on_ok_always c.put_touched.result c.in_ok-settle.ensures.goes_on

pub returns-in_err-settle-clause-moved : goal.returns-in_err-settle-clause-moved
returns-in_err-settle-clause-moved g c =
    let s = c.args.self.now.cells in
    let q = as_of s.presentation (nat_abs c.args.to) in
    let fault = c.in_err-settle.field-0.0 in
    let refused =
    on_err (IsTooFull q) c.from_residual.result (of_book fault) c.from_residual.ensures.1
    (refused_as q q s fault c.requires.shown.sound
    (subst (λ (z : ℤ). fault ≡ DiaryFull → (s.fault ≡ Some fault) ⊎ (diary_of (course_of (as_of s.presentation (nat_abs z))) ≡ None)) (to_z-of_z w64 c.args.to c.ranges.to) c.in_err-settle.ensures.full)
    (λ none. none)) in
    record { ok = search rules; told = search rules; refused = refused; marked = search rules; owners_are = refl; begins = begins_itself c.args.out.now; counted = search rules; most = search rules; least = search rules }
