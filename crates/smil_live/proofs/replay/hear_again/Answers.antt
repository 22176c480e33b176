use Rattle.std.proofs.Common.{◌≡◌, ◌∙◌, sym, subst, ap, ℤ, w64, to_z, of_z, Some, None, ◌∷◌, []}
use Rattle.std.specs.Prelude.{◌⊎◌, nat_abs}
use Rattle.std.proofs.lemmas.Int.{to_z-of_z}
use Rattle.smil_diary.specs.declared.fault.BookFault.TheVariants.{DiaryFull}
use Rattle.smil_diary.specs.Refusals.{of_book}
use Rattle.smil_model.specs.declared.diary.LogEntry.{LogEntry}
use Rattle.smil_model.specs.shown.Orders.{Presentation, course_of, as_of}
use Rattle.smil_model.specs.happening.Resolution.{diary_of}
use Rattle.smil_tree.proofs.ResultClauses.{on_err}
use Rattle.smil_cells.specs.CellsState.{with_logged}
use Rattle.smil_live.specs.Moves.{IsTooFull, heard_at}
use Rattle.smil_shown.proofs.SettledDiaries.{nothing_due}
use Rattle.smil_live.proofs.CellCounts.{IsCounted}
use Rattle.smil_live.proofs.RebuiltCounts.{counted_twice}
use Rattle.smil_live.proofs.ReplayedLogs.{fits, full_heard, not_below, refused_as}
use Rattle.smil_live.proofs.replay.hear_again.Given.{Over}
use Rattle.smil_live.proofs.replay.hear_again.Goals as goal
use Rattle.smil_live.proofs.replay.hear_again.Goals.{In_ok-hear}

pub hear-requires-clause-settled : goal.hear-requires-clause-settled
hear-requires-clause-settled g c = λ sound next first.
    nothing_due (course_of c.settle.new.self.presentation) c.settle.new.self.diary c.in_ok-settle.ensures.settled next first

pub returns-in_err-settle-clause-refused : goal.returns-in_err-settle-clause-refused
returns-in_err-settle-clause-refused g c =
    let s = c.args.cells.now in
    let x = c.args.entry.now in
    let there : to_z w64 (of_z w64 c.in_ok-again.again.moment) ≡ x.moment =
    ap (λ (e : LogEntry). to_z w64 (of_z w64 e.moment)) c.in_ok-again.ensures ∙ to_z-of_z w64 x.moment (fits s.presentation.now x.moment c.requires.from c.requires.within) in
    let fault = c.in_err-settle.field-0.0 in
    on_err (IsTooFull (heard_at s.presentation x)) c.from_residual-in_err-settle.result (of_book fault) c.from_residual-in_err-settle.ensures.1
    (refused_as (heard_at s.presentation x) (as_of s.presentation (nat_abs x.moment)) s fault c.requires.sound
    (subst (λ (z : ℤ). fault ≡ DiaryFull → (s.fault ≡ Some fault) ⊎ (diary_of (course_of (as_of s.presentation (nat_abs z))) ≡ None)) there c.in_err-settle.ensures.full)
    (full_heard (as_of s.presentation (nat_abs x.moment)) x c.requires.numbered (sym (not_below s.presentation.now x.moment c.requires.from))))

pub returns-in_err-hear-clause-refused : goal.returns-in_err-hear-clause-refused
returns-in_err-hear-clause-refused g c =
    let s = c.args.cells.now in
    let x = c.args.entry.now in
    let again = c.in_ok-again.again in
    let fault = c.in_err-hear.field-0.0 in
    let there : to_z w64 (of_z w64 again.moment) ≡ x.moment =
    ap (λ (e : LogEntry). to_z w64 (of_z w64 e.moment)) c.in_ok-again.ensures ∙ to_z-of_z w64 x.moment (fits s.presentation.now x.moment c.requires.from c.requires.within) in
    let same : with_logged c.settle.new.self.presentation again ≡ heard_at s.presentation x =
    ap (λ (q : Presentation). with_logged q again) (c.in_ok-settle.ensures.state ∙ ap (λ (z : ℤ). as_of s.presentation (nat_abs z)) there)
    ∙ ap (with_logged (as_of s.presentation (nat_abs x.moment))) c.in_ok-again.ensures in
    on_err (IsTooFull (heard_at s.presentation x)) c.from_residual-in_err-hear.result (of_book fault) c.from_residual-in_err-hear.ensures.1
    (refused_as (heard_at s.presentation x) (with_logged c.settle.new.self.presentation again) c.settle.new.self fault c.in_ok-settle.ensures.goes_on.sound c.in_err-hear.ensures.full
    (subst (λ (q : Presentation). diary_of (course_of q) ≡ None) same))

-- how often intervals were evaluated
counted : (g : Over) (c : In_ok-hear g) → IsCounted g.T.Table.counts c.args.cells.now c.hear.new.self c.args.steps.now c.hear.new.steps
counted g c =
    counted_twice g.T.Table.counts c.args.cells.now c.settle.new.self c.hear.new.self (c.in_ok-again.again ∷ []) c.args.steps.now c.settle.new.steps c.hear.new.steps
    (ap (λ (p : Presentation). p.document) c.in_ok-settle.ensures.state) (ap (λ (p : Presentation). p.log) c.in_ok-hear.ensures.state) c.in_ok-settle.ensures.settled c.in_ok-settle.ensures.goes_on c.in_ok-hear.ensures.goes_on
    c.settle.ensures.counted c.hear.ensures.counted c.in_ok-settle.ensures.most c.in_ok-settle.ensures.least c.in_ok-hear.ensures.most c.in_ok-hear.ensures.least

pub returns-clause-most : goal.returns-clause-most
returns-clause-most g c = (counted g (goal.at.returns-clause-most g c).In_ok-hear).most

pub returns-clause-least : goal.returns-clause-least
returns-clause-least g c = (counted g (goal.at.returns-clause-least g c).In_ok-hear).least
