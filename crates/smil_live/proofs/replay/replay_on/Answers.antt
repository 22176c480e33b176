use Rattle.std.proofs.Common.{◌≡◌, ◌≤◌, ◌+◌, ◌∙◌, sym, subst, ap, ℕ, ℤ, w64, to_z, of_z, Some, None, List, ◌∷◌, [], length, true, add_assoc, add-zero, append-nil}
use Rattle.std.specs.Prelude.{◌⊎◌, int_le, nat_abs}
use Rattle.std.proofs.lemmas.Int.{to_z-of_z}
use Rattle.smil_model.specs.declared.diary.LogEntry.{LogEntry}
use Rattle.smil_model.specs.declared.times.TheConstants.{HORIZON}
use Rattle.smil_model.specs.happening.Resolution.{diary_of}
use Rattle.smil_model.specs.shown.Orders.{Presentation, course_of, as_of}
use Rattle.smil_model.proofs.NumberOrders.{le_from}
use Rattle.smil_diary.specs.declared.fault.BookFault.TheVariants.{DiaryFull}
use Rattle.smil_diary.specs.Refusals.{of_book}
use Rattle.smil_tree.proofs.ResultClauses.{on_err}
use Rattle.smil_live.specs.Moves.{IsTooFull, IsUnderWay, replay_of}
use Rattle.smil_live.proofs.CellCounts.{IsCounted, counted_first}
use Rattle.smil_live.proofs.LogParts.{all_behind, behind_at}
use Rattle.smil_live.proofs.RebuiltCounts.{counted_more, named_since, none_since}
use Rattle.smil_live.proofs.ReplayedLogs.{arrived, fits, goes_on, heard_within, next_of, not_below, refused_there, too_full}
use Rattle.smil_live.proofs.replay.replay_on.Given.{Over}
use Rattle.smil_live.proofs.replay.replay_on.Goals as goal
use Rattle.smil_live.proofs.replay.replay_on.Goals.{In_ok-settle}

pub slice_bounds-entry-items-start : goal.slice_bounds-entry-items-start
slice_bounds-entry-items-start g c =
    let p = replay_of c.args.cells.now.presentation.document c.args.replay.log.now c.args.replay.to in
    let from = length c.args.cells.now.presentation.log in
    let heard : c.len-heard.result ≡ from = c.len-heard.ensures ∙ ap (λ (l : List LogEntry). length l) c.log.ensures in
    subst (λ (n : ℕ). n ≤ length c.args.replay.log.now) (sym heard) (heard_within p from c.args.cells.now c.requires.way)

pub loop-entry-init : goal.loop-entry-init
loop-entry-init g c =
    let p = replay_of c.args.cells.now.presentation.document c.args.replay.log.now c.args.replay.to in
    let from = length c.args.cells.now.presentation.log in (
      subst (λ (n : ℕ). IsUnderWay p n c.args.cells.now) (sym (add-zero from)) c.requires.way,
      counted_first g.T.Table.counts c.args.cells.now c.args.steps.now,
      none_since from c.args.cells.now,
    )

pub hear_again-requires : goal.hear_again-requires
hear_again-requires g c =
    let p = replay_of c.args.cells.now.presentation.document c.args.replay.log.now c.args.replay.to in
    let from = length c.args.cells.now.presentation.log in
    let i = c.loop-entry.entry-index in
    let heard : c.len-heard.result ≡ from = c.len-heard.ensures ∙ ap (λ (l : List LogEntry). length l) c.log.ensures in
    let next = next_of p c.requires.state (from + i) c.loop-entry.cells c.loop-entry.invariant.0 c.entry-item.result
    (behind_at c.args.replay.log.now c.len-heard.result from i c.entry-item.result heard c.loop-entry-test.true c.entry-item.is) in
    record {
      sound = c.loop-entry.invariant.0.sound;
      from = next.from;
      within = next.within;
      may = next.may;
      numbered = next.numbered;
    }

pub returns-in_err-hear_again-clause-refused : goal.returns-in_err-hear_again-clause-refused
returns-in_err-hear_again-clause-refused g c =
    let p = replay_of c.args.cells.now.presentation.document c.args.replay.log.now c.args.replay.to in
    let from = length c.args.cells.now.presentation.log in
    let i = c.loop-entry.entry-index in
    let heard : c.len-heard.result ≡ from = c.len-heard.ensures ∙ ap (λ (l : List LogEntry). length l) c.log.ensures in
    let given = c.in_err-hear_again.field-0.0 in
    on_err (IsTooFull p) c.from_residual.result given c.from_residual.ensures.1
    (too_full p c.requires.state (from + i) c.loop-entry.cells c.loop-entry.invariant.0 c.entry-item.result
    (behind_at c.args.replay.log.now c.len-heard.result from i c.entry-item.result heard c.loop-entry-test.true c.entry-item.is) given c.in_err-hear_again.ensures.refused)

pub loop-entry-preserved : goal.loop-entry-preserved
loop-entry-preserved g c =
    let p = replay_of c.args.cells.now.presentation.document c.args.replay.log.now c.args.replay.to in
    let from = length c.args.cells.now.presentation.log in
    let i = c.loop-entry.entry-index in
    let heard : c.len-heard.result ≡ from = c.len-heard.ensures ∙ ap (λ (l : List LogEntry). length l) c.log.ensures in
    let x = c.entry-item.result in
    let mid = c.loop-entry.cells in
    let new = c.hear_again.new.cells in (
      subst (λ (n : ℕ). IsUnderWay p n new) (add_assoc from i 1)
          (goes_on p c.requires.state (from + i) mid c.loop-entry.invariant.0 x
          (behind_at c.args.replay.log.now c.len-heard.result from i x heard c.loop-entry-test.true c.entry-item.is) new c.in_ok-hear_again.ensures.state c.in_ok-hear_again.ensures.sound c.in_ok-hear_again.ensures.marked),
      counted_more g.T.Table.counts c.args.cells.now mid new (x ∷ []) c.args.steps.now c.loop-entry.steps c.hear_again.new.steps c.loop-entry.invariant.0.document_is (ap (λ (q : Presentation). q.log) c.in_ok-hear_again.ensures.state)
          c.loop-entry.invariant.2 c.loop-entry.invariant.1 c.in_ok-hear_again.ensures.grown c.hear_again.ensures.counted c.in_ok-hear_again.ensures.most c.in_ok-hear_again.ensures.least,
      named_since c.args.cells.now new c.in_ok-hear_again.ensures.settled,
    )

pub returns-clause-ok : goal.returns-clause-ok
returns-clause-ok g c =
    let p = replay_of c.args.cells.now.presentation.document c.args.replay.log.now c.args.replay.to in
    let from = length c.args.cells.now.presentation.log in
    let i = c.loop-entry.entry-index in
    let heard : c.len-heard.result ≡ from = c.len-heard.ensures ∙ ap (λ (l : List LogEntry). length l) c.log.ensures in
    let s = c.loop-entry.cells in
    let to = c.args.replay.to in
    let there : to_z w64 (of_z w64 to) ≡ to = to_z-of_z w64 to (fits 0 to c.requires.from (le_from to HORIZON (subst (λ (z : ℤ). int_le z HORIZON ≡ true) (not_below 0 to c.requires.from) c.requires.state.now))) in
    arrived p c.requires.state (from + i) s c.loop-entry.invariant.0 (all_behind c.args.replay.log.now c.len-heard.result from i heard c.loop-entry-test.false) c.settle.new.self
    (subst (λ (z : ℤ). c.settle.new.self.presentation ≡ as_of s.presentation (nat_abs z)) there c.in_ok-settle.ensures.state) c.in_ok-settle.ensures.settled c.in_ok-settle.ensures.goes_on

pub returns-in_err-settle-clause-refused : goal.returns-in_err-settle-clause-refused
returns-in_err-settle-clause-refused g c =
    let p = replay_of c.args.cells.now.presentation.document c.args.replay.log.now c.args.replay.to in
    let from = length c.args.cells.now.presentation.log in
    let i = c.loop-entry.entry-index in
    let heard : c.len-heard.result ≡ from = c.len-heard.ensures ∙ ap (λ (l : List LogEntry). length l) c.log.ensures in
    let s = c.loop-entry.cells in
    let to = c.args.replay.to in
    let fault = c.in_err-settle.field-0.0 in
    let there : to_z w64 (of_z w64 to) ≡ to = to_z-of_z w64 to (fits 0 to c.requires.from (le_from to HORIZON (subst (λ (z : ℤ). int_le z HORIZON ≡ true) (not_below 0 to c.requires.from) c.requires.state.now))) in
    on_err (IsTooFull p) c.from_residual-in_err-settle.result (of_book fault) c.from_residual-in_err-settle.ensures.1
    (refused_there p c.requires.state (from + i) s c.loop-entry.invariant.0 (all_behind c.args.replay.log.now c.len-heard.result from i heard c.loop-entry-test.false) fault
    (subst (λ (z : ℤ). fault ≡ DiaryFull → (s.fault ≡ Some fault) ⊎ (diary_of (course_of (as_of s.presentation (nat_abs z))) ≡ None)) there c.in_err-settle.ensures.full))

-- how often intervals were evaluated
counted : (g : Over) (c : In_ok-settle g) → IsCounted g.T.Table.counts c.args.cells.now c.settle.new.self c.args.steps.now c.settle.new.steps
counted g c =
    let mid = c.loop-entry.cells in
    counted_more g.T.Table.counts c.args.cells.now mid c.settle.new.self [] c.args.steps.now c.loop-entry.steps c.settle.new.steps c.loop-entry.invariant.0.document_is
    (ap (λ (q : Presentation). q.log) c.in_ok-settle.ensures.state ∙ sym (append-nil mid.presentation.log)) c.loop-entry.invariant.2 c.loop-entry.invariant.1 c.in_ok-settle.ensures.goes_on.diary c.settle.ensures.counted c.in_ok-settle.ensures.most c.in_ok-settle.ensures.least

pub returns-clause-most : goal.returns-clause-most
returns-clause-most g c = (counted g (goal.at.returns-clause-most g c).In_ok-settle).most

pub returns-clause-least : goal.returns-clause-least
returns-clause-least g c = (counted g (goal.at.returns-clause-least g c).In_ok-settle).least
