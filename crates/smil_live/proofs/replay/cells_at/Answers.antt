use Rattle.std.proofs.Common.{◌≡◌, ◌≤◌, ◌≤ℤ◌, ◌∙◌, refl, ap, sym, subst, pos, ℤ, List, length, arith, to_z, of_z, w64, true, Some, None}
use Rattle.std.specs.Prelude.{nat_abs, ◌⊎◌}
use Rattle.std.proofs.lemmas.Int.{ints, to_z-of_z}
use Rattle.smil_model.specs.declared.diary.Entry.{Entry}
use Rattle.smil_model.specs.diary.Diary.{History}
use Rattle.smil_model.specs.diary.Lawful.{is_rising_from}
use Rattle.smil_model.specs.happening.Resolution.{diary_of}
use Rattle.smil_model.specs.shown.Orders.{course_of, as_of}
use Rattle.smil_diary.specs.declared.fault.BookFault.TheVariants.{DiaryFull}
use Rattle.smil_diary.specs.Refusals.{of_book}
use Rattle.smil_tree.proofs.ResultClauses.{on_err}
use Rattle.smil_live.specs.Moves.{IsTooFull, sought_of}
use Rattle.smil_live.proofs.RebuiltCounts.{least_anew}
use Rattle.smil_live.proofs.RebuiltSeek.{IsBack, arrived_back, back_by, may_go_back, most_back, not_after, not_beyond, refused_back, until_same}
use Rattle.smil_live.proofs.ReplayedLogs.{not_below}
use Rattle.smil_live.proofs.replay.cells_at.Given.{Over}
use Rattle.smil_live.proofs.replay.cells_at.Goals as goal
use Rattle.smil_live.proofs.replay.cells_at.Goals.{After-diary_until-len, In_ok-settle}

pub diary_until-len-requires : goal.diary_until-len-requires
diary_until-len-requires g c =
    subst (λ (l : List Entry). is_rising_from (pos 0) l ≡ true) (ap (λ (h : History). h.diary) c.past.ensures ∙ sym c.book.ensures) c.possible.ensures.lawful.moments

-- the entries up to it
back : (g : Over) (c : After-diary_until-len g) → IsBack c.args.cells.now c.args.to c.diary_until-len.result
back g c = record {
  state = c.requires.state;
  replayed = c.requires.replayed;
  before = back_by c.args.to c.args.cells.now.presentation.now c.requires.from c.requires.back;
  within = subst (λ (l : List Entry). c.diary_until-len.result ≤ length l) c.book.ensures c.diary_until-len.ensures.within;
  first = until_same c.diary_until-len.result c.book.result.now c.args.cells.now.diary c.args.to (to_z w64 (of_z w64 c.args.to)) c.book.ensures (to_z-of_z w64 c.args.to c.ranges.to) c.requires.from c.diary_until-len.ensures.first;
}

pub front-requires : goal.front-requires
front-requires g c = may_go_back (back g (goal.at.front-requires g c).After-diary_until-len)

pub settle-requires-clause-from : goal.settle-requires-clause-from
settle-requires-clause-from g c =
    let t = c.in_ok-earlier.earlier in
    let low = not_after (back g (goal.at.settle-requires-clause-from g c).After-diary_until-len) c.in_ok-earlier.ensures.rebuilt in
    subst (λ (z : ℤ). pos t.presentation.now ≤ℤ z) (not_below 0 c.args.to c.requires.from ∙ sym (to_z-of_z w64 c.args.to c.ranges.to)) (omega (arith, ints, low))

pub settle-requires-clause-within : goal.settle-requires-clause-within
settle-requires-clause-within g c = not_beyond c.args.cells.now.presentation c.args.to (to_z w64 (of_z w64 c.args.to)) c.requires.state c.requires.back (to_z-of_z w64 c.args.to c.ranges.to)

-- they are settled at it
settled_at : (g : Over) (c : In_ok-settle g) → c.settle.new.self.presentation ≡ as_of c.in_ok-earlier.earlier.presentation (nat_abs c.args.to)
settled_at g c = subst (λ (z : ℤ). c.settle.new.self.presentation ≡ as_of c.in_ok-earlier.earlier.presentation (nat_abs z)) (to_z-of_z w64 c.args.to c.ranges.to) c.in_ok-settle.ensures.state

pub returns-clause-ok : goal.returns-clause-ok
returns-clause-ok g c = arrived_back (back g (goal.at.returns-clause-ok g c).After-diary_until-len) c.in_ok-earlier.ensures.rebuilt (settled_at g (goal.at.returns-clause-ok g c).In_ok-settle) c.in_ok-settle.ensures.settled c.in_ok-settle.ensures.goes_on

pub returns-clause-most : goal.returns-clause-most
returns-clause-most g c =
    most_back (back g (goal.at.returns-clause-most g c).After-diary_until-len) c.in_ok-earlier.ensures.rebuilt (settled_at g (goal.at.returns-clause-most g c).In_ok-settle) c.in_ok-settle.ensures.settled c.in_ok-settle.ensures.goes_on
    g.T.Table.counts c.args.steps.now c.front.new.steps c.settle.new.steps c.front.ensures.counted c.settle.ensures.counted c.front.ensures.most c.in_ok-settle.ensures.most

pub returns-clause-least : goal.returns-clause-least
returns-clause-least g c =
    least_anew g.T.Table.counts (sought_of c.args.cells.now.presentation c.args.to) c.args.cells.now.presentation.document c.in_ok-earlier.earlier c.settle.new.self c.args.steps.now c.front.new.steps c.settle.new.steps (returns-clause-ok g c)
    c.in_ok-earlier.ensures.rebuilt.document_is refl c.front.ensures.counted c.settle.ensures.counted c.in_ok-earlier.ensures.least c.in_ok-settle.ensures.least

pub returns-in_err-settle-clause-refused : goal.returns-in_err-settle-clause-refused
returns-in_err-settle-clause-refused g c =
    let t = c.in_ok-earlier.earlier in
    let fault = c.in_err-settle.field-0.0 in
    on_err (IsTooFull (sought_of c.args.cells.now.presentation c.args.to)) c.from_residual-in_err-settle.result (of_book fault) c.from_residual-in_err-settle.ensures.1
    (refused_back (back g (goal.at.returns-in_err-settle-clause-refused g c).After-diary_until-len) c.in_ok-earlier.ensures.rebuilt fault
    (subst (λ (z : ℤ). fault ≡ DiaryFull → (t.fault ≡ Some fault) ⊎ (diary_of (course_of (as_of t.presentation (nat_abs z))) ≡ None)) (to_z-of_z w64 c.args.to c.ranges.to) c.in_err-settle.ensures.full))
