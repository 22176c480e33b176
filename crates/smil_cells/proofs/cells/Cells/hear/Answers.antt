use Rattle.std.proofs.Common.{◌≡◌, ◌∙◌, ◌-◌, ◌≤◌, ℕ, refl, ap, subst, Some, None, inr, OnOk, w64, to_z, of_z}
use Rattle.std.specs.Prelude.{◌⊎◌, IfErr, nat_abs}
use Rattle.std.proofs.lemmas.Int.{to_z-of_z}
use Rattle.std.proofs.lemmas.Result.{IfErr-weaker, on_ok_weaker}
use Rattle.smil_model.specs.happening.Resolution.{diary_of}
use Rattle.smil_model.specs.shown.Orders.{Presentation, course_of, as_of}
use Rattle.smil_diary.specs.declared.fault.BookFault.{BookFault}
use Rattle.smil_diary.specs.declared.fault.BookFault.TheVariants.{DiaryFull}
use Rattle.smil_rounds.proofs.CurrentRowsExact.{where_both}
use Rattle.smil_rounds.proofs.MomentEntries.{fits}
use Rattle.smil_cells.specs.CellsState.{CellsState, GoesOn, IsFront, IsRefusing, WhereTold, fresh_since, reached_since, with_logged}
use Rattle.smil_cells.specs.Evaluated.{HasEvaluatedSince}
use Rattle.smil_cells.specs.Settling.{HasRefused, HasSettled, IsCounted}
use Rattle.smil_cells.specs.Shown.{OnlyChanged, touched_at}
use Rattle.smil_cells.specs.Standings.{standing_of}
use Rattle.smil_cells.proofs.GroupEvaluations.{all_changed_heard, evaluated_from, evaluated_heard, only_from}
use Rattle.smil_cells.proofs.HeardSettling.{refusing_on, state_on, front_on, goes_on_heard, reached_heard_on, fresh_heard_on, refusing_from}
use Rattle.smil_cells.proofs.FullDiaryRefusals.{none_is_there, front_is_there}
use Rattle.smil_cells.proofs.cells.Cells.hear.Given.{Over}
use Rattle.smil_cells.proofs.cells.Cells.hear.Goals as goal
use Rattle.smil_cells.proofs.cells.Cells.hear.Goals.{After-settle_through}

pub returns-in-Err-clause-refused : goal.returns-in-Err-clause-refused
returns-in-Err-clause-refused g c =
    let i = c.self.inside in
    subst (λ (s : CellsState). IsRefusing s c.take_in.new.self c.in-Err.fault) c.self.view_is
    (refusing_from i.past i.moment i.fault i.mark i.touched c.cut_back.new.self c.take_in.new.self c.in-Err.fault c.in-Err.ensures.refused.refusing)

pub returns-in-Err-clause-full : goal.returns-in-Err-clause-full
returns-in-Err-clause-full g c =
    let i = c.self.inside in
    λ e. subst (λ (s : CellsState). (s.fault ≡ Some c.in-Err.fault) ⊎ (diary_of (course_of (with_logged s.presentation c.args.entry)) ≡ None)) c.self.view_is
    (let front = c.in-Err.ensures.refused.full e in
    inr (c.too_long_is_full.ensures (course_of (with_logged (standing_of i.past i.moment i.fault i.mark c.cut_back.new.self).presentation c.args.entry)) front.at front.reached front.many))

pub returns-in-Err-clause-front : goal.returns-in-Err-clause-front
returns-in-Err-clause-front g c =
    λ e. subst (λ (s : CellsState). (s.fault ≡ Some c.in-Err.fault) ⊎ IsFront (course_of (with_logged s.presentation c.args.entry)) c.take_in.new.self.diary) c.self.view_is
    (inr (c.in-Err.ensures.refused.full e))

-- before it, with nothing touched, with the entry heard, and settled
module _ (g : Over) (c : After-settle_through g) where
  abbrev was : CellsState
  was = standing_of c.self.inside.past c.self.inside.moment c.self.inside.fault c.self.inside.mark c.self.inside.touched

  abbrev cut : CellsState
  cut = standing_of c.self.inside.past c.self.inside.moment c.self.inside.fault c.self.inside.mark c.cut_back.new.self

  abbrev first : CellsState
  first = touched_at cut c.clear.new.self

  abbrev mid : CellsState
  mid = touched_at c.take_in.new.self c.take_in.new.places

  abbrev new : CellsState
  new = c.settle_through.new.self

  abbrev now : ℕ
  now = nat_abs (to_z w64 (of_z w64 c.self-2.inside.moment))

  here : now ≡ mid.presentation.now
  here =
      ap nat_abs (to_z-of_z w64 c.self-2.inside.moment (fits c.self-2.inside.moment c.self-2.invariant.present.from c.self-2.invariant.present.within))
      ∙ ap (λ (s : CellsState). s.presentation.now) c.self-2.view_is

  abbrev Settled : Type 0
  Settled = HasSettled now mid new

  abbrev Counted : Type 0
  Counted = IsCounted g.T.Table.counts HasEvaluatedSince c.take_in.new.self new (c.settle_through.new.steps - c.take_in.new.steps)

  full : IfErr c.settle_through.result (λ fault. fault ≡ DiaryFull → IsFront (course_of (with_logged was.presentation c.args.entry)) new.diary)
  full =
      IfErr-weaker c.settle_through.result (HasRefused (course_of (as_of mid.presentation now)) c.take_in.new.self new) (λ fault. fault ≡ DiaryFull → IsFront (course_of (with_logged was.presentation c.args.entry)) new.diary)
      (λ f q e. front_on first mid c.args.entry c.in_default-take_in.ensures.heard now here new.diary (q.full e)) c.settle_through.ensures.refused

pub returns-clause-state : goal.returns-clause-state
returns-clause-state g c =
    subst (λ (s : CellsState). OnOk c.settle_through.result (c.settle_through.new.self.presentation ≡ with_logged s.presentation c.args.entry)) c.self.view_is
    (on_ok_weaker c.settle_through.result
    (λ (k : Settled g c). state_on (first g c) (mid g c) c.args.entry c.in_default-take_in.ensures.heard (now g c) (here g c) c.settle_through.new.self k.state)
    c.settle_through.ensures.settled)

pub returns-clause-settled : goal.returns-clause-settled
returns-clause-settled g c = on_ok_weaker c.settle_through.result (λ (k : Settled g c). k.settled) c.settle_through.ensures.settled

pub returns-clause-goes_on : goal.returns-clause-goes_on
returns-clause-goes_on g c =
    subst (λ (s : CellsState). OnOk c.settle_through.result (GoesOn s c.settle_through.new.self)) c.self.view_is
    (on_ok_weaker {Q = GoesOn (was g c) c.settle_through.new.self} c.settle_through.result
    (λ (k : Settled g c).
    let on = goes_on_heard (first g c) (mid g c) c.args.entry c.in_default-take_in.ensures.heard (now g c) (here g c) c.settle_through.new.self k.state k.goes_on k.more in
    record { diary = on.diary; sound = on.sound; marked = on.marked; touched = on.touched; views = on.views })
    c.settle_through.ensures.settled)

pub returns-clause-refused : goal.returns-clause-refused
returns-clause-refused g c =
    let i = c.self.inside in
    let new = c.settle_through.new.self in
    subst (λ (s : CellsState). IfErr c.settle_through.result (IsRefusing s new)) c.self.view_is
    (IfErr-weaker c.settle_through.result (HasRefused (course_of (as_of (mid g c).presentation (now g c))) c.take_in.new.self new) (IsRefusing (was g c) new)
    (λ f q.
    refusing_from i.past i.moment i.fault i.mark i.touched (first g c).touched new f
    (refusing_on (first g c) (mid g c) c.args.entry c.in_default-take_in.ensures.heard new f (record { fault_is = q.refusing.fault_is; document = q.refusing.document; marked = q.refusing.marked })))
    c.settle_through.ensures.refused)

pub returns-clause-full : goal.returns-clause-full
returns-clause-full g c =
    subst (λ (s : CellsState). IfErr c.settle_through.result (λ (fault : BookFault). fault ≡ DiaryFull → (s.fault ≡ Some fault) ⊎ (diary_of (course_of (with_logged s.presentation c.args.entry)) ≡ None))) c.self.view_is
    (none_is_there (course_of (with_logged (was g c).presentation c.args.entry)) c.settle_through.new.self.diary c.self.inside.fault c.settle_through.result c.too_long_is_full.ensures (full g c))

pub returns-clause-front : goal.returns-clause-front
returns-clause-front g c =
    subst (λ (s : CellsState). IfErr c.settle_through.result (λ (fault : BookFault). fault ≡ DiaryFull → (s.fault ≡ Some fault) ⊎ IsFront (course_of (with_logged s.presentation c.args.entry)) c.settle_through.new.self.diary)) c.self.view_is
    (front_is_there (course_of (with_logged (was g c).presentation c.args.entry)) c.settle_through.new.self.diary c.self.inside.fault c.settle_through.result (full g c))

pub returns-clause-most : goal.returns-clause-most
returns-clause-most g c =
    let new = c.settle_through.new.self in
    let all = c.settle_through.new.steps - c.args.steps.now in
    subst (λ (s : CellsState). OnOk c.settle_through.result (WhereTold g.T.Table.counts (all ≤ reached_since s new))) c.self.view_is
    (where_both c.settle_through.result (Settled g c) (Counted g c) (WhereTold g.T.Table.counts (all ≤ reached_since (was g c) new)) c.settle_through.ensures.settled c.settle_through.ensures.evaluated
    (λ k t. reached_heard_on (first g c) (mid g c) c.args.entry c.in_default-take_in.ensures.heard (now g c) (here g c) new k.state k.goes_on c.args.steps.now c.take_in.new.steps c.settle_through.new.steps g.T.Table.counts c.take_in.ensures.counted c.settle_through.ensures.counted c.in_default-take_in.ensures.evaluated.most t.most))

pub returns-clause-least : goal.returns-clause-least
returns-clause-least g c =
    let new = c.settle_through.new.self in
    let all = c.settle_through.new.steps - c.args.steps.now in
    subst (λ (s : CellsState). OnOk c.settle_through.result (WhereTold g.T.Table.counts (fresh_since s new ≤ all))) c.self.view_is
    (where_both c.settle_through.result (Settled g c) (Counted g c) (WhereTold g.T.Table.counts (fresh_since (was g c) new ≤ all)) c.settle_through.ensures.settled c.settle_through.ensures.evaluated
    (λ k t. fresh_heard_on (first g c) (mid g c) c.args.entry c.in_default-take_in.ensures.heard (now g c) (here g c) new k.state k.goes_on c.args.steps.now c.take_in.new.steps c.settle_through.new.steps g.T.Table.counts c.take_in.ensures.counted c.settle_through.ensures.counted c.in_default-take_in.ensures.evaluated.least t.least))

pub returns-clause-evaluated : goal.returns-clause-evaluated
returns-clause-evaluated g c =
    let flag = g.T.Table.counts in
    let new = c.settle_through.new.self in
    let all = c.settle_through.new.steps - c.args.steps.now in
    let later = c.settle_through.new.steps - c.take_in.new.steps in
    subst (λ (s : CellsState). OnOk c.settle_through.result (WhereTold flag (HasEvaluatedSince s new all))) c.self.view_is
    (where_both c.settle_through.result (Settled g c) (Counted g c) (WhereTold flag (HasEvaluatedSince (was g c) new all)) c.settle_through.ensures.settled c.settle_through.ensures.evaluated
    (λ k t.
    evaluated_from (first g c) (was g c) new flag all refl refl
    (evaluated_heard (first g c) (mid g c) c.args.entry c.in_default-take_in.ensures.heard new (ap (λ (p : Presentation). p.log) k.state) c.args.steps.now c.take_in.new.steps c.settle_through.new.steps flag c.take_in.ensures.counted c.settle_through.ensures.counted c.in_default-take_in.ensures.evaluated.evaluated
    (evaluated_from c.take_in.new.self (mid g c) new flag later refl refl t.evaluated))))

pub returns-clause-only : goal.returns-clause-only
returns-clause-only g c =
    let new = c.settle_through.new.self in
    subst (λ (s : CellsState). OnOk c.settle_through.result (OnlyChanged s new)) c.self.view_is
    (on_ok_weaker c.settle_through.result
    (λ (k : Settled g c).
    only_from (cut g c) (was g c) new refl
    (all_changed_heard (cut g c) c.take_in.new.self c.clear.new.self c.take_in.new.places c.args.entry c.in_default-take_in.ensures.heard c.clear.ensures c.in_default-take_in.ensures.only new
    (ap (λ (p : Presentation). p.document) k.state) (ap (λ (p : Presentation). p.log) k.state) k.goes_on.diary k.only))
    c.settle_through.ensures.settled)
