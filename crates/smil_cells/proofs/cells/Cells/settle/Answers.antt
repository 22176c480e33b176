use Rattle.std.proofs.Common.{◌≡◌, ◌-◌, ◌≤◌, refl, subst, ℤ, Some, None, OnOk, w64}
use Rattle.std.specs.Prelude.{◌⊎◌, IfErr, nat_abs}
use Rattle.std.proofs.lemmas.Int.{to_z-of_z}
use Rattle.std.proofs.lemmas.Result.{IfErr-weaker, on_ok_weaker}
use Rattle.smil_model.specs.happening.Resolution.{diary_of}
use Rattle.smil_model.specs.shown.Orders.{course_of, as_of}
use Rattle.smil_diary.specs.declared.fault.BookFault.{BookFault}
use Rattle.smil_diary.specs.declared.fault.BookFault.TheVariants.{DiaryFull}
use Rattle.smil_cells.specs.CellsState.{CellsState, GoesOn, IsFront, IsRefusing, WhereTold, fresh_since, reached_since}
use Rattle.smil_cells.specs.Evaluated.{HasEvaluatedSince}
use Rattle.smil_cells.specs.Settling.{HasRefused, HasSettled, IsCounted}
use Rattle.smil_cells.specs.Shown.{OnlyChanged, touched_at}
use Rattle.smil_cells.specs.Standings.{standing_of}
use Rattle.smil_cells.proofs.FullDiaryRefusals.{none_is_there, front_is_there}
use Rattle.smil_cells.proofs.HeardSettling.{refusing_from}
use Rattle.smil_cells.proofs.GroupEvaluations.{all_changed, evaluated_from, only_from}
use Rattle.smil_cells.proofs.cells.Cells.settle.Given.{Over}
use Rattle.smil_cells.proofs.cells.Cells.settle.Goals as goal
use Rattle.smil_cells.proofs.cells.Cells.settle.Goals.{After-settle_through}

module _ (g : Over) (c : After-settle_through g) where
  abbrev was : CellsState
  was = standing_of c.self.inside.past c.self.inside.moment c.self.inside.fault c.self.inside.mark c.self.inside.touched

  abbrev cut : CellsState
  cut = standing_of c.self.inside.past c.self.inside.moment c.self.inside.fault c.self.inside.mark c.cut_back.new.self

  abbrev new : CellsState
  new = c.settle_through.new.self

  abbrev Settled : Type 0
  Settled = HasSettled (nat_abs c.args.until) (touched_at cut c.clear.new.self) new

  abbrev Counted : Type 0
  Counted = IsCounted g.T.Table.counts HasEvaluatedSince cut new (c.settle_through.new.steps - c.args.steps.now)

  abbrev Refused : BookFault → Type 0
  Refused = HasRefused (course_of (as_of was.presentation (nat_abs c.args.until))) cut new

  settled : OnOk c.settle_through.result Settled
  settled = subst (λ (v : ℤ). OnOk c.settle_through.result (HasSettled (nat_abs v) (touched_at cut c.clear.new.self) new)) (to_z-of_z w64 c.args.until c.ranges.until) c.settle_through.ensures.settled

  refused : IfErr c.settle_through.result Refused
  refused = subst (λ (v : ℤ). IfErr c.settle_through.result (HasRefused (course_of (as_of was.presentation (nat_abs v))) cut new)) (to_z-of_z w64 c.args.until c.ranges.until) c.settle_through.ensures.refused

  full : IfErr c.settle_through.result (λ fault. fault ≡ DiaryFull → IsFront (course_of (as_of was.presentation (nat_abs c.args.until))) new.diary)
  full = IfErr-weaker c.settle_through.result Refused (λ fault. fault ≡ DiaryFull → IsFront (course_of (as_of was.presentation (nat_abs c.args.until))) new.diary) (λ fault q. q.full) refused

pub returns-clause-state : goal.returns-clause-state
returns-clause-state g c =
    subst (λ (s : CellsState). OnOk c.settle_through.result (c.settle_through.new.self.presentation ≡ as_of s.presentation (nat_abs c.args.until))) c.self.view_is
    (on_ok_weaker c.settle_through.result (λ (k : Settled g c). k.state) (settled g c))

pub returns-clause-settled : goal.returns-clause-settled
returns-clause-settled g c =
    on_ok_weaker c.settle_through.result (λ (k : Settled g c). k.settled) (settled g c)

pub returns-clause-goes_on : goal.returns-clause-goes_on
returns-clause-goes_on g c =
    subst (λ (s : CellsState). OnOk c.settle_through.result (GoesOn s c.settle_through.new.self)) c.self.view_is
    (on_ok_weaker {Q = GoesOn (was g c) c.settle_through.new.self} c.settle_through.result
    (λ (k : Settled g c). record { diary = k.goes_on.diary; sound = k.goes_on.sound; marked = k.goes_on.marked; touched = k.goes_on.touched; views = k.goes_on.views })
    (settled g c))

pub returns-clause-only : goal.returns-clause-only
returns-clause-only g c =
    let cut = cut g c in
    subst (λ (s : CellsState). OnOk c.settle_through.result (OnlyChanged s c.settle_through.new.self)) c.self.view_is
    (on_ok_weaker c.settle_through.result
    (λ (k : Settled g c). only_from cut (was g c) c.settle_through.new.self refl (all_changed cut c.settle_through.new.self c.clear.new.self c.clear.ensures k.only))
    (settled g c))

pub returns-clause-refused : goal.returns-clause-refused
returns-clause-refused g c =
    let i = c.self.inside in
    let was = was g c in
    let new = c.settle_through.new.self in
    subst (λ (s : CellsState). IfErr c.settle_through.result (IsRefusing s new)) c.self.view_is
    (IfErr-weaker c.settle_through.result (Refused g c) (IsRefusing was new) (λ f q. refusing_from i.past i.moment i.fault i.mark i.touched c.cut_back.new.self new f q.refusing) (refused g c))

pub returns-clause-full : goal.returns-clause-full
returns-clause-full g c =
    let was = was g c in
    subst (λ (s : CellsState). IfErr c.settle_through.result (λ fault. fault ≡ DiaryFull → (s.fault ≡ Some fault) ⊎ (diary_of (course_of (as_of s.presentation (nat_abs c.args.until))) ≡ None))) c.self.view_is
    (none_is_there (course_of (as_of was.presentation (nat_abs c.args.until))) c.settle_through.new.self.diary was.fault c.settle_through.result c.too_long_is_full.ensures (full g c))

pub returns-clause-front : goal.returns-clause-front
returns-clause-front g c =
    let was = was g c in
    subst (λ (s : CellsState). IfErr c.settle_through.result (λ fault. fault ≡ DiaryFull → (s.fault ≡ Some fault) ⊎ IsFront (course_of (as_of s.presentation (nat_abs c.args.until))) c.settle_through.new.self.diary)) c.self.view_is
    (front_is_there (course_of (as_of was.presentation (nat_abs c.args.until))) c.settle_through.new.self.diary was.fault c.settle_through.result (full g c))

pub returns-clause-most : goal.returns-clause-most
returns-clause-most g c =
    subst (λ (s : CellsState). OnOk c.settle_through.result (WhereTold g.T.Table.counts (c.settle_through.new.steps - c.args.steps.now ≤ reached_since s c.settle_through.new.self))) c.self.view_is
    (on_ok_weaker c.settle_through.result (λ (k : Counted g c). k.most) c.settle_through.ensures.evaluated)

pub returns-clause-least : goal.returns-clause-least
returns-clause-least g c =
    subst (λ (s : CellsState). OnOk c.settle_through.result (WhereTold g.T.Table.counts (fresh_since s c.settle_through.new.self ≤ c.settle_through.new.steps - c.args.steps.now))) c.self.view_is
    (on_ok_weaker c.settle_through.result (λ (k : Counted g c). k.least) c.settle_through.ensures.evaluated)

pub returns-clause-evaluated : goal.returns-clause-evaluated
returns-clause-evaluated g c =
    let new = c.settle_through.new.self in
    let n = c.settle_through.new.steps - c.args.steps.now in
    subst (λ (s : CellsState). OnOk c.settle_through.result (WhereTold g.T.Table.counts (HasEvaluatedSince s new n))) c.self.view_is
    (on_ok_weaker c.settle_through.result
    (λ (k : Counted g c). evaluated_from (cut g c) (was g c) new g.T.Table.counts n refl refl k.evaluated)
    c.settle_through.ensures.evaluated)
