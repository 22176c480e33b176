use Rattle.std.proofs.Common.{rules, ◌≡◌, refl, sym, ◌∙◌, subst, arith, ◌-◌, ◌++◌, ◌≤ℤ◌, ℤ, pos, nat_abs, w64, to_z, of_z}
use Rattle.std.specs.Prelude.{OnOk}
use Rattle.std.proofs.lemmas.Int.{ints, to_z-of_z}
use Rattle.std.proofs.lemmas.Result.{on_ok_weaker}
use Rattle.smil_model.specs.declared.times.TheConstants.{HORIZON}
use Rattle.smil_model.specs.shown.Orders.{changes_between, changes_through, as_of}
use Rattle.smil_tree.proofs.ResultClauses.{on_err}
use Rattle.smil_report.proofs.Growing.{begins_by, begins_itself}
use Rattle.smil_live.specs.Moves.{IsShownAt, IsTooFull, told_of}
use Rattle.smil_live.proofs.CellCounts.{IsCounted, counted_first, counted_last, counted_then}
use Rattle.smil_live.proofs.MomentsPassed.{arrives, comes_nearer, due_from, passes_on, sets_out, too_full_then}
use Rattle.smil_live.proofs.ReplayedLogs.{fits}
use Rattle.smil_live.proofs.viewer.Viewer.pass_through.Given.{Over}
use Rattle.smil_live.proofs.viewer.Viewer.pass_through.Goals as goal
use Rattle.smil_live.proofs.viewer.Viewer.pass_through.Goals.{After-settle_once-2, In-Some, In_ok-settle_once}

not_above : (x y z : ℤ) → x ≤ℤ y → y ≤ℤ z → x ≤ℤ z
not_above x y z p q = omega (arith, ints, p, q)

pub loop-due-init : goal.loop-due-init
loop-due-init g c =
    let s = c.args.self.now.cells in
    let whole = to_z-of_z w64 c.args.to c.ranges.to in (
      sets_out g.I.ChangeItem.telling s c.args.self.now.seen c.args.out.now (to_z w64 (of_z w64 c.args.to)) c.requires.shown (subst (λ (v : ℤ). pos s.presentation.now ≤ℤ v) (sym whole) c.requires.may.0),
      refl,
      subst (λ (v : ℤ). v ≤ℤ HORIZON) (sym whole) c.requires.may.1,
      refl,
      refl,
      begins_itself c.args.out.now,
      counted_first g.T.Table.counts s c.args.steps.now,
    )

-- where what comes next is due on the way
module _ (g : Over) (c : In-Some g) where
  later : pos c.loop-due.self.cells.presentation.now ≤ℤ c.in-Some.due
  later = due_from c.loop-due.invariant.0 c.in-Some.ensures.first

  within : c.in-Some.due ≤ℤ HORIZON
  within = not_above c.in-Some.due (to_z w64 (of_z w64 c.args.to)) HORIZON c.in-Some.ensures.within c.loop-due.invariant.2

  whole : to_z w64 (of_z w64 c.in-Some.due) ≡ c.in-Some.due
  whole = to_z-of_z w64 c.in-Some.due (fits c.loop-due.self.cells.presentation.now c.in-Some.due later within)

pub settle_once-requires-clause-may : goal.settle_once-requires-clause-may
settle_once-requires-clause-may g c =
    let i = (goal.at.settle_once-requires-clause-may g c).In-Some in
    subst (λ (x : ℤ). (pos c.loop-due.self.cells.presentation.now ≤ℤ x) × (x ≤ℤ HORIZON)) (sym (whole g i)) (later g i, within g i)

pub returns-in_err-settle_once : goal.returns-in_err-settle_once
returns-in_err-settle_once g c =
    let p = c.args.self.now.cells.presentation in
    let s = c.loop-due.self.cells in
    let given = c.in_err-settle_once.field-0.0 in
    let v = c.loop-due.invariant in
    let e = c.in_err-settle_once.ensures.moved in
    let refused =
    on_err (IsTooFull (as_of p (nat_abs c.args.to))) c.from_residual.result given c.from_residual.ensures.1
    (subst (λ (x : ℤ). IsTooFull (as_of p (nat_abs x)) given) (to_z-of_z w64 c.args.to c.ranges.to)
    (too_full_then v.0 c.in-Some.ensures.first c.in-Some.ensures.within given
    (subst (λ (x : ℤ). IsTooFull (as_of s.presentation (nat_abs x)) given) (whole g (goal.at.returns-in_err-settle_once g c).In-Some) e.refused))) in
    record { ok = search rules; told = search rules; refused = refused; marked = e.marked ∙ v.3; owners_are = e.owners_are ∙ v.4; begins = begins_by c.args.out.now c.loop-due.out c.settle_once.new.out v.5 e.begins; counted = search rules; most = search rules; least = search rules }

-- the standing at that moment, and what is told there
there : (g : Over) (c : In_ok-settle_once g) → to_z w64 (of_z w64 c.in-Some.due) ≡ c.in-Some.due → IsShownAt (as_of c.loop-due.self.cells.presentation (nat_abs c.in-Some.due)) c.settle_once.new.self.cells c.settle_once.new.self.seen
    × (c.settle_once.new.out ≡ c.loop-due.out ++ told_of g.I.ChangeItem.telling c.loop-due.self.cells.presentation (changes_between c.loop-due.self.cells.presentation (as_of c.loop-due.self.cells.presentation (nat_abs c.in-Some.due))))
there g c whole =
    let s = c.loop-due.self.cells in (
      subst (λ (x : ℤ). IsShownAt (as_of s.presentation (nat_abs x)) c.settle_once.new.self.cells c.settle_once.new.self.seen) whole c.in_ok-settle_once.ensures.moved.ok,
      subst (λ (x : ℤ). c.settle_once.new.out ≡ c.loop-due.out ++ told_of g.I.ChangeItem.telling s.presentation (changes_between s.presentation (as_of s.presentation (nat_abs x)))) whole c.in_ok-settle_once.ensures.moved.told,
    )

pub loop-due-smaller : goal.loop-due-smaller
loop-due-smaller g c =
    let at = goal.at.loop-due-smaller g c in
    let due = there g at.In_ok-settle_once (whole g at.In-Some) in
    comes_nearer c.loop-due.invariant.0 c.in-Some.ensures.first c.in-Some.ensures.within due.0 due.1

pub loop-due-preserved : goal.loop-due-preserved
loop-due-preserved g c =
    let at = goal.at.loop-due-preserved g c in
    let due = there g at.In_ok-settle_once (whole g at.In-Some) in
    let v = c.loop-due.invariant in
    let e = c.in_ok-settle_once.ensures.moved in (
      passes_on v.0 c.in-Some.ensures.first c.in-Some.ensures.within due.0 due.1,
      refl,
      v.2,
      e.marked ∙ v.3,
      e.owners_are ∙ v.4,
      begins_by c.args.out.now c.loop-due.out c.settle_once.new.out v.5 e.begins,
      counted_then g.T.Table.counts c.args.self.now.cells c.loop-due.self.cells c.settle_once.new.self.cells _ c.settle_once.new.self.seen c.args.steps.now c.loop-due.steps c.settle_once.new.steps v.0.presentation_is v.6 e.counted e.ok
          c.in_ok-settle_once.ensures.goes_on e.most e.least,
    )

counted : (g : Over) (c : After-settle_once-2 g) → OnOk c.settle_once-2.result (IsCounted g.T.Table.counts c.args.self.now.cells c.settle_once-2.new.self.cells c.args.steps.now c.settle_once-2.new.steps)
counted g c =
    let v = c.loop-due.invariant in
    let e = c.settle_once-2.ensures.moved in
    counted_last c.settle_once-2.result g.T.Table.counts c.args.self.now.cells c.loop-due.self.cells c.settle_once-2.new.self.cells _ c.settle_once-2.new.self.seen c.args.steps.now c.loop-due.steps c.settle_once-2.new.steps
    v.0.presentation_is v.6 e.counted e.ok c.settle_once-2.ensures.goes_on e.most e.least

pub returns : goal.returns
returns g c =
    let v = c.loop-due.invariant in
    let p = c.args.self.now.cells.presentation in
    let to = to_z w64 (of_z w64 c.args.to) in
    let r = c.settle_once-2.result in
    let e = c.settle_once-2.ensures.moved in
    record {
      ok = search rules;
      told =
          on_ok_weaker r
          (λ (q : c.settle_once-2.new.out ≡ c.loop-due.out ++ told_of g.I.ChangeItem.telling c.loop-due.self.cells.presentation (changes_between c.loop-due.self.cells.presentation (as_of c.loop-due.self.cells.presentation (nat_abs to)))).
          subst (λ (x : ℤ). c.settle_once-2.new.out ≡ c.args.out.now ++ told_of g.I.ChangeItem.telling p (changes_through p (nat_abs x - p.now))) (to_z-of_z w64 c.args.to c.ranges.to)
          (arrives v.0 c.in_default.ensures.none q))
          e.told;
      refused = search rules;
      marked = e.marked ∙ v.3;
      owners_are = e.owners_are ∙ v.4;
      begins = begins_by c.args.out.now c.loop-due.out c.settle_once-2.new.out v.5 e.begins;
      counted = search rules;
      most = on_ok_weaker r (λ (is : IsCounted g.T.Table.counts c.args.self.now.cells c.settle_once-2.new.self.cells c.args.steps.now c.settle_once-2.new.steps). is.most) (counted g c);
      least = on_ok_weaker r (λ (is : IsCounted g.T.Table.counts c.args.self.now.cells c.settle_once-2.new.self.cells c.args.steps.now c.settle_once-2.new.steps). is.least) (counted g c);
    }
