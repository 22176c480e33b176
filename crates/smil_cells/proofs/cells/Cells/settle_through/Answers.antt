use Rattle.std.proofs.Common.{refl, sym, ◌∙◌, ap, subst, arith, ◌≡◌, ◌+◌, ◌-◌, ◌≤◌, List, length, drop, ◌≤ℤ◌, ◌+ℤ◌, ℕ, ℤ, pos, nat_abs, None, w64, to_z, of_z}
use Rattle.smil_model.specs.declared.times.TheConstants.{HORIZON as the_horizon}
use Rattle.smil_model.specs.declared.diary.Entry.{Entry}
use Rattle.smil_model.specs.declared.diary.LogEntry.{LogEntry}
use Rattle.smil_model.specs.reach.Bounds.{reaches}
use Rattle.smil_model.specs.shown.Orders.{Presentation, as_of, course_of}
use Rattle.smil_cells.specs.CellsState.{NothingBefore, CellsState, WhereTold}
use Rattle.std.proofs.lemmas.Int.{to_z-of_z}
use Rattle.smil_cells.proofs.SettlingSteps.{IsRest, rested, below, sooner, no_fewer, begun, nothing_reached, nothing_fresh, onward, fewer_free, reached_on, fresh_on, front_later, touched_anew, touched_refused, goes_on, stay_touched, fresh_at_rest}
use Rattle.smil_model.specs.document.Document.{Document}
use Rattle.smil_model.specs.document.Valid.{IsNumberedTree}
use Rattle.smil_model.specs.document.Closure.{has}
use Rattle.smil_diary.specs.declared.fault.BookFault.TheVariants.{Memory}
use Rattle.smil_cells.proofs.FullDiaryRefusals.{for_memory}
use Rattle.smil_cells.specs.Shown.{elements_at, touched_at}
use Rattle.smil_cells.specs.Standings.{standing_of}
use Rattle.smil_cells.proofs.PlacesPut.{passed_at}
use Rattle.smil_cells.proofs.GroupEvaluations.{evaluated_from, evaluated_on, evaluated_still, none_evaluated, none_touched, touched_at_rest, touched_on}
use Rattle.smil_cells.proofs.cells.Cells.settle_through.Given.{Over}
use Rattle.smil_cells.proofs.cells.Cells.settle_through.Goals as goal

pub loop-coming-init : goal.loop-coming-init
loop-coming-init g c =
    let s = c.args.self.now in
    let whole = to_z-of_z w64 c.args.until c.ranges.until in (
      begun (touched_at s c.args.places) (to_z w64 (of_z w64 c.args.until)) c.requires.sound (subst (λ (v : ℤ). pos s.presentation.now ≤ℤ v) (sym whole) c.requires.from),
      refl,
      subst (λ (v : ℤ). v ≤ℤ the_horizon) (sym whole) c.requires.within,
      omega arith,
      nothing_reached s g.T.Table.counts c.args.steps.now,
      nothing_fresh s g.T.Table.counts c.args.steps.now,
      none_evaluated (touched_at s c.args.places) g.T.Table.counts c.args.steps.now,
      none_touched (touched_at s c.args.places),
    )

pub loop-coming-smaller : goal.loop-coming-smaller
loop-coming-smaller g c =
    let v = c.loop-coming.invariant in
    let old = touched_at c.args.self.now c.args.places in
    let s = touched_at c.loop-coming.self c.loop-coming.places in
    let t = touched_at c.come_to.new.self c.loop-coming.places in
    let u = touched_at c.happen.new.self c.happen.new.places in
    fewer_free old s t u (to_z w64 (of_z w64 c.args.until)) v.0 (passed_at c.loop-coming.self c.come_to.new.self c.loop-coming.places c.come_to.ensures.passed) c.come_to.ensures.within c.in_default-happen.ensures.next

pub loop-coming-preserved : goal.loop-coming-preserved
loop-coming-preserved g c =
    let v = c.loop-coming.invariant in
    let old = touched_at c.args.self.now c.args.places in
    let s = touched_at c.loop-coming.self c.loop-coming.places in
    let t = touched_at c.come_to.new.self c.loop-coming.places in
    let u = touched_at c.happen.new.self c.happen.new.places in
    let passed = passed_at c.loop-coming.self c.come_to.new.self c.loop-coming.places c.come_to.ensures.passed in
    let until = to_z w64 (of_z w64 c.args.until) in
    let e = c.in_default-happen.ensures in
    let a = c.args.steps.now in (
      onward old s t u until v.0 passed c.come_to.ensures.within e.next,
      refl,
      v.2,
      no_fewer a c.loop-coming.steps c.happen.new.steps v.3 e.counted,
      reached_on old s t u until v.0 passed c.come_to.ensures.within e.next a c.loop-coming.steps c.happen.new.steps g.T.Table.counts v.3 e.counted v.4 e.evaluated.most,
      fresh_on old s t u until v.0 passed c.come_to.ensures.within e.next a c.loop-coming.steps c.happen.new.steps g.T.Table.counts v.3 e.counted v.5 e.evaluated.least,
      evaluated_on old s t u until v.0 passed e.next a c.loop-coming.steps c.happen.new.steps g.T.Table.counts v.3 e.counted v.6 e.evaluated.evaluated,
      touched_on old s t u until v.0 passed e.next v.7 e.only,
    )

pub returns-in-Err-clause-refused : goal.returns-in-Err-clause-refused
returns-in-Err-clause-refused g c =
    let v = c.loop-coming.invariant in
    let passed = c.come_to.ensures.passed in
    let p = c.come_to.new.self.presentation in
    let q = c.args.self.now.presentation in
    let d : p.document ≡ q.document = ap (λ (x : Presentation). x.document) passed.presentation_is ∙ ap (λ (x : Presentation). x.document) v.0.presentation_is in
    let l : p.log ≡ q.log = ap (λ (x : Presentation). x.log) passed.presentation_is ∙ ap (λ (x : Presentation). x.log) v.0.presentation_is in
    let refused = c.in-Err.ensures.refused in
    record {
      refusing = record {
        fault_is = refused.refusing.fault_is;
        document = refused.refusing.document ∙ d;
        marked = refused.refusing.marked ∙ (passed.marked ∙ v.0.marked);
      };
      full = λ e.
          front_later c.reaches_further.ensures p q (nat_abs c.args.until) c.happen.new.self.diary
          (subst (λ (x : Document). IsNumberedTree x) (sym d) (subst (λ (s : CellsState). IsNumberedTree s.presentation.document) c.self.view_is c.possible.ensures.valid.numbered))
          d l
          (below p.now c.args.until (subst (λ (x : ℤ). pos p.now ≤ℤ x) (to_z-of_z w64 c.args.until c.ranges.until) c.come_to.ensures.within))
          (refused.full e);
    }

pub invariant_of-self : goal.invariant_of-self
invariant_of-self g c =
    let i = c.self-2.inside in
    touched_refused (g.T.Table.is_current i.table) (g.T.Table.is_marked i.table) (g.T.Table.has_mark i.table) i.past i.moment i.fault i.mark i.touched c.take_elements.new.list Memory c.self-2.invariant

pub invariant_of-self-2 : goal.invariant_of-self-2
invariant_of-self-2 g c =
    let i = c.self-2.inside in
    touched_anew (g.T.Table.is_current i.table) (g.T.Table.is_marked i.table) (g.T.Table.has_mark i.table) i.past i.moment i.fault i.mark i.touched c.take_elements.new.list
    (subst (λ (s : CellsState). s.fault ≡ None) (sym c.self-2.view_is) c.loop-coming.invariant.0.sound) c.self-2.invariant

pub pass_to-requires-clause-quiet : goal.pass_to-requires-clause-quiet
pass_to-requires-clause-quiet g c =
    let until = to_z w64 (of_z w64 c.args.until) in
    λ x e. sooner until x.key.value (subst (λ (s : CellsState). NothingBefore s (until +ℤ pos 1)) (sym c.self-2.view_is) c.in_default.ensures.none x e)

pub returns-in_err-take_elements-clause-refused : goal.returns-in_err-take_elements-clause-refused
returns-in_err-take_elements-clause-refused g c =
    let i = c.self-2.inside in
    let v = c.loop-coming.invariant in
    let q = c.args.self.now.presentation in
    for_memory c.from_residual.result (course_of (as_of q (nat_abs c.args.until))) c.args.self.now (standing_of i.past i.moment i.fault i.mark c.take_elements.new.list)
    (λ f. record {
      fault_is = refl;
      document = ap (λ (s : CellsState). s.presentation.document) c.self-2.view_is ∙ ap (λ (x : Presentation). x.document) v.0.presentation_is;
      marked = ap (λ (s : CellsState). s.marked) c.self-2.view_is ∙ v.0.marked;
    })
    c.from_residual.ensures.1

at_rest : (g : Over) (c : goal.After-pass_to g) → IsRest (touched_at c.loop-coming.self c.loop-coming.places) c.pass_to.new.self
at_rest g c =
    let i = c.self-2.inside in
    let places = c.loop-coming.places in
    rested (touched_at (standing_of i.past i.moment i.fault i.mark i.touched) places) (touched_at c.loop-coming.self places) c.pass_to.new.self c.take_elements.new.list (nat_abs (to_z w64 (of_z w64 c.args.until))) c.tree.result.now.nodes
    (ap (λ (s : CellsState). touched_at s places) c.self-2.view_is) c.pass_to.ensures.moved (ap (λ (x : Document). x.nodes) c.tree.ensures) c.in_ok-take_elements.ensures.order
    (λ e here. ap (λ (l : List ℕ). has l e.serial) (c.in_ok-take_elements.ensures.taken ∙ ap (λ (x : Document). elements_at x.nodes places) c.tree.ensures)) c.pass_to.ensures.same

pub returns-clause-settled : goal.returns-clause-settled
returns-clause-settled g c =
    let v = c.loop-coming.invariant in
    let old = touched_at c.args.self.now c.args.places in
    let s = touched_at c.loop-coming.self c.loop-coming.places in
    let t = c.pass_to.new.self in
    let until = to_z w64 (of_z w64 c.args.until) in
    let q = c.args.self.now.presentation in
    let rest = at_rest g c in
    record {
      state =
          ap (λ (x : CellsState). x.presentation) c.pass_to.ensures.moved
          ∙ (ap (λ (x : CellsState). as_of x.presentation (nat_abs until)) c.self-2.view_is
          ∙ (ap (λ (p : Presentation). as_of p (nat_abs until)) v.0.presentation_is
          ∙ ap (λ (z : ℤ). as_of q (nat_abs z)) (to_z-of_z w64 c.args.until c.ranges.until)));
      settled = c.pass_to.ensures.ended (λ x e. subst (λ (s : CellsState). NothingBefore s (until +ℤ pos 1)) (sym c.self-2.view_is) c.in_default.ensures.none x e);
      goes_on = goes_on old s t until v.0 rest;
      more = stay_touched old s t until v.0 rest;
      only = touched_at_rest old s t rest v.7;
    }

pub returns-clause-evaluated : goal.returns-clause-evaluated
returns-clause-evaluated g c =
    let v = c.loop-coming.invariant in
    let old = touched_at c.args.self.now c.args.places in
    let s = touched_at c.loop-coming.self c.loop-coming.places in
    let t = c.pass_to.new.self in
    let flag = g.T.Table.counts in
    let n = c.loop-coming.steps - c.args.steps.now in
    let nodes = c.args.self.now.presentation.document.nodes in
    let len = length c.args.self.now.diary in
    let rest = at_rest g c in
    let log = ap (λ (p : Presentation). p.log) rest.presentation_is in
    record {
      most =
          subst (λ (l : List LogEntry). WhereTold flag (n ≤ reaches nodes l (drop len t.diary))) (sym log)
          (subst (λ (d : List Entry). WhereTold flag (n ≤ reaches nodes s.presentation.log (drop len d))) (sym rest.diary_is) v.4);
      least = subst (λ (k : ℕ). WhereTold flag (k ≤ n)) (sym (fresh_at_rest old s t (to_z w64 (of_z w64 c.args.until)) v.0 rest)) v.5;
      evaluated = evaluated_from old c.args.self.now t flag n refl refl (evaluated_still old s t flag n log rest.diary_is v.6);
    }
