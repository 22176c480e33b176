use Rattle.std.proofs.Common.{◌≡◌, refl, sym, ◌∙◌, ap, subst, ℕ, ◌<◌, ◌≤◌, ◌++◌, List, Some, length, get_or, true}
use Rattle.smil_model.specs.declared.document.Node.{Node}
use Rattle.smil_model.specs.document.Document.{elements, node_at}
use Rattle.smil_model.specs.shown.Views.{blank}
use Rattle.smil_tree.proofs.AttributesChanged.{serial_of as own_serial}
use Rattle.smil_shown.specs.ViewTable.{has_view, view_now}
use Rattle.smil_live.proofs.TouchedViews.{IsFrom, IsTurnAt, is_from, known_next, left_first, told_end, told_last, touched_length, touched_views, turn, views_end, views_last, way_begins, way_on}
use Rattle.smil_live.proofs.viewer.put_touched.Given.{Over}
use Rattle.smil_live.proofs.viewer.put_touched.Goals as goal
use Rattle.smil_live.proofs.viewer.put_touched.Goals.{After-slice-serial-items}

module _ (g : Over) (c : After-slice-serial-items g) where
  -- the views are those of an earlier standing
  from : IsFrom c.args.cells.now c.args.seen.now
  from = let f = c.requires.from in is_from f.0 c.args.cells.now c.args.seen.now f.1 f.2 f.3 c.requires.state

  -- the serials are those of the touched elements
  same : c.slice-serial-items.result.now ≡ c.args.cells.now.touched
  same = c.slice-serial-items.ensures ∙ c.touched.ensures

  turn_at : (i : ℕ) → i < length c.slice-serial-items.result.now → IsTurnAt c.args.cells.now c.args.seen.now from i (blank 0)
  turn_at i less = turn c.args.cells.now c.args.seen.now from i (blank 0) (subst (λ (l : List ℕ). i < length l) same less)

  -- behind the last of them none is left
  all_put : (i : ℕ) → length c.slice-serial-items.result.now ≤ i → length (touched_views c.args.cells.now) ≤ i
  all_put i past =
      subst (λ n. n ≤ i) (sym (touched_length c.args.cells.now c.args.seen.now from)) (subst (λ (l : List ℕ). length l ≤ i) same past)

pub loop-serial-init : goal.loop-serial-init
loop-serial-init g c =
    let s = c.args.cells.now in
    let first = c.args.seen.now in
    way_begins g.I.ChangeItem.telling s.presentation.document.nodes s.presentation.now first (touched_views s) c.args.out.now c.args.seen.now refl (left_first s first (from g (goal.at.loop-serial-init g c).After-slice-serial-items))

pub put_one-requires-clause-element : goal.put_one-requires-clause-element
put_one-requires-clause-element g c =
    let i = c.loop-serial.serial-index in
    let t = turn_at g (goal.at.put_one-requires-clause-element g c).After-slice-serial-items i c.loop-serial-test.true in
    subst (λ (l : List ℕ). (x : Node) × (node_at (elements c.args.cells.now.presentation.document.nodes) (get_or l i 0) ≡ Some x)) (sym (same g (goal.at.put_one-requires-clause-element g c).After-slice-serial-items)) (t.element, t.at)

pub put_one-requires-clause-known : goal.put_one-requires-clause-known
put_one-requires-clause-known g c =
    let s = c.args.cells.now in
    let nodes = s.presentation.document.nodes in
    let i = c.loop-serial.serial-index in
    let views = c.loop-serial.seen in
    let t = turn_at g (goal.at.put_one-requires-clause-known g c).After-slice-serial-items i c.loop-serial-test.true in
    let known = known_next g.I.ChangeItem.telling nodes s.presentation.now c.args.seen.now (touched_views s) c.args.out.now c.loop-serial.seen i (blank 0) c.loop-serial.out c.loop-serial.invariant t.below in
    subst (λ (l : List ℕ). has_view views (get_or l i 0) ≡ true) (sym (same g (goal.at.put_one-requires-clause-known g c).After-slice-serial-items))
    (subst (λ (k : ℕ). has_view views k ≡ true) (own_serial (elements nodes) (get_or s.touched i 0) t.element t.at)
    (subst (λ v. has_view views v.serial ≡ true) t.view known))

pub loop-serial-preserved : goal.loop-serial-preserved
loop-serial-preserved g c =
    let s = c.args.cells.now in
    let nodes = s.presentation.document.nodes in
    let i = c.loop-serial.serial-index in
    let t = turn_at g (goal.at.loop-serial-preserved g c).After-slice-serial-items i c.loop-serial-test.true in
    let at = subst (λ (l : List ℕ). node_at (elements nodes) (get_or l i 0) ≡ Some t.element) (sym (same g (goal.at.loop-serial-preserved g c).After-slice-serial-items)) t.at in
    way_on g.I.ChangeItem.telling nodes s.presentation.now c.args.seen.now (touched_views s) c.args.out.now c.loop-serial.seen c.put_one.new.seen i (blank 0) (view_now s t.element) c.loop-serial.out c.put_one.new.out c.loop-serial.invariant t.below t.view
    (c.put_one.ensures.view t.element at)
    (c.in_ok-put_one.ensures.told t.element at)
    c.put_one.ensures.begins

pub returns-clause-views : goal.returns-clause-views
returns-clause-views g c =
    let s = c.args.cells.now in
    let first = c.args.seen.now in
    let i = c.loop-serial.serial-index in
    views_end g.I.ChangeItem.telling s.presentation.document.nodes s.presentation.now first (touched_views s) c.args.out.now c.loop-serial.seen i c.loop-serial.out c.loop-serial.invariant (all_put g (goal.at.returns-clause-views g c).After-slice-serial-items i c.loop-serial-test.false)
    ∙ views_last s first (from g (goal.at.returns-clause-views g c).After-slice-serial-items)

pub returns-clause-told : goal.returns-clause-told
returns-clause-told g c =
    let s = c.args.cells.now in
    let first = c.args.seen.now in
    let i = c.loop-serial.serial-index in
    told_end g.I.ChangeItem.telling s.presentation.document.nodes s.presentation.now first (touched_views s) c.args.out.now c.loop-serial.seen i c.loop-serial.out c.loop-serial.invariant (all_put g (goal.at.returns-clause-told g c).After-slice-serial-items i c.loop-serial-test.false)
    ∙ ap (λ l. c.args.out.now ++ l) (told_last s first (from g (goal.at.returns-clause-told g c).After-slice-serial-items) g.I.ChangeItem.telling)
