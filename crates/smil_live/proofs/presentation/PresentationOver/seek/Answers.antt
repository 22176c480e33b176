use Rattle.std.proofs.Common.{◌≡◌, ◌∙◌, ◌++◌, ◌-◌, ◌≤◌, arith, refl, sym, ap, subst, ℤ, pos, nat_abs, to_z, of_z, w64}
use Rattle.std.specs.Prelude.{◌≤ℤ◌, int_lt, false}
use Rattle.std.proofs.lemmas.Int.{ints, to_z-of_z}
use Rattle.smil_model.specs.declared.order.Order.TheVariants as order
use Rattle.smil_model.specs.shown.Answers.{Refuses}
use Rattle.smil_model.specs.shown.Orders.{IsState, Presentation, changes_between, as_of}
use Rattle.smil_grammar.specs.Formats.{formats}
use Rattle.smil_tree.proofs.ResultClauses.{on_err}
use Rattle.smil_cells.specs.CellsState.{WhereTold}
use Rattle.smil_live.specs.Counts.{least_onward, most_onward}
use Rattle.smil_live.specs.Moves.{IsTooFull, told_of}
use Rattle.smil_live.proofs.AnsweredOrders.{accepted, refused_too_full}
use Rattle.smil_live.proofs.CountedOrders.{seek_bounded}
use Rattle.smil_live.proofs.OrderOutcomes.{clock_from, not_above, moved_as_sought, not_sought, sought, within_sought}
use Rattle.smil_live.proofs.SettledCells.{state_then}
use Rattle.smil_shown.proofs.PresentMoments.{within_horizon}
use Rattle.smil_live.proofs.TextsApart.{cells_playing}
use Rattle.smil_live.proofs.presentation.PresentationOver.seek.Given.{Over}
use Rattle.smil_live.proofs.presentation.PresentationOver.seek.Goals as goal
use Rattle.smil_live.proofs.presentation.PresentationOver.seek.Goals.{After-go}

-- what is not below the present moment
onward : (p : Presentation) (to moment : ℤ) → IsState p → to_z w64 (of_z w64 to) ≡ to → moment ≡ pos p.now → int_lt (to_z w64 (of_z w64 to)) (to_z w64 (of_z w64 moment)) ≡ false → pos p.now ≤ℤ to
onward p to moment state there now not_below =
    let most = within_horizon p state in
    let here : to_z w64 (of_z w64 moment) ≡ moment = omega (arith, ints, most, now) in
    let below : to_z w64 (of_z w64 moment) ≤ℤ to_z w64 (of_z w64 to) = not_above (to_z w64 (of_z w64 to)) (to_z w64 (of_z w64 moment)) not_below in
    omega (arith, ints, below, now, there, here)

from : (g : Over) (c : After-go g) → pos c.args.self.now.now ≤ℤ c.args.to
from g c =
    onward c.args.self.now c.args.to c.moment.result (subst IsState c.self.view_is (cells_playing c.self.inside.viewer.cells c.self.inside.viewer.seen c.self.inside.edited c.self.invariant).shown_is.state) (to_z-of_z w64 c.args.to c.ranges.to)
    (subst (λ (q : Presentation). c.moment.result ≡ pos q.now) c.self.view_is c.moment.ensures) c.if-to-moment.false

pub returns : goal.returns
returns g c =
    let p = c.args.self.now in
    let q = c.go.new.self in
    let to = c.args.to in
    let rise = c.go.new.steps - c.args.steps.now in
    let there : to_z w64 (of_z w64 to) ≡ to = to_z-of_z w64 to c.ranges.to in
    let gone = c.in_ok-go.ensures in
    let moved : q ≡ as_of p (nat_abs to) = subst (λ (z : ℤ). q ≡ as_of p (nat_abs z)) there gone.state in
    let told = subst (λ (z : ℤ). c.go.new.out ≡ c.args.out.now ++ told_of g.I.ChangeItem.telling p (changes_between p (as_of p (nat_abs z)))) there gone.told in
    let ok =
    sought g.I.ChangeItem.telling p q to c.args.out.now c.go.new.out (moved_as_sought p q to moved c.settled.ensures.state) c.settled.ensures.state c.settled.ensures.diary
    (told ∙ ap (λ (r : Presentation). c.args.out.now ++ told_of g.I.ChangeItem.telling p (changes_between p r)) (sym moved)) in
    accepted g.I.ChangeItem.telling g.T.Table.counts (order.Seek to) p q c.args.out.now c.go.new.out _ c.args.steps.now c.go.new.steps ok gone.told c.go.ensures.counted
    (seek_bounded g.T.Table.counts p q to rise (from g (goal.at.returns g c).After-go) ok.state
    (subst (λ (x : Presentation). WhereTold g.T.Table.counts (rise ≤ most_onward p x)) (sym gone.state) gone.most)
    (subst (λ (x : Presentation). WhereTold g.T.Table.counts (least_onward p x ≤ rise)) (sym gone.state) gone.least))

pub returns-in_err-go : goal.returns-in_err-go
returns-in_err-go g c =
    let p = c.args.self.now in
    let to = c.args.to in
    let there : to_z w64 (of_z w64 to) ≡ to = to_z-of_z w64 to c.ranges.to in
    let state : IsState p = subst IsState c.self.view_is (cells_playing c.self.inside.viewer.cells c.self.inside.viewer.seen c.self.inside.edited c.self.invariant).shown_is.state in
    let given = c.in_err-go.field-0.0 in
    let full = as_of p (nat_abs to) in
    let too_full : IsTooFull full given = subst (λ (z : ℤ). IsTooFull (as_of p (nat_abs z)) given) there c.in_err-go.ensures.refused in
    let sought_is = moved_as_sought p full to refl (state_then p to state (from g (goal.at.returns-in_err-go g c).After-go) (clock_from to c.requires).1) in
    let r = c.from_residual.result in
    refused_too_full g.I.ChangeItem.telling g.T.Table.counts (order.Seek to) r p c.go.new.self full c.args.out.now c.go.new.out c.args.steps.now c.go.new.steps c.from_residual.ensures.0
    (on_err (IsTooFull full) r given c.from_residual.ensures.1 too_full)
    (on_err (Refuses formats p (order.Seek to)) r given c.from_residual.ensures.1 (not_sought p full to given sought_is (within_sought to c.requires) too_full)) c.in_err-go.ensures.kept c.in_err-go.ensures.text c.go.ensures.counted
