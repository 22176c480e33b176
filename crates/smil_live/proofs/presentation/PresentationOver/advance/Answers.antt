use Rattle.std.proofs.Common.{nat_abs, ◌≡◌, sym, subst, ◌-◌, ◌≤◌, ◌+ℤ◌, to_z, of_z, w64, arith, pos}
use Rattle.std.proofs.lemmas.Int.{ints}
use Rattle.smil_model.specs.declared.order.Order.TheVariants as order
use Rattle.smil_model.specs.declared.times.TheConstants.{HORIZON}
use Rattle.smil_model.specs.shown.Answers.{Refuses}
use Rattle.smil_model.specs.shown.Orders.{IsState, Presentation, as_of}
use Rattle.smil_grammar.specs.Formats.{formats}
use Rattle.smil_tree.proofs.ResultClauses.{on_err}
use Rattle.smil_cells.specs.CellsState.{WhereTold}
use Rattle.smil_live.specs.Counts.{least_onward, most_onward}
use Rattle.smil_live.specs.Moves.{IsTooFull}
use Rattle.smil_live.proofs.AnsweredOrders.{accepted, refused_too_full}
use Rattle.smil_live.proofs.CountedOrders.{bounded_accepted}
use Rattle.smil_live.proofs.OrderOutcomes.{advanced_to, clock_from, not_above, not_advanced}
use Rattle.smil_shown.proofs.PresentMoments.{within_horizon}
use Rattle.smil_live.proofs.TextsApart.{cells_playing}
use Rattle.smil_live.proofs.presentation.PresentationOver.advance.Given.{Over}
use Rattle.smil_live.proofs.presentation.PresentationOver.advance.Goals as goal
use Rattle.smil_live.proofs.presentation.PresentationOver.advance.Goals.{After-go}

-- the moment to which it goes
there : (g : Over) (c : After-go g) → to_z w64 (of_z w64 (to_z w64 (of_z w64 c.moment.result) +ℤ to_z w64 (of_z w64 c.args.by))) ≡ pos c.args.self.now.now +ℤ c.args.by
there g c =
    let p = c.args.self.now in
    let given = clock_from c.args.by c.requires in
    let most = within_horizon p (subst IsState c.self.view_is (cells_playing c.self.inside.viewer.cells c.self.inside.viewer.seen c.self.inside.edited c.self.invariant).shown_is.state) in
    let now : c.moment.result ≡ pos p.now = subst (λ (q : Presentation). c.moment.result ≡ pos q.now) c.self.view_is c.moment.ensures in
    omega (arith, ints, given.0, given.1, most, now)

pub returns : goal.returns
returns g c =
    let p = c.args.self.now in
    let rise = c.go.new.steps - c.args.steps.now in
    let moved = c.in_ok-go.ensures in
    let ok =
    advanced_to g.I.ChangeItem.telling p c.go.new.self c.args.by _ c.args.out.now c.go.new.out (clock_from c.args.by c.requires).0 (there g (goal.at.returns g c).After-go) moved.state c.settled.ensures.state c.settled.ensures.diary moved.told in
    accepted g.I.ChangeItem.telling g.T.Table.counts (order.Advance c.args.by) p c.go.new.self c.args.out.now c.go.new.out _ c.args.steps.now c.go.new.steps ok moved.told c.go.ensures.counted
    (bounded_accepted g.T.Table.counts p c.go.new.self (order.Advance c.args.by) rise ok.state
    (subst (λ (q : Presentation). WhereTold g.T.Table.counts (rise ≤ most_onward p q)) (sym moved.state) moved.most)
    (subst (λ (q : Presentation). WhereTold g.T.Table.counts (least_onward p q ≤ rise)) (sym moved.state) moved.least))

pub returns-in_err-go : goal.returns-in_err-go
returns-in_err-go g c =
    let p = c.args.self.now in
    let to = to_z w64 (of_z w64 (to_z w64 (of_z w64 c.moment.result) +ℤ to_z w64 (of_z w64 c.args.by))) in
    let full = as_of p (nat_abs to) in
    let r = c.from_residual.result in
    let given = c.in_err-go.field-0.0 in
    let too_full : IsTooFull full given = c.in_err-go.ensures.refused in
    refused_too_full g.I.ChangeItem.telling g.T.Table.counts (order.Advance c.args.by) r p c.go.new.self full c.args.out.now c.go.new.out c.args.steps.now c.go.new.steps c.from_residual.ensures.0
    (on_err (IsTooFull full) r given c.from_residual.ensures.1 too_full)
    (on_err (Refuses formats p (order.Advance c.args.by)) r given c.from_residual.ensures.1
    (not_advanced p c.args.by to given (clock_from c.args.by c.requires).0 (there g (goal.at.returns-in_err-go g c).After-go) (not_above HORIZON to c.if-to-gt-HORIZON.false) too_full))
    c.in_err-go.ensures.kept c.in_err-go.ensures.text c.go.ensures.counted
