use Rattle.std.proofs.Common.{◌≡◌, ◌∙◌, ap, sym, subst, ◌-◌, ◌≤◌, arith, length, ℤ, pos, to_z, of_z, w64, ◌<◌, ◌++◌}
use Rattle.std.proofs.lemmas.Int.{ints}
use Rattle.smil_model.specs.declared.limits.TheConstants.{LOG_ENTRIES}
use Rattle.smil_model.specs.shown.Orders.{IsState, Presentation, changes_between}
use Rattle.smil_cells.specs.CellsState.{WhereTold, with_logged}
use Rattle.smil_live.specs.Counts.{least_onward, most_onward}
use Rattle.smil_live.specs.Moves.{told_of}
use Rattle.smil_live.proofs.GrowingTexts.{is_appended}
use Rattle.smil_live.proofs.OrderOutcomes.{heard_as}
use Rattle.smil_shown.proofs.PresentMoments.{within_horizon}
use Rattle.smil_live.proofs.TextsApart.{cells_playing}
use Rattle.smil_live.proofs.presentation.PresentationOver.hear.Goals as goal

pub returns : goal.returns
returns g c =
    let p = c.args.self.now in
    let q = c.go.new.self in
    let what = c.args.what in
    let rise = c.go.new.steps - c.args.steps.now in
    let moved = c.in_ok-go.ensures in
    let most = within_horizon p (subst IsState c.self.view_is (cells_playing c.self.inside.viewer.cells c.self.inside.viewer.seen c.self.inside.edited c.self.invariant).shown_is.state) in
    let now : c.moment-moment.result ≡ pos p.now = subst (λ (x : Presentation). c.moment-moment.result ≡ pos x.now) c.self.view_is c.moment-moment.ensures in
    let there : to_z w64 (of_z w64 c.moment-moment.result) ≡ pos p.now = omega (arith, ints, most, now) in
    let long : c.len.result ≡ length p.log = c.len.ensures ∙ ap length (c.log.ensures ∙ ap (λ (x : Presentation). x.log) c.self.view_is) in
    let below = c.if-len-ge-LOG_ENTRIES.false in
    let room : length p.log < LOG_ENTRIES = omega (arith, long, below) in
    record {
      ok =
          heard_as g.I.ChangeItem.telling p q what c.args.out.now c.go.new.out room
          (subst (λ (m : ℤ). q ≡ with_logged p (record { moment = m; what = what })) there moved.state)
          c.settled.ensures.diary
          (subst (λ (m : ℤ). c.go.new.out ≡ c.args.out.now ++ told_of g.I.ChangeItem.telling p (changes_between p (with_logged p (record { moment = m; what = what })))) there moved.told);
      appended = is_appended c.args.out.now c.go.new.out _ moved.told;
      refused = tt;
      kept = tt;
      text = tt;
      counted = c.go.ensures.counted;
      most = subst (λ (x : Presentation). WhereTold g.T.Table.counts (rise ≤ most_onward p x)) (sym moved.state) moved.most;
      least = subst (λ (x : Presentation). WhereTold g.T.Table.counts (least_onward p x ≤ rise)) (sym moved.state) moved.least;
      free = λ most. tt;
    }
