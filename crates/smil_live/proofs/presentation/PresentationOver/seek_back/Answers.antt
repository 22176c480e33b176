use Rattle.std.proofs.Common.{◌≡◌, ◌∙◌, ◌-◌, ◌≤◌, ◌++◌, ap, inl, refl, sym, subst, ℕ, ℤ, to_z, of_z, w64, drop, length}
use Rattle.std.specs.Prelude.{OnErr, OnOk}
use Rattle.std.proofs.lemmas.Int.{to_z-of_z}
use Rattle.std.proofs.lemmas.Result.{IfErr-weaker, on_err_weaker, on_ok_weaker}
use Rattle.smil_model.specs.declared.order.Order.TheVariants as order
use Rattle.smil_model.specs.declared.order.Refusal.TheVariants as refusal
use Rattle.smil_model.specs.shown.Answers.{Refuses}
use Rattle.smil_model.specs.shown.Orders.{changes_between}
use Rattle.smil_report.specs.Tellings.{gone_told}
use Rattle.smil_grammar.specs.Formats.{formats}
use Rattle.smil_tree.proofs.ResultClauses.{on_err}
use Rattle.smil_cells.specs.CellsState.{CellsState, WhereTold}
use Rattle.smil_live.specs.Moves.{IsReplayed, IsTooFull, sought_of, told_of}
use Rattle.smil_live.specs.Counted.{IsFree}
use Rattle.smil_live.specs.Counts.{least_loading, most_number, told_where}
use Rattle.smil_live.specs.Texts.{IsPlayed, current}
use Rattle.smil_live.proofs.AgreedCells.{sought_least, sought_most, sought_stands}
use Rattle.smil_live.proofs.AnsweredOrders.{refused_too_full}
use Rattle.smil_live.proofs.CountedOrders.{free_too_full}
use Rattle.smil_live.proofs.OrderOutcomes.{appended_both, not_sought, on_both, sought_anew, within_sought}
use Rattle.smil_live.proofs.TextMoves.{played_either, replayed_there, same_document, sought_count, sought_full, sought_loading, sought_told}
use Rattle.smil_live.proofs.TextsApart.{cells_with}
use Rattle.smil_live.proofs.presentation.PresentationOver.seek_back.Given.{Over}
use Rattle.smil_live.proofs.presentation.PresentationOver.seek_back.Goals as goal
use Rattle.smil_live.proofs.presentation.PresentationOver.seek_back.Goals.{After-take_over}

pub cells_at-requires-clause-state : goal.cells_at-requires-clause-state
cells_at-requires-clause-state g c = c.self.invariant.playing.shown_is.state

pub invariant_of-self : goal.invariant_of-self
invariant_of-self g c =
    subst (λ (s : CellsState). IsPlayed s c.self.inside.viewer.seen (current s.presentation.document c.self.inside.edited)) (sym c.cells_at.ensures.same) c.self.invariant

pub invariant_of-self-2 : goal.invariant_of-self-2
invariant_of-self-2 g c =
    let s = c.self.inside.viewer.cells in
    let shown = c.self.inside.viewer.seen in
    let t = c.in_ok-cells.cells in
    let to = to_z w64 (of_z w64 c.args.to) in
    let document = same_document s t shown c.self.inside.edited c.args.self.now c.self.invariant c.self.view_is to c.in_ok-cells.ensures.ok in
    played_either c.take_over.result s t c.take_over.new.self.cells shown c.take_over.new.self.seen c.self.inside.edited c.self.invariant document c.take_over.ensures.cells c.take_over.ensures.playing
    (on_err_weaker c.take_over.result (λ kept. (ap (λ v. v.cells) kept ∙ c.cells_at.ensures.same, ap (λ v. v.seen) kept)) c.take_over.ensures.kept)

-- a refused seek leaves the presentation
stays : (g : Over) (c : After-take_over g) → OnErr c.take_over.result ((cells_with c.take_over.new.self.cells c.self.inside.edited).presentation ≡ c.args.self.now)
stays g c =
    on_err_weaker c.take_over.result
    (λ kept.
    let same : c.take_over.new.self.cells ≡ c.cells_at.new.cells = ap (λ v. v.cells) kept in
    ap (λ (u : CellsState). (cells_with u c.self.inside.edited).presentation) (same ∙ c.cells_at.ensures.same) ∙ c.self.view_is)
    c.take_over.ensures.kept

pub returns : goal.returns
returns g c =
    let tell = g.I.ChangeItem.telling in
    let counts = g.T.Table.counts in
    let p = c.args.self.now in
    let s = c.self.inside.viewer.cells in
    let shown = c.self.inside.viewer.seen in
    let edited = c.self.inside.edited in
    let is = c.self.invariant in
    let view = c.self.view_is in
    let t = c.in_ok-cells.cells in
    let q = (cells_with t edited).presentation in
    let after = (cells_with c.take_over.new.self.cells edited).presentation in
    let old = c.args.out.now in
    let new = c.take_over.new.out in
    let to = c.args.to in
    let r = c.take_over.result in
    let rise = c.cells_at.new.steps - c.args.steps.now in
    let there : to_z w64 (of_z w64 to) ≡ to = to_z-of_z w64 to c.ranges.to in
    let replayed : IsReplayed (sought_of s.presentation to) t = subst (λ (z : ℤ). IsReplayed (sought_of s.presentation z) t) there c.in_ok-cells.ensures.ok in
    let made = replayed_there s t shown edited p is view to replayed in
    let state : OnOk r (after ≡ q) = on_ok_weaker r (λ e. ap (λ (u : CellsState). (cells_with u edited).presentation) e) c.take_over.ensures.cells in
    let told : OnOk r (new ≡ old ++ gone_told tell p q ++ told_of tell q (changes_between p q)) =
    on_ok_weaker r
    (λ e.
    sought_told s t shown edited p is view to replayed tell old new
    (subst (λ (u : CellsState). new ≡ old ++ gone_told tell u.presentation t.presentation ++ told_of tell t.presentation (changes_between u.presentation t.presentation)) c.cells_at.ensures.same e))
    c.take_over.ensures.told in
    let ok = on_both r (sought_anew tell p after (cells_with t edited) to old new (sought_stands p to c.settled.ensures.state c.requires.clock) made) state told in
    let text = drop (length old) new in
    record {
      ok = ok;
      appended = appended_both r old new (gone_told tell p q) (told_of tell q (changes_between p q)) told;
      refused = IfErr-weaker r (λ e. e ≡ refusal.Memory) (Refuses formats p (order.Seek to)) (λ e h. inl h) c.take_over.ensures.refused;
      kept = stays g (goal.at.returns g c).After-take_over;
      text = c.take_over.ensures.text;
      counted = c.cells_at.ensures.counted;
      bounded = record {
        most =
            sought_most tell r counts p after (cells_with t edited) to text rise c.requires.clock c.requires.back made state ok
            (subst (λ (n : ℕ). WhereTold counts (rise ≤ n)) (sought_count s t shown edited p is view to replayed) c.in_ok-cells.ensures.most);
        least =
            sought_least tell r counts p after (cells_with t edited) to text rise c.requires.clock c.requires.back made state ok
            (subst (λ (n : ℕ). WhereTold counts (n ≤ rise)) (sought_loading s t shown edited p is view to replayed)
            (subst (λ (z : ℤ). WhereTold counts (least_loading (sought_of s.presentation z) ≤ rise)) there c.in_ok-cells.ensures.least));
        free =
            IfErr-weaker r (λ e. e ≡ refusal.Memory) (λ e. IsFree counts p (order.Seek to) e rise)
            (λ e h. free_too_full (told_where counts (most_number p (order.Seek to))) (sought_of p to) e rise (inl h)) c.take_over.ensures.refused;
      };
    }

pub returns-in_err-cells : goal.returns-in_err-cells
returns-in_err-cells g c =
    let p = c.args.self.now in
    let s = c.self.inside.viewer.cells in
    let edited = c.self.inside.edited in
    let to = c.args.to in
    let there : to_z w64 (of_z w64 to) ≡ to = to_z-of_z w64 to c.ranges.to in
    let given = c.in_err-cells.field-0.0 in
    let r = c.from_residual.result in
    let full : IsTooFull (sought_of p to) given =
    sought_full s c.self.inside.viewer.seen edited p c.self.invariant c.self.view_is to given (subst (λ (z : ℤ). IsTooFull (sought_of s.presentation z) given) there c.in_err-cells.ensures.refused) in
    let same = ap (λ (u : CellsState). (cells_with u edited).presentation) c.cells_at.ensures.same ∙ c.self.view_is in
    refused_too_full g.I.ChangeItem.telling g.T.Table.counts (order.Seek to) r p (cells_with c.cells_at.new.cells edited).presentation (sought_of p to) c.args.out.now c.args.out.now c.args.steps.now c.cells_at.new.steps c.from_residual.ensures.0
    (on_err (IsTooFull (sought_of p to)) r given c.from_residual.ensures.1 full)
    (on_err (Refuses formats p (order.Seek to)) r given c.from_residual.ensures.1 (not_sought p (sought_of p to) to given refl (within_sought to c.requires.clock) full)) same refl c.cells_at.ensures.counted
