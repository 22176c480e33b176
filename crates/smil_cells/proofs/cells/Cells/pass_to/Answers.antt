use Rattle.std.proofs.Common.{◌≡◌, sym, subst, ℤ, None, w64}
use Rattle.std.specs.Prelude.{pos, nat_abs, ◌≤ℤ◌, ◌+ℤ◌}
use Rattle.std.proofs.lemmas.Int.{to_z-of_z}
use mir.Val.{to_z, of_z}
use Rattle.smil_cells.specs.CellsState.{CellsState, IsSettled, NothingBefore, history_of}
use Rattle.smil_laws.specs.Same.{IsSame}
use Rattle.smil_cells.specs.Standings.{IsSoundUnderMark, standing_of}
use Rattle.smil_cells.proofs.QuietMoments.{passed, same_passed, settled_passed}
use Rattle.smil_cells.proofs.cells.Cells.pass_to.Goals as goal

pub invariant_of-self : goal.invariant_of-self
invariant_of-self g c =
    let i = c.self.inside in
    let before = sym c.self.view_is in
    subst (λ (v : ℤ). IsSoundUnderMark (g.T.Table.is_current i.table) (g.T.Table.is_marked i.table) (g.T.Table.has_mark i.table) i.past v i.fault i.mark i.touched)
    (sym (to_z-of_z w64 c.args.moment c.ranges.moment))
    (passed (g.T.Table.is_current i.table) (g.T.Table.is_marked i.table) (g.T.Table.has_mark i.table) i.past i.fault i.mark i.touched
    c.time_passes_quietly.ensures c.reaches_over_quiet.ensures c.reached_is_past.ensures (g.met.T.Table.stays i.table)
    (subst (λ (s : CellsState). s.fault ≡ None) before c.requires.sound)
    i.moment c.args.moment
    (subst (λ (s : CellsState). pos s.presentation.now ≤ℤ c.args.moment) before c.requires.from)
    c.requires.within
    (subst (λ (s : CellsState). NothingBefore s c.args.moment) before c.requires.quiet)
    c.self.invariant)

pub returns-clause-same : goal.returns-clause-same
returns-clause-same g c =
    let i = c.self.inside in
    let before = sym c.self.view_is in
    subst (λ (s : CellsState). IsSame (history_of s) (pos s.presentation.now) (history_of (standing_of i.past (to_z w64 (of_z w64 c.args.moment)) i.fault i.mark i.touched)) (pos (nat_abs (to_z w64 (of_z w64 c.args.moment))))) c.self.view_is
    (subst (λ (v : ℤ). IsSame (history_of (standing_of i.past i.moment i.fault i.mark i.touched)) (pos (nat_abs i.moment)) (history_of (standing_of i.past v i.fault i.mark i.touched)) (pos (nat_abs v)))
    (sym (to_z-of_z w64 c.args.moment c.ranges.moment))
    (same_passed (g.T.Table.is_current i.table) (g.T.Table.is_marked i.table) (g.T.Table.has_mark i.table) i.past i.fault i.mark i.touched
    c.time_passes_quietly.ensures c.reaches_over_quiet.ensures c.reached_is_past.ensures (g.met.T.Table.stays i.table)
    (subst (λ (s : CellsState). s.fault ≡ None) before c.requires.sound)
    i.moment c.args.moment
    (subst (λ (s : CellsState). pos s.presentation.now ≤ℤ c.args.moment) before c.requires.from)
    c.self.invariant))

pub returns-clause-ended : goal.returns-clause-ended
returns-clause-ended g c =
    let i = c.self.inside in
    let before = sym c.self.view_is in
    λ silence.
    subst (λ (v : ℤ). IsSettled (standing_of i.past v i.fault i.mark i.touched))
    (sym (to_z-of_z w64 c.args.moment c.ranges.moment))
    (settled_passed (g.T.Table.is_current i.table) (g.T.Table.is_marked i.table) (g.T.Table.has_mark i.table) i.past i.fault i.mark i.touched
    c.time_passes_quietly.ensures c.reaches_over_quiet.ensures c.reached_is_past.ensures (g.met.T.Table.stays i.table)
    (subst (λ (s : CellsState). s.fault ≡ None) before c.requires.sound)
    c.ended_is_diary.ensures c.possible.ensures.few
    i.moment c.args.moment
    (subst (λ (s : CellsState). pos s.presentation.now ≤ℤ c.args.moment) before c.requires.from)
    c.requires.within
    (subst (λ (s : CellsState). NothingBefore s c.args.moment) before c.requires.quiet)
    (subst (λ (s : CellsState). NothingBefore s (c.args.moment +ℤ pos 1)) before silence)
    c.self.invariant)
