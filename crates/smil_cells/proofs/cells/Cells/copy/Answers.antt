use Rattle.std.proofs.Common.{◌≡◌, sym, subst, None, w64}
use Rattle.std.proofs.lemmas.Int.{to_z-of_z}
use mir.Val.{to_z, of_z}
use Rattle.smil_cells.specs.CellsState.{CellsState}
use Rattle.smil_rounds.proofs.MomentEntries.{fits}
use Rattle.smil_cells.proofs.FirstCells.{copied, no_mark}
use Rattle.smil_cells.proofs.cells.Cells.copy.Goals as goal

pub invariant_of-result : goal.invariant_of-result
invariant_of-result g c =
    let i = c.self.inside in
    let before = sym c.self.view_is in
    let kept = c.self.invariant in
    copied (g.T.Table.is_current i.table) (g.T.Table.is_marked i.table) (g.T.Table.is_current c.in_ok-table.table) (g.T.Table.is_marked c.in_ok-table.table) (g.T.Table.has_mark i.table) (g.T.Table.has_mark c.in_ok-table.table)
    i.past c.in_ok-past.past i.moment (to_z w64 (of_z w64 i.moment)) i.fault i.mark i.touched c.in_ok-touched.touched
    (to_z-of_z w64 i.moment (fits i.moment kept.present.from kept.present.within)) c.in_ok-past.ensures
    (subst (λ (s : CellsState). s.fault ≡ None) before c.requires.sound)
    (no_mark i.past i.mark i.past.marked kept.past_mark (subst (λ (s : CellsState). s.marked ≡ None) before c.requires.unmarked))
    c.in_ok-table.ensures.unmarked c.in_ok-table.ensures.current kept
