use Rattle.std.proofs.Common.{◌≡◌, sym, ◌∙◌, subst, true, w64}
use Rattle.std.specs.Prelude.{is_some}
use Rattle.std.proofs.lemmas.Int.{to_z-of_z}
use mir.Val.{to_z, of_z}
use Rattle.smil_cells.specs.CellsState.{CellsState}
use Rattle.smil_cells.proofs.CellsBack.{back_to}
use Rattle.smil_cells.proofs.cells.Cells.back.Goals as goal

pub invariant_of-self : goal.invariant_of-self
invariant_of-self g c =
    let i = c.self.inside in
    back_to (g.T.Table.is_marked i.table) (g.T.Table.is_current c.back-2.new.self) (g.T.Table.is_marked c.back-2.new.self) (g.T.Table.has_mark c.back-2.new.self) i.past i.touched
    c.reached_is_past.ensures c.back-2.ensures.current c.back-2.ensures.has_mark
    i.mark i.past.marked c.back.new.self (to_z w64 (of_z w64 c.unwrap_or-self-inside.result))
    (subst (λ (s : CellsState). is_some s.marked ≡ true) (sym c.self.view_is) c.requires)
    c.self.invariant.marked c.self.invariant.mark_from c.back.ensures
    (to_z-of_z w64 c.unwrap_or-self-inside.result (record { sfits = c.unwrap_or-self-inside.type_inv }) ∙ c.unwrap_or-self-inside.ensures)
