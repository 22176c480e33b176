use Rattle.std.proofs.Common.{◌∙◌, ap}
use Rattle.std.specs.Prelude.{◌==◌}
use Rattle.std.specs.List.{position}
use Rattle.std.specs.FinMap.{get}
use Rattle.smil_rounds.specs.declared.current_rows.CurrentRow.{CurrentRow}
use Rattle.smil_rounds.proofs.RowPut.{first_of_position, near_set, places_same, set_serials}
use Rattle.smil_rounds.proofs.current_rows.CurrentRows.put.Goals as goal

pub invariant_of-self : goal.invariant_of-self
invariant_of-self c =
    let rows = c.self.inside.rows.items in
    let at = ap (position (λ (r : CurrentRow). r.serial == c.args.row.serial)) c.self.view_is ∙ c.requires.place in
    let is = first_of_position c.args.row.serial rows c.args.place c.args.row at in
    (near_set c.args.row rows c.args.place c.requires.near c.self.invariant.0, places_same (get c.self.inside.places.value) rows _ (set_serials c.args.row rows c.args.place is) c.self.invariant.1)
