use Rattle.std.proofs.Common.{◌≡◌, ◌∙◌, ap, sym, subst, refl, ◌<◌, length, set, List, arith}
use Rattle.std.proofs.Math.ListN.{length-set}
use Rattle.std.specs.Prelude.{nat_eq, slice_get, Some}
use Rattle.std.specs.List.{IsDistinct}
use Rattle.smil_rounds.specs.declared.current_rows.CurrentRow.{CurrentRow}
use Rattle.smil_rounds.specs.Rows.{AreNear}
use Rattle.smil_rounds.proofs.RowsBesideElements.{serials_in}
use Rattle.smil_rounds.proofs.RowPut.{IsFirst, near_set, set_serials}
use Rattle.smil_rounds.proofs.RowEvaluated.{placed}
use Rattle.smil_nodes.specs.Schedule.{row_put, slot_of, slots_of}
use Rattle.smil_nodes.proofs.RowAtElement.{first_apart}
use Rattle.smil_nodes.proofs.RowSlots.{slots_length, slots_set}
use Rattle.smil_nodes.proofs.RowsPutBack.{row_set}
use Rattle.smil_nodes.proofs.schedule.Schedule.put.Goals as goal
use Rattle.smil_nodes.proofs.schedule.Schedule.put.Goals.{After-row}

-- the row at the index
got : (c : After-row) → slice_get c.self.inside.known c.args.index ≡ Some c.row.result.now
got c = ap (λ (rows : List CurrentRow). slice_get rows c.args.index) c.self.view_is ∙ c.row.ensures.row

first : (c : After-row) → IsFirst c.row.result.now.serial c.self.inside.known c.args.index
first c = first_apart c.self.inside.known c.args.index c.row.result.now c.self.invariant.apart (got c)

within : (c : After-row) → c.args.index < length c.self.inside.known
within c = omega (arith, c.requires.index, ap (λ (rows : List CurrentRow). length rows) c.self.view_is)

pub put-requires-clause-place : goal.put-requires-clause-place
put-requires-clause-place c = let all = (goal.at.put-requires-clause-place c).After-row in placed c.row.result.now.serial c.self.inside.known c.args.index (first all)

pub set-requires-clause-slot : goal.set-requires-clause-slot
set-requires-clause-slot c =
    let rows = c.self.inside.known in
    let here : c.args.index < length rows = within (goal.at.set-requires-clause-slot c).After-row in
    let slots : length c.self.inside.due ≡ length rows = ap length c.self.invariant.slots_are ∙ slots_length rows in
    omega (arith, here, slots)

pub invariant_of-self : goal.invariant_of-self
invariant_of-self c =
    let rows = c.self.inside.known in
    let row : CurrentRow = record { serial = c.row.result.now.serial; interval = c.args.interval; comings = c.args.comings.now } in
    let few : length c.put.new.self ≡ length rows = ap length c.put.ensures ∙ simp length-set in
    record {
      near = subst AreNear (sym c.put.ensures) (near_set row rows c.args.index c.requires.near c.self.invariant.near);
      few = omega (arith, few, c.self.invariant.few);
      apart =
          subst (IsDistinct nat_eq)
          (sym (ap serials_in c.put.ensures ∙ set_serials row rows c.args.index (first (goal.at.invariant_of-self c).After-row)))
          c.self.invariant.apart;
      slots_are =
          c.set.ensures
          ∙ ap (set c.self.inside.due c.args.index) c.first_number.ensures.value
          ∙ ap (λ slots. set slots c.args.index (slot_of c.args.comings.now)) c.self.invariant.slots_are
          ∙ slots_set rows c.args.index row
          ∙ ap slots_of (sym c.put.ensures);
    }

pub returns : goal.returns
returns c =
    let rows = c.self.inside.known in
    let row : CurrentRow = record { serial = c.row.result.now.serial; interval = c.args.interval; comings = c.args.comings.now } in
    c.put.ensures
    ∙ sym (row_set rows c.args.index c.row.result.now row (got (goal.at.returns c).After-row) refl)
    ∙ ap (λ (rs : List CurrentRow). row_put rs c.args.index c.args.interval c.args.comings.now) c.self.view_is
