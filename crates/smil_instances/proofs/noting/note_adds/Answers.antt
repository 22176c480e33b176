use Rattle.std.proofs.Common.{inl, inr, take, arith}
use Rattle.smil_instance_rows.proofs.Noted.{has_itself}
use Rattle.smil_instance_rows.proofs.CellChanges.{blank, fits_at}
use Rattle.smil_instances.proofs.Going.{adds_length, goes_next}
use Rattle.smil_instances.proofs.noting.note_adds.Goals as goal
use Rattle.smil_instances.proofs.noting.note_adds.Goals.{then-add-place+in_ok-note, else-add-place}

pub loop-add-init : goal.loop-add-init
loop-add-init c = record { more = has_itself c.args.rows.now c.args.notes.now; each = tt }

pub note-requires : goal.note-requires
note-requires c =
    let i = c.loop-add.add-index in
    let there = (fits_at c.args.rows.now c.args.adds.now i blank c.requires c.loop-add-test.true).0 in
    omega (arith, there.row, adds_length c.args.rows.now (take i c.args.adds.now))

pub loop-add-preserved : goal.loop-add-preserved
loop-add-preserved c =
    let rows = c.args.rows.now in
    let was = c.loop-add.notes in
    let place = c.in-Some.place in
    let i = c.loop-add.add-index in
    let before = c.loop-add.invariant in
    elim c.if-add-place.branch [
      | then-add-place+in_ok-note w ↦
          (let next = goes_next rows c.args.notes.now was w.note.new.self c.if-add-place.notes place c.args.adds.now i blank w.notes-is before.more before.each c.loop-add-test.true w.note.ensures.more (inr w.in_ok-note.ensures.noted) in
          record { more = next.0; each = next.1 })
      | else-add-place w ↦
          (let next = goes_next rows c.args.notes.now was was c.if-add-place.notes place c.args.adds.now i blank w.notes-is before.more before.each c.loop-add-test.true (has_itself rows was) (inl w.if-add-place.false) in
          record { more = next.0; each = next.1 })
    ]
