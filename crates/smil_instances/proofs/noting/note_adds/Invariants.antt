use Rattle.std.proofs.Common.{take}
use Rattle.std.specs.List.{AllByRecursion}
use Rattle.smil_instance_rows.specs.Notes.{Goes, HasNoted}
use Rattle.smil_instances.proofs.noting.note_adds.Given as goal

abbrev pub invariant-loop-add : goal.invariant-loop-add
invariant-loop-add l = record {
  more : HasNoted l.rows l.initial.notes l.notes;
  each : AllByRecursion (Goes l.notes.notes l.place) (take l.add-index l.adds);
}
