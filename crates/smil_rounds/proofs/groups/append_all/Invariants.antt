use Rattle.std.proofs.Common.{◌≡◌, ◌++◌, take, drop}
use Rattle.smil_past.specs.Past.{with_diary}
use Rattle.smil_rounds.specs.Appended.{MayAppendAll}
use Rattle.smil_rounds.proofs.groups.append_all.Given as goal

abbrev pub invariant-loop-entry : goal.invariant-loop-entry
invariant-loop-entry l = record {
  part : l.past ≡ with_diary l.initial.past (l.initial.past.diary ++ take l.entry-index l.entries);
  may : MayAppendAll l.past (drop l.entry-index l.entries);
}
