use Rattle.std.proofs.Common.{◌≡◌, ◌++◌, take}
use Rattle.std.specs.Prelude.{flat_map}
use Rattle.smil_model.specs.shown.Lines.{entry_line}
use Rattle.smil_model.specs.document.Words.{Begins}
use Rattle.smil_live.proofs.tells.put_entries.Given as goal

abbrev pub invariant-loop-entry : goal.invariant-loop-entry
invariant-loop-entry l = record {
  text : l.out ≡ l.fn.out ++ flat_map (entry_line l.log) (take l.entry-index l.book);
  begins : Begins l.fn.out l.out;
}
