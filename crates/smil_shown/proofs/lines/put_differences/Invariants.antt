use Rattle.std.proofs.Common.{◌≡◌, ◌++◌, ℕ, pos, drop}
use Rattle.smil_report.specs.Tellings.{Begins}
use Rattle.smil_shown.specs.Told.{told_between}
use Rattle.smil_shown.proofs.lines.put_differences.Given as goal

abbrev pub invariant-loop-view : goal.invariant-loop-view
invariant-loop-view g l = record {
  told : (m : ℕ) → l.scene.moment ≡ pos m
      → l.out ++ told_between g.I.ChangeItem.telling l.scene.tree.now.nodes m l.before (drop l.view-index l.after) ≡ l.fn.out ++ told_between g.I.ChangeItem.telling l.scene.tree.now.nodes m l.before l.after;
  begins : Begins l.fn.out l.out;
}
