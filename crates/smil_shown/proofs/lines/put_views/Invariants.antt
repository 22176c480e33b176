use Rattle.std.proofs.Common.{◌≡◌, ◌++◌, ℕ, pos, drop}
use Rattle.smil_report.specs.Tellings.{Begins}
use Rattle.smil_shown.specs.Told.{views_told}
use Rattle.smil_shown.proofs.lines.put_views.Given as goal

abbrev pub invariant-loop-view : goal.invariant-loop-view
invariant-loop-view g l = record {
  told : (m : ℕ) → l.scene.moment ≡ pos m
      → l.out ++ views_told g.I.ChangeItem.telling l.scene.tree.now.nodes m (drop l.view-index l.seen) ≡ l.fn.out ++ views_told g.I.ChangeItem.telling l.scene.tree.now.nodes m l.seen;
  begins : Begins l.fn.out l.out;
}
