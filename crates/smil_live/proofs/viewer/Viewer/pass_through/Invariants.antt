use Rattle.std.proofs.Common.{◌≡◌, ◌-◌}
use Rattle.std.specs.Prelude.{nat_abs, ◌≤ℤ◌}
use Rattle.smil_model.specs.declared.times.TheConstants.{HORIZON}
use Rattle.smil_report.specs.Tellings.{Begins}
use Rattle.smil_shown.specs.ViewTable.{owners}
use Rattle.smil_live.proofs.CellCounts.{IsCounted}
use Rattle.smil_live.proofs.MomentsPassed.{IsPassing}
use Rattle.smil_live.proofs.viewer.Viewer.pass_through.Given as goal

abbrev pub invariant-loop-due : goal.invariant-loop-due
invariant-loop-due g l =
    IsPassing g.I.ChangeItem.telling l.initial.self.cells.presentation l.initial.out l.to l.self.cells l.self.seen l.out
    × (l.to ≡ l.initial.to)
    × (l.to ≤ℤ HORIZON)
    × (l.self.cells.marked ≡ l.initial.self.cells.marked)
    × (owners l.self.seen ≡ owners l.initial.self.seen)
    × Begins l.initial.out l.out
    × IsCounted g.T.Table.counts l.initial.self.cells l.self.cells l.initial.steps l.steps

abbrev pub decreases-loop-due : goal.decreases-loop-due
decreases-loop-due g l = nat_abs l.to - l.self.cells.presentation.now
