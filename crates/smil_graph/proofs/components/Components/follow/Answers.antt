use Rattle.std.proofs.Common.{sym}
use Rattle.smil_graph.proofs.SearchSteps.{none_open}
use Rattle.smil_graph.proofs.components.Components.follow.Goals as goal

pub returns-clause-none_open : goal.returns-clause-none_open
returns-clause-none_open c = none_open c.args.rows.now c.loop-position.self c.loop-position.invariant.grouping (sym c.in_default.ensures)
