use Rattle.std.proofs.Common.{◌∙◌}
use Rattle.smil_nodes.proofs.RowAtElement.{current_intervals}
use Rattle.smil_nodes.proofs.live.LiveTableTable.interval.Goals as goal

pub returns : goal.returns
returns c = λ h now are. c.interval.ensures.value ∙ current_intervals c.args.self.now.schedule h now are.rows_are c.args.who
