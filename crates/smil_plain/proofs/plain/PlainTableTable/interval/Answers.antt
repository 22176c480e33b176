use Rattle.std.proofs.Common.{◌∙◌}
use Rattle.smil_rounds.proofs.CurrentRowsExact.{current_intervals}
use Rattle.smil_plain.proofs.plain.PlainTableTable.interval.Goals as goal

pub returns : goal.returns
returns c = λ h now is. c.interval.ensures.value ∙ current_intervals h now c.args.self.now.known c.args.self.now.due is c.args.who
