use Rattle.std.proofs.Common.{◌∙◌}
use Rattle.smil_top.proofs.HeldSessions.{element-told}
use Rattle.smil_top.proofs.held.Held.on_screen.Goals as goal

pub returns : goal.returns
returns c session has = c.on_screen.ensures ∙ element-told c.args.name.now c.args.self.now.run.session.house session has.held c.args.index
