use Rattle.std.proofs.Common.{◌∙◌}
use Rattle.smil_top.proofs.HeldSessions.{serial-told}
use Rattle.smil_top.proofs.held.Held.find.Goals as goal

pub returns : goal.returns
returns c session has = c.find.ensures ∙ serial-told c.args.name.now c.args.self.now.run.session.house session has.held c.args.who.now
