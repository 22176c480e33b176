use Rattle.std.proofs.Common.{◌∙◌}
use Rattle.smil_top.proofs.HeldSessions.{moment-told}
use Rattle.smil_top.proofs.held.Held.moment.Goals as goal

pub returns : goal.returns
returns c cut told is = c.moment.ensures ∙ moment-told c.args.name.now c.args.self.now.run.session.house told.session is.running.tells.keeps.held
