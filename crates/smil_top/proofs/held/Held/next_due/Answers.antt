use Rattle.std.proofs.Common.{◌∙◌}
use Rattle.smil_top.proofs.HeldSessions.{next-told, quiet-told}
use Rattle.smil_top.proofs.held.Held.next_due.Goals as goal

pub returns-clause-next : goal.returns-clause-next
returns-clause-next c cut told is = c.next_due.ensures.next ∙ next-told c.args.name.now c.args.self.now.run.session.house told.session is.running.tells.keeps.held

pub returns-clause-quiet : goal.returns-clause-quiet
returns-clause-quiet c cut told is = quiet-told c.args.name.now c.args.self.now.run.session.house told.session is.running.tells.keeps.held c.next_due.result c.next_due.ensures.quiet
