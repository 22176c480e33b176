use Rattle.smil_top.proofs.AuditLines.{told-whole}
use Rattle.smil_top.proofs.audit.told_of.Goals as goal

pub returns-clause-told : goal.returns-clause-told
returns-clause-told g c = told-whole c.told.result c.in_ok-whole.whole c.in_ok-whole.ensures.whole c.told.ensures.told
