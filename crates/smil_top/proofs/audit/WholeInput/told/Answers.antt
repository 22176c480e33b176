use Rattle.smil_top.proofs.AuditLines.{told-fault}
use Rattle.smil_top.proofs.audit.WholeInput.told.Goals as goal

pub returns-in-Err-clause-told : goal.returns-in-Err-clause-told
returns-in-Err-clause-told g c reading takes read =
    told-fault c.refused.result c.args.self.now.lines takes c.args.self.now.said reading c.in-Err.fault c.in-Err.is read c.refused.ensures.fault c.refused.ensures.memory
