use Rattle.smil_laws.proofs.LongerLogs.{may_be_longer}
use Rattle.smil_laws.proofs.stays.log_may_be_longer.Goals as goal

pub returns : goal.returns
returns c = may_be_longer
