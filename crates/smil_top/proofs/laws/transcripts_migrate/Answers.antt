use Rattle.smil_top.proofs.LargerLimits.{told_same, told_checked_same}
use Rattle.smil_top.proofs.laws.transcripts_migrate.Goals as goal

pub returns : goal.returns
returns c = (
  λ small large tried below m. told_same small large below tried m,
  λ small large tried below m. told_checked_same small large below tried m,
)
