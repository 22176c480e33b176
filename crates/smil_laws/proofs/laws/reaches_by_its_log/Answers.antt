use Rattle.smil_laws.proofs.CourseCut.{reaches_at_last}
use Rattle.smil_laws.proofs.laws.reaches_by_its_log.Goals as goal

pub returns : goal.returns
returns c = λ document log last q numbered reached. reaches_at_last document log last q numbered reached
