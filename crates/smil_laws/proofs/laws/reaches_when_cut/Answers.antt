use Rattle.smil_laws.proofs.CourseCut.{reaches_when_cut}
use Rattle.smil_laws.proofs.laws.reaches_when_cut.Goals as goal

pub returns : goal.returns
returns c = λ document log last q numbered reached. reaches_when_cut document log last q numbered reached
