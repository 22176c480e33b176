use Rattle.smil_laws.proofs.CourseEarlier.{reaches_back}
use Rattle.smil_laws.proofs.courses.reaches_back.Goals as goal

pub returns : goal.returns
returns c = reaches_back
