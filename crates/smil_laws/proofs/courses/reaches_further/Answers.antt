use Rattle.smil_laws.proofs.CourseFurther.{reaches_further}
use Rattle.smil_laws.proofs.courses.reaches_further.Goals as goal

pub returns : goal.returns
returns c = reaches_further
