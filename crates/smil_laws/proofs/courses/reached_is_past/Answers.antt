use Rattle.smil_laws.proofs.CourseFurther.{is_past}
use Rattle.smil_laws.specs.Agreement.{course_on}
use Rattle.smil_laws.proofs.courses.reached_is_past.Goals as goal

pub returns : goal.returns
returns c = λ document log last p r. is_past (course_on document.nodes log last) p r
