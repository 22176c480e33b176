use Rattle.smil_laws.proofs.ResolutionEnds.{ended_is_diary}
use Rattle.smil_laws.proofs.courses.ended_is_diary.Goals as goal

pub returns : goal.returns
returns c = ended_is_diary
