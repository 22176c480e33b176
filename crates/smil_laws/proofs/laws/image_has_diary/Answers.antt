use Rattle.smil_laws.proofs.ImageDiary.{has_diary}
use Rattle.smil_laws.proofs.laws.image_has_diary.Goals as goal

pub returns : goal.returns
returns c = has_diary
