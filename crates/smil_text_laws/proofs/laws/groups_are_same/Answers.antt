use Rattle.smil_model.specs.happening.Groups.{group}
use Rattle.smil_text_laws.specs.PlainTexts.{history_in}
use Rattle.smil_text_laws.proofs.BareHappenings.{group_same}
use Rattle.smil_text_laws.proofs.BareSame.{same_of}
use Rattle.smil_text_laws.proofs.laws.groups_are_same.Goals as goal

pub returns : goal.returns
returns c = λ old new log diary moment serial change differ. same_of (λ ns. group (history_in ns log diary) moment serial change) (λ ns. group_same (history_in ns log diary) moment serial change) old new differ
