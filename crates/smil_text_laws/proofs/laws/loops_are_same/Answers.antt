use Rattle.smil_model.specs.document.Dependencies.{leads_to}
use Rattle.smil_text_laws.proofs.BareDocuments.{leads_same}
use Rattle.smil_text_laws.proofs.BareSame.{same_of}
use Rattle.smil_text_laws.proofs.laws.loops_are_same.Goals as goal

pub returns : goal.returns
returns c = λ old new e x differ. same_of (λ ns. leads_to ns e x) (λ ns. leads_same ns e x) old new differ
