use Rattle.smil_text_laws.proofs.BarePresentations.{presented_same}
use Rattle.smil_text_laws.proofs.laws.presented_is_same.Goals as goal

pub returns : goal.returns
returns c = presented_same
