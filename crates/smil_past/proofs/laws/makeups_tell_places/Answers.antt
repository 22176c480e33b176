use Rattle.smil_past.proofs.ElementPlaces.{tells_places}
use Rattle.smil_past.proofs.laws.makeups_tell_places.Goals as goal

pub returns : goal.returns
returns c = λ document e numbered found. tells_places document e numbered found
