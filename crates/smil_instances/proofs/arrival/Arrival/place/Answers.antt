use Rattle.smil_instances.proofs.LastEntry.{place_read}
use Rattle.smil_instances.proofs.arrival.Arrival.place.Goals as goal

pub returns : goal.returns
returns c = λ h y is. place_read _ _ _ _ h y is c.len.result c.len.ensures.value
