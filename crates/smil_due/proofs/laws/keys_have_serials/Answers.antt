use Rattle.smil_due.proofs.KeySerials.{keys_have_serials}
use Rattle.smil_due.proofs.laws.keys_have_serials.Goals as goal

pub returns : goal.returns
returns c = keys_have_serials
