use Rattle.smil_concern_laws.proofs.ConcernedTouched.{concerned_touched}
use Rattle.smil_concern_laws.proofs.laws.concerned_is_touched.Goals as goal

pub returns : goal.returns
returns c = λ nodes log entries s. concerned_touched nodes log entries s
