use Rattle.smil_model.specs.reach.Reach.{reach}
use Rattle.smil_model.specs.reach.Bounds.{reaches}
use Rattle.smil_text_laws.proofs.BareReaches.{reach_same, reaches_same}
use Rattle.smil_text_laws.proofs.BareSame.{same_of}
use Rattle.smil_text_laws.proofs.laws.reaches_are_same.Goals as goal

pub returns : goal.returns
returns c =
    λ old new log differ. record {
      each = λ entry. same_of (λ ns. reach ns log entry) (λ ns. reach_same ns log entry) old new differ;
      all = λ entries. same_of (λ ns. reaches ns log entries) (λ ns. reaches_same ns log entries) old new differ;
    }
