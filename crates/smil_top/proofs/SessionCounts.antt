-- What is counted of a session, and the status that it gives.
use Rattle.std.proofs.Common.{◌≡◌, ℕ, ◌<◌, min, Bool, true, false, List, ap, ◌∙◌, arith}
use Rattle.std.specs.Prelude.{nat_lt}
use Rattle.std.specs.Bool.{one_answer}
use Rattle.std.proofs.lemmas.Bool.{lt-ltb, ltb-true}
use Rattle.smil_outside.specs.Faults.{last_count}
use Rattle.smil_top.specs.declared.counts.Counts.{Counts}
use Rattle.smil_top.specs.declared.status.Status.TheVariants as status
use Rattle.smil_top.specs.Cut.{OrderLines}
use Rattle.smil_top.specs.Transcript.{TranscriptState}
use Rattle.smil_top.specs.Serving.{status_by, status_of}
use Rattle.smil_top.specs.Running.{AreCounted}

min-some : (n : ℕ) → 0 < min n last_count → 0 < n
min-some n h = omega arith

some-min : (n : ℕ) → 0 < n → 0 < min n last_count
some-min n h = omega arith

-- a count stands above 0 where what is counted does
pub lt-min : (n : ℕ) → nat_lt 0 (min n last_count) ≡ nat_lt 0 n
lt-min n =
    one_answer {P = 0 < n} (nat_lt 0 (min n last_count)) (nat_lt 0 n)
    (λ h. min-some n (ltb-true 0 (min n last_count) h), λ h. lt-ltb 0 (min n last_count) (some-min n h))
    (λ h. ltb-true 0 n h, λ h. lt-ltb 0 n h)

pub ended-status : (counts : Counts) (orders : List OrderLines) (told : TranscriptState) → AreCounted counts orders told →
    status_by (nat_lt 0 counts.refused) counts.memory ≡ status_of told
ended-status counts orders told are =
    ap (λ n. status_by (nat_lt 0 n) counts.memory) are.refused_is
    ∙ ap (λ b. status_by b counts.memory) (lt-min told.refused)
    ∙ ap (λ m. status_by (nat_lt 0 told.refused) m) are.memory_is

pub no_read_fault : (refused memory : Bool) → status_by refused memory ≡ status.ReadFault → ⊥
no_read_fault true true is = absurd cc
no_read_fault false true is = absurd cc
no_read_fault true false is = absurd cc
no_read_fault false false is = absurd cc
