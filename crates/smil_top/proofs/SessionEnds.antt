-- What is told of a session that was answered to its end.
use Rattle.std.proofs.Common.{◌≡◌, ℕ, Bool, true, false, List, ◌++◌, Option, Some, None, refl, ap, sym, ◌∙◌}
use Rattle.std.specs.Prelude.{nat_lt}
use Rattle.std.proofs.lemmas.List.{append-nil}
use Rattle.std.specs.Io.KnownBytes.{Consumes, IsAtEnd}
use Rattle.std.specs.Str.Lines.{lines}
use Rattle.smil_gen.specs.Session.{session_text}
use Rattle.smil_top.specs.declared.run.Run.{Run}
use Rattle.smil_top.specs.declared.status.Status.{Status}
use Rattle.smil_top.specs.declared.status.Status.TheVariants as status
use Rattle.smil_top.specs.Cut.{OrderLines, orders}
use Rattle.smil_top.specs.Answers.{answer_of}
use Rattle.smil_top.specs.Transcript.{TranscriptState, transcript_by}
use Rattle.smil_top.specs.Summary.{session_told, session_orders, told_of}
use Rattle.smil_top.specs.Words.{is_told}
use Rattle.smil_top.specs.Serving.{status_by}
use Rattle.smil_top.specs.Running.{IsAll, IsSummary, Ran, RunsBy, Tells}
use Rattle.smil_top.proofs.SessionOfNumber.{one-transcript}

-- a run that was answered to its end
told-all : (ended : Status) (run : Run) (rest : Option (List ℕ)) (came text : List ℕ) (room : ℕ) → is_told ended ≡ true → RunsBy false ended run rest came text room →
    IsAtEnd rest × IsAll false ended run came text
told-all status.Clean run rest came text room is runs = runs
told-all status.Refused run rest came text room is runs = runs
told-all status.Words run rest came text room is runs = absurd cc
told-all status.ReadFault run rest came text room is runs = absurd cc
told-all status.WriteFault run rest came text room is runs = absurd cc
told-all status.Memory run rest came text room is runs = absurd cc
told-all status.InputTooLong run rest came text room is runs = absurd cc

-- in a call that has told all, no order was refused since memory ran out
pub no-memory : (refused memory : Bool) → is_told (status_by refused memory) ≡ true → memory ≡ false
no-memory refused false is = refl
no-memory true true is = absurd cc
no-memory false true is = absurd cc

all-came : (bytes came : List ℕ) (rest : Option (List ℕ)) → Consumes (Some bytes) rest came → IsAtEnd rest → came ≡ bytes
all-came bytes came None took at_end = absurd took
all-came bytes came (Some left) took at_end = sym (took ∙ ap (λ zs. came ++ zs) at_end ∙ append-nil came)

pub summed : (number : ℕ) (bytes text written : List ℕ) (ended : Status) (run : Run) (after taken_before taken_after : Option (List ℕ)) (room : ℕ) → bytes ≡ session_text number →
    Ran false ended run (Some bytes) after taken_before taken_after room → is_told ended ≡ true →
    ((os : List OrderLines) (told : TranscriptState) → Tells false run os told → text ≡ told_of number os told) →
    IsSummary number (record { text = text; status = ended })
summed number bytes text written ended run after taken_before taken_after room made ran is tells =
    let whole = told-all ended run after ran.came ran.text room is ran.runs in
    let all = whole.1 in
    let told : TranscriptState = all.told in
    let came : ran.came ≡ session_text number = all-came bytes ran.came after ran.read whole.0 ∙ made in
    let memory : told.memory ≡ false = no-memory (nat_lt 0 told.refused) told.memory (ap is_told (sym all.ended_is) ∙ is) in
    let one : told ≡ session_told number =
    one-transcript answer_of (orders (lines ran.came)) told all.tells.transcript memory
    ∙ ap (λ zs. transcript_by answer_of (orders (lines zs))) came
    in
    record {
      text_is =
          tells (orders (lines ran.came)) told all.tells
          ∙ ap (λ zs. told_of number (orders (lines zs)) told) came
          ∙ ap (λ (t : TranscriptState). told_of number (session_orders number) t) one;
      ended_is =
          all.ended_is
          ∙ ap (λ m. status_by (nat_lt 0 told.refused) m) memory
          ∙ ap (λ (t : TranscriptState). status_by (nat_lt 0 t.refused) false) one;
    }
