-- An audit, line by line, and what it reads and writes.
use Rattle.std.proofs.Common.{◌≡◌, ◌⊎◌, ℕ, suc, ◌+◌, Bool, true, false, List, [], ◌∷◌, ◌++◌, length, Option, Some, refl, ap, sym, subst, ◌∙◌, arith, inl, inr}
use Rattle.std.specs.Prelude.{◌≢◌, ◌||◌, Result, Err, IfErr, is_ok}
use Rattle.std.specs.Io.KnownBytes.{Appends}
use Rattle.std.specs.Str.Lines.{lines}
use Rattle.smil_model.specs.declared.order.Refusal.TheVariants.{Memory}
use Rattle.smil_outside.specs.declared.line.Line.TheVariants.{End}
use Rattle.smil_outside.specs.ReaderState.{ReaderState}
use Rattle.smil_words.specs.declared.mode.Mode.TheVariants as mode
use Rattle.smil_top.specs.declared.audit.AuditInput.{AuditInput}
use Rattle.smil_top.specs.declared.audit.Told.{Told}
use Rattle.smil_top.specs.declared.audit.WholeInput.{WholeInput}
use Rattle.smil_top.specs.declared.fault.Fault.{Fault}
use Rattle.smil_top.specs.declared.status.Status.TheVariants as status
use Rattle.smil_top.specs.Auditing.{ReadsAs, Tells, TellsOf, Verdict, audit_input, audit_lines, audit_of, audit_text_by, input_takes, lines_take, memory_line, no_memory, read_on, reading_takes, takes_memory, told_by}
use Rattle.smil_top.specs.Serving.{Audited, IsPart, IsWholeInput, Serves}
use Rattle.smil_top.proofs.ServeStep.{Nexts}

-- ---- lines

one_more : (count : ℕ) (reading : Result AuditInput Fault) (xs : List (List ℕ)) (line : List ℕ) → audit_lines count reading (xs ++ line ∷ []) ≡ read_on (suc (count + length xs)) line (audit_lines count reading xs)
one_more count reading [] line = let e : count ≡ count + 0 = omega arith in ap (λ n. read_on (suc n) line reading) e
one_more count reading (x ∷ xs) line =
    let e : suc count + length xs ≡ count + suc (length xs) = omega arith in
    one_more (suc count) (read_on (suc count) x reading) xs line
    ∙ ap (λ n. read_on (suc n) line (audit_lines (suc count) (read_on (suc count) x reading) xs)) e

-- the lines with one more
pub more_read : (answered : List (List ℕ)) (line : List ℕ) (number : ℕ) → number ≡ suc (length answered) → audit_input (answered ++ line ∷ []) ≡ read_on number line (audit_input answered)
more_read answered line number is =
    let e : suc (0 + length answered) ≡ number = omega (arith, is) in
    one_more 0 (audit_input []) answered line ∙ ap (λ n. read_on n line (audit_input answered)) e

-- ---- for which lines memory is taken

or-left : (a b : Bool) → a ≡ true → (a || b) ≡ true
or-left true b e = refl
or-left false b e = absurd cc

or-assoc : (a b d : Bool) → (a || (b || d)) ≡ ((a || b) || d)
or-assoc true b d = refl
or-assoc false b d = refl

or-false : (a : Bool) → (a || false) ≡ a
or-false true = refl
or-false false = refl

one_takes : (count : ℕ) (reading : Result AuditInput Fault) (xs : List (List ℕ)) (line : List ℕ) → lines_take count reading (xs ++ line ∷ []) ≡ (lines_take count reading xs || reading_takes (audit_lines count reading xs) line)
one_takes count reading [] line = or-false (reading_takes reading line)
one_takes count reading (x ∷ xs) line =
    let on : Result AuditInput Fault = read_on (suc count) x reading in
    ap (λ b. reading_takes reading x || b) (one_takes (suc count) on xs line)
    ∙ or-assoc (reading_takes reading x) (lines_take (suc count) on xs) (reading_takes (audit_lines (suc count) on xs) line)

-- for the lines with one more
pub more_takes : (answered : List (List ℕ)) (line : List ℕ) → input_takes (answered ++ line ∷ []) ≡ (input_takes answered || reading_takes (audit_input answered) line)
more_takes answered line = one_takes 0 (audit_input []) answered line

-- the end of the input is no line
pub end-number : (old new : ReaderState) (rest after : Option (List ℕ)) → Nexts old new End rest after → new.number ≡ old.number
end-number old new rest after (inl (is_open, reads)) = omega (arith, reads.numbered)
end-number old new rest after (inr (closed, is, same, stays)) = ap (λ (r : ReaderState). r.number) same

-- ---- what is told

told-surely : (told : Told) (takes : Bool) (answer : Result Verdict Fault) → TellsOf false told answer → TellsOf takes told answer
told-surely told takes answer (inl (never, tells)) = absurd cc
told-surely told takes answer (inr tells) = inr tells

-- the first fault, or that memory ran out
pub told-fault : (told : Told) (count : ℕ) (takes : Bool) (said reading : Result AuditInput Fault) (fault : Fault) → said ≡ Err fault → ReadsAs takes said reading → (fault.refusal ≢ Memory → TellsOf false told (Err fault)) → (fault.refusal ≡ Memory → Tells told memory_line status.Memory) → TellsOf (takes || is_ok (told_by count reading)) told (told_by count reading)
told-fault told count takes said reading fault is (inl (taken, none)) tells memory =
    let same : Err fault ≡ Err no_memory = sym is ∙ none in
    let one : fault ≡ no_memory = cc in
    inl (or-left takes (is_ok (told_by count reading)) taken, memory (ap (λ (f : Fault). f.refusal) one))
told-fault told count takes said reading fault is (inr (same, other)) tells memory =
    told-surely told (takes || is_ok (told_by count reading)) (told_by count reading)
    (subst (λ r. TellsOf false told (told_by count r)) (sym (same ∙ is))
    (tells (subst (λ (r : Result AuditInput Fault). IfErr r (λ fault. fault.refusal ≢ Memory)) is other)))

-- what is told of such an input, by its own lines
pub told-whole : {before after : Option (List ℕ)} (told : Told) (whole : WholeInput) → IsWholeInput whole before after → ((reading : Result AuditInput Fault) (takes : Bool) → ReadsAs takes whole.said reading → TellsOf (takes || is_ok (told_by whole.lines reading)) told (told_by whole.lines reading)) → Audited told before after
told-whole told whole input tells = record {
  came = input.came;
  read = input.read;
  at_end = input.at_end;
  within = input.within;
  tells =
      subst (λ n. TellsOf (input_takes (lines input.came) || is_ok (told_by n (audit_input (lines input.came)))) told (told_by n (audit_input (lines input.came)))) input.lines
      (tells (audit_input (lines input.came)) (input_takes (lines input.came)) input.said);
}

-- ---- what was read and written

-- a part of it was written
pub Serves-part : {told : Told} {before after : Option (List ℕ)} (taken_before taken_after : Option (List ℕ)) (room : ℕ) (text : List ℕ) → Audited told before after → Appends taken_before taken_after text → IsPart text told.line room → Serves (Some mode.Audit) status.WriteFault before after taken_before taken_after room
Serves-part {told} {before} {after} taken_before taken_after room text audited written part = record {
  came = audited.came;
  text = text;
  read = audited.read;
  written = written;
  served = (audited.at_end, audited.within, by audited.tells);
}
  where
    by : TellsOf (takes_memory (lines audited.came)) told (audit_of (lines audited.came)) → IsPart text (audit_text_by (audit_of (lines audited.came))) room ⊎ ((takes_memory (lines audited.came) ≡ true) × IsPart text memory_line room)
    by (inl (taken, tells)) = inr (taken, subst (λ line. IsPart text line room) tells.line_is part)
    by (inr tells) = inl (subst (λ line. IsPart text line room) tells.line_is part)
