-- No other list of entries is accepted: what is read names each of its log entries once, and for one
-- log, one document and one last moment one list is right.
use Rattle.std.proofs.Common.{◌≡◌, refl, sym, ◌∙◌, ap, subst, ℕ, suc, ◌+◌, Bool, true, false, cond, ltb, ◌&&◌, ◌||◌, List, [], ◌∷◌, ◌++◌, length, get_or, Option, Some, None, option_map, is_some, Result, Ok, Err, arith, length-append}
use Rattle.std.specs.Prelude.{ℤ, pos, nat_abs, codes, bytes_eq, IfSome}
use Rattle.std.specs.Option.{ok_or}
use Rattle.smil_model.specs.declared.diary.Entry.{Entry}
use Rattle.smil_model.specs.declared.diary.LogEntry.{LogEntry}
use Rattle.smil_model.specs.declared.diary.Happening.{Happening}
use Rattle.smil_model.specs.declared.diary.Step.{Step}
use Rattle.smil_model.specs.declared.diary.Step.TheVariants as step
use Rattle.smil_model.specs.declared.limits.TheConstants.{DIARY_ENTRIES}
use Rattle.smil_model.specs.declared.order.Refusal.{Refusal}
use Rattle.smil_model.specs.declared.order.Refusal.TheVariants.{BadOutline, DiaryFull, LongLine, NotACommand}
use Rattle.smil_model.specs.document.Document.{Document}
use Rattle.smil_model.specs.document.Words.{space}
use Rattle.smil_laws.specs.Cut.{is_logged, logged}
use Rattle.smil_laws.proofs.CourseCut.{logged_append}
use Rattle.smil_grammar.specs.Results.{◌>>=◌}
use Rattle.smil_grammar.specs.Outlines.{Outline, ended, header_of, no_lines, with_line}
use Rattle.smil_grammar.specs.Scripts.{is_blank}
use Rattle.smil_grammar.specs.Texts.{cut_at}
use Rattle.smil_audit.specs.Verdict.{first_wrong}
use Rattle.smil_audit.proofs.OwnDiaryAccepted.{no_other_is_accepted, own_diary_is_accepted}
use Rattle.smil_script.specs.declared.entries.DiaryLine.{DiaryLine}
use Rattle.smil_script.specs.declared.entries.DiaryLine.TheVariants.{Happened, Heard, Now}
use Rattle.smil_script.specs.Entries.{diary_line_of, entry_of, entry_or, happening_of, line_by, moment_of, serial_of, step_of, timed, valued_of, with_heard}
use Rattle.smil_script.specs.Loads.{ends_load}
use Rattle.smil_top.specs.Answers.{at_line}
use Rattle.smil_top.specs.AuditInputs.{Input, Reading, Recording, entries_of, in_diary, in_outline, log_of, recording}
use Rattle.smil_top.specs.Auditing.{audit_input, audit_line, audit_lines, audit_text_by, diary_line, outline_line, read_on, recorded, said_line, told_by, verdict_line, with_entry}
use Rattle.smil_top.specs.Cut.{is_short}
use Rattle.smil_top.proofs.AuditInputs.{by_input}
use Rattle.smil_audit_laws.proofs.DiaryLinesRead.{went_on}
use Rattle.smil_audit_laws.proofs.WrittenDiaryAccepted.{all_heard}
use Rattle.smil_audit_laws.specs.Accepted.{IsAccepted, IsReadAs, NoOtherDiaryIsAccepted, OnlyOwnDiaryIsAccepted}

-- ---- lines of entries name no log entry by its place

abbrev IsPlace : Step → Type 0
IsPlace s = is_logged s ≡ false

made : {A : Type 0} (f : A → Step) (o : Option A) → ((x : A) → is_logged (f x) ≡ false) → IfSome (option_map f o) IsPlace
made f None each = tt
made f (Some x) each = each x

or_else : (t : Bool) (o p : Option Step) → IfSome o IsPlace → IfSome p IsPlace → IfSome (cond t o p) IsPlace
or_else true o p h k = h
or_else false o p h k = k

step_places : (word rest : List ℕ) → IfSome (step_of word rest) IsPlace
step_places word rest =
    or_else (bytes_eq word (codes "began")) _ _ (made (λ (v : ℕ × ℤ). step.Began v.0 v.1) (valued_of rest) (λ x. refl))
    (or_else (bytes_eq word (codes "repeated")) _ _ (made (λ (v : ℕ × ℤ). step.Repeated v.0 v.1) (valued_of rest) (λ x. refl))
    (or_else (bytes_eq word (codes "ended")) _ _ (made (λ (v : ℕ × ℤ). step.Ended v.0 v.1) (valued_of rest) (λ x. refl))
    (or_else (bytes_eq word (codes "cut")) _ _ (made step.Cut (serial_of rest) (λ x. refl))
    (or_else (bytes_eq word (codes "paused")) _ _ (made step.Paused (serial_of rest) (λ x. refl))
    (or_else (bytes_eq word (codes "resumed")) _ _ (made step.Resumed (serial_of rest) (λ x. refl))
    (or_else (bytes_eq word (codes "deferred")) _ _ (made (λ (v : ℕ × ℤ). step.Deferred v.0 v.1) (valued_of rest) (λ x. refl))
    (or_else (bytes_eq word (codes "passed")) _ _ (made (λ (v : ℕ × ℤ). step.Passed v.0 v.1) (valued_of rest) (λ x. refl)) tt)))))))

-- what happened names no place
abbrev NamesNone : DiaryLine → Type 0
NamesNone (Happened entry) = is_logged entry.step ≡ false
NamesNone (Heard entry) = Unit {0}
NamesNone (Now moment) = Unit {0}

abbrev GivesNone : Result DiaryLine Refusal → Type 0
GivesNone (Ok said) = NamesNone said
GivesNone (Err refusal) = Unit {0}

entry_names : (moment : ℤ) (word rest : List ℕ) → GivesNone (entry_of moment word rest)
entry_names moment word rest = by_step (step_of word rest) (step_places word rest)
  where
    by_heard : (o : Option Happening) → GivesNone (with_heard moment (ok_or o NotACommand))
    by_heard None = tt
    by_heard (Some what) = tt

    by_step : (o : Option Step) → IfSome o IsPlace → GivesNone (entry_or moment word rest o)
    by_step None h = by_heard (happening_of word rest)
    by_step (Some s) h = h

timed_names : (m : Option ℤ) (c : Option (List ℕ × List ℕ)) → GivesNone (timed m c)
timed_names None None = tt
timed_names None (Some cut) = tt
timed_names (Some moment) None = tt
timed_names (Some moment) (Some cut) = entry_names moment cut.0 cut.1

line_names : (line : List ℕ) → GivesNone (diary_line_of line)
line_names line = by_cut (cut_at space line)
  where
    by_now : (o : Option ℤ) → GivesNone (ok_or (option_map Now o) NotACommand)
    by_now None = tt
    by_now (Some moment) = tt

    either : (t : Bool) (one other : Result DiaryLine Refusal) → GivesNone one → GivesNone other → GivesNone (cond t one other)
    either true one other h k = h
    either false one other h k = k

    by_cut : (o : Option (List ℕ × List ℕ)) → GivesNone (line_by o)
    by_cut None = tt
    by_cut (Some cut) = either (bytes_eq cut.0 (codes "now")) _ _ (by_now (moment_of cut.1)) (timed_names (moment_of cut.0) (cut_at space cut.1))

-- ---- what is read names each log entry once

abbrev IsCounted : Input → Type 0
IsCounted x = logged (entries_of x) ≡ length (log_of x)

abbrev given : Input → Result Input Refusal
given x = Ok x

same_input : (P : Input → Type 0) (x y : Input) → P x → given x ≡ given y → P y
same_input P x y h e = let same : x ≡ y = cc in subst P same h

outline_counted : (outline : Outline) (y : Input) (line : List ℕ) → outline_line outline line ≡ Ok y → IsCounted y
outline_counted outline y line e = by_tests (is_some outline.next && ends_load line) (is_some outline.next || is_some (header_of line)) e
  where
    by_tests : (t u : Bool) → cond t (ended outline >>= λ document. Ok (in_diary (recording document [] [] None))) (cond u (with_line outline line >>= λ more. Ok (in_outline more)) (Err BadOutline)) ≡ Ok y → IsCounted y
    by_tests true u e = went_on (ended outline) (λ document. Ok (in_diary (recording document [] [] None))) y (IsCounted y) (λ document d f. same_input IsCounted (in_diary (recording document [] [] None)) y refl f) e
    by_tests false true e = went_on (with_line outline line) (λ more. Ok (in_outline more)) y (IsCounted y) (λ more d f. same_input IsCounted (in_outline more) y refl f) e
    by_tests false false e = cc

entry_counted : (diary more : Recording) (log : List LogEntry) (entry : Entry) → logged (diary.entries ++ entry ∷ []) ≡ length log → with_entry diary log entry ≡ Ok more → logged more.entries ≡ length more.log
entry_counted diary more log entry h e = by_room (ltb (length diary.entries) DIARY_ENTRIES) e
  where
    by_room : (t : Bool) → cond t (Ok (recording diary.doc log (diary.entries ++ entry ∷ []) diary.last)) (Err DiaryFull) ≡ Ok more → logged more.entries ≡ length more.log
    by_room true e = let same : recording diary.doc log (diary.entries ++ entry ∷ []) diary.last ≡ more = cc in subst (λ (d : Recording). logged d.entries ≡ length d.log) same h
    by_room false e = cc

recorded_counted : (diary more : Recording) (said : DiaryLine) → logged diary.entries ≡ length diary.log → NamesNone said → recorded diary said ≡ Ok more → logged more.entries ≡ length more.log
recorded_counted diary more (Happened entry) h none e =
    let one : logged (entry ∷ []) ≡ 0 = ap (λ (t : Bool). length (cond t (entry ∷ []) [])) none in
    let both = logged_append diary.entries (entry ∷ []) in
    entry_counted diary more diary.log entry (omega (arith, both, one, h)) e
recorded_counted diary more (Heard entry) h none e =
    let named : Entry = record { moment = entry.moment; step = step.Logged (length diary.log) } in
    let both = logged_append diary.entries (named ∷ []) in
    let longer = length-append diary.log (entry ∷ []) in
    entry_counted diary more (diary.log ++ entry ∷ []) named (omega (arith, both, longer, h)) e
recorded_counted diary more (Now moment) h none e =
    let same : recording diary.doc diary.log diary.entries (Some moment) ≡ more = cc in subst (λ (d : Recording). logged d.entries ≡ length d.log) same h

diary_counted : (diary : Recording) (y : Input) (line : List ℕ) → logged diary.entries ≡ length diary.log → said_line (in_diary diary) line ≡ Ok y → IsCounted y
diary_counted diary y line h e =
    went_on (diary_line diary diary.last line) (λ more. Ok (in_diary more)) y (IsCounted y) (λ more d f. same_input IsCounted (in_diary more) y (by_last diary.last more d) f) e
  where
    by_last : (last : Option ℤ) (more : Recording) → diary_line diary last line ≡ Ok more → logged more.entries ≡ length more.log
    by_last (Some now) more d = cc
    by_last None more d = went_on (diary_line_of line) (recorded diary) more (logged more.entries ≡ length more.log) (λ said s f. recorded_counted diary more said h (subst GivesNone s (line_names line)) f) d

line_counted : (x y : Input) (line : List ℕ) → IsCounted x → audit_line x line ≡ Ok y → IsCounted y
line_counted x y line h e = by_tests (is_short line) (is_blank line) e
  where
    by_said : (x : Input) → IsCounted x → said_line x line ≡ Ok y → IsCounted y
    by_said x = by_input (λ (x : Input). IsCounted x → said_line x line ≡ Ok y → IsCounted y) (λ outline h e. outline_counted outline y line e) (λ diary h e. diary_counted diary y line h e) x

    by_tests : (t u : Bool) → cond t (cond u (Ok x) (said_line x line)) (Err LongLine) ≡ Ok y → IsCounted y
    by_tests true true e = same_input IsCounted x y h e
    by_tests true false e = by_said x h e
    by_tests false u e = cc

lines_counted : (count : ℕ) (reading : Reading) (ls : List (List ℕ)) (y : Input) → ((x : Input) → reading ≡ Ok x → IsCounted x) → audit_lines count reading ls ≡ Ok y → IsCounted y
lines_counted count reading [] y h e = h y e
lines_counted count reading (line ∷ ls) y h e = lines_counted (suc count) (read_on (suc count) line reading) ls y (by_reading reading h) e
  where
    at_counted : (x z : Input) (r : Result Input Refusal) → audit_line x line ≡ r → IsCounted x → at_line (suc count) r ≡ Ok z → IsCounted z
    at_counted x z (Ok w) d h e = let same : w ≡ z = cc in subst IsCounted same (line_counted x w line h d)
    at_counted x z (Err refusal) d h e = cc

    by_reading : (r : Reading) → ((x : Input) → r ≡ Ok x → IsCounted x) → (z : Input) → read_on (suc count) line r ≡ Ok z → IsCounted z
    by_reading (Ok x) h z e = at_counted x z (audit_line x line) refl (h x refl) e
    by_reading (Err fault) h z e = cc

counted : (ls : List (List ℕ)) (y : Input) → audit_input ls ≡ Ok y → IsCounted y
counted ls y e = lines_counted 0 (Ok (in_outline no_lines)) ls y (λ x d. let same : in_outline no_lines ≡ x = cc in subst IsCounted same refl) e

-- ---- what is accepted

-- `yes` is told only where nothing is wrong
none_wrong : (entries count : ℕ) (o : Option ℕ) → verdict_line entries o ≡ verdict_line count None → o ≡ None
none_wrong entries count None e = refl
none_wrong entries count (Some place) e = let first : 110 ≡ 121 = ap (λ (text : List ℕ). get_or text 0 0) e in absurd (omega (arith, first))

right : (document : Document) (log : List LogEntry) (entries : List Entry) (now : ℤ) (ls : List (List ℕ)) → IsReadAs ls document log entries now → IsAccepted ls → first_wrong document.nodes log entries (nat_abs now) ≡ None
right document log entries now ls read accepted =
    none_wrong (length entries) accepted.0 (first_wrong document.nodes log entries (nat_abs now)) (sym (ap (λ (r : Reading). audit_text_by (told_by (length ls) r)) read) ∙ accepted.1)

pub no_other : NoOtherDiaryIsAccepted
no_other document log now one other entries others read also accepted likewise =
    no_other_is_accepted document.nodes log (nat_abs now) entries others
    (counted one (in_diary (recording document log entries (Some now))) read ∙ sym (counted other (in_diary (recording document log others (Some now))) also))
    (right document log entries now one read accepted) (right document log others now other also likewise)

pub only_own : OnlyOwnDiaryIsAccepted
only_own p diary ls entries state resolved read accepted =
    no_other_is_accepted p.document.nodes p.log p.now entries diary (counted ls (in_diary (recording p.document p.log entries (Some (pos p.now)))) read ∙ sym (all_heard p diary state resolved))
    (right p.document p.log entries (pos p.now) ls read accepted) (own_diary_is_accepted p diary state resolved)
