-- What stands between two lines of an input, and what follows from it where the call ends.
use Rattle.std.proofs.Common.{◌≡◌, ◌≢◌, ◌⊎◌, ℕ, ◌<◌, ◌≤◌, suc, Bool, true, false, List, [], ◌∷◌, ◌++◌, length, take, drop, Option, Some, None, refl, ap, sym, subst, ◌∙◌, arith, append_assoc, inl, inr}
use Rattle.std.specs.Prelude.{nat_lt, IfSome, IsNone, Result, Ok, Err, is_err}
use Rattle.std.proofs.lemmas.List.{append-nil, length-append, take-append-drop, length-drop}
use Rattle.std.specs.Io.KnownBytes.{Appends, Consumes, IsAtEnd}
use Rattle.smil_outside.specs.declared.line.TheConstants.{INPUT_BYTES}
use Rattle.smil_outside.specs.declared.line.Line.{Line}
use Rattle.smil_outside.specs.declared.line.Line.TheVariants.{Bytes, LongLine, End, InputTooLong, ReadFault}
use Rattle.smil_outside.specs.declared.line.Ending.{Ending}
use Rattle.smil_outside.specs.declared.line.Ending.TheVariants as ending
use Rattle.smil_outside.specs.declared.failed.Failed.{Failed}
use Rattle.smil_outside.specs.Lines.{whole_lines}
use Rattle.smil_outside.specs.ReaderState.{ReaderState, Reads, fresh_reading, within_limit, answer_of, IsNextLine}
use Rattle.smil_outside.specs.History.{AreLines, HasAnswered}
use Rattle.smil_outside.proofs.HistoryLemmas.{HasAnswered-fresh, HasAnswered-next}
use Rattle.std.proofs.KnownBytes.{Appends-nil, Appends-trans, Consumes-nil, Consumes-trans}
use Rattle.std.specs.Str.Lines.{lines}
use Rattle.smil_top.specs.declared.run.Run.{Run}
use Rattle.smil_top.specs.declared.status.Status.{Status}
use Rattle.smil_top.specs.declared.status.Status.TheVariants as status
use Rattle.smil_words.specs.declared.mode.Mode.{Mode}
use Rattle.smil_words.specs.declared.mode.Mode.TheVariants as mode
use Rattle.smil_top.specs.Cut.{CutLines, OrderLines, cut_of, with_line, orders, unended, whole_orders}
use Rattle.smil_top.specs.Transcript.{TranscriptState, IsTranscriptBy, untold}
use Rattle.smil_top.specs.Words.{is_told}
use Rattle.smil_top.specs.Serving.{counted_bytes, status_by, status_of, IsWholeTranscript, IsCutShort, IsPart, AreFirst, IsBroken, Runs, Explains, Generates, Serves, ServesBy, reads}
use Rattle.smil_top.specs.Evaluations.{AreEvaluated, Evaluates, EvaluatesBy}
use Rattle.smil_top.specs.Running.{answering, asked_by, ended_by, IsAll, IsRunning, IsLine, Tells, text_of, Writes, WritesAll, WritesPart, Goes, Answers, AnswersOrders, Ends, Ran, RanCounted, RunsBy}
use Rattle.smil_top.proofs.OrderCuts.{cut_of-one_more, count-cut_of, whole-first, orders-first}
use Rattle.smil_top.proofs.TextsWritten.{Writes-two}

-- the reader has not ended, or only at the end of the input
abbrev pub IsUnbroken : ReaderState → Option (List ℕ) → Type 0
IsUnbroken reader rest = (reader.closed ≡ None) ⊎ ((reader.closed ≡ Some ending.End) × IsAtEnd rest)

-- these bytes came, and these lines of them were answered
pub record HasRead (reader : ReaderState) (before rest : Option (List ℕ)) (came : List ℕ) (answered : List (List ℕ)) : Type 0 where
  pub has : HasAnswered reader came answered
  pub read : Consumes before rest came
  pub unbroken : IsUnbroken reader rest

-- this was told and written, and answers the orders that are whole in these lines
pub record HasWritten (checks : Bool) (run : Run) (before taken : Option (List ℕ)) (room left : ℕ) (answered : List (List ℕ)) (told : TranscriptState) : Type 0 where
  pub running : IsRunning checks run (cut_of answered) told
  pub written : WritesAll before taken room left told.text

-- a part of the input was read so
pub record IsReading (reader : ReaderState) (before rest : Option (List ℕ)) : Type 0 where
  pub came : List ℕ
  pub answered : List (List ℕ)
  pub has : HasRead reader before rest came answered

abbrev pub Wrote : Bool → Run → Option (List ℕ) → Option (List ℕ) → ℕ → ℕ → List (List ℕ) → Type 0
Wrote checks run before taken room left answered = (told : TranscriptState) × HasWritten checks run before taken room left answered told

pub record IsServing (checks : Bool) (reader : ReaderState) (run : Run) (before rest taken_before taken : Option (List ℕ)) (room left : ℕ) : Type 0 where
  pub came : List ℕ
  pub answered : List (List ℕ)
  pub told : TranscriptState
  pub reading : HasRead reader before rest came answered
  pub writing : HasWritten checks run taken_before taken room left answered told

abbrev pub IsServing-of : (checks : Bool) (reader : ReaderState) (run : Run) (before rest taken_before taken : Option (List ℕ)) (room left : ℕ) (read : IsReading reader before rest) →
    Wrote checks run taken_before taken room left read.answered → IsServing checks reader run before rest taken_before taken room left
IsServing-of checks reader run before rest taken_before taken room left read wrote = record {
  came = read.came;
  answered = read.answered;
  told = wrote.0;
  reading = read.has;
  writing = wrote.1;
}

-- what a call answered: once the input has ended nothing is read
abbrev pub Nexts : ReaderState → ReaderState → Line → Option (List ℕ) → Option (List ℕ) → Type 0
Nexts old new answer before after =
    ((old.closed ≡ None) × Reads old new answer before after)
    ⊎ ((old.closed ≡ Some ending.End) × (answer ≡ End) × (new ≡ record old { line = [] }) × (after ≡ before))

-- a read that failed was made before the end
pub fault-open : (old new : ReaderState) (rest after : Option (List ℕ)) → Nexts old new ReadFault rest after → IsNone old.closed
fault-open old new rest after (inl open_reads) = subst IsNone (sym open_reads.0) refl
fault-open old new rest after (inr ended) = absurd cc

-- before the first line
pub HasRead-fresh : (rest : Option (List ℕ)) → HasRead fresh_reading rest rest [] []
HasRead-fresh rest = record { has = HasAnswered-fresh; read = Consumes-nil rest; unbroken = inl refl }

-- ---- one call of `next`

-- what `next` ensures
pub Nexts-of : {S : Type 0} (rest_of : S → Option (List ℕ)) (source source' : S) (old new : ReaderState) (answer : Line) → IsUnbroken old (rest_of source) →
    IfSome old.closed (λ ending. (answer ≡ answer_of ending) × (new ≡ record old { line = [] }) × (source' ≡ source)) →
    (IsNone old.closed → Reads old new answer (rest_of source) (rest_of source')) → Nexts old new answer (rest_of source) (rest_of source')
Nexts-of rest_of source source' old new answer (inl is_open) again reads = inl (is_open, reads (subst IsNone (sym is_open) refl))
Nexts-of rest_of source source' old new answer (inr ended) again reads =
    let same = subst (λ (e : Option Ending). IfSome e (λ ending. (answer ≡ answer_of ending) × (new ≡ record old { line = [] }) × (source' ≡ source))) ended.0 again in
    inr (ended.0, same.0, same.1, ap rest_of same.2)

unbroken_by : (text line : List ℕ) (new : ReaderState) (after : Option (List ℕ)) → IsNextLine text line new (IsAtEnd after × (new.taken ≤ INPUT_BYTES)) → IsUnbroken new after
unbroken_by text line new after (inl starts) = inl starts.1
unbroken_by text line new after (inr last) = inr (last.3, last.1.0)

-- a line that the reader shows, or one that is too long
abbrev pub Hands : ReaderState → Line → Option (List ℕ) → Type 0
Hands new answer text = ((answer ≡ Bytes) × (text ≡ Some new.line)) ⊎ ((answer ≡ LongLine) × (text ≡ None))

-- then no read failed
pub hands-no_fault : (new : ReaderState) (answer : Line) (text : Option (List ℕ)) → Hands new answer text → answer ≢ ReadFault
hands-no_fault new answer text (inl (shown, is)) = λ fault. cc
hands-no_fault new answer text (inr (long, is)) = λ fault. cc

module _ {old new : ReaderState} {before rest after : Option (List ℕ)} {came : List ℕ} {answered : List (List ℕ)} (has : HasRead old before rest came answered) where
  -- a line that the reader shows
  next-bytes : Nexts old new Bytes rest after → (came' : List ℕ) × HasRead new before after came' (answered ++ new.line ∷ []) × IsLine (Some new.line) new.line × (new.number ≡ suc (cut_of answered).count)
  next-bytes (inr h) = cc
  next-bytes (inl (is_open, reads)) =
      let next = HasAnswered-next old new Bytes rest after came answered has.has is_open reads in
      let these : next.0 ≡ new.line ∷ [] = (next.1).0 in
      let number : new.number ≡ suc (cut_of answered).count = omega (arith, reads.numbered, has.has.numbered, count-cut_of answered) in (
        came ++ reads.came,
        record {
          has = subst (λ zs. HasAnswered new (came ++ reads.came) (answered ++ zs)) these next.2;
          read = Consumes-trans before rest after came reads.came has.read reads.took;
          unbroken = unbroken_by (old.pending ++ within_limit old.taken reads.came) new.line new after (reads.answered).0;
        },
        (refl, (reads.answered).1),
        number,
      )

  -- a line that is too long
  next-long : Nexts old new LongLine rest after → (came' : List ℕ) × (line : List ℕ) × HasRead new before after came' (answered ++ line ∷ []) × IsLine None line × (new.number ≡ suc (cut_of answered).count)
  next-long (inr h) = cc
  next-long (inl (is_open, reads)) =
      let next = HasAnswered-next old new LongLine rest after came answered has.has is_open reads in
      let line = (next.1).0 in
      let number : new.number ≡ suc (cut_of answered).count = omega (arith, reads.numbered, has.has.numbered, count-cut_of answered) in (
        came ++ reads.came,
        line,
        record {
          has = subst (λ zs. HasAnswered new (came ++ reads.came) (answered ++ zs)) (next.1).1 next.2;
          read = Consumes-trans before rest after came reads.came has.read reads.took;
          unbroken = unbroken_by (old.pending ++ within_limit old.taken reads.came) ((reads.answered).0).0 new after ((reads.answered).0).1;
        },
        (next.1).2,
        number,
      )

  -- either line, as the reader shows it
  pub next-line : (answer : Line) (text : Option (List ℕ)) → Nexts old new answer rest after → Hands new answer text →
      (came' : List ℕ) × (line : List ℕ) × HasRead new before after came' (answered ++ line ∷ []) × IsLine text line × (new.number ≡ suc (cut_of answered).count)
  next-line answer text nexts (inl (shown, is)) =
      let n = next-bytes (subst (λ a. Nexts old new a rest after) shown nexts) in
      (n.0, new.line, n.1, subst (λ o. IsLine o new.line) (sym is) n.2, n.3)
  next-line answer text nexts (inr (long, is)) =
      let n = next-long (subst (λ a. Nexts old new a rest after) long nexts) in
      (n.0, n.1, n.2, subst (λ o. IsLine o n.1) (sym is) n.3, n.4)

  -- the end of the input: these are all its lines
  pub next-end : Nexts old new End rest after → (came' : List ℕ) × Consumes before after came' × IsAtEnd after × (lines came' ≡ answered) × (length came' ≤ INPUT_BYTES)
  next-end (inr (closed, is, same, stays)) =
      let lines_are : (lines came ≡ answered) × (length came ≤ INPUT_BYTES) = subst (λ e. AreLines e came old.pending answered) closed has.has.lines in
      let at_end : IsAtEnd rest = elim has.unbroken [ inl is_open ↦ cc | inr ended ↦ ended.1 ] in
      (came, subst (λ r. Consumes before r came) (sym stays) has.read, subst IsAtEnd (sym stays) at_end, lines_are.0, lines_are.1)
  next-end (inl (is_open, reads)) =
      let next = HasAnswered-next old new End rest after came answered has.has is_open reads in
      let ended = reads.answered in
      let lines_are : (lines (came ++ reads.came) ≡ answered ++ next.0) × (length (came ++ reads.came) ≤ INPUT_BYTES) = subst (λ e. AreLines e (came ++ reads.came) new.pending (answered ++ next.0)) (ended.2).closed (next.2).lines in (
        came ++ reads.came,
        Consumes-trans before rest after came reads.came has.read reads.took,
        (ended.1).0,
        lines_are.0 ∙ ap (λ zs. answered ++ zs) next.1 ∙ append-nil answered,
        lines_are.1,
      )

  -- the limit is passed, or a read failed: these are the whole lines of what counts
  pub next-too_long : Nexts old new InputTooLong rest after → (came' : List ℕ) × Consumes before after came' × (whole_lines (counted_bytes came') ≡ answered) × (INPUT_BYTES < length came')
  next-too_long (inr h) = cc
  next-too_long (inl (is_open, reads)) =
      let next = HasAnswered-next old new InputTooLong rest after came answered has.has is_open reads in
      let lines_are : (whole_lines (within_limit 0 (came ++ reads.came)) ≡ answered ++ next.0) × (INPUT_BYTES < length (came ++ reads.came)) = subst (λ e. AreLines e (came ++ reads.came) new.pending (answered ++ next.0)) ((reads.answered).2).closed (next.2).lines in (
        came ++ reads.came,
        Consumes-trans before rest after came reads.came has.read reads.took,
        lines_are.0 ∙ ap (λ zs. answered ++ zs) next.1 ∙ append-nil answered,
        lines_are.1,
      )

  pub next-fault : Nexts old new ReadFault rest after → (came' : List ℕ) × Consumes before after came' × (whole_lines (counted_bytes came') ≡ answered) × (length came' ≤ INPUT_BYTES)
  next-fault (inr h) = cc
  next-fault (inl (is_open, reads)) =
      let next = HasAnswered-next old new ReadFault rest after came answered has.has is_open reads in
      let lines_are : (whole_lines (within_limit 0 (came ++ reads.came)) ≡ answered ++ next.0) × (length (came ++ reads.came) ≤ INPUT_BYTES) = subst (λ e. AreLines e (came ++ reads.came) new.pending (answered ++ next.0)) ((reads.answered).2).closed (next.2).lines in (
        came ++ reads.came,
        Consumes-trans before rest after came reads.came has.read reads.took,
        lines_are.0 ∙ ap (λ zs. answered ++ zs) next.1 ∙ append-nil answered,
        lines_are.1,
      )

-- the orders that are whole in the lines answered were read first
pub orders-read : (reader : ReaderState) (before rest : Option (List ℕ)) (came : List ℕ) (answered : List (List ℕ)) → HasRead reader before rest came answered →
    AreFirst (cut_of answered).whole rest came
orders-read reader before rest came answered has = elim has.unbroken [
  | inl is_open ↦
      (let known : AreLines None came reader.pending answered = subst (λ e. AreLines e came reader.pending answered) is_open has.has.lines in
      let later = whole-first answered (whole_lines (reader.pending ++ [])) in
      inl (later.0, ap whole_orders (ap whole_lines (sym (append-nil (within_limit 0 came))) ∙ (known []).1) ∙ later.1))
  | inr ended ↦
      (let known : (lines came ≡ answered) × (length came ≤ INPUT_BYTES) = subst (λ e. AreLines e came reader.pending answered) ended.0 has.has.lines in
      let later = orders-first answered [] in
      inr (ended.1, known.1, (later.0, ap orders (known.0 ∙ sym (append-nil answered)) ∙ later.1)))
]

-- ---- where the call ends

-- a part that was written is a part of the whole text
part-of : (told text : List ℕ) (before taken after : Option (List ℕ)) (room left : ℕ) →
    WritesAll before taken room left told → WritesPart taken after left text →
    (said : List ℕ) × Appends before after said × IsPart said (told ++ text) room
part-of told text before taken after room left all part =
    let split : told ++ text ≡ (told ++ take part.0 text) ++ drop part.0 text = ap (λ zs. told ++ zs) (sym (take-append-drop part.0 text)) ∙ sym (append_assoc told (take part.0 text) (drop part.0 text)) in
    let some : 0 < length (drop part.0 text) = omega (arith, part.1, length-drop part.0 text) in
    let more : room < length (told ++ text) = omega (arith, all.1, part.3, length-append told text) in (
      told ++ take part.0 text,
      Appends-trans before taken after told (take part.0 text) all.0 part.2,
      record { rest = drop part.0 text; split = split; some = some; more_than_room = more },
    )

-- a text alone, whose write failed
pub part-alone : {result : Result (Unit {0}) Failed} {fault : Failed} (before after : Option (List ℕ)) (room left : ℕ) (text : List ℕ) → result ≡ Err fault → Writes result before after room left text →
    (said : List ℕ) × Appends before after said × IsPart said text room
part-alone before after room left text is writes =
    part-of [] text before before after room room (Appends-nil before, omega arith) (subst (λ r. Writes r before after room left text) is writes)

-- more was told
all-told : (told more : TranscriptState) (before taken after : Option (List ℕ)) (room left left' : ℕ) (goes : Goes (Ok tt) told more taken after left left') →
    WritesAll before taken room left told.text → WritesAll before after room left' more.text
all-told told more before taken after room left left' goes one =
    subst (λ zs. WritesAll before after room left' zs) (sym goes.text_is) (Writes-two (Ok tt) before taken after room left left' told.text goes.text one goes.writes)

part-told : (e : Failed) (told more : TranscriptState) (before taken after : Option (List ℕ)) (room left left' : ℕ) (goes : Goes (Err e) told more taken after left left') →
    WritesAll before taken room left told.text → (said : List ℕ) × Appends before after said × IsPart said more.text room
part-told e told more before taken after room left left' goes one =
    let p = part-of told.text goes.text before taken after room left one goes.writes in
    (p.0, p.1, subst (λ zs. IsPart p.0 zs room) (sym goes.text_is) p.2)

-- the whole input was answered
runs_all : (checks refused memory : Bool) (run : Run) (rest : Option (List ℕ)) (came text : List ℕ) (room : ℕ) → IsAtEnd rest →
    IsAll checks (status_by refused memory) run came text → RunsBy checks (status_by refused memory) run rest came text room
runs_all checks true true run rest came text room at_end all = (at_end, all)
runs_all checks false true run rest came text room at_end all = (at_end, all)
runs_all checks true false run rest came text room at_end all = (at_end, all)
runs_all checks false false run rest came text room at_end all = (at_end, all)

-- what is said of evaluations where a session is run
EvaluatesBy-of : (checks : Bool) (ended : Status) (came : List ℕ) (rise : ℕ) → (checks ≡ false → AreEvaluated ended (orders (lines came)) rise) →
    EvaluatesBy (Some (asked_by checks)) ended came rise
EvaluatesBy-of true ended came rise evaluated = tt
EvaluatesBy-of false ended came rise evaluated = evaluated refl

not_told : (ended : Status) (os : List OrderLines) (rise : ℕ) → is_told ended ≡ false → AreEvaluated ended os rise
not_told ended os rise not told none = let e : true ≡ false = sym told ∙ not in absurd cc

-- nothing is said where not all was told
pub RanCounted-untold : {checks : Bool} {ended : Status} {run : Run} {before after taken_before taken_after : Option (List ℕ)} {room rise : ℕ} → is_told ended ≡ false →
    Ran checks ended run before after taken_before taken_after room → RanCounted checks ended run before after taken_before taken_after room rise
RanCounted-untold {checks} {ended} {run} {before} {after} {taken_before} {taken_after} {room} {rise} not ran = record {
  ran = ran;
  bounded = EvaluatesBy-of checks ended ran.came rise (λ runs. not_told ended (orders (lines ran.came)) rise not);
}

module _ {checks : Bool} {old : ReaderState} {run : Run} {before rest taken_before taken : Option (List ℕ)} {room left : ℕ} (serving : IsServing checks old run before rest taken_before taken room left) where
  -- a call that ends without another answer: all that was told is the transcript of the whole lines
  stopped : {after : Option (List ℕ)} (ended : Status) (came : List ℕ) → Consumes before after came → RunsBy checks ended run after came serving.told.text room → Ran checks ended run before after taken_before taken room
  stopped ended came read runs = record { came = came; text = serving.told.text; read = read; written = serving.writing.written.0; runs = runs }

  cut-short : (came : List ℕ) → whole_lines (counted_bytes came) ≡ serving.answered → IsCutShort (answering checks) came serving.told.text
  cut-short came is = (serving.told, subst (λ zs. IsTranscriptBy (answering checks) (whole_orders zs) serving.told) (sym is) serving.writing.running.tells.transcript, refl)

  -- the input is too long
  pub Ran-too_long : {new : ReaderState} {after : Option (List ℕ)} → Nexts old new InputTooLong rest after → Ran checks status.InputTooLong run before after taken_before taken room
  Ran-too_long nexts = let n = next-too_long serving.reading nexts in stopped status.InputTooLong n.0 n.1 (n.3, cut-short n.0 n.2)

  -- a read failed
  pub Ran-fault : {new : ReaderState} {after : Option (List ℕ)} → Nexts old new ReadFault rest after → Ran checks status.ReadFault run before after taken_before taken room
  Ran-fault nexts = let n = next-fault serving.reading nexts in stopped status.ReadFault n.0 n.1 (n.3, cut-short n.0 n.2)

  abbrev cut : CutLines
  cut = cut_of serving.answered

  module _ {after_run : Run} {taken_after : Option (List ℕ)} {left' : ℕ} where
    -- the source has ended, and the load that hasn't is answered
    ended-by : {after : Option (List ℕ)} (came : List ℕ) (result : Result (Unit {0}) Failed) (ended : Status) → Consumes before after came → IsAtEnd after → (lines came ≡ serving.answered) → (length came ≤ INPUT_BYTES) →
        (answers : AnswersOrders checks result after_run (cut.whole ++ unended cut.«open») serving.told taken taken_after left left') →
        ended ≡ ended_by result answers.more → Ran checks ended after_run before after taken_before taken_after room
    ended-by {after = after} came (Ok done) ended read at_end lines_are within answers is =
        let more : TranscriptState = answers.more in
        let same_orders : cut.whole ++ unended cut.«open» ≡ orders (lines came) = ap orders (sym lines_are) in
        let tells : Tells checks after_run (orders (lines came)) more = subst (λ os. Tells checks after_run os more) same_orders answers.tells in
        let all : IsAll checks (status_of more) after_run came more.text = record { told = more; tells = tells; text_is = refl; ended_is = refl; within = within } in
        record {
          came = came;
          text = more.text;
          read = read;
          written = (all-told serving.told more taken_before taken taken_after room left left' answers.goes serving.writing.written).0;
          runs = subst (λ s. RunsBy checks s after_run after came more.text room) (sym is) (runs_all checks (nat_lt 0 more.refused) more.memory after_run after came more.text room at_end all);
        }
    ended-by {after = after} came (Err e) ended read at_end lines_are within answers is =
        let more : TranscriptState = answers.more in
        let same_orders : cut.whole ++ unended cut.«open» ≡ orders (lines came) = ap orders (sym lines_are) in
        let tells : Tells checks after_run (orders (lines came)) more = subst (λ os. Tells checks after_run os more) same_orders answers.tells in
        let p = part-told e serving.told more taken_before taken taken_after room left left' answers.goes serving.writing.written in
        let first : AreFirst (orders (lines came)) after came = inr (at_end, within, ([], sym (append-nil (orders (lines came))))) in
        let broken : IsBroken (answering checks) after came p.0 room = (orders (lines came), more, first, tells.transcript, p.2) in
        record {
          came = came;
          text = p.0;
          read = read;
          written = p.1;
          runs = subst (λ s. RunsBy checks s after_run after came p.0 room) (sym is) broken;
        }

    pub Ran-end : {new : ReaderState} {after : Option (List ℕ)} (ended : Status) → Nexts old new End rest after →
        ((checks : Bool) (cut : CutLines) (told : TranscriptState) → IsRunning checks run cut told → Ends checks ended after_run cut told taken taken_after left left') →
        Ran checks ended after_run before after taken_before taken_after room
    Ran-end ended nexts ends =
        let e : Ends checks ended after_run cut serving.told taken taken_after left left' = ends checks cut serving.told serving.writing.running in
        let n = next-end serving.reading nexts in
        ended-by n.0 e.result ended n.1 n.2 n.3 n.4 e.answers e.ended_is

    -- these bytes came
    ended-came : (after : Option (List ℕ)) (came : List ℕ) (result : Result (Unit {0}) Failed) (ended : Status) (read : Consumes before after came) (at_end : IsAtEnd after) (lines_are : lines came ≡ serving.answered) (within : length came ≤ INPUT_BYTES)
        (answers : AnswersOrders checks result after_run (cut.whole ++ unended cut.«open») serving.told taken taken_after left left') (is : ended ≡ ended_by result answers.more) →
        (ended-by {after = after} came result ended read at_end lines_are within answers is).came ≡ came
    unfolding ended-by
    ended-came after came (Ok done) ended read at_end lines_are within answers is = refl
    ended-came after came (Err e) ended read at_end lines_are within answers is = refl

    lines-came : {new : ReaderState} {after : Option (List ℕ)} (ended : Status) (nexts : Nexts old new End rest after)
        (ends : (checks : Bool) (cut : CutLines) (told : TranscriptState) → IsRunning checks run cut told → Ends checks ended after_run cut told taken taken_after left left') →
        lines (Ran-end ended nexts ends).came ≡ serving.answered
    unfolding Ran-end
    lines-came ended nexts ends =
        let e : Ends checks ended after_run cut serving.told taken taken_after left left' = ends checks cut serving.told serving.writing.running in
        let n = next-end serving.reading nexts in
        ap lines (ended-came _ n.0 e.result ended n.1 n.2 n.3 n.4 e.answers e.ended_is) ∙ n.3

    -- with the evaluations of its orders
    pub RanCounted-end : {new : ReaderState} {after : Option (List ℕ)} (ended : Status) → Nexts old new End rest after →
        ((checks : Bool) (cut : CutLines) (told : TranscriptState) → IsRunning checks run cut told → Ends checks ended after_run cut told taken taken_after left left') →
        (rise : ℕ) → (checks ≡ false → AreEvaluated ended (cut.whole ++ unended cut.«open») rise) → RanCounted checks ended after_run before after taken_before taken_after room rise
    RanCounted-end ended nexts ends rise evaluated = record {
      ran = Ran-end ended nexts ends;
      bounded = EvaluatesBy-of checks ended (Ran-end ended nexts ends).came rise (λ runs. subst (λ zs. AreEvaluated ended (orders zs) rise) (sym (lines-came ended nexts ends)) (evaluated runs));
    }

-- a line was read behind those answered, and the session went on
module _ {checks : Bool} {new : ReaderState} {run : Run} {before after taken taken_after : Option (List ℕ)} {room left left' : ℕ} {came : List ℕ} {told : TranscriptState} (taken_before : Option (List ℕ)) (answered : List (List ℕ)) (line : List ℕ)
    (has : HasRead new before after came (answered ++ line ∷ [])) (said : WritesAll taken_before taken room left told.text) where
  -- its answer was written
  pub Wrote-next : (r : Result (Unit {0}) Failed) → is_err r ≡ false → Answers checks r run (with_line (cut_of answered) line) told taken taken_after left left' → Wrote checks run taken_before taken_after room left' (answered ++ line ∷ [])
  Wrote-next (Ok done) went answers = (
    answers.more,
    record { running = subst (λ (c : CutLines). IsRunning checks run c answers.more) (sym (cut_of-one_more answered line)) answers.running; written = all-told told answers.more taken_before taken taken_after room left left' answers.goes said },
  )
  Wrote-next (Err e) went answers = absurd cc

  -- writing it failed
  pub Ran-unwritten : (r : Result (Unit {0}) Failed) → is_err r ≡ true → Answers checks r run (with_line (cut_of answered) line) told taken taken_after left left' → Ran checks status.WriteFault run before after taken_before taken_after room
  Ran-unwritten (Ok done) failed answers = absurd cc
  Ran-unwritten (Err e) failed answers =
      let p = part-told e told answers.more taken_before taken taken_after room left left' answers.goes said in
      let these : List (List ℕ) = answered ++ line ∷ [] in
      let running = subst (λ (c : CutLines). IsRunning checks run c answers.more) (sym (cut_of-one_more answered line)) answers.running in
      record {
        came = came;
        text = p.0;
        read = has.read;
        written = p.1;
        runs = ((cut_of these).whole, answers.more, orders-read new before after came these has, running.tells.transcript, p.2);
      }

-- then this was told
pub told-next : {checks : Bool} {run : Run} {taken taken_after : Option (List ℕ)} {room left left' : ℕ} {told : TranscriptState} (taken_before : Option (List ℕ)) (answered : List (List ℕ)) (line : List ℕ) {new : ReaderState} {before after : Option (List ℕ)} {came : List ℕ}
    (has : HasRead new before after came (answered ++ line ∷ [])) (said : WritesAll taken_before taken room left told.text) (r : Result (Unit {0}) Failed) (went : is_err r ≡ false) (answers : Answers checks r run (with_line (cut_of answered) line) told taken taken_after left left') →
    (Wrote-next taken_before answered line has said r went answers).0 ≡ answers.more
unfolding Wrote-next
told-next taken_before answered line has said (Ok done) went answers = refl
told-next taken_before answered line has said (Err e) went answers = absurd cc

-- what was told could not be handed on: such a sink tells nothing of what it takes
pub Ran-unhanded : {checks : Bool} {reader : ReaderState} {run : Run} {before rest taken_before taken taken_after : Option (List ℕ)} {room left : ℕ} (serving : IsServing checks reader run before rest taken_before taken room left) →
    taken_before ≡ None → room ≡ 0 → 0 < length serving.told.text → Ran checks status.WriteFault run before rest taken_before taken_after room
Ran-unhanded {reader = reader} {before = before} {rest = rest} {taken_after = after} serving none unsure some = record {
  came = serving.came;
  text = [];
  read = serving.reading.read;
  written = subst (λ (t : Option (List ℕ)). Appends t after []) (sym none) tt;
  runs = (
    (cut_of serving.answered).whole,
    serving.told,
    orders-read reader before rest serving.came serving.answered serving.reading,
    serving.writing.running.tells.transcript,
    record { rest = serving.told.text; split = refl; some = some; more_than_room = subst (λ n. n < length serving.told.text) (sym unsure) some },
  );
}

-- the same for what is told at the end of the input
pub AnswersOrders-unhanded : {checks : Bool} {run : Run} {orders : List OrderLines} {told : TranscriptState} {before after after' : Option (List ℕ)} {room left left' : ℕ} (done : Unit {0}) (e : Failed) → AnswersOrders checks (Ok done) run orders told before after room left →
    before ≡ None → room ≡ 0 → 0 < length (text_of run.answer) → AnswersOrders checks (Err e) run orders told before after' room left'
AnswersOrders-unhanded {after' = after} done e answers none unsure some =
    let text : List ℕ = answers.goes.text in
    let some_text : 0 < length text = subst (λ (t : List ℕ). 0 < length t) answers.stands some in
    record {
      more = answers.more;
      goes = record {
        text = text;
        text_is = answers.goes.text_is;
        writes = (0, some_text, subst (λ (t : Option (List ℕ)). Appends t after (take 0 text)) (sym none) tt, subst (λ n. n < length text) (sym unsure) some_text);
      };
      stands = answers.stands;
      tells = answers.tells;
    }

-- what was written stays so where it is handed on
pub written-handed : (before taken taken' : Option (List ℕ)) (room left left' : ℕ) (text : List ℕ) → taken' ≡ taken → left ≤ left' → WritesAll before taken room left text → WritesAll before taken' room left' text
written-handed before taken taken' room left left' text same more written = (subst (λ (t : Option (List ℕ)). Appends before t text) (sym same) written.0, omega (arith, written.1, more))

pub AnswersOrders-handed : {checks : Bool} {run : Run} {orders : List OrderLines} {told : TranscriptState} {before after after' : Option (List ℕ)} {room left left' : ℕ} (done : Unit {0}) → after' ≡ after → left ≤ left' →
    AnswersOrders checks (Ok done) run orders told before after room left → AnswersOrders checks (Ok done) run orders told before after' room left'
AnswersOrders-handed {before = before} {after = after} {after' = after'} {room = room} {left = left} {left' = left'} done same more answers = record {
  more = answers.more;
  goes = record { text = answers.goes.text; text_is = answers.goes.text_is; writes = written-handed before after after' room left left' answers.goes.text same more answers.goes.writes };
  stands = answers.stands;
  tells = answers.tells;
}

abbrev pub Wrote-handed : (checks : Bool) (run : Run) (before taken taken' : Option (List ℕ)) (room left left' : ℕ) (answered : List (List ℕ)) → taken' ≡ taken → left ≤ left' → Wrote checks run before taken room left answered → Wrote checks run before taken' room left' answered
Wrote-handed checks run before taken taken' room left left' answered same more wrote =
    (wrote.0, record { running = wrote.1.running; written = written-handed before taken taken' room left left' wrote.0.text same more wrote.1.written })

-- something was told, before or now
pub some-told : (told more text : List ℕ) → more ≡ told ++ text → (0 < length told) ⊎ (0 < length text) → 0 < length more
some-told told more text is (inl some) = subst (λ (zs : List ℕ). 0 < length zs) (sym is) (omega (arith, some, length-append told text))
some-told told more text is (inr some) = subst (λ (zs : List ℕ). 0 < length zs) (sym is) (omega (arith, some, length-append told text))

pub Wrote-fresh : (checks : Bool) (run : Run) (taken : Option (List ℕ)) (room : ℕ) → IsRunning checks run (cut_of []) untold → Wrote checks run taken taken room room []
Wrote-fresh checks run taken room running = (untold, record { running = running; written = (Appends-nil taken, omega arith) })

-- ---- by what was asked for

-- all was answered
whole-of : (checks : Bool) (ended : Status) (run : Run) (came text : List ℕ) → IsAll checks ended run came text → IsWholeTranscript (answering checks) ended came text
whole-of checks ended run came text all = record { told = all.told; transcript = all.tells.transcript; text_is = all.text_is; ended_is = all.ended_is; within = all.within }

runs-of : (checks : Bool) (ended : Status) (run : Run) (rest : Option (List ℕ)) (came text : List ℕ) (room : ℕ) → RunsBy checks ended run rest came text room → Runs (answering checks) ended rest came text room
runs-of checks status.Clean run rest came text room runs = (runs.0, whole-of checks status.Clean run came text runs.1)
runs-of checks status.Refused run rest came text room runs = (runs.0, whole-of checks status.Refused run came text runs.1)
runs-of checks status.Words run rest came text room runs = runs
runs-of checks status.ReadFault run rest came text room runs = runs
runs-of checks status.WriteFault run rest came text room runs = runs
runs-of checks status.Memory run rest came text room runs = inr (runs.0, whole-of checks status.Memory run came text runs.1)
runs-of checks status.InputTooLong run rest came text room runs = runs

-- a session is run or checked
served-by : (checks : Bool) (ended : Status) (rest : Option (List ℕ)) (came text : List ℕ) (room : ℕ) → Runs (answering checks) ended rest came text room → ServesBy (Some (asked_by checks)) ended rest came text room
served-by true ended rest came text room runs = runs
served-by false ended rest came text room runs = runs

Serves-ran : {checks : Bool} {ended : Status} {run : Run} {before after taken_before taken_after : Option (List ℕ)} {room : ℕ} → Ran checks ended run before after taken_before taken_after room →
    Serves (Some (asked_by checks)) ended before after taken_before taken_after room
Serves-ran {checks} {ended} {run} {after = after} {room = room} ran = record {
  came = ran.came;
  text = ran.text;
  read = ran.read;
  written = ran.written;
  served = served-by checks ended after ran.came ran.text room (runs-of checks ended run after ran.came ran.text room ran.runs);
}

-- the same bytes came
came-ran : {checks : Bool} {ended : Status} {run : Run} {before after taken_before taken_after : Option (List ℕ)} {room : ℕ} (ran : Ran checks ended run before after taken_before taken_after room) →
    (Serves-ran ran).came ≡ ran.came
unfolding Serves-ran
came-ran ran = refl

pub Evaluates-ran : {checks : Bool} {ended : Status} {run : Run} {before after taken_before taken_after : Option (List ℕ)} {room rise : ℕ} → RanCounted checks ended run before after taken_before taken_after room rise →
    Evaluates (Some (asked_by checks)) ended before after taken_before taken_after room rise
Evaluates-ran {checks} {ended} {rise = rise} ran = record {
  serves = Serves-ran ran.ran;
  bounded = subst (λ came. EvaluatesBy (Some (asked_by checks)) ended came rise) (sym (came-ran ran.ran)) ran.bounded;
}

-- there was no memory to begin with
Serves-nothing : (checks : Bool) (rest taken : Option (List ℕ)) (room : ℕ) → Serves (Some (asked_by checks)) status.Memory rest rest taken taken room
Serves-nothing checks rest taken room = record {
  came = [];
  text = [];
  read = Consumes-nil rest;
  written = Appends-nil taken;
  served = served-by checks status.Memory rest [] [] room (inl (refl, refl));
}

pub Evaluates-nothing : (checks : Bool) (rest taken : Option (List ℕ)) (room rise : ℕ) → Evaluates (Some (asked_by checks)) status.Memory rest rest taken taken room rise
Evaluates-nothing checks rest taken room rise =
    let serves = Serves-nothing checks rest taken room in
    record { serves = serves; bounded = EvaluatesBy-of checks status.Memory serves.came rise (λ runs. not_told status.Memory (orders (lines serves.came)) rise refl) }

pub Serves-explained : {ended : Status} {before after : Option (List ℕ)} {room : ℕ} (rest : Option (List ℕ)) (text : List ℕ) → Appends before after text → Explains ended text room →
    Serves None ended rest rest before after room
Serves-explained rest text written explains = record { came = []; text = text; read = Consumes-nil rest; written = written; served = (refl, explains) }

pub Serves-generated : {number : ℕ} {ended : Status} {before after : Option (List ℕ)} {room : ℕ} (rest : Option (List ℕ)) (text : List ℕ) → Appends before after text → Generates number ended text room →
    Serves (Some (mode.Gen number)) ended rest rest before after room
Serves-generated rest text written generates = record { came = []; text = text; read = Consumes-nil rest; written = written; served = (refl, generates) }

-- nothing is said of evaluations where a diary is audited
pub Evaluates-audited : {ended : Status} {before after taken_before taken_after : Option (List ℕ)} {room rise : ℕ} → Serves (Some mode.Audit) ended before after taken_before taken_after room → Evaluates (Some mode.Audit) ended before after taken_before taken_after room rise
Evaluates-audited serves = record { serves = serves; bounded = tt }

-- nothing is said of evaluations where no input is read
pub Evaluates-unread : {asked : Option Mode} {ended : Status} {before after taken_before taken_after : Option (List ℕ)} {room rise : ℕ} → reads asked ≡ false →
    Serves asked ended before after taken_before taken_after room → Evaluates asked ended before after taken_before taken_after room rise
Evaluates-unread {asked} {ended} {before} {after} {taken_before} {taken_after} {room} {rise} unread serves = record { serves = serves; bounded = by asked serves.came unread }
  where
    by : (asked : Option Mode) (came : List ℕ) → reads asked ≡ false → EvaluatesBy asked ended came rise
    by None came none = tt
    by (Some mode.Run) came none = absurd cc
    by (Some mode.Check) came none = absurd cc
    by (Some mode.Audit) came none = absurd cc
    by (Some (mode.Gen number)) came none = tt
