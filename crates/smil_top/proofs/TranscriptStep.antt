-- One answer more: the transcript goes on with its text.
use Rattle.std.proofs.Common.{◌≡◌, ◌⊎◌, ℕ, ◌+◌, ◌<◌, ◌≤◌, suc, min, length, Bool, true, false, List, [], ◌∷◌, ◌++◌, Option, Some, None, Result, Ok, Err, refl, ap, sym, subst, ◌∙◌, arith, inl, inr, Bor}
use Rattle.std.proofs.lemmas.List.{append-nil, length-append}
use Rattle.std.proofs.lemmas.List.Sums.{sum_by-append}
use Rattle.std.specs.Prelude.{cond, option_map, is_some, ◌&&◌, ◌||◌, ◌==◌, if◌then◌else◌}
use Rattle.smil_model.specs.declared.limits.TheConstants.{LINE_BYTES}
use Rattle.smil_model.specs.declared.order.Refusal.{Refusal}
use Rattle.smil_model.specs.declared.order.Refusal.TheVariants.{LongLine, Memory, UnfinishedLoad}
use Rattle.smil_model.specs.document.Limits.{limits}
use Rattle.smil_model.specs.shown.Lines.{refusal_line}
use Rattle.smil_outside.specs.declared.failed.Failed.{Failed}
use Rattle.smil_outside.specs.Faults.{last_count}
use Rattle.smil_model.specs.document.Words.{line_feed}
use Rattle.smil_grammar.specs.Results.{◌>>=◌}
use Rattle.smil_grammar.specs.Scripts.{line_of}
use Rattle.smil_script.specs.Copies.{IsForCopy, line_copies}
use Rattle.smil_top.specs.declared.answer.Answer.{Answer as AnswerText}
use Rattle.smil_top.specs.declared.counts.Counts.{Counts}
use Rattle.smil_top.specs.declared.fault.Fault.{Fault}
use Rattle.smil_top.specs.declared.loaded.LoadedDoc.{LoadedDoc as GivenDoc}
use Rattle.smil_top.specs.declared.load.Load.{Load}
use Rattle.smil_top.specs.declared.run.Run.{Run}
use Rattle.smil_top.specs.declared.session.Session.{Session as KeptSession}
use Rattle.smil_top.specs.Cut.{OrderLines, single, load as load_order, LoadLines, CutLines, unended}
use Rattle.smil_top.specs.Session.{Session}
use Rattle.smil_top.specs.Answers.{Answer, LoadedDocument, at_line, said_within, check_said, given_within, loaded_within, checked}
use Rattle.smil_top.specs.Transcript.{TranscriptState, and_then, is_memory, with_answer}
use Rattle.smil_top.specs.Summary.{line_count}
use Rattle.smil_switch.specs.Preferences.{Wanted}
use Rattle.smil_top.specs.Houses.{Keeps}
use Rattle.smil_top.specs.Running.{answering, with_order, counted_on, finished, given_of, line_by, load_by, no_text, said, text_of, AreCounted, Answers, AnswersOrders, Gives, IsOpen, IsRead, IsRunning, IsLine, Makes, MakesAnswer, Tells, Writes, WritesAll}
use Rattle.smil_top.proofs.CutLines.{is_short-true, is_short-false}

-- the answer that was made
abbrev pub answer_as : Result (Unit {0}) Fault → AnswerText → Session → Answer
answer_as (Ok done) text after = Ok (record { text = text_of text; session = after })
answer_as (Err fault) text after = Err fault

abbrev pub counted_as : Result (Unit {0}) Fault → AnswerText → Counts → Counts
counted_as answered text counts = with_order answered (min (line_count (said answered text)) last_count) counts

-- ---- counts

one-more : (most n : ℕ) → min (min n most + 1) most ≡ min (n + 1) most
one-more most n = omega arith

orders-counted : (count : ℕ) (orders : List OrderLines) (order : OrderLines) → count ≡ min (length orders) last_count →
    counted_on count 1 ≡ min (length (orders ++ order ∷ [])) last_count
orders-counted count orders order is =
    ap (λ n. min (n + 1) last_count) is ∙ one-more last_count (length orders) ∙ ap (λ n. min n last_count) (sym (length-append orders (order ∷ [])))

left-below : (most n m : ℕ) → min (n + m) most < most → n < most
left-below most n m below = omega arith

right-below : (most n m : ℕ) → min (n + m) most < most → m < most
right-below most n m below = omega arith

-- a number below the last one is counted
all-counted : (most n : ℕ) → min n most < most → min n most ≡ n
all-counted most n below = omega arith

lines-counted : (count more : ℕ) (told text : List ℕ) → (count < last_count → count ≡ line_count told) → (more < last_count → more ≡ line_count text) →
    counted_on count more < last_count → counted_on count more ≡ line_count (told ++ text)
lines-counted count more told text were are below =
    all-counted last_count (count + more) below
    ∙ ap (λ n. n + more) (were (left-below last_count count more below))
    ∙ ap (λ n. line_count told + n) (are (right-below last_count count more below))
    ∙ sym (sum_by-append (λ byte. cond (byte == line_feed) 1 0) told text)

refused-counted : (b : Bool) (count refused : ℕ) → count ≡ min refused last_count →
    (if b then count else counted_on count 1) ≡ min (if b then refused else suc refused) last_count
refused-counted true count refused is = is
refused-counted false count refused is = ap (λ n. min (n + 1) last_count) is ∙ one-more last_count refused ∙ ap (λ n. min n last_count) (omega arith)

-- the counts of an order that was answered so, with so many lines where they were counted
pub told-counted : (answered : Result (Unit {0}) Fault) (text : AnswerText) (lines : ℕ) (counts : Counts) (orders : List OrderLines) (told : TranscriptState) (order : OrderLines) (after : Session) →
    (lines < last_count → lines ≡ line_count (said answered text)) → AreCounted counts orders told →
    AreCounted (with_order answered lines counts) (orders ++ order ∷ []) (with_answer told (answer_as answered text after))
told-counted (Ok done) text lines counts orders told order after are were = record {
  orders_are = orders-counted counts.orders orders order were.orders_are;
  refused_is = were.refused_is;
  lines_are = lines-counted counts.lines lines told.text (text_of text) were.lines_are are;
  memory_is = were.memory_is;
}
told-counted (Err fault) text lines counts orders told order after are were = record {
  orders_are = orders-counted counts.orders orders order were.orders_are;
  refused_is = refused-counted (is_memory fault.refusal) counts.refused told.refused were.refused_is;
  lines_are = lines-counted counts.lines lines told.text (refusal_line fault.line fault.refusal) were.lines_are are;
  memory_is = ap (λ b. b || is_memory fault.refusal) were.memory_is;
}

-- the same with the lines of its text
told-whole : (answered : Result (Unit {0}) Fault) (text : AnswerText) (counts : Counts) (orders : List OrderLines) (told : TranscriptState) (order : OrderLines) (after : Session) → AreCounted counts orders told →
    AreCounted (counted_as answered text counts) (orders ++ order ∷ []) (with_answer told (answer_as answered text after))
told-whole answered text counts orders told order after were =
    told-counted answered text (min (line_count (said answered text)) last_count) counts orders told order after (all-counted last_count (line_count (said answered text))) were

-- ---- one order more

-- what is told with an order that was answered so
pub told-more : (checks : Bool) (run new : Run) (whole : List OrderLines) (told : TranscriptState) (order : OrderLines) (answered : Result (Unit {0}) Fault) (text : AnswerText) →
    Tells checks run whole told → MakesAnswer answered text new.session told.session (answering checks) order →
    new.session.checks ≡ run.session.checks → new.counts ≡ with_order answered (min (line_count (said answered text)) last_count) run.counts →
    (more : TranscriptState) × Tells checks new (whole ++ order ∷ []) more × (more.text ≡ told.text ++ said answered text)
told-more checks run new whole told order (Ok done) text tells made same counts = (
  with_answer told (answer_as (Ok done) text made.0),
  record {
    checks_is = same ∙ tells.checks_is;
    transcript = and_then tells.transcript order (answer_as (Ok done) text made.0) (inl (sym made.2));
    keeps = made.1;
    counted = subst (λ (k : Counts). AreCounted k (whole ++ order ∷ []) (with_answer told (answer_as (Ok done) text made.0))) (sym counts) (told-whole (Ok done) text run.counts whole told order made.0 tells.counted);
  },
  refl,
)
told-more checks run new whole told order (Err fault) text tells made same counts = (
  with_answer told (answer_as (Err fault) text told.session),
  record {
    checks_is = same ∙ tells.checks_is;
    transcript = and_then tells.transcript order (Err fault) made.1;
    keeps = made.0;
    counted = subst (λ (k : Counts). AreCounted k (whole ++ order ∷ []) (with_answer told (answer_as (Err fault) text told.session))) (sym counts) (told-whole (Err fault) text run.counts whole told order told.session tells.counted);
  },
  refl,
)

-- the same, where its text was written, and what is kept stayed meanwhile
pub told-order : {checks : Bool} {run new : Run} {whole : List OrderLines} {told : TranscriptState} {result : Result (Unit {0}) Failed} {before after : Option (List ℕ)} {room left : ℕ}
    (kept : KeptSession) (order : OrderLines) (answered : Result (Unit {0}) Fault) (text : AnswerText) →
    Tells checks run whole told → MakesAnswer answered text kept told.session (answering checks) order →
    new.session ≡ kept → kept.checks ≡ run.session.checks → new.counts ≡ with_order answered (min (line_count (said answered text)) last_count) run.counts →
    Writes result before after room left (said answered text) → new.answer ≡ finished answered text →
    AnswersOrders checks result new (whole ++ order ∷ []) told before after room left
told-order {checks} {run} {new} {whole} {told} kept order answered text tells made is same counts writes stands =
    let at_end : MakesAnswer answered text new.session told.session (answering checks) order =
    subst (λ (s : KeptSession). MakesAnswer answered text s told.session (answering checks) order) (sym is) made
    in
    let more = told-more checks run new whole told order answered text tells at_end (ap (λ (s : KeptSession). s.checks) is ∙ same) counts in
    record { more = more.0; goes = record { text = said answered text; text_is = more.2; writes = writes }; stands = ap text_of stands; tells = more.1 }

-- ---- single lines

answer-single : (checks : Bool) (session : Session) (number : ℕ) (line : List ℕ) → length line ≤ LINE_BYTES →
    answering checks session (single (record { number = number; text = line })) ≡ at_line number (line_by checks session number line)
answer-single true session number line short =
    ap (λ b. at_line number ((if b then line_of line else Err LongLine) >>= check_said session)) (is_short-true line short)
answer-single false session number line short =
    ap (λ b. at_line number ((if b then line_of line else Err LongLine) >>= said_within limits session number)) (is_short-true line short)

pub single-made : (checks : Bool) (r : Result (Unit {0}) Refusal) (text : AnswerText) (so_far : KeptSession) (session : Session) (number : ℕ) (line : List ℕ) → length line ≤ LINE_BYTES →
    IsForCopy (line_copies line) r → Makes r text so_far session (line_by checks session number line) →
    MakesAnswer (at_line number r) text so_far session (answering checks) (single (record { number = number; text = line }))
single-made checks (Ok done) text so_far session number line short copied made =
    (made.0, made.1, answer-single checks session number line short ∙ ap (at_line number) made.2)
single-made checks (Err refusal) text so_far session number line short copied made = (
  made.0,
  elim made.1 [
    | inl memory ↦ inr (ap (λ b. b && line_copies line) (is_short-true line short) ∙ copied memory, ap (λ r. at_line number (Err r)) memory)
    | inr is ↦ inl (sym (answer-single checks session number line short ∙ ap (at_line number) is))
  ],
)

-- a line that is too long
pub long-made : (checks : Bool) (text : AnswerText) (so_far : KeptSession) (session : Session) (number : ℕ) (line : List ℕ) → LINE_BYTES < length line → Keeps so_far session →
    MakesAnswer (Err (record { line = number; refusal = LongLine })) text so_far session (answering checks) (single (record { number = number; text = line }))
long-made true text so_far session number line long keeps = (
  keeps,
  inl (sym (ap (λ b. at_line number ((if b then line_of line else Err LongLine) >>= check_said session)) (is_short-false line long))),
)
long-made false text so_far session number line long keeps = (
  keeps,
  inl (sym (ap (λ b. at_line number ((if b then line_of line else Err LongLine) >>= said_within limits session number)) (is_short-false line long))),
)

-- ---- loads

abbrev pub fine : GivenDoc → Result GivenDoc Fault
fine given = Ok given

abbrev pub faulty : Fault → Result GivenDoc Fault
faulty fault = Err fault

abbrev as_answer : Result GivenDoc Fault → Answer
as_answer (Err fault) = Err fault
as_answer (Ok given) = Err (record { line = 0; refusal = Memory })

pub answer-load : (checks : Bool) (session : Session) (lines : LoadLines) (end_line : ℕ) (given : Result LoadedDocument Fault) → given_within limits session.wanted lines end_line ≡ given →
    answering checks session (load_order lines (Some end_line)) ≡ (given >>= λ (g : LoadedDocument). at_line lines.head.number (load_by checks session lines.head.number g))
answer-load true session lines end_line given is = ap (λ r. r >>= λ (g : LoadedDocument). at_line lines.head.number (checked session lines.head.number g)) is
answer-load false session lines end_line given is = ap (λ r. r >>= λ (g : LoadedDocument). at_line lines.head.number (loaded_within limits session lines.head.number g)) is

pub load-made : (checks : Bool) (r : Result (Unit {0}) Refusal) (text : AnswerText) (so_far : KeptSession) (session : Session) (lines : LoadLines) (line end_line : ℕ) (given : GivenDoc) →
    line ≡ lines.head.number →
    Gives (Ok given) (given_within limits session.wanted lines end_line) ⊎ (fine given ≡ Err (record { line = lines.head.number; refusal = Memory })) →
    Makes r text so_far session (load_by checks session line (given_of given)) →
    MakesAnswer (at_line line r) text so_far session (answering checks) (load_order lines (Some end_line))
load-made checks r text so_far session lines line end_line given same (inr never) made = absurd cc
load-made checks (Ok done) text so_far session lines line end_line given same (inl gives) made = (
  made.0,
  made.1,
  answer-load checks session lines end_line (Ok (given_of given)) gives
      ∙ ap (λ n. at_line n (load_by checks session n (given_of given))) (sym same)
      ∙ ap (at_line line) made.2,
)
load-made checks (Err refusal) text so_far session lines line end_line given same (inl gives) made = (
  made.0,
  elim made.1 [
    | inl memory ↦ inr (refl, ap (λ r. at_line line (Err r)) memory ∙ ap (λ n. at_line n (Err Memory)) same)
    | inr is ↦ inl (sym (answer-load checks session lines end_line (Ok (given_of given)) gives ∙ ap (λ n. at_line n (load_by checks session n (given_of given))) (sym same) ∙ ap (at_line line) is))
  ],
)

pub unread-made : (checks : Bool) (text : AnswerText) (so_far : KeptSession) (session : Session) (lines : LoadLines) (end_line : ℕ) (fault : Fault) → Keeps so_far session →
    Gives (Err fault) (given_within limits session.wanted lines end_line) ⊎ (faulty fault ≡ Err (record { line = lines.head.number; refusal = Memory })) →
    MakesAnswer (Err fault) text so_far session (answering checks) (load_order lines (Some end_line))
unread-made checks text so_far session lines end_line fault keeps (inl gives) = (keeps, inl (sym (answer-load checks session lines end_line (Err fault) gives)))
unread-made checks text so_far session lines end_line fault keeps (inr memory) = (keeps, inr (refl, ap as_answer memory))

-- the input ends within a load
pub unfinished-made : (checks : Bool) (text : AnswerText) (so_far : KeptSession) (session : Session) (lines : LoadLines) (line : ℕ) → line ≡ lines.head.number → Keeps so_far session →
    MakesAnswer (Err (record { line = line; refusal = UnfinishedLoad })) text so_far session (answering checks) (load_order lines None)
unfinished-made true text so_far session lines line same keeps = (keeps, inl (ap (λ n. at_line n (Err UnfinishedLoad)) same))
unfinished-made false text so_far session lines line same keeps = (keeps, inl (ap (λ n. at_line n (Err UnfinishedLoad)) same))

-- ---- the load that hasn't ended

-- the line that a reader shows, in the words of `IsLine`
abbrev pub Shows : Option (Bor (List ℕ)) → List ℕ → Type 0
Shows text line = IsLine (option_map {T = Bor (List ℕ)} {U = List ℕ} (λ t. t.now) text) line

-- it, and that it isn't too long
pub shown-line : {text : Option (Bor (List ℕ))} {shown : Bor (List ℕ)} {line : List ℕ} → text ≡ Some shown → Shows text line → (line ≡ shown.now) × (length line ≤ LINE_BYTES)
shown-line {line = line} is shows =
    let l = subst (λ o. Shows o line) is shows in
    (l.0, subst (λ zs. length zs ≤ LINE_BYTES) (sym l.0) l.1)

open-some : (load : Load) (wanted : Wanted) (at : Option LoadLines) → IsOpen (Some load) wanted at → (lines : LoadLines) × (at ≡ Some lines) × IsRead load wanted lines
open-some load wanted None h = absurd h
open-some load wanted (Some lines) h = (lines, refl, h)

open-none : (wanted : Wanted) (at : Option LoadLines) → IsOpen None wanted at → at ≡ None
open-none wanted None h = refl
open-none wanted (Some lines) h = absurd h

pub load-of : (load : Load) (wanted : Wanted) (at : Option Load) (lines : Option LoadLines) → IsOpen at wanted lines → at ≡ Some load →
    (lines' : LoadLines) × (lines ≡ Some lines') × IsRead load wanted lines'
load-of load wanted at lines stands is = open-some load wanted lines (subst (λ o. IsOpen o wanted lines) is stands)

-- the load that is open
pub open-of : (wanted : Wanted) (at : Option Load) (lines : Option LoadLines) → is_some at ≡ true → IsOpen at wanted lines →
    (load : Load) × (at ≡ Some load) × (lines' : LoadLines) × (lines ≡ Some lines') × IsRead load wanted lines'
open-of wanted None lines some stands = absurd cc
open-of wanted (Some load) lines some stands =
    let found = open-some load wanted lines stands in
    (load, refl, found.0, found.1, found.2)

pub no_load-of : (wanted : Wanted) (at : Option Load) (lines : Option LoadLines) → IsOpen at wanted lines → at ≡ None → lines ≡ None
no_load-of wanted at lines stands is = open-none wanted lines (subst (λ o. IsOpen o wanted lines) is stands)

-- where no load is open
pub none-open : (at : Option Load) → is_some at ≡ false → at ≡ None
none-open None none = refl
none-open (Some load) none = cc

-- ---- a line

-- an order was whole with this line, and was answered
pub running-order : {checks : Bool} {result : Result (Unit {0}) Failed} {run : Run} {cut : CutLines} {count : ℕ} {whole : List OrderLines} {told : TranscriptState} {before after : Option (List ℕ)} {room left : ℕ} →
    cut ≡ record { count = count; whole = whole; «open» = None } → run.load ≡ None →
    AnswersOrders checks result run whole told before after room left → Answers checks result run cut told before after room left
running-order {checks} {run = run} is no_load answers = record {
  more = answers.more;
  goes = answers.goes;
  stands = answers.stands;
  running = subst (λ (c : CutLines). IsRunning checks run c answers.more) (sym is) (record { tells = answers.tells; load = subst (λ o. IsOpen o answers.more.session.wanted None) (sym no_load) tt });
}

-- no order more is answered, and nothing is told
pub nothing-told : {checks : Bool} {run : Run} {whole : List OrderLines} {told : TranscriptState} {before : Option (List ℕ)} {room : ℕ} →
    Tells checks run whole told → run.answer ≡ no_text → WritesAll before before room room [] → AnswersOrders checks (Ok tt) run whole told before before room room
nothing-told {told = told} tells empty nothing = record {
  more = told;
  goes = record { text = []; text_is = sym (append-nil told.text); writes = nothing };
  stands = ap text_of empty;
  tells = tells;
}

-- nothing is told, and a load hasn't ended
pub running-load : {checks : Bool} {run : Run} {load : Load} {cut : CutLines} {count : ℕ} {whole : List OrderLines} {lines : LoadLines} {told : TranscriptState} {before : Option (List ℕ)} {room : ℕ} →
    cut ≡ record { count = count; whole = whole; «open» = Some lines } → run.load ≡ Some load → IsRead load told.session.wanted lines → Tells checks run whole told → run.answer ≡ no_text →
    WritesAll before before room room [] → Answers checks (Ok tt) run cut told before before room room
running-load {checks} {run} {lines = lines} {told = told} is loaded read tells empty nothing = record {
  more = told;
  goes = record { text = []; text_is = sym (append-nil told.text); writes = nothing };
  stands = ap text_of empty;
  running = subst (λ (c : CutLines). IsRunning checks run c told) (sym is) (record { tells = tells; load = subst (λ o. IsOpen o told.session.wanted (Some lines)) (sym loaded) read });
}

-- what is told stays where the run differs in its load and its answer alone
pub tells-on : (checks : Bool) (run new : Run) (whole : List OrderLines) (told : TranscriptState) → new.session ≡ run.session → new.counts ≡ run.counts →
    Tells checks run whole told → Tells checks new whole told
tells-on checks run new whole told session counts tells = record {
  checks_is = ap (λ s. s.checks) session ∙ tells.checks_is;
  transcript = tells.transcript;
  keeps = subst (λ s. Keeps s told.session) (sym session) tells.keeps;
  counted = subst (λ k. AreCounted k whole told) (sym counts) tells.counted;
}

-- no load was open at the end of the input
pub ended-nothing : {checks : Bool} {run : Run} {told : TranscriptState} {before : Option (List ℕ)} {room : ℕ} (cut : CutLines) →
    cut.«open» ≡ None → AnswersOrders checks (Ok tt) run cut.whole told before before room room → AnswersOrders checks (Ok tt) run (cut.whole ++ unended cut.«open») told before before room room
ended-nothing {checks} {run} {told} {before} {room} cut out answers =
    subst (λ orders. AnswersOrders checks (Ok tt) run orders told before before room room) (sym (ap (λ o. cut.whole ++ unended o) out ∙ append-nil cut.whole)) answers
