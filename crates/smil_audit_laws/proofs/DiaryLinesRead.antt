-- What the order `diary` writes is read line by line as the document, its log, its diary and its
-- moment.
use Rattle.std.proofs.Common.{◌≡◌, refl, sym, ◌∙◌, ap, subst, ℕ, suc, ◌+◌, ◌<◌, ◌≤◌, Bool, true, false, cond, ltb, ◌&&◌, ◌||◌, List, [], ◌∷◌, ◌++◌, length, take, drop, map, Option, Some, None, is_some, Result, Ok, Err, arith, append_assoc, length-append}
use Rattle.std.specs.Prelude.{◌==◌, ◌/◌, ◌%◌, nat_le, nat_lt, All, ℤ, codes, slice_get}
use Rattle.std.specs.List.{AllByRecursion, prefix_len}
use Rattle.std.proofs.lemmas.Bool.{le-ltb, lt-ltb}
use Rattle.std.proofs.lemmas.List.{append-nil, length-take-le}
use Rattle.std.proofs.lemmas.List.Elements.{recursion_from_All}
use Rattle.smil_model.specs.declared.diary.Entry.{Entry}
use Rattle.smil_model.specs.declared.diary.LogEntry.{LogEntry}
use Rattle.smil_model.specs.declared.diary.Step.{Step}
use Rattle.smil_model.specs.declared.diary.Step.TheVariants.{Began, Repeated, Ended, Cut, Paused, Resumed, Deferred, Passed, Logged}
use Rattle.smil_model.specs.declared.document.Node.{Node}
use Rattle.smil_model.specs.declared.limits.TheConstants.{DEPTH, DIARY_ENTRIES, LINE_BYTES}
use Rattle.smil_model.specs.declared.order.Refusal.{Refusal}
use Rattle.smil_model.specs.declared.order.Refusal.TheVariants as refusal
use Rattle.smil_model.specs.document.Document.{Document}
use Rattle.smil_model.specs.document.Limits.{limits}
use Rattle.smil_model.specs.document.Valid.{IsTree, IsValid}
use Rattle.smil_laws.specs.Cut.{logged}
use Rattle.smil_laws.proofs.ResolutionEnds.{in_log}
use Rattle.smil_laws.proofs.Lists.{take-suc_at}
use Rattle.smil_grammar.specs.Results.{◌>>=◌}
use Rattle.smil_grammar.specs.Nodes.{Shape, is_space, kind_of_shape}
use Rattle.smil_grammar.specs.Outlines.{Outline, ended, header_of, in_line, is_bad_serial, lines_within, no_lines, node_within, opens_saved, refuse_if, saved_lines_from, shape_in, shape_within, with_header, with_line, with_lines, with_node}
use Rattle.smil_grammar.specs.Scripts.{is_blank}
use Rattle.smil_grammar.specs.Spellings.{header_text}
use Rattle.smil_time_list.proofs.ItemRoundTrip.{count_read}
use Rattle.smil_outline.specs.Written.{saved_lines}
use Rattle.smil_outline.proofs.LineParts.{as_header, as_node}
use Rattle.smil_outline.proofs.OutlineRoundTrip.{saved_outline_read}
use Rattle.smil_script.specs.declared.entries.DiaryLine.{DiaryLine}
use Rattle.smil_script.specs.Entries.{diary_line_of}
use Rattle.smil_script.specs.Loads.{ends_load}
use Rattle.smil_top.specs.AuditInputs.{Input, Recording, in_diary, in_outline, recording}
use Rattle.smil_top.specs.Answers.{at_line}
use Rattle.smil_top.specs.Auditing.{audit_input, audit_line, audit_lines, diary_line, outline_line, recorded, said_line, with_entry}
use Rattle.smil_audit_laws.specs.Lines.{IsPlain, said, said_by}
use Rattle.smil_audit_laws.proofs.LinesCut.{spaced}
use Rattle.smil_audit_laws.proofs.SavedOutlineLines.{IsNodeLine, node_lines}
use Rattle.smil_audit_laws.proofs.EntriesWritable.{InPlaces, IsAt, behind, count_cons}
use Rattle.smil_audit_laws.proofs.EntryRoundTrip.{entry_not_blank, entry_said, entry_words}

abbrev pub IsShort : List ℕ → Type 0
IsShort line = length line ≤ LINE_BYTES

-- ---- line by line

-- how many lines were read, with some more
abbrev after : ℕ → List (List ℕ) → ℕ
after count [] = count
after count (line ∷ ls) = after (suc count) ls

pub line_on : (count : ℕ) (before more : Input) (line : List ℕ) (rest : List (List ℕ)) → audit_line before line ≡ Ok more → audit_lines count (Ok before) (line ∷ rest) ≡ audit_lines (suc count) (Ok more) rest
line_on count before more line rest e = ap (λ (r : Result Input Refusal). audit_lines (suc count) (at_line (suc count) r) rest) e

line_said : (before more : Input) (line : List ℕ) → IsShort line → is_blank line ≡ false → said_line before line ≡ Ok more → audit_line before line ≡ Ok more
line_said before more line short said e =
    let no_long : ltb LINE_BYTES (length line) ≡ false = le-ltb _ _ short in
    rw (no_long, said) e

-- ---- the outline

-- what goes on behind a step that gave something
pub went_on : {A B : Type 0} (m : Result A Refusal) (f : A → Result B Refusal) (y : B) (P : Type 0) → ((x : A) → m ≡ Ok x → f x ≡ Ok y → P) → (m >>= f) ≡ Ok y → P
went_on {A} {B} m f y P next e = by_result m refl e
  where
    by_result : (r : Result A Refusal) → m ≡ r → (r >>= f) ≡ Ok y → P
    by_result (Ok x) d e = next x d e
    by_result (Err refusal) d e = cc

-- a node line leaves the next serial
shape_keeps : (outline more : Outline) (spaces : ℕ) (o : Option (ℕ × Shape)) → shape_within limits outline spaces o ≡ Ok more → more.next ≡ outline.next
shape_keeps outline more spaces None e = cc
shape_keeps outline more spaces (Some (serial, shape)) e =
    went_on (refuse_if (spaces % 2 == 1) refusal.BadOutline) _ more (more.next ≡ outline.next) (λ _ _.
    went_on (in_line spaces (kind_of_shape (Some shape))) _ more (more.next ≡ outline.next) (λ kind _.
    went_on (refuse_if (is_bad_serial outline outline.next serial) refusal.BadSerial) _ more (more.next ≡ outline.next) (λ _ _.
    went_on (refuse_if (nat_lt (length outline.branch) (spaces / 2)) refusal.DepthJump) _ more (more.next ≡ outline.next) (λ _ _.
    went_on (refuse_if (nat_le DEPTH (spaces / 2)) refusal.TooDeep) _ more (more.next ≡ outline.next) (λ _ _.
    went_on (node_within limits outline spaces (take (spaces / 2) outline.branch) kind serial shape) _ more (more.next ≡ outline.next) (λ node _ last.
    let same : with_node outline (spaces / 2) node ≡ more = cc in ap (λ (x : Outline). x.next) (sym same))))))) e

opens_none : (outline : Outline) (line : List ℕ) → is_some outline.next ≡ true → opens_saved outline line ≡ false
opens_none outline line next = rw next refl

node_keeps : (outline more : Outline) (line : List ℕ) → IsShort line → is_some outline.next ≡ true → with_line outline line ≡ Ok more → is_some more.next ≡ true
node_keeps outline more line short next e =
    let no_long : ltb LINE_BYTES (length line) ≡ false = le-ltb _ _ short in
    let shaped = sym (as_node outline line no_long (opens_none outline line next)) ∙ e in
    ap is_some (shape_keeps outline more (prefix_len is_space line) (shape_in outline outline.next (drop (prefix_len is_space line) line)) shaped) ∙ next

-- a line is taken into the outline, where one that gives serials goes on, or begins by its header
taken_in : (n e h : Bool) (stop go none : Result Input Refusal) → (n && e) ≡ false → (n || h) ≡ true → cond (n && e) stop (cond (n || h) go none) ≡ go
taken_in n e h stop go none p q = rw (p, q) refl

outline_taken : (outline more : Outline) (line : List ℕ) → (is_some outline.next && ends_load line) ≡ false → (is_some outline.next || is_some (header_of line)) ≡ true → with_line outline line ≡ Ok more → outline_line outline line ≡ Ok (in_outline more)
outline_taken outline more line goes_on opened e =
    taken_in (is_some outline.next) (ends_load line) (is_some (header_of line)) (ended outline >>= λ document. Ok (in_diary (recording document [] [] None))) (with_line outline line >>= λ next. Ok (in_outline next)) (Err refusal.BadOutline) goes_on opened
    ∙ ap (λ (r : Result Outline Refusal). r >>= λ next. Ok (in_outline next)) e

outline_said : (outline more : Outline) (line : List ℕ) → is_some outline.next ≡ true → ends_load line ≡ false → with_line outline line ≡ Ok more → outline_line outline line ≡ Ok (in_outline more)
outline_said outline more line next goes_on e = outline_taken outline more line (rw (next, goes_on) refl) (rw next refl) e

record IsOutlined (count : ℕ) (outline more : Outline) (ls rest : List (List ℕ)) : Type 0 where
  read : audit_lines count (Ok (in_outline outline)) (ls ++ rest) ≡ audit_lines (after count ls) (Ok (in_outline more)) rest
  next : is_some more.next ≡ true

outline_on : (count : ℕ) (outline more : Outline) (ls rest : List (List ℕ)) → is_some outline.next ≡ true → AllByRecursion IsNodeLine ls → AllByRecursion IsShort ls → with_lines outline ls ≡ Ok more → IsOutlined count outline more ls rest
outline_on count outline more [] rest next node short e = let same : outline ≡ more = cc in record { read = ap (λ (o : Outline). audit_lines count (Ok (in_outline o)) rest) same; next = ap (λ (o : Outline). is_some o.next) (sym same) ∙ next }
outline_on count outline more (line ∷ ls) rest next node short e = by_line (with_line outline line) refl e (λ middle there. outline_on (suc count) middle more ls rest there node.1 short.1)
  where
    by_line : (r : Result Outline Refusal) → with_line outline line ≡ r → (r >>= λ middle. lines_within limits middle ls) ≡ Ok more → ((middle : Outline) → is_some middle.next ≡ true → with_lines middle ls ≡ Ok more → IsOutlined (suc count) middle more ls rest) → IsOutlined count outline more (line ∷ ls) rest
    by_line (Err r) f e later = cc
    by_line (Ok middle) f e later =
        let all = later middle (node_keeps outline middle line short.0 next f) e in
        record {
          read = line_on count (in_outline outline) (in_outline middle) line (ls ++ rest) (line_said (in_outline outline) (in_outline middle) line short.0 node.0.said (outline_said outline middle line next node.0.goes_on f)) ∙ all.read;
          next = all.next;
        }

-- ---- the header, and the end of the outline

header_is : (next : ℕ) → 0 < next → next ≤ 999_999_999 → header_of (header_text next) ≡ Some next
header_is next some few = count_read next some (omega arith)

record IsOpened (document : Document) : Type 0 where
  some : 0 < document.next
  few : document.next ≤ 999_999_999
  more : Outline
  read : with_lines (record { nodes = []; branch = []; next = Some document.next }) (saved_lines_from [] document.nodes) ≡ Ok more
  whole : ended more ≡ Ok document

header_taken : (next : ℕ) → 0 < next → next ≤ 999_999_999 → IsShort (header_text next) → with_line no_lines (header_text next) ≡ Ok (record { nodes = []; branch = []; next = Some next })
header_taken next some few short =
    let no_long : ltb LINE_BYTES (length (header_text next)) ≡ false = le-ltb _ _ short in
    as_header no_lines (header_text next) no_long refl ∙ ap (with_header no_lines) (header_is next some few)

some_next : (document : Document) → IsValid document → 0 < document.next
some_next document valid = by_nodes document.nodes (some_first document.nodes valid.numbered.tree) (recursion_from_All (λ (n : Node). (0 < n.serial) × (n.serial < document.next)) document.nodes valid.numbered.below)
  where
    some_first : (nodes : List Node) → IsTree nodes → 0 < length nodes
    some_first [] h = absurd h
    some_first (n ∷ nodes) h = omega arith

    by_nodes : (nodes : List Node) → 0 < length nodes → AllByRecursion (λ (n : Node). (0 < n.serial) × (n.serial < document.next)) nodes → 0 < document.next
    by_nodes [] some h = absurd (omega arith)
    by_nodes (n ∷ nodes) some h = let low = h.0.0 in let high = h.0.1 in omega (arith, low, high)

opened : (document : Document) → IsValid document → All (λ (line : List ℕ). length line ≤ LINE_BYTES) (saved_lines document) → IsOpened document
opened document valid short =
    let lines_short = recursion_from_All IsShort (saved_lines document) short in
    let few : document.next ≤ 999_999_999 = valid.numbered.next in
    let some : 0 < document.next = some_next document valid in
    let first = header_taken document.next some few lines_short.0 in
    let whole : (with_lines (record { nodes = []; branch = []; next = Some document.next }) (saved_lines_from [] document.nodes) >>= ended) ≡ Ok document =
    sym (ap (λ (r : Result Outline Refusal). (r >>= λ more. with_lines more (saved_lines_from [] document.nodes)) >>= ended) first) ∙ saved_outline_read document valid short in
    by_outline (with_lines (record { nodes = []; branch = []; next = Some document.next }) (saved_lines_from [] document.nodes)) refl some few whole
  where
    by_outline : (r : Result Outline Refusal) → with_lines (record { nodes = []; branch = []; next = Some document.next }) (saved_lines_from [] document.nodes) ≡ r → 0 < document.next → document.next ≤ 999_999_999 → (r >>= ended) ≡ Ok document → IsOpened document
    by_outline (Ok more) e some few whole = record { some = some; few = few; more = more; read = e; whole = whole }
    by_outline (Err r) e some few whole = cc

end_said : (outline : Outline) (document : Document) → is_some outline.next ≡ true → ended outline ≡ Ok document → outline_line outline (codes "%%") ≡ Ok (in_diary (recording document [] [] None))
end_said outline document next e =
    ap (λ (t : Bool). cond (t && true) (ended outline >>= λ document. Ok (in_diary (recording document [] [] None))) (cond (is_some outline.next || is_some (header_of (codes "%%"))) (with_line outline (codes "%%") >>= λ more. Ok (in_outline more)) (Err refusal.BadOutline))) next
    ∙ ap (λ (r : Result Document Refusal). r >>= λ document. Ok (in_diary (recording document [] [] None))) e

-- the lines of an outline and its end give the document
pub outline_read : (document : Document) → IsValid document → AllByRecursion IsShort (saved_lines document) → All (λ (line : List ℕ). length line ≤ LINE_BYTES) (saved_lines document) → (rest : List (List ℕ))
    → (count : ℕ) × (audit_input (saved_lines document ++ codes "%%" ∷ rest) ≡ audit_lines count (Ok (in_diary (recording document [] [] None))) rest)
outline_read document valid short all rest =
    let is = opened document valid all in
    let header : List ℕ = header_text document.next in
    let begun : Outline = record { nodes = []; branch = []; next = Some document.next } in
    let nodes : List (List ℕ) = saved_lines_from [] document.nodes in
    let first = line_on 0 (in_outline no_lines) (in_outline begun) header (nodes ++ codes "%%" ∷ rest)
    (line_said (in_outline no_lines) (in_outline begun) header short.0 refl (outline_taken no_lines begun header refl (ap is_some (header_is document.next is.some is.few)) (header_taken document.next is.some is.few short.0))) in
    let middle = outline_on 1 begun is.more nodes (codes "%%" ∷ rest) refl (node_lines [] document.nodes) short.1 is.read in
    let last = line_on (after 1 nodes) (in_outline is.more) (in_diary (recording document [] [] None)) (codes "%%") rest
    (line_said (in_outline is.more) (in_diary (recording document [] [] None)) (codes "%%") (omega arith) refl (end_said is.more document middle.next is.whole)) in
    (suc (after 1 nodes), first ∙ middle.read ∙ last)

-- ---- the entries

-- the line of an entry, without its line feed
abbrev pub text_of : List LogEntry → Entry → List ℕ
text_of log entry = spaced (entry_words log entry)

-- a line of a diary says an entry
pub diary_said : (diary more : Recording) (line : List ℕ) (said : DiaryLine) → diary.last ≡ None → IsShort line → is_blank line ≡ false → diary_line_of line ≡ Ok said → recorded diary said ≡ Ok more
    → audit_line (in_diary diary) line ≡ Ok (in_diary more)
diary_said diary more line said going short blank read e =
    line_said (in_diary diary) (in_diary more) line short blank
    (ap (λ (last : Option ℤ). diary_line diary last line >>= λ next. Ok (in_diary next)) going
    ∙ ap (λ (r : Result DiaryLine Refusal). (r >>= recorded diary) >>= λ next. Ok (in_diary next)) read
    ∙ ap (λ (r : Result Recording Refusal). r >>= λ next. Ok (in_diary next)) e)

taken_length : (log : List LogEntry) (k : ℕ) (entry : LogEntry) → slice_get log k ≡ Some entry → length (take k log) ≡ k
taken_length log k entry e = let far = in_log k log entry e in length-take-le k log (omega (arith, far))

module _ (document : Document) (log : List LogEntry) where
  -- the log up to a place, and some entries
  abbrev pub at : ℕ → List Entry → Recording
  at place entries = recording document (take place log) entries None

  with_room : (place : ℕ) (before : List Entry) (more : List LogEntry) (x : Entry) → length before < DIARY_ENTRIES → with_entry (at place before) more x ≡ Ok (recording document more (before ++ x ∷ []) None)
  with_room place before more x few = let some : ltb (length before) DIARY_ENTRIES ≡ true = lt-ltb _ _ few in rw some refl

  module _ (place : ℕ) (before : List Entry) (few : length before < DIARY_ENTRIES) (moment : ℤ) where
    abbrev now : Step → Entry
    now step = record { moment = moment; step = step }

    abbrev IsTaken : Step → Type 0
    IsTaken step = recorded (at place before) (said log (now step)) ≡ Ok (at (behind place step) (before ++ now step ∷ []))

    happened_taken : (step : Step) → with_entry (at place before) (take place log) (now step) ≡ Ok (at place (before ++ now step ∷ []))
    happened_taken step = with_room place before (take place log) (now step) few

    heard_taken : (entry : LogEntry) → slice_get log place ≡ Some entry → entry.moment ≡ moment → recorded (at place before) (said_by (now (Logged place)) (Some entry)) ≡ Ok (at (suc place) (before ++ now (Logged place) ∷ []))
    heard_taken entry there same =
        let own : record { moment = moment; what = entry.what } ≡ entry = ap (λ (m : ℤ). record { moment = m; what = entry.what }) (sym same) in
        let log_is : take place log ++ record { moment = moment; what = entry.what } ∷ [] ≡ take (suc place) log = ap (λ (x : LogEntry). take place log ++ x ∷ []) own ∙ sym (take-suc_at log place entry there) in
        with_room place before (take place log ++ record { moment = moment; what = entry.what } ∷ []) (now (Logged (length (take place log)))) few
        ∙ ap (λ (l : List LogEntry). Ok (recording document l (before ++ now (Logged (length (take place log))) ∷ []) None)) log_is
        ∙ ap (λ (n : ℕ). Ok (at (suc place) (before ++ now (Logged n) ∷ []))) (taken_length log place entry there)

    entry_taken : (step : Step) → IsAt log place moment step → IsTaken step
    entry_taken (Began who v) h = happened_taken (Began who v)
    entry_taken (Repeated who v) h = happened_taken (Repeated who v)
    entry_taken (Ended who v) h = happened_taken (Ended who v)
    entry_taken (Cut who) h = happened_taken (Cut who)
    entry_taken (Paused who) h = happened_taken (Paused who)
    entry_taken (Resumed who) h = happened_taken (Resumed who)
    entry_taken (Deferred who v) h = happened_taken (Deferred who v)
    entry_taken (Passed who v) h = happened_taken (Passed who v)
    entry_taken (Logged named) h =
        subst (λ (n : ℕ). recorded (at place before) (said_by (now (Logged n)) (slice_get log n)) ≡ Ok (at (suc place) (before ++ now (Logged n) ∷ []))) (sym h.0)
        (ap (λ (o : Option LogEntry). recorded (at place before) (said_by (now (Logged place)) o)) h.1.1 ∙ heard_taken h.1.0 h.1.1 h.1.2)

  pub entries_on : (count place : ℕ) (before xs : List Entry) (rest : List (List ℕ)) → AllByRecursion (IsPlain log) xs → InPlaces log place xs → AllByRecursion IsShort (map (text_of log) xs) → length before + length xs ≤ DIARY_ENTRIES
      → (n : ℕ) × (audit_lines count (Ok (in_diary (at place before))) (map (text_of log) xs ++ rest) ≡ audit_lines n (Ok (in_diary (at (place + logged xs) (before ++ xs)))) rest)
  entries_on count place before [] rest plain places short few =
      let none : place + 0 ≡ place = omega arith in
      (count, ap (λ (es : List Entry). audit_lines count (Ok (in_diary (at place es))) rest) (sym (append-nil before)) ∙ ap (λ (n : ℕ). audit_lines count (Ok (in_diary (at n (before ++ [])))) rest) (sym none))
  entries_on count place before (x ∷ xs) rest plain places short few =
      let grown : length (before ++ x ∷ []) ≡ length before + 1 = length-append before (x ∷ []) in
      let said_x = entry_said log x plain.0 in
      let one = diary_said (at place before) (at (behind place x.step) (before ++ x ∷ [])) (text_of log x) (said log x) refl short.0 (entry_not_blank log x plain.0.moment) said_x.read
      (entry_taken place before (omega (arith, few)) x.moment x.step places.0) in
      let later = entries_on (suc count) (behind place x.step) (before ++ x ∷ []) xs rest plain.1 places.1 short.1 (omega (arith, few, grown)) in (
        later.0,
        line_on count (in_diary (at place before)) (in_diary (at (behind place x.step) (before ++ x ∷ []))) (text_of log x) (map (text_of log) xs ++ rest) one
            ∙ later.1
            ∙ ap (λ (n : ℕ). audit_lines later.0 (Ok (in_diary (at n ((before ++ x ∷ []) ++ xs)))) rest) (sym (count_cons place x xs))
            ∙ ap (λ (es : List Entry). audit_lines later.0 (Ok (in_diary (at (place + logged (x ∷ xs)) es))) rest) (append_assoc before (x ∷ []) xs),
      )
