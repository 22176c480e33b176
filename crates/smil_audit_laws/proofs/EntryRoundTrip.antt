-- The line that is written for an entry is read as that entry.
use Rattle.std.proofs.Common.{◌≡◌, refl, sym, ◌∙◌, ap, subst, ℕ, zero, suc, ◌+◌, ◌<◌, ◌≤◌, ◌^◌, Bool, true, false, not, eqb, leb, ltb, ◌&&◌, ◌||◌, List, [], ◌∷◌, ◌++◌, length, get_or, map, Option, Some, None, option_map, Result, Ok, arith, decimal}
use Rattle.std.specs.Prelude.{ℤ, pos, negsuc, nat_abs, codes, bytes_eq}
use Rattle.std.specs.Char.{is_ascii_digit}
use Rattle.std.specs.Fmt.{signed_decimal}
use Rattle.std.specs.List.{AllByRecursion, list_all}
use Rattle.std.specs.Option.{ok_or}
use Rattle.std.specs.Str.Lines.{lines}
use Rattle.std.proofs.lemmas.Bool.{and_parts, leb-true, le-ltb, not-true, eq-eqb, ne_eqb}
use Rattle.std.proofs.lemmas.Bool.Decides.{nat_tests}
use Rattle.std.proofs.lemmas.Fmt.{first_decimal, length-decimal-le, decimal_nonempty}
use Rattle.std.proofs.lemmas.List.{append-nil}
use Rattle.smil_model.specs.declared.diary.Entry.{Entry}
use Rattle.smil_model.specs.declared.diary.LogEntry.{LogEntry}
use Rattle.smil_model.specs.declared.diary.Happening.{Happening}
use Rattle.smil_model.specs.declared.diary.Happening.TheVariants as happening
use Rattle.smil_model.specs.declared.diary.Step.{Step}
use Rattle.smil_model.specs.declared.diary.Step.TheVariants.{Began, Repeated, Ended, Cut, Paused, Resumed, Deferred, Passed, Logged}
use Rattle.smil_model.specs.declared.order.Refusal.{Refusal}
use Rattle.smil_model.specs.declared.order.Refusal.TheVariants.{NotACommand}
use Rattle.smil_model.specs.diary.Logs.{is_serial, may_happen}
use Rattle.smil_model.specs.document.Values.{is_clock}
use Rattle.smil_model.specs.document.Words.{is_initial, is_of_name, is_word, is_list_word, is_event_name, is_raised_name, is_key}
use Rattle.smil_model.specs.shown.Lines.{line_of, serial_text, happening_words, logged_words, step_words}
use Rattle.smil_grammar.specs.Texts.{behind, is_white}
use Rattle.smil_grammar.specs.Scripts.{event_of, is_blank}
use Rattle.smil_grammar.specs.Words.{name_len}
use Rattle.smil_lexis.proofs.DecimalRoundTrip.{decimal_passes, number_of_decimal}
use Rattle.smil_lexis.proofs.TestedFronts.{Passes, tested, passes_weaker, cut_front}
use Rattle.smil_lexis.proofs.WordFronts.{IsWord, name_len_of}
use Rattle.smil_outline.proofs.PrintedBytes.{is_shown, IsShown}
use Rattle.smil_script.specs.declared.entries.DiaryLine.{DiaryLine}
use Rattle.smil_script.specs.declared.entries.DiaryLine.TheVariants.{Happened, Now}
use Rattle.smil_script.specs.Entries.{is_padded, plain_of, value_of, moment_of, serial_of, valued_of, named, step_of, happening_of, heard, with_heard, entry_or, entry_of, diary_line_of}
use Rattle.smil_time_list.proofs.ItemRoundTrip.{count_read}
use Rattle.smil_audit_laws.specs.Lines.{HasValue, IsPlainStep, IsPlain, said_by, said, EntryLinesAreReadAgain, NowLinesAreReadAgain}
use Rattle.smil_audit_laws.proofs.LinesCut.{first_line, spaced, line_is, spaced_shown}

-- ---- numbers

digit_shown : (b : ℕ) → is_ascii_digit b ≡ true → is_shown b ≡ true
digit_shown b h = grind (arith, nat_tests)

digit_no_space : (b : ℕ) → is_ascii_digit b ≡ true → not (eqb b 32) ≡ true
digit_no_space b h = grind (arith, nat_tests)

pub decimal_shown : (n : ℕ) → n < 2 ^ 64 → IsShown (decimal n)
decimal_shown n small = passes_weaker is_ascii_digit is_shown digit_shown (decimal n) (decimal_passes n small)

unspaced : (n : ℕ) → n < 2 ^ 64 → Passes (λ b. not (eqb b 32)) (decimal n)
unspaced n small = passes_weaker is_ascii_digit (λ b. not (eqb b 32)) digit_no_space (decimal n) (decimal_passes n small)

short_unpadded : (digits : List ℕ) → length digits ≤ 1 → is_padded digits ≡ false
short_unpadded [] h = refl
short_unpadded (b ∷ []) h = refl
short_unpadded (b ∷ c ∷ bytes) h = absurd (omega arith)

unpadded : (digits : List ℕ) → 48 < get_or digits 0 0 → is_padded digits ≡ false
unpadded [] h = absurd (omega arith)
unpadded (b ∷ []) h = refl
unpadded (b ∷ c ∷ bytes) h = grind (arith, nat_tests)

plain_decimal : (n : ℕ) → n < 2 ^ 64 → is_padded (decimal n) ≡ false
plain_decimal zero small = short_unpadded (decimal 0) (length-decimal-le 1 0 (omega arith) (omega arith) small)
plain_decimal (suc n) small = unpadded (decimal (suc n)) (first_decimal (suc n) (omega arith) small)

plain_read : (n : ℕ) → n < 10 ^ 18 → plain_of (decimal n) ≡ Some n
plain_read n few =
    let small : n < 2 ^ 64 = omega arith in
    let short : ltb 18 (length (decimal n)) ≡ false = le-ltb _ _ (length-decimal-le 18 n (omega arith) few small) in
    rw (plain_decimal n small, short) (number_of_decimal n small)

-- what begins with a digit is no minus
no_minus : (digits : List ℕ) → 0 < length digits → Passes is_ascii_digit digits → behind 45 digits ≡ None
no_minus [] some h = absurd (omega arith)
no_minus (b ∷ digits) some h = let other : eqb b 45 ≡ false = not_minus b h.0 in rw other refl
  where
    not_minus : (b : ℕ) → is_ascii_digit b ≡ true → eqb b 45 ≡ false
    not_minus b h = grind (arith, nat_tests)

value_read : (v : ℤ) → nat_abs v < 10 ^ 18 → value_of (signed_decimal v) ≡ Some v
value_read (pos n) few =
    let small : n < 2 ^ 64 = omega arith in
    rw (no_minus (decimal n) (decimal_nonempty n small) (decimal_passes n small), plain_read n few) refl
value_read (negsuc n) few = let some : eqb (suc n) 0 ≡ false = ne_eqb _ _ (λ e. omega arith) in rw (plain_read (suc n) few, some) refl

value_shown : (v : ℤ) → nat_abs v < 10 ^ 18 → IsShown (signed_decimal v)
value_shown (pos n) few = decimal_shown n (omega arith)
value_shown (negsuc n) few = (refl, decimal_shown (suc n) (omega arith))

-- a clock value
record IsMoment (v : ℤ) : Type 0 where
  number : ℕ
  is : v ≡ pos number
  small : number ≤ 1_000_000_000_000

clock_is : (v : ℤ) → is_clock v ≡ true → IsMoment v
clock_is (pos n) h = record { number = n; is = refl; small = leb-true n 1_000_000_000_000 (and_parts (leb 0 n) (leb n 1_000_000_000_000) h).1 }
clock_is (negsuc n) h = absurd cc

moment_read : (v : ℤ) → is_clock v ≡ true → moment_of (signed_decimal v) ≡ Some v
moment_read v clock =
    let m = clock_is v clock in
    subst (λ (w : ℤ). is_clock w ≡ true → moment_of (signed_decimal w) ≡ Some w) (sym m.is) (λ within. rw (plain_read m.number (let few = m.small in omega (arith, few)), within) refl) clock

pub moment_shown : (v : ℤ) → is_clock v ≡ true → IsShown (signed_decimal v)
moment_shown v clock = let m = clock_is v clock in subst (λ (w : ℤ). IsShown (signed_decimal w)) (sym m.is) (decimal_shown m.number (let few = m.small in omega (arith, few)))

moment_unspaced : (v : ℤ) → is_clock v ≡ true → Passes (λ b. not (eqb b 32)) (signed_decimal v)
moment_unspaced v clock = let m = clock_is v clock in subst (λ (w : ℤ). Passes (λ b. not (eqb b 32)) (signed_decimal w)) (sym m.is) (unspaced m.number (let few = m.small in omega (arith, few)))

-- a moment is not the word `now`
not_now : (digits : List ℕ) → 0 < length digits → Passes is_ascii_digit digits → bytes_eq digits (codes "now") ≡ false
not_now [] some h = absurd (omega arith)
not_now (b ∷ digits) some h = let other : eqb b 110 ≡ false = not_n b h.0 in rw other refl
  where
    not_n : (b : ℕ) → is_ascii_digit b ≡ true → eqb b 110 ≡ false
    not_n b h = grind (arith, nat_tests)

moment_not_now : (v : ℤ) → is_clock v ≡ true → bytes_eq (signed_decimal v) (codes "now") ≡ false
moment_not_now v clock =
    let m = clock_is v clock in
    let small : m.number < 2 ^ 64 = (let few = m.small in omega (arith, few)) in
    subst (λ (w : ℤ). bytes_eq (signed_decimal w) (codes "now") ≡ false) (sym m.is) (not_now (decimal m.number) (decimal_nonempty m.number small) (decimal_passes m.number small))

-- ---- elements

record IsSerial (who : ℕ) : Type 0 where
  some : 0 < who
  few : who < 1_000_000_000

serial_is : (who : ℕ) → is_serial who ≡ true → IsSerial who
serial_is who h = let parts = and_parts (leb 1 who) (leb who 999_999_999) h in record { some = leb-true _ _ parts.0; few = (let most = leb-true who 999_999_999 parts.1 in omega (arith, most)) }

serial_read : (who : ℕ) → is_serial who ≡ true → serial_of (serial_text who) ≡ Some who
serial_read who h = let s = serial_is who h in count_read who s.some s.few

serial_shown : (who : ℕ) → is_serial who ≡ true → IsShown (serial_text who)
serial_shown who h = let s = serial_is who h in (refl, decimal_shown who (let few = s.few in omega (arith, few)))

serial_unspaced : (who : ℕ) → is_serial who ≡ true → Passes (λ b. not (eqb b 32)) (serial_text who)
serial_unspaced who h = let s = serial_is who h in (refl, unspaced who (let few = s.few in omega (arith, few)))

valued_read : (who : ℕ) (v : ℤ) → HasValue who v → valued_of (spaced (serial_text who ∷ signed_decimal v ∷ [])) ≡ Some (who, v)
valued_read who v h =
    rw (cut_front 32 (serial_text who) (signed_decimal v) (serial_unspaced who h.serial), serial_read who h.serial, value_read v h.size) refl

-- ---- what came from outside

word_is : (text : List ℕ) → is_word is_of_name text ≡ true → length text ≤ 64 → IsWord is_of_name text
word_is [] h short = absurd cc
word_is (b ∷ bytes) h short = let parts = and_parts (is_initial b) (list_all is_of_name bytes) h in (parts.0, tested is_of_name bytes parts.1, omega arith)

none_of_both : (a b c d e f g : Bool) → (a || (b || (c || (d || false)))) ≡ false → (e || (f || (g || false))) ≡ false → (a || (b || (c || (d || (e || (f || (g || false))))))) ≡ false
none_of_both true b c d e f g h k = absurd cc
none_of_both false true c d e f g h k = absurd cc
none_of_both false false true d e f g h k = absurd cc
none_of_both false false false true e f g h k = absurd cc
none_of_both false false false false e f g h k = k

-- the name of an event that may come from outside
record IsName (name : List ℕ) : Type 0 where
  word : IsWord is_of_name name
  listed : is_list_word name ≡ false
  raised : is_raised_name name ≡ false

name_is : (name : List ℕ) → (is_event_name name && not (is_raised_name name)) ≡ true → IsName name
name_is name h =
    let both = and_parts (is_event_name name) (not (is_raised_name name)) h in
    let parts = and_parts (is_word is_of_name name && leb (length name) 64) (not (is_list_word name)) both.0 in
    let front = and_parts (is_word is_of_name name) (leb (length name) 64) parts.0 in
    record {
      word = word_is name front.0 (leb-true _ _ front.1);
      listed = not-true (is_list_word name) parts.1;
      raised = not-true (is_raised_name name) both.1;
    }

event_read : (name : List ℕ) → IsName name → event_of name ≡ Some name
event_read [] h = absurd h.word
event_read (b ∷ bytes) h =
    let name : List ℕ = b ∷ bytes in
    let len : name_len name ≡ length name = ap name_len (sym (append-nil name)) ∙ name_len_of name [] h.word refl in
    let whole : eqb (name_len name) (length name) ≡ true = eq-eqb _ _ len in
    let other =
    none_of_both (bytes_eq name (codes "begin")) (bytes_eq name (codes "end")) (bytes_eq name (codes "repeat")) (bytes_eq name (codes "indefinite"))
    (bytes_eq name (codes "beginEvent")) (bytes_eq name (codes "endEvent")) (bytes_eq name (codes "repeatEvent")) h.listed h.raised in
    let some : eqb (length name) 0 ≡ false = ne_eqb _ _ (λ e. omega arith) in
    rw (some, whole, other) refl

name_shown : (name : List ℕ) → IsName name → IsShown name
name_shown [] h = tt
name_shown (b ∷ bytes) h = let word = h.word in (initial_shown b word.0, passes_weaker is_of_name is_shown of_name_shown bytes word.1)
  where
    initial_shown : (b : ℕ) → is_initial b ≡ true → is_shown b ≡ true
    initial_shown b h = grind (arith, nat_tests)

    of_name_shown : (b : ℕ) → is_of_name b ≡ true → is_shown b ≡ true
    of_name_shown b h = grind (arith, nat_tests)

key_shown : (key : ℕ) → is_key key ≡ true → is_shown key ≡ true
key_shown key h = grind (arith, nat_tests)

-- ---- lines

-- words of a line, all of whose bytes are shown, and how the line is read
pub record IsSaid (words : List (List ℕ)) (said : DiaryLine) : Type 0 where
  pub shown : AllByRecursion IsShown words
  pub read : diary_line_of (spaced words) ≡ Ok said

-- the line alone
one_line : (words : List (List ℕ)) (said : DiaryLine) → IsSaid words said → map diary_line_of (lines (line_of words)) ≡ Ok said ∷ []
one_line words said is =
    ap (λ (text : List ℕ). map diary_line_of (lines text)) (line_is words)
    ∙ ap (map diary_line_of) (first_line (spaced words) [] (spaced_shown words is.shown))
    ∙ ap (λ (r : Result DiaryLine Refusal). r ∷ []) is.read

-- a moment, and behind it a word and what belongs to it
entry_at : (moment : ℤ) (word : List ℕ) (rest : List (List ℕ)) (first : List ℕ) → is_clock moment ≡ true → list_all (λ b. not (eqb b 32)) word ≡ true
    → diary_line_of (spaced (signed_decimal moment ∷ word ∷ first ∷ rest)) ≡ entry_of moment word (spaced (first ∷ rest))
entry_at moment word rest first clock one =
    rw (cut_front 32 (signed_decimal moment) (word ++ 32 ∷ spaced (first ∷ rest)) (moment_unspaced moment clock), moment_not_now moment clock, moment_read moment clock, cut_front 32 word (spaced (first ∷ rest)) (tested (λ b. not (eqb b 32)) word one)) refl

-- the words of an entry
abbrev pub entry_words : List LogEntry → Entry → List (List ℕ)
entry_words log entry = signed_decimal entry.moment ∷ step_words log entry.step

module _ (log : List LogEntry) (moment : ℤ) (clock : is_clock moment ≡ true) where
  abbrev entry_with : Step → Entry
  entry_with step = record { moment = moment; step = step }

  valued_line : (word : List ℕ) (who : ℕ) (v : ℤ) (step : Step) → HasValue who v → IsShown word → list_all (λ b. not (eqb b 32)) word ≡ true
      → step_of word (spaced (serial_text who ∷ signed_decimal v ∷ [])) ≡ Some step
      → IsSaid (signed_decimal moment ∷ word ∷ serial_text who ∷ signed_decimal v ∷ []) (Happened (entry_with step))
  valued_line word who v step h shown one e = record {
    shown = (moment_shown moment clock, (shown, (serial_shown who h.serial, (value_shown v h.size, tt))));
    read = entry_at moment word (signed_decimal v ∷ []) (serial_text who) clock one ∙ ap (entry_or moment word (spaced (serial_text who ∷ signed_decimal v ∷ []))) e;
  }

  plain_line : (word : List ℕ) (who : ℕ) (step : Step) → is_serial who ≡ true → IsShown word → list_all (λ b. not (eqb b 32)) word ≡ true → step_of word (serial_text who) ≡ Some step
      → IsSaid (signed_decimal moment ∷ word ∷ serial_text who ∷ []) (Happened (entry_with step))
  plain_line word who step h shown one e = record {
    shown = (moment_shown moment clock, (shown, (serial_shown who h, tt)));
    read = entry_at moment word [] (serial_text who) clock one ∙ ap (entry_or moment word (serial_text who)) e;
  }

  heard_line : (word first : List ℕ) (rest : List (List ℕ)) (what : Happening) → AllByRecursion IsShown (word ∷ first ∷ rest) → list_all (λ b. not (eqb b 32)) word ≡ true
      → step_of word (spaced (first ∷ rest)) ≡ None → happening_of word (spaced (first ∷ rest)) ≡ Some what
      → IsSaid (signed_decimal moment ∷ word ∷ first ∷ rest) (heard moment what)
  heard_line word first rest what shown one none e = record {
    shown = (moment_shown moment clock, shown);
    read = entry_at moment word rest first clock one ∙ ap (entry_or moment word (spaced (first ∷ rest))) none ∙ ap (λ (o : Option Happening). with_heard moment (ok_or o NotACommand)) e;
  }

  -- what came from outside
  happening_line : (what : Happening) → may_happen what ≡ true → IsSaid (signed_decimal moment ∷ happening_words what) (heard moment what)
  happening_line (happening.Event who name) may =
      let serial : is_serial who ≡ true = (and_parts (is_serial who) (is_event_name name) (and_parts (is_serial who && is_event_name name) (not (is_raised_name name)) may).0).0 in
      let own : IsName name = name_is name (own_name (is_serial who) (is_event_name name) (not (is_raised_name name)) may) in
      heard_line (codes "event") (serial_text who) (name ∷ []) (happening.Event who name)
      (tested is_shown (codes "event") refl, (serial_shown who serial, (name_shown name own, tt))) refl refl
      (rw (cut_front 32 (serial_text who) name (serial_unspaced who serial), serial_read who serial, event_read name own) refl)
    where
      own_name : (a b c : Bool) → (a && b && c) ≡ true → (b && c) ≡ true
      own_name true true true h = refl
      own_name true true false h = absurd cc
      own_name true false c h = absurd cc
      own_name false b c h = absurd cc
  happening_line (happening.Media who length) may =
      let parts = and_parts (is_serial who) (is_clock length) may in
      heard_line (codes "media") (serial_text who) (signed_decimal length ∷ []) (happening.Media who length)
      (tested is_shown (codes "media") refl, (serial_shown who parts.0, (moment_shown length parts.1, tt))) refl refl
      (rw (cut_front 32 (serial_text who) (signed_decimal length) (serial_unspaced who parts.0), serial_read who parts.0, moment_read length parts.1) refl)
  happening_line (happening.Key key) may =
      heard_line (codes "key") (key ∷ []) [] (happening.Key key) (tested is_shown (codes "key") refl, ((key_shown key may, tt), tt)) refl refl
      (rw may refl)

  step_line : (step : Step) → IsPlainStep log step → IsSaid (entry_words log (entry_with step)) (said log (entry_with step))
  step_line (Began who v) h = valued_line (codes "began") who v (Began who v) h (tested is_shown (codes "began") refl) refl (ap (option_map (λ (v : ℕ × ℤ). Began v.0 v.1)) (valued_read who v h))
  step_line (Repeated who v) h = valued_line (codes "repeated") who v (Repeated who v) h (tested is_shown (codes "repeated") refl) refl (ap (option_map (λ (v : ℕ × ℤ). Repeated v.0 v.1)) (valued_read who v h))
  step_line (Ended who v) h = valued_line (codes "ended") who v (Ended who v) h (tested is_shown (codes "ended") refl) refl (ap (option_map (λ (v : ℕ × ℤ). Ended v.0 v.1)) (valued_read who v h))
  step_line (Deferred who v) h = valued_line (codes "deferred") who v (Deferred who v) h (tested is_shown (codes "deferred") refl) refl (ap (option_map (λ (v : ℕ × ℤ). Deferred v.0 v.1)) (valued_read who v h))
  step_line (Passed who v) h = valued_line (codes "passed") who v (Passed who v) h (tested is_shown (codes "passed") refl) refl (ap (option_map (λ (v : ℕ × ℤ). Passed v.0 v.1)) (valued_read who v h))
  step_line (Cut who) h = plain_line (codes "cut") who (Cut who) h (tested is_shown (codes "cut") refl) refl (ap (option_map Cut) (serial_read who h))
  step_line (Paused who) h = plain_line (codes "paused") who (Paused who) h (tested is_shown (codes "paused") refl) refl (ap (option_map Paused) (serial_read who h))
  step_line (Resumed who) h = plain_line (codes "resumed") who (Resumed who) h (tested is_shown (codes "resumed") refl) refl (ap (option_map Resumed) (serial_read who h))
  step_line (Logged place) h =
      let named = h.0 in
      subst (λ (o : Option LogEntry). IsSaid (signed_decimal moment ∷ logged_words o) (said_by (entry_with (Logged place)) o)) (sym h.1) (happening_line named.what h.2)

pub entry_said : (log : List LogEntry) (entry : Entry) → IsPlain log entry → IsSaid (entry_words log entry) (said log entry)
entry_said log entry h = step_line log entry.moment h.moment entry.step h.step

-- the words of the present moment
abbrev pub now_words : ℤ → List (List ℕ)
now_words now = codes "now" ∷ signed_decimal now ∷ []

pub now_said : (now : ℤ) → is_clock now ≡ true → IsSaid (now_words now) (Now now)
now_said now clock = record {
  shown = (tested is_shown (codes "now") refl, (moment_shown now clock, tt));
  read = rw (cut_front 32 (codes "now") (signed_decimal now) (tested (λ b. not (eqb b 32)) (codes "now") refl), moment_read now clock) refl;
}

pub entry_read : EntryLinesAreReadAgain
entry_read log entry h = one_line (entry_words log entry) (said log entry) (entry_said log entry h)

pub now_read : NowLinesAreReadAgain
now_read now clock = one_line (now_words now) (Now now) (now_said now clock)

-- ---- lines that say something

-- a line that begins with a digit is not passed over
digit_said : (digits rest : List ℕ) → 0 < length digits → Passes is_ascii_digit digits → is_blank (digits ++ rest) ≡ false
digit_said [] rest some h = absurd (omega arith)
digit_said (b ∷ digits) rest some h = let white : is_white b ≡ false = not_white b h.0 in let sign : eqb b 35 ≡ false = not_sign b h.0 in rw (white, sign) refl
  where
    not_white : (b : ℕ) → is_ascii_digit b ≡ true → is_white b ≡ false
    not_white b h = grind (arith, nat_tests)

    not_sign : (b : ℕ) → is_ascii_digit b ≡ true → eqb b 35 ≡ false
    not_sign b h = grind (arith, nat_tests)

spaced_behind : (word : List ℕ) (words : List (List ℕ)) → (rest : List ℕ) × (spaced (word ∷ words) ≡ word ++ rest)
spaced_behind word [] = ([], sym (append-nil word))
spaced_behind word (next ∷ words) = (32 ∷ spaced (next ∷ words), refl)

pub entry_not_blank : (log : List LogEntry) (entry : Entry) → is_clock entry.moment ≡ true → is_blank (spaced (entry_words log entry)) ≡ false
entry_not_blank log entry clock =
    let behind = spaced_behind (signed_decimal entry.moment) (step_words log entry.step) in
    let m = clock_is entry.moment clock in
    let small : m.number < 2 ^ 64 = (let few = m.small in omega (arith, few)) in
    ap is_blank behind.1
    ∙ subst (λ (w : ℤ). is_blank (signed_decimal w ++ behind.0) ≡ false) (sym m.is) (digit_said (decimal m.number) behind.0 (decimal_nonempty m.number small) (decimal_passes m.number small))

pub now_not_blank : (now : ℤ) → is_blank (spaced (now_words now)) ≡ false
now_not_blank now = refl
