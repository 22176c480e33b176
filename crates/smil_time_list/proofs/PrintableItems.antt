-- What a text can be read as: the items that a list can have.
use Rattle.std.proofs.Common.{◌≡◌, ℕ, zero, suc, ◌+◌, ◌-◌, ◌*◌, ◌<◌, ◌≤◌, true, false, not, eqb, ltb, ◌||◌, List, [], ◌∷◌, length, take, drop, Option, Some, None, option_map, Result, Ok, Err, subst, arith, length-take}
use Rattle.std.specs.Prelude.{ℤ, pos, negsuc, neg_ℤ, nat_abs, codes, bytes_eq, IfOk, IfSome}
use Rattle.std.specs.Char.{is_ascii_digit}
use Rattle.std.specs.Option.{ok_or}
use Rattle.std.proofs.lemmas.Bool.{cond_both, ltb-false, ltb-true, and_parts}
use Rattle.std.proofs.lemmas.Bool.Decides.{nat_tests}
use Rattle.std.proofs.lemmas.Int.{ints}
use Rattle.std.proofs.lemmas.Option.{IfSome_then}
use Rattle.smil_model.specs.declared.times.TheConstants.{HORIZON}
use Rattle.smil_model.specs.declared.document.Item.{Item}
use Rattle.smil_model.specs.declared.document.Item.TheVariants.{Offset, Sync, Event, Repeat, Key, Indefinite}
use Rattle.smil_model.specs.declared.document.Edge.{Edge}
use Rattle.smil_model.specs.declared.document.Edge.TheVariants.{Begin, End}
use Rattle.smil_grammar.specs.declared.fault.ItemFault.{ItemFault}
use Rattle.smil_grammar.specs.declared.fault.ItemFault.TheVariants.{Bad, Unsupported}
use Rattle.smil_grammar.specs.Texts.{◌>>=◌, cut_at, trim_front, behind, point}
use Rattle.smil_grammar.specs.Words.{is_of_name, is_of_id, name_len, id_len, unescaped}
use Rattle.smil_grammar.specs.Numbers.{number_after, number_of}
use Rattle.smil_grammar.specs.Clock.{clock_of, within, clock_within}
use Rattle.smil_grammar.specs.Items.{is_sign, with_sign, signed_of, offset_of, tail_of, with_tail, is_count, count_of, repeat_of, sync_of, word_of, what_of, of_element, is_left_out, is_keyed, key_of, subject_of, named_of, item_of, IsItem}
use Rattle.smil_model.specs.Times.{IsNear}
use Rattle.smil_grammar.specs.Spellings.{CanWrite}
use Rattle.smil_model.specs.document.Words.{is_key}
use Rattle.smil_lexis.proofs.DigitSteps.{nine_below}
use Rattle.smil_lexis.proofs.WordFronts.{IsWord, name_word, id_word}

-- an offset is a clock value with a sign: the horizon bounds its size
pub near : (offset : ℤ) → nat_abs offset ≤ nat_abs HORIZON → IsNear offset
near offset h = record { low = omega (arith, ints); high = omega (arith, ints) }

pub size : (offset : ℤ) → IsNear offset → nat_abs offset ≤ nat_abs HORIZON
size offset h = omega (arith, ints, h.low, h.high)

-- an event's name is none of the words that items have
pub record IsEventName (name : List ℕ) : Type 0 where
  pub word : IsWord is_of_name name
  pub not_begin : bytes_eq name (codes "begin") ≡ false
  pub not_end : bytes_eq name (codes "end") ≡ false
  pub not_repeat : bytes_eq name (codes "repeat") ≡ false
  pub not_indefinite : bytes_eq name (codes "indefinite") ≡ false

abbrev pub IsWho : Option (List ℕ) → Type 0
IsWho None = Unit {0}
IsWho (Some who) = IsWord is_of_id who

abbrev pub Printable : Item → Type 0
Printable (Offset offset) = IsNear offset
Printable (Sync who edge offset) = (IsWord is_of_id who) × (IsNear offset)
Printable (Event who name offset) = (IsWho who) × (IsEventName name) × (IsNear offset)
Printable (Repeat who n offset) = (IsWho who) × (0 < n) × (n < 1_000_000_000) × (IsNear offset)
Printable (Key key offset) = (is_key key ≡ true) × (IsNear offset)
Printable Indefinite = Unit {0}

-- numbers

pub small : (o : Option ℕ) → IfSome (o >>= within) (λ n. n ≤ 1_000_000_000_000)
small None = tt
small (Some n) = cond_both (ltb 1_000_000_000_000 n) None (Some n) (λ o. IfSome o (λ n. n ≤ 1_000_000_000_000)) (λ e. tt) (λ e. ltb-false _ _ e)

pub clock_small : (text : List ℕ) → IfSome (clock_within text) (λ n. n ≤ 1_000_000_000_000)
clock_small text = small (clock_of text)

signed : (sign : ℕ) (o : Option ℕ) → IfSome o (λ n. n ≤ 1_000_000_000_000) → IfSome (option_map (with_sign sign) o) IsNear
signed sign None h = tt
signed sign (Some n) h = cond_both (eqb sign 45) (neg_ℤ (pos n)) (pos n) IsNear (λ e. negative n h) (λ e. near (pos n) h)
  where
    negative : (n : ℕ) → n ≤ 1_000_000_000_000 → IsNear (neg_ℤ (pos n))
    negative zero h = near (pos zero) h
    negative (suc n) h = near (negsuc n) h

signed_small : (text : List ℕ) → IfSome (signed_of text) IsNear
signed_small [] = tt
signed_small (b ∷ bytes) = cond_both (is_sign b) (option_map (with_sign b) (clock_within (trim_front bytes))) None (λ o. IfSome o IsNear) (λ e. signed b (clock_within (trim_front bytes)) (clock_small (trim_front bytes))) (λ e. tt)

-- what is made of a value
pub mapped : {A B : Type 0} (made : A → B) (P : A → Type 0) (Q : B → Type 0) → ((x : A) → P x → Q (made x)) → (o : Option A) → IfSome o P → IfSome (option_map made o) Q
mapped made P Q each None h = tt
mapped made P Q each (Some x) h = each x h

offset_small : (text : List ℕ) → IfSome (offset_of text) IsNear
offset_small [] = tt
offset_small (b ∷ bytes) = cond_both (is_sign b) (signed_of (b ∷ bytes)) (option_map pos (clock_within (b ∷ bytes))) (λ o. IfSome o IsNear) (λ e. signed_small (b ∷ bytes)) (λ e. mapped pos (λ n. n ≤ 1_000_000_000_000) IsNear (λ n. near (pos n)) (clock_within (b ∷ bytes)) (clock_small (b ∷ bytes)))

tail_small : (text : List ℕ) → IfSome (tail_of text) IsNear
tail_small [] = near (pos 0) (omega arith)
tail_small (b ∷ bytes) = signed_small (trim_front (b ∷ bytes))

-- counts

grows : (n : ℕ) (digits : List ℕ) → IfSome (number_after n digits) (λ m. n ≤ m)
grows n [] = omega arith
grows n (b ∷ digits) = cond_both (is_ascii_digit b) (number_after (n * 10 + (b - 48)) digits) None (λ o. IfSome o (λ m. n ≤ m)) (λ e. IfSome_then (number_after (n * 10 + (b - 48)) digits) (grows (n * 10 + (b - 48)) digits) (λ m h. omega arith)) (λ e. tt)

abbrev pub IsCounted : ℕ → Type 0
IsCounted n = (0 < n) × (n < 1_000_000_000)

count_both : (o : Option ℕ) → IfSome o (λ m. 1 ≤ m) → IfSome o (λ m. m < 1_000_000_000) → IfSome o IsCounted
count_both None h k = tt
count_both (Some m) h k = (omega arith, k)

no_zero : (b : ℕ) → is_ascii_digit b ≡ true → not (eqb b 48) ≡ true → 1 ≤ b - 48
no_zero b h k = grind (arith, nat_tests)

at_least_one : (b : ℕ) (digits : List ℕ) → not (eqb b 48) ≡ true → IfSome (number_of (b ∷ digits)) (λ m. 1 ≤ m)
at_least_one b digits h = cond_both (is_ascii_digit b) (number_after (0 * 10 + (b - 48)) digits) None (λ o. IfSome o (λ m. 1 ≤ m)) (λ e. IfSome_then (number_after (0 * 10 + (b - 48)) digits) (grows (0 * 10 + (b - 48)) digits) (λ m k. omega (arith, no_zero b e h))) (λ e. tt)

counted : (digits : List ℕ) → is_count digits ≡ true → IfSome (number_of digits) IsCounted
counted [] h = absurd cc
counted (b ∷ digits) h =
    let both = and_parts (not (eqb b 48)) (ltb (length digits) 9) h in
    count_both (number_of (b ∷ digits)) (at_least_one b digits both.0) (nine_below (b ∷ digits) (omega (arith, ltb-true _ _ both.1)))

pub count_small : (digits : List ℕ) → IfSome (count_of digits) IsCounted
count_small digits = cond_both (is_count digits) (number_of digits) None (λ o. IfSome o IsCounted) (λ e. counted digits e) (λ e. tt)

-- items, from their tails to the whole

abbrev Reads : Option Item → Type 0
Reads o = IfSome o Printable

abbrev Gives : Result Item ItemFault → Type 0
Gives r = IfOk r Printable

with_tail_reads : (item : ℤ → Item) → ((offset : ℤ) → IsNear offset → Printable (item offset)) → (tail : List ℕ) → Reads (with_tail item tail)
with_tail_reads item each tail = mapped item IsNear Printable each (tail_of tail) (tail_small tail)

sync_reads : (who : Option (List ℕ)) (edge : Edge) (tail : List ℕ) → IsWho who → Reads (sync_of who edge tail)
sync_reads None edge tail h = tt
sync_reads (Some who) edge tail h = with_tail_reads (Sync who edge) (λ offset small. (h, small)) tail

-- a step of a reading
then : {A : Type 0} (o : Option A) (P : A → Type 0) (f : A → Option Item) → IfSome o P → ((x : A) → P x → Reads (f x)) → Reads (o >>= f)
then None P f h each = tt
then (Some x) P f h each = each x h

any : {A : Type 0} (o : Option A) → IfSome o (λ _. Unit {0})
any None = tt
any (Some x) = tt

repeat_reads : (who : Option (List ℕ)) (text : List ℕ) → IsWho who → Reads (repeat_of who text)
repeat_reads who text h =
    then (behind 40 text) (λ _. Unit {0}) _ (any (behind 40 text)) (λ inner _.
    then (cut_at 41 inner) (λ _. Unit {0}) _ (any (cut_at 41 inner)) (λ cut _.
    then (count_of cut.0) IsCounted _ (count_small cut.0) (λ n small.
    with_tail_reads (Repeat who n) (λ offset within. (h, small.0, small.1, within)) cut.1)))

positive : (n : ℕ) → eqb n 0 ≡ false → 0 < n
positive n e = grind (arith, nat_tests)

word_reads : (who : Option (List ℕ)) (word tail : List ℕ) → IsWho who → (0 < length word → IsWord is_of_name word) → Reads (word_of who word tail)
word_reads who word tail h is =
    cond_both (eqb (length word) 0) None _ Reads (λ e. tt) (λ some.
    cond_both (bytes_eq word (codes "begin")) (sync_of who Begin tail) _ Reads (λ e. sync_reads who Begin tail h) (λ no-begin.
    cond_both (bytes_eq word (codes "end")) (sync_of who End tail) _ Reads (λ e. sync_reads who End tail h) (λ no-end.
    cond_both (bytes_eq word (codes "repeat")) (repeat_of who tail) _ Reads (λ e. repeat_reads who tail h) (λ no-repeat.
    cond_both (bytes_eq word (codes "indefinite")) None (with_tail (Event who word) tail) Reads (λ e. tt) (λ no-indefinite.
    with_tail_reads (Event who word) (λ offset small. (h, record { word = is (positive (length word) some); not_begin = no-begin; not_end = no-end; not_repeat = no-repeat; not_indefinite = no-indefinite }, small)) tail)))))

what_reads : (who : Option (List ℕ)) (text : List ℕ) → IsWho who → Reads (what_of who text)
what_reads who text h = word_reads who (take (name_len text) text) (drop (name_len text) text) h (λ some. name_word text (omega (arith, length-take (name_len text) text)))

or_bad : (o : Option Item) → Reads o → Gives (ok_or o Bad)
or_bad None h = tt
or_bad (Some item) h = h

element_gives : (who text : List ℕ) → IsWord is_of_id who → Gives (of_element who text)
element_gives who text h = cond_both _ (Err Unsupported) (ok_or (what_of (Some who) text) Bad) Gives (λ e. tt) (λ e. or_bad (what_of (Some who) text) (what_reads (Some who) text h))

subject_gives : (text : List ℕ) (rest : Option (List ℕ)) → eqb (id_len true text) 0 ≡ false → Gives (subject_of text rest)
subject_gives text None some = or_bad (what_of None text) (what_reads None text tt)
subject_gives text (Some rest) some = element_gives (unescaped (take (id_len true text) text)) rest (id_word text (positive (id_len true text) some))

key_reads : (text : List ℕ) → Reads (key_of text)
key_reads [] = tt
key_reads (b ∷ text) =
    cond_both (is_key b) _ None Reads (λ e. then (behind 41 text) (λ _. Unit {0}) (with_tail (Key b)) (any (behind 41 text)) (λ tail _. with_tail_reads (Key b) (λ offset within. (e, within)) tail)) (λ e. tt)

named_gives : (text : List ℕ) → Gives (named_of text)
named_gives text =
    cond_both (is_left_out text) (Err Unsupported) _ Gives (λ e. tt) (λ e.
    cond_both (is_keyed text) (ok_or (key_of (drop 10 text)) Bad) _ Gives (λ e. or_bad (key_of (drop 10 text)) (key_reads (drop 10 text))) (λ e.
    cond_both (bytes_eq text (codes "indefinite")) (Ok Indefinite) _ Gives (λ e. tt) (λ e.
    cond_both (eqb (id_len true text) 0) (Err Bad) _ Gives (λ e. tt) (λ some. subject_gives text (behind point (drop (id_len true text) text)) some))))

offset_gives : (o : Option ℤ) → IfSome o IsNear → Gives (ok_or (option_map Offset o) Bad)
offset_gives None h = tt
offset_gives (Some offset) h = h

pub reading_gives : (text : List ℕ) → Gives (item_of text)
reading_gives [] = tt
reading_gives (b ∷ bytes) = cond_both (is_ascii_digit b || is_sign b) (ok_or (option_map Offset (offset_of (b ∷ bytes))) Bad) (named_of (b ∷ bytes)) Gives (λ e. offset_gives (offset_of (b ∷ bytes)) (offset_small (b ∷ bytes))) (λ e. named_gives (b ∷ bytes))

pub item_printable : (item : Item) → IsItem item → Printable item
item_printable item h = subst Gives h.1 (reading_gives h.0)

pub can_write : (item : Item) → Printable item → CanWrite item
can_write (Offset offset) h = h
can_write (Sync who edge offset) h = h.1
can_write (Event who name offset) h = h.2
can_write (Repeat who n offset) h = h.3
can_write (Key key offset) h = h.1
can_write Indefinite h = tt
