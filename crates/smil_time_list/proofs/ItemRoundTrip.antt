-- The printed spelling of an item is read as that item.
use Rattle.std.proofs.Common.{◌≡◌, ℕ, zero, suc, ◌<◌, ◌≤◌, Bool, true, false, not, eqb, ltb, ◌||◌, ◌&&◌, List, [], ◌∷◌, ◌++◌, length, get_or, Option, Some, None, Ok, refl, sym, ap, subst, ◌∙◌, arith, decimal, append_assoc}
use Rattle.std.specs.Prelude.{ℤ, pos, negsuc, neg_ℤ, codes, bytes_eq}
use Rattle.std.specs.Char.{is_ascii_digit}
use Rattle.std.specs.Bool.{nat_eq}
use Rattle.std.specs.List.{prefix_len, starts_with}
use Rattle.std.specs.Option.{ok_or}
use Rattle.std.proofs.lemmas.Bool.{le-ltb, ne_eqb, and_parts, and_left, and_right}
use Rattle.std.proofs.lemmas.Bool.Decides.{nat_tests}
use Rattle.std.proofs.lemmas.List.{append-nil, take_at, drop_at}
use Rattle.std.proofs.lemmas.Fmt.{first_decimal, length-decimal-le, decimal_nonempty}
use Rattle.smil_model.specs.Times.{IsNear}
use Rattle.smil_model.specs.declared.document.Item.{Item}
use Rattle.smil_model.specs.declared.document.Item.TheVariants.{Offset, Sync, Event, Repeat, Key, Indefinite}
use Rattle.smil_model.specs.declared.document.Edge.{Edge}
use Rattle.smil_model.specs.declared.document.Edge.TheVariants.{Begin, End}
use Rattle.smil_grammar.specs.declared.fault.ItemFault.TheVariants.{Bad}
use Rattle.smil_grammar.specs.Texts.{is_white, cut_at, trim_front, behind, point}
use Rattle.smil_grammar.specs.Words.{is_initial, is_of_name, is_dash, is_of_id, escaped_len, id_len}
use Rattle.smil_grammar.specs.Clock.{clock_within, clock_text}
use Rattle.smil_grammar.specs.Items.{is_sign, signed_of, tail_of, is_count, count_of, repeat_of, word_of, what_of, of_element, is_left_out, is_keyed, subject_of, named_of, item_of}
use Rattle.smil_grammar.specs.Spellings.{escaped, offset_text, tail_text, edge_text, item_text}
use Rattle.smil_lexis.proofs.TestedFronts.{Passes, passes_weaker, cut_front}
use Rattle.smil_lexis.proofs.DecimalRoundTrip.{decimal_passes, number_of_decimal}
use Rattle.smil_lexis.proofs.WordFronts.{IsWord, initial_no_dash, name_len_of, id_len_of, read_again, all_of_id}
use Rattle.smil_clock_value.proofs.ClockRoundTrip.{written}
use Rattle.smil_time_list.proofs.PrintableItems.{IsEventName, Printable, size}

-- clock values with a sign

digit_no_white : (b : ℕ) → is_ascii_digit b ≡ true → is_white b ≡ false
digit_no_white b h = grind (arith, nat_tests)

digit_no_sign : (b : ℕ) → is_ascii_digit b ≡ true → is_sign b ≡ false
digit_no_sign b h = grind (arith, nat_tests)

untrimmed : (digits tail : List ℕ) → 0 < length digits → Passes is_ascii_digit digits → trim_front (digits ++ tail) ≡ digits ++ tail
untrimmed [] tail some h = absurd (omega arith)
untrimmed (b ∷ digits) tail some h = rw (digit_no_white b h.0) refl

clock_untrimmed : (n : ℕ) → n ≤ 1_000_000_000_000 → trim_front (clock_text n) ≡ clock_text n
clock_untrimmed n le = untrimmed (decimal n) (codes "ms") (decimal_nonempty n (omega arith)) (decimal_passes n (omega arith))

pub clock_read : (n : ℕ) → n ≤ 1_000_000_000_000 → clock_within (clock_text n) ≡ Some n
clock_read n le = let t : ltb 1_000_000_000_000 n ≡ false = le-ltb _ _ le in rw (written n le, t) refl

plus_read : (n : ℕ) → n ≤ 1_000_000_000_000 → signed_of (43 ∷ clock_text n) ≡ Some (pos n)
plus_read n le = rw (clock_untrimmed n le, clock_read n le) refl

minus_read : (n : ℕ) → n ≤ 1_000_000_000_000 → signed_of (45 ∷ clock_text n) ≡ Some (neg_ℤ (pos n))
minus_read n le = rw (clock_untrimmed n le, clock_read n le) refl

tail_read : (offset : ℤ) → IsNear offset → tail_of (tail_text offset) ≡ Some offset
tail_read (pos zero) h = refl
tail_read (pos (suc n)) h = plus_read (suc n) (size (pos (suc n)) h)
tail_read (negsuc n) h = minus_read (suc n) (size (negsuc n) h)

plain_item : (digits tail : List ℕ) (n : ℕ) → 0 < length digits → Passes is_ascii_digit digits → clock_within (digits ++ tail) ≡ Some n → item_of (digits ++ tail) ≡ Ok (Offset (pos n))
plain_item [] tail n some h e = absurd (omega arith)
plain_item (b ∷ digits) tail n some h e = rw (h.0, digit_no_sign b h.0, e) refl

offset_read : (offset : ℤ) → IsNear offset → item_of (offset_text offset) ≡ Ok (Offset offset)
offset_read (pos n) h =
    let le : n ≤ 1_000_000_000_000 = size (pos n) h in
    plain_item (decimal n) (codes "ms") n (decimal_nonempty n (omega arith)) (decimal_passes n (omega arith)) (clock_read n le)
offset_read (negsuc n) h = rw (minus_read (suc n) (size (negsuc n) h)) refl

-- what stands behind a word

no_name : (offset : ℤ) → prefix_len is_of_name (tail_text offset) ≡ 0
no_name (pos zero) = refl
no_name (pos (suc n)) = refl
no_name (negsuc n) = refl

no_id : (offset : ℤ) → escaped_len false (tail_text offset) ≡ 0
no_id (pos zero) = refl
no_id (pos (suc n)) = refl
no_id (negsuc n) = refl

no_point : (offset : ℤ) → behind point (tail_text offset) ≡ None
no_point (pos zero) = refl
no_point (pos (suc n)) = refl
no_point (negsuc n) = refl

-- a text that ends a word, and opens no parenthesis
abbrev Ends : List ℕ → Type 0
Ends [] = Unit {0}
Ends (b ∷ bytes) = (is_of_name b ≡ false) × (eqb b 40 ≡ false)

tail_ends : (offset : ℤ) → Ends (tail_text offset)
tail_ends (pos zero) = tt
tail_ends (pos (suc n)) = (refl, refl)
tail_ends (negsuc n) = (refl, refl)

-- words that a text doesn't begin with, or isn't

abbrev is_call : List ℕ → Bool
is_call [] = false
is_call (b ∷ bytes) = eqb b 40 || (is_of_name b && is_call bytes)

abbrev is_shut : ℕ → Bool
is_shut b = not (eqb b 40)

other_end : (w b : ℕ) (more : Bool) → (eqb w 40 || (is_of_name w && more)) ≡ true → is_of_name b ≡ false → eqb b 40 ≡ false → eqb w b ≡ false
other_end w b more h name shut = ne_eqb w b (λ e. apart w b more e h name shut)
  where
    apart : (w b : ℕ) (more : Bool) → w ≡ b → (eqb w 40 || (is_of_name w && more)) ≡ true → is_of_name b ≡ false → eqb b 40 ≡ false → ⊥
    apart w b more e h name shut = let k : (eqb b 40 || (is_of_name b && more)) ≡ true = subst (λ (x : ℕ). (eqb x 40 || (is_of_name x && more)) ≡ true) e h in let f : false ≡ true = rw (shut, name) at k in absurd cc

shut_apart : (w c : ℕ) → eqb w 40 ≡ true → is_shut c ≡ true → eqb w c ≡ false
shut_apart w c e h = grind (arith, nat_tests)

not_called : (needle front rest : List ℕ) → is_call needle ≡ true → Passes is_shut front → Ends rest → starts_with nat_eq (front ++ rest) needle ≡ false
not_called [] front rest call h k = absurd cc
not_called (w ∷ word) [] [] call h k = refl
not_called (w ∷ word) [] (b ∷ rest) call h k = and_left _ _ (other_end w b (is_call word) call k.0 k.1)
not_called (w ∷ word) (c ∷ front) rest call h k = by_paren w c word (front ++ rest) (eqb w 40) refl call h.0 (λ more. not_called word front rest more h.1 k)
  where
    by_paren : (w c : ℕ) (word text : List ℕ) (t : Bool) → eqb w 40 ≡ t → (eqb w 40 || (is_of_name w && is_call word)) ≡ true → is_shut c ≡ true → (is_call word ≡ true → starts_with nat_eq text word ≡ false) → starts_with nat_eq (c ∷ text) (w ∷ word) ≡ false
    by_paren w c word text true e call shut later = and_left _ _ (shut_apart w c e shut)
    by_paren w c word text false e call shut later = let both = and_parts (is_of_name w) (is_call word) (rw e at call) in and_right _ _ (later both.1)

other_byte : (b w : ℕ) → is_of_name w ≡ true → is_of_name b ≡ false → eqb b w ≡ false
other_byte b w h k = ne_eqb b w (λ e. let f : false ≡ true = sym k ∙ ap is_of_name e ∙ h in absurd cc)

differs : (word front : List ℕ) (b : ℕ) (rest : List ℕ) → Passes is_of_name word → is_of_name b ≡ false → bytes_eq (front ++ b ∷ rest) word ≡ false
differs [] [] b rest h k = refl
differs [] (c ∷ front) b rest h k = refl
differs (w ∷ word) [] b rest h k = and_left _ _ (other_byte b w h.0 k)
differs (w ∷ word) (c ∷ front) b rest h k = and_right _ _ (differs word front b rest h.1 k)

left_in : (front rest : List ℕ) → Passes is_shut front → Ends rest → is_left_out (front ++ rest) ≡ false
left_in front rest h k =
    rw (not_called (codes "wallclock(") front rest refl h k, not_called (codes "id(") front rest refl h k) refl

no_key_in : (front rest : List ℕ) → Passes is_shut front → Ends rest → is_keyed (front ++ rest) ≡ false
no_key_in front rest h k =
    rw (not_called (codes "accesskey(") front rest refl h k, not_called (codes "accessKey(") front rest refl h k) refl

-- an id as it is written in a reference

of_id_shut : (b : ℕ) → is_of_id b ≡ true → is_shut b ≡ true
of_id_shut b h = grind (arith, nat_tests)

name_of_id : (b : ℕ) → is_of_name b ≡ true → is_of_id b ≡ true
name_of_id b h = rw h refl

escaped_step : (p : ℕ → Bool) (c : ℕ) (id : List ℕ) (t : Bool) → is_dash c ≡ t → p 92 ≡ true → p c ≡ true → Passes p (escaped id) → Passes p (escaped (c ∷ id))
escaped_step p c id true e backslash h k = rw e (backslash, (h, k))
escaped_step p c id false e backslash h k = rw e (h, k)

pub escaped_passes : (p : ℕ → Bool) → ((b : ℕ) → is_of_id b ≡ true → p b ≡ true) → p 92 ≡ true → (id : List ℕ) → Passes is_of_id id → Passes p (escaped id)
escaped_passes p each backslash [] h = tt
escaped_passes p each backslash (c ∷ id) h = escaped_step p c id (is_dash c) refl backslash (each c h.0) (escaped_passes p each backslash id h.1)

no_dash : (b : ℕ) → is_of_name b ≡ true → is_dash b ≡ false
no_dash b h = grind (arith, nat_tests)

name_plain : (name : List ℕ) → Passes is_of_name name → escaped name ≡ name
name_plain [] h = refl
name_plain (c ∷ name) h = rw (no_dash c h.0) (ap (λ (t : List ℕ). c ∷ t) (name_plain name h.1))

initial_of_name : (b : ℕ) → is_initial b ≡ true → is_of_name b ≡ true
initial_of_name b h = rw h refl

pub all_of_name : (name : List ℕ) → IsWord is_of_name name → Passes is_of_name name
all_of_name [] h = absurd h
all_of_name (b ∷ bytes) h = (initial_of_name b h.0, h.1)

name_as_id : (name : List ℕ) → IsWord is_of_name name → IsWord is_of_id name
name_as_id [] h = h
name_as_id (b ∷ bytes) h = (h.0, passes_weaker is_of_name is_of_id name_of_id bytes h.1, h.2)

some_word : (p : ℕ → Bool) (word : List ℕ) → IsWord p word → eqb (length word) 0 ≡ false
some_word p [] h = absurd h
some_word p (b ∷ bytes) h = grind (arith, nat_tests)

some_escaped : (id : List ℕ) → IsWord is_of_id id → eqb (length (escaped id)) 0 ≡ false
some_escaped [] h = absurd h
some_escaped (b ∷ bytes) h = rw (initial_no_dash b h.0) (grind (arith, nat_tests))

or_bad : {o : Option Item} {item : Item} → o ≡ Some item → ok_or o Bad ≡ Ok item
or_bad {o} {item} e = ap (λ (o : Option Item). ok_or o Bad) e

-- words, and what stands behind them

what_at : (who : Option (List ℕ)) (name tail : List ℕ) → IsWord is_of_name name → prefix_len is_of_name tail ≡ 0 → what_of who (name ++ tail) ≡ word_of who name tail
what_at who name tail h stop = rw (name_len_of name tail h stop, take_at name tail (length name) refl, drop_at name tail (length name) refl) refl

event_at : (who : Option (List ℕ)) (name : List ℕ) (offset : ℤ) → IsEventName name → IsNear offset → what_of who (name ++ tail_text offset) ≡ Some (Event who name offset)
event_at who name offset h small = what_at who name (tail_text offset) h.word (no_name offset) ∙ rw (some_word is_of_name name h.word, h.not_begin, h.not_end, h.not_repeat, h.not_indefinite, tail_read offset small) refl

sync_at : (who : List ℕ) (edge : Edge) (offset : ℤ) → IsNear offset → what_of (Some who) (edge_text edge ++ tail_text offset) ≡ Some (Sync who edge offset)
sync_at who Begin offset small = what_at (Some who) (codes "begin") (tail_text offset) (refl, (refl, (refl, (refl, (refl, tt)))), omega arith) (no_name offset) ∙ rw (tail_read offset small) refl
sync_at who End offset small = what_at (Some who) (codes "end") (tail_text offset) (refl, (refl, (refl, tt)), omega arith) (no_name offset) ∙ rw (tail_read offset small) refl

sync_kept : (who : List ℕ) (edge : Edge) (offset : ℤ) → of_element who (edge_text edge ++ tail_text offset) ≡ ok_or (what_of (Some who) (edge_text edge ++ tail_text offset)) Bad
sync_kept who Begin offset = refl
sync_kept who End offset = refl

counted : (digits : List ℕ) → 48 < get_or digits 0 0 → 0 < length digits → length digits ≤ 9 → is_count digits ≡ true
counted [] large some few = absurd (omega arith)
counted (b ∷ digits) large some few = grind (arith, nat_tests)

pub count_read : (n : ℕ) → 0 < n → n < 1_000_000_000 → count_of (decimal n) ≡ Some n
count_read n some few = rw (counted (decimal n) (first_decimal n some (omega arith)) (decimal_nonempty n (omega arith)) (length-decimal-le 9 n (omega arith) few (omega arith))) (number_of_decimal n (omega arith))

digit_no_close : (b : ℕ) → is_ascii_digit b ≡ true → not (eqb b 41) ≡ true
digit_no_close b h = grind (arith, nat_tests)

repeat_at : (who : Option (List ℕ)) (n : ℕ) (offset : ℤ) → 0 < n → n < 1_000_000_000 → IsNear offset → repeat_of who (40 ∷ (decimal n ++ 41 ∷ tail_text offset)) ≡ Some (Repeat who n offset)
repeat_at who n offset some few small =
    let cut : cut_at 41 (decimal n ++ 41 ∷ tail_text offset) ≡ Some (decimal n, tail_text offset) = cut_front 41 (decimal n) (tail_text offset) (passes_weaker is_ascii_digit (λ b. not (eqb b 41)) digit_no_close (decimal n) (decimal_passes n (omega arith))) in
    rw (cut, count_read n some few, tail_read offset small) refl

-- items

named_item : (b : ℕ) (bytes : List ℕ) → is_initial b ≡ true → item_of (b ∷ bytes) ≡ named_of (b ∷ bytes)
named_item b bytes h = let t : (is_ascii_digit b || is_sign b) ≡ false = grind (arith, nat_tests) in rw t refl

reference_item : (who rest : List ℕ) → IsWord is_of_id who → item_of (escaped who ++ rest) ≡ named_of (escaped who ++ rest)
reference_item [] rest h = absurd h
reference_item (b ∷ bytes) rest h = rw (initial_no_dash b h.0) (named_item b (escaped bytes ++ rest) h.0)

reference_read : (who rest : List ℕ) → IsWord is_of_id who → item_of (escaped who ++ 46 ∷ rest) ≡ of_element who rest
reference_read who rest h =
    let plain : is_left_out (escaped who ++ 46 ∷ rest) ≡ false = left_in (escaped who) (46 ∷ rest) (escaped_passes is_shut of_id_shut refl who (all_of_id who h)) (refl, refl) in
    let other : bytes_eq (escaped who ++ 46 ∷ rest) (codes "indefinite") ≡ false = differs (codes "indefinite") (escaped who) 46 rest (refl, (refl, (refl, (refl, (refl, (refl, (refl, (refl, (refl, (refl, tt)))))))))) refl in
    let len : id_len true (escaped who ++ 46 ∷ rest) ≡ length (escaped who) = id_len_of who (46 ∷ rest) h refl in
    let named : subject_of (escaped who ++ 46 ∷ rest) (Some rest) ≡ of_element who rest = rw (len, take_at (escaped who) (46 ∷ rest) (length (escaped who)) refl, read_again who h) refl in
    let keyless : is_keyed (escaped who ++ 46 ∷ rest) ≡ false = no_key_in (escaped who) (46 ∷ rest) (escaped_passes is_shut of_id_shut refl who (all_of_id who h)) (refl, refl) in
    reference_item who (46 ∷ rest) h ∙ rw (plain, keyless, other, len, some_escaped who h, drop_at (escaped who) (46 ∷ rest) (length (escaped who)) refl) named

name_shut : (b : ℕ) → is_of_name b ≡ true → is_shut b ≡ true
name_shut b h = of_id_shut b (name_of_id b h)

other_tail : (name : List ℕ) (offset : ℤ) → bytes_eq name (codes "indefinite") ≡ false → bytes_eq (name ++ tail_text offset) (codes "indefinite") ≡ false
other_tail name (pos zero) h = rw (append-nil name) h
other_tail name (pos (suc n)) h = differs (codes "indefinite") name 43 (clock_text (suc n)) (refl, (refl, (refl, (refl, (refl, (refl, (refl, (refl, (refl, (refl, tt)))))))))) refl
other_tail name (negsuc n) h = differs (codes "indefinite") name 45 (clock_text (suc n)) (refl, (refl, (refl, (refl, (refl, (refl, (refl, (refl, (refl, (refl, tt)))))))))) refl

name_item : (name rest : List ℕ) → IsWord is_of_name name → item_of (name ++ rest) ≡ named_of (name ++ rest)
name_item [] rest h = absurd h
name_item (b ∷ bytes) rest h = named_item b (bytes ++ rest) h.0

event_read : (name : List ℕ) (offset : ℤ) → IsEventName name → IsNear offset → item_of (name ++ tail_text offset) ≡ Ok (Event None name offset)
event_read name offset h small =
    let plain : is_left_out (name ++ tail_text offset) ≡ false = left_in name (tail_text offset) (passes_weaker is_of_name is_shut name_shut name (all_of_name name h.word)) (tail_ends offset) in
    let keyless : is_keyed (name ++ tail_text offset) ≡ false = no_key_in name (tail_text offset) (passes_weaker is_of_name is_shut name_shut name (all_of_name name h.word)) (tail_ends offset) in
    let same : escaped name ≡ name = name_plain name (all_of_name name h.word) in
    let len : id_len true (name ++ tail_text offset) ≡ length name = subst (λ (t : List ℕ). id_len true (t ++ tail_text offset) ≡ length t) same (id_len_of name (tail_text offset) (name_as_id name h.word) (no_id offset)) in
    name_item name (tail_text offset) h.word
    ∙ rw (plain, keyless, other_tail name offset h.not_indefinite, len, some_word is_of_name name h.word, drop_at name (tail_text offset) (length name) refl, no_point offset) (or_bad (event_at None name offset h small))

name_kept : (who name : List ℕ) (offset : ℤ) → IsEventName name → of_element who (name ++ tail_text offset) ≡ ok_or (what_of (Some who) (name ++ tail_text offset)) Bad
name_kept who name offset h = rw (not_called (codes "marker(") name (tail_text offset) refl (passes_weaker is_of_name is_shut name_shut name (all_of_name name h.word)) (tail_ends offset)) refl

repeat_read : (rest : List ℕ) → item_of (codes "repeat(" ++ rest) ≡ ok_or (repeat_of None (40 ∷ rest)) Bad
repeat_read rest = refl

repeat_kept : (who rest : List ℕ) → of_element who (codes "repeat(" ++ rest) ≡ ok_or (repeat_of (Some who) (40 ∷ rest)) Bad
repeat_kept who rest = refl

regroup : (a b c d : List ℕ) → a ++ b ++ c ++ d ≡ a ++ (b ++ (c ++ d))
regroup a b c d = simp append_assoc

pub item_read : (item : Item) → Printable item → item_of (item_text item) ≡ Ok item
item_read (Offset offset) h = offset_read offset h
item_read (Sync who edge offset) h = reference_read who (edge_text edge ++ tail_text offset) h.0 ∙ sync_kept who edge offset ∙ or_bad (sync_at who edge offset h.1)
item_read (Event None name offset) h = event_read name offset h.1 h.2
item_read (Event (Some who) name offset) h = ap item_of (append_assoc (escaped who) (46 ∷ []) (name ++ tail_text offset)) ∙ reference_read who (name ++ tail_text offset) h.0 ∙ name_kept who name offset h.1 ∙ or_bad (event_at (Some who) name offset h.1 h.2)
item_read (Repeat None n offset) h = ap item_of (regroup (codes "repeat(") (decimal n) (codes ")") (tail_text offset)) ∙ repeat_read (decimal n ++ 41 ∷ tail_text offset) ∙ or_bad (repeat_at None n offset h.1 h.2 h.3)
item_read (Repeat (Some who) n offset) h =
    ap item_of (append_assoc (escaped who) (46 ∷ []) _ ∙ ap (λ (t : List ℕ). escaped who ++ 46 ∷ t) (regroup (codes "repeat(") (decimal n) (codes ")") (tail_text offset)))
    ∙ reference_read who (codes "repeat(" ++ (decimal n ++ 41 ∷ tail_text offset)) h.0 ∙ repeat_kept who (decimal n ++ 41 ∷ tail_text offset) ∙ or_bad (repeat_at (Some who) n offset h.1 h.2 h.3)
item_read (Key key offset) h =
    ap item_of (regroup (codes "accesskey(") (key ∷ []) (codes ")") (tail_text offset)) ∙ or_bad (rw (h.0, tail_read offset h.1) refl)
item_read Indefinite h = refl

-- three texts, appended one after another
pub in_a_row : (before one two three a b c : List ℕ) → one ≡ before ++ a → two ≡ one ++ b → three ≡ two ++ c → three ≡ before ++ (a ++ b ++ c)
in_a_row before one two three a b c first second third =
    third ∙ ap (λ t. t ++ c) (second ∙ ap (λ t. t ++ b) first) ∙ ap (λ t. t ++ c) (append_assoc before a b) ∙ append_assoc before (a ++ b) c
