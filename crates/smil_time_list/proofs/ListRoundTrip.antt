-- A written list is read as the same items, and each list that is read can be written.
use Rattle.std.proofs.Common.{◌≡◌, ℕ, zero, suc, ◌+◌, ◌≤◌, Bool, true, false, eqb, ltb, ◌||◌, List, [], ◌∷◌, ◌++◌, length, map, Option, Some, None, Result, Ok, Err, refl, ap, subst, ◌∙◌, arith, decimal, append_assoc}
use Rattle.std.specs.Prelude.{ℤ, pos, negsuc, codes, IfOk, All}
use Rattle.std.specs.Char.{is_ascii_digit}
use Rattle.std.specs.List.{AllByRecursion, prefix_len}
use Rattle.std.proofs.lemmas.Bool.{cond_both, le-ltb, ltb-false, false≢true}
use Rattle.std.proofs.lemmas.Bool.Decides.{nat_tests}
use Rattle.std.proofs.lemmas.List.Elements.{All-from_recursion, recursion_from_All, All-weaker}
use Rattle.std.proofs.lemmas.List.Splits.{slice_split_none, slice_split_at, length-slice_split}
use Rattle.smil_model.specs.Times.{IsNear}
use Rattle.smil_model.specs.declared.document.Item.{Item}
use Rattle.smil_model.specs.declared.document.Item.TheVariants.{Offset, Sync, Event, Repeat, Key, Indefinite}
use Rattle.smil_model.specs.declared.document.Edge.TheVariants.{Begin, End}
use Rattle.smil_grammar.specs.declared.fault.ItemFault.{ItemFault}
use Rattle.smil_grammar.specs.declared.fault.ItemFault.TheVariants as fault
use Rattle.smil_grammar.specs.declared.fault.ListFault.{ListFault}
use Rattle.smil_grammar.specs.declared.fault.ListFault.TheVariants.{TooManyItems}
use Rattle.smil_grammar.specs.Texts.{is_white, trim}
use Rattle.smil_grammar.specs.Words.{is_of_name, is_of_id}
use Rattle.smil_model.specs.document.Words.{is_key}
use Rattle.smil_grammar.specs.Results.{◌>>=◌}
use Rattle.smil_grammar.specs.Clock.{clock_text}
use Rattle.smil_grammar.specs.Items.{item_of, IsItem}
use Rattle.smil_grammar.specs.Lists.{item_at, piece_at, items_from, item_pieces, few_items, is_plain, plain_at, first_place, list_of, IsList, GivesList}
use Rattle.smil_grammar.specs.Spellings.{escaped, of_who, tail_text, item_text, list_text, CanWrite}
use Rattle.smil_lexis.proofs.TestedFronts.{Passes, passes_weaker, passes_on}
use Rattle.smil_lexis.proofs.DecimalRoundTrip.{decimal_passes}
use Rattle.smil_lexis.proofs.TrimmedTexts.{is_inked, untrimmed}
use Rattle.smil_lexis.proofs.WordFronts.{IsWord, all_of_id}
use Rattle.smil_time_list.proofs.PrintableItems.{IsWho, Printable, size, reading_gives, item_printable, can_write}
use Rattle.smil_time_list.proofs.ItemRoundTrip.{all_of_name, escaped_passes, item_read}

-- a byte of a printed item: one of an access key, or a backslash; so neither white space nor `;`

abbrev pub is_ink : ℕ → Bool
is_ink b = is_key b || eqb b 92

pub id_ink : (b : ℕ) → is_of_id b ≡ true → is_ink b ≡ true
id_ink b h = grind (arith, nat_tests)

name_ink : (b : ℕ) → is_of_name b ≡ true → is_ink b ≡ true
name_ink b h = grind (arith, nat_tests)

pub digit_ink : (b : ℕ) → is_ascii_digit b ≡ true → is_ink b ≡ true
digit_ink b h = grind (arith, nat_tests)

key_ink : (b : ℕ) → is_key b ≡ true → is_ink b ≡ true
key_ink b h = grind (arith, nat_tests)

pub number_ink : (n : ℕ) → n ≤ 1_000_000_000_000 → Passes is_ink (decimal n)
number_ink n le = passes_weaker is_ascii_digit is_ink digit_ink (decimal n) (decimal_passes n (omega arith))

pub clock_ink : (n : ℕ) → n ≤ 1_000_000_000_000 → Passes is_ink (clock_text n)
clock_ink n le = passes_on is_ink (decimal n) (codes "ms") (number_ink n le) (refl, (refl, tt))

tail_ink : (offset : ℤ) → IsNear offset → Passes is_ink (tail_text offset)
tail_ink (pos zero) h = tt
tail_ink (pos (suc n)) h = (refl, clock_ink (suc n) (size (pos (suc n)) h))
tail_ink (negsuc n) h = (refl, clock_ink (suc n) (size (negsuc n) h))

id_inked : (id text : List ℕ) → IsWord is_of_id id → Passes is_ink text → Passes is_ink (escaped id ++ text)
id_inked id text h k = passes_on is_ink (escaped id) text (escaped_passes is_ink id_ink refl id (all_of_id id h)) k

who_inked : (who : Option (List ℕ)) (text : List ℕ) → IsWho who → Passes is_ink text → Passes is_ink (of_who who ++ text)
who_inked None text h k = k
who_inked (Some id) text h k = rw (append_assoc (escaped id) (46 ∷ []) text) (id_inked id (46 ∷ text) h (refl, k))

pub item_ink : (item : Item) → Printable item → Passes is_ink (item_text item)
item_ink (Offset (pos n)) h = clock_ink n (size (pos n) h)
item_ink (Offset (negsuc n)) h = (refl, clock_ink (suc n) (size (negsuc n) h))
item_ink (Sync who Begin offset) h = id_inked who _ h.0 (refl, (refl, (refl, (refl, (refl, (refl, tail_ink offset h.1))))))
item_ink (Sync who End offset) h = id_inked who _ h.0 (refl, (refl, (refl, (refl, tail_ink offset h.1))))
item_ink (Event who name offset) h = who_inked who _ h.0 (passes_on is_ink name _ (passes_weaker is_of_name is_ink name_ink name (all_of_name name h.1.word)) (tail_ink offset h.2))
item_ink (Repeat who n offset) h = who_inked who _ h.0 (passes_on is_ink (codes "repeat(" ++ decimal n ++ codes ")") (tail_text offset) (passes_on is_ink (codes "repeat(" ++ decimal n) (codes ")") (refl, (refl, (refl, (refl, (refl, (refl, (refl, number_ink n (omega arith)))))))) (refl, tt)) (tail_ink offset h.3))
item_ink (Key key offset) h =
    passes_on is_ink (codes "accesskey(" ++ (key ∷ []) ++ codes ")") (tail_text offset)
    (passes_on is_ink (codes "accesskey(" ++ (key ∷ [])) (codes ")")
    (passes_on is_ink (codes "accesskey(") (key ∷ []) (refl, (refl, (refl, (refl, (refl, (refl, (refl, (refl, (refl, (refl, tt)))))))))) (key_ink key h.0, tt)) (refl, tt))
    (tail_ink offset h.1)
item_ink Indefinite h = (refl, (refl, (refl, (refl, (refl, (refl, (refl, (refl, (refl, (refl, tt))))))))))

ink_no_white : (b : ℕ) → is_ink b ≡ true → is_white b ≡ false
ink_no_white b h = grind (arith, nat_tests)

ink_inked : (b : ℕ) → is_ink b ≡ true → is_inked b ≡ true
ink_inked b h = rw (ink_no_white b h) refl

ink_no_semicolon : (b : ℕ) → is_ink b ≡ true → eqb b 59 ≡ false
ink_no_semicolon b h = grind (arith, nat_tests)

-- the pieces of a written list are its items' spellings

abbrev Printables : List Item → Type 0
Printables items = AllByRecursion Printable items

apart : (item : Item) → Printable item → All (λ b. eqb b 59 ≡ false) (item_text item)
apart item h = All-weaker (λ b. is_ink b ≡ true) (λ b. eqb b 59 ≡ false) ink_no_semicolon (item_text item) (All-from_recursion (λ b. is_ink b ≡ true) (item_text item) (item_ink item h))

pieces_again : (item : Item) (items : List Item) → Printables (item ∷ items) → item_pieces (list_text (item ∷ items)) ≡ map item_text (item ∷ items)
pieces_again item [] h = slice_split_none (λ b. eqb b 59) (item_text item) (apart item h.0)
pieces_again item (next ∷ items) h = slice_split_at (λ b. eqb b 59) (item_text item) 59 (list_text (next ∷ items)) (apart item h.0) refl ∙ ap (λ (t : List (List ℕ)). item_text item ∷ t) (pieces_again next items h.1)

items_again : (first : Option ℕ) (place : ℕ) (items : List Item) → Printables items → items_from first place (map item_text items) ≡ Ok items
items_again first place [] h = refl
items_again first place (item ∷ items) h = rw (untrimmed (item_text item) (passes_weaker is_ink is_inked ink_inked (item_text item) (item_ink item h.0)), item_read item h.0, items_again first (place + length (item_text item) + 1) items h.1) refl

length_map : (items : List Item) → length (map item_text items) ≡ length items
length_map [] = refl
length_map (item ∷ items) = omega (arith, length_map items)

few_again : (first : Option ℕ) (items : List Item) → 1 ≤ length items → length items ≤ 32 → Printables items → few_items first (list_text items) ≡ Ok items
few_again first [] some few h = absurd (omega arith)
few_again first (item ∷ items) some few h =
    let count : ltb 32 (length (map item_text (item ∷ items))) ≡ false = le-ltb _ _ (omega (arith, length_map (item ∷ items))) in
    rw (pieces_again item items h, count) (items_again first 0 (item ∷ items) h)

printables : (items : List Item) → All IsItem items → Printables items
printables items h = recursion_from_All Printable items (All-weaker IsItem Printable item_printable items h)

pub list_read : (seq_child : Bool) (items : List Item) → IsList seq_child items → list_of seq_child (list_text items) ≡ Ok items
list_read false items h = few_again None items h.some h.few (printables items h.each)
list_read true items h = rw (few_again (Some (first_place (list_text items))) items h.some h.few (printables items h.each), h.plain refl) refl

-- what a text is read as

abbrev AreRead : ℕ → List Item → Type 0
AreRead n items = (Printables items) × (length items ≡ n)

place_gives : (first : Option ℕ) (place : ℕ) (r : Result Item ItemFault) → IfOk r Printable → IfOk (item_at first place r) Printable
place_gives first place (Ok item) h = h
place_gives first place (Err fault.Bad) h = tt
place_gives first place (Err fault.Unsupported) h = tt
place_gives first place (Err fault.Memory) h = tt

joined : (n : ℕ) (r : Result Item ListFault) (rest : Result (List Item) ListFault) → IfOk r Printable → IfOk rest (AreRead n) → IfOk (r >>= λ item. rest >>= λ items. Ok (item ∷ items)) (AreRead (suc n))
joined n (Ok item) (Ok items) h k = ((h, k.0), omega (arith, k.1))
joined n (Ok item) (Err e) h k = tt
joined n (Err e) rest h k = tt

items_give : (first : Option ℕ) (place : ℕ) (pieces : List (List ℕ)) → IfOk (items_from first place pieces) (AreRead (length pieces))
items_give first place [] = (tt, refl)
items_give first place (piece ∷ pieces) =
    joined (length pieces) (piece_at first place piece) (items_from first (place + length piece + 1) pieces) (place_gives first (place + prefix_len is_white piece) (item_of (trim piece)) (reading_gives (trim piece)))
    (items_give first (place + length piece + 1) pieces)

abbrev AreFew : List Item → Type 0
AreFew items = (Printables items) × (1 ≤ length items) × (length items ≤ 32)

counted : (n : ℕ) (r : Result (List Item) ListFault) → 1 ≤ n → n ≤ 32 → IfOk r (AreRead n) → IfOk r AreFew
counted n (Ok items) some few h = (h.0, omega (arith, h.1), omega (arith, h.1))
counted n (Err e) some few h = tt

few_give : (first : Option ℕ) (text : List ℕ) → IfOk (few_items first text) AreFew
few_give first text = cond_both (ltb 32 (length (item_pieces text))) (Err TooManyItems) (items_from first 0 (item_pieces text)) (λ r. IfOk r AreFew) (λ e. tt)
    (λ e. counted (length (item_pieces text)) (items_from first 0 (item_pieces text)) (omega (arith, length-slice_split (λ b. eqb b 59) text)) (ltb-false _ _ e) (items_give first 0 (item_pieces text)))

abbrev ArePlain : List Item → Type 0
ArePlain items = (AreFew items) × (is_plain items ≡ true)

plain_give : (place : ℕ) (r : Result (List Item) ListFault) → IfOk r AreFew → IfOk (r >>= plain_at place) ArePlain
plain_give place (Ok items) h = cond_both (is_plain items) (Ok items) _ (λ r. IfOk r ArePlain) (λ e. (h, e)) (λ e. tt)
plain_give place (Err e) h = tt

items_are : (items : List Item) → Printables items → All IsItem items
items_are items h = All-weaker Printable IsItem (λ item k. (item_text item, item_read item k)) items (All-from_recursion Printable items h)

pub list_is : (seq_child : Bool) (text : List ℕ) (items : List Item) → list_of seq_child text ≡ Ok items → IsList seq_child items
list_is false text items e = let h : AreFew items = subst (λ (r : Result (List Item) ListFault). IfOk r AreFew) e (few_give None text) in
    record { each = items_are items h.0; some = h.1; few = h.2; plain = λ f. absurd (false≢true f) }
list_is true text items e = let h : ArePlain items = subst (λ (r : Result (List Item) ListFault). IfOk r ArePlain) e (plain_give (first_place text) (few_items (Some (first_place text)) text) (few_give (Some (first_place text)) text)) in
    record { each = items_are items h.0.0; some = h.0.1; few = h.0.2; plain = λ f. h.1 }

pub read_can_write : (seq_child : Bool) (items : List Item) → IsList seq_child items → All CanWrite items
read_can_write seq_child items h = All-weaker IsItem CanWrite (λ item k. can_write item (item_printable item k)) items h.each

-- what a call gave that answers a reading
pub given_can_write : (seq_child : Bool) (text : List ℕ) (r : Result (List Item) ListFault) → GivesList r (list_of seq_child text) → IfOk r (All CanWrite)
given_can_write seq_child text (Ok items) h = read_can_write seq_child items (list_is seq_child text items h)
given_can_write seq_child text (Err e) h = tt
