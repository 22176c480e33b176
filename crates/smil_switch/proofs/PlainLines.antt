-- A line in which no `y` stands names no test, since the name of each has one.
use Rattle.std.proofs.Common.{◌≡◌, ℕ, zero, suc, ◌+◌, ◌-◌, Bool, true, false, not, ◌&&◌, eqb, ltb, List, [], ◌∷◌, length, take, drop, Option, Some, None, Ok, refl, sym, ap, ◌∙◌}
use Rattle.std.specs.Prelude.{IfSome, bytes_eq, codes}
use Rattle.std.specs.List.{prefix_len, list_all, list_any, slice_split, onto_first}
use Rattle.std.proofs.lemmas.Bool.{cond_both, or_parts}
use Rattle.std.proofs.lemmas.Slice.Eq.{bytes_eq-Decides}
use Rattle.smil_grammar.specs.Nodes.{is_space, is_of_kind, is_named, WrittenAttr, attribute_at, attributes_at, with_written, shaped, shape_of}
use Rattle.smil_switch.specs.declared.chosen.Chosen.TheVariants.{Kept}
use Rattle.smil_switch.specs.declared.chosen.Below.{Below}
use Rattle.smil_switch.specs.declared.chosen.Below.TheVariants.{Open}
use Rattle.smil_switch.specs.Preferences.{Wanted, is_test, is_other_test}
use Rattle.smil_switch.specs.Choices.{Choice, Seen, is_y, IsPlain, behind_kept, raised, tests_repeat, attributes_hold, tested, with_levels, without_tests}

-- ---- parts of a text without the byte

pub any_take : (n : ℕ) (text : List ℕ) → list_any is_y text ≡ false → list_any is_y (take n text) ≡ false
any_take zero text e = refl
any_take (suc n) [] e = refl
any_take (suc n) (b ∷ text) e =
    let p = or_parts (is_y b) (list_any is_y text) e in
    rw (p.0, any_take n text p.1) refl

pub any_drop : (n : ℕ) (text : List ℕ) → list_any is_y text ≡ false → list_any is_y (drop n text) ≡ false
any_drop zero text e = e
any_drop (suc n) [] e = refl
any_drop (suc n) (b ∷ text) e = any_drop n text (or_parts (is_y b) (list_any is_y text) e).1

-- pieces without the byte
abbrev NoneHas : List (List ℕ) → Type 0
NoneHas [] = Unit {0}
NoneHas (piece ∷ pieces) = (list_any is_y piece ≡ false) × NoneHas pieces

onto_none : (b : ℕ) (pieces : List (List ℕ)) → is_y b ≡ false → NoneHas pieces → NoneHas (onto_first b pieces)
onto_none b [] e h = (rw e refl, tt)
onto_none b (piece ∷ pieces) e h = (rw (e, h.0) refl, h.1)

split_none : (text : List ℕ) → list_any is_y text ≡ false → NoneHas (slice_split (λ b. eqb b 34) text)
split_none [] e = (refl, tt)
split_none (b ∷ text) e =
    let p = or_parts (is_y b) (list_any is_y text) e in
    cond_both (eqb b 34) ([] ∷ slice_split (λ b. eqb b 34) text) (onto_first b (slice_split (λ b. eqb b 34) text)) NoneHas
    (λ at. (refl, split_none text p.1))
    (λ at. onto_none b (slice_split (λ b. eqb b 34) text) p.0 (split_none text p.1))

-- ---- names without the byte

-- an attribute whose name has none
abbrev HasNone : WrittenAttr → Type 0
HasNone written = list_any is_y written.name ≡ false

abbrev AllNone : List WrittenAttr → Type 0
AllNone [] = Unit {0}
AllNone (written ∷ others) = HasNone written × AllNone others

written_none : (place : ℕ) (lead value : List ℕ) → list_any is_y lead ≡ false → IfSome (attribute_at place lead value) HasNone
written_none place lead value e =
    let run : List ℕ = drop (prefix_len is_space lead) lead in
    let none : list_any is_y run ≡ false = any_drop (prefix_len is_space lead) lead e in
    cond_both (ltb 0 (prefix_len is_space lead) && is_named run) (Some (record { name = take (length run - 1) run; name_place = place + prefix_len is_space lead; value = value; value_place = place + length lead + 1 })) None (λ r. IfSome r HasNone)
    (λ at. any_take (length run - 1) run none)
    (λ at. tt)

with_none : (w : Option WrittenAttr) (ws : Option (List WrittenAttr)) → IfSome w HasNone → IfSome ws AllNone → IfSome (with_written w ws) AllNone
with_none None None h k = tt
with_none None (Some ws) h k = tt
with_none (Some w) None h k = tt
with_none (Some w) (Some ws) h k = (h, k)

attributes_none : (place : ℕ) (pieces : List (List ℕ)) → NoneHas pieces → IfSome (attributes_at place pieces) AllNone
attributes_none place [] h = tt
attributes_none place (last ∷ []) h = cond_both (list_all is_space last) (Some []) None (λ r. IfSome r AllNone) (λ at. tt) (λ at. tt)
attributes_none place (lead ∷ value ∷ pieces) h =
    with_none (attribute_at place lead value) (attributes_at (place + length lead + length value + 2) pieces)
    (written_none place lead value h.0)
    (attributes_none (place + length lead + length value + 2) pieces h.1.1)

-- ---- what such a name isn't

not_so : (b : Bool) → (b ≡ true → ⊥) → b ≡ false
not_so true never = absurd (never refl)
not_so false never = refl

other_word : (name word : List ℕ) → list_any is_y name ≡ false → list_any is_y word ≡ true → bytes_eq name word ≡ false
other_word name word none some = not_so (bytes_eq name word) (λ same. let wrong : list_any is_y name ≡ true = ap (list_any is_y) ((bytes_eq-Decides name word).0 same) ∙ some in cc)

no_test : (name : List ℕ) → list_any is_y name ≡ false → is_test name ≡ false
no_test name none =
    rw (
      other_word name (codes "systemBitrate") none refl,
      other_word name (codes "systemCaptions") none refl,
      other_word name (codes "systemAudioDesc") none refl,
      other_word name (codes "systemLanguage") none refl,
      other_word name (codes "systemScreenSize") none refl,
      other_word name (codes "systemScreenDepth") none refl,
    ) refl

no_other_test : (name : List ℕ) → list_any is_y name ≡ false → is_other_test name ≡ false
no_other_test name none =
    rw (
      other_word name (codes "systemCPU") none refl,
      other_word name (codes "systemOperatingSystem") none refl,
      other_word name (codes "systemRequired") none refl,
      other_word name (codes "systemComponent") none refl,
      other_word name (codes "systemOverdubOrSubtitle") none refl,
    ) refl

-- ---- a line that isn't a switch's

-- a front of a text is its front of that length
same_front : (n : ℕ) (text : List ℕ) → take (length (take n text)) text ≡ take n text
same_front zero text = refl
same_front (suc n) [] = refl
same_front (suc n) (b ∷ text) = ap (λ (l : List ℕ). b ∷ l) (same_front n text)

no_switch : (n : ℕ) (text : List ℕ) → bytes_eq (take 6 text) (codes "switch") ≡ false → bytes_eq (take n text) (codes "switch") ≡ false
no_switch n text other =
    not_so (bytes_eq (take n text) (codes "switch")) (λ is.
    let same : take n text ≡ codes "switch" = (bytes_eq-Decides (take n text) (codes "switch")).0 is in
    let front : take 6 text ≡ codes "switch" = ap (λ (l : List ℕ). take (length l) text) (sym same) ∙ same_front n text ∙ same in
    let wrong : bytes_eq (take 6 text) (codes "switch") ≡ true = ap (λ (l : List ℕ). bytes_eq l (codes "switch")) front in
    cc)

-- ---- the line

none_repeats : (attributes : List WrittenAttr) → AllNone attributes → tests_repeat attributes ≡ false
none_repeats [] h = refl
none_repeats (w ∷ ws) h = rw (no_test w.name h.0, none_repeats ws h.1) refl

all_hold : (wanted : Wanted) (attributes : List WrittenAttr) → AllNone attributes → attributes_hold wanted false attributes ≡ Ok true
all_hold wanted [] h = refl
all_hold wanted (w ∷ ws) h = rw (no_test w.name h.0, no_other_test w.name h.0, all_hold wanted ws h.1) refl

all_stay : (spaces from : ℕ) (attributes : List WrittenAttr) (line : List ℕ) → AllNone attributes → without_tests spaces from attributes line ≡ drop from line
all_stay spaces from [] line h = refl
all_stay spaces from (w ∷ ws) line h = rw (no_test w.name h.0) (all_stay spaces from ws line h.1)

shape_plain : (kind : List ℕ) (attributes : List WrittenAttr) → bytes_eq kind (codes "switch") ≡ false → AllNone attributes → IsPlain (Some (record { kind = kind; attributes = attributes }))
shape_plain kind attributes other none = record {
  single = rw other (none_repeats attributes none);
  holds = λ wanted. rw other (all_hold wanted attributes none);
  other = other;
  kept = λ spaces line. all_stay spaces 0 attributes line none;
}

no_shape : IsPlain None
no_shape = record { single = refl; holds = λ wanted. refl; other = refl; kept = λ spaces line. refl }

shaped_plain : (kind : List ℕ) (attributes : Option (List WrittenAttr)) → bytes_eq kind (codes "switch") ≡ false → IfSome attributes AllNone → IsPlain (shaped kind attributes)
shaped_plain kind None other h = no_shape
shaped_plain kind (Some attributes) other h = cond_both _ (Some (record { kind = kind; attributes = attributes })) None IsPlain (λ e. shape_plain kind attributes other h) (λ e. no_shape)

pub line_plain : (text : List ℕ) → bytes_eq (take 6 text) (codes "switch") ≡ false → list_any is_y text ≡ false → IsPlain (shape_of text)
line_plain text other none =
    let n : ℕ = prefix_len is_of_kind text in
    shaped_plain (take n text) (attributes_at n (slice_split (λ b. eqb b 34) (drop n text))) (no_switch n text other)
    (attributes_none n (slice_split (λ b. eqb b 34) (drop n text)) (split_none (drop n text) (any_drop n text none)))

-- such a line is kept as it is
pub plain_kept : (c : Choice) (depth : ℕ) (parent : Below) (line : Seen) → IsPlain line.shape
    → tested c depth parent line ≡ Ok (record (with_levels c depth (behind_kept parent) Open) { line = line.line }, Kept (raised c depth))
plain_kept c depth parent line plain = rw (plain.single, plain.holds c.wanted, plain.other, plain.kept line.spaces line.line) refl

pub is_not : (b : Bool) → not b ≡ true → b ≡ false
is_not true e = absurd cc
is_not false e = refl
