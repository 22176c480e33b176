-- A rewritten item is read as the reference that it is.
use Rattle.std.proofs.Common.{◌≡◌, refl, sym, ◌∙◌, ap, subst, ℕ, suc, ◌+◌, ◌<◌, List, [], ◌∷◌, ◌++◌, length, ℤ, Bool, true, false, cond, arith, Ok, Err, length-append}
use Rattle.std.specs.Prelude.{Result, int_lt, ◌||◌, ◌-ℤ◌, nat_le, neg_ℤ}
use Rattle.std.specs.List.{list_all, prefix_len}
use Rattle.std.proofs.lemmas.Bool.{and_parts, leb-true, or_parts}
use Rattle.std.proofs.lemmas.Bool.Decides.{nat_tests}
use Rattle.std.proofs.lemmas.Int.{ints}
use Rattle.smil_model.specs.declared.times.TheConstants.{HORIZON}
use Rattle.smil_model.specs.declared.document.Edge.TheVariants.{Begin}
use Rattle.smil_model.specs.declared.document.Item.TheVariants.{Sync}
use Rattle.smil_model.specs.Times.{IsNear}
use Rattle.smil_model.specs.document.Words.{is_initial, is_of_id, is_word}
use Rattle.smil_grammar.specs.declared.fault.ItemFault.{ItemFault}
use Rattle.smil_grammar.specs.declared.fault.ItemFault.TheVariants as item
use Rattle.smil_grammar.specs.Items.{item_of}
use Rattle.smil_grammar.specs.Results.{◌>>=◌}
use Rattle.smil_grammar.specs.Spellings.{edge_text, escaped, item_text, tail_text}
use Rattle.smil_grammar.specs.Texts.{is_white, trim}
use Rattle.smil_lexis.proofs.TestedFronts.{Passes, passes_weaker, tested}
use Rattle.smil_lexis.proofs.TrimmedTexts.{is_inked}
use Rattle.smil_lexis.proofs.WordFronts.{IsWord}
use Rattle.smil_time_list.proofs.ListRoundTrip.{is_ink, item_ink}
use Rattle.smil_time_list.proofs.PrintableItems.{Printable}
use Rattle.smil_time_list.proofs.ItemRoundTrip.{item_read}
use Rattle.smil_wall.specs.declared.fault.WallFault.{WallFault}
use Rattle.smil_wall.specs.Rewriting.{at_place, in_place, is_wall, near, since}
use Rattle.smil_wall_laws.specs.Rewritten.{IsReference, RewrittenItemsAreRead}
use Rattle.smil_wall_laws.proofs.TrimmedText.{put_in_place}

id_word : (root : List ℕ) → is_word is_of_id root ≡ true → nat_le (length root) 64 ≡ true → IsWord is_of_id root
id_word [] h short = cc
id_word (b ∷ bytes) h short =
    let parts = and_parts (is_initial b) (list_all is_of_id bytes) h in
    (parts.0, tested is_of_id bytes parts.1, omega (arith, leb-true (suc (length bytes)) 64 short))

-- a number that is given is near
given_near : (z offset : ℤ) → near z ≡ Ok offset → IsNear offset
given_near z offset q = by_test (int_lt z (neg_ℤ HORIZON) || int_lt HORIZON z) refl q
  where
    by_test : (t : Bool) → (int_lt z (neg_ℤ HORIZON) || int_lt HORIZON z) ≡ t → cond t (Err item.Bad) (Ok z) ≡ Ok offset → IsNear offset
    by_test true e r = cc
    by_test false e r =
        let one : z ≡ offset = cc in
        let parts = or_parts (int_lt z (neg_ℤ HORIZON)) (int_lt HORIZON z) e in
        subst IsNear one (record { low = grind (arith, ints); high = grind (arith, ints) })

since_near : (r : Result ℤ ItemFault) (start offset : ℤ) → (r >>= λ at. near (at -ℤ start)) ≡ Ok offset → IsNear offset
since_near (Ok at) start offset q = given_near (at -ℤ start) offset q
since_near (Err e) start offset q = cc

ink_inked : (b : ℕ) → is_ink b ≡ true → is_inked b ≡ true
ink_inked b h = grind (arith, nat_tests)

if_wall : (t : Bool) (a b c : Result (List ℕ) WallFault) → t ≡ true → cond t a b ≡ c → a ≡ c
if_wall true a b c e q = q
if_wall false a b c e q = cc

pub items_read : RewrittenItemsAreRead
items_read root start place piece text id wall q = by_since (since start (trim piece)) refl (if_wall (is_wall (trim piece)) _ (Ok piece) (Ok text) wall q)
  where
    parts : (is_word is_of_id root ≡ true) × (nat_le (length root) 64 ≡ true)
    parts = and_parts (is_word is_of_id root) (nat_le (length root) 64) id

    by_since : (r : Result ℤ ItemFault) → since start (trim piece) ≡ r → (at_place (place + prefix_len is_white piece) r >>= λ offset. Ok (in_place piece (item_text (Sync root Begin offset)))) ≡ Ok text → IsReference root start piece text
    by_since (Ok offset) e given =
        let same : in_place piece (item_text (Sync root Begin offset)) ≡ text = cc in
        let may : Printable (Sync root Begin offset) = (id_word root parts.0 parts.1, since_near _ start offset e) in
        let inked : Passes is_inked (item_text (Sync root Begin offset)) = passes_weaker is_ink is_inked ink_inked (item_text (Sync root Begin offset)) (item_ink (Sync root Begin offset) may) in
        let some : 0 < length (item_text (Sync root Begin offset)) = omega (arith, length-append (escaped root) (46 ∷ (edge_text Begin ++ tail_text offset))) in
        record {
          offset = offset;
          since_is = e;
          read = ap (λ t. item_of (trim t)) (sym same) ∙ ap item_of (put_in_place piece (item_text (Sync root Begin offset)) inked some) ∙ item_read (Sync root Begin offset) may;
        }
    by_since (Err item.Bad) e given = cc
    by_since (Err item.Unsupported) e given = cc
    by_since (Err item.Memory) e given = cc
