-- Ids, names of attributes and kept texts are read again, as values of attributes.
use Rattle.std.proofs.Common.{◌≡◌, ℕ, ◌+◌, Bool, true, false, not, eqb, ltb, ◌&&◌, List, [], ◌∷◌, length, take, Some, refl, subst, arith}
use Rattle.std.specs.Prelude.{IfSome}
use Rattle.std.specs.List.{prefix_len, list_all}
use Rattle.std.proofs.lemmas.Bool.{cond_both, and_parts, eqb-true, ltb-false}
use Rattle.std.proofs.lemmas.Bool.Decides.{nat_tests}
use Rattle.std.proofs.lemmas.List.{take_all}
use Rattle.smil_grammar.specs.Texts.{trim}
use Rattle.smil_model.specs.declared.limits.TheConstants.{ID_BYTES}
use Rattle.smil_grammar.specs.Words.{is_initial, is_of_id, short_len, id_len}
use Rattle.smil_model.specs.document.Words.{is_word, is_of_attribute, is_attribute_name}
use Rattle.smil_grammar.specs.Values.{id_of, kept_of, attribute_name_of}
use Rattle.smil_lexis.proofs.TestedFronts.{Passes, tested, passes_weaker}
use Rattle.smil_lexis.proofs.WordFronts.{IsWord, all_of_id, passes_taken}
use Rattle.smil_lexis.proofs.TrimmedTexts.{is_inked, untrimmed}
use Rattle.smil_attrs.proofs.ReadParts.{own_where}

id_inked : (b : ℕ) → is_of_id b ≡ true → is_inked b ≡ true
id_inked b h = grind (arith, nat_tests)

all_passes : (p : ℕ → Bool) (text : List ℕ) → prefix_len p text ≡ length text → Passes p text
all_passes p text e = let all : take (prefix_len p text) text ≡ text = take_all (prefix_len p text) text (omega arith) in subst (Passes p) all (passes_taken p text)

pub id_untrimmed : (text : List ℕ) → IsWord is_of_id text → trim text ≡ text
id_untrimmed text h = untrimmed text (passes_weaker is_of_id is_inked id_inked text (all_of_id text h))

-- all of a text is an id
pub whole_id : (text : List ℕ) → (not (eqb (length text) 0) && eqb (id_len false text) (length text)) ≡ true → IsWord is_of_id text
whole_id text e = let parts = and_parts (not (eqb (length text) 0)) (eqb (id_len false text) (length text)) e in by text parts.0 (eqb-true _ _ parts.1)
  where
    none : (b : ℕ) (bytes : List ℕ) → short_len ID_BYTES 0 0 ≡ length (b ∷ bytes) → ⊥
    none b bytes k = omega arith

    by : (text : List ℕ) → not (eqb (length text) 0) ≡ true → id_len false text ≡ length text → IsWord is_of_id text
    by [] some e = absurd cc
    by (b ∷ bytes) some e =
        cond_both (is_initial b) (1 + prefix_len is_of_id bytes) 0 (λ n. short_len ID_BYTES n n ≡ length (b ∷ bytes) → IsWord is_of_id (b ∷ bytes))
        (λ i k. cond_both (ltb 64 (1 + prefix_len is_of_id bytes)) 0 (1 + prefix_len is_of_id bytes) (λ n. n ≡ length (b ∷ bytes) → IsWord is_of_id (b ∷ bytes))
        (λ t m. absurd (omega arith)) (λ t m. (i, all_passes is_of_id bytes (omega arith), omega (arith, ltb-false _ _ t))) k)
        (λ i k. absurd (none b bytes k)) e

pub id_passes : (text : List ℕ) → IfSome (id_of text) (Passes is_of_id)
id_passes text = own_where (Passes is_of_id) _ text (λ e. all_of_id text (whole_id text e))

-- an id that is read again, and has no white space at its ends
abbrev pub IsWholeId : List ℕ → Type 0
IsWholeId id = (id_of id ≡ Some id) × (trim id ≡ id)

pub id_whole : (text : List ℕ) → IfSome (id_of text) IsWholeId
id_whole text = own_where IsWholeId _ text (λ e. (rw e refl, id_untrimmed text (whole_id text e)))

initial_of_attribute : (b : ℕ) → is_initial b ≡ true → is_of_attribute b ≡ true
initial_of_attribute b h = grind (arith, nat_tests)

attribute_inked : (b : ℕ) → is_of_attribute b ≡ true → is_inked b ≡ true
attribute_inked b h = grind (arith, nat_tests)

name_of_attribute : (text : List ℕ) → is_attribute_name text ≡ true → Passes is_of_attribute text
name_of_attribute [] e = tt
name_of_attribute (b ∷ text) e =
    let parts = and_parts (is_initial b) (list_all is_of_attribute text) (and_parts (is_word is_of_attribute (b ∷ text)) _ e).0 in
    (initial_of_attribute b parts.0, tested is_of_attribute text parts.1)

pub attribute_name_passes : (text : List ℕ) → IfSome (attribute_name_of text) (Passes is_of_attribute)
attribute_name_passes text = own_where (Passes is_of_attribute) _ text (name_of_attribute text)

-- the same of a name of an attribute
abbrev pub IsWholeName : List ℕ → Type 0
IsWholeName name = (attribute_name_of name ≡ Some name) × (trim name ≡ name)

pub attribute_name_whole : (text : List ℕ) → IfSome (attribute_name_of text) IsWholeName
attribute_name_whole text = own_where IsWholeName _ text (λ e. (rw e refl, untrimmed text (passes_weaker is_of_attribute is_inked attribute_inked text (name_of_attribute text e))))

-- and of a text that is kept
abbrev pub IsWholeText : List ℕ → Type 0
IsWholeText kept = kept_of kept ≡ Some kept

pub kept_whole : (text : List ℕ) → IfSome (kept_of text) IsWholeText
kept_whole text = own_where IsWholeText _ text (λ e. rw e refl)
