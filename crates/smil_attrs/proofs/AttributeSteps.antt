-- Attributes of a line one by one.
use Rattle.std.proofs.Common.{◌≡◌, ℕ, ◌+◌, ◌<◌, Bool, true, false, cond, eqb, ltb, List, [], ◌∷◌, length, Option, Some, None, refl, subst, ◌∙◌, arith, inl, inr}
use Rattle.std.specs.Prelude.{MatchOption}
use Rattle.std.specs.List.{list_all, position_or_len}
use Rattle.std.proofs.lemmas.Bool.{and_right, cases_lt, le-ltb}
use Rattle.std.proofs.lemmas.Bool.Decides.{nat_tests}
use Rattle.smil_grammar.specs.Texts.{cut_at}
use Rattle.smil_grammar.specs.Nodes.{WrittenAttr, is_space, attribute_at, attributes_at, quote_pieces, with_written}
use Rattle.smil_lexis.proofs.CutPieces.{cut_pieces}

-- what is left where no attribute stands
abbrev pub ended : List ℕ → Option (List WrittenAttr)
ended text = cond (list_all is_space text) (Some []) None

quote_no_space : (b : ℕ) → eqb b 34 ≡ true → eqb b 32 ≡ false
quote_no_space b e = grind (arith, nat_tests)

-- a text with a quote isn't of spaces alone
quoted : (text : List ℕ) → position_or_len (λ b. eqb b 34) text < length text → list_all is_space text ≡ false
quoted [] lt = absurd (omega arith)
quoted (b ∷ text) lt = either b text (eqb b 34) refl lt (quoted text)
  where
    either : (b : ℕ) (text : List ℕ) (t : Bool) → eqb b 34 ≡ t → position_or_len (λ b. eqb b 34) (b ∷ text) < length (b ∷ text) → (position_or_len (λ b. eqb b 34) text < length text → list_all is_space text ≡ false) → list_all is_space (b ∷ text) ≡ false
    either b text true e lt rest = rw (quote_no_space b e) refl
    either b text false e lt rest = let more : position_or_len (λ b. eqb b 34) (b ∷ text) ≡ 1 + position_or_len (λ b. eqb b 34) text = rw e refl in and_right (eqb b 32) (list_all is_space text) (rest (omega arith))

cut_not_spaces : (text : List ℕ) (cut : List ℕ × List ℕ) → cut_at 34 text ≡ Some cut → list_all is_space text ≡ false
cut_not_spaces text cut e =
    elim (cases_lt (position_or_len (λ b. eqb b 34) text) (length text)) [
      | inl lt ↦ quoted text lt
      | inr le ↦ let t : ltb (position_or_len (λ b. eqb b 34) text) (length text) ≡ false = le-ltb _ _ le in let none : cut_at 34 text ≡ None = rw t refl in absurd cc
    ]

abbrev Says : List ℕ → Option (List ℕ × List ℕ) → Type 0
Says text found = MatchOption found (quote_pieces text ≡ text ∷ []) (λ cut. (quote_pieces text ≡ cut.0 ∷ quote_pieces cut.1) × (length cut.0 + 1 + length cut.1 ≡ length text))

says : (text : List ℕ) (found : Option (List ℕ × List ℕ)) → cut_at 34 text ≡ found → Says text found
says text found e = subst (Says text) e (cut_pieces 34 text)

pub no_more : (place : ℕ) (text : List ℕ) → cut_at 34 text ≡ None → attributes_at place (quote_pieces text) ≡ ended text
no_more place text e = rw (says text None e) refl

nothing : (w : Option WrittenAttr) → with_written w None ≡ None
nothing None = refl
nothing (Some w) = refl

pub half : (place : ℕ) (text lead rest : List ℕ) → cut_at 34 text ≡ Some (lead, rest) → cut_at 34 rest ≡ None → attributes_at place (quote_pieces text) ≡ ended text
half place text lead rest e f =
    let one = says text (Some (lead, rest)) e in
    let two = says rest None f in
    rw (one.0, two, cut_not_spaces text (lead, rest) e) (nothing (attribute_at place lead rest))

-- two cuts part the attribute's two pieces from the others
two_cuts : (place : ℕ) (text lead behind value rest : List ℕ) → cut_at 34 text ≡ Some (lead, behind) → cut_at 34 behind ≡ Some (value, rest)
    → attributes_at place (quote_pieces text) ≡ with_written (attribute_at place lead value) (attributes_at (place + length lead + length value + 2) (quote_pieces rest))
two_cuts place text lead behind value rest e f =
    let one = says text (Some (lead, behind)) e in
    let two = says behind (Some (value, rest)) f in
    rw (one.0, two.0) refl

pub malformed : (place : ℕ) (text lead behind value rest : List ℕ) → cut_at 34 text ≡ Some (lead, behind) → cut_at 34 behind ≡ Some (value, rest)
    → attribute_at place lead value ≡ None → attributes_at place (quote_pieces text) ≡ ended text
malformed place text lead behind value rest e f none =
    two_cuts place text lead behind value rest e f ∙ rw (none, cut_not_spaces text (lead, behind) e) refl

pub passed : (place : ℕ) (text lead behind value rest : List ℕ) (w : WrittenAttr) → cut_at 34 text ≡ Some (lead, behind) → cut_at 34 behind ≡ Some (value, rest)
    → attribute_at place lead value ≡ Some w → attributes_at place (quote_pieces text) ≡ with_written (Some w) (attributes_at (place + (length lead + length value + 2)) (quote_pieces rest))
passed place text lead behind value rest w e f some =
    let on : place + length lead + length value + 2 ≡ place + (length lead + length value + 2) = omega arith in
    two_cuts place text lead behind value rest e f ∙ rw (some, on) refl

pub shorter : (text lead behind value rest : List ℕ) → cut_at 34 text ≡ Some (lead, behind) → cut_at 34 behind ≡ Some (value, rest) → length rest < length text
shorter text lead behind value rest e f = omega (arith, (says text (Some (lead, behind)) e).1, (says behind (Some (value, rest)) f).1)
