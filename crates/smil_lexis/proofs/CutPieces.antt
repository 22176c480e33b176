-- Texts that are cut at each such byte, piece by piece.
use Rattle.std.proofs.Common.{◌≡◌, ℕ, ◌+◌, ◌<◌, ◌≤◌, Bool, true, false, eqb, ltb, List, [], ◌∷◌, length, Option, Some, None, option_map, refl, sym, subst, arith, length-take, length-drop, inl, inr}
use Rattle.std.specs.Prelude.{MatchOption, IfSome}
use Rattle.std.specs.List.{slice_split, position_or_len, onto_first}
use Rattle.std.proofs.lemmas.Bool.{cases_lt, cond_both, lt-ltb, le-ltb}
use Rattle.std.proofs.lemmas.List.Splits.{slice_split_first}
use Rattle.smil_grammar.specs.Texts.{cut_at}

-- the pieces between such bytes
abbrev pub pieces : ℕ → List ℕ → List (List ℕ)
pieces k text = slice_split (λ b. eqb b k) text

-- where the byte doesn't stand in the text, the text is its one piece
alone : (k : ℕ) (text : List ℕ) → length text ≤ position_or_len (λ b. eqb b k) text → pieces k text ≡ text ∷ []
alone k [] le = refl
alone k (b ∷ text) le = either k b text (eqb b k) refl le (alone k text)
  where
    either : (k b : ℕ) (text : List ℕ) (t : Bool) → eqb b k ≡ t → length (b ∷ text) ≤ position_or_len (λ b. eqb b k) (b ∷ text) → (length text ≤ position_or_len (λ b. eqb b k) text → pieces k text ≡ text ∷ []) → pieces k (b ∷ text) ≡ (b ∷ text) ∷ []
    either k b text true e le rest = let none : position_or_len (λ b. eqb b k) (b ∷ text) ≡ 0 = rw e refl in absurd (omega arith)
    either k b text false e le rest = let more : position_or_len (λ b. eqb b k) (b ∷ text) ≡ 1 + position_or_len (λ b. eqb b k) text = rw e refl in rw (e, rest (omega arith)) refl

-- the first cut parts the first piece from the others
pub cut_pieces : (k : ℕ) (text : List ℕ)
    → MatchOption (cut_at k text) (pieces k text ≡ text ∷ []) (λ cut. (pieces k text ≡ cut.0 ∷ pieces k cut.1) × (length cut.0 + 1 + length cut.1 ≡ length text))
cut_pieces k text =
    elim (cases_lt (position_or_len (λ b. eqb b k) text) (length text)) [
      | inl lt ↦ let t : ltb (position_or_len (λ b. eqb b k) text) (length text) ≡ true = lt-ltb _ _ lt in
          rw t (slice_split_first (λ b. eqb b k) text 0 lt, omega (arith, length-take (position_or_len (λ b. eqb b k) text) text, length-drop (position_or_len (λ b. eqb b k) text + 1) text))
      | inr le ↦ let t : ltb (position_or_len (λ b. eqb b k) text) (length text) ≡ false = le-ltb _ _ le in rw t (alone k text le)
    ]

abbrev Says : ℕ → List ℕ → Option (List ℕ × List ℕ) → Type 0
Says k text found = MatchOption found (pieces k text ≡ text ∷ []) (λ cut. (pieces k text ≡ cut.0 ∷ pieces k cut.1) × (length cut.0 + 1 + length cut.1 ≡ length text))

-- what a call that finds the first cut says of the pieces
pub cut_says : {T : Type 0} (k : ℕ) (view : T → List ℕ × List ℕ) (text : List ℕ) (r : Option T) → option_map view r ≡ cut_at k text
    → MatchOption r (pieces k text ≡ text ∷ []) (λ cut. pieces k text ≡ (view cut).0 ∷ pieces k (view cut).1) × IfSome r (λ cut. length (view cut).0 + 1 + length (view cut).1 ≡ length text)
cut_says k view text None e = let s : Says k text None = subst (Says k text) (sym e) (cut_pieces k text) in (s, tt)
cut_says k view text (Some x) e = let s : Says k text (Some (view x)) = subst (Says k text) (sym e) (cut_pieces k text) in (s.0, s.1)

-- how long a text is that was cut into these pieces, and one more
abbrev pub joined_len : List (List ℕ) → ℕ
joined_len [] = 0
joined_len (piece ∷ pieces) = length piece + 1 + joined_len pieces

onto_len : (x : ℕ) (pieces : List (List ℕ)) → 0 < joined_len pieces → joined_len (onto_first x pieces) ≡ 1 + joined_len pieces
onto_len x [] some = absurd (omega arith)
onto_len x (piece ∷ pieces) some = omega arith

pub split_len : (k : ℕ) (text : List ℕ) → joined_len (slice_split (λ b. eqb b k) text) ≡ length text + 1
split_len k [] = refl
split_len k (b ∷ text) =
    let rest : joined_len (slice_split (λ b. eqb b k) text) ≡ length text + 1 = split_len k text in
    cond_both (eqb b k) ([] ∷ slice_split (λ b. eqb b k) text) (onto_first b (slice_split (λ b. eqb b k) text)) (λ pieces. joined_len pieces ≡ length (b ∷ text) + 1)
    (λ e. omega arith)
    (λ e. let more : joined_len (onto_first b (slice_split (λ b. eqb b k) text)) ≡ 1 + joined_len (slice_split (λ b. eqb b k) text) = onto_len b (slice_split (λ b. eqb b k) text) (omega arith) in omega arith)
