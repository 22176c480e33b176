-- The place of a layer among those that are kept from the top down.
use Rattle.std.proofs.Common.{◌≡◌, refl, sym, ◌∙◌, zero, suc, ap, ℕ, ◌≤◌, List, [], ◌∷◌, length, Bool, true, false, Some, None, ltb, inl, inr, arith}
use Rattle.std.specs.Borrow.{Bor}
use Rattle.std.specs.Prelude.{Option, not, unwrap_or, position, option_map, slice_get, map}
use Rattle.std.proofs.lemmas.Bool.{cases_lt, lt-ltb, le-ltb}
use Rattle.std.proofs.lemmas.List.Sums.{prefix_len-le-length}
use Rattle.std.specs.List.{insert, position_or_len}
use Rattle.smil_model.specs.declared.view.Layer.{Layer}
use Rattle.smil_model.specs.shown.Sandwich.{is_above, put_layer}

-- the place of what isn't there is the length
pub or_length : {A : Type 0} (p : A → Bool) (xs : List A) → unwrap_or (position p xs) (length xs) ≡ position_or_len p xs
or_length p xs = elim (cases_lt (position_or_len p xs) (length xs)) [
  | inl lt ↦ let t : ltb (position_or_len p xs) (length xs) ≡ true = lt-ltb _ _ lt in rw t refl
  | inr le ↦ let t : ltb (position_or_len p xs) (length xs) ≡ false = le-ltb _ _ le in
      let most : position_or_len p xs ≤ length xs = prefix_len-le-length (λ x. not (p x)) xs in
      let same : length xs ≡ position_or_len p xs = omega arith in
      rw t same
]

abbrev pub above : Layer → ℕ × Layer → Bool
above layer l = is_above layer l.1

-- a layer that is put before the first one that it is above is put in its place
pub put_at : (l : ℕ × Layer) (layers : List (ℕ × Layer)) → insert layers (position_or_len (above l.1) layers) l ≡ put_layer layers l
put_at l [] = refl
put_at l (other ∷ below) = step (is_above l.1 other.1) refl (put_at l below)
  where
    step : (t : Bool) → is_above l.1 other.1 ≡ t → insert below (position_or_len (above l.1) below) l ≡ put_layer below l
        → insert (other ∷ below) (position_or_len (above l.1) (other ∷ below)) l ≡ put_layer (other ∷ below) l
    step true e rest = rw e refl
    step false e rest =
        let more : position_or_len (above l.1) (other ∷ below) ≡ suc (position_or_len (above l.1) below) = rw e (omega arith) in
        let on : put_layer (other ∷ below) l ≡ other ∷ put_layer below l = rw e refl in
        ap (λ i. insert (other ∷ below) i l) more ∙ ap (λ ls. other ∷ ls) rest ∙ sym on

-- an element of a list of which each is a given one's
pub at_map : {A B : Type 0} (f : A → B) (xs : List A) (k : ℕ) → option_map f (slice_get xs k) ≡ slice_get (map f xs) k
at_map f [] k = refl
at_map f (x ∷ xs) zero = refl
at_map f (x ∷ xs) (suc k) = at_map f xs k

-- what is read of the element that was found
pub read_at : {A B : Type 0} (f : A → B) (xs : List A) (k : ℕ) (found : Option (Bor A)) → option_map (λ (x : Bor A). x.now) found ≡ slice_get xs k
    → option_map (λ (x : Bor A). f x.now) found ≡ slice_get (map f xs) k
read_at f xs k None e = ap (option_map f) e ∙ at_map f xs k
read_at f xs k (Some x) e = ap (option_map f) e ∙ at_map f xs k
