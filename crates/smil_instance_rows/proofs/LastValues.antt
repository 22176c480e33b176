-- A value that is greater than the last of a list in rising order.
use Rattle.std.proofs.Common.{◌≡◌, refl, subst, ap, ℕ, ◌-◌, ◌<◌, List, [], ◌∷◌, ◌++◌, length, get_or, Bool, true, false, Some, arith}
use Rattle.std.specs.Prelude.{slice_get}
use Rattle.std.specs.List.{insert}
use Rattle.std.proofs.lemmas.Option.{get_or_from_slice_get}
use Rattle.smil_model.specs.Rising.{IsOrder, IsPlaceFrom, IsRising}
use Rattle.smil_model.proofs.RisingLists.{clash}

module _ {A : Type 0} (le : A → A → Bool) (order : IsOrder le) (xs : List A) (v z : A) (up : IsRising le xs) (at : slice_get xs (length xs - 1) ≡ Some z) (past : le v z ≡ false) where
  -- it is greater than each
  greater : (k : ℕ) (d : A) → k < length xs → le v (get_or xs k d) ≡ false
  greater k d inside = step (le v (get_or xs k d)) refl
    where
      not_after : le (get_or xs k d) z ≡ true
      not_after = subst (λ b. le (get_or xs k d) b ≡ true) (get_or_from_slice_get xs (length xs - 1) z d at) (up k (length xs - 1) d (omega (arith, inside)) (omega (arith, inside)))

      step : (t : Bool) → le v (get_or xs k d) ≡ t → le v (get_or xs k d) ≡ false
      step true q = clash (le v z) (order.transitive v (get_or xs k d) z q not_after) past
      step false q = q

  -- so its place is at the end
  pub place_at_end : IsPlaceFrom le xs v (length xs)
  place_at_end = (omega arith, λ k d below. greater k d below, λ k d from inside. absurd (omega (arith, from, inside)))

-- what is put at the end is appended
pub insert_last : {A : Type 0} (xs : List A) (v : A) → insert xs (length xs) v ≡ xs ++ v ∷ []
insert_last [] v = refl
insert_last (x ∷ xs) v = ap (λ ys. x ∷ ys) (insert_last xs v)
