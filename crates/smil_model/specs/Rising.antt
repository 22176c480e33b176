-- Lists in rising order, by an order of their own.
use Rattle.std.specs.Prelude.{◌≡◌, ℕ, ◌≤◌, ◌<◌, List, [], ◌∷◌, length, get_or, Bool, true, false, if◌then◌else◌}

-- a total order, in which no two different values tie
pub record IsOrder {A : Type 0} (le : A → A → Bool) : Type 0 where
  pub total : (a b : A) → le a b ≡ false → le b a ≡ true
  pub transitive : (a b c : A) → le a b ≡ true → le b c ≡ true → le a c ≡ true
  pub exact : (a b : A) → le a b ≡ true → le b a ≡ true → a ≡ b

-- each value is at most those after it
abbrev pub IsRising : {A : Type 0} → (A → A → Bool) → List A → Type 0
IsRising {A} le xs =
    (i j : ℕ) (d : A) → i ≤ j → j < length xs → le (get_or xs i d) (get_or xs j d) ≡ true

-- a value put in its place
abbrev pub put_in : {A : Type 0} → (A → A → Bool) → A → List A → List A
put_in le x [] = x ∷ []
put_in le x (y ∷ ys) = let rest = put_in le x ys in if le x y then x ∷ y ∷ ys else y ∷ rest

-- without the first that is this value
abbrev pub taken_out : {A : Type 0} → (A → A → Bool) → A → List A → List A
taken_out le x [] = []
taken_out le x (y ∷ ys) =
    let rest = taken_out le x ys in if le x y then (if le y x then ys else y ∷ rest) else y ∷ rest

-- these values put in their places
abbrev pub poured : {A : Type 0} → (A → A → Bool) → List A → List A → List A
poured le [] into = into
poured le (x ∷ xs) into = put_in le x (poured le xs into)

-- what stands before the place is less than the value, and what stands from it on is not
abbrev pub IsPlaceFrom : {A : Type 0} → (A → A → Bool) → List A → A → ℕ → Type 0
IsPlaceFrom {A} le xs v place =
    (place ≤ length xs)
    × ((k : ℕ) (d : A) → k < place → le v (get_or xs k d) ≡ false)
    × ((k : ℕ) (d : A) → place ≤ k → k < length xs → le v (get_or xs k d) ≡ true)
