-- A tournament over a list of places: each place has what comes of the two below it.
-- `none` is the item of an empty place, and `both` what comes of two.
use Rattle.std.specs.Prelude.{◌≡◌, ℕ, ◌+◌, ◌^◌, ◌<◌, ◌≤◌, List, [], ◌∷◌, ◌++◌, length, slice_index_or}

-- the greatest number of items
abbrev pub most_items : ℕ
most_items = 2 ^ 32

-- the item at a place; a place past the last one is empty
abbrev pub at_place : {A : Type 0} → A → List A → ℕ → A
at_place none places i = slice_index_or places i none

-- a place has what comes of the two below it
abbrev pub IsDecided : {A : Type 0} → A → (A → A → A) → List A → ℕ → Type 0
IsDecided none both places i =
    at_place none places i ≡ both (at_place none places (i + i)) (at_place none places (i + i + 1))

-- the places from 1 to below `half`, a power of 2, have what comes of the two below each,
-- and behind them stand the items, at most `half` of them
pub record IsTournament
    {A : Type 0} (none : A) (both : A → A → A) (places : List A) (half : ℕ) : Type 0 where
  pub height : ℕ
  pub half_is : half ≡ 2 ^ height
  pub few : half ≤ most_items
  pub from : half ≤ length places
  pub enough : length places ≤ half + half
  pub decided : (i : ℕ) → 0 < i → i < half → IsDecided none both places i

-- what comes of a list of items is what comes of its parts, one behind the other
pub record IsSum {A : Type 0} (none : A) (both : A → A → A) (sum : List A → A) : Type 0 where
  pub of_none : sum [] ≡ none
  pub of_one : (x : A) → sum (x ∷ []) ≡ x
  pub of_both : (xs ys : List A) → sum (xs ++ ys) ≡ both (sum xs) (sum ys)
