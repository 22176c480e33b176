-- Sets of places as bits, 64 a word.
use Rattle.std.specs.Prelude.{◌≡◌, ℕ, zero, suc, ◌*◌, ◌/◌, ◌%◌, ◌^◌, ◌<◌, ◌≤◌, ◌==◌, Bool, false, List, [], ◌∷◌, if◌then◌else◌, length, slice_index}
use Rattle.std.specs.Int.{bit_at}

-- whether a place is in
abbrev pub is_in : List ℕ → ℕ → Bool
is_in words place = bit_at (slice_index words (place / 64)) (place % 64) == 1

-- of so many places from one on those that pass a test
abbrev pub places_from : (ℕ → Bool) → ℕ → ℕ → List ℕ
places_from passes place zero = []
places_from passes place (suc count) =
    if passes place then place ∷ places_from passes (suc place) count else places_from passes (suc place) count

-- all places that are in
unfoldable pub places_of : List ℕ → List ℕ
places_of words = places_from (is_in words) 0 (64 * length words)

-- no place is in a word before the first one or from `end` on, and each place is the number of one
pub record ArePlaces (words : List ℕ) (first end' : ℕ) : Type 0 where
  pub none_before : (place : ℕ) → place / 64 < first → is_in words place ≡ false
  pub none_behind : (place : ℕ) → end' ≤ place / 64 → is_in words place ≡ false
  pub within : end' ≤ length words
  pub few : length words ≤ 2 ^ 58
