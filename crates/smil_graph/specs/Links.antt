-- Places that are linked: for each place a row of those to which it is linked.
use Rattle.std.specs.Prelude.{◌≡◌, ℕ, ◌<◌, ◌≤◌, List, [], ◌∷◌, ◌++◌, length, Bool, true, false, ◌==◌, if◌then◌else◌, slice_index_or}
use Rattle.smil_model.specs.document.Closure.{has}

-- ---- sets of places

abbrev pub AreBelow : ℕ → List ℕ → Type 0
AreBelow bound places = (i : ℕ) → has places i ≡ true → i < bound

-- each place is below those after it
abbrev pub IsRising : List ℕ → Type 0
IsRising [] = Unit {0}
IsRising (x ∷ xs) = ((y : ℕ) → has xs y ≡ true → x < y) × IsRising xs

-- ---- links

-- the row of a place
abbrev pub row : List (List ℕ) → ℕ → List ℕ
row rows i = slice_index_or rows i []

-- whether the place i is linked to j
abbrev pub links : List (List ℕ) → ℕ → ℕ → Bool
links rows i j = has (row rows i) j

-- so many rows, with these links
pub record AreRows (count : ℕ) (test : ℕ → ℕ → Bool) (rows : List (List ℕ)) : Type 0 where
  pub long : length rows ≡ count
  pub each : (i j : ℕ) → i < count → links rows i j ≡ test i j

-- no link leads out of the places
abbrev pub StayBelow : ℕ → List (List ℕ) → Type 0
StayBelow bound rows = (i : ℕ) → AreBelow bound (row rows i)

-- along links a test does not become false
abbrev pub IsKeptAlongLinks : List (List ℕ) → (ℕ → Bool) → Type 0
IsKeptAlongLinks rows test = (i j : ℕ) → test i ≡ true → links rows i j ≡ true → test j ≡ true

-- the places are the starts and, with each place, those to which it is linked, and no others
pub record IsReached (rows : List (List ℕ)) (starts places : List ℕ) : Type 0 where
  pub begun : (i : ℕ) → has starts i ≡ true → has places i ≡ true
  pub kept : IsKeptAlongLinks rows (has places)
  pub least : (test : ℕ → Bool) → ((i : ℕ) → has starts i ≡ true → test i ≡ true)
      → IsKeptAlongLinks rows test
      → (i : ℕ) → has places i ≡ true → test i ≡ true

-- j is i, or links lead from i to j
abbrev pub LeadsTo : List (List ℕ) → ℕ → ℕ → Type 0
LeadsTo rows i j = (test : ℕ → Bool) → test i ≡ true → IsKeptAlongLinks rows test → test j ≡ true

-- no link rises in level, and one that stays on its level can be gone back along links
pub record AreLevels (rows : List (List ℕ)) (levels : List ℕ) : Type 0 where
  pub count : length levels ≡ length rows
  pub falling :
      (i j : ℕ) → links rows i j ≡ true → slice_index_or levels j 0 ≤ slice_index_or levels i 0
  pub looped :
      (i j : ℕ) → links rows i j ≡ true → slice_index_or levels i 0 ≡ slice_index_or levels j 0
      → LeadsTo rows j i

-- whether the last place is this one
abbrev pub is_last : List ℕ → ℕ → Bool
is_last [] place = false
is_last (i ∷ []) place = i == place
is_last (_ ∷ is) place = is_last is place

-- each row that is listed has the place at its end, and the others are as before
pub record IsPushedInEach (old new : List (List ℕ)) (listed : List ℕ) (place : ℕ) : Type 0 where
  pub count : length new ≡ length old
  pub rows : (i : ℕ) → i < length old → has (row old i) place ≡ false
      → row new i ≡ (if has listed i then row old i ++ place ∷ [] else row old i)
