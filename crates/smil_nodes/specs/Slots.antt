-- The numbers of keys, and slots that each have a number or none.
use Rattle.std.specs.Prelude.{◌≡◌, ℕ, ◌+◌, ◌-◌, ◌*◌, ◌/◌, ◌%◌, ◌^◌, ◌<◌, ◌≤◌, nat_lt, ℤ, pos, neg_ℤ, nat_abs, ◌+ℤ◌, ◌≤ℤ◌, int_lt, List, ◌∷◌, ◌++◌, drop, fold, length, slice_index_or, take, Bool, true, false, Option, Some, None, ◌⊎◌, ◌==◌, if◌then◌else◌}
use Rattle.std.proofs.Common.{refl, sym}
use Rattle.std.proofs.lemmas.Bool.{eqb-true}
use Rattle.smil_model.specs.declared.happening.Key.{Key}
use Rattle.smil_model.specs.declared.happening.TheConstants.{BEGIN_CLASS}
use Rattle.smil_nodes.specs.declared.due_tree.Slot.TheInside.{Inside}

-- ---- numbers that may each be absent

-- the lesser of two
abbrev pub earlier_of : Option ℕ → Option ℕ → Option ℕ
earlier_of None second = second
earlier_of (Some one) None = Some one
earlier_of (Some one) (Some other) = if nat_lt other one then Some other else Some one

-- the least of many
abbrev pub least_number : List (Option ℕ) → Option ℕ
least_number numbers = fold earlier_of None numbers

-- ---- the numbers of keys

-- a moment as a number from 0, told apart from others up to 2^44 from 0
abbrev pub moment_number : ℤ → ℕ
moment_number value =
    if int_lt value (neg_ℤ (pos (2 ^ 44)))
    then 0
    else (if int_lt value (pos (2 ^ 44)) then nat_abs (value +ℤ pos (2 ^ 44)) else 2 ^ 45 - 1)

-- the turn of a place among those of a class, and the place of a turn:
-- begins in document order, all others against it
abbrev pub turned : ℕ → ℕ → ℕ
turned class place = if class == BEGIN_CLASS then place else 2 ^ 13 - 1 - place

-- the number by which a key is compared: its moment, its class, its turn and whether it repeats
abbrev pub number_of : Key → ℕ
number_of key =
    ((moment_number key.value * 4 + key.class % 4) * 2 ^ 13
    + turned (key.class % 4) (key.position % 2 ^ 13)) * 2
    + (if key.repeat then 1 else 0)

-- the place that a key with a number has
abbrev pub place_in : ℕ → ℕ
place_in number = turned (number / 2 / 2 ^ 13 % 4) (number / 2 % 2 ^ 13)

-- whether a key with a number repeats
abbrev pub repeats : ℕ → Bool
repeats number = number % 2 == 1

-- a key whose number tells it from all others of one document
pub record IsNearKey (key : Key) : Type 0 where
  pub low : neg_ℤ (pos (2 ^ 44)) ≤ℤ key.value
  pub high : key.value ≤ℤ pos (2 ^ 44 - 1)
  pub class : key.class < 4
  pub place : key.position < 2 ^ 13

-- ---- a slot

-- in place of a number where a slot has none
abbrev pub no_number : ℕ
no_number = 2 ^ 64 - 1

-- a number that a slot may have
abbrev pub IsNumber : ℕ → Type 0
IsNumber number = number < no_number

abbrev pub slot_number : Inside → Option ℕ
slot_number slot = if slot.number == no_number then None else Some slot.number

abbrev pub slot_with : Option ℕ → Inside
slot_with None = record { number = no_number }
slot_with (Some number) = record { number = number }

-- a slot is the one with its number
pub slot_back : (slot : Inside) → slot_with (slot_number slot) ≡ slot
slot_back slot =
    elim (slot.number == no_number)
    as (λ (t : Bool). slot.number == no_number ≡ t
    → slot_with (if t then None else Some slot.number) ≡ slot) [
      | true ↦ λ e. λ i. record { number = sym (eqb-true slot.number no_number e) i }
      | false ↦ λ e. refl
    ] refl

-- ---- a tree of slots

-- below so many places before the slots
abbrev pub most_places : ℕ
most_places = 2 ^ 36

-- what a place has; a place past the last one has none
abbrev pub slot_at : List (Option ℕ) → ℕ → Option ℕ
slot_at places p = slice_index_or places p None

-- the places that stand below one
abbrev pub below : List (Option ℕ) → ℕ → List (Option ℕ)
below places p = take 8 (drop (8 * p + 1) places)

-- a place has the least number of those below it
abbrev pub IsLeastBelow : List (Option ℕ) → ℕ → Type 0
IsLeastBelow places p = slot_at places p ≡ least_number (below places p)

-- a place had the least number of those below it before one of these got another
pub record WasLeastBelow (places : List (Option ℕ)) (p : ℕ) (changed : Option ℕ) : Type 0 where
  pub before : Option ℕ
  pub front : List (Option ℕ)
  pub back : List (Option ℕ)
  pub now : below places p ≡ front ++ changed ∷ back
  pub was : slot_at places p ≡ least_number (front ++ before ∷ back)

-- below a place stand eight others or none, and each place but place 0 stands below one of those
-- before the slots
pub record AreFull (places first : ℕ) : Type 0 where
  pub groups : ℕ
  pub full : places ≡ 8 * groups + 1
  pub some : 0 < groups
  pub above : groups ≤ first
  pub from : first ≤ places

-- each of the places before the slots has the least number of those below it
pub record IsDueTree (places : List (Option ℕ)) (first : ℕ) : Type 0 where
  pub few : first ≤ most_places
  pub full : AreFull (length places) first
  pub decided : (p : ℕ) → p < first → IsLeastBelow places p

-- a place does not stand below another
abbrev pub IsBesides : ℕ → ℕ → Type 0
IsBesides place p = (place ≤ 8 * p) ⊎ (8 * p + 8 < place)
