-- Tables of the places of serials.
use Rattle.std.specs.Prelude.{ℕ, zero, suc, ◌==◌, ◌++◌, nat_lt, nat_eq, List, [], ◌∷◌, Option, Some, None, if◌then◌else◌, length, slice_index_or}
use Rattle.std.specs.Map.{keys_of, lookup}
use Rattle.std.specs.Ordering.{nat_cmp}
use Rattle.std.specs.FinMap.{FinMap, from_entries}
use Rattle.smil_model.specs.declared.serial_table.TheConstants.{ABSENT, LOW}

-- the place that a number stands for; one number stands for none
abbrev pub place_told : ℕ → Option ℕ
place_told number = if number == ABSENT then None else Some number

-- the place of a serial in the list by serial; past its end there is none
abbrev pub low_place : List ℕ → ℕ → Option ℕ
low_place low serial = place_told (slice_index_or low serial ABSENT)

-- the place of a serial: the low ones have theirs in the list, the others among the entries
abbrev pub place_in : List ℕ → List (ℕ × ℕ) → ℕ → Option ℕ
place_in low high serial =
    if nat_lt serial LOW then low_place low serial else lookup (nat_eq serial) high

-- the entries with that of a serial, if it has a place
abbrev pub with_place : ℕ → Option ℕ → List (ℕ × ℕ) → List (ℕ × ℕ)
with_place serial None entries = entries
with_place serial (Some place) entries = (serial, place) ∷ entries

-- the entries of these serials
abbrev pub entries_of : (ℕ → Option ℕ) → List ℕ → List (ℕ × ℕ)
entries_of place [] = []
entries_of place (serial ∷ serials) = with_place serial (place serial) (entries_of place serials)

-- the serials below a number
abbrev pub serials_below : ℕ → List ℕ
serials_below zero = []
serials_below (suc n) = n ∷ serials_below n

-- the places of all serials
unfoldable pub table_of : List ℕ → List (ℕ × ℕ) → FinMap nat_cmp ℕ
table_of low high = from_entries (entries_of (place_in low high) (serials_below (length low) ++ keys_of high))
