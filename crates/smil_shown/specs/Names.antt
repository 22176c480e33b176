-- Names in the order of their bytes.
use Rattle.std.specs.Prelude.{ℕ, List, Bool, false, Option}
use Rattle.std.specs.Cmp.Lexicographic.{slice_cmp}
use Rattle.std.specs.Option.{option_map_or}
use Rattle.std.specs.Ordering.{nat_cmp, is_le, is_eq}

-- whether a name is not after another
abbrev pub is_up_to : List ℕ → List ℕ → Bool
is_up_to name other = is_le (slice_cmp nat_cmp name other)

-- whether there is a name, and it is this one
abbrev pub is_there : List ℕ → Option (List ℕ) → Bool
is_there name other = option_map_or (λ (o : List ℕ). is_eq (slice_cmp nat_cmp name o)) other false
