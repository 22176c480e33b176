-- What can be reached along links, by rounds: each round adds what is linked from a member.
use Rattle.std.specs.Prelude.{ℕ, suc, zero, List, filter, length, Bool, ◌||◌, ◌==◌}
use Rattle.std.specs.List.{list_any}

-- whether the list has this serial
abbrev pub has : List ℕ → ℕ → Bool
has set x = list_any (λ y. y == x) set

-- the members of `all` that a round adds to the set, or that it has already
abbrev pub round : (ℕ → ℕ → Bool) → List ℕ → List ℕ → List ℕ
round link all set = filter (λ y. has set y || list_any (λ x. link x y) set) all

-- so many rounds
abbrev pub rounds : (ℕ → ℕ → Bool) → List ℕ → ℕ → List ℕ → List ℕ
rounds link all zero set = set
rounds link all (suc k) set = round link all (rounds link all k set)

-- of a set within `all`: the smallest part of `all` that holds the set and, with each member,
-- what is linked from it
abbrev pub closure : (ℕ → ℕ → Bool) → List ℕ → List ℕ → List ℕ
closure link all set = rounds link all (suc (length all)) set
