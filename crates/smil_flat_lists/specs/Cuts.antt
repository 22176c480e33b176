-- Lists that stand one behind the other in one list, by the end of each.
use Rattle.std.specs.Prelude.{◌≡◌, ℕ, ◌≤◌, List, [], ◌∷◌}
use Rattle.std.specs.List.{between}

-- the lists between one place and the next, from the first place on
abbrev pub cut : {X : Type 0} → ℕ → List ℕ → List X → List (List X)
cut start [] values = []
cut start (end ∷ ends) values = between start end values ∷ cut end ends values

-- from the first place on the ends don't fall, and the last is this one
abbrev pub RiseTo : ℕ → List ℕ → ℕ → Type 0
RiseTo start [] last = start ≡ last
RiseTo start (end ∷ ends) last = (start ≤ end) × RiseTo end ends last
