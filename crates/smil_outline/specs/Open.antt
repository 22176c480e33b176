-- The nodes that are open where the next one stands.
use Rattle.std.specs.Prelude.{ℕ, List, map, reverse, Bool, not, ◌==◌}
use Rattle.smil_model.specs.declared.document.Kind.{Kind}

-- the serials of a branch, from the last node up to the root
abbrev pub upwards : List (ℕ × Kind) → List ℕ
upwards branch = reverse (map (λ (n : ℕ × Kind). n.0) branch)

-- whether a node has another serial than this
abbrev pub is_other : ℕ → ℕ × Kind → Bool
is_other serial node = not (node.0 == serial)
