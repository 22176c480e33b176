-- Numbers that tell names apart at a glance.
use Rattle.std.specs.Prelude.{ℕ, List, ◌+◌, ◌*◌, ◌^◌, ◌%◌, map}
use Rattle.std.specs.List.{fold}
use Rattle.smil_house.specs.declared.house.NamedPlayer.{NamedPlayer}

-- the mark of a name: its bytes as the digits of a number to the base 31, in 32 bits
abbrev pub mark_of : List ℕ → ℕ
mark_of name = fold (λ mark byte. ((mark * 31) % 2 ^ 32 + byte) % 2 ^ 32) 0 name

-- the marks of the names, in their order
abbrev pub marks_of : {P : Type 0} → List (NamedPlayer P) → List ℕ
marks_of held = map (λ h. mark_of h.name) held
