-- What comes of one element.
use Rattle.std.specs.Prelude.{ℕ, Option, None}
use Rattle.smil_element.specs.declared.happening.change.DueChange.{DueChange}

-- its place among the elements and its serial, its begin or its end, and its repeat
pub record ChangesDue : Type 0 where
  pub place : ℕ
  pub serial : ℕ
  pub moved : Option DueChange
  pub repeat : Option DueChange

abbrev pub nothing_due : ℕ → ℕ → ChangesDue
nothing_due place serial =
    record { place = place; serial = serial; moved = None; repeat = None }
