-- Lines that are chosen one by one are those of the tree.
use Rattle.std.specs.Prelude.{◌≡◌, ℕ, List, [], ◌∷◌, Result, Ok}
use Rattle.smil_model.specs.declared.order.Refusal.{Refusal}
use Rattle.smil_grammar.specs.Results.{◌>>=◌}
use Rattle.smil_switch.specs.declared.chosen.Chosen.{Chosen}
use Rattle.smil_switch.specs.declared.chosen.Chosen.TheVariants.{Dropped, Kept}
use Rattle.smil_switch.specs.Preferences.{Wanted}
use Rattle.smil_switch.specs.Choices.{Choice, unchosen, pushed}
use Rattle.smil_switch.specs.Trees.{chosen_lines}

-- a line that was kept, before those that are kept behind it
abbrev pub with_chosen : Choice → Chosen → List (List ℕ × ℕ) → List (List ℕ × ℕ)
with_chosen choice Dropped rest = rest
with_chosen choice (Kept n) rest = (choice.line, n) ∷ rest

-- the lines that are kept of these, one by one, or the first refusal
abbrev pub all_pushed : Choice → List (List ℕ) → Result (List (List ℕ × ℕ)) Refusal
all_pushed choice [] = Ok []
all_pushed choice (line ∷ lines) = do
  next ← pushed choice line
  rest ← all_pushed next.0 lines
  Ok (with_chosen next.0 next.1 rest)

-- where no line is refused, the lines that are kept are those that are chosen from the tree
abbrev pub ChoiceIsOfTheTree : Type 0
ChoiceIsOfTheTree =
    (wanted : Wanted) (lines : List (List ℕ)) (kept : List (List ℕ × ℕ))
    → all_pushed (unchosen wanted) lines ≡ Ok kept → kept ≡ chosen_lines wanted lines
