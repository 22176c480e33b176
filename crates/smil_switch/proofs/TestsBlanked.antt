-- A line with spaces in the place of its tests.
use Rattle.std.proofs.Common.{◌≡◌, ℕ, ◌+◌, ◌-◌, true, false, List, ◌∷◌, ◌++◌, length, take, drop, refl, append_assoc}
use Rattle.std.specs.Prelude.{replicate}
use Rattle.smil_grammar.specs.Texts.{space}
use Rattle.smil_grammar.specs.Nodes.{WrittenAttr}
use Rattle.smil_switch.specs.Preferences.{is_test}
use Rattle.smil_switch.specs.Choices.{without_tests}

pub blanked_on : (spaces from : ℕ) (w : WrittenAttr) (line old new : List ℕ) → is_test w.name ≡ true
    → new ≡ old ++ (take (spaces + w.name_place - from) (drop from line) ++ replicate (spaces + w.value_place + length w.value + 1 - (spaces + w.name_place)) space)
    → (others : List WrittenAttr) → new ++ without_tests spaces (spaces + w.value_place + length w.value + 1) others line ≡ old ++ without_tests spaces from (w ∷ others) line
blanked_on spaces from w line old new test e others = rw (e, test) (simp append_assoc)

pub passed_on : (spaces from : ℕ) (w : WrittenAttr) (line old : List ℕ) → is_test w.name ≡ false
    → (others : List WrittenAttr) → old ++ without_tests spaces from others line ≡ old ++ without_tests spaces from (w ∷ others) line
passed_on spaces from w line old test others = rw test refl
