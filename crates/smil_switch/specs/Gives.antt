-- What calls give.
use Rattle.std.specs.Prelude.{◌≡◌, Bool, true, false, Option, Some, None, Result, Ok, Err}
use Rattle.smil_model.specs.declared.order.Refusal.{Refusal}
use Rattle.smil_model.specs.declared.order.Refusal.TheVariants as refusal
use Rattle.smil_switch.specs.declared.chosen.Chosen.{Chosen}
use Rattle.smil_switch.specs.Preferences.{Wanted}
use Rattle.smil_switch.specs.Choices.{Choice}

-- a preference was read or not, and is then as before
abbrev pub Prefers : Wanted → Bool → Wanted → Option Wanted → Type 0
Prefers old true new reading = reading ≡ Some new
Prefers old false new reading = (reading ≡ None) × (new ≡ old)

-- a line was chosen so, unless memory ran out; after a refusal the choice is as before
abbrev pub GivesChosen : Choice → Result Chosen Refusal → Choice
    → Result (Choice × Chosen) Refusal → Type 0
GivesChosen old (Ok answer) new reading = reading ≡ Ok (new, answer)
GivesChosen old (Err refusal.Memory) new reading = new ≡ old
GivesChosen old (Err given) new reading = (reading ≡ Err given) × (new ≡ old)
