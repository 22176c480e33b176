-- What reading a line gives.
use Rattle.std.specs.Prelude.{◌≡◌, ℕ, ℤ, List, [], ◌∷◌, Option, Some, None, is_some, true, Result, Ok, Err, codes}
use Rattle.smil_model.specs.declared.order.Refusal.{Refusal}
use Rattle.smil_model.specs.declared.order.Refusal.TheVariants as refusal
use Rattle.smil_model.specs.shown.Answers.{IsGiven}
use Rattle.smil_model.specs.declared.order.Who.{Who}
use Rattle.smil_grammar.specs.Positions.{Piece}
use Rattle.smil_grammar.specs.Scripts.{first_of, who_of}
use Rattle.smil_grammar.specs.declared.read.Read.{Read}
use Rattle.smil_grammar.specs.declared.read.Read.TheVariants.{To}

-- the order of a line, where it has one, is one that a presentation may be given
abbrev pub HoldsGiven : Read → Type 0
HoldsGiven (To name order) = IsGiven order
HoldsGiven _ = Unit {0}

-- the element that the first word of a line names, and what stands behind it
abbrev pub GivesWho : Result (Who × Piece) Refusal → Piece → Type 0
GivesWho (Ok named) line =
    (who_of (first_of line).0.text ≡ Some named.0) × (named.1 ≡ (first_of line).1)
GivesWho (Err refusal.Memory) line = is_some (who_of (first_of line).0.text) ≡ true
GivesWho (Err given) line = (who_of (first_of line).0.text ≡ None) × (given ≡ refusal.NotACommand)

-- an order with its clock value
abbrev pub with_value : {A : Type 0} → (ℤ → A) → Result ℤ Refusal → Result A Refusal
with_value made (Ok value) = Ok (made value)
with_value made (Err given) = Err given

-- words that name no event that comes from outside
abbrev pub other_names : List (List ℕ)
other_names =
    codes "begin" ∷ codes "end" ∷ codes "repeat" ∷ codes "indefinite" ∷ codes "beginEvent"
    ∷ codes "endEvent" ∷ codes "repeatEvent" ∷ []

-- a word that is read, unless memory ran out; a line without it is no command
abbrev pub GivesName : {A : Type 0} → Result A Refusal → Option A → Type 0
GivesName (Ok name) reading = reading ≡ Some name
GivesName (Err refusal.Memory) reading = Unit {0}
GivesName (Err given) reading = (reading ≡ None) × (given ≡ refusal.NotACommand)
