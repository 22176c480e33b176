-- What reading an outline gives.
use Rattle.std.specs.Prelude.{◌≡◌, Result, Ok, Err}
use Rattle.smil_model.specs.declared.order.Refusal.{Refusal}
use Rattle.smil_model.specs.declared.order.Refusal.TheVariants as refusal
use Rattle.smil_model.specs.document.Document.{Document}

-- a refusal is the reading's, unless memory ran out
abbrev pub GivesRefusal : {A : Type 0} → Result A Refusal → Refusal → Type 0
GivesRefusal reading refusal.Memory = Unit {0}
GivesRefusal reading given = reading ≡ Err given

-- what a call gave is the document of the outline; memory runs out only where there is one
abbrev pub GivesDocument : Result Document Refusal → Result Document Refusal → Type 0
GivesDocument (Err refusal.Memory) (Ok document) = Unit {0}
GivesDocument given reading = reading ≡ given
