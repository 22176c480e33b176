-- What parts of a reading give, unless memory ran out.
use Rattle.std.specs.Prelude.{◌≡◌, List, Option, Some, None, Result, Ok, Err}
use Rattle.smil_model.specs.declared.document.Attr.{Attr}
use Rattle.smil_model.specs.declared.document.Item.{Item}
use Rattle.smil_grammar.specs.declared.fault.AttrFault.{AttrFault}
use Rattle.smil_grammar.specs.declared.fault.AttrFault.TheVariants as attr
use Rattle.smil_grammar.specs.declared.fault.ListFault.{ListFault}
use Rattle.smil_grammar.specs.Values.{of_list}

-- a value that is no list has its fault at its first byte
abbrev pub GivesValue : {A : Type 0} → Result A AttrFault → Option A → Type 0
GivesValue (Ok value) reading = reading ≡ Some value
GivesValue (Err attr.Memory) reading = Unit {0}
GivesValue (Err fault) reading = (reading ≡ None) × (fault ≡ attr.BadValue 0)

-- a list has the faults of its items, whichever attribute it is for
abbrev pub GivesItems : Result (List Item) AttrFault → Result (List Item) ListFault → Type 0
GivesItems (Ok items) reading = reading ≡ Ok items
GivesItems (Err attr.Memory) reading = Unit {0}
GivesItems (Err fault) reading = (made : List Item → Attr) → of_list made reading ≡ Err fault
