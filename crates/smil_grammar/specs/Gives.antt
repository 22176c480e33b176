-- What calls give of readings.
use Rattle.std.specs.Prelude.{◌≡◌, Result, Err}
use Rattle.smil_grammar.specs.declared.fault.AttrFault.{AttrFault}
use Rattle.smil_grammar.specs.declared.fault.AttrFault.TheVariants as attr
use Rattle.smil_grammar.specs.declared.fault.NodeFault.{NodeFault}
use Rattle.smil_grammar.specs.declared.fault.NodeFault.TheVariants as node
use Rattle.smil_model.specs.declared.order.Refusal.{Refusal}
use Rattle.smil_model.specs.declared.order.Refusal.TheVariants as refusal

-- what a call gave is the reading of an attribute, unless memory ran out
abbrev pub GivesAttr : {A : Type 0} → Result A AttrFault → Result A AttrFault → Type 0
GivesAttr (Err attr.Memory) reading = Unit {0}
GivesAttr given reading = reading ≡ given

-- what a call gave is the reading of a node line, unless memory ran out
abbrev pub GivesNode : {A : Type 0} → Result A NodeFault → Result A NodeFault → Type 0
GivesNode (Err node.Memory) reading = Unit {0}
GivesNode given reading = reading ≡ given

-- what a call gave is the reading of an order, unless memory ran out
abbrev pub GivesReading : {A : Type 0} → Result A Refusal → Result A Refusal → Type 0
GivesReading (Err refusal.Memory) reading = Unit {0}
GivesReading given reading = reading ≡ given
