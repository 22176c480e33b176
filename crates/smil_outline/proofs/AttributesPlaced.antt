-- A node line's attributes below a parent.
use Rattle.std.proofs.Common.{ℕ, Bool, Result, Err, ap}
use Rattle.std.specs.Prelude.{IfErr}
use Rattle.smil_model.specs.declared.document.Kind.{Kind}
use Rattle.smil_model.specs.declared.document.Attrs.{Attrs}
use Rattle.smil_model.specs.document.Edits.{no_attrs}
use Rattle.smil_grammar.specs.declared.fault.NodeFault.{NodeFault}
use Rattle.smil_grammar.specs.declared.fault.NodeFault.TheVariants as fault
use Rattle.smil_grammar.specs.Gives.{GivesNode, GivesReading}
use Rattle.smil_grammar.specs.Nodes.{Shape, attrs_from}
use Rattle.smil_grammar.specs.Outlines.{in_line, refused}
use Rattle.smil_outline.specs.Steps.{IsInLine, IsNear}
use Rattle.smil_outline.proofs.FaultColumns.{attrs_are_near}

pub attrs_refused : (spaces : ℕ) (reading : Result Attrs NodeFault) (e : NodeFault) → GivesNode {A = Attrs} (Err e) reading → GivesReading {A = Attrs} (Err (refused spaces e)) (in_line spaces reading)
attrs_refused spaces reading fault.Memory h = tt
attrs_refused spaces reading fault.BadOutline h = ap (in_line spaces) h
attrs_refused spaces reading (fault.Unsupported column) h = ap (in_line spaces) h
attrs_refused spaces reading fault.BadPlace h = ap (in_line spaces) h
attrs_refused spaces reading (fault.UnknownAttribute column) h = ap (in_line spaces) h
attrs_refused spaces reading (fault.BadValue column) h = ap (in_line spaces) h
attrs_refused spaces reading (fault.TooManyItems column) h = ap (in_line spaces) h

near_fault : (e : NodeFault) (reading : Result Attrs NodeFault) → GivesNode (Err e) reading → IfErr reading IsNear → IsNear e
near_fault fault.Memory reading h near = tt
near_fault fault.BadOutline reading h near = tt
near_fault fault.BadPlace reading h near = tt
near_fault (fault.Unsupported column) reading h near = rw h at near
near_fault (fault.UnknownAttribute column) reading h near = rw h at near
near_fault (fault.BadValue column) reading h near = rw h at near
near_fault (fault.TooManyItems column) reading h near = rw h at near

pub fault_is_near : (in_seq : Bool) (k : Kind) (shape : Shape) (e : NodeFault) → IsInLine shape → GivesNode {A = Attrs} (Err e) (attrs_from in_seq k no_attrs shape.attributes) → IsNear e
fault_is_near in_seq k shape e near h = near_fault e (attrs_from in_seq k no_attrs shape.attributes) h (attrs_are_near in_seq k shape near)
