-- A node line's reading, part by part.
use Rattle.std.specs.Prelude.{ℕ, ◌+◌, ◌*◌, ◌≤◌, ◌/◌, ◌%◌, Bool, List, length, take, drop, bytes_eq, codes, Option, Some, option_map, unwrap_or, Result, Ok, Err, nat_lt, nat_le, ◌==◌}
use Rattle.std.specs.List.{prefix_len}
use Rattle.smil_model.specs.declared.limits.TheConstants.{NODES, DEPTH, REFERENCES, LINE_BYTES}
use Rattle.smil_model.specs.declared.document.Kind.{Kind}
use Rattle.smil_model.specs.declared.document.Node.{Node}
use Rattle.smil_model.specs.declared.document.Attrs.{Attrs}
use Rattle.smil_model.specs.declared.order.Refusal.{Refusal}
use Rattle.smil_model.specs.declared.order.Refusal.TheVariants as refusal
use Rattle.smil_model.specs.document.Valid.{references, references_among}
use Rattle.smil_grammar.specs.declared.fault.NodeFault.{NodeFault}
use Rattle.smil_grammar.specs.declared.fault.NodeFault.TheVariants.{Unsupported, UnknownAttribute, BadValue, TooManyItems}
use Rattle.smil_grammar.specs.Results.{◌>>=◌}
use Rattle.smil_grammar.specs.Nodes.{Shape, is_space, is_no_space, kind_of_shape}
use Rattle.smil_grammar.specs.Outlines.{Outline, refuse_if, in_line, is_misplaced, is_bad_serial, has_id, attrs_in, last_of, with_node}
use Rattle.smil_attrs.specs.Within.{AllWithin}

-- a line without its leading spaces
abbrev pub text_of : List ℕ → List ℕ
text_of line = drop (prefix_len is_space line) line

-- whether the first word of a line is `outline`
abbrev pub begins_outline : List ℕ → Bool
begins_outline line =
    let text : List ℕ = text_of line in
    bytes_eq (take (prefix_len is_no_space text) text) (codes "outline")

-- the kind of a node, and the refusals that come before its place
abbrev pub kind_at : Outline → ℕ → ℕ → Shape → Result Kind Refusal
kind_at outline spaces serial shape = do
  even ← refuse_if (spaces % 2 == 1) refusal.BadOutline
  kind ← in_line spaces (kind_of_shape (Some shape))
  fresh ← refuse_if (is_bad_serial outline outline.next serial) refusal.BadSerial
  near ← refuse_if (nat_lt (length outline.branch) (spaces / 2)) refusal.DepthJump
  flat ← refuse_if (nat_le DEPTH (spaces / 2)) refusal.TooDeep
  Ok kind

-- the attributes of a node that stands where it may
abbrev pub attrs_at : Outline → ℕ → List (ℕ × Kind) → Kind → Shape → Result Attrs Refusal
attrs_at outline spaces above kind shape = do
  placed ← refuse_if (is_misplaced outline above kind) refusal.BadPlace
  in_line spaces (attrs_in (last_of above) kind shape)

-- the node of this serial and kind below this parent, with these attributes
abbrev pub node_of : ℕ → Option (ℕ × Kind) → Kind → Attrs → Node
node_of serial parent kind attrs = record {
  serial = serial;
  kind = kind;
  parent = unwrap_or (option_map (λ (n : ℕ × Kind). n.0) parent) 0;
  attrs = attrs;
}

-- the node with these attributes, within the limits of a document
abbrev pub node_with : List Node → ℕ → Option (ℕ × Kind) → Kind → Attrs → Result Node Refusal
node_with nodes serial parent kind attrs = do
  single ← refuse_if (has_id nodes attrs.id) refusal.DuplicateId
  few ← refuse_if (nat_le NODES (length nodes)) refusal.TooManyElements
  light ← refuse_if
      (nat_lt REFERENCES (references nodes + references_among attrs)) refusal.TooManyReferences
  Ok (node_of serial parent kind attrs)

-- the outline with the node of a line, where it has one
abbrev pub node_kept : Outline → ℕ → Result Node Refusal → Result Outline Refusal
node_kept outline depth (Ok node) = Ok (with_node outline depth node)
node_kept outline depth (Err refusal) = Err refusal

-- a shape whose attributes stand in a line
abbrev pub IsInLine : Shape → Type 0
IsInLine shape = AllWithin (LINE_BYTES + 1) shape.attributes

-- the greatest column that a fault of a line names
abbrev pub last_column : ℕ
last_column = LINE_BYTES + 3

-- a column that a line can have
abbrev pub IsNear : NodeFault → Type 0
IsNear (Unsupported column) = column ≤ last_column
IsNear (UnknownAttribute column) = column ≤ last_column
IsNear (BadValue column) = column ≤ last_column
IsNear (TooManyItems column) = column ≤ last_column
IsNear _ = Unit {0}

-- a refusal whose column, where it has one, a line has behind its spaces
abbrev pub HasNearColumn : Refusal → Type 0
HasNearColumn (refusal.UnknownAttribute column) = column ≤ 2 * last_column
HasNearColumn (refusal.Unsupported column) = column ≤ 2 * last_column
HasNearColumn (refusal.BadValue column) = column ≤ 2 * last_column
HasNearColumn (refusal.TooManyItems column) = column ≤ 2 * last_column
HasNearColumn _ = Unit {0}
