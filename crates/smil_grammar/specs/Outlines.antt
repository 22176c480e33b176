-- Outlines: node lines, two spaces deeper for each level, give a document, or the first fault.
use Rattle.std.specs.Prelude.{ℕ, ◌+◌, ◌-◌, ◌/◌, ◌%◌, Bool, true, false, not, ◌&&◌, ◌||◌, List, [], ◌∷◌, ◌++◌, length, take, drop, Option, Some, None, option_map, unwrap_or, is_some, Result, Ok, Err, nat_lt, nat_le, ◌==◌, if◌then◌else◌, bytes_eq, codes, flat_map, slice_get}
use Rattle.std.specs.List.{prefix_len, list_any, starts_with}
use Rattle.std.specs.Bool.{nat_eq}
use Rattle.smil_model.specs.declared.limits.TheConstants.{DEPTH, LINE_BYTES}
use Rattle.smil_model.specs.document.Limits.{Limits, limits}
use Rattle.smil_model.specs.declared.document.Kind.{Kind}
use Rattle.smil_model.specs.declared.document.Node.{Node}
use Rattle.smil_model.specs.declared.document.Attrs.{Attrs}
use Rattle.smil_model.specs.declared.order.Refusal.{Refusal}
use Rattle.smil_model.specs.declared.order.Refusal.TheVariants as refusal
use Rattle.smil_model.specs.document.Document.{Document, is_class_kind}
use Rattle.smil_grammar.specs.declared.fault.NodeFault.{NodeFault}
use Rattle.smil_grammar.specs.declared.fault.NodeFault.TheVariants as fault
use Rattle.smil_grammar.specs.declared.words.TheConstants.{HEADER}
use Rattle.smil_grammar.specs.Results.{◌>>=◌}
use Rattle.smil_grammar.specs.Nodes.{Shape, is_space, is_no_space, shape_of, saved_shape_of, kind_of_shape, attrs_from}
use Rattle.smil_grammar.specs.Items.{count_of}
use Rattle.smil_model.specs.document.Edits.{no_attrs}
use Rattle.smil_model.specs.document.Values.{is_seq_parent}
use Rattle.smil_model.specs.document.Valid.{may_stand, references, references_among, same_test}
use Rattle.smil_model.specs.document.Words.{line_feed}
use Rattle.smil_grammar.specs.Spellings.{node_text, saved_node_text, header_text}

-- the nodes so far, the serials and kinds of the last node and those above it, from the root down,
-- and the next serial where a header gives it
pub record Outline : Type 0 where
  pub nodes : List Node
  pub branch : List (ℕ × Kind)
  pub next : Option ℕ

-- before the first line
abbrev pub no_lines : Outline
no_lines = record { nodes = []; branch = []; next = None }

-- the refusal of a line whose node has this fault behind so many spaces
abbrev pub refused : ℕ → NodeFault → Refusal
refused spaces fault.BadOutline = refusal.BadOutline
refused spaces (fault.Unsupported column) = refusal.Unsupported (spaces + column)
refused spaces fault.BadPlace = refusal.BadPlace
refused spaces (fault.UnknownAttribute column) = refusal.UnknownAttribute (spaces + column)
refused spaces (fault.BadValue column) = refusal.BadValue (spaces + column)
refused spaces (fault.TooManyItems column) = refusal.TooManyItems (spaces + column)
refused spaces fault.Memory = refusal.Memory

-- a fault of a line without its leading spaces is a refusal of the line
abbrev pub in_line : {A : Type 0} → ℕ → Result A NodeFault → Result A Refusal
in_line spaces (Ok x) = Ok x
in_line spaces (Err e) = Err (refused spaces e)

-- refused where this holds
abbrev pub refuse_if : Bool → Refusal → Result (Unit {0}) Refusal
refuse_if true e = Err e
refuse_if false e = Ok tt

-- whether a node of this kind would make classes and other children stand below one parent
abbrev pub mixes : List Node → Option (ℕ × Kind) → Kind → Bool
mixes nodes None kind = false
mixes nodes (Some parent) kind =
    list_any
    (λ (n : Node). (n.parent == parent.0)
    && not (same_test (is_class_kind n.kind) (is_class_kind kind)))
    nodes

-- whether a node has this id already, where no id is the empty one
abbrev pub has_id : List Node → Option (List ℕ) → Bool
has_id nodes None = false
has_id nodes (Some id) = list_any (λ (n : Node). bytes_eq (unwrap_or n.attrs.id []) id) nodes

-- the last of a list
abbrev pub last_of : {A : Type 0} → List A → Option A
last_of items = slice_get items (length items - 1)

-- the attributes of a node below this one
abbrev pub attrs_in : Option (ℕ × Kind) → Kind → Shape → Result Attrs NodeFault
attrs_in parent kind shape =
    attrs_from
    (is_seq_parent (option_map (λ (n : ℕ × Kind). n.1) parent)) kind no_attrs shape.attributes

-- a node line as it is read, with its serial: the one that it gives, or the next in document order
abbrev pub shape_in : Outline → Option ℕ → List ℕ → Option (ℕ × Shape)
shape_in outline None text = option_map (λ shape. (length outline.nodes + 1, shape)) (shape_of text)
shape_in outline (Some next) text = saved_shape_of text

-- a serial has to be below the next one, and no line before may have it
abbrev pub is_bad_serial : Outline → Option ℕ → ℕ → Bool
is_bad_serial outline None serial = false
is_bad_serial outline (Some next) serial =
    not (nat_lt serial next) || list_any (λ (n : Node). n.serial == serial) outline.nodes

-- whether a node of this kind may not stand below these
abbrev pub is_misplaced : Outline → List (ℕ × Kind) → Kind → Bool
is_misplaced outline above kind =
    not (may_stand (option_map (λ (n : ℕ × Kind). n.1) (last_of above)) kind)
    || (length above == 0 && nat_lt 0 (length outline.nodes))
    || mixes outline.nodes (last_of above) kind

-- the node of a line below these nodes: its place, its attributes,
-- and what a document within these limits can hold
abbrev pub node_within : Limits → Outline → ℕ → List (ℕ × Kind) → Kind → ℕ → Shape
    → Result Node Refusal
node_within allowed outline spaces above kind serial shape = do
  placed ← refuse_if (is_misplaced outline above kind) refusal.BadPlace
  attrs ← in_line spaces (attrs_in (last_of above) kind shape)
  single ← refuse_if (has_id outline.nodes attrs.id) refusal.DuplicateId
  few ← refuse_if (nat_le allowed.nodes (length outline.nodes)) refusal.TooManyElements
  light ← refuse_if (nat_lt allowed.references (references outline.nodes + references_among attrs))
      refusal.TooManyReferences
  Ok (record {
    serial = serial;
    kind = kind;
    parent = unwrap_or (option_map (λ (n : ℕ × Kind). n.0) (last_of above)) 0;
    attrs = attrs;
  })

-- the header of an outline that gives serials: the next serial
abbrev pub header_of : List ℕ → Option ℕ
header_of line =
    if starts_with nat_eq line HEADER.now
    then count_of (drop (length HEADER.now) line)
    else None

-- a first line whose first word is `outline` is a header, or faulty
abbrev pub opens_saved : Outline → List ℕ → Bool
opens_saved outline line =
    let text : List ℕ = drop (prefix_len is_space line) line in
    not (is_some outline.next) && (length outline.nodes == 0)
    && bytes_eq (take (prefix_len is_no_space text) text) (codes "outline")

-- the outline with the next serial that its header gives
abbrev pub with_header : Outline → Option ℕ → Result Outline Refusal
with_header outline None = Err refusal.BadOutline
with_header outline (Some next) = Ok (record outline { next = Some next })

-- the outline with one more node of this depth
abbrev pub with_node : Outline → ℕ → Node → Outline
with_node outline depth node = record outline {
  nodes = outline.nodes ++ node ∷ [];
  branch = take depth outline.branch ++ (node.serial, node.kind) ∷ [];
}

-- a node line of this shape
abbrev pub shape_within : Limits → Outline → ℕ → Option (ℕ × Shape) → Result Outline Refusal
shape_within allowed outline spaces None = Err refusal.BadOutline
shape_within allowed outline spaces (Some (serial, shape)) = do
  even ← refuse_if (spaces % 2 == 1) refusal.BadOutline
  kind ← in_line spaces (kind_of_shape (Some shape))
  fresh ← refuse_if (is_bad_serial outline outline.next serial) refusal.BadSerial
  near ← refuse_if (nat_lt (length outline.branch) (spaces / 2)) refusal.DepthJump
  flat ← refuse_if (nat_le DEPTH (spaces / 2)) refusal.TooDeep
  node ← node_within allowed outline spaces (take (spaces / 2) outline.branch) kind serial shape
  Ok (with_node outline (spaces / 2) node)

-- one more line that isn't too long: a header, or a node line
abbrev pub read_within : Limits → Outline → List ℕ → Result Outline Refusal
read_within allowed outline line =
    let spaces : ℕ = prefix_len is_space line in
    if opens_saved outline line then with_header outline (header_of line)
    else shape_within allowed outline spaces (shape_in outline outline.next (drop spaces line))

-- one more line
abbrev pub line_within : Limits → Outline → List ℕ → Result Outline Refusal
line_within allowed outline line = do
  short ← refuse_if (nat_lt LINE_BYTES (length line)) refusal.LongLine
  read_within allowed outline line

-- line by line, up to the first refusal
abbrev pub lines_within : Limits → Outline → List (List ℕ) → Result Outline Refusal
lines_within allowed outline [] = Ok outline
lines_within allowed outline (line ∷ lines) =
    line_within allowed outline line >>= λ more. lines_within allowed more lines

-- the same within the limits that hold
abbrev pub with_line : Outline → List ℕ → Result Outline Refusal
with_line outline line = line_within limits outline line

-- line by line within the limits that hold
abbrev pub with_lines : Outline → List (List ℕ) → Result Outline Refusal
with_lines outline lines = lines_within limits outline lines

-- an outline without a node is none
abbrev pub ended : Outline → Result Document Refusal
ended outline =
    if length outline.nodes == 0 then Err refusal.BadOutline
    else Ok
    (record { nodes = outline.nodes; next = unwrap_or outline.next (length outline.nodes + 1) })

-- the version of an outline: 2 where a header gives serials
abbrev pub version_of : Outline → ℕ
version_of outline = if is_some outline.next then 2 else 1

-- the document of an outline within these limits, or its first refusal
abbrev pub outline_within : Limits → List (List ℕ) → Result Document Refusal
outline_within allowed lines = lines_within allowed no_lines lines >>= ended

-- the same within the limits that hold
abbrev pub outline_of : List (List ℕ) → Result Document Refusal
outline_of lines = outline_within limits lines

-- how deep each node stands: one deeper than its parent, which stands before it
abbrev pub depth_among : List (ℕ × ℕ) → ℕ → ℕ
depth_among [] parent = 0
depth_among ((serial, depth) ∷ others) parent =
    if serial == parent then depth + 1 else depth_among others parent

-- the node lines of nodes in document order, which stand behind those of these depths
abbrev pub lines_from : List (ℕ × ℕ) → List Node → List (List ℕ)
lines_from depths [] = []
lines_from depths (n ∷ nodes) =
    let depth : ℕ = depth_among depths n.parent in
    node_text depth n.kind n.attrs ∷ lines_from ((n.serial, depth) ∷ depths) nodes

-- the same with their serials
abbrev pub saved_lines_from : List (ℕ × ℕ) → List Node → List (List ℕ)
saved_lines_from depths [] = []
saved_lines_from depths (n ∷ nodes) =
    let depth : ℕ = depth_among depths n.parent in
    saved_node_text depth n.kind n.serial n.attrs
    ∷ saved_lines_from ((n.serial, depth) ∷ depths) nodes

-- the canonical outline of a document with its serials and its next serial
abbrev pub saved_text : Document → List ℕ
saved_text document =
    flat_map (λ line. line ++ line_feed ∷ []) (header_text document.next
    ∷ saved_lines_from [] document.nodes)

-- the canonical outline: each line ends with a line feed
abbrev pub outline_text : List Node → List ℕ
outline_text nodes = flat_map (λ line. line ++ line_feed ∷ []) (lines_from [] nodes)
