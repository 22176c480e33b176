-- Node lines: a kind, and attributes as ` name="value"`.
-- Behind the kind the line is cut at each quote: what stands before an opening quote is spaces,
-- a name and `=`, what stands before a closing one is a value,
-- and behind the last quote are spaces.
use Rattle.std.specs.Prelude.{ℕ, ◌+◌, ◌-◌, Bool, false, not, ◌&&◌, ◌||◌, List, [], ◌∷◌, length, take, drop, Option, Some, None, option_and_then, Result, Ok, Err, nat_lt, min, ◌==◌, if◌then◌else◌, codes, bytes_eq}
use Rattle.std.specs.List.{prefix_len, slice_split, list_all, list_any}
use Rattle.std.specs.Str.{is_utf8}
use Rattle.smil_model.specs.declared.document.Kind.{Kind}
use Rattle.smil_model.specs.declared.document.Attr.{Attr}
use Rattle.smil_model.specs.declared.document.Attrs.{Attrs}
use Rattle.smil_model.specs.document.Edits.{with_attr, no_attrs}
use Rattle.smil_model.specs.document.Values.{is_seq_parent}
use Rattle.smil_model.specs.document.Valid.{may_stand}
use Rattle.smil_model.specs.document.Words.{number_sign}
use Rattle.smil_grammar.specs.declared.fault.AttrFault.{AttrFault}
use Rattle.smil_grammar.specs.declared.fault.AttrFault.TheVariants as attr
use Rattle.smil_grammar.specs.declared.fault.NodeFault.{NodeFault}
use Rattle.smil_grammar.specs.declared.fault.NodeFault.TheVariants.{BadOutline, Unsupported, BadPlace, UnknownAttribute, BadValue, TooManyItems, Memory}
use Rattle.smil_grammar.specs.Texts.{space, quote, behind}
use Rattle.smil_grammar.specs.Items.{count_of}
use Rattle.std.specs.Char.{is_ascii_digit}
use Rattle.smil_grammar.specs.Results.{◌>>=◌}
use Rattle.smil_grammar.specs.Attributes.{kind_called, is_other_kind, attr_name_of}
use Rattle.smil_grammar.specs.Values.{value_of}

-- whether a byte is a space
abbrev pub is_space : ℕ → Bool
is_space b = b == space

-- whether a byte isn't a space
abbrev pub is_no_space : ℕ → Bool
is_no_space b = not (b == space)

-- an attribute as it is written, with the places of its name and its value in the line
pub record WrittenAttr : Type 0 where
  pub name : List ℕ
  pub name_place : ℕ
  pub value : List ℕ
  pub value_place : ℕ

-- a word and `=` behind it
abbrev pub is_named : List ℕ → Bool
is_named run =
    nat_lt 1 (length run) && bytes_eq (drop (length run - 1) run) (codes "=")
    && list_all is_no_space run && is_utf8 run

-- spaces, a name and `=`, at this place of the line
abbrev pub attribute_at : ℕ → List ℕ → List ℕ → Option WrittenAttr
attribute_at place lead value =
    let spaces : ℕ = prefix_len is_space lead in
    let run : List ℕ = drop spaces lead in
    if nat_lt 0 spaces && is_named run
    then Some (record {
      name = take (length run - 1) run;
      name_place = place + spaces;
      value = value;
      value_place = place + length lead + 1;
    })
    else None

-- an attribute before others, where both are there
abbrev pub with_written : Option WrittenAttr → Option (List WrittenAttr) → Option (List WrittenAttr)
with_written (Some attribute) (Some attributes) = Some (attribute ∷ attributes)
with_written _ _ = None

-- the pieces between quotes, from this place of the line on
abbrev pub attributes_at : ℕ → List (List ℕ) → Option (List WrittenAttr)
attributes_at place [] = None
attributes_at place (last ∷ []) = if list_all is_space last then Some [] else None
attributes_at place (lead ∷ value ∷ pieces) =
    with_written (attribute_at place lead value)
    (attributes_at (place + length lead + length value + 2) pieces)

-- a kind, and the attributes behind it
pub record Shape : Type 0 where
  pub kind : List ℕ
  pub attributes : List WrittenAttr

-- the shape of a kind, which has a byte at least, and the attributes behind it
abbrev pub shaped : List ℕ → Option (List WrittenAttr) → Option Shape
shaped kind None = None
shaped kind (Some attributes) =
    if nat_lt 0 (length kind) && is_utf8 kind
    then Some (record { kind = kind; attributes = attributes })
    else None

-- a byte of a kind
abbrev pub is_of_kind : ℕ → Bool
is_of_kind b = not (b == space) && not (b == quote)

-- the text is cut at each quote
abbrev pub quote_pieces : List ℕ → List (List ℕ)
quote_pieces text = slice_split (λ b. b == quote) text

-- the kind is what stands before the first space or quote
abbrev pub shape_of : List ℕ → Option Shape
shape_of line =
    let kind : ℕ = prefix_len is_of_kind line in
    shaped (take kind line) (attributes_at kind (quote_pieces (drop kind line)))

-- a shape and its serial, where both are there
abbrev pub with_serial : Option ℕ → Option Shape → Option (ℕ × Shape)
with_serial (Some serial) (Some shape) = Some (serial, shape)
with_serial _ _ = None

-- the shape of a kind and what stands behind ` #`: the serial, and the attributes
abbrev pub shape_behind : List ℕ → Option (List ℕ) → Option (ℕ × Shape)
shape_behind kind None = None
shape_behind kind (Some text) =
    let digits : ℕ = prefix_len is_ascii_digit text in
    with_serial (count_of (take digits text))
    (shaped kind (attributes_at (length kind + 2 + digits) (quote_pieces (drop digits text))))

-- where serials are given: the serial, and the shape without it and the ` #` before it
abbrev pub saved_shape_of : List ℕ → Option (ℕ × Shape)
saved_shape_of line =
    let kind : ℕ = prefix_len is_of_kind line in
    shape_behind (take kind line)
    (option_and_then (behind number_sign) (behind space (drop kind line)))

-- whether a name stands twice
abbrev pub repeats : List WrittenAttr → Bool
repeats [] = false
repeats (attribute ∷ attributes) =
    list_any (λ (other : WrittenAttr). bytes_eq other.name attribute.name) attributes
    || repeats attributes

-- the kind of a word, or its fault, which tells elements of SMIL that are left out
abbrev pub kind_or : List ℕ → Option Kind → Result Kind NodeFault
kind_or word (Some kind) = Ok kind
kind_or word None = if is_other_kind word then Err (Unsupported 1) else Err BadOutline

-- the kind of a shape: a line without a shape and a name that stands twice come before its fault
abbrev pub kind_of_shape : Option Shape → Result Kind NodeFault
kind_of_shape None = Err BadOutline
kind_of_shape (Some shape) =
    if repeats shape.attributes then Err BadOutline else kind_or shape.kind (kind_called shape.kind)

-- the kind of a node line
abbrev pub kind_of : List ℕ → Result Kind NodeFault
kind_of line = kind_of_shape (shape_of line)

-- a column is counted from 1, up to the greatest number of 32 bits
abbrev pub column_at : ℕ → ℕ
column_at place = min (place + 1) 4_294_967_295

-- a fault with its column
abbrev pub at_column : {A : Type 0} → WrittenAttr → Result A AttrFault → Result A NodeFault
at_column written (Ok x) = Ok x
at_column written (Err attr.UnknownAttribute) =
    Err (UnknownAttribute (column_at written.name_place))
at_column written (Err attr.UnsupportedName) = Err (Unsupported (column_at written.name_place))
at_column written (Err (attr.UnsupportedValue place)) =
    Err (Unsupported (column_at (written.value_place + place)))
at_column written (Err (attr.BadValue place)) =
    Err (BadValue (column_at (written.value_place + place)))
at_column written (Err attr.TooManyItems) = Err (TooManyItems (column_at written.value_place))
at_column written (Err attr.Memory) = Err Memory

-- an attribute by its name and its value
abbrev pub attribute_of : Bool → Kind → List ℕ → List ℕ → Result Attr AttrFault
attribute_of in_seq k name value = attr_name_of k name >>= λ n. value_of in_seq n value

-- the attribute that is written, or its fault with its column
abbrev pub attr_of : Bool → Kind → WrittenAttr → Result Attr NodeFault
attr_of in_seq k written = at_column written (attribute_of in_seq k written.name written.value)

-- from left to right, up to the first fault
abbrev pub attrs_from : Bool → Kind → Attrs → List WrittenAttr → Result Attrs NodeFault
attrs_from in_seq k attrs [] = Ok attrs
attrs_from in_seq k attrs (written ∷ others) =
    attr_of in_seq k written >>= λ given. attrs_from in_seq k (with_attr attrs given) others

-- the kind and the attributes of a shape, below a parent
abbrev pub attrs_of : Option Kind → Kind → Option Shape → Result (Kind × Attrs) NodeFault
attrs_of parent k None = Err BadOutline
attrs_of parent k (Some shape) =
    if may_stand parent k
    then (attrs_from (is_seq_parent parent) k no_attrs shape.attributes >>= λ attrs. Ok (k, attrs))
    else Err BadPlace

-- a node line without leading spaces, below a parent
abbrev pub node_of : Option Kind → List ℕ → Result (Kind × Attrs) NodeFault
node_of parent line = kind_of line >>= λ k. attrs_of parent k (shape_of line)
