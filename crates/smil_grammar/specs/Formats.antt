-- How an order's values and node lines are read. A place is counted from 0,
-- and its column in the order's line is the sum of the place in the text and the column at which
-- the text begins.
use Rattle.std.specs.Prelude.{ℕ, ◌-◌, List, [], Option, Some, Result, Ok}
use Rattle.smil_model.specs.declared.document.Kind.{Kind}
use Rattle.smil_model.specs.declared.document.Attr.{Attr}
use Rattle.smil_model.specs.declared.document.AttrName.{AttrName}
use Rattle.smil_model.specs.declared.document.Attrs.{Attrs}
use Rattle.smil_model.specs.declared.order.Refusal.{Refusal}
use Rattle.smil_model.specs.shown.Orders.{Formats}
use Rattle.smil_model.specs.document.Values.{is_seq_parent}
use Rattle.smil_grammar.specs.Results.{◌>>=◌}
use Rattle.smil_grammar.specs.Attributes.{attr_name_of}
use Rattle.smil_grammar.specs.Nodes.{WrittenAttr, at_column, attr_of, kind_of, node_of}
use Rattle.smil_grammar.specs.Outlines.{in_line, outline_text, saved_text}

-- an attribute whose name and value begin at these columns
abbrev pub written_at : List ℕ → List ℕ → ℕ → ℕ → WrittenAttr
written_at name value name_column column = record {
  name = name;
  name_place = name_column - 1;
  value = value;
  value_place = column - 1;
}

-- the attribute of a node of this kind under this parent
abbrev pub attr_in_line : Kind → Option Kind → List ℕ → List ℕ → ℕ → ℕ → Result Attr Refusal
attr_in_line kind parent name value name_column column =
    in_line 0 (attr_of (is_seq_parent parent) kind (written_at name value name_column column))

-- the name of an attribute of a node of this kind
abbrev pub name_in_line : Kind → List ℕ → ℕ → Result AttrName Refusal
name_in_line kind name column =
    in_line 0 (at_column (written_at name [] column column) (attr_name_of kind name))

-- the kind of a node line that begins at this column
abbrev pub kind_in_line : List ℕ → ℕ → Result Kind Refusal
kind_in_line line column = in_line (column - 1) (kind_of line)

-- the attributes of a node line that begins at this column, under a parent of this kind
abbrev pub attrs_in_line : Kind → List ℕ → ℕ → Result Attrs Refusal
attrs_in_line parent line column =
    in_line (column - 1) (node_of (Some parent) line >>= λ node. Ok node.1)

-- the grammars of values and node lines, and the canonical outline
abbrev pub formats : Formats
formats = record {
  read_attr = attr_in_line;
  read_name = name_in_line;
  read_kind = kind_in_line;
  read_attrs = attrs_in_line;
  outline = outline_text;
  saved = saved_text;
}
