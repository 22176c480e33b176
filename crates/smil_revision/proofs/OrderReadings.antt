-- What a call reads of an order's line is the reading, and its fault the refusal.
use Rattle.std.proofs.Common.{◌≡◌, ℕ, ◌+◌, ◌-◌, ◌<◌, List, [], length, Result, Ok, Err, refl, sym, ap, ◌∙◌, arith}
use Rattle.std.specs.Prelude.{IfErr, Bool, true, false, cond, Option, Some}
use Rattle.smil_model.specs.declared.document.Kind.{Kind}
use Rattle.smil_model.specs.declared.document.Attr.{Attr}
use Rattle.smil_model.specs.declared.document.Attrs.{Attrs}
use Rattle.smil_model.specs.declared.order.Refusal.TheVariants as refusal
use Rattle.smil_model.specs.shown.Answers.{IsText, IsColumn}
use Rattle.smil_model.specs.document.Edits.{no_attrs}
use Rattle.smil_model.specs.document.Valid.{may_stand}
use Rattle.smil_model.specs.document.Values.{is_seq_parent}
use Rattle.smil_model.specs.declared.limits.TheConstants.{TEXT_BYTES}
use Rattle.smil_grammar.specs.declared.fault.AttrFault.{AttrFault}
use Rattle.smil_grammar.specs.declared.fault.AttrFault.TheVariants as attr_fault
use Rattle.smil_grammar.specs.declared.fault.NodeFault.{NodeFault}
use Rattle.smil_grammar.specs.declared.fault.NodeFault.TheVariants as node_fault
use Rattle.smil_grammar.specs.Attributes.{attr_name_of}
use Rattle.smil_grammar.specs.Formats.{written_at, attr_in_line, name_in_line, kind_in_line, attrs_in_line}
use Rattle.smil_grammar.specs.Gives.{GivesAttr, GivesNode, GivesReading}
use Rattle.smil_grammar.specs.Nodes.{Shape, at_column, attribute_of, attrs_from, attrs_of, kind_of, node_of, shape_of}
use Rattle.smil_grammar.specs.Outlines.{in_line, refused}
use Rattle.smil_grammar.specs.Results.{◌>>=◌}
use Rattle.smil_outline.proofs.FaultColumns.{AttrPlace, name_near, attribute_near, FaultWithin}
use Rattle.smil_revision.specs.Refusing.{of_value, IsPlaced, IsInText}
use Rattle.smil_revision.proofs.LineFaults.{kind_in, node_in}

-- ---- attributes

placed : (m : ℕ) (e : AttrFault) → m < TEXT_BYTES → AttrPlace m e → IsPlaced e
placed m attr_fault.UnknownAttribute le h = tt
placed m attr_fault.UnsupportedName le h = tt
placed m (attr_fault.UnsupportedValue place) le h = omega arith
placed m (attr_fault.BadValue place) le h = omega arith
placed m attr_fault.TooManyItems le h = tt
placed m attr_fault.Memory le h = tt

placed_in : {A : Type 0} (m : ℕ) (e : AttrFault) (reading : Result A AttrFault) → m < TEXT_BYTES → GivesAttr {A = A} (Err e) reading → IfErr reading (AttrPlace m) → IsPlaced e
placed_in m attr_fault.Memory reading le given h = tt
placed_in m attr_fault.UnknownAttribute reading le given h = tt
placed_in m attr_fault.UnsupportedName reading le given h = tt
placed_in m attr_fault.TooManyItems reading le given h = tt
placed_in m (attr_fault.UnsupportedValue place) reading le given h = placed m (attr_fault.UnsupportedValue place) le (rw given at h)
placed_in m (attr_fault.BadValue place) reading le given h = placed m (attr_fault.BadValue place) le (rw given at h)

pub value_placed : (in_seq : Bool) (k : Kind) (name value : List ℕ) (e : AttrFault) → IsText value → GivesAttr {A = Attr} (Err e) (attribute_of in_seq k name value) → IsPlaced e
value_placed in_seq k name value e le given = placed_in (length value) e (attribute_of in_seq k name value) le given (attribute_near in_seq k name value)

pub name_placed : (k : Kind) (name : List ℕ) (e : AttrFault) → Err e ≡ attr_name_of k name → IsPlaced e
name_placed k name e given = placed 0 e (omega arith) (rw (sym given) at (name_near 0 k name))

-- a fault at its column is the refusal
at_refused : {A : Type 0} (name value : List ℕ) (name_column column : ℕ) (e : AttrFault) → IsColumn name_column → IsColumn column → IsPlaced e → in_line {A = A} 0 (at_column (written_at name value name_column column) (Err e)) ≡ Err (of_value name_column column e)
at_refused name value nc c attr_fault.UnknownAttribute h k p = ap (λ n. Err (refusal.UnknownAttribute n)) (omega (arith, h.0, h.1))
at_refused name value nc c attr_fault.UnsupportedName h k p = ap (λ n. Err (refusal.Unsupported n)) (omega (arith, h.0, h.1))
at_refused name value nc c (attr_fault.UnsupportedValue place) h k p = ap (λ n. Err (refusal.Unsupported n)) (omega (arith, k.0, k.1))
at_refused name value nc c (attr_fault.BadValue place) h k p = ap (λ n. Err (refusal.BadValue n)) (omega (arith, k.0, k.1))
at_refused name value nc c attr_fault.TooManyItems h k p = ap (λ n. Err (refusal.TooManyItems n)) (omega (arith, k.0, k.1))
at_refused name value nc c attr_fault.Memory h k p = refl

in_line_at : {A : Type 0} (name value : List ℕ) (name_column column : ℕ) (e : AttrFault) (reading : Result A AttrFault) → IsColumn name_column → IsColumn column → IsPlaced e → reading ≡ Err e → in_line 0 (at_column (written_at name value name_column column) reading) ≡ Err (of_value name_column column e)
in_line_at {A} name value nc c e reading h k p given = ap (λ (r : Result A AttrFault). in_line 0 (at_column (written_at name value nc c) r)) given ∙ at_refused {A = A} name value nc c e h k p

pub value_refused : (kind : Kind) (parent : Option Kind) (name value : List ℕ) (name_column column : ℕ) (e : AttrFault) → IsColumn name_column → IsColumn column → IsPlaced e → GivesAttr {A = Attr} (Err e) (attribute_of (is_seq_parent parent) kind name value) → GivesReading {A = Attr} (Err (of_value name_column column e)) (attr_in_line kind parent name value name_column column)
value_refused kind parent name value nc c attr_fault.Memory h k p given = tt
value_refused kind parent name value nc c attr_fault.UnknownAttribute h k p given = in_line_at name value nc c attr_fault.UnknownAttribute _ h k p given
value_refused kind parent name value nc c attr_fault.UnsupportedName h k p given = in_line_at name value nc c attr_fault.UnsupportedName _ h k p given
value_refused kind parent name value nc c (attr_fault.UnsupportedValue place) h k p given = in_line_at name value nc c (attr_fault.UnsupportedValue place) _ h k p given
value_refused kind parent name value nc c (attr_fault.BadValue place) h k p given = in_line_at name value nc c (attr_fault.BadValue place) _ h k p given
value_refused kind parent name value nc c attr_fault.TooManyItems h k p given = in_line_at name value nc c attr_fault.TooManyItems _ h k p given

pub name_refused : (kind : Kind) (name : List ℕ) (column : ℕ) (e : AttrFault) → IsColumn column → IsPlaced e → Err e ≡ attr_name_of kind name → Err (of_value column column e) ≡ name_in_line kind name column
name_refused kind name column e h p given = sym (in_line_at name [] column column e (attr_name_of kind name) h h p (sym given))

-- ---- node lines

in_text : (m : ℕ) (e : NodeFault) → m < TEXT_BYTES → FaultWithin (m + 2) e → IsInText e
in_text m node_fault.BadOutline le h = tt
in_text m (node_fault.Unsupported column) le h = omega arith
in_text m node_fault.BadPlace le h = tt
in_text m (node_fault.UnknownAttribute column) le h = omega arith
in_text m (node_fault.BadValue column) le h = omega arith
in_text m (node_fault.TooManyItems column) le h = omega arith
in_text m node_fault.Memory le h = tt

pub kind_in_text : (line : List ℕ) (e : NodeFault) → IsText line → Err e ≡ kind_of line → IsInText e
kind_in_text line e le given = in_text (length line) e le (rw (sym given) at (kind_in line))

node_within : (m : ℕ) (e : NodeFault) (reading : Result (Kind × Attrs) NodeFault) → m < TEXT_BYTES → GivesNode {A = Kind × Attrs} (Err e) reading → IfErr reading (FaultWithin (m + 2)) → IsInText e
node_within m node_fault.Memory reading le given h = tt
node_within m node_fault.BadOutline reading le given h = tt
node_within m node_fault.BadPlace reading le given h = tt
node_within m (node_fault.Unsupported column) reading le given h = in_text m (node_fault.Unsupported column) le (rw given at h)
node_within m (node_fault.UnknownAttribute column) reading le given h = in_text m (node_fault.UnknownAttribute column) le (rw given at h)
node_within m (node_fault.BadValue column) reading le given h = in_text m (node_fault.BadValue column) le (rw given at h)
node_within m (node_fault.TooManyItems column) reading le given h = in_text m (node_fault.TooManyItems column) le (rw given at h)

pub node_in_text : (parent : Option Kind) (line : List ℕ) (e : NodeFault) → IsText line → GivesNode {A = Kind × Attrs} (Err e) (node_of parent line) → IsInText e
node_in_text parent line e le given = node_within (length line) e (node_of parent line) le given (node_in parent line)

pub kind_refused : (line : List ℕ) (column : ℕ) (e : NodeFault) → Err e ≡ kind_of line → Err (refused (column - 1) e) ≡ kind_in_line line column
kind_refused line column e given = ap (in_line (column - 1)) given

attrs_at : (column : ℕ) (e : NodeFault) (reading : Result (Kind × Attrs) NodeFault) → reading ≡ Err e → in_line (column - 1) (reading >>= λ node. Ok node.1) ≡ Err (refused (column - 1) e)
attrs_at column e reading given = ap (λ (r : Result (Kind × Attrs) NodeFault). in_line (column - 1) (r >>= λ node. Ok node.1)) given

pub attrs_refused : (parent : Kind) (line : List ℕ) (column : ℕ) (e : NodeFault) → GivesNode {A = Kind × Attrs} (Err e) (node_of (Some parent) line) → GivesReading {A = Attrs} (Err (refused (column - 1) e)) (attrs_in_line parent line column)
attrs_refused parent line column node_fault.Memory given = tt
attrs_refused parent line column node_fault.BadOutline given = attrs_at column node_fault.BadOutline _ given
attrs_refused parent line column node_fault.BadPlace given = attrs_at column node_fault.BadPlace _ given
attrs_refused parent line column (node_fault.Unsupported place) given = attrs_at column (node_fault.Unsupported place) _ given
attrs_refused parent line column (node_fault.UnknownAttribute place) given = attrs_at column (node_fault.UnknownAttribute place) _ given
attrs_refused parent line column (node_fault.BadValue place) given = attrs_at column (node_fault.BadValue place) _ given
attrs_refused parent line column (node_fault.TooManyItems place) given = attrs_at column (node_fault.TooManyItems place) _ given

-- a node line by its shape and its kind
module _ (parent kind : Kind) (line : List ℕ) (shape : Shape) (shape_is : shape_of line ≡ Some shape) (kind_is : kind_of line ≡ Ok kind) where
  abbrev from_shape : Result Attrs NodeFault
  from_shape = attrs_from (is_seq_parent (Some parent)) kind no_attrs shape.attributes

  abbrev paired : Result Attrs NodeFault → Result (Kind × Attrs) NodeFault
  paired r = r >>= λ attrs. Ok (kind, attrs)

  by_shape : node_of (Some parent) line ≡ cond (may_stand (Some parent) kind) (paired from_shape) (Err node_fault.BadPlace)
  by_shape =
      ap (λ (r : Result Kind NodeFault). r >>= λ k. attrs_of (Some parent) k (shape_of line)) kind_is
      ∙ ap (attrs_of (Some parent) kind) shape_is

  pub misplaced_node : may_stand (Some parent) kind ≡ false → node_of (Some parent) line ≡ Err node_fault.BadPlace
  misplaced_node none = by_shape ∙ ap (λ (t : Bool). cond t (paired from_shape) (Err node_fault.BadPlace)) none

  placed_node : (r : Result Attrs NodeFault) → may_stand (Some parent) kind ≡ true → from_shape ≡ r → node_of (Some parent) line ≡ paired r
  placed_node r may given = by_shape ∙ ap (λ (t : Bool). cond t (paired from_shape) (Err node_fault.BadPlace)) may ∙ ap paired given

  pub node_refused : (e : NodeFault) → may_stand (Some parent) kind ≡ true → GivesNode {A = Attrs} (Err e) from_shape → GivesNode {A = Kind × Attrs} (Err e) (node_of (Some parent) line)
  node_refused node_fault.Memory may given = tt
  node_refused node_fault.BadOutline may given = placed_node (Err node_fault.BadOutline) may given
  node_refused node_fault.BadPlace may given = placed_node (Err node_fault.BadPlace) may given
  node_refused (node_fault.Unsupported column) may given = placed_node (Err (node_fault.Unsupported column)) may given
  node_refused (node_fault.UnknownAttribute column) may given = placed_node (Err (node_fault.UnknownAttribute column)) may given
  node_refused (node_fault.BadValue column) may given = placed_node (Err (node_fault.BadValue column)) may given
  node_refused (node_fault.TooManyItems column) may given = placed_node (Err (node_fault.TooManyItems column)) may given

  pub attrs_read : (attrs : Attrs) (column : ℕ) → may_stand (Some parent) kind ≡ true → from_shape ≡ Ok attrs → attrs_in_line parent line column ≡ Ok attrs
  attrs_read attrs column may given =
      ap (λ (r : Result (Kind × Attrs) NodeFault). in_line (column - 1) (r >>= λ node. Ok node.1)) (placed_node (Ok attrs) may given)
