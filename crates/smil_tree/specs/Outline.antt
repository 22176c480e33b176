-- What is read most of each node, kept by its place.
use Rattle.std.specs.Prelude.{◌≡◌, ℕ, ◌≤◌, ◌==◌, List, take, length, sum_by, Bool, true, false, if◌then◌else◌, Option, Some, None, option_and_then, slice_get, slice_range}
use Rattle.std.specs.List.{position}
use Rattle.std.specs.Vec.{vec_capacity}
use Rattle.smil_model.specs.declared.document.Attr.{Attr}
use Rattle.smil_model.specs.declared.document.Attr.TheVariants as attr
use Rattle.smil_model.specs.declared.document.AttrName.{AttrName}
use Rattle.smil_model.specs.declared.document.AttrName.TheVariants as name
use Rattle.smil_model.specs.declared.document.Attrs.{Attrs}
use Rattle.smil_model.specs.declared.document.Node.{Node}
use Rattle.smil_model.specs.declared.document.Restart.{Restart}
use Rattle.smil_model.specs.declared.document.Restart.TheVariants.{Always}
use Rattle.smil_model.specs.declared.document.Fill.{Fill}
use Rattle.smil_model.specs.declared.document.Fill.TheVariants.{Auto}
use Rattle.smil_model.specs.document.Document.{node_at, is_element, is_class_kind, elements, serials, time_parent, time_children}
use Rattle.smil_model.specs.document.Defaults.{default_restart, default_fill, restart_of, restart_stated, fill_of, fill_stated}
use Rattle.smil_model.specs.document.Edits.{place_in, child_place}
use Rattle.smil_tree.specs.declared.outline.Placed.{Placed}
use Rattle.smil_tree.specs.declared.outline.OutlineRow.{OutlineRow}
use Rattle.smil_tree.specs.declared.outline.Above.{Above}
use Rattle.smil_tree.specs.declared.outline.Outline.{Outline}

-- a node with its place, if there is one
abbrev pub placed : List Node → Option Node → Option Placed
placed nodes None = None
placed nodes (Some n) = Some (record { place = place_in nodes n.serial; serial = n.serial })

-- the place of the time parent in document order
abbrev pub parent_place : List Node → ℕ → Option ℕ
parent_place nodes serial =
    option_and_then (λ (p : Node). position (λ (n : Node). n.serial == p.serial) nodes)
    (time_parent nodes serial)

-- the row is that of this node, which stands at this place
pub record IsRowOf (nodes : List Node) (place : ℕ) (n : Node) (row : OutlineRow) : Type 0 where
  pub kind : row.kind ≡ n.kind
  pub parent : row.parent ≡ placed nodes (time_parent nodes n.serial)
  pub past : row.past ≡ child_place nodes n.serial None
  pub index : row.index ≡ length (elements (take place nodes))
  pub restart : row.restart ≡ restart_of nodes n
  pub fill : row.fill ≡ fill_of nodes n
  pub default_restart : row.default_restart ≡ default_restart nodes n.serial
  pub default_fill : row.default_fill ≡ default_fill nodes n.serial

-- the part of the list that a row leads to
abbrev pub children_at : List ℕ → OutlineRow → List ℕ
children_at children row = slice_range children row.children_start row.children_end

-- it leads to the serials of the time children of this node
pub record HasChildren (nodes : List Node) (children : List ℕ) (n : Node) (row : OutlineRow) : Type 0 where
  pub in_order : row.children_start ≤ row.children_end
  pub within : row.children_end ≤ length children
  pub listed : children_at children row ≡ serials (time_children nodes n.serial)

-- whether a row is read from this attribute
abbrev pub reads : Attr → Bool
reads (attr.Restart v) = true
reads (attr.Fill v) = true
reads (attr.RestartDefault v) = true
reads (attr.FillDefault v) = true
reads _ = false

-- the same by its name
abbrev pub reads_name : AttrName → Bool
reads_name name.Restart = true
reads_name name.Fill = true
reads_name name.RestartDefault = true
reads_name name.FillDefault = true
reads_name _ = false

-- a change of attributes leaves those that the rows are read from
pub record KeepsRows (change : Attrs → Attrs) : Type 0 where
  pub restart : (attrs : Attrs) → (change attrs).restart ≡ attrs.restart
  pub fill : (attrs : Attrs) → (change attrs).fill ≡ attrs.fill
  pub restart_default : (attrs : Attrs) → (change attrs).restart_default ≡ attrs.restart_default
  pub fill_default : (attrs : Attrs) → (change attrs).fill_default ≡ attrs.fill_default

-- there is room for the rows, the time children and the elements of so many nodes
pub record HasRoomFor (outline : Outline) (count : ℕ) : Type 0 where
  pub rows : count ≤ vec_capacity outline.rows
  pub children : count ≤ vec_capacity outline.children
  pub elements : count ≤ vec_capacity outline.elements

-- how many time children the nodes before a place have
abbrev pub children_before : List Node → ℕ → ℕ
children_before nodes place =
    sum_by (λ (n : Node). length (time_children nodes n.serial)) (take place nodes)

-- the outline has the rows of the nodes before a place, and room for those of all
pub record BeginsOutline (nodes : List Node) (outline : Outline) (place : ℕ) : Type 0 where
  pub count : length outline.rows.items ≡ place
  pub rows :
      (k : ℕ) (n : Node) (row : OutlineRow) → slice_get nodes k ≡ Some n
      → slice_get outline.rows.items k ≡ Some row
      → IsRowOf nodes k n row × HasChildren nodes outline.children.items n row
  pub children : length outline.children.items ≡ children_before nodes place
  pub elements : outline.elements.items ≡ serials (elements (take place nodes))
  pub room : HasRoomFor outline (length nodes)

-- the outline is that of these nodes
abbrev pub IsOutlineOf : List Node → Outline → Type 0
IsOutlineOf nodes outline = BeginsOutline nodes outline (length nodes)

-- ---- a row by that of the parent

-- the place and the row of the node with this serial, if there is one
abbrev pub IsAbove : List Node → ℕ → Option Above → Type 0
IsAbove nodes serial None = node_at nodes serial ≡ None
IsAbove nodes serial (Some above) =
    (p : Node) × (node_at nodes serial ≡ Some p) × (above.place ≡ place_in nodes serial)
    × IsRowOf nodes above.place p above.row

-- the parent where it is an element, or else its time parent
abbrev pub parent_from : Option Above → ℕ → Option Placed
parent_from None serial = None
parent_from (Some above) serial =
    if is_class_kind above.row.kind then above.row.parent
    else Some (record { place = above.place; serial = serial })

abbrev pub default_restart_from : Option Above → Restart
default_restart_from None = Always
default_restart_from (Some above) = above.row.default_restart

abbrev pub default_fill_from : Option Above → Fill
default_fill_from None = Auto
default_fill_from (Some above) = above.row.default_fill

-- a priorityClass states nothing
abbrev pub own : {A : Type 0} → (Node → Option A) → Node → Option A
own stated n = if is_element n then stated n else None

abbrev pub restart_by : Node → Option Restart
restart_by n = option_and_then restart_stated n.attrs.restart_default

abbrev pub fill_by : Node → Option Fill
fill_by n = option_and_then fill_stated n.attrs.fill_default
