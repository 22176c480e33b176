-- Valid documents: one tree in document order, whose nodes stand where their kinds may stand and
-- have attributes that they may have, within the limits.
use Rattle.std.specs.Prelude.{ℕ, ◌+◌, List, [], ◌∷◌, length, filter, sum_by, Bool, true, false, not, ◌&&◌, ◌||◌, ◌==◌, if◌then◌else◌, Option, Some, None, option_map, nat_lt, IsTrue, IsFalse, All, ◌≡◌, ◌<◌, ◌≤◌}
use Rattle.std.specs.List.{list_any, list_all}
use Rattle.smil_model.specs.declared.limits.TheConstants.{DEPTH, SERIALS}
use Rattle.smil_model.specs.declared.document.Node.{Node}
use Rattle.smil_model.specs.declared.document.Kind.{Kind}
use Rattle.smil_model.specs.declared.document.Attrs.{Attrs}
use Rattle.smil_model.specs.declared.document.Item.{Item}
use Rattle.smil_model.specs.declared.document.Item.TheVariants.{Sync, Event, Repeat, Key}
use Rattle.smil_model.specs.document.Limits.{Limits, limits}
use Rattle.smil_model.specs.document.Document.{Document, node_at, ancestors, has_id, is_class_kind, is_excl_kind, is_container_kind}
use Rattle.smil_model.specs.document.Defaults.{items_or}
use Rattle.smil_model.specs.document.Values.{fit_kind}

-- ---- the tree

-- from the open node upwards: what is left open when a child of this parent comes
abbrev pub open_from : ℕ → List ℕ → List ℕ
open_from parent [] = []
open_from parent (s ∷ above) =
    let rest = open_from parent above in if s == parent then s ∷ above else rest

-- each node's parent is one of the nodes that are open where it stands
abbrev pub IsTreeFrom : List ℕ → List Node → Type 0
IsTreeFrom opened [] = Unit {0}
IsTreeFrom opened (n ∷ ns) = IsTrue (list_any (λ s. s == n.parent) opened)
    × IsTreeFrom (n.serial ∷ open_from n.parent opened) ns

-- the parents make the list one tree in document order, whose first node is the root,
-- with the parent 0
abbrev pub IsTree : List Node → Type 0
IsTree [] = ⊥
IsTree (root ∷ ns) = (root.parent ≡ 0) × IsTreeFrom (root.serial ∷ []) ns

-- no serial is given twice
abbrev pub IsDistinct : List Node → Type 0
IsDistinct [] = Unit {0}
IsDistinct (n ∷ ns) = IsFalse (list_any (λ (m : Node). m.serial == n.serial) ns) × IsDistinct ns

-- a tree whose serials are distinct, above 0 and below the next one
pub record IsNumberedTree (document : Document) : Type 0 where
  pub distinct : IsDistinct document.nodes
  pub below : All (λ (n : Node). (0 < n.serial) × (n.serial < document.next)) document.nodes
  pub next : document.next ≤ SERIALS
  pub tree : IsTree document.nodes

-- ---- places

-- the depth of a node, the root having 0
abbrev pub depth_of : List Node → ℕ → ℕ
depth_of nodes serial = length (ancestors nodes serial)

-- what a node of this kind may hold: a container every element, an excl also classes,
-- a class elements
abbrev pub may_hold : Kind → Kind → Bool
may_hold parent child =
    if is_class_kind child then is_excl_kind parent
    else is_container_kind parent || is_class_kind parent

-- where a kind may stand: as the root a container, else under a node that may hold it
abbrev pub may_stand : Option Kind → Kind → Bool
may_stand None kind = is_container_kind kind
may_stand (Some parent) kind = may_hold parent kind

abbrev pub kind_of : Option Node → Option Kind
kind_of node = option_map (λ (n : Node). n.kind) node

abbrev pub same_test : Bool → Bool → Bool
same_test a b = (a && b) || (not a && not b)

-- the children of a node agree with this kind in being priorityClasses or not:
-- an excl does not mix the two
abbrev pub agree_with : List Node → ℕ → Kind → Bool
agree_with nodes parent kind =
    list_all
    (λ (n : Node). not (n.parent == parent)
    || same_test (is_class_kind n.kind) (is_class_kind kind))
    nodes

-- whether the node stands where it may
abbrev pub is_well_placed : List Node → Node → Bool
is_well_placed nodes n =
    nat_lt (depth_of nodes n.serial) DEPTH
    && may_stand (kind_of (node_at nodes n.parent)) n.kind
    && agree_with nodes n.parent n.kind

-- ---- attributes, ids and references

-- whether the node's attributes are those that it may have
abbrev pub has_fitting_attrs : List Node → Node → Bool
has_fitting_attrs nodes n = fit_kind n.kind (kind_of (node_at nodes n.parent)) n.attrs

abbrev pub is_other_with : ℕ → List ℕ → Node → Bool
is_other_with serial id n = not (n.serial == serial) && has_id id n.attrs.id

-- whether another node has the id
abbrev pub is_id_taken : List Node → ℕ → Option (List ℕ) → Bool
is_id_taken nodes serial None = false
is_id_taken nodes serial (Some id) = list_any (is_other_with serial id) nodes

-- an item that refers to an element, an event or a key
abbrev pub is_reference : Item → Bool
is_reference (Sync who edge offset) = true
is_reference (Event who name offset) = true
is_reference (Repeat who n offset) = true
is_reference (Key key offset) = true
is_reference _ = false

-- how many items of a list refer to something; an absent list has none
abbrev pub listed_references : Option (List Item) → ℕ
listed_references items = length (filter is_reference (items_or [] items))

-- how many items of attributes refer to something
abbrev pub references_among : Attrs → ℕ
references_among attrs = listed_references attrs.begin + listed_references attrs.«end»

abbrev pub references_of : Node → ℕ
references_of n = references_among n.attrs

-- how many items of the document refer to an element, an event or a key
abbrev pub references : List Node → ℕ
references nodes = sum_by references_of nodes

-- a document that is valid within limits
pub record IsValidWithin (allowed : Limits) (document : Document) : Type 0 where
  pub numbered : IsNumberedTree document
  pub placed : list_all (is_well_placed document.nodes) document.nodes ≡ true
  pub fitting : list_all (has_fitting_attrs document.nodes) document.nodes ≡ true
  pub ids :
      list_any (λ (n : Node). is_id_taken document.nodes n.serial n.attrs.id) document.nodes ≡ false
  pub nodes : length document.nodes ≤ allowed.nodes
  pub references : references document.nodes ≤ allowed.references

-- a valid document
abbrev pub IsValid : Document → Type 0
IsValid document = IsValidWithin limits document
