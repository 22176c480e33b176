-- Documents: nodes in document order, their time parents and time children,
-- and the element that an id names.
use Rattle.std.specs.Prelude.{ℕ, List, [], ◌∷◌, ◌++◌, reverse, drop, map, filter, find, Bool, true, false, not, ◌&&◌, ◌==◌, if◌then◌else◌, Option, Some, None, option_map}
use Rattle.std.specs.Str.{bytes_eq}
use Rattle.std.specs.List.{list_any}
use Rattle.smil_model.specs.declared.document.Node.{Node}
use Rattle.smil_model.specs.declared.document.Kind.{Kind}
use Rattle.smil_model.specs.declared.document.Kind.TheVariants.{Par, Seq, Excl, PriorityClass, Audio, Video, Animation, TextStream, Ref, Set}

-- the nodes in document order, and the serial that the next node takes
pub record Document : Type 0 where
  pub nodes : List Node
  pub next : ℕ

-- the document with one node more at its end
abbrev pub with_node : Document → Node → Document
with_node document node = record document { nodes = document.nodes ++ node ∷ [] }

-- a priorityClass has no times and no view
abbrev pub is_class_kind : Kind → Bool
is_class_kind PriorityClass = true
is_class_kind _ = false

abbrev pub is_seq_kind : Kind → Bool
is_seq_kind Seq = true
is_seq_kind _ = false

abbrev pub is_excl_kind : Kind → Bool
is_excl_kind Excl = true
is_excl_kind _ = false

-- a set sets an attribute of another node while it plays
abbrev pub is_set_kind : Kind → Bool
is_set_kind Set = true
is_set_kind _ = false

-- an element is a node that is no priorityClass
abbrev pub is_element : Node → Bool
is_element node = not (is_class_kind node.kind)

-- the elements, in document order
abbrev pub elements : List Node → List Node
elements nodes = filter is_element nodes

-- the serials of nodes, in document order
abbrev pub serials : List Node → List ℕ
serials nodes = map (λ (n : Node). n.serial) nodes

-- the serial of a node, if there is one
abbrev pub serial_of : Option Node → Option ℕ
serial_of node = option_map (λ (n : Node). n.serial) node

-- the node with this serial
abbrev pub node_at : List Node → ℕ → Option Node
node_at nodes serial = find (λ (n : Node). n.serial == serial) nodes

-- in nodes from the last to the first, the node with this serial, its parent,
-- and so on up to the root
abbrev pub upwards : List Node → ℕ → List Node
upwards [] serial = []
upwards (n ∷ before) serial =
    let is_here = n.serial == serial in
    let rest = upwards before (if is_here then n.parent else serial) in
    if is_here then n ∷ rest else rest

-- the node, its parent, and so on up to the root
abbrev pub lineage : List Node → ℕ → List Node
lineage nodes serial = upwards (reverse nodes) serial

-- the parent, its parent, and so on up to the root
abbrev pub ancestors : List Node → ℕ → List Node
ancestors nodes serial = drop 1 (lineage nodes serial)

-- the time parent: the nearest ancestor that is an element
abbrev pub time_parent : List Node → ℕ → Option Node
time_parent nodes serial = find is_element (ancestors nodes serial)

-- whether this is a node with this serial
abbrev pub has_serial : ℕ → Option Node → Bool
has_serial serial None = false
has_serial serial (Some n) = n.serial == serial

-- whether the node is a time child of the element with this serial
abbrev pub is_time_child : List Node → ℕ → Node → Bool
is_time_child nodes parent n = is_element n && has_serial parent (time_parent nodes n.serial)

-- the time children, in document order
abbrev pub time_children : List Node → ℕ → List Node
time_children nodes parent = filter (is_time_child nodes parent) nodes

-- whether y is a descendant of x
abbrev pub is_below : List Node → ℕ → ℕ → Bool
is_below nodes x y = list_any (λ (a : Node). a.serial == x) (ancestors nodes y)

-- the descendants of a node, in document order
abbrev pub descendants : List Node → ℕ → List Node
descendants nodes serial = filter (λ (n : Node). is_below nodes serial n.serial) nodes

-- the one that stands before this serial in the list
abbrev pub just_before : ℕ → Option Node → List Node → Option Node
just_before serial before [] = None
just_before serial before (n ∷ ns) =
    if n.serial == serial then before else just_before serial (Some n) ns

-- whether this is a node whose kind passes
abbrev pub has_kind : (Kind → Bool) → Option Node → Bool
has_kind test None = false
has_kind test (Some n) = test n.kind

-- whether the time parent is a seq
abbrev pub is_in_seq : List Node → ℕ → Bool
is_in_seq nodes serial = has_kind is_seq_kind (time_parent nodes serial)

-- whether the time parent is an excl
abbrev pub is_in_excl : List Node → ℕ → Bool
is_in_excl nodes serial = has_kind is_excl_kind (time_parent nodes serial)

-- the child before this one among the time children of the parent
abbrev pub previous_child : List Node → Option Node → ℕ → Option Node
previous_child nodes None serial = None
previous_child nodes (Some p) serial = just_before serial None (time_children nodes p.serial)

-- of a child of a seq, the child before it
abbrev pub previous_in_seq : List Node → ℕ → Option Node
previous_in_seq nodes serial =
    if is_in_seq nodes serial then previous_child nodes (time_parent nodes serial) serial else None

-- whether a node's own id is this one
abbrev pub has_id : List ℕ → Option (List ℕ) → Bool
has_id id None = false
has_id id (Some own) = bytes_eq own id

-- the element with this id
abbrev pub element_named : List Node → List ℕ → Option Node
element_named nodes id = find (λ (n : Node). is_element n && has_id id n.attrs.id) nodes

-- the element that an item means: the one with this id,
-- or the element itself where the item has none
abbrev pub target : List Node → ℕ → Option (List ℕ) → Option ℕ
target nodes e None = Some e
target nodes e (Some id) = serial_of (element_named nodes id)

-- whether y is x or a descendant of it
abbrev pub is_within : List Node → ℕ → ℕ → Bool
is_within nodes x y = list_any (λ (a : Node). a.serial == x) (lineage nodes y)

-- whether the element keeps its children's times: par, seq and excl do
abbrev pub is_container_kind : Kind → Bool
is_container_kind Par = true
is_container_kind Seq = true
is_container_kind Excl = true
is_container_kind _ = false

-- media whose length comes with the presentation
abbrev pub is_continuous : Kind → Bool
is_continuous Audio = true
is_continuous Video = true
is_continuous Animation = true
is_continuous TextStream = true
is_continuous Ref = true
is_continuous _ = false
