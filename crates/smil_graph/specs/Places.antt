-- A document by places in document order, from 0.
use Rattle.std.specs.Prelude.{◌≡◌, ℕ, ◌<◌, List, [], ◌∷◌, length, filter, map, Bool, false, ◌&&◌, ◌||◌, ◌==◌, if◌then◌else◌, Option, Some, None, slice_get, slice_index_or}
use Rattle.std.specs.List.{list_any, position, range_with_len}
use Rattle.smil_model.specs.declared.document.Node.{Node}
use Rattle.smil_model.specs.declared.document.Item.{Item}
use Rattle.smil_model.specs.declared.document.Edge.{Edge}
use Rattle.smil_model.specs.declared.document.Item.TheVariants.{Sync, Event, Repeat}
use Rattle.smil_model.specs.document.Document.{is_element, has_kind, is_seq_kind}
use Rattle.smil_model.specs.document.Defaults.{items_or, stated_list}
use Rattle.smil_model.specs.document.Dependencies.{has_implicit_duration, feeds_node}
use Rattle.smil_model.specs.reach.Reach.{reads_node, is_option}
use Rattle.smil_model.specs.document.Closure.{has}
use Rattle.smil_graph.specs.Graph.{follows_by_item}
use Rattle.smil_graph.specs.Links.{row}

-- the node at a place that may be absent
abbrev pub at_place : List Node → Option ℕ → Option Node
at_place nodes None = None
at_place nodes (Some place) = slice_get nodes place

-- the place of the node with a serial
abbrev pub place_of : List Node → ℕ → Option ℕ
place_of nodes serial = position (λ (n : Node). n.serial == serial) nodes

-- what a table has at a place
abbrev pub up : List (Option ℕ) → ℕ → Option ℕ
up table place = slice_index_or table place None

abbrev pub feeds_from : List Node → Option Node → Option Node → Bool
feeds_from nodes (Some e) (Some x) = is_element e && feeds_node nodes x.serial e
feeds_from nodes _ _ = false

abbrev pub reads_from : List Node → Option Node → Option Node → Bool
reads_from nodes (Some e) (Some x) = is_element e && reads_node nodes x.serial e
reads_from nodes _ _ = false

abbrev pub follows_from : List Node → Option Node → Option Node → Bool
follows_from nodes (Some e) (Some x) = is_element e && follows_by_item nodes x.serial e
follows_from nodes _ _ = false

-- whether the node at a place is an element
abbrev pub has_element : Option Node → Bool
has_element None = false
has_element (Some n) = is_element n

abbrev pub is_element_at : List Node → ℕ → Bool
is_element_at nodes place = has_element (slice_get nodes place)

-- the place of a node's parent
abbrev pub parent_by : (ℕ → Option ℕ) → Option Node → Option ℕ
parent_by index None = None
parent_by index (Some n) = index n.parent

-- a parent, or what stands above it where it is a priorityClass
abbrev pub element_above : List Node → List (Option ℕ) → Option ℕ → Option ℕ
element_above nodes above None = None
element_above nodes above (Some parent) =
    if is_element_at nodes parent then Some parent else up above parent

-- ---- tables of places

-- for each node the place of a node that stands before it, as the function says by the node
pub record IsTable
    (nodes : List Node) (of : Node → Option Node) (table : List (Option ℕ)) : Type 0 where
  pub count : length table ≡ length nodes
  pub node : (p : ℕ) (n : Node) → slice_get nodes p ≡ Some n → of n ≡ at_place nodes (up table p)
  pub before : (p q : ℕ) → up table p ≡ Some q → q < p

-- the places of the nodes that are looked up by keys
pub record IsIndex {K : Type 0} (nodes : List Node) (look_up : K → Option Node)
    (index : K → Option ℕ) : Type 0 where
  pub node : (key : K) → look_up key ≡ at_place nodes (index key)
  pub below : (key : K) (p : ℕ) → index key ≡ Some p → p < length nodes

-- the one before a place in a row
abbrev pub before : ℕ → Option ℕ → List ℕ → Option ℕ
before place last [] = None
before place last (i ∷ is) = if i == place then last else before place (Some i) is

-- for each node the row of the places of its time children, in document order
abbrev pub AreTimeChildren : List Node → List (Option ℕ) → List (List ℕ) → Type 0
AreTimeChildren nodes time_parents children =
    (q : ℕ) → row children q
    ≡ filter (λ p. is_element_at nodes p
    && is_option q (up time_parents p)) (range_with_len 0 (length nodes))

-- under a parent that is a seq, the one before
abbrev pub previous_of : List Node → List (List ℕ) → ℕ → Option ℕ → Option ℕ
previous_of nodes children place None = None
previous_of nodes children place (Some parent) =
    if has_kind is_seq_kind (slice_get nodes parent) then before place None (row children parent)
    else None

-- ---- rows of places

-- the place of the element to whose begin or end an item refers
abbrev pub named_by : (List ℕ → Option ℕ) → Item → Option ℕ
named_by named (Sync who edge offset) = named who
named_by named _ = None

-- the place of the element whose event or repeat an item of the element at this place means
abbrev pub target_place : (List ℕ → Option ℕ) → ℕ → Option (List ℕ) → Option ℕ
target_place named place None = Some place
target_place named place (Some id) = named id

abbrev pub source_of : (List ℕ → Option ℕ) → ℕ → Item → Option ℕ
source_of named place (Event who name offset) = target_place named place who
source_of named place (Repeat who n offset) = target_place named place who
source_of named place _ = None

-- whether an item leads to the place i
abbrev pub leads_to_place : (Item → Option ℕ) → List Item → ℕ → Bool
leads_to_place of items i = list_any (λ (item : Item). is_option i (of item)) items

-- whether the times of a node follow from those of the one at the place i,
-- by the places of its time children, of the child before it in a seq,
-- and of those that its items name
abbrev pub follows : List ℕ → Option ℕ → (List ℕ → Option ℕ) → Node → ℕ → Bool
follows children previous named e i =
    (has_implicit_duration e && has children i) || is_option i previous
    || leads_to_place (named_by named) (items_or [] e.attrs.begin) i
    || leads_to_place (named_by named) (items_or [] e.attrs.«end») i

-- whether the node hears events of the one at the place i
abbrev pub hears : (List ℕ → Option ℕ) → ℕ → Node → ℕ → Bool
hears named place e i =
    leads_to_place (source_of named place) (items_or [] e.attrs.begin) i
    || leads_to_place (source_of named place) (items_or [] e.attrs.«end») i

-- the same of the node at a place
abbrev pub element_follows : List ℕ → Option ℕ → (List ℕ → Option ℕ) → Option Node → ℕ → Bool
element_follows children previous named None i = false
element_follows children previous named (Some e) i =
    is_element e && follows children previous named e i

abbrev pub element_hears : (List ℕ → Option ℕ) → ℕ → Option Node → ℕ → Bool
element_hears named place None i = false
element_hears named place (Some e) i = is_element e && hears named place e i

-- whether the times of the element at the place j follow from those of the one at i
abbrev pub feeds_place : List Node → ℕ → ℕ → Bool
feeds_place nodes j i = feeds_from nodes (slice_get nodes j) (slice_get nodes i)

-- whether the element at the place j reads the one at i
abbrev pub reads_place : List Node → ℕ → ℕ → Bool
reads_place nodes j i = reads_from nodes (slice_get nodes j) (slice_get nodes i)

-- whether there is another place, and on the level of this one
abbrev pub is_on_level : List ℕ → ℕ → Option ℕ → Bool
is_on_level levels place None = false
is_on_level levels place (Some other) =
    slice_index_or levels other 0 == slice_index_or levels place 0

-- a place that is on another level, if there is one
abbrev pub off_level : List ℕ → ℕ → Option ℕ → Option ℕ
off_level levels place other = if is_on_level levels place other then None else other

-- the place of the element to whose begin or end an item refers, where that is on another level
abbrev pub named_off_level : List ℕ → (List ℕ → Option ℕ) → ℕ → Item → Option ℕ
named_off_level levels named place item = off_level levels place (named_by named item)

-- whether the node at a place stands behind the place i in a seq,
-- or has a reference to it that leads to another level
abbrev pub follows_off_level :
    List ℕ → (List ℕ → Option ℕ) → Option ℕ → ℕ → Node → ℕ → Bool
follows_off_level levels named previous place e i =
    is_option i previous
    || leads_to_place (named_off_level levels named place) (items_or [] e.attrs.begin) i
    || leads_to_place (named_off_level levels named place) (items_or [] e.attrs.«end») i

abbrev pub element_follows_off_level :
    List ℕ → (List ℕ → Option ℕ) → Option ℕ → ℕ → Option Node → ℕ → Bool
element_follows_off_level levels named previous place None i = false
element_follows_off_level levels named previous place (Some e) i =
    is_element e && follows_off_level levels named previous place e i

-- whether the element at the place j follows from the one at i by an item that is not looped,
-- or as the next in a seq
abbrev pub follows_place : List Node → ℕ → ℕ → Bool
follows_place nodes j i = follows_from nodes (slice_get nodes j) (slice_get nodes i)

-- for each item whether it names another place on the level of this one
abbrev pub marks_of : Edge → List ℕ → (List ℕ → Option ℕ) → ℕ → Option Node → List Bool
marks_of side levels named place None = []
marks_of side levels named place (Some e) =
    if is_element e then map (λ (item : Item). is_on_level levels place (named_by named item))
    (items_or [] (stated_list e.attrs side)) else []

-- so many rows of such marks
pub record HaveMarks (nodes : List Node) (side : Edge) (levels : List ℕ) (named : List ℕ → Option ℕ)
    (count : ℕ) (rows : List (List Bool)) : Type 0 where
  pub long : length rows ≡ count
  pub each : (j : ℕ) → j < count
      → slice_index_or rows j [] ≡ marks_of side levels named j (slice_get nodes j)
