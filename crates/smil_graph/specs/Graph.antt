-- What the graph of a document answers.
use Rattle.std.specs.Prelude.{◌≡◌, ℕ, ◌<◌, List, filter, length, Bool, true, false, not, ◌&&◌, ◌||◌, ◌==◌, Option, Some, None, slice_get, slice_index_or}
use Rattle.std.specs.List.{list_any, position}
use Rattle.std.specs.List.Sorted.{IsPermutation}
use Rattle.smil_model.specs.declared.document.Node.{Node}
use Rattle.smil_model.specs.declared.document.Item.{Item}
use Rattle.smil_model.specs.declared.document.Edge.{Edge}
use Rattle.smil_model.specs.document.Document.{Document, elements, node_at, has_serial, is_time_child, previous_in_seq, serials}
use Rattle.smil_model.specs.document.Defaults.{items_of}
use Rattle.smil_model.specs.document.Dependencies.{has_implicit_duration, all_items, is_sync_with, is_looped, leads_to}
use Rattle.smil_model.specs.reach.Reach.{reads, is_option}

-- the nodes of a document and its next serial, with an order of the elements
pub record OrderedNodes : Type 0 where
  pub nodes : List Node
  pub next : ℕ
  pub order : List ℕ

-- that document
abbrev pub document_of : OrderedNodes → Document
document_of graph = record { nodes = graph.nodes; next = graph.next }

-- ---- looped references

-- where there is no item it is not looped
abbrev pub is_looped_item : List Node → ℕ → Option Item → Bool
is_looped_item nodes serial None = false
is_looped_item nodes serial (Some item) = is_looped nodes serial item

abbrev pub looped_of : List Node → Edge → ℕ → Option Node → Bool
looped_of nodes side k None = false
looped_of nodes side k (Some e) =
    is_looped_item nodes e.serial (slice_get (items_of nodes side e) k)

-- whether an item of the element with this serial is a looped reference
abbrev pub looped_at : List Node → ℕ → Edge → ℕ → Bool
looped_at nodes serial side k = looped_of nodes side k (node_at (elements nodes) serial)

-- ---- readers

-- the elements that read this one, in document order
abbrev pub readers_of : List Node → ℕ → List ℕ
readers_of nodes x = filter (reads nodes x) (serials (elements nodes))

-- ---- followers

-- whether e is next to x in a seq, or has a reference to x that is not looped
abbrev pub follows_by_item : List Node → ℕ → Node → Bool
follows_by_item nodes x e =
    has_serial x (previous_in_seq nodes e.serial)
    || (list_any (is_sync_with nodes x) (all_items nodes e) && not (leads_to nodes e.serial x))

-- whether y follows so from x
abbrev pub follows : List Node → ℕ → ℕ → Bool
follows nodes x y =
    list_any (λ (e : Node). (e.serial == y) && follows_by_item nodes x e) (elements nodes)

-- the elements that follow so from this one, in document order
abbrev pub followers_of : List Node → ℕ → List ℕ
followers_of nodes x = filter (follows nodes x) (serials (elements nodes))

-- ---- ranks

-- whether an element has this rank in an order
abbrev pub has_rank : List ℕ → ℕ → ℕ → Bool
has_rank order rank serial = is_option rank (position (λ s. s == serial) order)

-- whether this is the rank of one that reads this element
abbrev pub is_reader_rank : List Node → List ℕ → ℕ → ℕ → Bool
is_reader_rank nodes order serial rank = list_any (has_rank order rank) (readers_of nodes serial)

-- whether this is the rank of one that follows so from this element
abbrev pub is_follower_rank : List Node → List ℕ → ℕ → ℕ → Bool
is_follower_rank nodes order serial rank =
    list_any (has_rank order rank) (followers_of nodes serial)

-- ---- an order of the elements

-- whether the times of e follow from those of x in a way that is not looped
abbrev pub follows_unlooped : List Node → ℕ → Node → Bool
follows_unlooped nodes x e =
    (has_implicit_duration e
    && list_any (λ (c : Node). (c.serial == x) && is_time_child nodes e.serial c) nodes)
    || has_serial x (previous_in_seq nodes e.serial)
    || (list_any (is_sync_with nodes x) (all_items nodes e) && not (leads_to nodes e.serial x))

-- what times follow from stands before what follows from it, but for looped references
abbrev pub GoesForward : List Node → List ℕ → Type 0
GoesForward nodes order =
    (e : Node) (i j : ℕ) → node_at (elements nodes) e.serial ≡ Some e
    → i < length order → j < length order
    → slice_index_or order j 0 ≡ e.serial
    → follows_unlooped nodes (slice_index_or order i 0) e ≡ true
    → i < j

pub record IsGraphOrder (nodes : List Node) (order : List ℕ) : Type 0 where
  pub all : IsPermutation (serials (elements nodes)) order
  pub forward : GoesForward nodes order
