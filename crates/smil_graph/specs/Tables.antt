-- What a graph keeps of its document, by places.
use Rattle.std.specs.Prelude.{◌≡◌, ℕ, ◌<◌, ◌≤◌, List, [], ◌∷◌, length, filter, Bool, true, false, ◌==◌, ◌&&◌, ◌||◌, if◌then◌else◌, Option, Some, None, slice_get, slice_index, slice_index_or}
use Rattle.std.specs.FinMap.{get}
use Rattle.std.specs.List.{list_any, position, range_with_len}
use Rattle.smil_model.specs.declared.document.Node.{Node}
use Rattle.smil_model.specs.declared.document.Item.{Item}
use Rattle.smil_model.specs.declared.document.Item.TheVariants.{Key}
use Rattle.smil_model.specs.declared.document.Edge.{Edge}
use Rattle.smil_model.specs.declared.document.Edge.TheVariants.{Begin, End}
use Rattle.smil_model.specs.document.Document.{Document, is_element, elements, previous_in_seq, serials, time_parent, has_kind, is_seq_kind, is_excl_kind}
use Rattle.smil_model.specs.document.Dependencies.{feeds, leads_to, all_items}
use Rattle.smil_model.specs.document.Closure.{closure, has}
use Rattle.smil_model.specs.reach.Reach.{reads, is_near, is_key_item, is_option}
use Rattle.smil_model.specs.FirstPlaces.{AreFirstPlaces}
use Rattle.smil_graph.specs.declared.tables.Links.{Links}
use Rattle.smil_graph.specs.declared.tables.Ranking.{Ranking}
use Rattle.smil_graph.specs.declared.tables.Tables.{Tables}
use Rattle.smil_graph.specs.declared.tables.TimePlaces.{TimePlaces}
use Rattle.smil_graph.specs.Links.{row, links, AreRows}
use Rattle.smil_graph.specs.Places.{follows_place, place_of, reads_place, is_element_at, IsTable, AreTimeChildren}
use Rattle.smil_graph.specs.Graph.{is_follower_rank, is_looped_item, is_reader_rank, IsGraphOrder}
use Rattle.smil_model.specs.document.Defaults.{items_of, items_or}

-- what rows have at a place that may be absent
abbrev pub marked_at : List (List Bool) → Option ℕ → ℕ → Bool
marked_at rows None k = false
marked_at rows (Some place) k = slice_index_or (slice_index_or rows place []) k false

abbrev pub row_of : List (List ℕ) → Option ℕ → List ℕ
row_of rows None = []
row_of rows (Some place) = row rows place

-- a level for each node: it does not fall along a dependency,
-- and stays exactly where the dependency can be gone back
pub record AreElementLevels (nodes : List Node) (levels : List ℕ) : Type 0 where
  pub count : length levels ≡ length nodes
  pub rising : (i j : ℕ) (x e : Node) → slice_get nodes i ≡ Some x → slice_get nodes j ≡ Some e
      → feeds nodes x.serial e.serial ≡ true → slice_index_or levels i 0 ≤ slice_index_or levels j 0
  pub looped : (i j : ℕ) (x e : Node) → slice_get nodes i ≡ Some x → slice_get nodes j ≡ Some e
      → feeds nodes x.serial e.serial ≡ true
      → (slice_index_or levels i 0 == slice_index_or levels j 0) ≡ leads_to nodes e.serial x.serial

-- for each element a mark at each item of one side that is a looped reference
abbrev pub AreMarks : List Node → Edge → List (List Bool) → Type 0
AreMarks nodes side rows =
    (j k : ℕ) (e : Node) → slice_get nodes j ≡ Some e
    → marked_at rows (Some j) k
    ≡ (is_element e && is_looped_item nodes e.serial (slice_get (items_of nodes side e) k))

-- for each node the places of the elements that read it, in document order
pub record AreHeads (nodes : List Node) (rows : List (List ℕ)) : Type 0 where
  pub count : length rows ≡ length nodes
  pub each : (i : ℕ) → i < length nodes
      → row rows i ≡ filter (λ j. reads_place nodes j i) (range_with_len 0 (length nodes))

-- for each node the places of the elements that follow from it by an item that is not looped,
-- or as the next in a seq, in document order
pub record AreFollowers (nodes : List Node) (rows : List (List ℕ)) : Type 0 where
  pub count : length rows ≡ length nodes
  pub each : (i : ℕ) → i < length nodes
      → row rows i ≡ filter (λ j. follows_place nodes j i) (range_with_len 0 (length nodes))

-- the serials of the nodes at places
abbrev pub with_serial : Option Node → List ℕ → List ℕ
with_serial None serials = serials
with_serial (Some n) serials = n.serial ∷ serials

abbrev pub serials_of_places : List Node → List ℕ → List ℕ
serials_of_places nodes [] = []
serials_of_places nodes (place ∷ places) =
    with_serial (slice_get nodes place) (serials_of_places nodes places)

-- whether there is a seq or an excl
abbrev pub takes_turns : Option Node → Bool
takes_turns o = has_kind is_seq_kind o || has_kind is_excl_kind o

-- the time parent of the element at a place where that is a seq or an excl,
-- and else the element itself
abbrev pub top_of : List Node → Option ℕ → ℕ → ℕ
top_of nodes None place = place
top_of nodes (Some parent) place = if takes_turns (slice_get nodes parent) then parent else place

-- the places of the elements near the one at a place: of those at which its reach begins
pub record AreNear (nodes : List Node) (place : ℕ) (places : List ℕ) : Type 0 where
  pub elements : (j : ℕ) → has places j ≡ true → is_element_at nodes j ≡ true
  pub near : (j : ℕ) (x e : Node) → slice_get nodes place ≡ Some x → slice_get nodes j ≡ Some e
      → is_element e ≡ true → has places j ≡ is_near nodes x.serial e.serial

-- the elements whose serials are in a set, and those that read them, and so on
abbrev pub reach_of : List Node → List ℕ → List ℕ
reach_of nodes set = closure (reads nodes) (serials (elements nodes)) set

abbrev pub AreElements : List Node → List ℕ → Type 0
AreElements nodes places = (j : ℕ) → has places j ≡ true → is_element_at nodes j ≡ true

-- the places of the elements whose serials are in a set, which has serials of elements alone
pub record AreOf (nodes : List Node) (set places : List ℕ) : Type 0 where
  pub known : (s : ℕ) → has set s ≡ true → has (serials (elements nodes)) s ≡ true
  pub listed : (j : ℕ) (e : Node) → slice_get nodes j ≡ Some e → is_element e ≡ true
      → has places j ≡ has set e.serial

-- the place that is given, if there is an element
abbrev pub element_place : List Node → Option ℕ → Option ℕ
element_place nodes None = None
element_place nodes (Some place) = if is_element_at nodes place then Some place else None

-- ---- keys

-- the key that an item waits for
abbrev pub key_of : Item → Option ℕ
key_of (Key key offset) = Some key
key_of _ = None

-- whether the node has an item for the key
abbrev pub has_key_item : ℕ → Node → Bool
has_key_item key e =
    list_any (is_key_item key) (items_or [] e.attrs.begin)
    || list_any (is_key_item key) (items_or [] e.attrs.«end»)

-- whether there is an element with an item for the key
abbrev pub waits : List Node → ℕ → Option Node → Bool
waits nodes key None = false
waits nodes key (Some e) = is_element e && list_any (is_key_item key) (all_items nodes e)

-- for each key the places of the elements with an item for it
abbrev pub AreWaiting : List Node → List (List ℕ) → Type 0
AreWaiting nodes rows =
    (key place : ℕ) → links rows key place ≡ waits nodes key (slice_get nodes place)

-- the place is put into the rows that pass, and else they are as before
pub record AreWithPlace (test : ℕ → Bool) (place : ℕ) (old new : List (List ℕ)) : Type 0 where
  pub each : (i j : ℕ) → links new i j ≡ (links old i j || (test i && (j == place)))

-- ---- ranks

-- the place of each serial in an order
abbrev pub AreRanks : List ℕ → (ℕ → Option ℕ) → Type 0
AreRanks order ranks = AreFirstPlaces (λ (s : ℕ). s) ranks order

-- for each element of an order the ranks of those that read it
abbrev pub AreReaderRanks : List Node → List ℕ → List (List ℕ) → Type 0
AreReaderRanks nodes order rows =
    AreRows (length order) (λ rank. is_reader_rank nodes order (slice_index order rank)) rows

-- for each element of an order the ranks of those that follow from it so
abbrev pub AreFollowerRanks : List Node → List ℕ → List (List ℕ) → Type 0
AreFollowerRanks nodes order rows =
    AreRows (length order) (λ rank. is_follower_rank nodes order (slice_index order rank)) rows

-- the rank of a node in an order
abbrev pub rank_of : List ℕ → Option Node → Option ℕ
rank_of order None = None
rank_of order (Some n) = position (λ s. s == n.serial) order

-- whether a node at one of these places has this rank
abbrev pub is_rank_at : List Node → List ℕ → List ℕ → ℕ → Bool
is_rank_at nodes order places rank =
    list_any (λ place. is_option rank (rank_of order (slice_get nodes place))) places

-- for each element of an order the ranks of the nodes in the row of its place
abbrev pub AreRanked : List Node → List ℕ → List (List ℕ) → ℕ → List (List ℕ) → Type 0
AreRanked nodes order rows count ranked =
    AreRows count (λ rank. is_rank_at nodes order
    (row_of rows (place_of nodes (slice_index order rank)))) ranked

-- ---- tables

-- where the elements stand in time: time parents, time children, and the child before each in a seq
pub record AreTimePlaces (nodes : List Node) (t : TimePlaces) : Type 0 where
  pub above : IsTable nodes (λ n. time_parent nodes n.serial) t.parents.items
  pub count : length t.children.items ≡ length nodes
  pub under : AreTimeChildren nodes t.parents.items t.children.items
  pub before : IsTable nodes (λ n. previous_in_seq nodes n.serial) t.previous.items

-- what leads from element to element: levels, who reads whom, and who follows from whom
pub record AreLinks (nodes : List Node) (t : Links) : Type 0 where
  pub leveled : AreElementLevels nodes t.levels.items
  pub headed : AreHeads nodes t.heads.items
  pub followed : AreFollowers nodes t.followers.items

-- an order with ranks, and by rank who reads and who follows
pub record IsRanking (nodes : List Node) (t : Ranking) : Type 0 where
  pub ordered : IsGraphOrder nodes t.order
  pub ranked : AreRanks t.order (get t.ranks)
  pub read : AreReaderRanks nodes t.order t.readers
  pub followed : AreFollowerRanks nodes t.order t.followers

-- what is kept: time parents, time children, looped begins and ends,
-- who reads whom, who waits for which key, an order with ranks,
-- and by rank who reads and who follows
pub record AreTables (document : Document) (t : Tables) : Type 0 where
  pub above : IsTable document.nodes (λ n. time_parent document.nodes n.serial) t.time_parents.items
  pub count : length t.time_children.items ≡ length document.nodes
  pub under : AreTimeChildren document.nodes t.time_parents.items t.time_children.items
  pub begun : AreMarks document.nodes Begin t.begins
  pub ended : AreMarks document.nodes End t.ends
  pub headed : AreHeads document.nodes t.heads.items
  pub waiting : AreWaiting document.nodes t.waiting.items
  pub ordered : IsGraphOrder document.nodes t.order
  pub ranked : AreRanks t.order (get t.ranks)
  pub read_ranked : AreReaderRanks document.nodes t.order t.reader_ranks
  pub followed : AreFollowerRanks document.nodes t.order t.follower_ranks
