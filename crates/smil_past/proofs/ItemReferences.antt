-- What an item waits for, told from its source and its mark.
use Rattle.std.proofs.Common.{◌≡◌, ◌∙◌, ap, sym, subst, refl, ℕ, ℤ, suc, ◌+◌, List, [], ◌∷◌, ◌++◌, Bool, true, false, take, eq-eqb}
use Rattle.std.specs.Prelude.{Option, None, Some, pos, filter_map, slice_get, option_map, map, ◌==◌, if◌then◌else◌}
use Rattle.std.proofs.lemmas.Bool.{eqb-true}
use Rattle.std.proofs.lemmas.List.Elements.{filter_map-append}
use Rattle.std.proofs.lemmas.Option.{slice_get-map}
use Rattle.smil_model.specs.declared.document.Node.{Node}
use Rattle.smil_model.specs.declared.document.Attrs.{Attrs}
use Rattle.smil_model.specs.declared.document.Edge.{Edge}
use Rattle.smil_model.specs.declared.document.Edge.TheVariants.{Begin, End}
use Rattle.smil_model.specs.declared.document.Item.{Item}
use Rattle.smil_model.specs.declared.document.Item.TheVariants.{Offset, Sync, Indefinite}
use Rattle.smil_model.specs.document.Document.{elements, element_named, is_element, is_in_excl, node_at, previous_in_seq, serials}
use Rattle.smil_model.specs.document.Defaults.{begin_list, items_of, items_or}
use Rattle.smil_model.specs.document.Dependencies.{is_looped, is_looped_to, leads_to}
use Rattle.smil_model.specs.reach.Reach.{is_option}
use Rattle.smil_laws.proofs.Lists.{take-more_at}
use Rattle.smil_instances.specs.declared.source.Source.{Source}
use Rattle.smil_instances.specs.declared.source.Source.TheVariants as source
use Rattle.smil_instance_rows.specs.declared.cell.Cell.{Cell}
use Rattle.smil_instances.specs.Sources.{item_under, source_at, source_by, source_of, source_under, syncbase_or}
use Rattle.smil_graph.specs.Graph.{is_looped_item, looped_at, looped_of}
use Rattle.smil_graph.proofs.GraphTables.{place_is}
use Rattle.smil_instances.specs.Dependents.{DocumentDependents, AreDependentsOf, source_in}
use Rattle.smil_instances.specs.Spread.{IsIndex}
use Rattle.smil_instances.specs.declared.syncbase.Syncbase.{Syncbase}
use Rattle.smil_past.specs.declared.makeup.Makeup.{Makeup}
use Rattle.smil_past.specs.Makeups.{makeup_of}
use Rattle.smil_past.specs.Syncs.{IsListOf, SyncRow, all_syncs, from_end, from_named, listed, serials_in, sync_by, sync_from, sync_of, sync_row, syncs_of, syncs_on}

-- ---- one item

by_end : (offset : ℤ) (before : Option Node) → sync_from (Some offset) (syncbase_or source.Start End before) ≡ from_end offset before
by_end offset None = refl
by_end offset (Some before) = refl

by_mark : (nodes : List Node) (e : ℕ) (who : List ℕ) (edge : Edge) (offset : ℤ) (x : Node) (t : Bool) → sync_by t (Sync who edge offset) (source.Syncbase x.serial edge) ≡ (if t then None else Some (record { of = x.serial; edge = edge; offset = offset }))
by_mark nodes e who edge offset x true = refl
by_mark nodes e who edge offset x false = refl

by_name : (nodes : List Node) (e : ℕ) (who : List ℕ) (edge : Edge) (offset : ℤ) (named : Option Node) → sync_by (is_looped_to nodes e named) (Sync who edge offset) (syncbase_or source.Nothing edge named) ≡ from_named nodes e offset edge named
by_name nodes e who edge offset None = refl
by_name nodes e who edge offset (Some x) = by_mark nodes e who edge offset x (leads_to nodes e x.serial)

-- what an item waits for, from its mark and its source
pub sync_told : (nodes : List Node) (e : ℕ) (item : Item) → sync_by (is_looped nodes e item) item (source_of nodes e item) ≡ sync_of nodes e item
sync_told nodes e (Offset offset) = by_end offset (previous_in_seq nodes e)
sync_told nodes e (Sync who edge offset) = by_name nodes e who edge offset (element_named nodes who)
sync_told nodes e _ = refl

-- ---- an item at its place

source_known : (nodes : List Node) (place k : ℕ) (side : Edge) (e : Node) (item : Item) → slice_get (elements nodes) place ≡ Some e → slice_get (items_of nodes side e) k ≡ Some item → source_at nodes (record { row = place; side = side; item = k }) ≡ source_of nodes e.serial item
source_known nodes place k side e item here at =
    let cell : Cell = record { row = place; side = side; item = k } in
    ap (source_under nodes cell) here
    ∙ ap (λ o. source_by nodes e.serial (item_under nodes cell o)) here
    ∙ ap (source_by nodes e.serial) at

looped_known : (nodes : List Node) (who k : ℕ) (side : Edge) (e : Node) (item : Item) → node_at (elements nodes) who ≡ Some e → slice_get (items_of nodes side e) k ≡ Some item → looped_at nodes who side k ≡ is_looped nodes e.serial item
looped_known nodes who k side e item known at =
    ap (looped_of nodes side k) known
    ∙ ap (is_looped_item nodes e.serial) at

-- what is put together of an item's mark and source is what it waits for
pub item_told : (nodes : List Node) (place who k : ℕ) (side : Edge) (e : Node) (items : List Item) (item : Item) (dependents : DocumentDependents) (looped : Bool) (s : Source) → AreDependentsOf nodes dependents → IsListOf nodes place who side e items → slice_get items k ≡ Some item → looped ≡ looped_at nodes who side k → s ≡ source_in dependents.rows (record { row = place; side = side; item = k }) → sync_by looped item s ≡ sync_of nodes e.serial item
item_told nodes place who k side e items item dependents looped s are list at looped_is source_is =
    let there : slice_get (items_of nodes side e) k ≡ Some item = ap (λ xs. slice_get xs k) list.same ∙ at in
    let mark : looped ≡ is_looped nodes e.serial item = looped_is ∙ looped_known nodes who k side e item list.known there in
    let from : s ≡ source_of nodes e.serial item = source_is ∙ are.sources (record { row = place; side = side; item = k }) ∙ source_known nodes place k side e item list.here there in
    (λ i. sync_by (mark i) item (from i)) ∙ sync_told nodes e.serial item

-- one more item is taken
pub list_more : (nodes : List Node) (e : ℕ) (items : List Item) (k : ℕ) (item : Item) (old new : List Syncbase) (sync : Option Syncbase) → slice_get items k ≡ Some item → old ≡ filter_map (sync_of nodes e) (take k items) → sync ≡ sync_of nodes e item → new ≡ old ++ listed sync → new ≡ filter_map (sync_of nodes e) (take (k + 1) items)
list_more nodes e items k item old new sync at old_is sync_is new_is =
    new_is
    ∙ (λ i. old_is i ++ listed (sync_is i))
    ∙ sym (filter_map-append (sync_of nodes e) (take k items) (item ∷ []))
    ∙ ap (filter_map (sync_of nodes e)) (sym (take-more_at items k item at))

-- ---- the lists of an element

pub begin_items : (nodes : List Node) (e : Node) (items : List Item) → e.attrs.begin ≡ Some items → items_of nodes Begin e ≡ items
begin_items nodes e items is = ap (items_or (if is_in_excl nodes e.serial then Indefinite ∷ [] else Offset (pos 0) ∷ [])) is

pub end_items : (nodes : List Node) (e : Node) (items : List Item) → e.attrs.«end» ≡ Some items → items_of nodes End e ≡ items
end_items nodes e items is = ap (items_or []) is

pub no_ends : (nodes : List Node) (e : Node) → e.attrs.«end» ≡ None → syncs_of nodes End e ≡ []
no_ends nodes e is = ap (λ o. filter_map (sync_of nodes e.serial) (items_or [] o)) is

-- a default begin list is one offset of 0, or `indefinite` in an excl
default_by : (nodes : List Node) (e : Node) (t : Bool) → sync_by false (Offset (pos 0)) (source_by nodes e.serial (slice_get (if t then Indefinite ∷ [] else Offset (pos 0) ∷ []) 0)) ≡ sync_of nodes e.serial (if t then Indefinite else Offset (pos 0))
default_by nodes e true = refl
default_by nodes e false = by_end (pos 0) (previous_in_seq nodes e.serial)

default_list : (nodes : List Node) (e : Node) (t : Bool) → listed (sync_of nodes e.serial (if t then Indefinite else Offset (pos 0))) ≡ filter_map (sync_of nodes e.serial) (if t then Indefinite ∷ [] else Offset (pos 0) ∷ [])
default_list nodes e true = refl
default_list nodes e false = refl

pub default_told : (nodes : List Node) (place : ℕ) (e : Node) (dependents : DocumentDependents) (s : Source) → AreDependentsOf nodes dependents → slice_get (elements nodes) place ≡ Some e → e.attrs.begin ≡ None → s ≡ source_in dependents.rows (record { row = place; side = Begin; item = 0 }) → listed (sync_by false (Offset (pos 0)) s) ≡ syncs_of nodes Begin e
default_told nodes place e dependents s are here none source_is =
    let cell : Cell = record { row = place; side = Begin; item = 0 } in
    let excl = is_in_excl nodes e.serial in
    let list : begin_list nodes e ≡ (if excl then Indefinite ∷ [] else Offset (pos 0) ∷ []) = ap (items_or (if excl then Indefinite ∷ [] else Offset (pos 0) ∷ [])) none in
    let from : s ≡ source_by nodes e.serial (slice_get (if excl then Indefinite ∷ [] else Offset (pos 0) ∷ []) 0) =
    source_is ∙ are.sources cell
    ∙ ap (source_under nodes cell) here
    ∙ ap (λ o. source_by nodes e.serial (item_under nodes cell o)) here
    ∙ ap (λ items. source_by nodes e.serial (slice_get items 0)) list in
    ap (λ x. listed (sync_by false (Offset (pos 0)) x)) from
    ∙ ap listed (default_by nodes e excl)
    ∙ default_list nodes e excl
    ∙ ap (filter_map (sync_of nodes e.serial)) (sym list)

-- ---- finding a row

-- where a node with a serial stands
pub record Stands (ns : List Node) (who : ℕ) (e : Node) : Type 0 where
  pub place : ℕ
  pub at : slice_get ns place ≡ Some e
  pub serial : e.serial ≡ who

pub stands : (ns : List Node) (who : ℕ) (e : Node) → node_at ns who ≡ Some e → Stands ns who e
stands [] who e found = absurd (cc)
stands (n ∷ ns) who e found =
    elim (n.serial == who) as (λ (t : Bool). n.serial == who ≡ t → (if t then Some n else node_at ns who) ≡ Some e → Stands (n ∷ ns) who e) [
      | true ↦ λ same first.
          let one : n ≡ e = cc in
          record { place = 0; at = first; serial = ap (λ (m : Node). m.serial) (sym one) ∙ eqb-true n.serial who same }
      | false ↦ λ differ later. let rest = stands ns who e later in record { place = suc rest.place; at = rest.at; serial = rest.serial }
    ] refl found

serial_there : (ns : List Node) (who : ℕ) (e : Node) (s : Stands ns who e) → slice_get (serials ns) s.place ≡ Some who
serial_there ns who e s =
    slice_get-map (λ (n : Node). n.serial) ns s.place
    ∙ ap (option_map (λ (n : Node). n.serial)) s.at
    ∙ ap Some s.serial

is_own : (n : ℕ) (o : Option ℕ) → o ≡ Some n → is_option n o ≡ true
is_own n o e = ap (is_option n) e ∙ eq-eqb n n refl

row_serials : (nodes : List Node) (ns : List Node) → serials_in (map (sync_row nodes) ns) ≡ serials ns
row_serials nodes [] = refl
row_serials nodes (n ∷ ns) = ap (λ rest. n.serial ∷ rest) (row_serials nodes ns)

-- the index leads to the row of an element
pub row_found : (nodes : List Node) (who : ℕ) (e : Node) (rows : List SyncRow) (index : ℕ → Option ℕ) → IsIndex (serials_in rows) index → rows ≡ all_syncs nodes → node_at (elements nodes) who ≡ Some e → (place : ℕ) × (index who ≡ Some place) × (slice_get rows place ≡ Some (sync_row nodes e))
row_found nodes who e rows index is same found =
    let s = stands (elements nodes) who e found in
    let whos : serials_in rows ≡ serials (elements nodes) = ap serials_in same ∙ row_serials nodes (elements nodes) in (
      s.place,
      place_is s.place (index who) (is s.place who ∙ is_own who (slice_get (serials_in rows) s.place) (ap (λ xs. slice_get xs s.place) whos ∙ serial_there (elements nodes) who e s)),
      ap (λ xs. slice_get xs s.place) same ∙ slice_get-map (sync_row nodes) (elements nodes) s.place ∙ ap (option_map (sync_row nodes)) s.at,
    )

-- the rows are indexed as their elements are
pub rows_indexed : (nodes : List Node) (rows : List SyncRow) (whos : List ℕ) (index : ℕ → Option ℕ) → rows ≡ all_syncs nodes → whos ≡ serials (elements nodes) → IsIndex whos index → IsIndex (serials_in rows) index
rows_indexed nodes rows whos index same whos_is is =
    subst (λ (xs : List ℕ). IsIndex xs index) (whos_is ∙ sym (ap serials_in same ∙ row_serials nodes (elements nodes))) is

-- and the other way round
pub elements_indexed : (nodes : List Node) (rows : List SyncRow) (index : ℕ → Option ℕ) → rows ≡ all_syncs nodes → IsIndex (serials_in rows) index → IsIndex (serials (elements nodes)) index
elements_indexed nodes rows index same is =
    subst (λ (xs : List ℕ). IsIndex xs index) (ap serials_in same ∙ row_serials nodes (elements nodes)) is

-- a side of a row of an element
pub side_told : (nodes : List Node) (side : Edge) (e : Node) → syncs_on side (sync_row nodes e) ≡ syncs_of nodes side e
side_told nodes Begin e = refl
side_told nodes End e = refl

-- ---- the rows of elements

-- a row is made of its parts
pub row_is : (nodes : List Node) (e : Node) (who : ℕ) (begins ends : List Syncbase) (makeup : Makeup) (row : SyncRow) → row ≡ record { serial = who; begins = begins; ends = ends; makeup = makeup } → who ≡ e.serial → begins ≡ syncs_of nodes Begin e → ends ≡ syncs_of nodes End e → makeup ≡ makeup_of nodes e → row ≡ sync_row nodes e
row_is nodes e who begins ends makeup row made serial begins_are ends_are makeup_is =
    made ∙ (λ i. record { serial = serial i; begins = begins_are i; ends = ends_are i; makeup = makeup_is i })

-- an element is found among the elements
pub kept_known : (ns : List Node) (who : ℕ) (e : Node) → node_at ns who ≡ Some e → is_element e ≡ true → node_at (elements ns) who ≡ Some e
kept_known [] who e known is = absurd (cc)
kept_known (n ∷ ns) who e known is =
    elim (n.serial == who) as (λ (s : Bool). n.serial == who ≡ s → (if s then Some n else node_at ns who) ≡ Some e → node_at (if is_element n then n ∷ elements ns else elements ns) who ≡ Some e) [
      | true ↦ λ same first.
          let one : n ≡ e = cc in
          ap (λ (t : Bool). node_at (if t then n ∷ elements ns else elements ns) who) (ap is_element one ∙ is)
          ∙ ap (λ (s : Bool). if s then Some n else node_at (elements ns) who) same
          ∙ first
      | false ↦ λ differ later.
          elim (is_element n) as (λ (t : Bool). node_at (if t then n ∷ elements ns else elements ns) who ≡ Some e) [
            | true ↦ ap (λ (s : Bool). if s then Some n else node_at (elements ns) who) differ ∙ kept_known ns who e later is
            | false ↦ kept_known ns who e later is
          ]
    ] refl known

pub attrs_are : (nodes : List Node) (who : ℕ) (e : Node) (attrs : Attrs) → Some attrs ≡ option_map (λ (n : Node). n.attrs) (node_at nodes who) → node_at nodes who ≡ Some e → e.attrs ≡ attrs
attrs_are nodes who e attrs is known =
    let both : Some attrs ≡ Some e.attrs = is ∙ ap (option_map (λ (n : Node). n.attrs)) known in
    cc
