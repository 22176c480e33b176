-- Cells of elements, and which of them an entry concerns.
use Rattle.std.proofs.Common.{◌≡◌, refl, sym, ◌∙◌, ap, subst, ℕ, suc, zero, List, [], ◌∷◌, Option, Some, None, Bool, true, false}
use mathlib.Core.Bool.{and-false}
use Rattle.std.specs.Prelude.{cond, map, slice_get, find, reverse, drop, ◌==◌, ◌&&◌, ◌||◌, is_some}
use Rattle.std.specs.Option.{option_map, IsSome}
use Rattle.std.specs.List.{AllByRecursion}
use Rattle.std.proofs.lemmas.Bool.{eqb-true, eq-eqb}
use Rattle.smil_model.specs.declared.document.Item.{Item}
use Rattle.smil_model.specs.declared.document.Node.{Node}
use Rattle.smil_model.specs.declared.diary.Entry.{Entry}
use Rattle.smil_model.specs.declared.diary.LogEntry.{LogEntry}
use Rattle.smil_model.specs.diary.Diary.{History}
use Rattle.smil_instance_rows.specs.declared.item_times.InstanceTime.{InstanceTime}
use Rattle.smil_model.specs.document.Document.{is_element, elements, node_at, lineage, ancestors, has_serial, serial_of}
use Rattle.smil_model.specs.document.Valid.{IsDistinct}
use Rattle.smil_model.specs.reach.Reach.{is_option}
use Rattle.smil_instances.specs.declared.source.Source.{Source}
use Rattle.smil_instances.specs.declared.source.Source.TheVariants as source
use Rattle.smil_instance_rows.specs.declared.cell.Cell.{Cell}
use Rattle.smil_instance_rows.specs.Rows.{ElementTimes}
use Rattle.smil_instance_rows.specs.Readings.{index_in}
use Rattle.smil_instances.specs.Sources.{base_of, is_reset_with, item_under, source_by, source_under, source_at, is_keyed, concerns_under, concerns_cell, AreThose}
use Rattle.smil_model.specs.document.Defaults.{items_of}
use Rattle.smil_model.specs.happening.Queue.{is_child_of}
use Rattle.smil_instances.specs.Updates.{BasesAreElements, remaining}
use Rattle.smil_instance_rows.specs.Changes.{HasCell}
use Rattle.smil_laws.proofs.AsideDocuments.{each_reverse}
use Rattle.smil_laws.proofs.DescendantChains.{each_upwards}
use Rattle.smil_laws.proofs.LineageParents.{swap_eqb}
use Rattle.smil_laws.proofs.Lists.{each_kept, each_at}
use Rattle.smil_laws.proofs.ListMembers.{differ_each}
use Rattle.smil_graph.proofs.GraphAnswers.{element_at, only_element}
use Rattle.smil_instances.specs.Dependents.{DocumentDependents, AreDependentsOf, cells_in, keys_cell, source_in}
use Rattle.smil_instances.specs.Intake.{ItemCounts, shape_of, shape_in, AreRowsOf, IsCellOf, HasItem, is_concerned_cell, concerned_under, keyed_by, remaining_at, remaining_under}
use Rattle.smil_instances.proofs.RowShapes.{item_cell}

-- ---- elements by their places

-- the element at a place is the node with its serial
element_known : (ns : List Node) (i : ℕ) (e : Node) → IsDistinct ns → slice_get (elements ns) i ≡ Some e → (node_at ns e.serial ≡ Some e) × (is_element e ≡ true)
element_known [] i e d at = cc
element_known (n ∷ ns) i e d at = step (is_element n) refl i at (λ k. element_known ns k e d.1)
  where
    other : (k : ℕ) → slice_get (elements ns) k ≡ Some e → n.serial == e.serial ≡ false
    other k at = swap_eqb e.serial n.serial (each_at (λ (m : Node). m.serial == n.serial ≡ false) (elements ns) k e (each_kept (λ (m : Node). m.serial == n.serial ≡ false) is_element ns (differ_each n.serial ns d.0)) at)

    later : (k : ℕ) → slice_get (elements ns) k ≡ Some e → (node_at ns e.serial ≡ Some e) × (is_element e ≡ true) → (node_at (n ∷ ns) e.serial ≡ Some e) × (is_element e ≡ true)
    later k at rest = (ap (λ t. cond t (Some n) (node_at ns e.serial)) (other k at) ∙ rest.0, rest.1)

    step : (t : Bool) → is_element n ≡ t → (j : ℕ) → slice_get (cond t (n ∷ elements ns) (elements ns)) j ≡ Some e → ((k : ℕ) → slice_get (elements ns) k ≡ Some e → (node_at ns e.serial ≡ Some e) × (is_element e ≡ true)) → (node_at (n ∷ ns) e.serial ≡ Some e) × (is_element e ≡ true)
    step true q zero at rest =
        let one : n ≡ e = cc in
        subst (λ (x : Node). (node_at (n ∷ ns) x.serial ≡ Some x) × (is_element x ≡ true)) one
        (ap (λ t. cond t (Some n) (node_at ns n.serial)) (eq-eqb n.serial n.serial refl), q)
    step true q (suc k) at rest = later k at (rest k at)
    step false q j at rest = later j at (rest j at)

pub node_known : (ns : List Node) (i : ℕ) (e : Node) → IsDistinct ns → slice_get (elements ns) i ≡ Some e → node_at ns e.serial ≡ Some e
node_known ns i e d at = (element_known ns i e d at).0

-- and it is the element with this serial
pub element_alone : (ns : List Node) (i : ℕ) (e : Node) → IsDistinct ns → slice_get (elements ns) i ≡ Some e → node_at (elements ns) e.serial ≡ Some e
element_alone ns i e d at =
    let known = element_known ns i e d at in
    element_at ns e.serial d ∙ ap only_element known.0 ∙ ap (λ t. cond t (Some e) None) known.1

-- an element is a node
pub some_node : (ns : List Node) (s : ℕ) → IsDistinct ns → is_some (node_at (elements ns) s) ≡ true → IsSome (node_at ns s)
some_node ns s d q = by (node_at ns s) (ap is_some (sym (element_at ns s d)) ∙ q)
  where
    by : (o : Option Node) → is_some (only_element o) ≡ true → IsSome o
    by None r = cc
    by (Some n) r = refl

-- the source of a cell's item
pub source_here : (nodes : List Node) (cell : Cell) (e : Node) → slice_get (elements nodes) cell.row ≡ Some e → source_at nodes cell ≡ source_by nodes e.serial (slice_get (items_of nodes cell.side e) cell.item)
source_here nodes cell e here = ap (source_under nodes cell) here ∙ ap (λ o. source_by nodes e.serial (item_under nodes cell o)) here

-- a cell with an item is a cell of the rows
pub item_there : (nodes : List Node) (rows : List ElementTimes) (cell : Cell) → AreRowsOf nodes rows → HasItem nodes cell → HasCell rows cell
item_there nodes rows cell are has = by (slice_get (elements nodes) cell.row) refl has
  where
    by_item : (e : Node) → slice_get (elements nodes) cell.row ≡ Some e → (o : Option Item) → slice_get (items_of nodes cell.side e) cell.item ≡ o → is_some o ≡ true → HasCell rows cell
    by_item e here None q r = cc
    by_item e here (Some item) q r = item_cell nodes rows cell e item are here q

    by : (o : Option Node) → slice_get (elements nodes) cell.row ≡ o → is_some (item_under nodes cell o) ≡ true → HasCell rows cell
    by None q r = cc
    by (Some e) q r = by_item e q (slice_get (items_of nodes cell.side e) cell.item) refl r

-- ---- the element of a row

serial_of_some : (o : Option Node) (who : ℕ) → serial_of o ≡ Some who → (e : Node) × (o ≡ Some e) × (e.serial ≡ who)
serial_of_some None who q = cc
serial_of_some (Some e) who q = (e, refl, cc)

module _ (nodes : List Node) (distinct : IsDistinct nodes) where
  pub cell_known : (dependents : DocumentDependents) (cell : Cell) (who : ℕ) (s : Source) → AreDependentsOf nodes dependents → serial_of (slice_get (elements nodes) cell.row) ≡ Some who → s ≡ source_in dependents.rows cell → IsCellOf nodes cell who s
  cell_known dependents cell who s known q is =
      let e = serial_of_some (slice_get (elements nodes) cell.row) who q in
      record {
        element = e.0;
        here = e.1;
        known = ap (node_at nodes) (sym e.2) ∙ node_known nodes cell.row e.0 distinct e.1;
        alone = ap (node_at (elements nodes)) (sym e.2) ∙ element_alone nodes cell.row e.0 distinct e.1;
        serial = e.2;
        source_is = is ∙ known.sources cell;
      }

  -- what is still kept for it
  pub trimmed_here : (log : List LogEntry) (diary : List Entry) (cell : Cell) (who : ℕ) (s : Source) → IsCellOf nodes cell who s → (kept : List InstanceTime) → remaining (record { nodes = nodes; log = log; diary = diary }) who s kept ≡ remaining_at (record { nodes = nodes; log = log; diary = diary }) cell kept
  trimmed_here log diary cell who s is kept =
      let h : History = record { nodes = nodes; log = log; diary = diary } in
      ap (λ n. remaining h n s kept) (sym is.serial)
      ∙ ap (λ t. remaining h is.element.serial t kept) is.source_is
      ∙ sym (ap (λ o. remaining_under h cell o kept) is.here)

  -- what it names is a node
  pub base_known : BasesAreElements → (cell : Cell) (e : Node) (of : ℕ) → slice_get (elements nodes) cell.row ≡ Some e → base_of (source_at nodes cell) ≡ Some of → is_some (node_at (elements nodes) of) ≡ true
  base_known law cell e of here q = by (slice_get (items_of nodes cell.side e) cell.item) (ap base_of (sym (source_here nodes cell e here)) ∙ q)
    where
      by : (o : Option Item) → base_of (source_by nodes e.serial o) ≡ Some of → is_some (node_at (elements nodes) of) ≡ true
      by None r = cc
      by (Some item) r = law nodes e item of (element_alone nodes cell.row e distinct here) r

  pub base_there : BasesAreElements → (cell : Cell) (who : ℕ) (s : Source) → IsCellOf nodes cell who s → (of : ℕ) → base_of s ≡ Some of → IsSome (node_at nodes of)
  base_there law cell who s is of q = some_node nodes of distinct (base_known law cell is.element of is.here (ap base_of (sym is.source_is) ∙ q))

  -- ---- an entry on no element

  module _ (x : ℕ) (absent : node_at (elements nodes) x ≡ None) where
    abbrev IsOther : Node → Type 0
    IsOther n = (is_element n && (n.serial == x)) ≡ false

    each_other : (ns : List Node) → node_at (elements ns) x ≡ None → AllByRecursion IsOther ns
    each_other [] q = tt
    each_other (n ∷ ns) q = step (is_element n) refl q (each_other ns)
      where
        unlike : (t : Bool) (o : Option Node) → cond t (Some n) o ≡ None → (t ≡ false) × (o ≡ None)
        unlike true o r = cc
        unlike false o r = (refl, r)

        step : (t : Bool) → is_element n ≡ t → node_at (cond t (n ∷ elements ns) (elements ns)) x ≡ None → (node_at (elements ns) x ≡ None → AllByRecursion IsOther ns) → IsOther n × AllByRecursion IsOther ns
        step true k r rest = let both = unlike (n.serial == x) (node_at (elements ns) x) r in (ap (λ t. t && (n.serial == x)) k ∙ both.0, rest both.1)
        step false k r rest = (ap (λ t. t && (n.serial == x)) k, rest r)

    none_found : (chain : List Node) → AllByRecursion IsOther chain → has_serial x (find is_element chain) ≡ false
    none_found [] each = refl
    none_found (m ∷ ms) each = step (is_element m) refl (none_found ms each.1)
      where
        step : (t : Bool) → is_element m ≡ t → has_serial x (find is_element ms) ≡ false → has_serial x (cond t (Some m) (find is_element ms)) ≡ false
        step true q rest = ap (λ t. t && (m.serial == x)) (sym q) ∙ each.0
        step false q rest = rest

    dropped : (chain : List Node) → AllByRecursion IsOther chain → AllByRecursion IsOther (drop 1 chain)
    dropped [] each = tt
    dropped (m ∷ ms) each = each.1

    no_child : (s : ℕ) → is_child_of nodes x s ≡ false
    no_child s = none_found (ancestors nodes s) (dropped (lineage nodes s) (each_upwards IsOther (reverse nodes) s (each_reverse IsOther nodes (each_other nodes absent))))

    other_base : (o : Option ℕ) → ((of : ℕ) → o ≡ Some of → is_some (node_at (elements nodes) of) ≡ true) → is_option x o ≡ false
    other_base None all = refl
    other_base (Some of) all = by (x == of) refl
      where
        by : (t : Bool) → (x == of) ≡ t → t ≡ false
        by false q = refl
        by true q =
            let never : is_some {T = Node} None ≡ true = ap is_some (sym absent ∙ ap (node_at (elements nodes)) (eqb-true x of q)) ∙ all of refl in
            cc

    no_reset : (e : ℕ) (s : Source) → is_reset_with nodes x e s ≡ false
    no_reset e source.Start = no_child e
    no_reset e (source.Syncbase of edge) = ap (λ t. t || is_child_of nodes x of) (no_child e) ∙ no_child of
    no_reset e (source.Eventbase of) = no_child e
    no_reset e (source.Key key) = no_child e
    no_reset e source.Nothing = refl

    -- an entry on no element concerns nothing
    pub unconcerned : BasesAreElements → (birth : Bool) (key : Option ℕ) (cell : Cell) → is_concerned_cell nodes birth (Some x) key cell ≡ false
    unconcerned law birth key cell = by (slice_get (elements nodes) cell.row) refl
      where
        by : (o : Option Node) → slice_get (elements nodes) cell.row ≡ o → concerned_under nodes birth (Some x) key cell o ≡ false
        by None q = refl
        by (Some e) q =
            ap (λ t. t || (birth && is_reset_with nodes x e.serial (source_at nodes cell))) (other_base (base_of (source_at nodes cell)) (λ of r. base_known law cell e of q r))
            ∙ ap (λ t. birth && t) (no_reset e.serial (source_at nodes cell))
            ∙ and-false birth

  -- no entry on nothing concerns anything
  nothing_concerned : (birth : Bool) (cell : Cell) → is_concerned_cell nodes birth None None cell ≡ false
  nothing_concerned birth cell = by (slice_get (elements nodes) cell.row)
    where
      by : (o : Option Node) → concerned_under nodes birth None None cell o ≡ false
      by None = refl
      by (Some e) = refl

  -- the same by the definition of the cells
  same_test : (birth : Bool) (x : ℕ) (key : Option ℕ) (cell : Cell) → is_concerned_cell nodes birth (Some x) key cell ≡ concerns_cell nodes birth x cell
  same_test birth x key cell = by (slice_get (elements nodes) cell.row)
    where
      by : (o : Option Node) → concerned_under nodes birth (Some x) key cell o ≡ concerns_under nodes birth x cell o
      by None = refl
      by (Some e) = refl

  -- and by that of the cells of a key
  same_key : (birth : Bool) (key : ℕ) (cell : Cell) → is_concerned_cell nodes birth None (Some key) cell ≡ keys_cell nodes key cell
  same_key birth key cell = by (slice_get (elements nodes) cell.row) refl
    where
      by : (o : Option Node) → slice_get (elements nodes) cell.row ≡ o → concerned_under nodes birth None (Some key) cell o ≡ is_keyed (Some key) (source_under nodes cell o)
      by None q = refl
      by (Some e) q = ap (λ o. is_keyed (Some key) (source_under nodes cell o)) q

  -- ---- rows by serials

  placed_row : (rows : List ElementTimes) (es : List Node) (who place : ℕ) → map shape_of rows ≡ map (shape_in nodes) es → index_in rows who ≡ Some place → (e : Node) × (slice_get es place ≡ Some e) × (e.serial ≡ who)
  placed_row [] es who place q at = cc
  placed_row (r ∷ rs) [] who place q at = cc
  placed_row (r ∷ rs) (e ∷ es) who place q at = by (r.serial == who) refl (index_in rs who) refl at (λ k. placed_row rs es who k tail)
    where
      tail : map shape_of rs ≡ map (shape_in nodes) es
      tail = cc

      head : shape_of r ≡ shape_in nodes e
      head = cc

      by : (t : Bool) → (r.serial == who) ≡ t → (o : Option ℕ) → index_in rs who ≡ o → cond t (Some 0) (option_map suc o) ≡ Some place → ((k : ℕ) → index_in rs who ≡ Some k → (f : Node) × (slice_get es k ≡ Some f) × (f.serial ≡ who)) → (f : Node) × (slice_get (e ∷ es) place ≡ Some f) × (f.serial ≡ who)
      by true p o k r' rest =
          let zeroth : 0 ≡ place = cc in
          (e, ap (slice_get (e ∷ es)) (sym zeroth), sym (ap (λ (s : ItemCounts). s.serial) head) ∙ eqb-true r.serial who p)
      by false p None k r' rest = cc
      by false p (Some j) k r' rest =
          let next : suc j ≡ place = cc in
          let found = rest j k in
          (found.0, ap (slice_get (e ∷ es)) (sym next) ∙ found.1, found.2)

  unplaced_row : (rows : List ElementTimes) (es : List Node) (who : ℕ) → map shape_of rows ≡ map (shape_in nodes) es → index_in rows who ≡ None → node_at es who ≡ None
  unplaced_row [] [] who q at = refl
  unplaced_row [] (e ∷ es) who q at = cc
  unplaced_row (r ∷ rs) [] who q at = cc
  unplaced_row (r ∷ rs) (e ∷ es) who q at = by (r.serial == who) refl (index_in rs who) refl at (unplaced_row rs es who tail)
    where
      tail : map shape_of rs ≡ map (shape_in nodes) es
      tail = cc

      head : shape_of r ≡ shape_in nodes e
      head = cc

      by : (t : Bool) → (r.serial == who) ≡ t → (o : Option ℕ) → index_in rs who ≡ o → cond t (Some 0) (option_map suc o) ≡ None → (index_in rs who ≡ None → node_at es who ≡ None) → node_at (e ∷ es) who ≡ None
      by true p o k r' rest = cc
      by false p (Some j) k r' rest = cc
      by false p None k r' rest =
          ap (λ t. cond t (Some e) (node_at es who)) (ap (λ s. s == who) (sym (ap (λ (s : ItemCounts). s.serial) head)) ∙ p) ∙ rest k

  -- ---- the cells

  -- for an entry on the element of a row
  pub those_of : (rows : List ElementTimes) (dependents : DocumentDependents) (birth : Bool) (who : ℕ) (key : Option ℕ) (place : ℕ) → AreRowsOf nodes rows → AreDependentsOf nodes dependents → index_in rows who ≡ Some place → AreThose (is_concerned_cell nodes birth (Some who) key) (cells_in dependents.rows place birth)
  those_of rows dependents birth who key place are known at = λ cell.
      let e = placed_row rows (elements nodes) who place are at in
      known.cells place e.0 birth e.1 cell
      ∙ ap (λ x. cond (concerns_cell nodes birth x cell) 1 0) e.2
      ∙ ap (λ t. cond t 1 0) (sym (same_test birth who key cell))

  -- for an entry on no element
  pub those_unplaced : BasesAreElements → (rows : List ElementTimes) (birth : Bool) (who : ℕ) (key : Option ℕ) → AreRowsOf nodes rows → index_in rows who ≡ None → AreThose (is_concerned_cell nodes birth (Some who) key) []
  those_unplaced law rows birth who key are at = λ cell.
      sym (ap (λ t. cond t 1 0) (unconcerned who (unplaced_row rows (elements nodes) who are at) law birth key cell))

  -- for an entry on no element, which may be a press of a key
  pub those_keyed : (dependents : DocumentDependents) (birth : Bool) (key : Option ℕ) → AreDependentsOf nodes dependents → AreThose (is_concerned_cell nodes birth None key) (keyed_by dependents key)
  those_keyed dependents birth None known = λ cell. sym (ap (λ t. cond t 1 0) (nothing_concerned birth cell))
  those_keyed dependents birth (Some key) known = λ cell. known.keyed key cell ∙ ap (λ t. cond t 1 0) (sym (same_key birth key cell))
