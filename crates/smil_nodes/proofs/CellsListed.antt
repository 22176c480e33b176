-- The elements of some cells are those that have an item that passes.
use Rattle.std.proofs.Common.{◌≡◌, refl, sym, ◌∙◌, ap, ℕ, zero, suc, ◌+◌, List, [], ◌∷◌, Option, Some, None, Bool, true, false, arith, inl, inr}
use mathlib.Core.Bool.{and-false, and-true}
use Rattle.std.specs.Prelude.{cond, is_some, option_map, slice_get, count_by, ◌==◌, ◌&&◌, ◌||◌, ◌⊎◌}
use Rattle.std.specs.List.{list_any, position}
use Rattle.std.proofs.lemmas.Bool.{and_from, and_parts, false_from_ne_true, or_cases, or_left, or_right}
use Rattle.std.proofs.lemmas.List.Folds.{list_any-append}
use Rattle.smil_model.specs.declared.diary.Step.{Step}
use Rattle.smil_model.specs.declared.diary.Step.TheVariants.{Began, Repeated, Ended, Cut, Paused, Resumed, Deferred, Passed, Logged}
use Rattle.smil_model.specs.declared.document.Edge.{Edge}
use Rattle.smil_model.specs.declared.document.Edge.TheVariants.{Begin, End}
use Rattle.smil_model.specs.declared.document.Item.{Item}
use Rattle.smil_model.specs.declared.document.Item.TheVariants.{Offset, Sync, Event, Repeat, Key, Indefinite}
use Rattle.smil_model.specs.declared.document.Node.{Node}
use Rattle.smil_model.specs.document.Closure.{has}
use Rattle.smil_model.specs.declared.document.Attrs.{Attrs}
use Rattle.smil_model.specs.document.Defaults.{begin_list, end_list, items_of, takes_implicit}
use Rattle.smil_model.specs.document.Dependencies.{all_items}
use Rattle.smil_model.specs.document.Document.{element_named, elements, has_serial, node_at, previous_in_seq, serial_of, target, time_parent}
use Rattle.smil_model.specs.document.Valid.{IsDistinct}
use Rattle.smil_model.specs.reach.Reach.{is_event_of, is_key_item, is_option, waiters}
use Rattle.smil_concern_laws.specs.Concerned.{is_hearer, is_moved, moves}
use Rattle.smil_laws.proofs.LineageParents.{same_eqb}
use Rattle.smil_graph.proofs.LinksAreDependencies.{has_serials, there_any_item}
use Rattle.smil_graph.proofs.PlaceLists.{any_each}
use Rattle.smil_instance_rows.specs.declared.cell.Cell.{Cell}
use Rattle.smil_instances.specs.declared.source.Source.{Source}
use Rattle.smil_instances.specs.declared.source.Source.TheVariants as source
use Rattle.smil_instances.specs.Dependents.{AreDependentsOf, DocumentDependents, cells_in, keyed_in}
use Rattle.smil_instances.specs.Sources.{base_of, concerns_cell, concerns_under, eventbase, is_cell, is_keyed, source_at, source_by, source_of, source_under, syncbase_or}
use Rattle.smil_instances.proofs.CellUpdates.{count_first}
use Rattle.smil_instances.proofs.ConcernedCells.{source_here}
use Rattle.smil_instances.proofs.RowShapes.{cell_itself, same_cell}
use Rattle.smil_tree.proofs.InsertPlaces.{both_ways}
use Rattle.smil_past.proofs.KnownNodes.{known_at_place, known_node, known_place}
use Rattle.smil_past.proofs.QueuePut.{node_there}
use Rattle.smil_past.proofs.TimeParents.{parent_node}
use Rattle.smil_cells.specs.Evaluated.{acts_on, is_container}
use Rattle.smil_nodes.specs.Noted.{AreNoted, has_item, has_moved_item, is_of_cell, is_of_moved, moves_source}
use Rattle.smil_nodes.proofs.RanksListed.{none_noted, noted_by}

-- ---- counts

-- one that passes is counted
some_counted : (p : Cell → Bool) (cells : List Cell) (i : ℕ) (c : Cell) → slice_get cells i ≡ Some c → p c ≡ true → count_by p cells ≡ 0 → ⊥
some_counted p [] i c at q none = cc
some_counted p (d ∷ ds) zero c at q none =
    let one : d ≡ c = cc in
    let sum : 1 + count_by p ds ≡ 0 = sym (ap (λ t. cond t 1 0 + count_by p ds) (ap p one ∙ q)) ∙ sym (count_first p d ds) ∙ none in
    absurd (omega (arith, sum))
some_counted p (d ∷ ds) (suc i) c at q none =
    let sum : cond (p d) 1 0 + count_by p ds ≡ 0 = sym (count_first p d ds) ∙ none in
    some_counted p ds i c at q (omega (arith, sum))

-- and what is counted is there
counted_there : (p : Cell → Bool) (cells : List Cell) → count_by p cells ≡ 1 → (i : ℕ) × (c : Cell) × (slice_get cells i ≡ Some c) × (p c ≡ true)
counted_there p [] one = absurd (omega (arith, one))
counted_there p (d ∷ ds) one = by_test (p d) refl (counted_there p ds)
  where
    by_test : (t : Bool) → p d ≡ t → (count_by p ds ≡ 1 → (i : ℕ) × (c : Cell) × (slice_get ds i ≡ Some c) × (p c ≡ true)) → (i : ℕ) × (c : Cell) × (slice_get (d ∷ ds) i ≡ Some c) × (p c ≡ true)
    by_test true q later = (0, d, refl, q)
    by_test false q later =
        let sum : 0 + count_by p ds ≡ 1 = sym (ap (λ t. cond t 1 0 + count_by p ds) q) ∙ sym (count_first p d ds) ∙ one in
        let found = later (omega (arith, sum)) in
        (suc found.0, found.1, found.2, found.3)

any_at : {A : Type 0} (p : A → Bool) (xs : List A) → list_any p xs ≡ true → (i : ℕ) × (x : A) × (slice_get xs i ≡ Some x) × (p x ≡ true)
any_at {A = A} p [] q = cc
any_at {A = A} p (x ∷ xs) q = by_case (or_cases (p x) (list_any p xs) q) (any_at p xs)
  where
    by_case : (p x ≡ true) ⊎ (list_any p xs ≡ true) → (list_any p xs ≡ true → (i : ℕ) × (y : A) × (slice_get xs i ≡ Some y) × (p y ≡ true)) → (i : ℕ) × (y : A) × (slice_get (x ∷ xs) i ≡ Some y) × (p y ≡ true)
    by_case (inl t) later = (0, x, refl, t)
    by_case (inr t) later = let found = later t in (suc found.0, found.1, found.2, found.3)

-- ---- cells that are exactly those that pass

module _ (nodes : List Node) (cells : List Cell) (selects picks : Source → Bool) (those : (c : Cell) → count_by (is_cell c) cells ≡ cond (selects (source_at nodes c)) 1 0) (nothing : selects source.Nothing ≡ false) (passes : ℕ → Item → Bool) (passes_is : (e : ℕ) (item : Item) → passes e item ≡ (selects (source_of nodes e item) && picks (source_of nodes e item))) (s : ℕ) where
  abbrev lists : Cell → Bool
  lists c = picks (source_at nodes c) && is_of_cell nodes c s

  -- a cell that is listed has such an item
  to_item : list_any lists cells ≡ true → has_item nodes passes s ≡ true
  to_item q = found (any_at lists cells q)
    where
      selected : (i : ℕ) (c : Cell) → slice_get cells i ≡ Some c → (t : Bool) → selects (source_at nodes c) ≡ t → t ≡ true
      selected i c at true q = refl
      selected i c at false q = absurd (some_counted (is_cell c) cells i c at (cell_itself c) (those c ∙ ap (λ t. cond t 1 0) q))

      of_side : (c : Cell) (e : Node) → (side : Edge) (item : Item) → slice_get (items_of nodes side e) c.item ≡ Some item → passes e.serial item ≡ true → list_any (passes e.serial) (all_items nodes e) ≡ true
      of_side c e Begin item at q = list_any-append (passes e.serial) (begin_list nodes e) (end_list e) ∙ or_left _ _ (there_any_item (passes e.serial) (begin_list nodes e) c.item item at q)
      of_side c e End item at q = list_any-append (passes e.serial) (begin_list nodes e) (end_list e) ∙ or_right _ _ (there_any_item (passes e.serial) (end_list e) c.item item at q)

      of_element : (c : Cell) (e : Node) → slice_get (elements nodes) c.row ≡ Some e → (e.serial == s) ≡ true → selects (source_at nodes c) ≡ true → picks (source_at nodes c) ≡ true → (o : Option Item) → slice_get (items_of nodes c.side e) c.item ≡ o → has_item nodes passes s ≡ true
      of_element c e here own sel pick None at =
          let none : selects (source_at nodes c) ≡ false = ap selects (source_here nodes c e here ∙ ap (source_by nodes e.serial) at) ∙ nothing in
          let never : true ≡ false = sym sel ∙ none in
          cc
      of_element c e here own sel pick (Some item) at =
          let is : source_at nodes c ≡ source_of nodes e.serial item = source_here nodes c e here ∙ ap (source_by nodes e.serial) at in
          there_any_item (λ (n : Node). (n.serial == s) && list_any (passes n.serial) (all_items nodes n)) (elements nodes) c.row e here
          (and_from _ _ own
          (of_side c e c.side item at (passes_is e.serial item ∙ and_from _ _ (ap selects (sym is) ∙ sel) (ap picks (sym is) ∙ pick))))

      by_element : (i : ℕ) (c : Cell) → slice_get cells i ≡ Some c → picks (source_at nodes c) ≡ true → (o : Option Node) → slice_get (elements nodes) c.row ≡ o → has_serial s o ≡ true → has_item nodes passes s ≡ true
      by_element i c at pick None here own = cc
      by_element i c at pick (Some e) here own = of_element c e here own (selected i c at (selects (source_at nodes c)) refl) pick (slice_get (items_of nodes c.side e) c.item) refl

      found : ((i : ℕ) × (c : Cell) × (slice_get cells i ≡ Some c) × (lists c ≡ true)) → has_item nodes passes s ≡ true
      found at = let parts = and_parts (picks (source_at nodes at.1)) (is_of_cell nodes at.1 s) at.3 in by_element at.0 at.1 at.2 parts.0 (slice_get (elements nodes) (at.1).row) refl parts.1

  -- and such an item has a cell that is listed
  from_item : has_item nodes passes s ≡ true → list_any lists cells ≡ true
  from_item q = found (any_at (λ (n : Node). (n.serial == s) && list_any (passes n.serial) (all_items nodes n)) (elements nodes) q)
    where
      of_cell : (c : Cell) (e : Node) (item : Item) → slice_get (elements nodes) c.row ≡ Some e → (e.serial == s) ≡ true → slice_get (items_of nodes c.side e) c.item ≡ Some item → passes e.serial item ≡ true → list_any lists cells ≡ true
      of_cell c e item here own at q =
          let is : source_at nodes c ≡ source_of nodes e.serial item = source_here nodes c e here ∙ ap (source_by nodes e.serial) at in
          let both = and_parts (selects (source_of nodes e.serial item)) (picks (source_of nodes e.serial item)) (sym (passes_is e.serial item) ∙ q) in
          let there = counted_there (is_cell c) cells (those c ∙ ap (λ t. cond t 1 0) (ap selects is ∙ both.0)) in
          let same : c ≡ there.1 = same_cell there.1 c there.3 in
          there_any_item lists cells there.0 there.1 there.2
          (ap lists (sym same) ∙ and_from _ _ (ap picks is ∙ both.1) (ap (has_serial s) here ∙ own))

      found : ((i : ℕ) × (e : Node) × (slice_get (elements nodes) i ≡ Some e) × (((e.serial == s) && list_any (passes e.serial) (all_items nodes e)) ≡ true)) → list_any lists cells ≡ true
      found at =
          let e = at.1 in
          let parts = and_parts (e.serial == s) (list_any (passes e.serial) (all_items nodes e)) at.3 in
          by_side (or_cases (list_any (passes e.serial) (begin_list nodes e)) (list_any (passes e.serial) (end_list e)) (sym (list_any-append (passes e.serial) (begin_list nodes e) (end_list e)) ∙ parts.1))
        where
          by_side : (list_any (passes (at.1).serial) (begin_list nodes at.1) ≡ true) ⊎ (list_any (passes (at.1).serial) (end_list at.1) ≡ true) → list_any lists cells ≡ true
          by_side (inl r) =
              let item = any_at (passes (at.1).serial) (begin_list nodes at.1) r in
              of_cell (record { row = at.0; side = Begin; item = item.0 }) at.1 item.1 at.2 (and_parts ((at.1).serial == s) _ at.3).0 item.2 item.3
          by_side (inr r) =
              let item = any_at (passes (at.1).serial) (end_list at.1) r in
              of_cell (record { row = at.0; side = End; item = item.0 }) at.1 item.1 at.2 (and_parts ((at.1).serial == s) _ at.3).0 item.2 item.3

  pub cells_are : list_any lists cells ≡ has_item nodes passes s
  cells_are = both_ways _ _ to_item from_item

-- ---- the cells of a document

module _ (nodes : List Node) (dependents : DocumentDependents) (known : AreDependentsOf nodes dependents) where
  -- the items that a step on an element moves are among those that name it
  module _ (x : ℕ) (step : Step) where
    by_syncbase : (without : Source) (edge : Edge) → (is_option x (base_of without) && moves_source step without) ≡ false → (o : Option Node) → (has_serial x o && moves edge step) ≡ (is_option x (base_of (syncbase_or without edge o)) && moves_source step (syncbase_or without edge o))
    by_syncbase without edge none None = sym none
    by_syncbase without edge none (Some b) = ap (λ t. t && moves edge step) (same_eqb b.serial x)

    by_eventbase : (o : Option ℕ) → is_option x o ≡ (is_option x (base_of (eventbase o)) && moves_source step (eventbase o))
    by_eventbase None = refl
    by_eventbase (Some t) = sym (and-true (x == t))

    moved_is : (e : ℕ) (item : Item) → is_moved nodes e x step item ≡ (is_option x (base_of (source_of nodes e item)) && moves_source step (source_of nodes e item))
    moved_is e (Offset offset) = by_syncbase source.Start End refl (previous_in_seq nodes e)
    moved_is e (Sync who edge offset) = by_syncbase source.Nothing edge refl (element_named nodes who)
    moved_is e (Event who name offset) = by_eventbase (target nodes e who)
    moved_is e (Repeat who n offset) = by_eventbase (target nodes e who)
    moved_is e (Key key offset) = refl
    moved_is e Indefinite = refl

    named_is : (c : Cell) → concerns_cell nodes false x c ≡ is_option x (base_of (source_at nodes c))
    named_is c = by (slice_get (elements nodes) c.row) refl
      where
        or_none : (a : Bool) → (a || false) ≡ a
        or_none true = refl
        or_none false = refl

        by : (o : Option Node) → slice_get (elements nodes) c.row ≡ o → concerns_under nodes false x c o ≡ is_option x (base_of (source_at nodes c))
        by None q = sym (ap (λ o. is_option x (base_of (source_under nodes c o))) q)
        by (Some e) q = or_none (is_option x (base_of (source_at nodes c)))

    pub moved_cells : (row : ℕ) (n : Node) (s : ℕ) → slice_get (elements nodes) row ≡ Some n → n.serial ≡ x → list_any (λ (c : Cell). is_of_moved nodes step c s) (cells_in dependents.rows row false) ≡ has_item nodes (λ e. is_moved nodes e x step) s
    moved_cells row n s here own =
        cells_are nodes (cells_in dependents.rows row false) (λ t. is_option x (base_of t)) (moves_source step)
        (λ c. known.cells row n false here c ∙ ap (λ y. cond (concerns_cell nodes false y c) 1 0) own ∙ ap (λ t. cond t 1 0) (named_is c))
        refl (λ e. is_moved nodes e x step) moved_is s

  -- those that wait for a key
  module _ (key : ℕ) where
    not_keyed : (without : Source) (edge : Edge) → is_keyed (Some key) without ≡ false → (o : Option Node) → false ≡ (is_keyed (Some key) (syncbase_or without edge o) && true)
    not_keyed without edge none None = sym (ap (λ t. t && true) none)
    not_keyed without edge none (Some b) = refl

    not_heard : (o : Option ℕ) → false ≡ (is_keyed (Some key) (eventbase o) && true)
    not_heard None = refl
    not_heard (Some t) = refl

    keyed_is : (e : ℕ) (item : Item) → is_key_item key item ≡ (is_keyed (Some key) (source_of nodes e item) && true)
    keyed_is e (Offset offset) = not_keyed source.Start End refl (previous_in_seq nodes e)
    keyed_is e (Sync who edge offset) = not_keyed source.Nothing edge refl (element_named nodes who)
    keyed_is e (Event who name offset) = not_heard (target nodes e who)
    keyed_is e (Repeat who n offset) = not_heard (target nodes e who)
    keyed_is e (Key own offset) = sym (and-true (own == key))
    keyed_is e Indefinite = refl

    turned : (a b : Bool) → (a && b) ≡ (b && a)
    turned true b = sym (and-true b)
    turned false b = sym (and-false b)

    pub waiting_cells : (s : ℕ) → list_any (λ (c : Cell). is_of_cell nodes c s) (keyed_in dependents.keys key) ≡ has (waiters nodes key) s
    waiting_cells s =
        cells_are nodes (keyed_in dependents.keys key) (is_keyed (Some key)) (λ t. true) (known.keyed key) refl (λ e. is_key_item key) keyed_is s
        ∙ any_each (λ (e : Node). (e.serial == s) && list_any (is_key_item key) (all_items nodes e)) (λ (e : Node). list_any (is_key_item key) (all_items nodes e) && (e.serial == s)) (elements nodes) (λ e. turned (e.serial == s) (list_any (is_key_item key) (all_items nodes e)))
        ∙ sym (has_serials (λ (e : Node). list_any (is_key_item key) (all_items nodes e)) (elements nodes) s)

-- ---- an entry of the log moves nothing but what hears it

quiet : (edge : Edge) (step : Step) → acts_on step ≡ None → moves edge step ≡ false
quiet edge (Began who begin) on = cc
quiet edge (Repeated who start) on = cc
quiet edge (Ended who end') on = cc
quiet edge (Cut who) on = cc
quiet edge (Paused who) on = cc
quiet edge (Resumed who) on = cc
quiet edge (Deferred who begin) on = cc
quiet edge (Passed who begin) on = cc
quiet Begin (Logged place) on = refl
quiet End (Logged place) on = refl

pub hearers_are : (nodes : List Node) (x : ℕ) (step : Step) (s : ℕ) → acts_on step ≡ None → has_item nodes (λ e. is_moved nodes e x step) s ≡ is_hearer nodes x s
hearers_are nodes x step s on =
    any_each (λ (e : Node). (e.serial == s) && list_any (is_moved nodes e.serial x step) (all_items nodes e)) (λ (e : Node). (e.serial == s) && list_any (is_event_of nodes e.serial x) (all_items nodes e)) (elements nodes)
    (λ e. ap (λ t. (e.serial == s) && t) (any_each (is_moved nodes e.serial x step) (is_event_of nodes e.serial x) (all_items nodes e) (each e.serial)))
  where
    each : (e : ℕ) (item : Item) → is_moved nodes e x step item ≡ is_event_of nodes e x item
    each e (Offset offset) = ap (λ t. has_serial x (previous_in_seq nodes e) && t) (quiet End step on) ∙ and-false (has_serial x (previous_in_seq nodes e))
    each e (Sync who edge offset) = ap (λ t. has_serial x (element_named nodes who) && t) (quiet edge step on) ∙ and-false (has_serial x (element_named nodes who))
    each e (Event who name offset) = refl
    each e (Repeat who n offset) = refl
    each e (Key key offset) = refl
    each e Indefinite = refl

-- ---- the element of one cell

pub cell_element : (nodes : List Node) (c : Cell) (serial s : ℕ) → serial_of (slice_get (elements nodes) c.row) ≡ Some serial → (serial == s) ≡ is_of_cell nodes c s
cell_element nodes c serial s at = by (slice_get (elements nodes) c.row) at
  where
    by : (o : Option Node) → serial_of o ≡ Some serial → (serial == s) ≡ has_serial s o
    by None q = cc
    by (Some e) q = let one : e.serial ≡ serial = cc in ap (λ k. k == s) (sym one)

pub cell_of_none : (nodes : List Node) (c : Cell) (s : ℕ) → serial_of (slice_get (elements nodes) c.row) ≡ None → is_of_cell nodes c s ≡ false
cell_of_none nodes c s at = by (slice_get (elements nodes) c.row) at
  where
    by : (o : Option Node) → serial_of o ≡ None → has_serial s o ≡ false
    by None q = refl
    by (Some e) q = cc

-- ---- all that are listed

module _ (nodes : List Node) (order : List ℕ) (who : ℕ) (step : Step) where
  -- the elements of the items that a step on an element moves
  pub moved_noted : (dependents : DocumentDependents) (row : ℕ) (old new : List ℕ) → AreDependentsOf nodes dependents → Some row ≡ position (λ (n : Node). n.serial == who) (elements nodes) → AreNoted order (λ s. list_any (λ (c : Cell). is_of_moved nodes step c s) (cells_in dependents.rows row false)) old new → AreNoted order (has_moved_item nodes who step) old new
  moved_noted dependents row old new known at noted =
      noted_by order (λ s. list_any (λ (c : Cell). is_of_moved nodes step c s) (cells_in dependents.rows row false)) (has_moved_item nodes who step) old new
      (λ s r at_s.
      let there = node_there (elements nodes) row who at in
      moved_cells nodes dependents known who step row there.node s there.at there.serial
      ∙ sym (ap (λ t. t && has_item nodes (λ e. is_moved nodes e who step) s) (known_at_place (elements nodes) who (ap is_some (sym at)))))
      noted

  -- none, where there is no such element
  pub moved_none : (old : List ℕ) → None ≡ position (λ (n : Node). n.serial == who) (elements nodes) → AreNoted order (has_moved_item nodes who step) old old
  moved_none old at =
      none_noted order (has_moved_item nodes who step) old
      (λ s r at_s. ap (λ t. t && has_item nodes (λ e. is_moved nodes e who step) s) absent)
    where
      absent : is_some (node_at (elements nodes) who) ≡ false
      absent =
          false_from_ne_true (is_some (node_at (elements nodes) who))
          (λ some. let never : false ≡ true = ap is_some at ∙ known_place (elements nodes) who some in cc)

  -- where the step acts on nothing, of those that hear the element
  pub hearers_noted : (old new : List ℕ) → acts_on step ≡ None → AreNoted order (has_moved_item nodes who step) old new → AreNoted order (λ s. is_some (node_at (elements nodes) who) && is_hearer nodes who s) old new
  hearers_noted old new on noted =
      noted_by order (has_moved_item nodes who step) (λ s. is_some (node_at (elements nodes) who) && is_hearer nodes who s) old new
      (λ s r at. ap (λ t. is_some (node_at (elements nodes) who) && t) (hearers_are nodes who step s on)) noted

-- those that wait for a key
pub waiting_noted : (nodes : List Node) (dependents : DocumentDependents) (order : List ℕ) (key : ℕ) (old new : List ℕ) → AreDependentsOf nodes dependents → AreNoted order (λ s. list_any (λ (c : Cell). is_of_cell nodes c s) (keyed_in dependents.keys key)) old new → AreNoted order (has (waiters nodes key)) old new
waiting_noted nodes dependents order key old new known noted =
    noted_by order (λ s. list_any (λ (c : Cell). is_of_cell nodes c s) (keyed_in dependents.keys key)) (has (waiters nodes key)) old new
    (λ s r at. waiting_cells nodes dependents known key s) noted

-- ---- the container of an element

pub container_is : (nodes : List Node) (who parent s : ℕ) (attrs : Attrs) → IsDistinct nodes → is_some (node_at (elements nodes) who) ≡ true → serial_of (time_parent nodes who) ≡ Some parent → Some attrs ≡ option_map (λ (n : Node). n.attrs) (node_at nodes parent) → is_container (time_parent nodes who) s ≡ ((parent == s) && takes_implicit attrs attrs.dur)
container_is nodes who parent s attrs distinct known under are = by (time_parent nodes who) refl under
  where
    by : (o : Option Node) → time_parent nodes who ≡ o → serial_of o ≡ Some parent → is_container o s ≡ ((parent == s) && takes_implicit attrs attrs.dur)
    by None at q = cc
    by (Some p) at q =
        let one : p.serial ≡ parent = cc in
        let there : node_at nodes parent ≡ Some p = ap (node_at nodes) (sym one) ∙ parent_node nodes who p distinct (known_node nodes who known) at in
        let both : Some attrs ≡ Some p.attrs = are ∙ ap (option_map (λ (n : Node). n.attrs)) there in
        let own : p.attrs ≡ attrs = cc in
        λ i. (one i == s) && takes_implicit (own i) (own i).dur

pub container_none : (nodes : List Node) (who s : ℕ) → serial_of (time_parent nodes who) ≡ None → is_container (time_parent nodes who) s ≡ false
container_none nodes who s under = by (time_parent nodes who) under
  where
    by : (o : Option Node) → serial_of o ≡ None → is_container o s ≡ false
    by None q = refl
    by (Some p) q = cc
