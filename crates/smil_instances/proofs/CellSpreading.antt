-- Each cell goes to the elements that it concerns, and in the end every cell did.
use Rattle.std.proofs.Common.{◌≡◌, refl, sym, ◌∙◌, ap, ℕ, ◌+◌, ◌<◌, ◌≤◌, List, [], Option, Some, None, Bool, true, false, length, map, get_or, arith}
use mathlib.Core.Bool.{and-false, and-true}
use Rattle.std.specs.Prelude.{◌==◌, ◌&&◌, ◌||◌, not, nat_lt, slice_get, count_by, option_map}
use Rattle.std.proofs.lemmas.Bool.{eq-eqb, eqb-true, and_parts, lt-ltb, ltb-false}
use Rattle.std.proofs.lemmas.List.{length-map}
use Rattle.std.proofs.lemmas.Option.{slice_get-map, slice_get_within, slice_get_past, slice_get-get_or}
use Rattle.smil_model.specs.declared.document.Node.{Node}
use Rattle.smil_model.specs.declared.document.Edge.{Edge}
use Rattle.smil_model.specs.declared.document.Edge.TheVariants.{Begin, End}
use Rattle.smil_model.specs.declared.document.Item.{Item}
use Rattle.smil_model.specs.document.Document.{elements, has_serial, serial_of, serials, time_parent}
use Rattle.smil_model.specs.reach.Reach.{is_option}
use Rattle.smil_instances.specs.declared.source.Source.{Source}
use Rattle.smil_instances.specs.declared.source.Source.TheVariants as source
use Rattle.smil_instance_rows.specs.declared.cell.Cell.{Cell}
use Rattle.smil_instances.specs.Sources.{AreThose, base_of, concerns_cell, concerns_under, is_cell, is_concerned, is_keyed, is_reset_with, is_same_edge, item_under, source_at, source_by, source_of}
use Rattle.smil_model.specs.document.Defaults.{items_of}
use Rattle.smil_instances.specs.Sources as kept
use Rattle.smil_instances.specs.Dependents.{AreDependentsOf, ElementDependents, cells_in, cells_of, keyed_in, source_in, source_or, source_under, sources_of}
use Rattle.smil_instances.specs.Keys.{is_for_key}
use Rattle.smil_instances.specs.Spread.{AreSourcesOf, IsParentAt, Takes, first_items, first_of_side, first_rows, fresh_row, fresh_rows, goes_to, goes_to_all, is_of_side, of_first_rows, of_row, of_side, one_if, side_items}
use Rattle.smil_instances.proofs.CellGrowth.{sources_stay}
use Rattle.smil_instances.proofs.EmptyRows.{at_place}
use Rattle.smil_instances.proofs.RowShapes.{same_cell, same_edge}

-- ---- one cell

sums : (b B A S : Bool) → one_if ((b || true) && B && true) + one_if ((b || false) && (A && not (B || false)) && true) + one_if ((b || false) && (S && not (B || A)) && true) ≡ one_if (B || (b && (A || S)))
sums true true true true = refl
sums true true true false = refl
sums true true false true = refl
sums true true false false = refl
sums true false true true = refl
sums true false true false = refl
sums true false false true = refl
sums true false false false = refl
sums false true A S = refl
sums false false A S = refl

module _ (nodes : List Node) (who : ℕ) (cell : Cell) (here : has_serial who (slice_get (elements nodes) cell.row) ≡ true) where
  concerns_is : (b : Bool) (x : ℕ) → concerns_cell nodes b x cell ≡ is_concerned nodes b x who (source_at nodes cell)
  concerns_is b x = by_node (slice_get (elements nodes) cell.row) here
    where
      by_node : (o : Option Node) → has_serial who o ≡ true → concerns_under nodes b x cell o ≡ is_concerned nodes b x who (source_at nodes cell)
      by_node None q = cc
      by_node (Some e) q = ap (λ s. is_concerned nodes b x s (source_at nodes cell)) (eqb-true e.serial who q)

  module _ (s : Source) (is : s ≡ source_at nodes cell) (base above beside third fourth : Option ℕ) (base_is : base ≡ base_of s) (resets : (x : ℕ) → (is_option x above || is_option x beside) ≡ is_reset_with nodes x who s) (third_is : (x : ℕ) → is_option x third ≡ (is_option x above && not (is_option x base || is_option x None))) (fourth_is : (x : ℕ) → is_option x fourth ≡ (is_option x beside && not (is_option x base || is_option x above))) where
    once : (b : Bool) (x : ℕ) (d : Cell) → one_if (goes_to base true cell b x d) + one_if (goes_to third false cell b x d) + one_if (goes_to fourth false cell b x d) ≡ one_if (goes_to_all nodes cell b x d)
    once b x d = by_cell (is_cell d cell) refl
      where
        no_one : (u v : Bool) → one_if (u && v && false) ≡ 0
        no_one true true = refl
        no_one true false = refl
        no_one false v = refl

        concerned : is_cell d cell ≡ true → (is_option x base || (b && (is_option x above || is_option x beside))) ≡ concerns_cell nodes b x d
        concerned q =
            ap (λ o. is_option x o || (b && (is_option x above || is_option x beside))) base_is
            ∙ ap (λ t. is_option x (base_of s) || (b && t)) (resets x)
            ∙ ap (is_concerned nodes b x who) is
            ∙ sym (concerns_is b x)
            ∙ ap (concerns_cell nodes b x) (sym (same_cell cell d q))

        by_cell : (k : Bool) → is_cell d cell ≡ k → one_if ((b || true) && is_option x base && is_cell d cell) + one_if ((b || false) && is_option x third && is_cell d cell) + one_if ((b || false) && is_option x fourth && is_cell d cell) ≡ one_if (is_cell d cell && concerns_cell nodes b x d)
        by_cell true q =
            ap (λ k. one_if ((b || true) && is_option x base && k) + one_if ((b || false) && is_option x third && k) + one_if ((b || false) && is_option x fourth && k)) q
            ∙ ap (λ t. one_if ((b || true) && is_option x base && true) + one_if ((b || false) && t && true) + one_if ((b || false) && is_option x fourth && true)) (third_is x)
            ∙ ap (λ t. one_if ((b || true) && is_option x base && true) + one_if ((b || false) && (is_option x above && not (is_option x base || false)) && true) + one_if ((b || false) && t && true)) (fourth_is x)
            ∙ sums b (is_option x base) (is_option x above) (is_option x beside)
            ∙ ap one_if (concerned q)
            ∙ ap (λ k. one_if (k && concerns_cell nodes b x d)) (sym q)
        by_cell false q =
            let e = no_one (b || true) (is_option x base) in
            let f = no_one (b || false) (is_option x third) in
            let g = no_one (b || false) (is_option x fourth) in
            ap (λ k. one_if ((b || true) && is_option x base && k) + one_if ((b || false) && is_option x third && k) + one_if ((b || false) && is_option x fourth && k)) q
            ∙ omega (arith, e, f, g)
            ∙ ap (λ k. one_if (k && concerns_cell nodes b x d)) (sym q)

    pub cell_noted : (r0 r1 r2 r3 : List ElementDependents) → Takes nodes (goes_to base true cell) r0 r1 → Takes nodes (goes_to third false cell) r1 r2 → Takes nodes (goes_to fourth false cell) r2 r3 → Takes nodes (goes_to_all nodes cell) r0 r3
    cell_noted r0 r1 r2 r3 one two three = record {
      sources = λ row side. three.sources row side ∙ two.sources row side ∙ one.sources row side;
      rows = three.rows ∙ two.rows ∙ one.rows;
      cells = λ row x t d at.
          let a = one.cells row x t d at in
          let b = two.cells row x t d at in
          let c = three.cells row x t d at in
          let f = once t x.serial d in
          omega (arith, a, b, c, f);
    }

-- ---- the cells of one side

next_item : (a i : ℕ) → one_if (nat_lt a i) + one_if (a == i) ≡ one_if (nat_lt a (i + 1))
next_item a i = grind arith

by_concern : (k l q m : Bool) → one_if l + one_if q ≡ one_if m → one_if (l && k) + one_if (q && k) ≡ one_if (m && k)
by_concern true l q m h = ap (λ t. one_if t + one_if (q && true)) (and-true l) ∙ ap (λ t. one_if l + one_if t) (and-true q) ∙ h ∙ ap one_if (sym (and-true m))
by_concern false l q m h =
    omega (arith, ap one_if (and-false l), ap one_if (and-false q), ap one_if (and-false m))

pub no_items : (row : ℕ) (side : Edge) (test : Cell → Bool) (d : Cell) → first_of_side row side 0 test d ≡ false
no_items row side test d = ap (λ t. (is_of_side row side d && t) && test d) none ∙ ap (λ t. t && test d) (and-false (is_of_side row side d))
  where
    none : nat_lt d.item 0 ≡ false
    none = grind arith

pub items_next : (row : ℕ) (side : Edge) (i : ℕ) (test : Cell → Bool) (d : Cell) → one_if (first_of_side row side i test d) + one_if (is_cell d (record { row = row; side = side; item = i }) && test d) ≡ one_if (first_of_side row side (i + 1) test d)
items_next row side i test d = by_tests (d.row == row) (is_same_edge d.side side) (test d)
  where
    by_tests : (r e k : Bool) → one_if (((r && e) && nat_lt d.item i) && k) + one_if ((r && (e && (d.item == i))) && k) ≡ one_if (((r && e) && nat_lt d.item (i + 1)) && k)
    by_tests false e k = refl
    by_tests true false k = refl
    by_tests true true k = by_concern k (nat_lt d.item i) (d.item == i) (nat_lt d.item (i + 1)) (next_item d.item i)

-- ---- all of one side

pub serial_there : (ns : List Node) (row : ℕ) (x : Node) → slice_get ns row ≡ Some x → has_serial x.serial (slice_get ns row) ≡ true
serial_there ns row x at = ap (has_serial x.serial) at ∙ eq-eqb x.serial x.serial refl

pub parent_at : (nodes : List Node) (whos : List ℕ) (row : ℕ) (above : Option ℕ) → whos ≡ serials (elements nodes) → row < length whos → above ≡ serial_of (time_parent nodes (get_or whos row 0)) → IsParentAt nodes above row
parent_at nodes whos row above are below is =
    let here = at_place (elements nodes) whos row are below in
    (here.node, here.at, is ∙ ap (λ who. serial_of (time_parent nodes who)) here.serial)

pub row_there : (rows : List ElementDependents) (row : ℕ) (r : ElementDependents) → r ≡ get_or rows row r → row < length rows → slice_get rows row ≡ Some r
row_there rows row r is below = slice_get-get_or rows row r below ∙ ap Some (sym is)

pub source_here : (nodes : List Node) (rows : List ElementDependents) (cell : Cell) (r : ElementDependents) → AreSourcesOf nodes rows → r ≡ get_or rows cell.row r → cell.row < length rows → source_or (slice_get (sources_of r cell.side) cell.item) ≡ source_at nodes cell
source_here nodes rows cell r are is below = sym (ap (source_under cell) (row_there rows cell.row r is below)) ∙ are cell

no_concern : (nodes : List Node) (b : Bool) (x : ℕ) (d : Cell) → source_at nodes d ≡ source.Nothing → concerns_cell nodes b x d ≡ false
no_concern nodes b x d q = by_node (slice_get (elements nodes) d.row)
  where
    by_node : (o : Option Node) → concerns_under nodes b x d o ≡ false
    by_node None = refl
    by_node (Some e) = ap (is_concerned nodes b x e.serial) q ∙ and-false b

-- where no item from n on passes, the first n are all of the side
pub side_all : (row : ℕ) (side : Edge) (n : ℕ) (test : Cell → Bool) (d : Cell) → (d.row ≡ row → d.side ≡ side → n ≤ d.item → test d ≡ false) → first_of_side row side n test d ≡ of_side row side test d
side_all row side n test d late = by_side (is_of_side row side d) refl
  where
    by_side : (t : Bool) → is_of_side row side d ≡ t → ((t && nat_lt d.item n) && test d) ≡ (t && test d)
    by_side false q = refl
    by_side true q = by_item (nat_lt d.item n) refl
      where
        by_item : (t : Bool) → nat_lt d.item n ≡ t → (t && test d) ≡ test d
        by_item true e = refl
        by_item false e =
            let parts = and_parts (d.row == row) (is_same_edge d.side side) q in
            sym (late (eqb-true d.row row parts.0) (same_edge d.side side parts.1) (ltb-false d.item n e))

-- a cell past the items of a side has no source
pub no_source : (rows : List ElementDependents) (row : ℕ) (side : Edge) (r : ElementDependents) (n : ℕ) → r ≡ get_or rows row r → row < length rows → length (sources_of r side) ≤ n → (d : Cell) → d.row ≡ row → d.side ≡ side → n ≤ d.item → source_in rows d ≡ source.Nothing
no_source rows row side r n is below most d at on past =
    ap (source_under d) (ap (slice_get rows) at ∙ row_there rows row r is below)
    ∙ ap (λ s. source_or (slice_get (sources_of r s) d.item)) on
    ∙ ap source_or (slice_get_past (sources_of r side) d.item (omega (arith, past, most)))

pub items_all : (nodes : List Node) (rows : List ElementDependents) (row : ℕ) (side : Edge) (r : ElementDependents) (n : ℕ) → AreSourcesOf nodes rows → r ≡ get_or rows row r → row < length rows → length (sources_of r side) ≤ n → (b : Bool) (x : ℕ) (d : Cell) → first_items nodes row side n b x d ≡ side_items nodes row side b x d
items_all nodes rows row side r n are is below most b x d =
    side_all row side n (concerns_cell nodes b x) d
    (λ at on past. no_concern nodes b x d (sym (are d) ∙ no_source rows row side r n is below most d at on past))

-- ---- all of an element, and all

pub both_sides : (row : ℕ) (test : Cell → Bool) (d : Cell) → one_if (of_side row Begin test d) + one_if (of_side row End test d) ≡ one_if (of_row row test d)
both_sides row test d = by_side (d.row == row) d.side (test d)
  where
    by_side : (t : Bool) (side : Edge) (k : Bool) → one_if ((t && is_same_edge side Begin) && k) + one_if ((t && is_same_edge side End) && k) ≡ one_if (t && k)
    by_side false side k = refl
    by_side true Begin true = refl
    by_side true Begin false = refl
    by_side true End true = refl
    by_side true End false = refl

pub rows_next : (i : ℕ) (test : Cell → Bool) (d : Cell) → one_if (of_first_rows i test d) + one_if (of_row i test d) ≡ one_if (of_first_rows (i + 1) test d)
rows_next i test d = by_concern (test d) (nat_lt d.row i) (d.row == i) (nat_lt d.row (i + 1)) (next_item d.row i)

pub no_rows : (test : Cell → Bool) (d : Cell) → of_first_rows 0 test d ≡ false
no_rows test d = ap (λ t. t && test d) none
  where
    none : nat_lt d.row 0 ≡ false
    none = grind arith

-- ---- the fresh rows

module _ (nodes : List Node) where
  listed : (e : Node) (side : Edge) → sources_of (fresh_row nodes e) side ≡ map (source_of nodes e.serial) (items_of nodes side e)
  listed e Begin = refl
  listed e End = refl

  one_source : (s : ℕ) (o : Option Item) → source_or (option_map (source_of nodes s) o) ≡ source_by nodes s o
  one_source s None = refl
  one_source s (Some item) = refl

  pub fresh_sources : (rows : List ElementDependents) → rows ≡ fresh_rows nodes → AreSourcesOf nodes rows
  fresh_sources rows is cell =
      ap (λ rs. source_in rs cell) is ∙ ap (source_under cell) (slice_get-map (fresh_row nodes) (elements nodes) cell.row)
      ∙ by_node (slice_get (elements nodes) cell.row) refl
    where
      by_node : (o : Option Node) → slice_get (elements nodes) cell.row ≡ o → source_under cell (option_map (fresh_row nodes) o) ≡ kept.source_under nodes cell o
      by_node None at = refl
      by_node (Some e) at =
          ap (λ ss. source_or (slice_get ss cell.item)) (listed e cell.side)
          ∙ ap source_or (slice_get-map (source_of nodes e.serial) (items_of nodes cell.side e) cell.item)
          ∙ one_source e.serial (slice_get (items_of nodes cell.side e) cell.item)
          ∙ ap (λ o. source_by nodes e.serial (item_under nodes cell o)) (sym at)

  pub fresh_length : (rows : List ElementDependents) → rows ≡ fresh_rows nodes → length rows ≡ length (elements nodes)
  fresh_length rows is = ap length is ∙ length-map (elements nodes) (fresh_row nodes)

  no_cells : (b : Bool) (row : ℕ) → cells_in (fresh_rows nodes) row b ≡ []
  no_cells b row = ap (cells_of b) (slice_get-map (fresh_row nodes) (elements nodes) row) ∙ by_node b (slice_get (elements nodes) row)
    where
      by_node : (t : Bool) (o : Option Node) → cells_of t (option_map (fresh_row nodes) o) ≡ []
      by_node t None = refl
      by_node true (Some e) = refl
      by_node false (Some e) = refl

  every : (b : Bool) (x : ℕ) (d : Cell) → first_rows nodes (length (elements nodes)) b x d ≡ concerns_cell nodes b x d
  every b x d = by_node (slice_get (elements nodes) d.row) refl
    where
      by_node : (o : Option Node) → slice_get (elements nodes) d.row ≡ o → (nat_lt d.row (length (elements nodes)) && concerns_under nodes b x d o) ≡ concerns_under nodes b x d o
      by_node None at = and-false (nat_lt d.row (length (elements nodes)))
      by_node (Some e) at = ap (λ t. t && concerns_under nodes b x d (Some e)) (lt-ltb d.row (length (elements nodes)) (slice_get_within (elements nodes) d.row e at))

  -- once every cell went to the elements that it concerns, and to its key
  pub all_concerned : (fresh rows : List ElementDependents) (keys : List (List Cell)) → fresh ≡ fresh_rows nodes → Takes nodes (first_rows nodes (length (elements nodes))) fresh rows → ((key : ℕ) → AreThose (is_for_key fresh key) (keyed_in keys key)) → AreDependentsOf nodes (record { rows = rows; keys = keys })
  all_concerned fresh rows keys is takes keyed = record {
    sources = sources_stay nodes (first_rows nodes (length (elements nodes))) fresh rows takes (fresh_sources fresh is);
    keyed = λ key d. keyed key d ∙ ap (λ s. one_if (is_keyed (Some key) s)) (fresh_sources fresh is d);
    cells = λ row x b at d.
        let told = takes.cells row x b d at in
        let none : count_by (is_cell d) (cells_in fresh row b) ≡ 0 = ap (λ rs. count_by (is_cell d) (cells_in rs row b)) is ∙ ap (count_by (is_cell d)) (no_cells b row) in
        let all : one_if (first_rows nodes (length (elements nodes)) b x.serial d) ≡ one_if (concerns_cell nodes b x.serial d) = ap one_if (every b x.serial d) in
        omega (arith, told, none, all);
  }
