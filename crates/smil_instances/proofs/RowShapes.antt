-- Rows of one shape, cell by cell.
use Rattle.std.proofs.Common.{◌≡◌, refl, sym, ◌∙◌, ap, ℕ, suc, zero, ◌<◌, List, [], ◌∷◌, length, Option, Some, None, true, false, arith}
use Rattle.std.specs.Prelude.{map, get_or, set, slice_get, ◌==◌, ◌&&◌, unwrap_or}
use Rattle.std.specs.Option.{option_map}
use Rattle.std.proofs.lemmas.Bool.{eqb-true, eq-eqb, and_parts}
use Rattle.std.proofs.lemmas.Option.{slice_get-map, unwrap_or-slice_get, slice_get_within}
use Rattle.std.proofs.lemmas.List.{length-set, length-map}
use Rattle.smil_model.specs.declared.document.Edge.{Edge}
use Rattle.smil_model.specs.declared.document.Edge.TheVariants.{Begin, End}
use Rattle.smil_model.specs.declared.document.Item.{Item}
use Rattle.smil_model.specs.declared.document.Node.{Node}
use Rattle.smil_model.specs.document.Document.{elements}
use Rattle.smil_model.specs.diary.Diary.{History}
use Rattle.smil_instance_rows.specs.declared.item_times.InstanceTime.{InstanceTime}
use Rattle.smil_instance_rows.specs.declared.cell.Cell.{Cell}
use Rattle.smil_instance_rows.specs.Cells.{side_of, list_of, with_list}
use Rattle.smil_instance_rows.specs.Rows.{ElementTimes}
use Rattle.smil_instances.specs.SettledTimes.{instances_of, row_of, settled_rows}
use Rattle.smil_instances.specs.Sources.{is_cell, is_same_edge}
use Rattle.smil_model.specs.document.Defaults.{items_of}
use Rattle.smil_instance_rows.specs.Changes.{row_at, no_row, HasCell, cell_of, with_cell}
use Rattle.smil_instances.specs.Intake.{ItemCounts, shape_of, shape_in, AreRowsOf}

-- ---- the shape stays

listed_shape : (row : ElementTimes) (side : Edge) (item : ℕ) (kept : List InstanceTime) → shape_of (with_list row side item kept) ≡ shape_of row
listed_shape row Begin item kept = ap (λ n. record { serial = row.serial; begins = n; ends = length row.ends }) (length-set row.begins item kept)
listed_shape row End item kept = ap (λ n. record { serial = row.serial; begins = length row.begins; ends = n }) (length-set row.ends item kept)

set_shape : (rows : List ElementTimes) (i : ℕ) (row : ElementTimes) → shape_of row ≡ shape_of (row_at rows i) → map shape_of (set rows i row) ≡ map shape_of rows
set_shape [] i row q = refl
set_shape (r ∷ rs) zero row q = ap (λ s. s ∷ map shape_of rs) q
set_shape (r ∷ rs) (suc i) row q = ap (λ ss. shape_of r ∷ ss) (set_shape rs i row q)

pub cell_shape : (rows : List ElementTimes) (cell : Cell) (kept : List InstanceTime) → map shape_of (with_cell rows cell kept) ≡ map shape_of rows
cell_shape rows cell kept =
    set_shape rows cell.row (with_list (row_at rows cell.row) cell.side cell.item kept)
    (listed_shape (row_at rows cell.row) cell.side cell.item kept)

-- ---- the same rows

same_lists : {A : Type 0} (xs ys : List A) (d : A) → length xs ≡ length ys → ((i : ℕ) → get_or xs i d ≡ get_or ys i d) → xs ≡ ys
same_lists [] [] d long same = refl
same_lists [] (y ∷ ys) d long same = absurd (omega (arith, long))
same_lists (x ∷ xs) [] d long same = absurd (omega (arith, long))
same_lists (x ∷ xs) (y ∷ ys) d long same =
    let first : x ≡ y = same 0 in
    let rest : xs ≡ ys = same_lists xs ys d (omega (arith, long)) (λ i. same (suc i)) in
    cc

same_row : (row other : ElementTimes) → shape_of row ≡ shape_of other → ((side : Edge) (item : ℕ) → list_of row side item ≡ list_of other side item) → row ≡ other
same_row row other shape same =
    let begins : row.begins ≡ other.begins = same_lists row.begins other.begins [] (ap (λ (s : ItemCounts). s.begins) shape) (same Begin) in
    let ends : row.ends ≡ other.ends = same_lists row.ends other.ends [] (ap (λ (s : ItemCounts). s.ends) shape) (same End) in
    ap (λ n. record { serial = n; begins = row.begins; ends = row.ends }) (ap (λ (s : ItemCounts). s.serial) shape)
    ∙ ap (λ bs. record { serial = other.serial; begins = bs; ends = row.ends }) begins
    ∙ ap (λ es. record { serial = other.serial; begins = other.begins; ends = es }) ends

-- rows of the same shape with the same in each cell are the same
pub same_rows : (rows others : List ElementTimes) → map shape_of rows ≡ map shape_of others → ((cell : Cell) → cell_of rows cell ≡ cell_of others cell) → rows ≡ others
same_rows [] [] shape same = refl
same_rows [] (o ∷ os) shape same = cc
same_rows (r ∷ rs) [] shape same = cc
same_rows (r ∷ rs) (o ∷ os) shape same =
    let head : shape_of r ≡ shape_of o = cc in
    let tail : map shape_of rs ≡ map shape_of os = cc in
    let first : r ≡ o = same_row r o head (λ side item. same (record { row = 0; side = side; item = item })) in
    let rest : rs ≡ os = same_rows rs os tail (λ cell. same (record { row = suc cell.row; side = cell.side; item = cell.item })) in
    ap (λ (x : ElementTimes). x ∷ rs) first ∙ ap (λ xs. o ∷ xs) rest

-- ---- one cell and another

pub same_edge : (side other : Edge) → is_same_edge side other ≡ true → side ≡ other
same_edge Begin Begin q = refl
same_edge End End q = refl
same_edge Begin End q = cc
same_edge End Begin q = cc

edge_itself : (side : Edge) → is_same_edge side side ≡ true
edge_itself Begin = refl
edge_itself End = refl

pub same_cell : (c d : Cell) → is_cell d c ≡ true → d ≡ c
same_cell c d q =
    let parts = and_parts (d.row == c.row) (is_same_edge d.side c.side && (d.item == c.item)) q in
    let inner = and_parts (is_same_edge d.side c.side) (d.item == c.item) parts.1 in
    ap (λ n. record { row = n; side = d.side; item = d.item }) (eqb-true d.row c.row parts.0)
    ∙ ap (λ s. record { row = c.row; side = s; item = d.item }) (same_edge d.side c.side inner.0)
    ∙ ap (λ n. record { row = c.row; side = c.side; item = n }) (eqb-true d.item c.item inner.1)

pub cell_itself : (c : Cell) → is_cell c c ≡ true
cell_itself c =
    ap (λ t. t && (is_same_edge c.side c.side && (c.item == c.item))) (eq-eqb c.row c.row refl)
    ∙ ap (λ t. t && (c.item == c.item)) (edge_itself c.side)
    ∙ eq-eqb c.item c.item refl

abbrev Apart : ℕ → ℕ → Edge → Edge → ℕ → ℕ → Type 0
Apart i j s t m n = j ≡ i → t ≡ s → n ≡ m → ⊥

apart : (c d : Cell) → is_cell d c ≡ false → Apart c.row d.row c.side d.side c.item d.item
apart c d q row side item =
    let one : d ≡ c =
    ap (λ n. record { row = n; side = d.side; item = d.item }) row
    ∙ ap (λ s. record { row = c.row; side = s; item = d.item }) side
    ∙ ap (λ n. record { row = c.row; side = c.side; item = n }) item in
    let never : true ≡ false = sym (cell_itself c) ∙ ap (λ (x : Cell). is_cell x c) (sym one) ∙ q in
    cc

set_other : {A : Type 0} (xs : List A) (i j : ℕ) (x d : A) → (j ≡ i → ⊥) → get_or (set xs i x) j d ≡ get_or xs j d
set_other [] i j x d ne = refl
set_other (y ∷ ys) zero zero x d ne = absurd (ne refl)
set_other (y ∷ ys) zero (suc j) x d ne = refl
set_other (y ∷ ys) (suc i) zero x d ne = refl
set_other (y ∷ ys) (suc i) (suc j) x d ne = set_other ys i j x d (λ q. ne (ap suc q))

other_list : (row : ElementTimes) (s t : Edge) (m n : ℕ) (kept : List InstanceTime) → (t ≡ s → n ≡ m → ⊥) → list_of (with_list row s m kept) t n ≡ list_of row t n
other_list row Begin Begin m n kept ne = set_other row.begins m n kept [] (ne refl)
other_list row End End m n kept ne = set_other row.ends m n kept [] (ne refl)
other_list row Begin End m n kept ne = refl
other_list row End Begin m n kept ne = refl

other_at : (rows : List ElementTimes) (i j : ℕ) (s t : Edge) (m n : ℕ) (kept : List InstanceTime) → Apart i j s t m n → list_of (row_at (set rows i (with_list (row_at rows i) s m kept)) j) t n ≡ list_of (row_at rows j) t n
other_at [] i j s t m n kept ne = refl
other_at (r ∷ rs) zero zero s t m n kept ne = other_list r s t m n kept (ne refl)
other_at (r ∷ rs) zero (suc j) s t m n kept ne = refl
other_at (r ∷ rs) (suc i) zero s t m n kept ne = refl
other_at (r ∷ rs) (suc i) (suc j) s t m n kept ne = other_at rs i j s t m n kept (λ q. ne (ap suc q))

-- another cell is as before
pub other_cell : (rows : List ElementTimes) (c d : Cell) (kept : List InstanceTime) → is_cell d c ≡ false → cell_of (with_cell rows c kept) d ≡ cell_of rows d
other_cell rows c d kept q = other_at rows c.row d.row c.side d.side c.item d.item kept (apart c d q)

-- ---- which cells there are

abbrev count_on : ItemCounts → Edge → ℕ
count_on shape Begin = shape.begins
count_on shape End = shape.ends

counted : (row : ElementTimes) (side : Edge) → length (side_of row side) ≡ count_on (shape_of row) side
counted row Begin = refl
counted row End = refl

shapes_length : (rows others : List ElementTimes) → map shape_of rows ≡ map shape_of others → length rows ≡ length others
shapes_length [] [] q = refl
shapes_length [] (o ∷ os) q = cc
shapes_length (r ∷ rs) [] q = cc
shapes_length (r ∷ rs) (o ∷ os) q = let tail : map shape_of rs ≡ map shape_of os = cc in ap suc (shapes_length rs os tail)

shape_at : (rows others : List ElementTimes) (i : ℕ) → map shape_of rows ≡ map shape_of others → shape_of (row_at rows i) ≡ shape_of (row_at others i)
shape_at [] [] i q = refl
shape_at [] (o ∷ os) i q = cc
shape_at (r ∷ rs) [] i q = cc
shape_at (r ∷ rs) (o ∷ os) zero q = cc
shape_at (r ∷ rs) (o ∷ os) (suc i) q = let tail : map shape_of rs ≡ map shape_of os = cc in shape_at rs os i tail

-- rows of the same shape have the same cells
pub has_too : (rows others : List ElementTimes) (cell : Cell) → map shape_of rows ≡ map shape_of others → HasCell rows cell → HasCell others cell
has_too rows others cell q has = record {
  row = omega (arith, has.row, shapes_length rows others q);
  item =
      let long : length (side_of (row_at rows cell.row) cell.side) ≡ length (side_of (row_at others cell.row) cell.side) =
      counted (row_at rows cell.row) cell.side
      ∙ ap (λ s. count_on s cell.side) (shape_at rows others cell.row q)
      ∙ sym (counted (row_at others cell.row) cell.side) in
      omega (arith, has.item, long);
}

module _ (nodes : List Node) where
  listed : (e : Node) (side : Edge) → length (items_of nodes side e) ≡ count_on (shape_in nodes e) side
  listed e Begin = refl
  listed e End = refl

  shape_there : (rows : List ElementTimes) (es : List Node) (i : ℕ) (e : Node) → map shape_of rows ≡ map (shape_in nodes) es → slice_get es i ≡ Some e → (i < length rows) × (shape_of (row_at rows i) ≡ shape_in nodes e)
  shape_there rows [] i e q at = cc
  shape_there [] (x ∷ xs) i e q at = cc
  shape_there (r ∷ rs) (x ∷ xs) zero e q at =
      let one : x ≡ e = cc in
      let head : shape_of r ≡ shape_in nodes x = cc in
      (omega arith, head ∙ ap (shape_in nodes) one)
  shape_there (r ∷ rs) (x ∷ xs) (suc i) e q at =
      let tail : map shape_of rs ≡ map (shape_in nodes) xs = cc in
      let rest = shape_there rs xs i e tail at in
      (omega (arith, rest.0), rest.1)

  -- the cell of an item of an element
  pub item_cell : (rows : List ElementTimes) (cell : Cell) (e : Node) (item : Item) → AreRowsOf nodes rows → slice_get (elements nodes) cell.row ≡ Some e → slice_get (items_of nodes cell.side e) cell.item ≡ Some item → HasCell rows cell
  item_cell rows cell e item are here at =
      let there = shape_there rows (elements nodes) cell.row e are here in
      let long : length (side_of (row_at rows cell.row) cell.side) ≡ length (items_of nodes cell.side e) =
      counted (row_at rows cell.row) cell.side ∙ ap (λ s. count_on s cell.side) there.1 ∙ sym (listed e cell.side) in
      let inside : cell.item < length (items_of nodes cell.side e) = slice_get_within (items_of nodes cell.side e) cell.item item at in
      record { row = there.0; item = omega (arith, inside, long) }

-- ---- rows of a history

module _ (h : History) where
  abbrev pub kept_item : Node → Edge → Option Item → List InstanceTime
  kept_item e side None = []
  kept_item e side (Some item) = instances_of h e side item

  abbrev pub kept_under : Edge → ℕ → Option Node → List InstanceTime
  kept_under side item None = []
  kept_under side item (Some e) = kept_item e side (slice_get (items_of h.nodes side e) item)

  abbrev pub kept_in : Cell → List InstanceTime
  kept_in cell = kept_under cell.side cell.item (slice_get (elements h.nodes) cell.row)

  of_item : (e : Node) (side : Edge) (o : Option Item) → unwrap_or (option_map (instances_of h e side) o) [] ≡ kept_item e side o
  of_item e side None = refl
  of_item e side (Some item) = refl

  of_items : (e : Node) (side : Edge) (items : List Item) (item : ℕ) → get_or (map (instances_of h e side) items) item [] ≡ kept_item e side (slice_get items item)
  of_items e side items item =
      sym (unwrap_or-slice_get (map (instances_of h e side) items) item [])
      ∙ ap (λ o. unwrap_or o []) (slice_get-map (instances_of h e side) items item)
      ∙ of_item e side (slice_get items item)

  of_row : (side : Edge) (item : ℕ) (o : Option Node) → list_of (unwrap_or (option_map (row_of h) o) no_row) side item ≡ kept_under side item o
  of_row Begin item None = refl
  of_row End item None = refl
  of_row Begin item (Some e) = of_items e Begin (items_of h.nodes Begin e) item
  of_row End item (Some e) = of_items e End (items_of h.nodes End e) item

  -- the rows of a history have in each cell what is kept for its item
  pub settled_cell : (cell : Cell) → cell_of (settled_rows h) cell ≡ kept_in cell
  settled_cell cell =
      ap (λ (r : ElementTimes). list_of r cell.side cell.item) (sym (unwrap_or-slice_get (settled_rows h) cell.row no_row) ∙ ap (λ o. unwrap_or o no_row) (slice_get-map (row_of h) (elements h.nodes) cell.row))
      ∙ of_row cell.side cell.item (slice_get (elements h.nodes) cell.row)

  row_shape : (e : Node) → shape_of (row_of h e) ≡ shape_in h.nodes e
  row_shape e =
      ap (λ n. record { serial = e.serial; begins = n; ends = length (map (instances_of h e End) (items_of h.nodes End e)) }) (length-map (items_of h.nodes Begin e) (instances_of h e Begin))
      ∙ ap (λ n. record { serial = e.serial; begins = length (items_of h.nodes Begin e); ends = n }) (length-map (items_of h.nodes End e) (instances_of h e End))

  rows_shape : (es : List Node) → map shape_of (map (row_of h) es) ≡ map (shape_in h.nodes) es
  rows_shape [] = refl
  rows_shape (e ∷ es) = ap (λ s. s ∷ map shape_of (map (row_of h) es)) (row_shape e) ∙ ap (λ ss. shape_in h.nodes e ∷ ss) (rows_shape es)

  pub settled_shape : AreRowsOf h.nodes (settled_rows h)
  settled_shape = rows_shape (elements h.nodes)
