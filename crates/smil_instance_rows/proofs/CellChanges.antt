-- Rows with a cell changed, and changed back.
use Rattle.std.proofs.Common.{◌≡◌, refl, sym, ◌∙◌, ap, subst, ℕ, suc, zero, ◌-◌, ◌<◌, ◌≤◌, List, [], ◌∷◌, ◌++◌, length, reverse, arith, pos, length-append}
use Rattle.std.specs.Prelude.{get_or, set, take}
use Rattle.std.proofs.lemmas.List.Sums.{fold_push}
use Rattle.std.proofs.Math.Seq.{take-suc}
use Rattle.std.proofs.lemmas.List.{get_or-reverse, get_or-set_same, get_or-take, get_or_default, length-reverse, length-set, length-take-le, set-get_or, set-set}
use Rattle.smil_model.specs.declared.document.Edge.{Edge}
use Rattle.smil_model.specs.declared.document.Edge.TheVariants.{Begin, End}
use Rattle.smil_model.specs.declared.times.Time.TheVariants as time
use Rattle.smil_instance_rows.specs.declared.item_times.InstanceTime.{InstanceTime}
use Rattle.smil_instance_rows.specs.declared.cell.Cell.{Cell}
use Rattle.smil_instance_rows.specs.declared.cell.Add.{Add}
use Rattle.smil_instance_rows.specs.Rows.{ElementTimes}
use Rattle.smil_instance_rows.specs.Cells.{side_of, list_of, with_list}
use Rattle.smil_instance_rows.specs.Places.{EndsWith, IsNotAfter}
use Rattle.smil_instance_rows.specs.Changes.{row_at, no_row, HasCell, cell_of, with_cell, with_add, with_adds, Fits}

-- ---- a row

list_with : (row : ElementTimes) (side : Edge) (item : ℕ) (k : List InstanceTime) → item < length (side_of row side) → list_of (with_list row side item k) side item ≡ k
list_with row Begin item k inside = get_or-set_same row.begins item k [] inside
list_with row End item k inside = get_or-set_same row.ends item k [] inside

length_with : (row : ElementTimes) (side : Edge) (item : ℕ) (k : List InstanceTime) → length (side_of (with_list row side item k) side) ≡ length (side_of row side)
length_with row Begin item k = length-set row.begins item k
length_with row End item k = length-set row.ends item k

back_row : (row : ElementTimes) (side : Edge) (item : ℕ) (k : List InstanceTime) → with_list (with_list row side item k) side item (list_of row side item) ≡ row
back_row row Begin item k = ap (λ bs. record { serial = row.serial; begins = bs; ends = row.ends }) (set-set row.begins item k (get_or row.begins item []) ∙ set-get_or row.begins item [])
back_row row End item k = ap (λ es. record { serial = row.serial; begins = row.begins; ends = es }) (set-set row.ends item k (get_or row.ends item []) ∙ set-get_or row.ends item [])

list_twice : (row : ElementTimes) (side : Edge) (item : ℕ) (k l : List InstanceTime) → with_list (with_list row side item k) side item l ≡ with_list row side item l
list_twice row Begin item k l = ap (λ bs. record { serial = row.serial; begins = bs; ends = row.ends }) (set-set row.begins item k l)
list_twice row End item k l = ap (λ es. record { serial = row.serial; begins = row.begins; ends = es }) (set-set row.ends item k l)

-- ---- a cell

module _ (rows : List ElementTimes) (cell : Cell) (k : List InstanceTime) (has : HasCell rows cell) where
  row_with : row_at (with_cell rows cell k) cell.row ≡ with_list (row_at rows cell.row) cell.side cell.item k
  row_with = get_or-set_same rows cell.row (with_list (row_at rows cell.row) cell.side cell.item k) no_row has.row

  pub still_has : HasCell (with_cell rows cell k) cell
  still_has = record {
    row = omega (arith, has.row, length-set rows cell.row (with_list (row_at rows cell.row) cell.side cell.item k));
    item = omega (arith, has.item, ap (λ (r : ElementTimes). length (side_of r cell.side)) row_with, length_with (row_at rows cell.row) cell.side cell.item k);
  }

  pub cell_with : cell_of (with_cell rows cell k) cell ≡ k
  cell_with = ap (λ (r : ElementTimes). list_of r cell.side cell.item) row_with ∙ list_with (row_at rows cell.row) cell.side cell.item k has.item

  pub cell_twice : (l : List InstanceTime) → with_cell (with_cell rows cell k) cell l ≡ with_cell rows cell l
  cell_twice l =
      ap (λ (r : ElementTimes). set (with_cell rows cell k) cell.row (with_list r cell.side cell.item l)) row_with
      ∙ ap (λ (r : ElementTimes). set (with_cell rows cell k) cell.row r) (list_twice (row_at rows cell.row) cell.side cell.item k l)
      ∙ set-set rows cell.row (with_list (row_at rows cell.row) cell.side cell.item k) (with_list (row_at rows cell.row) cell.side cell.item l)

  pub cell_back : with_cell (with_cell rows cell k) cell (cell_of rows cell) ≡ rows
  cell_back =
      ap (λ (r : ElementTimes). set (with_cell rows cell k) cell.row (with_list r cell.side cell.item (cell_of rows cell))) row_with
      ∙ ap (λ (r : ElementTimes). set (with_cell rows cell k) cell.row r) (back_row (row_at rows cell.row) cell.side cell.item k)
      ∙ set-set rows cell.row (with_list (row_at rows cell.row) cell.side cell.item k) (row_at rows cell.row)
      ∙ set-get_or rows cell.row no_row

-- ---- adds

pub one_more_made : (before : List ElementTimes) (adds : List Add) (i : ℕ) (d : Add) → i < length adds → with_adds before (take (suc i) adds) ≡ with_add (with_adds before (take i adds)) (get_or adds i d)
one_more_made before adds i d inside = ap (with_adds before) (take-suc adds i d inside) ∙ fold_push with_add before (take i adds) (get_or adds i d)

pub fits_at : (before : List ElementTimes) (adds : List Add) (i : ℕ) (d : Add) → Fits before adds → i < length adds → HasCell (with_adds before (take i adds)) (get_or adds i d).cell × IsNotAfter (get_or adds i d).kept.place (cell_of (with_adds before (take i adds)) (get_or adds i d).cell)
fits_at before [] i d fit inside = absurd (omega (arith, inside))
fits_at before (a ∷ rest) zero d fit inside = (fit.0, fit.1)
fits_at before (a ∷ rest) (suc i) d fit inside = fits_at (with_add before a) rest i d fit.2 (omega (arith, inside))

abbrev pub no_cell : Cell
no_cell = record { row = 0; side = Begin; item = 0 }

abbrev pub blank : Add
blank = record { cell = no_cell; kept = record { place = 0; time = time.At (pos 0) } }

-- where the first adds are made, the last of them can be undone
pub record Undoes (rows : List ElementTimes) (before : List ElementTimes) (adds : List Add) (i : ℕ) : Type 0 where
  pub has : HasCell rows (get_or adds i blank).cell
  pub is : cell_of rows (get_or adds i blank).cell ≡ cell_of (with_adds before (take i adds)) (get_or adds i blank).cell ++ (get_or adds i blank).kept ∷ []
  pub back : with_cell rows (get_or adds i blank).cell (cell_of (with_adds before (take i adds)) (get_or adds i blank).cell) ≡ with_adds before (take i adds)

pub undoes : (rows before : List ElementTimes) (adds : List Add) (i : ℕ) → i < length adds → Fits before adds → rows ≡ with_adds before (take (suc i) adds) → Undoes rows before adds i
undoes rows before adds i inside fit now =
    let at = fits_at before adds i blank fit inside in
    let made : rows ≡ with_add (with_adds before (take i adds)) (get_or adds i blank) = now ∙ one_more_made before adds i blank inside in
    record {
      has = subst (λ rs. HasCell rs (get_or adds i blank).cell) (sym made) (still_has (with_adds before (take i adds)) (get_or adds i blank).cell (cell_of (with_adds before (take i adds)) (get_or adds i blank).cell ++ (get_or adds i blank).kept ∷ []) at.0);
      is = ap (λ rs. cell_of rs (get_or adds i blank).cell) made ∙ cell_with (with_adds before (take i adds)) (get_or adds i blank).cell (cell_of (with_adds before (take i adds)) (get_or adds i blank).cell ++ (get_or adds i blank).kept ∷ []) at.0;
      back = ap (λ rs. with_cell rs (get_or adds i blank).cell (cell_of (with_adds before (take i adds)) (get_or adds i blank).cell)) made ∙ cell_back (with_adds before (take i adds)) (get_or adds i blank).cell (cell_of (with_adds before (take i adds)) (get_or adds i blank).cell ++ (get_or adds i blank).kept ∷ []) at.0;
    }

pub some_there : (ks ls : List InstanceTime) (k : InstanceTime) → ks ≡ ls ++ k ∷ [] → 0 < length ks
some_there ks ls k is = omega (arith, ap length is, length-append ls (k ∷ []))

-- ---- the first adds undone, the last of them first

-- the add that is the next from the last of the first adds
next_back : (adds : List Add) (made n : ℕ) (a : Add) → made ≤ length adds → (n < length (reverse (take made adds))) × (a ≡ get_or (reverse (take made adds)) n a)
    → (n < made) × (a ≡ get_or adds (made - 1 - n) blank)
next_back adds made n a within at =
    let many : length (take made adds) ≡ made = length-take-le made adds within in
    let below : n < length (take made adds) = omega (arith, at.0, length-reverse (take made adds)) in
    let short : n < made = omega (arith, below, many) in
    let inside : made - 1 - n < made = omega (arith, short) in
    let there : made - 1 - n < length adds = omega (arith, inside, within) in (
      short,
      at.1 ∙ get_or-reverse (take made adds) n a below
          ∙ ap (λ k. get_or (take made adds) (k - 1 - n) a) many
          ∙ get_or-take made adds (made - 1 - n) a inside
          ∙ get_or_default adds (made - 1 - n) a blank there,
    )

-- it can be undone, and is then no longer made
pub record IsUndoneBy (rows before : List ElementTimes) (adds : List Add) (i : ℕ) (cell : Cell) : Type 0 where
  pub has : HasCell rows cell
  pub some : 0 < length (cell_of rows cell)
  pub back : (new : List ElementTimes) → EndsWith (cell_of rows cell) (λ first last. new ≡ with_cell rows cell first) → new ≡ with_adds before (take i adds)

undone_by : (rows before : List ElementTimes) (adds : List Add) (i : ℕ) (a : Add) → a ≡ get_or adds i blank → i < length adds → Fits before adds → rows ≡ with_adds before (take (suc i) adds) → IsUndoneBy rows before adds i a.cell
undone_by rows before adds i a is inside fit now =
    let ready = undoes rows before adds i inside fit now in
    subst (λ (b : Add). IsUndoneBy rows before adds i b.cell) (sym is)
    (record {
      has = ready.has;
      some = some_there _ _ _ ready.is;
      back = λ new ends. ends (cell_of (with_adds before (take i adds)) (get_or adds i blank).cell) (get_or adds i blank).kept ready.is ∙ ready.back;
    })

-- so it is with the next from the last of the first adds
pub undone_next : (rows before : List ElementTimes) (adds : List Add) (made n : ℕ) (a : Add) → made ≤ length adds → (n < length (reverse (take made adds))) × (a ≡ get_or (reverse (take made adds)) n a) → Fits before adds → rows ≡ with_adds before (take (made - n) adds)
    → IsUndoneBy rows before adds (made - 1 - n) a.cell
undone_next rows before adds made n a within at fit now =
    let next = next_back adds made n a within at in
    let e : made - n ≡ suc (made - 1 - n) = omega (arith, next.0) in
    undone_by rows before adds (made - 1 - n) a next.1 (omega (arith, next.0, within)) fit (now ∙ ap (λ k. with_adds before (take k adds)) e)

-- ---- the shape is kept

any_length : (row : ElementTimes) (side : Edge) (item : ℕ) (k : List InstanceTime) (s : Edge) → length (side_of (with_list row side item k) s) ≡ length (side_of row s)
any_length row Begin item k Begin = length-set row.begins item k
any_length row Begin item k End = refl
any_length row End item k Begin = refl
any_length row End item k End = length-set row.ends item k

shape : (rows : List ElementTimes) (i j : ℕ) (side : Edge) (item : ℕ) (k : List InstanceTime) (s : Edge) → length (side_of (row_at (set rows i (with_list (row_at rows i) side item k)) j) s) ≡ length (side_of (row_at rows j) s)
shape [] i j side item k s = refl
shape (r ∷ rs) zero zero side item k s = any_length r side item k s
shape (r ∷ rs) zero (suc j) side item k s = refl
shape (r ∷ rs) (suc i) zero side item k s = refl
shape (r ∷ rs) (suc i) (suc j) side item k s = shape rs i j side item k s
