-- How the cells of each access key grow: one push, one after another, and all.
use Rattle.std.proofs.Common.{◌≡◌, refl, sym, ◌∙◌, ap, ℕ, zero, suc, ◌+◌, ◌<◌, ◌≤◌, List, [], ◌∷◌, ◌++◌, Some, Bool, true, false, length, get_or, arith}
use mathlib.Core.Bool.{and-false, and-true}
use Rattle.std.specs.Prelude.{cond, ◌==◌, ◌&&◌, nat_lt, slice_get, slice_set, count_by}
use Rattle.std.proofs.lemmas.Bool.{eqb-true, ltb-false}
use Rattle.std.proofs.lemmas.Option.{slice_get_past, slice_get-get_or}
use Rattle.smil_model.specs.declared.document.Edge.{Edge}
use Rattle.smil_instances.specs.declared.source.Source.{Source}
use Rattle.smil_instances.specs.declared.source.Source.TheVariants as source
use Rattle.smil_instance_rows.specs.declared.cell.Cell.{Cell}
use Rattle.smil_instances.specs.Sources.{AreThose, is_cell, is_keyed}
use Rattle.smil_instances.specs.Dependents.{ElementDependents, keyed_in, keyed_under, source_in, source_under, sources_of}
use Rattle.smil_instances.specs.Keys.{TakesKeys, first_keys, first_row_keys, goes_to_key, is_for_key, side_keys}
use Rattle.smil_instances.specs.Spread.{one_if}
use Rattle.smil_instances.proofs.CellGrowth.{one_more, set_get}
use Rattle.smil_instances.proofs.CellSpreading.{no_source, side_all}
use Rattle.smil_instances.proofs.RowShapes.{same_cell}

-- ---- in general

pub keys_none : (test : ℕ → Cell → Bool) (keys : List (List Cell)) → ((key : ℕ) (d : Cell) → test key d ≡ false) → TakesKeys test keys keys
keys_none test keys none = record {
  cells = λ key d. let e : one_if (test key d) ≡ 0 = ap one_if (none key d) in omega (arith, e);
}

pub keys_then : (first second both : ℕ → Cell → Bool) (old mid new : List (List Cell)) → TakesKeys first old mid → TakesKeys second mid new → ((key : ℕ) (d : Cell) → one_if (first key d) + one_if (second key d) ≡ one_if (both key d)) → TakesKeys both old new
keys_then first second both old mid new a b sum = record {
  cells = λ key d. let one = a.cells key d in let two = b.cells key d in let three = sum key d in omega (arith, one, two, three);
}

pub keys_same : (test same : ℕ → Cell → Bool) (old new : List (List Cell)) → TakesKeys test old new → ((key : ℕ) (d : Cell) → test key d ≡ same key d) → TakesKeys same old new
keys_same test same old new a all = record {
  cells = λ key d. a.cells key d ∙ ap (λ u. count_by (is_cell d) (keyed_in old key) + one_if u) (all key d);
}

-- ---- one push

pub room_more : (keys : List (List Cell)) (key : ℕ) → keyed_in (keys ++ [] ∷ []) key ≡ keyed_in keys key
room_more [] zero = refl
room_more [] (suc key) = refl
room_more (cells ∷ keys) zero = refl
room_more (cells ∷ keys) (suc key) = room_more keys key

-- a cell pushed to the list of a key, in lists that have the same cells as the old ones
pub key_pushed : (old keys : List (List Cell)) (key : ℕ) (cells : List Cell) (cell : Cell) → ((k : ℕ) → keyed_in keys k ≡ keyed_in old k) → key < length keys → cells ≡ get_or keys key cells → TakesKeys (goes_to_key (source.Key key) cell) old (slice_set keys key (cells ++ cell ∷ []))
key_pushed old keys key cells cell same below is = record {
  cells = λ k d.
      ap (λ o. count_by (is_cell d) (keyed_under o)) (set_get keys key k (cells ++ cell ∷ []) below)
      ∙ by_key k d (k == key) refl;
}
  where
    there : slice_get keys key ≡ Some cells
    there = slice_get-get_or keys key cells below ∙ ap Some (sym is)

    turned : (k : ℕ) → (k == key) ≡ (key == k)
    turned k = grind arith

    own : (k : ℕ) → k ≡ key → cells ≡ keyed_in old k
    own k q = sym (ap keyed_under there) ∙ ap (keyed_in keys) (sym q) ∙ same k

    by_key : (k : ℕ) (d : Cell) (t : Bool) → (k == key) ≡ t → count_by (is_cell d) (keyed_under (cond t (Some (cells ++ cell ∷ [])) (slice_get keys k))) ≡ count_by (is_cell d) (keyed_in old k) + one_if (is_cell d cell && (key == k))
    by_key k d true q =
        one_more d cell cells
        ∙ ap (λ cs. count_by (is_cell d) cs + one_if (is_cell d cell)) (own k (eqb-true k key q))
        ∙ ap (λ t. count_by (is_cell d) (keyed_in old k) + one_if t) (sym (and-true (is_cell d cell)) ∙ ap (λ t. is_cell d cell && t) (sym q ∙ turned k))
    by_key k d false q =
        let none : one_if (is_cell d cell && (key == k)) ≡ 0 = ap (λ t. one_if (is_cell d cell && t)) (sym (turned k) ∙ q) ∙ ap one_if (and-false (is_cell d cell)) in
        ap (count_by (is_cell d)) (same k) ∙ omega (arith, none)

-- ---- one cell, and all

-- a cell goes by the source that the rows have for it
pub by_rows : (rows : List ElementDependents) (s : Source) (cell : Cell) → s ≡ source_in rows cell → (key : ℕ) (d : Cell) → goes_to_key s cell key d ≡ (is_cell d cell && is_for_key rows key d)
by_rows rows s cell is key d = by_cell (is_cell d cell) refl
  where
    by_cell : (t : Bool) → is_cell d cell ≡ t → (t && is_keyed (Some key) s) ≡ (t && is_for_key rows key d)
    by_cell false q = refl
    by_cell true q = ap (is_keyed (Some key)) (is ∙ ap (source_in rows) (sym (same_cell cell d q)))

-- past its items a side has none for a key
pub all_of_side : (rows : List ElementDependents) (row : ℕ) (side : Edge) (r : ElementDependents) (n : ℕ) → r ≡ get_or rows row r → row < length rows → length (sources_of r side) ≤ n → (key : ℕ) (d : Cell) → first_keys rows row side n key d ≡ side_keys rows row side key d
all_of_side rows row side r n is below most key d =
    side_all row side n (is_for_key rows key) d
    (λ at on past. ap (is_keyed (Some key)) (no_source rows row side r n is below most d at on past))

every : (rows : List ElementDependents) (key : ℕ) (d : Cell) → first_row_keys rows (length rows) key d ≡ is_for_key rows key d
every rows key d = by_row (nat_lt d.row (length rows)) refl
  where
    by_row : (t : Bool) → nat_lt d.row (length rows) ≡ t → (t && is_for_key rows key d) ≡ is_for_key rows key d
    by_row true q = refl
    by_row false q = sym (ap (λ o. is_keyed (Some key) (source_under d o)) (slice_get_past rows d.row (ltb-false d.row (length rows) q)))

-- once every cell went to its key
pub all_keyed : (rows : List ElementDependents) (keys : List (List Cell)) → TakesKeys (first_row_keys rows (length rows)) [] keys → (key : ℕ) → AreThose (is_for_key rows key) (keyed_in keys key)
all_keyed rows keys takes key d =
    let told = takes.cells key d in
    let all : one_if (first_row_keys rows (length rows) key d) ≡ one_if (is_for_key rows key d) = ap one_if (every rows key d) in
    omega (arith, told, all)
