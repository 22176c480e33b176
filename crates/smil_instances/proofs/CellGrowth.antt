-- How the lists of cells grow: one push, one after another, and all.
use Rattle.std.proofs.Common.{◌≡◌, refl, sym, ◌∙◌, ap, ℕ, zero, suc, ◌+◌, ◌<◌, List, [], ◌∷◌, ◌++◌, Option, Some, None, Bool, true, false, length, get_or, arith, ◌≢◌}
use mathlib.Core.Bool.{and-false}
use Rattle.std.specs.Prelude.{cond, ◌==◌, ◌&&◌, ◌||◌, slice_get, slice_set, count_by, option_map, OnOk, Result, Ok, Err}
use Rattle.std.proofs.lemmas.Bool.{eqb-true}
use Rattle.std.proofs.lemmas.List.{length-set}
use Rattle.std.proofs.lemmas.Option.{slice_get-map, slice_get_within, slice_get-get_or}
use Rattle.std.proofs.lemmas.List.Sums.{sum_by-append, sum_by-cons}
use Rattle.smil_model.specs.declared.document.Node.{Node}
use Rattle.smil_model.specs.declared.document.Edge.{Edge}
use Rattle.smil_model.specs.declared.document.Edge.TheVariants.{Begin, End}
use Rattle.smil_model.specs.document.Document.{elements, serials}
use Rattle.smil_model.specs.reach.Reach.{is_option}
use Rattle.smil_laws.proofs.LineageParents.{same_eqb}
use Rattle.smil_instance_rows.specs.declared.cell.Cell.{Cell}
use Rattle.smil_instances.specs.Sources.{is_cell}
use Rattle.smil_instances.specs.Dependents.{ElementDependents, cells_of, cells_in, source_in, source_or, source_under, sources_of}
use Rattle.smil_instances.specs.Spread.{AreSourcesOf, IsIndex, Takes, goes_to, one_if, sources_at, sources_under, with_cell}

-- ---- in general

pub on_ok : {A E : Type 0} (r : Result A E) (P Q : Type 0) → OnOk r P → (P → Q) → OnOk r Q
on_ok (Ok a) P Q p f = f p
on_ok (Err e) P Q p f = tt

pub takes_none : (nodes : List Node) (test : Bool → ℕ → Cell → Bool) (rows : List ElementDependents) → ((row : ℕ) (x : Node) (b : Bool) (d : Cell) → slice_get (elements nodes) row ≡ Some x → test b x.serial d ≡ false) → Takes nodes test rows rows
takes_none nodes test rows none = record {
  sources = λ row side. refl;
  rows = refl;
  cells = λ row x b d at. let e : one_if (test b x.serial d) ≡ 0 = ap one_if (none row x b d at) in omega (arith, e);
}

pub takes_then : (nodes : List Node) (first second both : Bool → ℕ → Cell → Bool) (old mid new : List ElementDependents) → Takes nodes first old mid → Takes nodes second mid new → ((b : Bool) (x : ℕ) (d : Cell) → one_if (first b x d) + one_if (second b x d) ≡ one_if (both b x d)) → Takes nodes both old new
takes_then nodes first second both old mid new a b sum = record {
  sources = λ row side. b.sources row side ∙ a.sources row side;
  rows = b.rows ∙ a.rows;
  cells = λ row x t d at. let one = a.cells row x t d at in let two = b.cells row x t d at in let three = sum t x.serial d in omega (arith, one, two, three);
}

pub takes_same : (nodes : List Node) (test same : Bool → ℕ → Cell → Bool) (old new : List ElementDependents) → Takes nodes test old new → ((b : Bool) (x : ℕ) (d : Cell) → test b x d ≡ same b x d) → Takes nodes same old new
takes_same nodes test same old new a all = record {
  sources = a.sources;
  rows = a.rows;
  cells = λ row x t d at. a.cells row x t d at ∙ ap (λ u. count_by (is_cell d) (cells_in old row t) + one_if u) (all t x.serial d);
}

source_is : (cell : Cell) (o : Option ElementDependents) → source_under cell o ≡ source_or (slice_get (sources_under cell.side o) cell.item)
source_is cell None = refl
source_is cell (Some row) = refl

pub source_by_list : (rows : List ElementDependents) (cell : Cell) → source_in rows cell ≡ source_or (slice_get (sources_at rows cell.row cell.side) cell.item)
source_by_list rows cell = source_is cell (slice_get rows cell.row)

pub sources_stay : (nodes : List Node) (test : Bool → ℕ → Cell → Bool) (old new : List ElementDependents) → Takes nodes test old new → AreSourcesOf nodes old → AreSourcesOf nodes new
sources_stay nodes test old new a are cell =
    source_by_list new cell ∙ ap (λ ss. source_or (slice_get ss cell.item)) (a.sources cell.row cell.side) ∙ sym (source_by_list old cell) ∙ are cell

-- ---- one push

apart : (a b : ℕ) → a ≢ b → false ≡ a == b
apart a b ne = grind (arith, ne)

both : (a b : ℕ) → a == b ≡ suc a == suc b
both a b = grind arith

pub set_get : {A : Type 0} (rows : List A) (at row : ℕ) (new : A) → at < length rows → slice_get (slice_set rows at new) row ≡ cond (row == at) (Some new) (slice_get rows row)
set_get [] at row new below = absurd (omega (arith, below))
set_get (r ∷ rs) zero zero new below = refl
set_get (r ∷ rs) zero (suc row) new below = ap (λ t. cond t (Some new) (slice_get rs row)) (apart (suc row) 0 (omega arith))
set_get (r ∷ rs) (suc at) zero new below = ap (λ t. cond t (Some new) (Some r)) (apart 0 (suc at) (omega arith))
set_get (r ∷ rs) (suc at) (suc row) new below = set_get rs at row new (omega (arith, below)) ∙ ap (λ t. cond t (Some new) (slice_get rs row)) (both row at)

one_count : (d cell : Cell) → count_by (is_cell d) (cell ∷ []) ≡ one_if (is_cell d cell)
one_count d cell = let e = sum_by-cons (λ c. one_if (is_cell d c)) cell [] in omega (arith, e)

pub one_more : (d cell : Cell) (cells : List Cell) → count_by (is_cell d) (cells ++ cell ∷ []) ≡ count_by (is_cell d) cells + one_if (is_cell d cell)
one_more d cell cells = sum_by-append (λ c. one_if (is_cell d c)) cells (cell ∷ []) ∙ ap (λ k. count_by (is_cell d) cells + k) (one_count d cell)

-- the lists that are pushed to, and the other
one_row : (old : ElementDependents) (m t : Bool) (cell d : Cell) → count_by (is_cell d) (cells_of t (Some (with_cell old m cell))) ≡ count_by (is_cell d) (cells_of t (Some old)) + one_if ((t || m) && true && is_cell d cell)
one_row old true true cell d = one_more d cell old.births
one_row old true false cell d = one_more d cell old.readers
one_row old false true cell d = one_more d cell old.births
one_row old false false cell d = omega arith

same_sources : (old : ElementDependents) (m : Bool) (cell : Cell) (side : Edge) → sources_of (with_cell old m cell) side ≡ sources_of old side
same_sources old true cell Begin = refl
same_sources old true cell End = refl
same_sources old false cell Begin = refl
same_sources old false cell End = refl

pub pushed : (nodes : List Node) (rows : List ElementDependents) (at : ℕ) (old : ElementDependents) (who : ℕ) (m : Bool) (cell : Cell) → slice_get rows at ≡ Some old → at < length rows → ((x : Node) (row : ℕ) → slice_get (elements nodes) row ≡ Some x → row == at ≡ is_option x.serial (Some who)) → Takes nodes (goes_to (Some who) m cell) rows (slice_set rows at (with_cell old m cell))
pushed nodes rows at old who m cell there below own = record {
  sources = λ row side. ap (sources_under side) (set_get rows at row new below) ∙ by_sources row side (row == at) refl;
  rows = length-set rows at new;
  cells = λ row x t d here.
      ap (λ o. count_by (is_cell d) (cells_of t o)) (set_get rows at row new below)
      ∙ by_cells row t d (row == at) refl
      ∙ ap (λ u. count_by (is_cell d) (cells_in rows row t) + one_if ((t || m) && u && is_cell d cell)) (own x row here);
}
  where
    new : ElementDependents
    new = with_cell old m cell

    by_sources : (row : ℕ) (side : Edge) (u : Bool) → row == at ≡ u → sources_under side (cond u (Some new) (slice_get rows row)) ≡ sources_at rows row side
    by_sources row side true q = same_sources old m cell side ∙ ap (sources_under side) (sym (ap (slice_get rows) (eqb-true row at q) ∙ there))
    by_sources row side false q = refl

    by_cells : (row : ℕ) (t : Bool) (d : Cell) (u : Bool) → row == at ≡ u → count_by (is_cell d) (cells_of t (cond u (Some new) (slice_get rows row))) ≡ count_by (is_cell d) (cells_in rows row t) + one_if ((t || m) && (row == at) && is_cell d cell)
    by_cells row t d true q =
        one_row old m t cell d
        ∙ ap (λ o. count_by (is_cell d) (cells_of t o) + one_if ((t || m) && true && is_cell d cell)) (sym (ap (slice_get rows) (eqb-true row at q) ∙ there))
        ∙ ap (λ u. count_by (is_cell d) (cells_in rows row t) + one_if ((t || m) && u && is_cell d cell)) (sym q)
    by_cells row t d false q =
        let none : one_if ((t || m) && (row == at) && is_cell d cell) ≡ 0 = ap (λ u. one_if ((t || m) && u && is_cell d cell)) q ∙ ap (λ u. one_if (u && is_cell d cell)) (and-false (t || m)) in
        omega (arith, none)

-- ---- by serial

module _ (nodes : List Node) (index : ℕ → Option ℕ) (all : IsIndex (serials (elements nodes)) index) where
  by_place : (who row : ℕ) (x : Node) → slice_get (elements nodes) row ≡ Some x → is_option row (index who) ≡ x.serial == who
  by_place who row x here =
      all row who ∙ ap (is_option who) (slice_get-map (λ (n : Node). n.serial) (elements nodes) row ∙ ap (option_map (λ (n : Node). n.serial)) here) ∙ same_eqb who x.serial

  place_below : (who row : ℕ) → Some row ≡ index who → row < length (elements nodes)
  place_below who row q = by_node (slice_get (elements nodes) row) refl
    where
      own : row == row ≡ true
      own = grind arith

      by_node : (o : Option Node) → slice_get (elements nodes) row ≡ o → row < length (elements nodes)
      by_node (Some x) here = slice_get_within (elements nodes) row x here
      by_node None here =
          let never : true ≡ false = sym own ∙ ap (is_option row) q ∙ all row who ∙ ap (is_option who) (slice_get-map (λ (n : Node). n.serial) (elements nodes) row ∙ ap (option_map (λ (n : Node). n.serial)) here) in cc

  pub index_below : (who row : ℕ) (rows : List ElementDependents) → Some row ≡ index who → length rows ≡ length (elements nodes) → row < length rows
  index_below who row rows q same = let below = place_below who row q in omega (arith, below, same)

  pub noted_none : (rows : List ElementDependents) (who : ℕ) (b : Bool) (cell : Cell) → None ≡ index who → Takes nodes (goes_to (Some who) b cell) rows rows
  noted_none rows who b cell q =
      takes_none nodes (goes_to (Some who) b cell) rows (λ row x t d here. ap (λ u. (t || b) && u && is_cell d cell) (sym (by_place who row x here) ∙ ap (is_option row) (sym q)) ∙ no_one ((t || b)) (is_cell d cell))
    where
      no_one : (u v : Bool) → (u && false && v) ≡ false
      no_one true v = refl
      no_one false v = refl

  pub noted : (rows : List ElementDependents) (who at : ℕ) (old : ElementDependents) (m : Bool) (cell : Cell) → Some at ≡ index who → length rows ≡ length (elements nodes) → old ≡ get_or rows at old → Takes nodes (goes_to (Some who) m cell) rows (slice_set rows at (with_cell old m cell))
  noted rows who at old m cell q same is =
      pushed nodes rows at old who m cell (slice_get-get_or rows at old below ∙ ap Some (sym is)) below
      (λ x row here. ap (is_option row) q ∙ by_place who row x here)
    where
      below : at < length rows
      below = index_below who at rows q same
