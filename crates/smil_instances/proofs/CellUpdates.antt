-- Cells changed in turn: each that is among them once is changed once, and the others are as before.
use Rattle.std.proofs.Common.{◌≡◌, refl, sym, ◌∙◌, ap, inl, inr, subst, ◌+◌, List, [], ◌∷◌, ◌++◌, Option, Some, None, Bool, true, false, arith}
use Rattle.std.specs.Prelude.{cond, map, fold, filter_map, count_by, option_to_list, ◌⊎◌}
use Rattle.std.specs.List.{cons_option}
use Rattle.std.proofs.lemmas.List.Sums.{sum_by-cons}
use Rattle.std.proofs.lemmas.List.{append-nil}
use Rattle.smil_model.specs.diary.Diary.{History}
use Rattle.smil_instance_rows.specs.declared.item_times.InstanceTime.{InstanceTime}
use Rattle.smil_instance_rows.specs.declared.cell.Add.{Add}
use Rattle.smil_instance_rows.specs.declared.cell.Cell.{Cell}
use Rattle.smil_instance_rows.specs.Places.{IsNotAfter}
use Rattle.smil_instance_rows.specs.Rows.{ElementTimes}
use Rattle.smil_instances.specs.Sources.{is_cell}
use Rattle.smil_instance_rows.specs.Changes.{HasCell, cell_of, with_cell, with_add, with_adds, Fits}
use Rattle.smil_instance_rows.proofs.CellChanges.{cell_with}
use Rattle.smil_instances.specs.Intake.{shape_of, add_to, remaining_at, with_remainder}
use Rattle.smil_instances.proofs.RowShapes.{cell_shape, other_cell, same_cell, cell_itself, has_too}

pub count_first : (test : Cell → Bool) (c : Cell) (cs : List Cell) → count_by test (c ∷ cs) ≡ cond (test c) 1 0 + count_by test cs
count_first test c cs = sum_by-cons (λ x. cond (test x) 1 0) c cs

-- a change of one cell
pub record IsUpdate (step : List ElementTimes → Cell → List ElementTimes) (change : Cell → List InstanceTime → List InstanceTime) : Type 0 where
  pub shape : (rows : List ElementTimes) (c : Cell) → map shape_of (step rows c) ≡ map shape_of rows
  pub other : (rows : List ElementTimes) (c d : Cell) → is_cell d c ≡ false → cell_of (step rows c) d ≡ cell_of rows d
  pub own : (rows : List ElementTimes) (c : Cell) → HasCell rows c → cell_of (step rows c) c ≡ change c (cell_of rows c)

module _ (step : List ElementTimes → Cell → List ElementTimes) (change : Cell → List InstanceTime → List InstanceTime) (is : IsUpdate step change) where
  pub all_shape : (rows : List ElementTimes) (cells : List Cell) → map shape_of (fold step rows cells) ≡ map shape_of rows
  all_shape rows [] = refl
  all_shape rows (c ∷ cs) = all_shape (step rows c) cs ∙ is.shape rows c

  pub all_other : (rows : List ElementTimes) (d : Cell) (cells : List Cell) → count_by (is_cell d) cells ≡ 0 → cell_of (fold step rows cells) d ≡ cell_of rows d
  all_other rows d [] none = refl
  all_other rows d (c ∷ cs) none = by (is_cell d c) refl (sym (count_first (is_cell d) c cs) ∙ none) (all_other (step rows c) d cs)
    where
      by : (t : Bool) → is_cell d c ≡ t → cond t 1 0 + count_by (is_cell d) cs ≡ 0 → (count_by (is_cell d) cs ≡ 0 → cell_of (fold step (step rows c) cs) d ≡ cell_of (step rows c) d) → cell_of (fold step (step rows c) cs) d ≡ cell_of rows d
      by true q none later = absurd (omega (arith, none))
      by false q none later = later (omega (arith, none)) ∙ is.other rows c d q

  pub all_own : (rows : List ElementTimes) (d : Cell) (cells : List Cell) → HasCell rows d → count_by (is_cell d) cells ≡ 1 → cell_of (fold step rows cells) d ≡ change d (cell_of rows d)
  all_own rows d [] has once = cc
  all_own rows d (c ∷ cs) has once = by (is_cell d c) refl (sym (count_first (is_cell d) c cs) ∙ once) (all_own (step rows c) d cs (has_too rows (step rows c) d (sym (is.shape rows c)) has))
    where
      by : (t : Bool) → is_cell d c ≡ t → cond t 1 0 + count_by (is_cell d) cs ≡ 1 → (count_by (is_cell d) cs ≡ 1 → cell_of (fold step (step rows c) cs) d ≡ change d (cell_of (step rows c) d)) → cell_of (fold step (step rows c) cs) d ≡ change d (cell_of rows d)
      by true q once later =
          let one : d ≡ c = same_cell c d q in
          all_other (step rows c) d cs (omega (arith, once))
          ∙ ap (λ x. cell_of (step rows x) d) (sym one)
          ∙ is.own rows d has
      by false q once later =
          later (omega (arith, once))
          ∙ ap (change d) (is.other rows c d q)

-- ---- trims

module _ (h : History) where
  pub trims : IsUpdate (with_remainder h) (remaining_at h)
  trims = record {
    shape = λ rows c. cell_shape rows c (remaining_at h c (cell_of rows c));
    other = λ rows c d q. other_cell rows c d (remaining_at h c (cell_of rows c)) q;
    own = λ rows c has. cell_with rows c (remaining_at h c (cell_of rows c)) has;
  }

-- ---- adds

pub adds_shape : (rows : List ElementTimes) (more : List Add) → map shape_of (with_adds rows more) ≡ map shape_of rows
adds_shape rows [] = refl
adds_shape rows (a ∷ more) = adds_shape (with_add rows a) more ∙ cell_shape rows a.cell (cell_of rows a.cell ++ a.kept ∷ [])

module _ (give : Cell → Option InstanceTime) where
  abbrev pub adds : List Cell → List Add
  adds cells = filter_map (λ c. add_to c (give c)) cells

  abbrev pub with_some : List ElementTimes → Cell → Option InstanceTime → List ElementTimes
  with_some rows c None = rows
  with_some rows c (Some kept) = with_cell rows c (cell_of rows c ++ kept ∷ [])

  abbrev pub with_given : List ElementTimes → Cell → List ElementTimes
  with_given rows c = with_some rows c (give c)

  abbrev pub and_given : Cell → List InstanceTime → List InstanceTime
  and_given c kept = kept ++ option_to_list (give c)

  pub each_add : (rows : List ElementTimes) (cells : List Cell) → with_adds rows (adds cells) ≡ fold with_given rows cells
  each_add rows [] = refl
  each_add rows (c ∷ cs) = by (give c) (each_add (with_some rows c (give c)) cs)
    where
      by : (o : Option InstanceTime) → with_adds (with_some rows c o) (adds cs) ≡ fold with_given (with_some rows c o) cs → with_adds rows (cons_option (add_to c o) (adds cs)) ≡ fold with_given (with_some rows c o) cs
      by None later = later
      by (Some kept) later = later

  pub gifts : IsUpdate with_given and_given
  gifts = record {
    shape = λ rows c. shape rows c (give c);
    other = λ rows c d q. other rows c d q (give c);
    own = λ rows c has. own rows c has (give c);
  }
    where
      shape : (rows : List ElementTimes) (c : Cell) (o : Option InstanceTime) → map shape_of (with_some rows c o) ≡ map shape_of rows
      shape rows c None = refl
      shape rows c (Some kept) = cell_shape rows c (cell_of rows c ++ kept ∷ [])

      other : (rows : List ElementTimes) (c d : Cell) → is_cell d c ≡ false → (o : Option InstanceTime) → cell_of (with_some rows c o) d ≡ cell_of rows d
      other rows c d q None = refl
      other rows c d q (Some kept) = other_cell rows c d (cell_of rows c ++ kept ∷ []) q

      own : (rows : List ElementTimes) (c : Cell) → HasCell rows c → (o : Option InstanceTime) → cell_of (with_some rows c o) c ≡ cell_of rows c ++ option_to_list o
      own rows c has None = sym (append-nil (cell_of rows c))
      own rows c has (Some kept) = cell_with rows c (cell_of rows c ++ kept ∷ []) has

  -- a cell of these rows, with nothing of a later place than what it is given
  pub record IsReady (rows : List ElementTimes) (c : Cell) : Type 0 where
    pub has : HasCell rows c
    pub order : (kept : InstanceTime) → give c ≡ Some kept → IsNotAfter kept.place (cell_of rows c)

  still_ready : (rows others : List ElementTimes) (d : Cell) → map shape_of rows ≡ map shape_of others → cell_of others d ≡ cell_of rows d → IsReady rows d → IsReady others d
  still_ready rows others d shape same ready = record {
    has = has_too rows others d shape ready.has;
    order = λ kept q. subst (IsNotAfter kept.place) (sym same) (ready.order kept q);
  }

  -- each cell is there once at most
  pub fit : (rows : List ElementTimes) (cells : List Cell) → ((d : Cell) → (count_by (is_cell d) cells ≡ 0) ⊎ ((count_by (is_cell d) cells ≡ 1) × IsReady rows d)) → Fits rows (adds cells)
  fit rows [] all = tt
  fit rows (c ∷ cs) all = by (give c) refl (fit (with_given rows c) cs)
    where
      at_rest : (others : List ElementTimes) → map shape_of rows ≡ map shape_of others → ((d : Cell) → is_cell d c ≡ false → cell_of others d ≡ cell_of rows d) → (d : Cell) → (t : Bool) → is_cell d c ≡ t → (cond t 1 0 + count_by (is_cell d) cs ≡ 0) ⊎ ((cond t 1 0 + count_by (is_cell d) cs ≡ 1) × IsReady rows d) → (count_by (is_cell d) cs ≡ 0) ⊎ ((count_by (is_cell d) cs ≡ 1) × IsReady others d)
      at_rest others shape same d true q (inl none) = absurd (omega (arith, none))
      at_rest others shape same d true q (inr once) = inl (omega (arith, once.0))
      at_rest others shape same d false q (inl none) = inl (omega (arith, none))
      at_rest others shape same d false q (inr once) = inr (omega (arith, once.0), still_ready rows others d shape (same d q) once.1)

      at_count : (d : Cell) → (cond (is_cell d c) 1 0 + count_by (is_cell d) cs ≡ 0) ⊎ ((cond (is_cell d c) 1 0 + count_by (is_cell d) cs ≡ 1) × IsReady rows d)
      at_count d = subst (λ n. (n ≡ 0) ⊎ ((n ≡ 1) × IsReady rows d)) (count_first (is_cell d) c cs) (all d)

      first : (t : Bool) → is_cell c c ≡ t → (cond t 1 0 + count_by (is_cell c) cs ≡ 0) ⊎ ((cond t 1 0 + count_by (is_cell c) cs ≡ 1) × IsReady rows c) → IsReady rows c
      first true q (inl none) = absurd (omega (arith, none))
      first true q (inr once) = once.1
      first false q any = let never : false ≡ true = sym q ∙ cell_itself c in cc

      by : (o : Option InstanceTime) → give c ≡ o → (((d : Cell) → (count_by (is_cell d) cs ≡ 0) ⊎ ((count_by (is_cell d) cs ≡ 1) × IsReady (with_some rows c o) d)) → Fits (with_some rows c o) (adds cs)) → Fits rows (cons_option (add_to c o) (adds cs))
      by None q later = later (λ d. at_rest rows refl (λ x r. refl) d (is_cell d c) refl (at_count d))
      by (Some kept) q later =
          let ready = first (is_cell c c) refl (at_count c) in
          let next = with_cell rows c (cell_of rows c ++ kept ∷ []) in (
            ready.has,
            ready.order kept q,
            later (λ d. at_rest next (sym (cell_shape rows c (cell_of rows c ++ kept ∷ []))) (λ x r. other_cell rows c x (cell_of rows c ++ kept ∷ []) r) d (is_cell d c) refl (at_count d)),
          )
