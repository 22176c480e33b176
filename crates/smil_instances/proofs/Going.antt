-- Rows that go back to a mark though something was added and less is kept.
use Rattle.std.proofs.Common.{◌≡◌, refl, sym, ◌∙◌, ap, subst, ℕ, ◌+◌, ◌<◌, List, [], ◌∷◌, ◌++◌, Bool, true, false, inl, inr, length, get_or, take, Some}
use Rattle.std.specs.Prelude.{nat_eq}
use Rattle.std.specs.List.{AllByRecursion}
use Rattle.std.proofs.lemmas.Bool.{eqb-true, eqb-false}
use Rattle.std.proofs.lemmas.List.{get_or-set_other, length-set, take_more}
use Rattle.smil_laws.proofs.Lists.{each_push, each_weaker}
use Rattle.smil_model.specs.diary.Diary.{History}
use Rattle.smil_instance_rows.specs.declared.cell.Add.{Add}
use Rattle.smil_instance_rows.specs.declared.cell.Cell.{Cell}
use Rattle.smil_instance_rows.specs.Cells.{list_of, with_list}
use Rattle.smil_instance_rows.specs.Rows.{ElementTimes}
use Rattle.smil_instance_rows.specs.Changes.{cell_of, no_row, row_at, with_add, with_adds, with_cell}
use Rattle.smil_instance_rows.specs.Notes.{EachGoes, Goes, GoesBackTheSame, HasNoted, MarkedRows, is_noted, rows_back}
use Rattle.smil_instance_rows.proofs.Noted.{adds_go, cell_hidden, cell_stays, has_both}
use Rattle.smil_instances.specs.Intake.{remaining_at, with_remainder, with_remainders}
use Rattle.smil_instances.specs.Noted.{AreNoted, IsNoted, KeepAll}

-- ---- rows from which nothing is to be taken out

module _ (h : History) (rows : List ElementTimes) where
  -- where all is still kept, to trim changes nothing
  pub all_kept : (cells : List Cell) → KeepAll h rows cells → with_remainders h rows cells ≡ rows
  all_kept [] each = refl
  all_kept (c ∷ cs) each =
      ap (λ rs. with_remainders h rs cs) (ap (with_cell rows c) each.0 ∙ cell_stays rows c)
      ∙ all_kept cs each.1

-- ---- rows that go back

module _ (h : History) (rows : List ElementTimes) (noted : MarkedRows) where
  -- but for noted ones they are the same rows
  abbrev pub AreUnnotedSame : List ElementTimes → Type 0
  AreUnnotedSame now = (r : ℕ) → is_noted noted.notes r ≡ false → row_at now r ≡ row_at rows r

  -- a cell of a row that isn't noted is as it was
  stays : (now : List ElementTimes) (c : Cell) → AreUnnotedSame now → is_noted noted.notes c.row ≡ false → remaining_at h c (cell_of rows c) ≡ cell_of rows c → with_remainder h now c ≡ now
  stays now c same free kept =
      let cell : cell_of now c ≡ cell_of rows c = ap (λ (r : ElementTimes). list_of r c.side c.item) (same c.row free) in
      ap (with_cell now c) (ap (remaining_at h c) cell ∙ kept ∙ sym cell) ∙ cell_stays now c

  one_goes : (now : List ElementTimes) (c : Cell) (t : Bool) → is_noted noted.notes c.row ≡ t → AreUnnotedSame now → IsNoted h rows noted.notes c → rows_back (with_remainder h now c) noted ≡ rows_back now noted
  one_goes now c true q same is = cell_hidden now noted c (remaining_at h c (cell_of now c)) q
  one_goes now c false q same (inl there) = cc
  one_goes now c false q same (inr kept) = ap (λ rs. rows_back rs noted) (stays now c same q kept)

  one_same : (now : List ElementTimes) (c : Cell) → AreUnnotedSame now → IsNoted h rows noted.notes c → AreUnnotedSame (with_remainder h now c)
  one_same now c same is r free = by_place (nat_eq c.row r) refl is
    where
      by_place : (t : Bool) → nat_eq c.row r ≡ t → IsNoted h rows noted.notes c → row_at (with_remainder h now c) r ≡ row_at rows r
      by_place false q any = get_or-set_other now c.row r (with_list (row_at now c.row) c.side c.item (remaining_at h c (cell_of now c))) no_row (λ e. eqb-false c.row r q (sym e)) ∙ same r free
      by_place true q (inl there) =
          let at : c.row ≡ r = eqb-true c.row r q in
          let clash : is_noted noted.notes r ≡ true = sym (ap (is_noted noted.notes) at) ∙ there in
          cc
      by_place true q (inr kept) =
          let at : c.row ≡ r = eqb-true c.row r q in
          ap (λ rs. row_at rs r) (stays now c same (ap (is_noted noted.notes) at ∙ free) kept) ∙ same r free

  all_go : (now : List ElementTimes) (cells : List Cell) → AreUnnotedSame now → AreNoted h rows noted.notes cells → rows_back (with_remainders h now cells) noted ≡ rows_back now noted
  all_go now [] same each = refl
  all_go now (c ∷ cs) same each =
      all_go (with_remainder h now c) cs (one_same now c same each.0) each.1
      ∙ one_goes now c (is_noted noted.notes c.row) refl same each.0

  -- what is trimmed goes back
  pub trims_go : (cells : List Cell) → AreNoted h rows noted.notes cells → rows_back (with_remainders h rows cells) noted ≡ rows_back rows noted
  trims_go cells each = all_go rows cells (λ r free. refl) each

-- ---- items that are noted one after another

-- the first ones, with one more
pub each_next : {A : Type 0} (P Q : A → Type 0) (xs : List A) (i : ℕ) (d : A) → i < length xs → ((x : A) → P x → Q x) → AllByRecursion P (take i xs) → Q (get_or xs i d) → AllByRecursion Q (take (i + 1) xs)
each_next P Q xs i d inside so each one =
    subst (AllByRecursion Q) (sym (take_more xs i d inside))
    (each_push Q (take i xs) (get_or xs i d) (each_weaker P Q (take i xs) each so) one)

-- what holds of the first ones and of the next holds of one more
pub each_more : {A : Type 0} (P : A → Type 0) (xs : List A) (i : ℕ) (d : A) → i < length xs → AllByRecursion P (take i xs) → P (get_or xs i d) → AllByRecursion P (take (i + 1) xs)
each_more P xs i d inside each one = each_next P P xs i d inside (λ x p. p) each one

-- an item whose row is noted stays so
pub still_noted : (h : History) (rows : List ElementTimes) (noted now : MarkedRows) → HasNoted rows noted now → (cell : Cell) → IsNoted h rows noted.notes cell → IsNoted h rows now.notes cell
still_noted h rows noted now more cell (inl there) = inl (more.still cell.row there)
still_noted h rows noted now more cell (inr kept) = inr kept

-- what goes back goes still where more is noted
pub still_goes : (rows : List ElementTimes) (noted now : MarkedRows) → HasNoted rows noted now → (place : ℕ) (add : Add) → Goes noted.notes place add → Goes now.notes place add
still_goes rows noted now more place add (inl late) = inl late
still_goes rows noted now more place add (inr there) = inr (more.still add.cell.row there)

-- ---- what is added

-- there are as many rows
pub adds_length : (rows : List ElementTimes) (adds : List Add) → length (with_adds rows adds) ≡ length rows
adds_length rows [] = refl
adds_length rows (a ∷ adds) =
    adds_length (with_add rows a) adds
    ∙ length-set rows a.cell.row (with_list (row_at rows a.cell.row) a.cell.side a.cell.item (cell_of rows a.cell ++ a.kept ∷ []))

-- the first adds go back, with one more
pub goes_next : (rows : List ElementTimes) (initial was now end : MarkedRows) (place : ℕ) (adds : List Add) (i : ℕ) (d : Add) → end ≡ now → HasNoted rows initial was → AllByRecursion (Goes was.notes place) (take i adds) → i < length adds → HasNoted rows was now → Goes now.notes place (get_or adds i d) → HasNoted rows initial end × AllByRecursion (Goes end.notes place) (take (i + 1) adds)
goes_next rows initial was now end place adds i d is more each inside noted one =
    subst (λ (n : MarkedRows). HasNoted rows initial n × AllByRecursion (Goes n.notes place) (take (i + 1) adds)) (sym is)
    (has_both rows initial was now more noted, each_next (Goes was.notes place) (Goes now.notes place) adds i d inside (still_goes rows was now noted place) each one)

module _ (rows : List ElementTimes) (adds : List Add) (old noted now : MarkedRows) (first : HasNoted rows old noted) (each : EachGoes noted adds) (second : HasNoted (with_adds rows adds) noted now) where
  there : (place : ℕ) → old.mark ≡ Some place → rows_back (with_adds rows adds) now ≡ rows_back rows old
  there place is =
      let at : noted.mark ≡ Some place = first.same.mark ∙ is in
      second.same.back place at ∙ adds_go rows noted place adds at (each place at) ∙ first.same.back place is

  -- rows were noted before and after it was added
  pub added_back : GoesBackTheSame rows old (with_adds rows adds) now
  added_back = record { mark = second.same.mark ∙ first.same.mark; back = there }

  -- and it was undone
  pub undone_back : GoesBackTheSame rows old rows now
  undone_back = record {
    mark = second.same.mark ∙ first.same.mark;
    back = λ place is.
        let at : noted.mark ≡ Some place = first.same.mark ∙ is in
        sym (adds_go rows now place adds (second.same.mark ∙ at) (each_weaker (Goes noted.notes place) (Goes now.notes place) adds (each place at) (still_goes (with_adds rows adds) noted now second place)))
        ∙ there place is;
  }
