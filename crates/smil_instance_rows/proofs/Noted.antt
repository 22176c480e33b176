-- Rows that are put back, and what came after a mark taken out.
use Rattle.std.proofs.Common.{◌≡◌, refl, sym, ◌∙◌, ap, ℕ, zero, suc, ◌+◌, ◌≤◌, ◌<◌, List, [], ◌∷◌, ◌++◌, length, Some, Bool, true, false, inl, inr, arith}
use Rattle.std.specs.Prelude.{◌==◌, ◌⊎◌, ◌||◌, drop, get_or, set, map, take, nat_eq, slice_index_or, slice_set}
use Rattle.std.specs.List.{AllByRecursion}
use Rattle.std.proofs.lemmas.Bool.{eqb-true, eqb-false, or_cases}
use Rattle.std.proofs.lemmas.List.{set-get_or}
use Rattle.std.proofs.lemmas.List.Edits.{map_over_more}
use Rattle.smil_model.specs.declared.document.Edge.{Edge}
use Rattle.smil_model.specs.declared.document.Edge.TheVariants.{Begin, End}
use Rattle.smil_instance_rows.specs.declared.item_times.InstanceTime.{InstanceTime}
use Rattle.smil_instance_rows.specs.declared.cell.Cell.{Cell}
use Rattle.smil_instance_rows.specs.declared.cell.Add.{Add}
use Rattle.smil_instance_rows.specs.declared.notes.RowNote.{RowNote}
use Rattle.smil_instance_rows.specs.Rows.{ElementTimes, before_place, row_before, rows_before}
use Rattle.smil_instance_rows.specs.Cells.{list_of, with_list}
use Rattle.smil_instance_rows.specs.Changes.{cell_of, no_row, row_at, with_add, with_adds, with_cell}
use Rattle.smil_instance_rows.proofs.TimesByPlace.{before_push}
use Rattle.smil_instance_rows.specs.Notes.{AreMarked, Goes, HasNoted, MarkedRows, all_put, cut_to, is_noted, row_with_times, rows_back, times_put}

-- ---- one after another

get_again : {X : Type 0} (xs : List X) (i : ℕ) (d : X) → get_or xs i d ≡ get_or xs i (get_or xs i d)
get_again [] i d = refl
get_again (x ∷ xs) zero d = refl
get_again (x ∷ xs) (suc i) d = get_again xs i d

pub over_next : {X : Type 0} (f : X → X) (xs ys : List X) (i : ℕ) (d : X) → i < length xs → ys ≡ map f (take i xs) ++ drop i xs → set ys i (f (get_or ys i d)) ≡ map f (take (i + 1) xs) ++ drop (i + 1) xs
over_next f xs ys i d inside is = map_over_more f xs ys i (get_or ys i d) inside is (get_again ys i d)

-- ---- the times of one row

put_twice : (xs : List ElementTimes) (k : ℕ) (a b : ElementTimes) → times_put (times_put xs k a) k b ≡ times_put xs k b
put_twice [] k a b = refl
put_twice (x ∷ xs) zero a b = refl
put_twice (x ∷ xs) (suc k) a b = ap (λ ys. x ∷ ys) (put_twice xs k a b)

put_apart : (xs : List ElementTimes) (j k : ℕ) (a b : ElementTimes) → (j ≡ k → ⊥) → times_put (times_put xs j a) k b ≡ times_put (times_put xs k b) j a
put_apart [] j k a b differ = refl
put_apart (x ∷ xs) zero zero a b differ = absurd (differ refl)
put_apart (x ∷ xs) zero (suc k) a b differ = refl
put_apart (x ∷ xs) (suc j) zero a b differ = refl
put_apart (x ∷ xs) (suc j) (suc k) a b differ = ap (λ ys. x ∷ ys) (put_apart xs j k a b (λ e. differ (ap suc e)))

-- to put what is there changes nothing
pub put_same : (xs : List ElementTimes) (k : ℕ) → times_put xs k (row_at xs k) ≡ xs
put_same [] k = refl
put_same (x ∷ xs) zero = refl
put_same (x ∷ xs) (suc k) = ap (λ ys. x ∷ ys) (put_same xs k)

-- where there is no row nothing changes
pub put_past : (xs : List ElementTimes) (k : ℕ) (a : ElementTimes) → length xs ≤ k → times_put xs k a ≡ xs
put_past [] k a past = refl
put_past (x ∷ xs) zero a past = absurd (omega (arith, past))
put_past (x ∷ xs) (suc k) a past = ap (λ ys. x ∷ ys) (put_past xs k a (omega (arith, past)))

-- a row with the times of another in its place
pub put_set : (xs : List ElementTimes) (k : ℕ) (own new row : ElementTimes) → k < length xs → own ≡ get_or xs k own → new ≡ row_with_times own row → set xs k new ≡ times_put xs k row
put_set [] k own new row inside is now = refl
put_set (x ∷ xs) zero own new row inside is now = ap (λ r. r ∷ xs) (now ∙ ap (λ r. row_with_times r row) is)
put_set (x ∷ xs) (suc k) own new row inside is now = ap (λ ys. x ∷ ys) (put_set xs k own new row (omega (arith, inside)) is now)

module _ (k : ℕ) where
  -- but for the times of the row with an index they are the same
  abbrev AgreeElsewhere : List ElementTimes → List ElementTimes → Type 0
  AgreeElsewhere xs ys = (z : ElementTimes) → times_put xs k z ≡ times_put ys k z

  put_over : (xs ys : List ElementTimes) (j : ℕ) (a : ElementTimes) → AgreeElsewhere xs ys → AgreeElsewhere (times_put xs j a) (times_put ys j a)
  put_over xs ys j a agree = λ z. by_place z (nat_eq j k) refl
    where
      by_place : (z : ElementTimes) (t : Bool) → nat_eq j k ≡ t → times_put (times_put xs j a) k z ≡ times_put (times_put ys j a) k z
      by_place z true q =
          let one : j ≡ k = eqb-true j k q in
          ap (λ n. times_put (times_put xs n a) k z) one
          ∙ put_twice xs k a z
          ∙ agree z
          ∙ sym (put_twice ys k a z)
          ∙ ap (λ n. times_put (times_put ys n a) k z) (sym one)
      by_place z false q =
          put_apart xs j k a z (eqb-false j k q)
          ∙ ap (λ rows. times_put rows j a) (agree z)
          ∙ sym (put_apart ys j k a z (eqb-false j k q))

  all_agree : (xs ys : List ElementTimes) (notes : List RowNote) → AgreeElsewhere xs ys → AgreeElsewhere (all_put xs notes) (all_put ys notes)
  all_agree xs ys [] agree = agree
  all_agree xs ys (n ∷ ns) agree = put_over (all_put xs ns) (all_put ys ns) n.index n.row (all_agree xs ys ns agree)

  -- where the row is noted, its times do not matter
  all_hide : (xs ys : List ElementTimes) (notes : List RowNote) → AgreeElsewhere xs ys → is_noted notes k ≡ true → all_put xs notes ≡ all_put ys notes
  all_hide xs ys [] agree q = cc
  all_hide xs ys (n ∷ ns) agree q = by_case (or_cases (n.index == k) (is_noted ns k) q) (all_hide xs ys ns agree)
    where
      by_case : (n.index == k ≡ true) ⊎ (is_noted ns k ≡ true) → (is_noted ns k ≡ true → all_put xs ns ≡ all_put ys ns) → all_put xs (n ∷ ns) ≡ all_put ys (n ∷ ns)
      by_case (inl here) below =
          let own : n.index ≡ k = eqb-true n.index k here in
          ap (λ i. times_put (all_put xs ns) i n.row) own ∙ all_agree xs ys ns agree n.row ∙ ap (λ i. times_put (all_put ys ns) i n.row) (sym own)
      by_case (inr later) below = ap (λ rows. times_put rows n.index n.row) (below later)

-- ---- a cell that changes

set_agrees : (xs : List ElementTimes) (k : ℕ) (new z : ElementTimes) → new.serial ≡ (row_at xs k).serial → times_put (set xs k new) k z ≡ times_put xs k z
set_agrees [] k new z own = refl
set_agrees (x ∷ xs) zero new z own = ap (λ s. record { serial = s; begins = z.begins; ends = z.ends } ∷ xs) own
set_agrees (x ∷ xs) (suc k) new z own = ap (λ ys. x ∷ ys) (set_agrees xs k new z own)

list_serial : (row : ElementTimes) (side : Edge) (item : ℕ) (kept : List InstanceTime) → (with_list row side item kept).serial ≡ row.serial
list_serial row Begin item kept = refl
list_serial row End item kept = refl

-- what is kept in a cell of a noted row does not matter
pub cell_hidden : (rows : List ElementTimes) (noted : MarkedRows) (cell : Cell) (kept : List InstanceTime) → is_noted noted.notes cell.row ≡ true → rows_back (with_cell rows cell kept) noted ≡ rows_back rows noted
cell_hidden rows noted cell kept there =
    ap (cut_to noted.mark)
    (all_hide cell.row (with_cell rows cell kept) rows noted.notes
    (λ z. set_agrees rows cell.row (with_list (row_at rows cell.row) cell.side cell.item kept) z (list_serial (row_at rows cell.row) cell.side cell.item kept))
    there)

-- to keep in a cell what is there changes nothing
pub cell_stays : (rows : List ElementTimes) (cell : Cell) → with_cell rows cell (cell_of rows cell) ≡ rows
cell_stays rows cell = ap (set rows cell.row) (list_stays (row_at rows cell.row) cell.side cell.item) ∙ set-get_or rows cell.row no_row
  where
    list_stays : (row : ElementTimes) (side : Edge) (item : ℕ) → with_list row side item (list_of row side item) ≡ row
    list_stays row Begin item = ap (λ bs. record { serial = row.serial; begins = bs; ends = row.ends }) (set-get_or row.begins item [])
    list_stays row End item = ap (λ es. record { serial = row.serial; begins = row.begins; ends = es }) (set-get_or row.ends item [])

-- ---- what came after the mark

list_push : (place : ℕ) (items : List (List InstanceTime)) (i : ℕ) (last : InstanceTime) → place ≤ last.place → map (before_place place) (set items i (get_or items i [] ++ last ∷ [])) ≡ map (before_place place) items
list_push place [] i last late = refl
list_push place (ks ∷ items) zero last late = ap (λ ls. ls ∷ map (before_place place) items) (before_push place ks last late)
list_push place (ks ∷ items) (suc i) last late = ap (λ ls. before_place place ks ∷ ls) (list_push place items i last late)

row_push : (place : ℕ) (row : ElementTimes) (side : Edge) (item : ℕ) (last : InstanceTime) → place ≤ last.place → row_before place (with_list row side item (list_of row side item ++ last ∷ [])) ≡ row_before place row
row_push place row Begin item last late =
    ap (λ bs. record { serial = row.serial; begins = bs; ends = map (before_place place) row.ends }) (list_push place row.begins item last late)
row_push place row End item last late =
    ap (λ es. record { serial = row.serial; begins = map (before_place place) row.begins; ends = es }) (list_push place row.ends item last late)

set_before : (place : ℕ) (xs : List ElementTimes) (k : ℕ) (new : ElementTimes) → row_before place new ≡ row_before place (row_at xs k) → rows_before place (set xs k new) ≡ rows_before place xs
set_before place [] k new same = refl
set_before place (x ∷ xs) zero new same = ap (λ r. r ∷ rows_before place xs) same
set_before place (x ∷ xs) (suc k) new same = ap (λ rs. row_before place x ∷ rs) (set_before place xs k new same)

put_before : (place : ℕ) (xs : List ElementTimes) (k : ℕ) (z : ElementTimes) → rows_before place (times_put xs k z) ≡ times_put (rows_before place xs) k (row_before place z)
put_before place [] k z = refl
put_before place (x ∷ xs) zero z = refl
put_before place (x ∷ xs) (suc k) z = ap (λ rs. row_before place x ∷ rs) (put_before place xs k z)

-- rows that are the same before a place are so after the same is put back in either
all_before : (place : ℕ) (xs ys : List ElementTimes) (notes : List RowNote) → rows_before place xs ≡ rows_before place ys → rows_before place (all_put xs notes) ≡ rows_before place (all_put ys notes)
all_before place xs ys [] same = same
all_before place xs ys (n ∷ ns) same =
    put_before place (all_put xs ns) n.index n.row
    ∙ ap (λ rows. times_put rows n.index (row_before place n.row)) (all_before place xs ys ns same)
    ∙ sym (put_before place (all_put ys ns) n.index n.row)

-- ---- what is added

add_goes : (rows : List ElementTimes) (noted : MarkedRows) (place : ℕ) (add : Add) → noted.mark ≡ Some place → Goes noted.notes place add → rows_back (with_add rows add) noted ≡ rows_back rows noted
add_goes rows noted place add is (inl late) =
    ap (λ m. cut_to m (all_put (with_add rows add) noted.notes)) is
    ∙ all_before place (with_add rows add) rows noted.notes
    (set_before place rows add.cell.row (with_list (row_at rows add.cell.row) add.cell.side add.cell.item (cell_of rows add.cell ++ add.kept ∷ [])) (row_push place (row_at rows add.cell.row) add.cell.side add.cell.item add.kept late))
    ∙ ap (λ m. cut_to m (all_put rows noted.notes)) (sym is)
add_goes rows noted place add is (inr there) =
    cell_hidden rows noted add.cell (cell_of rows add.cell ++ add.kept ∷ []) there

pub adds_go : (rows : List ElementTimes) (noted : MarkedRows) (place : ℕ) (adds : List Add) → noted.mark ≡ Some place → AllByRecursion (Goes noted.notes place) adds → rows_back (with_adds rows adds) noted ≡ rows_back rows noted
adds_go rows noted place [] is each = refl
adds_go rows noted place (add ∷ adds) is each =
    adds_go (with_add rows add) noted place adds is each.1 ∙ add_goes rows noted place add is each.0

-- ---- a row that is noted

no_mark_set : (marks : List Bool) (k : ℕ) → slice_index_or (slice_set marks k false) k false ≡ false
no_mark_set [] k = refl
no_mark_set (m ∷ ms) zero = refl
no_mark_set (m ∷ ms) (suc k) = no_mark_set ms k

other_mark : (value : Bool) (marks : List Bool) (k j : ℕ) → (k ≡ j → ⊥) → slice_index_or (slice_set marks k value) j false ≡ slice_index_or marks j false
other_mark value [] k j differ = refl
other_mark value (m ∷ ms) zero zero differ = absurd (differ refl)
other_mark value (m ∷ ms) zero (suc j) differ = refl
other_mark value (m ∷ ms) (suc k) zero differ = refl
other_mark value (m ∷ ms) (suc k) (suc j) differ = other_mark value ms k j (λ e. differ (ap suc e))

-- a note of another row doesn't matter
not_last : (notes : List RowNote) (note : RowNote) (index : ℕ) → nat_eq note.index index ≡ false → is_noted (notes ++ note ∷ []) index ≡ true → is_noted notes index ≡ true
not_last [] note index other q = let no : (note.index == index || false) ≡ true = q in cc
not_last (n ∷ ns) note index other q = step (n.index == index) (not_last ns note index other) q
  where
    step : (t : Bool) → (is_noted (ns ++ note ∷ []) index ≡ true → is_noted ns index ≡ true) → (t || is_noted (ns ++ note ∷ []) index) ≡ true → (t || is_noted ns index) ≡ true
    step true rest p = refl
    step false rest p = rest p

-- where the last note is taken away, and its mark, each row that is marked is noted
pub unmarked : (marks now : List Bool) (note : RowNote) (old notes : List RowNote) → old ≡ notes ++ note ∷ [] → now ≡ slice_set marks note.index false → AreMarked marks old → AreMarked now notes
unmarked marks now note old notes is set are = λ index q. by_place index (nat_eq note.index index) refl (sym (ap (λ ms. slice_index_or ms index false) set) ∙ q)
  where
    by_place : (index : ℕ) (t : Bool) → nat_eq note.index index ≡ t → slice_index_or (slice_set marks note.index false) index false ≡ true → is_noted notes index ≡ true
    by_place index true e q =
        let at : note.index ≡ index = eqb-true note.index index e in
        let none : slice_index_or (slice_set marks note.index false) index false ≡ false = ap (λ k. slice_index_or (slice_set marks note.index false) k false) (sym at) ∙ no_mark_set marks note.index in
        cc
    by_place index false e q =
        not_last notes note index e
        (ap (λ ns. is_noted ns index) (sym is) ∙ are index (sym (other_mark false marks note.index index (eqb-false note.index index e)) ∙ q))

all_push : (rows : List ElementTimes) (notes : List RowNote) (note : RowNote) → all_put rows (notes ++ note ∷ []) ≡ all_put (times_put rows note.index note.row) notes
all_push rows [] note = refl
all_push rows (n ∷ ns) note = ap (λ rs. times_put rs n.index n.row) (all_push rows ns note)

-- the last note is put back first
pub all_next : (rows : List ElementTimes) (old notes : List RowNote) (note : RowNote) → old ≡ notes ++ note ∷ [] → all_put (times_put rows note.index note.row) notes ≡ all_put rows old
all_next rows old notes note is = sym (ap (all_put rows) is ∙ all_push rows notes note)

still_there : (notes : List RowNote) (note : RowNote) (index : ℕ) → is_noted notes index ≡ true → is_noted (notes ++ note ∷ []) index ≡ true
still_there [] note index q = cc
still_there (n ∷ ns) note index q = step (n.index == index) (still_there ns note index) q
  where
    step : (t : Bool) → (is_noted ns index ≡ true → is_noted (ns ++ note ∷ []) index ≡ true) → (t || is_noted ns index) ≡ true → (t || is_noted (ns ++ note ∷ []) index) ≡ true
    step true rest p = refl
    step false rest p = rest p

-- the last note is of its own row
last_there : (notes : List RowNote) (note : RowNote) (index : ℕ) → nat_eq note.index index ≡ true → is_noted (notes ++ note ∷ []) index ≡ true
last_there [] note index e = ap (λ t. t || false) e
last_there (n ∷ ns) note index e = step (n.index == index) (last_there ns note index e)
  where
    step : (t : Bool) → is_noted (ns ++ note ∷ []) index ≡ true → (t || is_noted (ns ++ note ∷ []) index) ≡ true
    step true rest = refl
    step false rest = rest

-- where a note is added, and its mark, each row that is marked is noted
pub marked : (marks now : List Bool) (note : RowNote) (old notes : List RowNote) → notes ≡ old ++ note ∷ [] → now ≡ slice_set marks note.index true → AreMarked marks old → AreMarked now notes
marked marks now note old notes is set are = λ index q. ap (λ ns. is_noted ns index) is ∙ by_place index (nat_eq note.index index) refl (sym (ap (λ ms. slice_index_or ms index false) set) ∙ q)
  where
    by_place : (index : ℕ) (t : Bool) → nat_eq note.index index ≡ t → slice_index_or (slice_set marks note.index true) index false ≡ true → is_noted (old ++ note ∷ []) index ≡ true
    by_place index true e q = last_there old note index e
    by_place index false e q = still_there old note index (are index (sym (other_mark true marks note.index index (eqb-false note.index index e)) ∙ q))

pub has_itself : (rows : List ElementTimes) (noted : MarkedRows) → HasNoted rows noted noted
has_itself rows noted = record { same = record { mark = refl; back = λ place is. refl }; still = λ index q. q }

pub has_pushed : (rows : List ElementTimes) (noted : MarkedRows) (notes : List RowNote) (note : RowNote) → note.row ≡ row_at rows note.index → notes ≡ noted.notes ++ note ∷ [] → HasNoted rows noted (record { notes = notes; mark = noted.mark })
has_pushed rows noted notes note is pushed = record {
  same = record {
    mark = refl;
    back = λ place at.
        ap (cut_to noted.mark)
        (ap (all_put rows) pushed
        ∙ all_push rows noted.notes note
        ∙ ap (λ r. all_put (times_put rows note.index r) noted.notes) is
        ∙ ap (λ rs. all_put rs noted.notes) (put_same rows note.index));
  };
  still = λ index q. ap (λ ns. is_noted ns index) pushed ∙ still_there noted.notes note index q;
}

pub has_both : (rows : List ElementTimes) (first second third : MarkedRows) → HasNoted rows first second → HasNoted rows second third → HasNoted rows first third
has_both rows first second third a b = record {
  same = record {
    mark = b.same.mark ∙ a.same.mark;
    back = λ place is. b.same.back place (a.same.mark ∙ is) ∙ a.same.back place is;
  };
  still = λ index q. b.still index (a.still index q);
}
