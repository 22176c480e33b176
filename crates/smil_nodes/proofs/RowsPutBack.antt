-- Rows and endings that are put back.
use Rattle.std.proofs.Common.{◌≡◌, refl, ◌∙◌, ap, sym, ℕ, zero, suc, ◌≤◌, List, [], ◌∷◌, ◌++◌, length, set, Option, Some, Bool, true, false, inl, inr, arith}
use Rattle.std.specs.Prelude.{◌==◌, ◌⊎◌, nat_eq, slice_get}
use Rattle.std.proofs.lemmas.Bool.{eqb-true, eqb-false, or_cases}
use Rattle.smil_model.specs.declared.interval.Interval.{Interval}
use Rattle.smil_element.specs.declared.comings.DueChanges.{DueChanges}
use Rattle.smil_element.specs.declared.endings.Ending.{Ending}
use Rattle.smil_rounds.specs.declared.current_rows.CurrentRow.{CurrentRow}
use Rattle.smil_nodes.specs.declared.undo.Note.{Note}
use Rattle.smil_nodes.specs.Endings.{KeptEnds, ending_in, put_ending}
use Rattle.smil_nodes.specs.Schedule.{row_put}
use Rattle.smil_nodes.specs.Undo.{Kept, MayGrow, all_back, has_note, note_put}
use Rattle.smil_nodes.proofs.ChildEndsPut.{put_back, put_over, put_twice}

-- ---- the row at an index

row_twice : (xs : List CurrentRow) (k : ℕ) (a b : Option Interval) (c d : DueChanges) → row_put (row_put xs k a c) k b d ≡ row_put xs k b d
row_twice [] k a b c d = refl
row_twice (x ∷ xs) zero a b c d = refl
row_twice (x ∷ xs) (suc k) a b c d = ap (λ ys. x ∷ ys) (row_twice xs k a b c d)

row_apart : (xs : List CurrentRow) (j k : ℕ) (a b : Option Interval) (c d : DueChanges) → (j ≡ k → ⊥) → row_put (row_put xs j a c) k b d ≡ row_put (row_put xs k b d) j a c
row_apart [] j k a b c d differ = refl
row_apart (x ∷ xs) zero zero a b c d differ = absurd (differ refl)
row_apart (x ∷ xs) zero (suc k) a b c d differ = refl
row_apart (x ∷ xs) (suc j) zero a b c d differ = refl
row_apart (x ∷ xs) (suc j) (suc k) a b c d differ = ap (λ ys. x ∷ ys) (row_apart xs j k a b c d (λ e. differ (ap suc e)))

-- to put what is there changes nothing
pub row_same : (xs : List CurrentRow) (k : ℕ) (row : CurrentRow) → slice_get xs k ≡ Some row → row_put xs k row.interval row.comings ≡ xs
row_same [] k row got = refl
row_same (x ∷ xs) zero row got =
    let one : row ≡ x = cc in
    λ i. record { serial = x.serial; interval = (one i).interval; comings = (one i).comings } ∷ xs
row_same (x ∷ xs) (suc k) row got = ap (λ ys. x ∷ ys) (row_same xs k row got)

-- where there is no row nothing changes
pub row_past : (xs : List CurrentRow) (k : ℕ) (a : Option Interval) (c : DueChanges) → length xs ≤ k → row_put xs k a c ≡ xs
row_past [] k a c le = refl
row_past (x ∷ xs) zero a c le = absurd (omega (arith, le))
row_past (x ∷ xs) (suc k) a c le = ap (λ ys. x ∷ ys) (row_past xs k a c (omega (arith, le)))

-- a row of the same element in its place
pub row_set : (xs : List CurrentRow) (k : ℕ) (old row : CurrentRow) → slice_get xs k ≡ Some old → old.serial ≡ row.serial → row_put xs k row.interval row.comings ≡ set xs k row
row_set [] k old row got own = cc
row_set (x ∷ xs) zero old row got own =
    let one : x ≡ old = cc in
    λ i. record { serial = (ap (λ (r : CurrentRow). r.serial) one ∙ own) i; interval = row.interval; comings = row.comings } ∷ xs
row_set (x ∷ xs) (suc k) old row got own = ap (λ ys. x ∷ ys) (row_set xs k old row got own)

-- after the same is put in either, what is put at an index leaves both the same
rows_over : (xs ys : List CurrentRow) (k j : ℕ) (a b : Option Interval) (c d : DueChanges) → ((i : Option Interval) (e : DueChanges) → row_put xs k i e ≡ row_put ys k i e) → row_put (row_put xs j a c) k b d ≡ row_put (row_put ys j a c) k b d
rows_over xs ys k j a b c d agree = by_place (nat_eq j k) refl
  where
    by_place : (t : Bool) → nat_eq j k ≡ t → row_put (row_put xs j a c) k b d ≡ row_put (row_put ys j a c) k b d
    by_place true q =
        let one : j ≡ k = eqb-true j k q in
        ap (λ n. row_put (row_put xs n a c) k b d) one
        ∙ row_twice xs k a b c d
        ∙ agree b d
        ∙ sym (row_twice ys k a b c d)
        ∙ ap (λ n. row_put (row_put ys n a c) k b d) (sym one)
    by_place false q =
        row_apart xs j k a b c d (eqb-false j k q)
        ∙ ap (λ rows. row_put rows j a c) (agree b d)
        ∙ sym (row_apart ys j k a b c d (eqb-false j k q))

-- ---- what is kept of an element put at an index

abbrev pub put_at : Kept → ℕ → Note → Kept
put_at kept k note = record {
  rows = row_put kept.rows k note.interval note.comings;
  ends = put_ending kept.ends k note.ending;
}

-- to put what is there changes nothing
pub there : (rows : List CurrentRow) (ends : KeptEnds) (k : ℕ) (row : CurrentRow) (ending : Ending) → slice_get rows k ≡ Some row → ending ≡ ending_in ends k → note_put (record { rows = rows; ends = ends }) (record { index = k; interval = row.interval; comings = row.comings; ending = ending }) ≡ record { rows = rows; ends = ends }
there rows ends k row ending got is =
    λ i. record { rows = row_same rows k row got i; ends = (ap (put_ending ends k) is ∙ put_back ends k) i }

back_push : (kept : Kept) (notes : List Note) (note : Note) → all_back kept (notes ++ note ∷ []) ≡ all_back (note_put kept note) notes
back_push kept [] note = refl
back_push kept (n ∷ ns) note = ap (λ k. note_put k n) (back_push kept ns note)

-- one note more is put back
pub back_next : (kept : Kept) (notes old : List Note) (note : Note) → old ≡ notes ++ note ∷ [] → all_back (note_put kept note) notes ≡ all_back kept old
back_next kept notes old note last = sym (ap (all_back kept) last ∙ back_push kept notes note)

module _ (k : ℕ) where
  -- but for what is at an index they are the same
  abbrev AgreeElsewhere : Kept → Kept → Type 0
  AgreeElsewhere xs ys = (z : Note) → put_at xs k z ≡ put_at ys k z

  put_agrees : (xs ys : Kept) (j : ℕ) (w : Note) → AgreeElsewhere xs ys → AgreeElsewhere (put_at xs j w) (put_at ys j w)
  put_agrees xs ys j w agree z = λ i. record { rows = rows_are i; ends = ends_are i }
    where
      rows_are : row_put (row_put xs.rows j w.interval w.comings) k z.interval z.comings ≡ row_put (row_put ys.rows j w.interval w.comings) k z.interval z.comings
      rows_are =
          rows_over xs.rows ys.rows k j w.interval z.interval w.comings z.comings
          (λ a c. ap (λ (s : Kept). s.rows) (agree (record { index = z.index; interval = a; comings = c; ending = z.ending })))

      ends_are : put_ending (put_ending xs.ends j w.ending) k z.ending ≡ put_ending (put_ending ys.ends j w.ending) k z.ending
      ends_are =
          put_over xs.ends ys.ends k j w.ending z.ending (ap (λ (s : Kept). s.ends.homes) (agree z))
          (λ v. ap (λ (s : Kept). s.ends) (agree (record { index = z.index; interval = z.interval; comings = z.comings; ending = v })))

  back_agrees : (xs ys : Kept) (notes : List Note) → AgreeElsewhere xs ys → AgreeElsewhere (all_back xs notes) (all_back ys notes)
  back_agrees xs ys [] agree = agree
  back_agrees xs ys (n ∷ ns) agree = put_agrees (all_back xs ns) (all_back ys ns) n.index n (back_agrees xs ys ns agree)

  -- where one of the element is noted, what is kept of it does not matter
  back_hides : (xs ys : Kept) (notes : List Note) → AgreeElsewhere xs ys → has_note notes k ≡ true → all_back xs notes ≡ all_back ys notes
  back_hides xs ys [] agree q = cc
  back_hides xs ys (n ∷ ns) agree q = by_case (or_cases (n.index == k) (has_note ns k) q) (back_hides xs ys ns agree)
    where
      by_case : (n.index == k ≡ true) ⊎ (has_note ns k ≡ true) → (has_note ns k ≡ true → all_back xs ns ≡ all_back ys ns) → all_back xs (n ∷ ns) ≡ all_back ys (n ∷ ns)
      by_case (inl here) below =
          let own : n.index ≡ k = eqb-true n.index k here in
          ap (λ i. put_at (all_back xs ns) i n) own ∙ back_agrees xs ys ns agree n ∙ ap (λ i. put_at (all_back ys ns) i n) (sym own)
      by_case (inr later) below = ap (λ s. note_put s n) (below later)

-- ---- what is noted before it changes

-- to note what is there changes nothing
pub back_kept : (kept : Kept) (notes new : List Note) (note : Note) → note_put kept note ≡ kept → MayGrow notes note new → all_back kept new ≡ all_back kept notes
back_kept kept notes new note is (inl same) = ap (all_back kept) same
back_kept kept notes new note is (inr pushed) = ap (all_back kept) pushed ∙ back_push kept notes note ∙ ap (λ s. all_back s notes) is

-- where an element is noted before it changes, all goes back as before
pub back_noted : (kept : Kept) (notes new : List Note) (note next : Note) → note_put kept note ≡ kept → MayGrow notes note new → has_note new note.index ≡ true → all_back (put_at kept note.index next) new ≡ all_back kept notes
back_noted kept notes new note next is grown noted =
    back_hides note.index (put_at kept note.index next) kept new
    (λ z i. record { rows = row_twice kept.rows note.index next.interval z.interval next.comings z.comings i; ends = put_twice kept.ends note.index next.ending z.ending i })
    noted
    ∙ back_kept kept notes new note is grown
