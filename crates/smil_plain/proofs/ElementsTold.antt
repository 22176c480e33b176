-- What is told while the elements are evaluated, each once.
use Rattle.std.proofs.Common.{◌≡◌, refl, sym, ◌∙◌, ap, subst, set, ℕ, ◌+◌, ◌<◌, ◌≤◌, List, [], ◌∷◌, ◌++◌, length, get_or, Bool, true, false, inl, inr, ℤ, arith, eqb-true}
use Rattle.std.specs.Prelude.{◌==◌, ◌⊎◌, nat_eq}
use Rattle.std.specs.List.{IsDistinct}
use Rattle.std.proofs.lemmas.Bool.{or_cases}
use Rattle.std.proofs.lemmas.List.Folds.{list_any-append}
use Rattle.smil_model.specs.document.Closure.{has}
use Rattle.smil_model.specs.diary.Diary.{History}
use Rattle.smil_model.specs.interval.Current.{current_interval}
use Rattle.smil_rounds.specs.declared.current_rows.CurrentRow.{CurrentRow}
use Rattle.smil_rounds.specs.Current.{IsCurrent, interval_in}
use Rattle.smil_rounds.proofs.CurrentRowsExact.{current_intervals}
use Rattle.smil_rounds.proofs.RowPut.{IsFirst, set_others, set_own}
use Rattle.std.specs.FinSet as finite
use Rattle.smil_due.specs.Order.{key_cmp}
use Rattle.smil_cells.specs.Evaluated.{AreChanged}
use Rattle.smil_cells.proofs.DistinctElements.{one_place}
use Rattle.smil_plain.specs.Plain.{IsTold}

-- ---- one element

module _ (old new : List ℕ) (rows : List CurrentRow) (k who : ℕ) (row : CurrentRow) (first : IsFirst row.serial rows k) (own : row.serial ≡ who) where
  others : (s : ℕ) → who == s ≡ false → interval_in (set rows k row) s ≡ interval_in rows s
  others s other = set_others row rows k s first (ap (λ n. n == s) own ∙ other)

  pub told_pushed : new ≡ old ++ who ∷ [] → (interval_in rows who ≡ row.interval → ⊥) → IsTold who old new rows (set rows k row)
  told_pushed pushed differs = record {
    others = others;
    told = λ s on. by_case s (or_cases (has old s) (has (who ∷ []) s) (sym (list_any-append (λ y. y == s) old (who ∷ [])) ∙ sym (ap (λ xs. has xs s) pushed) ∙ on));
  }
    where
      after : interval_in (set rows k row) who ≡ row.interval
      after = ap (interval_in (set rows k row)) (sym own) ∙ set_own row rows k first

      by_case : (s : ℕ) → (has old s ≡ true) ⊎ (has (who ∷ []) s ≡ true) → (has old s ≡ true) ⊎ ((who == s ≡ true) × (interval_in (set rows k row) who ≡ interval_in rows who → ⊥))
      by_case s (inl was) = inl was
      by_case s (inr last) = elim (or_cases (who == s) false last) [ inl here ↦ inr (here, λ same. differs (sym same ∙ after)) | inr never ↦ absurd (cc) ]

  pub told_same : new ≡ old → IsTold who old new rows (set rows k row)
  told_same same = record { others = others; told = λ s on. inl (sym (ap (λ xs. has xs s) same) ∙ on) }

-- ---- one after another

module _ (order : List ℕ) (apart : IsDistinct nat_eq order) (first before after : List CurrentRow) (k who : ℕ) (low : k < length order) (at : get_or order k 0 ≡ who) (later : (j : ℕ) → k ≤ j → j < length order → interval_in before (get_or order j 0) ≡ interval_in first (get_or order j 0)) where
  -- it had its first interval until now
  first_until : interval_in before who ≡ interval_in first who
  first_until = subst (λ s. interval_in before s ≡ interval_in first s) at (later k (omega arith) low)

  module _ (old changed new : List ℕ) (is : IsTold who changed new before after) where
    same_before : (s : ℕ) → interval_in after s ≡ interval_in first s → interval_in before s ≡ interval_in first s
    same_before s same = by_test (who == s) refl
      where
        by_test : (t : Bool) → who == s ≡ t → interval_in before s ≡ interval_in first s
        by_test true e = subst (λ y. interval_in before y ≡ interval_in first y) (eqb-true who s e) first_until
        by_test false e = sym (is.others s e) ∙ same

    pub told_next : AreChanged old changed (interval_in first) (interval_in before) → AreChanged old new (interval_in first) (interval_in after)
    told_next so_far s on = by_last (is.told s on)
      where
        by_far : (has old s ≡ true) ⊎ (interval_in before s ≡ interval_in first s → ⊥) → (has old s ≡ true) ⊎ (interval_in after s ≡ interval_in first s → ⊥)
        by_far (inl was) = inl was
        by_far (inr differs) = inr (λ same. differs (same_before s same))

        by_last : (has changed s ≡ true) ⊎ ((who == s ≡ true) × (interval_in after who ≡ interval_in before who → ⊥)) → (has old s ≡ true) ⊎ (interval_in after s ≡ interval_in first s → ⊥)
        by_last (inl was) = by_far (so_far s was)
        by_last (inr (own, differs)) =
            let one = eqb-true who s own in
            inr (λ same. differs (ap (interval_in after) one ∙ same ∙ ap (interval_in first) (sym one) ∙ sym first_until))

    -- the elements behind it in the order have their first intervals still
    pub later_next : (j : ℕ) → k + 1 ≤ j → j < length order → interval_in after (get_or order j 0) ≡ interval_in first (get_or order j 0)
    later_next j from below = is.others (get_or order j 0) (other (who == get_or order j 0) refl) ∙ later j (omega (arith, from)) below
      where
        other : (t : Bool) → who == get_or order j 0 ≡ t → t ≡ false
        other false e = refl
        other true e =
            let same : k ≡ j = one_place order k j apart low below (at ∙ eqb-true who (get_or order j 0) e) in
            absurd (omega (arith, same, from))

-- ---- by the current intervals

pub told_current : (before h : History) (now : ℤ) (old : List CurrentRow) (old_due : finite.FinSet key_cmp) (same new : List CurrentRow) (due : finite.FinSet key_cmp) (told changed : List ℕ) → IsCurrent old old_due before now → same ≡ old → IsCurrent new due h now
    → AreChanged told changed (interval_in same) (interval_in new) → AreChanged told changed (current_interval before now) (current_interval h now)
told_current before h now old old_due same new due told changed was kept is tells s on = by_case (tells s on)
  where
    by_case : (has told s ≡ true) ⊎ (interval_in new s ≡ interval_in same s → ⊥) → (has told s ≡ true) ⊎ (current_interval h now s ≡ current_interval before now s → ⊥)
    by_case (inl t) = inl t
    by_case (inr differs) =
        inr (λ equal. differs (current_intervals h now new due is s ∙ equal ∙ sym (current_intervals before now old old_due was s) ∙ sym (ap (λ rows. interval_in rows s) kept)))
