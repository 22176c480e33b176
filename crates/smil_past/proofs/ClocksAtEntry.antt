-- What clocks show up to the moment of an entry, with the entry and without it.
use Rattle.std.proofs.Common.{◌≡◌, refl, ◌∙◌, ap, subst, ℕ, suc, zero, ◌+◌, List, [], ◌∷◌, ◌++◌, ℤ, true, Option, Some, None, arith}
use Rattle.std.specs.Prelude.{cond, pos, negsuc, int_le, ◌+ℤ◌, ◌-ℤ◌, fold, drop}
use Rattle.std.proofs.lemmas.Int.{ints}
use Rattle.std.proofs.lemmas.List.Sums.{fold_push}
use Rattle.smil_model.specs.declared.diary.Entry.{Entry}
use Rattle.smil_model.specs.declared.document.Node.{Node}
use Rattle.smil_model.specs.document.Document.{time_parent}
use Rattle.smil_model.specs.diary.Diary.{History, last_moment, with_entry}
use Rattle.smil_model.specs.diary.Lawful.{IsLawful}
use Rattle.smil_model.specs.diary.Clocks.{until, stands_by, elapsed, run, outer_under, outer, to_document, start_of}
use Rattle.smil_model.proofs.NumberOrders.{le_self}
use Rattle.smil_stretch.proofs.ClockAtMoment.{EachUntil, timed_of, IsTimed, until_before}

module _ (h : History) (y : Entry) (s : ℕ) where
  elapsed_with : (m : ℕ) → int_le (pos m) y.moment ≡ true → elapsed (with_entry h y) s m ≡ elapsed h s m
  elapsed_with zero le = refl
  elapsed_with (suc m) le =
      ap (λ ds. elapsed (with_entry h y) s m + cond (stands_by h.nodes ds s) 0 1) (until_before h y s (pos m) (grind (arith, ints, le)))
      ∙ ap (λ n. n + cond (stands_by h.nodes (until (pos m) h.diary) s) 0 1) (elapsed_with m (grind (arith, ints, le)))

  pub run_with : (m : ℤ) → int_le m y.moment ≡ true → run (with_entry h y) s m ≡ run h s m
  run_with (pos m) le = ap pos (elapsed_with m le)
  run_with (negsuc m) le = refl

module _ (h : History) (y : Entry) (s : ℕ) where
  pub outer_with : (m : ℤ) → int_le m y.moment ≡ true → outer (with_entry h y) s m ≡ outer h s m
  outer_with m le = under (time_parent h.nodes s)
    where
      under : (o : Option Node) → outer_under (with_entry h y) o m ≡ outer_under h o m
      under None = refl
      under (Some p) = run_with h y p.serial m le

  pub document_with : (v m : ℤ) → int_le m y.moment ≡ true → to_document (with_entry h y) s v m ≡ to_document h s v m
  document_with v m le = ap (λ o. m +ℤ (v -ℤ o)) (outer_with m le)

  pub start_with : (m b : ℤ) → int_le m y.moment ≡ true → start_of (with_entry h y) s m b ≡ start_of h s m b
  start_with m b le =
      ap (λ r. r +ℤ (b -ℤ outer (with_entry h y) s m)) (run_with h y s m le)
      ∙ ap (λ o. run h s m +ℤ (b -ℤ o)) (outer_with m le)

-- ---- the entries before one

each_front : (m : ℤ) (xs ys : List Entry) → EachUntil m (xs ++ ys) → EachUntil m xs
each_front m [] ys each = tt
each_front m (x ∷ xs) ys each = (each.0, each_front m xs ys each.1)

-- no entry is later than the next one
pub each_until : (h : History) (y : Entry) → IsLawful (with_entry h y) → EachUntil y.moment h.diary
each_until h y lawful =
    let times : IsTimed (pos 0) (h.diary ++ y ∷ []) = timed_of (with_entry h y) lawful in
    let last : last_moment (h.diary ++ y ∷ []) ≡ y.moment = fold_push (λ before (x : Entry). x.moment) (pos 0) h.diary y in
    each_front y.moment h.diary (y ∷ []) (subst (λ m. EachUntil m (h.diary ++ y ∷ [])) last times.each)

pub each_drop : (m : ℤ) (k : ℕ) (xs : List Entry) → EachUntil m xs → EachUntil m (drop k xs)
each_drop m zero xs each = each
each_drop m (suc k) [] each = tt
each_drop m (suc k) (x ∷ xs) each = each_drop m k xs each.1

-- folds over entries that are not later than a moment, by steps that agree on such entries
pub fold_until : {B : Type 0} (f g : B → Entry → B) (m : ℤ) → ((b : B) (x : Entry) → int_le x.moment m ≡ true → f b x ≡ g b x) → (b : B) (ds : List Entry) → EachUntil m ds → fold f b ds ≡ fold g b ds
fold_until f g m same b [] each = refl
fold_until f g m same b (x ∷ xs) each = ap (λ c. fold f c xs) (same b x each.0) ∙ fold_until f g m same (g b x) xs each.1

-- one entry more, where the steps agree up to it
pub fold_with : {B : Type 0} (f g : B → Entry → B) (h : History) (y : Entry) → IsLawful (with_entry h y) → ((b : B) (x : Entry) → int_le x.moment y.moment ≡ true → f b x ≡ g b x) → (b : B) → fold f b (h.diary ++ y ∷ []) ≡ g (fold g b h.diary) y
fold_with f g h y lawful same b =
    fold_push f b h.diary y ∙ ap (λ c. f c y) (fold_until f g y.moment same b h.diary (each_until h y lawful))
    ∙ same (fold g b h.diary) y (le_self y.moment)
