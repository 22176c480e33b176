-- An entry moves no clock at moments up to its own.
use Rattle.std.proofs.Common.{◌≡◌, refl, ◌∙◌, ap, ℕ, suc, zero, ◌+◌, [], ◌∷◌, ◌++◌, Option, Some, None, ℤ, true, false, arith}
use Rattle.std.specs.Prelude.{pos, negsuc, cond, int_le}
use Rattle.std.proofs.lemmas.Int.{ints}
use Rattle.std.proofs.lemmas.List.Elements.{filter-append}
use Rattle.std.proofs.lemmas.List.{append-nil}
use Rattle.smil_model.specs.declared.diary.Entry.{Entry}
use Rattle.smil_model.specs.declared.diary.Step.{Step}
use Rattle.smil_model.specs.declared.diary.Step.TheVariants.{Began, Ended, Cut}
use Rattle.smil_model.specs.declared.document.Node.{Node}
use Rattle.smil_model.specs.declared.document.Edge.{Edge}
use Rattle.smil_model.specs.declared.document.Edge.TheVariants.{Begin, End}
use Rattle.smil_model.specs.document.Document.{time_parent}
use Rattle.smil_model.specs.diary.Diary.{History, with_entry}
use Rattle.smil_model.specs.diary.Clocks.{until, elapsed, stands_by, run, outer_under, outer}
use Rattle.smil_model.specs.interval.Instances.{edge_time}

before_it : (y : ℤ) (m : ℕ) → int_le (pos (suc m)) y ≡ true → int_le y (pos m) ≡ false
before_it y m q = grind (arith, ints)

earlier : (y : ℤ) (m : ℕ) → int_le (pos (suc m)) y ≡ true → int_le (pos m) y ≡ true
earlier y m q = grind (arith, ints)

module _ (h : History) (y : Entry) where
  abbrev next : History
  next = with_entry h y

  held-at : (s m : ℕ) → int_le (pos (suc m)) y.moment ≡ true → stands_by h.nodes (until (pos m) (h.diary ++ y ∷ [])) s ≡ stands_by h.nodes (until (pos m) h.diary) s
  held-at s m q =
      ap (λ ds. stands_by h.nodes ds s)
      (filter-append (λ (z : Entry). int_le z.moment (pos m)) h.diary (y ∷ [])
      ∙ ap (λ t. until (pos m) h.diary ++ cond t (y ∷ []) []) (before_it y.moment m q)
      ∙ append-nil (until (pos m) h.diary))

  elapsed-at : (s m : ℕ) → int_le (pos m) y.moment ≡ true → elapsed next s m ≡ elapsed h s m
  elapsed-at s zero q = refl
  elapsed-at s (suc m) q =
      ap (λ n. n + cond (stands_by h.nodes (until (pos m) (h.diary ++ y ∷ [])) s) 0 1) (elapsed-at s m (earlier y.moment m q))
      ∙ ap (λ t. elapsed h s m + cond t 0 1) (held-at s m q)

  pub own-at : (s : ℕ) (m : ℤ) → int_le m y.moment ≡ true → run next s m ≡ run h s m
  own-at s (pos m) q = ap pos (elapsed-at s m q)
  own-at s (negsuc m) q = refl

  under-at : (o : Option Node) (m : ℤ) → int_le m y.moment ≡ true → outer_under next o m ≡ outer_under h o m
  under-at None m q = refl
  under-at (Some p) m q = own-at p.serial m q

  pub parent-at : (s : ℕ) (m : ℤ) → int_le m y.moment ≡ true → outer next s m ≡ outer h s m
  parent-at s m q = under-at (time_parent h.nodes s) m q

  pub edge-at : (e x : ℕ) (offset m : ℤ) (edge : Edge) (step : Step) → int_le m y.moment ≡ true → edge_time next e x offset m edge step ≡ edge_time h e x offset m edge step
  edge-at e x offset m Begin (Began who begin) q = rw (parent-at e m q, parent-at x m q)
  edge-at e x offset m End (Ended who end') q = rw (parent-at e m q, parent-at x m q)
  edge-at e x offset m End (Cut who) q = rw (parent-at e m q)
  edge-at e x offset m _ _ q = refl
