-- The iteration before a repeat, by what the diary with the repeat says.
use Rattle.std.proofs.Common.{◌≡◌, refl, sym, ◌∙◌, ap, ℕ, suc, ◌≤◌, List, [], ◌∷◌, ◌++◌, ℤ, Option, Some, None, false, length, drop, arith}
use Rattle.std.specs.Prelude.{cond, ◌==◌, max, option_map, unwrap_or}
use Rattle.std.specs.Option.{option_map_or}
use Rattle.std.proofs.lemmas.Bool.{eq-eqb}
use Rattle.std.proofs.lemmas.List.{drop-append-le, drop_all}
use Rattle.std.proofs.lemmas.List.Sums.{fold_push}
use Rattle.smil_model.specs.declared.diary.Entry.{Entry}
use Rattle.smil_model.specs.declared.diary.Step.TheVariants.{Repeated}
use Rattle.smil_model.specs.declared.document.Node.{Node}
use Rattle.smil_model.specs.document.Document.{Document, time_parent}
use Rattle.smil_model.specs.document.Valid.{IsNumberedTree}
use Rattle.smil_model.specs.diary.Diary.{History, last_place, gives_birth, birth_under, since_birth, iteration_after, iteration_from, iteration, with_entry}
use Rattle.smil_laws.proofs.LineageParents.{swap_eqb}
use Rattle.smil_laws.proofs.DescendantOrder.{below_none, parent_apart}
use Rattle.smil_laws.proofs.NumberedTrees.{ordered}
use Rattle.smil_laws.proofs.ForeignEntries.{last_place-push, last_place-below}

module _ (x : ℕ) (moment start : ℤ) (ds : List Entry) where
  abbrev y : Entry
  y = record { moment = moment; step = Repeated x start }

  pushed : (ws : List Entry) → iteration_from x (ws ++ y ∷ []) ≡ option_map suc (iteration_from x ws)
  pushed ws =
      fold_push (λ before (z : Entry). iteration_after x before z.step) None ws y
      ∙ ap (λ t. cond t (option_map suc (iteration_from x ws)) (iteration_from x ws)) (eq-eqb x x refl)

  none_since : (zs : List Entry) → iteration_from x (drop (length zs) zs) ≡ None
  none_since zs = ap (iteration_from x) (drop_all (length zs) zs (omega arith))

  -- since a birth at a place, or at the end where there is none
  since_place : (o : Option ℕ) → ((k : ℕ) → o ≡ Some k → suc k ≤ length ds) → iteration_from x (drop (option_map_or suc o (length (ds ++ y ∷ []))) (ds ++ y ∷ [])) ≡ option_map suc (iteration_from x (drop (option_map_or suc o (length ds)) ds))
  since_place (Some k) below = ap (iteration_from x) (drop-append-le (suc k) ds (y ∷ []) (below k refl)) ∙ pushed (drop (suc k) ds)
  since_place None below = none_since (ds ++ y ∷ []) ∙ sym (ap (option_map suc) (none_since ds))

  since_under : (o : Option Node) → ((p : Node) → o ≡ Some p → p.serial == x ≡ false) → iteration_from x (drop (birth_under o (ds ++ y ∷ [])) (ds ++ y ∷ [])) ≡ option_map suc (iteration_from x (drop (birth_under o ds) ds))
  since_under None far = pushed ds
  since_under (Some p) far =
      ap (λ o. iteration_from x (drop (option_map_or suc o (length (ds ++ y ∷ []))) (ds ++ y ∷ []))) (last_place-push (λ (z : Entry). gives_birth p.serial z.step) ds y (swap_eqb p.serial x (far p refl)))
      ∙ since_place (last_place (λ (z : Entry). gives_birth p.serial z.step) ds) (last_place-below (λ (z : Entry). gives_birth p.serial z.step) ds)

-- a repeat is counted where there is a begin since birth, and one without is no later iteration than the first
counted : (o : Option ℕ) → max (unwrap_or (option_map suc o) 0) 1 ≡ suc (unwrap_or o 0)
counted None = refl
counted (Some k) = omega arith

pub repeated : (d : Document) (h : History) (x : ℕ) (moment start : ℤ) → IsNumberedTree d → h.nodes ≡ d.nodes → max (iteration (with_entry h (record { moment = moment; step = Repeated x start })) x) 1 ≡ suc (iteration h x)
repeated d h x moment start numbered same =
    ap (λ o. max (unwrap_or o 0) 1) (since_under x moment start h.diary (time_parent h.nodes x) apart)
    ∙ counted (iteration_from x (since_birth h x))
  where
    apart : (p : Node) → time_parent h.nodes x ≡ Some p → p.serial == x ≡ false
    apart p q = (parent_apart d.nodes (ordered d numbered) x x p (below_none d.nodes (ordered d numbered) x) (ap (λ ns. time_parent ns x) (sym same) ∙ q)).0
