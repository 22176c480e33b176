-- Where no ancestor of an element was paused, the clock of its time parent shows the moment.
use Rattle.std.proofs.Common.{◌≡◌, refl, sym, ◌∙◌, ap, ℕ, suc, zero, ◌+◌, List, [], ◌∷◌, Option, Some, None, ℤ, Bool, true, false, add-one}
use Rattle.std.specs.Prelude.{pos, negsuc, cond, ◌==◌, ◌||◌, ◌&&◌, drop, find, fold, reverse, int_le}
use Rattle.std.specs.List.{list_any}
use Rattle.std.proofs.lemmas.Bool.{or_parts, or_from, and_right}
use Rattle.smil_model.specs.declared.diary.Entry.{Entry}
use Rattle.smil_model.specs.declared.diary.Step.{Step}
use Rattle.smil_model.specs.declared.diary.Step.TheVariants.{Began, Paused, Resumed}
use Rattle.smil_model.specs.declared.diary.StepKind.TheVariants as kind
use Rattle.smil_model.specs.declared.document.Node.{Node}
use Rattle.smil_model.specs.document.Document.{is_element, upwards, lineage, ancestors, time_parent}
use Rattle.smil_model.specs.diary.Diary.{History, paused_after, is_active, is_paused, is_step}
use Rattle.smil_model.specs.diary.Clocks.{until, elapsed, run, outer_under, outer}
use Rattle.smil_laws.specs.Locality.{ParentsBefore}
use Rattle.smil_laws.proofs.LineageParents.{upwards-rest, upwards-head}
use Rattle.smil_wall_laws.specs.References.{was_paused, was_paused_above}

cond_same : (t : Bool) → cond t false false ≡ false
cond_same true = refl
cond_same false = refl

-- ---- what was never paused is at no time paused

still : (s : ℕ) (step : Step) → is_step kind.Paused s step ≡ false → paused_after s false step ≡ false
still s (Began who begin) q = cond_same (who == s)
still s (Paused who) q = ap (λ t. t || false) q
still s (Resumed who) q = cond_same (who == s)
still s _ q = refl

all_still : (m : ℤ) (s : ℕ) (ds : List Entry) → was_paused ds s ≡ false → fold (λ before (x : Entry). paused_after s before x.step) false (until m ds) ≡ false
all_still m s [] q = refl
all_still m s (x ∷ xs) q = by_moment (int_le x.moment m) (all_still m s xs parts.1)
  where
    parts : (is_step kind.Paused s x.step ≡ false) × (was_paused xs s ≡ false)
    parts = or_parts (is_step kind.Paused s x.step) (was_paused xs s) q

    by_moment : (t : Bool) → fold (λ before (y : Entry). paused_after s before y.step) false (until m xs) ≡ false → fold (λ before (y : Entry). paused_after s before y.step) false (cond t (x ∷ until m xs) (until m xs)) ≡ false
    by_moment true r = ap (λ b. fold (λ before (y : Entry). paused_after s before y.step) b (until m xs)) (still s x.step parts.0) ∙ r
    by_moment false r = r

never_paused : (m : ℤ) (s : ℕ) (ds : List Entry) → was_paused ds s ≡ false → is_paused (until m ds) s ≡ false
never_paused m s ds q = and_right (is_active (until m ds) s) _ (all_still m s ds q)

none_stands : (m : ℤ) (ds : List Entry) (c : List Node) → list_any (λ (a : Node). was_paused ds a.serial) c ≡ false → list_any (λ (n : Node). is_element n && is_paused (until m ds) n.serial) c ≡ false
none_stands m ds [] q = refl
none_stands m ds (n ∷ ns) q =
    let parts = or_parts (was_paused ds n.serial) (list_any (λ (a : Node). was_paused ds a.serial) ns) q in
    or_from _ _ (and_right (is_element n) _ (never_paused m n.serial ds parts.0)) (none_stands m ds ns parts.1)

-- ---- the lineage of a time parent is a part of that of the child

module _ (nodes : List Node) (first : ParentsBefore (reverse nodes)) (test : Node → Bool) where
  in_chain : (c : List Node) (q : ℕ) (p : Node) → upwards (reverse nodes) q ≡ c → list_any test c ≡ false → find is_element c ≡ Some p → list_any test (lineage nodes p.serial) ≡ false
  in_chain [] q p e free found = cc
  in_chain (m ∷ rest) q p e free found = by_kind (is_element m) found (in_chain rest m.parent p (upwards-rest (reverse nodes) q m rest first e) ((or_parts (test m) (list_any test rest) free).1))
    where
      by_kind : (t : Bool) → cond t (Some m) (find is_element rest) ≡ Some p → (find is_element rest ≡ Some p → list_any test (lineage nodes p.serial) ≡ false) → list_any test (lineage nodes p.serial) ≡ false
      by_kind true f later =
          let one : m ≡ p = cc in
          ap (λ s. list_any test (upwards (reverse nodes) s)) (ap (λ (n : Node). n.serial) (sym one) ∙ upwards-head (reverse nodes) q m rest e) ∙ ap (list_any test) e ∙ free
      by_kind false f later = later f

  under_parent : (s : ℕ) (p : Node) → list_any test (ancestors nodes s) ≡ false → time_parent nodes s ≡ Some p → list_any test (lineage nodes p.serial) ≡ false
  under_parent s p free found = by_chain (lineage nodes s) refl
    where
      by_chain : (c : List Node) → lineage nodes s ≡ c → list_any test (lineage nodes p.serial) ≡ false
      by_chain [] q = let none : None ≡ Some p = sym (ap (λ c. find is_element (drop 1 c)) q) ∙ found in cc
      by_chain (m ∷ rest) q =
          in_chain rest m.parent p (upwards-rest (reverse nodes) s m rest first q) (sym (ap (λ c. list_any test (drop 1 c)) q) ∙ free)
          (sym (ap (λ c. find is_element (drop 1 c)) q) ∙ found)

-- ---- clocks

module _ (h : History) (first : ParentsBefore (reverse h.nodes)) where
  elapsed_all : (s : ℕ) → list_any (λ (a : Node). was_paused h.diary a.serial) (lineage h.nodes s) ≡ false → (m : ℕ) → elapsed h s m ≡ m
  elapsed_all s free zero = refl
  elapsed_all s free (suc m) =
      ap (λ t. elapsed h s m + cond t 0 1) (none_stands (pos m) h.diary (lineage h.nodes s) free)
      ∙ ap (λ n. n + 1) (elapsed_all s free m) ∙ add-one m

  run_all : (s : ℕ) → list_any (λ (a : Node). was_paused h.diary a.serial) (lineage h.nodes s) ≡ false → (m : ℤ) → run h s m ≡ m
  run_all s free (pos m) = ap pos (elapsed_all s free m)
  run_all s free (negsuc m) = refl

  -- the time parent's clock shows the moment
  pub outer_all : (s : ℕ) → was_paused_above h s ≡ false → (m : ℤ) → outer h s m ≡ m
  outer_all s free m = under (time_parent h.nodes s) refl
    where
      under : (o : Option Node) → time_parent h.nodes s ≡ o → outer_under h o m ≡ m
      under None q = refl
      under (Some p) q = run_all p.serial (under_parent h.nodes first (λ (a : Node). was_paused h.diary a.serial) s p free q) m
