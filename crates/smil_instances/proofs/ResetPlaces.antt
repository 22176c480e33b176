-- The place of the last reset only rises.
use Rattle.std.proofs.Common.{◌≡◌, refl, ap, ℕ, suc, ◌≤◌, inl, inr, List, [], ◌∷◌, ◌++◌, length, Option, Some, None, Bool, true, false, arith, length-append}
use Rattle.std.specs.Option.{option_map_or}
use Rattle.std.specs.Prelude.{min, ◌⊎◌}
use Rattle.smil_model.specs.declared.diary.Entry.{Entry}
use Rattle.smil_model.specs.declared.document.Node.{Node}
use Rattle.smil_model.specs.document.Document.{time_parent}
use Rattle.smil_model.specs.diary.Diary.{History, last_place, later_place, with_entry, gives_birth, birth_under, birth}
use Rattle.smil_model.specs.diary.Plays.{is_birth_under}
use Rattle.smil_laws.proofs.ForeignEntries.{last_place-push, last_place-below}

-- one that passes at the end is the last
pub last_place-hit : {A : Type 0} (test : A → Bool) (xs : List A) (y : A) → test y ≡ true → last_place test (xs ++ y ∷ []) ≡ Some (length xs)
last_place-hit test [] y q = ap (λ t. later_place t None) q
last_place-hit test (x ∷ xs) y q = ap (λ o. later_place (test x) o) (last_place-hit test xs y q)

birth_under-rises : (o : Option Node) (ds : List Entry) (y : Entry) → birth_under o ds ≤ birth_under o (ds ++ y ∷ [])
birth_under-rises None ds y = omega arith
birth_under-rises (Some p) ds y = by_test (gives_birth p.serial y.step) refl
  where
    test : Entry → Bool
    test = λ (z : Entry). gives_birth p.serial z.step

    as_some : (o : Option ℕ) → ((k : ℕ) → o ≡ Some k → suc k ≤ length ds) → option_map_or suc o (length ds) ≤ length ds
    as_some None below = omega arith
    as_some (Some k) below = below k refl

    on : (o : Option ℕ) → option_map_or suc o (length ds) ≤ option_map_or suc o (length (ds ++ y ∷ []))
    on None = omega (arith, length-append ds (y ∷ []))
    on (Some k) = omega arith

    by_test : (t : Bool) → gives_birth p.serial y.step ≡ t → birth_under (Some p) ds ≤ birth_under (Some p) (ds ++ y ∷ [])
    by_test true q =
        rw (last_place-hit test ds y q)
        (let most : option_map_or suc (last_place test ds) (length ds) ≤ length ds = as_some (last_place test ds) (last_place-below test ds) in omega (arith, most))
    by_test false q = rw (last_place-push test ds y q) (on (last_place test ds))

pub birth-rises : (h : History) (y : Entry) (s : ℕ) → birth h s ≤ birth (with_entry h y) s
birth-rises h y s = birth_under-rises (time_parent h.nodes s) h.diary y

-- a place that is kept, or that stands at the end of n entries and then of one more
abbrev pub Stays : ℕ → ℕ → ℕ → Type 0
Stays n k' k = ((k' ≡ k) × (k ≤ n)) ⊎ ((k' ≡ suc n) × (k ≡ n))

pub birth-stays : (h : History) (y : Entry) (s : ℕ) → is_birth_under (time_parent h.nodes s) y.step ≡ false → Stays (length h.diary) (birth (with_entry h y) s) (birth h s)
birth-stays h y s other = under (time_parent h.nodes s) other
  where
    by_place : (o : Option ℕ) → ((k : ℕ) → o ≡ Some k → suc k ≤ length h.diary) → Stays (length h.diary) (option_map_or suc o (length (h.diary ++ y ∷ []))) (option_map_or suc o (length h.diary))
    by_place (Some k) below = inl (refl, below k refl)
    by_place None below = inr (omega (arith, length-append h.diary (y ∷ [])), refl)

    under : (o : Option Node) → is_birth_under o y.step ≡ false → Stays (length h.diary) (birth_under o (h.diary ++ y ∷ [])) (birth_under o h.diary)
    under None q = inl (refl, omega arith)
    under (Some p) q =
        rw (last_place-push (λ (z : Entry). gives_birth p.serial z.step) h.diary y q)
        (by_place (last_place (λ (z : Entry). gives_birth p.serial z.step) h.diary) (last_place-below (λ (z : Entry). gives_birth p.serial z.step) h.diary))

pub min-stays : (n a' a b' b : ℕ) → Stays n a' a → Stays n b' b → Stays n (min a' b') (min a b)
min-stays n a' a b' b (inl p) (inl q) = inl (omega arith, omega arith)
min-stays n a' a b' b (inl p) (inr q) = inl (omega arith, omega arith)
min-stays n a' a b' b (inr p) (inl q) = inl (omega arith, omega arith)
min-stays n a' a b' b (inr p) (inr q) = inr (omega arith, omega arith)
