-- The last entry of a diary.
use Rattle.std.proofs.Common.{◌≡◌, refl, ◌-◌, ap, ℕ, zero, suc, ◌≤◌, List, [], ◌∷◌, None, Some, ℤ, arith, length}
use Rattle.std.specs.Prelude.{fold, pos, slice_get}
use Rattle.smil_model.specs.declared.diary.Entry.{Entry}
use Rattle.smil_model.specs.diary.Diary.{last_moment}

pub no_gap : {A : Type 0} (xs : List A) (k : ℕ) → None ≡ slice_get xs k → length xs ≤ k
no_gap [] k e = omega arith
no_gap (x ∷ xs) zero e = cc
no_gap (x ∷ xs) (suc k) e = let l = no_gap xs k e in omega (arith, l)

pub last_at : (from : ℤ) (diary : List Entry) (n : ℕ) (x : Entry) → Some x ≡ slice_get diary n → length diary ≡ suc n → x.moment ≡ fold (λ before (y : Entry). y.moment) from diary
last_at from [] n x at l = cc
last_at from (y ∷ []) zero x at l = let one : x ≡ y = cc in ap (λ (z : Entry). z.moment) one
last_at from (y ∷ (z ∷ zs)) zero x at l = absurd (omega (arith, l))
last_at from (y ∷ ys) (suc n) x at l = last_at y.moment ys n x at (omega (arith, l))

pub none_last : (diary : List Entry) → None ≡ slice_get diary (length diary - 1) → pos 0 ≡ last_moment diary
none_last [] e = refl
none_last (x ∷ xs) e = let gap = no_gap (x ∷ xs) (length (x ∷ xs) - 1) e in absurd (omega (arith, gap))
