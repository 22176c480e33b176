-- Levels of which the last two are put.
use Rattle.std.proofs.Common.{◌≡◌, ℕ, zero, suc, ◌<◌, List, [], ◌∷◌, ◌++◌, length, take, refl, ap, arith}
use Rattle.std.proofs.Math.ListN.{set}
use Rattle.smil_switch.specs.declared.chosen.Below.{Below}

pub put_behind : (d : ℕ) (levels : List Below) (others under : Below) → length levels ≡ suc d → set (levels ++ under ∷ []) d others ≡ take d levels ++ others ∷ under ∷ []
put_behind d [] others under e = absurd (omega arith)
put_behind zero (x ∷ []) others under e = refl
put_behind zero (x ∷ y ∷ levels) others under e = absurd (omega arith)
put_behind (suc d) (x ∷ levels) others under e = ap (λ (l : List Below). x ∷ l) (put_behind d levels others under (omega arith))

pub put_among : (d : ℕ) (levels : List Below) (others under : Below) → suc d < length levels → set (set (take (suc (suc d)) levels) (suc d) under) d others ≡ take d levels ++ others ∷ under ∷ []
put_among d [] others under h = absurd (omega arith)
put_among d (x ∷ []) others under h = absurd (omega arith)
put_among zero (x ∷ y ∷ levels) others under h = refl
put_among (suc d) (x ∷ y ∷ levels) others under h = ap (λ (l : List Below). x ∷ l) (put_among d (y ∷ levels) others under (omega arith))
