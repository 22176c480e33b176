-- The present moment.
use Rattle.std.proofs.Common.{◌≡◌, refl, ap, ◌≤◌, ℤ, List, [], ◌∷◌, length, Bool, true, false, arith, w64, FitsSigned}
use Rattle.std.proofs.lemmas.Int.{ints}
use Rattle.std.specs.Prelude.{if◌then◌else◌, pos, negsuc, int_le, ◌≤ℤ◌, fold}
use Rattle.smil_model.specs.declared.diary.Entry.{Entry}
use Rattle.smil_model.specs.Times.{IsNear}
use Rattle.smil_model.specs.diary.Diary.{last_moment}
use Rattle.smil_model.specs.diary.Clocks.{until}
use Rattle.smil_model.proofs.NumberOrders.{le_from}
use Rattle.smil_past.specs.Past.{MarkedHistory, IsPresent}
use Rattle.smil_laws.proofs.Lists.{filter_shorter}

-- the last moment of entries of which none is later than a moment
pub last_from : (m from : ℤ) (ds : List Entry) → from ≤ℤ m → until m ds ≡ ds → fold (λ (before : ℤ) (x : Entry). x.moment) from ds ≤ℤ m
last_from m from [] low all = low
last_from m from (x ∷ xs) low all =
    elim (int_le x.moment m) as (λ (t : Bool). int_le x.moment m ≡ t → (if t then x ∷ until m xs else until m xs) ≡ x ∷ xs → fold (λ (before : ℤ) (y : Entry). y.moment) x.moment xs ≤ℤ m) [
      | true ↦ λ up rest. let tail : until m xs ≡ xs = cc in last_from m x.moment xs (le_from x.moment m up) tail
      | false ↦ λ past none. let short = filter_shorter (λ (y : Entry). int_le y.moment m) xs in absurd (omega (arith, short, ap (λ (ys : List Entry). length ys) none))
    ] refl all

-- no entry is later than the present moment
pub last_up_to : (past : MarkedHistory) (now : ℤ) → IsPresent past now → last_moment past.diary ≤ℤ now
last_up_to past now present = last_from now _ past.diary present.from present.past_is

-- a number near the first moment fits
pub near_fits : (z : ℤ) → IsNear z → FitsSigned w64 z
near_fits (pos k) near = record { sfits = omega (arith, ints, near.high) }
near_fits (negsuc k) near = record { sfits = omega (arith, ints, near.low) }

-- a present moment fits
pub present_fits : (past : MarkedHistory) (now : ℤ) → IsPresent past now → FitsSigned w64 now
present_fits past (pos k) present = record { sfits = omega (arith, ints, present.within) }
present_fits past (negsuc k) present = absurd (omega (arith, ints, present.from))
