-- Time values: a number of milliseconds, then indefinite, then unresolved, in SMIL's order.
use Rattle.std.specs.Prelude.{ℕ, ◌/◌, ℤ, pos, negsuc, neg_ℤ, ◌+ℤ◌, ◌*ℤ◌, ◌≤ℤ◌, int_lt, int_le, Bool, true, false, if◌then◌else◌, List, [], ◌∷◌, fold, ◌&&◌}
use Rattle.smil_model.specs.declared.times.TheConstants.{CARRIED, HORIZON}
use Rattle.smil_model.specs.declared.times.Time.{Time}
use Rattle.smil_model.specs.declared.times.Time.TheVariants.{At, Indefinite, Unresolved}
use Rattle.smil_model.specs.Rising.{poured}

-- a moment from the first to the horizon
pub record IsMoment (moment : ℤ) : Type 0 where
  pub low : pos 0 ≤ℤ moment
  pub high : moment ≤ℤ HORIZON

-- a time not farther from the first moment than the horizon is, before it or after it
pub record IsNear (time : ℤ) : Type 0 where
  pub low : neg_ℤ HORIZON ≤ℤ time
  pub high : time ≤ℤ HORIZON

-- a time on a clock that can be carried to another: from -10^13 to 10^13
pub record IsCarried (time : ℤ) : Type 0 where
  pub low : neg_ℤ CARRIED ≤ℤ time
  pub high : time ≤ℤ CARRIED

-- a sum or a product as a time: indefinite above the horizon, and never below minus the horizon
abbrev pub within_horizon : ℤ → Time
within_horizon x =
    if int_lt HORIZON x then Indefinite
    else (if int_lt x (neg_ℤ HORIZON) then At (neg_ℤ HORIZON) else At x)

-- a time so many milliseconds later; an offset leaves indefinite and unresolved as they are
abbrev pub later_time : Time → ℤ → Time
later_time (At x) by = within_horizon (x +ℤ by)
later_time Indefinite by = Indefinite
later_time Unresolved by = Unresolved

-- numbers stand below indefinite, and indefinite below unresolved
abbrev pub time_le : Time → Time → Bool
time_le (At x) (At y) = int_le x y
time_le (At x) _ = true
time_le Indefinite (At y) = false
time_le Indefinite _ = true
time_le Unresolved Unresolved = true
time_le Unresolved _ = false

-- whether two times are the same
abbrev pub time_eq : Time → Time → Bool
time_eq s t = time_le s t && time_le t s

-- the lesser of two times
abbrev pub least_time : Time → Time → Time
least_time s t = if time_le s t then s else t

-- the greater of two times
abbrev pub greatest_time : Time → Time → Time
greatest_time s t = if time_le s t then t else s

-- the quotient, rounded down
abbrev pub floor_div : ℤ → ℕ → ℤ
floor_div (pos a) n = pos (a / n)
floor_div (negsuc a) n = negsuc (a / n)

-- so many thousandths of a time, rounded down; indefinite and unresolved stay
abbrev pub thousandths_of : ℤ → Time → Time
thousandths_of k (At x) = within_horizon (floor_div (k *ℤ x) 1000)
thousandths_of k Indefinite = Indefinite
thousandths_of k Unresolved = Unresolved

-- the numbers among the times
abbrev pub numbers : List Time → List ℤ
numbers [] = []
numbers (At x ∷ ts) = x ∷ numbers ts
numbers (Indefinite ∷ ts) = numbers ts
numbers (Unresolved ∷ ts) = numbers ts

-- the least of the times; unresolved, which is above all others, where there is none
abbrev pub least_of : List Time → Time
least_of ts = fold least_time Unresolved ts

-- the numbers in rising order, repetitions kept
abbrev pub rising : List ℤ → List ℤ
rising xs = poured int_le xs []

-- the times in rising order, repetitions kept
abbrev pub rising_times : List Time → List Time
rising_times ts = poured time_le ts []
