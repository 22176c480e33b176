-- Whether two entries are the same, and how far two diaries agree.
use Rattle.std.specs.Prelude.{ℕ, zero, suc, int_le, ℤ, Bool, false, ◌&&◌, List, ◌∷◌, ◌==◌, if◌then◌else◌}
use Rattle.smil_model.specs.declared.diary.Entry.{Entry}
use Rattle.smil_model.specs.declared.diary.Step.{Step}
use Rattle.smil_model.specs.declared.diary.Step.TheVariants.{Began, Repeated, Ended, Cut, Paused, Resumed, Deferred, Passed, Logged}

abbrev pub is_same_value : ℤ → ℤ → Bool
is_same_value v w = int_le v w && int_le w v

-- the same kind of step, on the same element, with the same value
abbrev pub is_same_step : Step → Step → Bool
is_same_step (Began s v) (Began t w) = (s == t) && is_same_value v w
is_same_step (Repeated s v) (Repeated t w) = (s == t) && is_same_value v w
is_same_step (Ended s v) (Ended t w) = (s == t) && is_same_value v w
is_same_step (Cut s) (Cut t) = s == t
is_same_step (Paused s) (Paused t) = s == t
is_same_step (Resumed s) (Resumed t) = s == t
is_same_step (Deferred s v) (Deferred t w) = (s == t) && is_same_value v w
is_same_step (Passed s v) (Passed t w) = (s == t) && is_same_value v w
is_same_step (Logged s) (Logged t) = s == t
is_same_step _ _ = false

abbrev pub is_same_entry : Entry → Entry → Bool
is_same_entry x y = is_same_value x.moment y.moment && is_same_step x.step y.step

-- how many entries at the front of two diaries are the same
abbrev pub agreed : List Entry → List Entry → ℕ
agreed (x ∷ xs) (y ∷ ys) = if is_same_entry x y then suc (agreed xs ys) else zero
agreed _ _ = zero
