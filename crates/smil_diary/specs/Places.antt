-- Places in a diary, compared.
use Rattle.std.specs.Prelude.{ℕ, Bool, true, false, ◌||◌, max, nat_lt, nat_le, Option, Some, None}
use Rattle.smil_model.specs.declared.diary.Step.{Step}
use Rattle.smil_model.specs.declared.diary.StepKind.TheVariants as kind
use Rattle.smil_model.specs.diary.Diary.{is_step}
use Rattle.smil_model.specs.shown.Views.{is_finish}

-- there is a first place, and no second one at it or after it
abbrev pub is_later : Option ℕ → Option ℕ → Bool
is_later None second = false
is_later (Some a) None = true
is_later (Some a) (Some b) = nat_lt b a

-- the later of two places
abbrev pub later_of : Option ℕ → Option ℕ → Option ℕ
later_of None b = b
later_of (Some a) None = Some a
later_of (Some a) (Some b) = Some (max a b)

-- there is a place, and it is not before `from`
abbrev pub is_from : ℕ → Option ℕ → Bool
is_from from None = false
is_from from (Some a) = nat_le from a

-- a step by which the element is no longer deferred
abbrev pub is_decision : ℕ → Step → Bool
is_decision who step =
    (is_step kind.Began who step || is_step kind.Passed who step) || is_finish who step
