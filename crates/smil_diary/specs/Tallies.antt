-- The tally of an element: whether it plays, and how many of its intervals finished since birth.
use Rattle.std.specs.Prelude.{ℕ, ◌+◌, Bool, true, false, ◌==◌, if◌then◌else◌, fold, List, Option, Some, None}
use Rattle.smil_model.specs.declared.diary.Entry.{Entry}
use Rattle.smil_model.specs.declared.diary.Step.{Step}
use Rattle.smil_model.specs.declared.diary.Step.TheVariants.{Began, Ended, Cut}
use Rattle.smil_model.specs.diary.Diary.{gives_birth}
use Rattle.smil_diary.specs.declared.tally.Tally.{Tally}

-- whether a step is a birth under this time parent
abbrev pub is_birth : Option ℕ → Step → Bool
is_birth None step = false
is_birth (Some p) step = gives_birth p step

-- the play ends, and is counted where there was one
abbrev pub play_ends : Tally → Tally
play_ends t =
    record { playing = false; finished = if t.playing then t.finished + 1 else t.finished }

-- the tally after a step that is no birth
abbrev pub tally_on : ℕ → Tally → Step → Tally
tally_on who t (Began on begin) =
    if on == who then record { playing = true; finished = t.finished } else t
tally_on who t (Ended on end') = if on == who then play_ends t else t
tally_on who t (Cut on) = if on == who then play_ends t else t
tally_on who t _ = t

-- the tally after a step: a birth forgets what finished
abbrev pub tally_after : Option ℕ → ℕ → Tally → Step → Tally
tally_after parent who t step =
    if is_birth parent step
    then record { playing = t.playing; finished = 0 }
    else tally_on who t step

-- the tally after all entries of a diary
abbrev pub tally_of : Option ℕ → ℕ → List Entry → Tally
tally_of parent who diary =
    fold (λ (t : Tally) (x : Entry). tally_after parent who t x.step)
    (record { playing = false; finished = 0 }) diary
