-- What displaces an element, by the last entries on its siblings.
use Rattle.std.specs.Prelude.{ℕ, List, [], ◌∷◌, Bool, not, ◌&&◌, ◌||◌, ◌==◌, if◌then◌else◌, Option, None}
use Rattle.smil_model.specs.declared.diary.Entry.{Entry}
use Rattle.smil_model.specs.declared.diary.StepKind.TheVariants as kind
use Rattle.smil_model.specs.diary.Diary.{last_step}
use Rattle.smil_model.specs.diary.Plays.{first_of}
use Rattle.smil_diary.specs.Places.{is_from}

-- whether an element began, and whether it began or resumed, after so many entries
abbrev pub began_from : List Entry → ℕ → ℕ → Bool
began_from diary from serial = is_from from (last_step diary kind.Began serial)

abbrev pub is_set_off : List Entry → ℕ → ℕ → Bool
is_set_off diary serial from =
    began_from diary from serial || is_from from (last_step diary kind.Resumed serial)

-- whether a sibling of the element did
abbrev pub may_set_off : List Entry → ℕ → ℕ → ℕ → Bool
may_set_off diary serial from other = not (other == serial) && is_set_off diary other from

-- the one that stands after this serial in the list
abbrev pub following : ℕ → List ℕ → Option ℕ
following serial [] = None
following serial (s ∷ ss) = if s == serial then first_of ss else following serial ss
