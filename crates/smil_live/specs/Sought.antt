-- What a backward seek leaves of a diary.
use Rattle.std.specs.Prelude.{◌≡◌, ◌≤◌, ℕ, pos, List, Some}
use Rattle.smil_model.specs.declared.diary.Entry.{Entry}
use Rattle.smil_model.specs.diary.Clocks.{until}
use Rattle.smil_model.specs.happening.Resolution.{diary_of}
use Rattle.smil_model.specs.shown.Orders.{IsState, Presentation, course_of}
use Rattle.smil_live.specs.Moves.{sought_of}

-- the presentation sought has the entries that are not later than the target
abbrev pub SeekBackKeepsDiary : Type 0
SeekBackKeepsDiary =
    (p : Presentation) (to : ℕ) (diary : List Entry) → IsState p → to ≤ p.now
    → diary_of (course_of p) ≡ Some diary
    → diary_of (course_of (sought_of p (pos to))) ≡ Some (until (pos to) diary)
