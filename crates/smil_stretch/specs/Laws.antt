-- Which entries change clocks.
use Rattle.std.specs.Prelude.{◌≡◌, List, Bool, true, false}
use Rattle.smil_model.specs.declared.diary.Entry.{Entry}
use Rattle.smil_model.specs.declared.diary.Step.{Step}
use Rattle.smil_model.specs.declared.diary.Step.TheVariants.{Paused, Resumed, Ended, Cut}
use Rattle.smil_model.specs.diary.Diary.{History, is_paused, with_entry}
use Rattle.smil_model.specs.diary.Lawful.{IsLawful}
use Rattle.smil_stretch.specs.declared.clock.NodeClock.{NodeClock}
use Rattle.smil_stretch.specs.Clocks.{AreClocksOf}

-- a pause does, and a resume, an end or a cut of a paused element
abbrev pub changes_clocks : History → Step → Bool
changes_clocks h (Paused who) = true
changes_clocks h (Resumed who) = is_paused h.diary who
changes_clocks h (Ended who end') = is_paused h.diary who
changes_clocks h (Cut who) = is_paused h.diary who
changes_clocks h _ = false

-- after every other entry the clocks are what they were
abbrev pub OtherEntriesLeaveClocks : Type 0
OtherEntriesLeaveClocks =
    (clocks : List NodeClock) (h : History) (y : Entry) → AreClocksOf clocks h
    → IsLawful (with_entry h y)
    → changes_clocks h y.step ≡ false → AreClocksOf clocks (with_entry h y)
