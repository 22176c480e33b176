-- When an element ends for its container.
use Rattle.std.specs.Prelude.{ℕ, Option}
use Rattle.smil_model.specs.declared.interval.Interval.{Interval}
use Rattle.smil_model.specs.diary.Diary.{History}
use Rattle.smil_model.specs.interval.Current.{first_end_of, latest_end_of}
use Rattle.smil_element.specs.declared.endings.Ending.{Ending}

-- the first and the latest end of an element with this interval: what its container takes of it,
-- but for its name
abbrev pub ending_by : History → Option Interval → ℕ → Ending
ending_by h interval serial =
    record { first = first_end_of h interval serial; latest = latest_end_of h interval serial }
