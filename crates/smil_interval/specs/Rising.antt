-- Instance times in rising order.
use Rattle.std.specs.Prelude.{ℕ, ℤ, int_le, List, Bool, not, ◌&&◌, Option}
use Rattle.smil_model.specs.declared.times.Time.{Time}
use Rattle.smil_model.specs.declared.times.Time.TheVariants.{At}
use Rattle.smil_model.specs.declared.interval.Interval.{Interval}
use Rattle.smil_model.specs.declared.document.Node.{Node}
use Rattle.smil_model.specs.Times.{time_eq, time_le}
use Rattle.smil_model.specs.Rising.{IsRising as IsRisingBy}
use Rattle.smil_model.specs.diary.Diary.{History}
use Rattle.smil_model.specs.interval.Instances.{begin_times, end_times}

abbrev pub IsRising : List ℤ → Type 0
IsRising xs = IsRisingBy int_le xs

abbrev pub IsRisingTimes : List Time → Type 0
IsRisingTimes ts = IsRisingBy time_le ts

-- the begin instance times of an element rise
abbrev pub BeginTimesRise : Type 0
BeginTimesRise =
    (h : History) (intervals : ℕ → Option Interval) (now : ℤ) (e : Node)
    → IsRising (begin_times h intervals now e)

-- the end instance times of an element rise
abbrev pub EndTimesRise : Type 0
EndTimesRise =
    (h : History) (intervals : ℕ → Option Interval) (now : ℤ) (e : Node)
    → IsRisingTimes (end_times h intervals now e)

-- an end instance counts where it is not before the begin, nor equal to it where an interval ended
-- there
abbrev pub counts_by : ℤ → Bool → Time → Bool
counts_by b ended t = time_le (At b) t && not (time_eq t (At b) && ended)
