-- What is evaluated of one element.
use Rattle.std.specs.Prelude.{◌≡◌, ℕ, ℤ, pos, ◌-ℤ◌, List, [], ◌∷◌, Bool, not, ◌&&◌, if◌then◌else◌, Option, Some, None}
use Rattle.smil_model.specs.declared.times.Time.{Time}
use Rattle.smil_model.specs.declared.times.Time.TheVariants.{At}
use Rattle.smil_model.specs.declared.interval.Interval.{Interval}
use Rattle.smil_model.specs.declared.interval.Play.{Play}
use Rattle.smil_model.specs.declared.document.Node.{Node}
use Rattle.smil_model.specs.Times.{time_le}
use Rattle.smil_model.specs.diary.Diary.{History, is_active, is_paused}
use Rattle.smil_model.specs.diary.Clocks.{run, outer, outer_stands}
use Rattle.smil_model.specs.interval.Durations.{Bounds, intermediate_end}
use Rattle.smil_model.specs.interval.Current.{interval_given, simple_of}
use Rattle.smil_model.specs.happening.Keys as model
use Rattle.smil_model.specs.happening.Keys.{coming_begin, coming_by, coming_end}
use Rattle.smil_past.specs.declared.plays.facts.PastInterval.{PastInterval}
use Rattle.smil_element.specs.declared.happening.change.DueChange.{DueChange}
use Rattle.smil_element.specs.Parts.{coming_meant}
use Rattle.smil_element.specs.declared.evaluation.Evaluation.{Evaluation}
use Rattle.smil_element.specs.declared.outcome.Outcome.{Outcome}

-- the interval and the simple duration of an element, given the intervals of the others
pub record IsEvaluated (h : History) (intervals : ℕ → Option Interval) (now : ℤ) (e : Node)
    (made : Evaluation) : Type 0 where
  pub interval : made.interval ≡ interval_given h intervals now e
  pub simple : made.simple ≡ simple_of h intervals e

-- a finished interval, as the search for the next one sees it
abbrev pub interval_in : PastInterval → Interval
interval_in last = record { begin = last.begin; «end» = At last.finish }

-- how far the time parent's clock is ahead of the element's own; none while the element is paused
abbrev pub shift_of : History → ℕ → ℤ → Option ℤ
shift_of h serial now =
    if is_paused h.diary serial then None else Some (outer h serial now -ℤ run h serial now)

-- whether another iteration of a play follows the one that is over at this time on the element's
-- own clock
abbrev pub goes_on : Bounds → Time → Play → ℤ → Bool
goes_on bounds simple play over =
    not (time_le simple (At (pos 0)))
    && not (time_le (intermediate_end bounds simple play.first play.start play.iteration) (At over))

-- the begin or the end that comes of an element by its own interval
abbrev pub moved_by : History → Option Interval → ℤ → ℕ → Node → List model.DueChange
moved_by h interval now place e =
    if is_active h.diary e.serial
    then (if outer_stands h e.serial then [] else coming_end h now place e interval)
    else (if outer_stands h e.serial then [] else coming_begin h now place e interval)

-- at most one begin or end, and at most one repeat
abbrev pub and_coming : Option DueChange → List model.DueChange → List model.DueChange
and_coming None cs = cs
and_coming (Some c) cs = coming_meant c ∷ cs

abbrev pub both : Option DueChange → Option DueChange → List model.DueChange
both first second = and_coming first (and_coming second [])

-- the interval of the element at a place, and what comes of it, given the intervals of the others
pub record IsOutcome (h : History) (intervals : ℕ → Option Interval) (now : ℤ) (place : ℕ)
    (e : Node) (made : Outcome) : Type 0 where
  pub interval : made.interval ≡ interval_given h intervals now e
  pub comings : both made.comings.moved made.comings.repeat
      ≡ coming_by h made.interval (simple_of h intervals e) now place e
