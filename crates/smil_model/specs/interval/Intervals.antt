-- SMIL's search for the first and the next interval of an element, and the end of an interval.
use Rattle.std.specs.Prelude.{ℤ, pos, ◌+ℤ◌, int_lt, List, [], ◌∷◌, filter, Bool, true, false, not, ◌&&◌, ◌||◌, if◌then◌else◌, Option, Some, None, is_some, option_map}
use Rattle.smil_model.specs.declared.times.Time.{Time}
use Rattle.smil_model.specs.declared.times.Time.TheVariants.{At, Unresolved}
use Rattle.smil_model.specs.declared.interval.Interval.{Interval}
use Rattle.smil_model.specs.declared.interval.Play.{Play}
use Rattle.smil_model.specs.declared.interval.Facts.{Facts}
use Rattle.smil_model.specs.declared.interval.EndList.{EndList}
use Rattle.smil_model.specs.declared.interval.EndList.TheVariants.{Absent, Hearing}
use Rattle.smil_model.specs.declared.document.Restart.{Restart}
use Rattle.smil_model.specs.declared.document.Restart.TheVariants.{Always, Never}
use Rattle.smil_model.specs.Times.{later_time, time_le, time_eq, least_time, greatest_time, least_of, within_horizon}
use Rattle.smil_model.specs.interval.Durations.{Bounds, active_duration, active_end}

-- what limits the plays of the element
abbrev pub bounds_in : Facts → Bounds
bounds_in facts = record {
  count = facts.count;
  repeat_dur = facts.repeat_dur;
  min = facts.min;
  max = facts.max;
}

-- ---- the end of an interval

-- whether the last finished interval ended at this time
abbrev pub ended_at : Option Interval → Time → Bool
ended_at None t = false
ended_at (Some i) t = time_eq i.«end» t

-- an end instance counts where it is not before the begin;
-- one equal to the begin does not count where the last finished interval ended there
abbrev pub counts_from : Option Interval → ℤ → Time → Bool
counts_from last b t = time_le (At b) t && not (time_eq t (At b) && ended_at last t)

abbrev pub has_any : List Time → Bool
has_any [] = false
has_any (t ∷ ts) = true

abbrev pub is_hearing : EndList → Bool
is_hearing Hearing = true
is_hearing _ = false

-- the limit that the end list sets: the least end instance that counts,
-- or the begin plus `min` if that is greater. Where none counts there is no limit,
-- which unresolved stands for, if the element is active, the list has an event,
-- repeat or access key item, or the list gives no instance at all;
-- otherwise no interval begins there
abbrev pub limit_of : Facts → ℤ → List Time → List Time → Option Time
limit_of facts b ends [] =
    if is_some facts.play || is_hearing facts.end_list || not (has_any ends) then Some Unresolved
    else None
limit_of facts b ends (t ∷ ts) =
    Some (greatest_time (least_of (t ∷ ts)) (within_horizon (b +ℤ facts.min)))

abbrev pub end_limit_by : EndList → Facts → List Time → ℤ → Option Time
end_limit_by Absent facts ends b = Some Unresolved
end_limit_by _ facts ends b = limit_of facts b ends (filter (counts_from facts.last b) ends)

abbrev pub end_limit : Facts → List Time → ℤ → Option Time
end_limit facts ends b = end_limit_by facts.end_list facts ends b

-- the least begin instance after b
abbrev pub first_after : ℤ → List ℤ → Time
first_after b [] = Unresolved
first_after b (x ∷ xs) = if int_lt b x then At x else first_after b xs

-- the next begin, which ends an interval where the element may always restart
abbrev pub next_begin : Restart → List ℤ → ℤ → Time
next_begin Always begins b = first_after b begins
next_begin _ begins b = Unresolved

-- the active end of a play, on the time parent's clock; unresolved while the element is paused
abbrev pub play_end : Facts → Option ℤ → Play → Time
play_end facts None play = Unresolved
play_end facts (Some shift) play =
    later_time
    (active_end (bounds_in facts) facts.simple play.first play.start play.iteration) shift

-- the end by the duration: of an element that is not active, the begin plus the active duration
abbrev pub duration_end : Facts → Option Play → ℤ → Time
duration_end facts None b = later_time (active_duration (bounds_in facts) facts.simple) b
duration_end facts (Some play) b = play_end facts play.shift play

-- the end of an interval that begins at b: the least of the end by the duration,
-- the end limit and the next begin;
-- nothing where no interval begins there
abbrev pub interval_end : Facts → List ℤ → List Time → ℤ → Option Time
interval_end facts begins ends b =
    option_map
    (λ limit. least_time (duration_end facts facts.play b)
    (least_time limit (next_begin facts.restart begins b)))
    (end_limit facts ends b)

-- ---- the search, over begin instances in rising order

-- the search goes on from the end of an interval, and strictly after it where the length was 0
abbrev pub after_end : ℤ → Time → Time
after_end b (At e) = if time_eq (At b) (At e) then At (e +ℤ pos 1) else At e
after_end b t = t

-- whether a begin stands where the search is: at its outset every begin does
abbrev pub is_from : Option Time → ℤ → Bool
is_from None b = true
is_from (Some from) b = time_le from (At b)

-- a first interval is accepted where its end is after the parent's play start,
-- or where begin and end both equal it
abbrev pub is_accepted : ℤ → ℤ → Time → Bool
is_accepted start b end' =
    not (time_le end' (At start)) || (time_eq end' (At start) && time_eq end' (At b))

-- what comes of a begin instance: the search goes on, or it is over.
-- The rest of the search stands in a function of its own, `unless_over`,
-- so that it is computed only where it goes on
pub data Attempt : Type 0 where
  goes_on : Option Time → Attempt
  is_over : Option Interval → Attempt

abbrev pub judged : Facts → ℤ → Option Time → Attempt
judged facts b None = is_over None
judged facts b (Some end') =
    if is_accepted facts.parent_start b end'
    then is_over (Some (record { begin = b; «end» = end' }))
    else goes_on (Some (after_end b end'))

abbrev pub attempt : Facts → (ℤ → Option Time) → Option Time → ℤ → Attempt
attempt facts end_of from b = if is_from from b then judged facts b (end_of b) else goes_on from

abbrev pub unless_over : Attempt → (Option Time → Option Interval) → Option Interval
unless_over (goes_on from) rest = rest from
unless_over (is_over found) rest = found

-- the first interval: the least begin is taken, and after one that is not accepted the least begin
-- from its end on
abbrev pub first_from : Facts → (ℤ → Option Time) → Option Time → List ℤ → Option Interval
first_from facts end_of from [] = None
first_from facts end_of from (b ∷ bs) =
    unless_over (attempt facts end_of from b) (λ later. first_from facts end_of later bs)

-- the next interval: that of the least begin from the last end on
abbrev pub next_from : (ℤ → Option Time) → Time → List ℤ → Option Interval
next_from end_of from [] = None
next_from end_of from (b ∷ bs) =
    if time_le from (At b)
    then option_map (λ end'. record { begin = b; «end» = end' }) (end_of b)
    else next_from end_of from bs

-- a begin counts where it is after each one that an excl let pass
abbrev pub counts_after : Option ℤ → ℤ → Bool
counts_after None b = true
counts_after (Some p) b = int_lt p b

abbrev pub may_restart : Restart → Bool
may_restart Never = false
may_restart _ = true

-- the first interval where none has finished since birth, and else the next one;
-- with restart `never` there is no next one
abbrev pub coming_interval : Facts → List ℤ → List Time → Option Interval → Option Interval
coming_interval facts begins ends None =
    first_from facts (interval_end facts begins ends) None
    (filter (counts_after facts.passed) begins)
coming_interval facts begins ends (Some last) =
    if may_restart facts.restart
    then next_from (interval_end facts begins ends) (after_end last.begin last.«end»)
    (filter (counts_after facts.passed) begins)
    else None

abbrev pub interval_by : Facts → List ℤ → List Time → Option Play → Option Interval
interval_by facts begins ends (Some play) =
    option_map (λ end'. record { begin = play.begin; «end» = end' })
    (interval_end facts begins ends play.begin)
interval_by facts begins ends None =
    if facts.alive && not facts.deferred then coming_interval facts begins ends facts.last else None

-- the interval of an element: that of its present play where it is active,
-- and the first or next one where it is alive and neither active nor deferred
abbrev pub interval_of : Facts → List ℤ → List Time → Option Interval
interval_of facts begins ends = interval_by facts begins ends facts.play
