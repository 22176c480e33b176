-- SMIL's simple, intermediate and active duration of an element,
-- and the implicit duration of a container.
use Rattle.std.specs.Prelude.{ℕ, ◌*◌, ℤ, pos, neg_ℤ, ◌+ℤ◌, ◌-ℤ◌, List, [], ◌∷◌, map, filter_map, if◌then◌else◌, Option, Some, None, unwrap_or, find}
use Rattle.std.specs.List.{reduce}
use Rattle.smil_model.specs.declared.times.Time.{Time}
use Rattle.smil_model.specs.declared.times.Time.TheVariants.{At, Indefinite, Unresolved}
use Rattle.smil_model.specs.declared.document.Attrs.{Attrs}
use Rattle.smil_model.specs.declared.document.Kind.{Kind}
use Rattle.smil_model.specs.declared.document.Kind.TheVariants.{Seq}
use Rattle.smil_model.specs.declared.document.Dur.{Dur}
use Rattle.smil_model.specs.declared.document.Dur.TheVariants as dur
use Rattle.smil_model.specs.declared.document.Count.{Count}
use Rattle.smil_model.specs.declared.document.Count.TheVariants as count
use Rattle.smil_model.specs.declared.document.Endsync.{Endsync}
use Rattle.smil_model.specs.declared.document.Endsync.TheVariants.{Last, First, All, Child}
use Rattle.smil_model.specs.declared.interval.ChildEnd.{ChildEnd}
use Rattle.smil_model.specs.Times.{later_time, time_eq, least_time, greatest_time, least_of, thousandths_of, within_horizon}
use Rattle.smil_model.specs.document.Defaults.{takes_implicit, min_of, max_of}

-- ---- the simple duration

-- what `dur` states
abbrev pub stated_duration : Option Dur → Time
stated_duration (Some (dur.Clock c)) = At c
stated_duration _ = Indefinite

-- the simple duration: what `dur` states, or the implicit duration
abbrev pub simple_duration : Attrs → Time → Time
simple_duration attrs implicit =
    if takes_implicit attrs attrs.dur then implicit else stated_duration attrs.dur

-- ---- the intermediate and the active duration

-- what limits a play beside its simple duration
pub record Bounds : Type 0 where
  pub count : Option Count
  pub repeat_dur : Option Time
  pub min : ℤ
  pub max : Time

abbrev pub bounds_of : Attrs → Bounds
bounds_of attrs = record {
  count = attrs.repeat_count;
  repeat_dur = attrs.repeat_dur;
  min = min_of attrs;
  max = max_of attrs;
}

-- the time of the iterations of a count after so many, rounded down
abbrev pub iterated : Count → ℕ → Time → Time
iterated (count.Thousandths k) done simple = thousandths_of (pos k -ℤ pos (1000 * done)) simple
iterated count.Indefinite done Unresolved = Unresolved
iterated count.Indefinite done _ = Indefinite

-- the least of the repeat count's and the repeat duration's,
-- and the simple duration where neither is given
abbrev pub repeated_duration : Option Count → Option Time → Time → Time
repeated_duration None None simple = simple
repeated_duration (Some c) None simple = iterated c 0 simple
repeated_duration None (Some d) simple = d
repeated_duration (Some c) (Some d) simple = least_time (iterated c 0 simple) d

-- the intermediate duration; a simple duration of 0 isn't repeated
abbrev pub intermediate_duration : Bounds → Time → Time
intermediate_duration bounds simple =
    if time_eq simple (At (pos 0)) then At (pos 0)
    else repeated_duration bounds.count bounds.repeat_dur simple

-- a time no later than `max` after `start`; an indefinite `max` sets no bound
abbrev pub at_most : Time → ℤ → Time → Time
at_most (At x) start t = least_time (within_horizon (start +ℤ x)) t
at_most Indefinite start t = t
at_most Unresolved start t = t

-- a time between `min` and `max` after `start`
abbrev pub within_bounds : Bounds → ℤ → Time → Time
within_bounds bounds start t =
    at_most bounds.max start (greatest_time (within_horizon (start +ℤ bounds.min)) t)

-- the active duration
abbrev pub active_duration : Bounds → Time → Time
active_duration bounds simple = within_bounds bounds (pos 0) (intermediate_duration bounds simple)

-- ---- the end of an active element, on its own clock

-- the intermediate end of a play that began at `first`,
-- in the iteration number `done` that started at `start`
abbrev pub repeated_end : Option Count → Option Time → Time → ℤ → ℤ → ℕ → Time
repeated_end None None simple first start done = later_time simple start
repeated_end (Some c) None simple first start done = later_time (iterated c done simple) start
repeated_end None (Some d) simple first start done = later_time d first
repeated_end (Some c) (Some d) simple first start done =
    least_time (later_time (iterated c done simple) start) (later_time d first)

abbrev pub intermediate_end : Bounds → Time → ℤ → ℤ → ℕ → Time
intermediate_end bounds simple first start done =
    if time_eq simple (At (pos 0)) then At start
    else repeated_end bounds.count bounds.repeat_dur simple first start done

-- the active end: the intermediate one, between `min` and `max` after the play start
abbrev pub active_end : Bounds → Time → ℤ → ℤ → ℕ → Time
active_end bounds simple first start done =
    within_bounds bounds first (intermediate_end bounds simple first start done)

-- ---- endsync

-- `last`: the greatest latest end; children with none don't count,
-- and the play start is it where none counts
abbrev pub last_end : ℤ → List ChildEnd → Time
last_end start children =
    unwrap_or (reduce greatest_time (filter_map (λ (c : ChildEnd). c.latest) children)) (At start)

-- `all`: the greatest latest end, none counting as unresolved
abbrev pub all_end : List ChildEnd → Time
all_end children =
    unwrap_or (reduce greatest_time
    (map (λ (c : ChildEnd). unwrap_or c.latest Unresolved) children)) Unresolved

-- `first`: the least first end, none counting as unresolved
abbrev pub first_end : List ChildEnd → Time
first_end children = least_of (map (λ (c : ChildEnd). unwrap_or c.first Unresolved) children)

-- an id: the first end of that child, none counting as unresolved;
-- an id that names no time child acts as `last`
abbrev pub named_end : ℤ → List ChildEnd → Option ChildEnd → Time
named_end start children None = last_end start children
named_end start children (Some c) = unwrap_or c.first Unresolved

-- a seq: the first end of the last child, none counting as unresolved
abbrev pub seq_end : List ChildEnd → Time
seq_end [] = Unresolved
seq_end (c ∷ []) = unwrap_or c.first Unresolved
seq_end (c ∷ d ∷ cs) = seq_end (d ∷ cs)

abbrev pub endsync_end : Endsync → ℤ → List ChildEnd → Time
endsync_end Last start children = last_end start children
endsync_end First start children = first_end children
endsync_end All start children = all_end children
endsync_end (Child id) start children =
    named_end start children (find (λ (c : ChildEnd). c.named) children)

abbrev pub children_end : Kind → Endsync → ℤ → List ChildEnd → Time
children_end Seq endsync start children = seq_end children
children_end _ endsync start children = endsync_end endsync start children

-- the implicit duration of an active container: 0 without time children, and else where they end,
-- less the play start and not below 0
abbrev pub container_duration : Kind → Endsync → ℤ → List ChildEnd → Time
container_duration kind endsync start [] = At (pos 0)
container_duration kind endsync start (c ∷ cs) =
    greatest_time (At (pos 0)) (later_time (children_end kind endsync start (c ∷ cs)) (neg_ℤ start))
