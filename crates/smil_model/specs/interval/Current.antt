-- The current interval of each element, by rounds along the dependencies that are not looped.
use Rattle.std.specs.Prelude.{ℕ, suc, zero, ℤ, pos, ◌-ℤ◌, List, [], ◌∷◌, length, map, fold, Bool, true, false, ◌==◌, if◌then◌else◌, Option, Some, None, option_map, unwrap_or, slice_get}
use Rattle.std.specs.List.{list_any, last_or}
use Rattle.std.specs.Option.{option_or}
use Rattle.smil_model.specs.declared.times.Time.{Time}
use Rattle.smil_model.specs.declared.times.Time.TheVariants.{At, Indefinite, Unresolved}
use Rattle.smil_model.specs.declared.diary.Entry.{Entry}
use Rattle.smil_model.specs.declared.interval.Interval.{Interval}
use Rattle.smil_model.specs.declared.interval.Play.{Play}
use Rattle.smil_model.specs.declared.interval.EndList.{EndList}
use Rattle.smil_model.specs.declared.interval.EndList.TheVariants.{Absent, Hearing, Plain}
use Rattle.smil_model.specs.declared.interval.Facts.{Facts}
use Rattle.smil_model.specs.declared.interval.ChildEnd.{ChildEnd}
use Rattle.smil_model.specs.declared.diary.LogEntry.{LogEntry}
use Rattle.smil_model.specs.declared.diary.Happening.{Happening}
use Rattle.smil_model.specs.declared.diary.Happening.TheVariants as happening
use Rattle.smil_model.specs.declared.diary.Step.{Step}
use Rattle.smil_model.specs.declared.diary.Step.TheVariants.{Logged}
use Rattle.smil_model.specs.declared.document.Node.{Node}
use Rattle.smil_model.specs.declared.document.Kind.{Kind}
use Rattle.smil_model.specs.declared.document.Kind.TheVariants as kind
use Rattle.smil_model.specs.declared.document.Item.{Item}
use Rattle.smil_model.specs.declared.document.Item.TheVariants.{Event, Repeat, Key}
use Rattle.smil_model.specs.declared.document.Endsync.{Endsync}
use Rattle.smil_model.specs.declared.document.Endsync.TheVariants.{Child}
use Rattle.smil_model.specs.document.Document.{elements, time_children, has_id}
use Rattle.smil_model.specs.document.Defaults.{restart_of, min_of, max_of, endsync_of}
use Rattle.smil_model.specs.diary.Diary.{History, is_active, is_alive, is_paused, is_deferred, iteration}
use Rattle.smil_model.specs.diary.Clocks.{run, outer, play_start, iteration_start, parent_start}
use Rattle.smil_model.specs.diary.Plays.{PlayEdge, FinishedInterval, plays, last_finished, first_of, passed}
use Rattle.smil_model.specs.interval.Durations.{simple_duration, container_duration}
use Rattle.smil_model.specs.interval.Instances.{begin_times, end_times}
use Rattle.smil_model.specs.interval.Intervals.{interval_of}

-- ---- the implicit duration

-- a length that the log tells of the element's media
abbrev pub logged_length : ℕ → Happening → Option Time → Option Time
logged_length serial (happening.Media who length) before =
    if who == serial then Some (At length) else before
logged_length serial (happening.Event who name) before = before
logged_length serial (happening.Key key) before = before

abbrev pub length_of : ℕ → Option LogEntry → Option Time → Option Time
length_of serial None before = before
length_of serial (Some entry) before = logged_length serial entry.what before

abbrev pub length_after : List LogEntry → ℕ → Option Time → Step → Option Time
length_after log serial before (Logged place) = length_of serial (slice_get log place) before
length_after log serial before _ = before

-- the last length in the diary for the element, or unresolved
abbrev pub media_length : History → ℕ → Time
media_length h serial =
    unwrap_or (fold
    (λ before (x : Entry). length_after h.log serial before x.step) None h.diary) Unresolved

abbrev pub finish_time : FinishedInterval → Time
finish_time f = At f.finish.value

abbrev pub is_named_child : Option Endsync → Node → Bool
is_named_child (Some (Child id)) c = has_id id c.attrs.id
is_named_child _ c = false

-- the end of an interval, if there is one
abbrev pub present_end : Option Interval → Option Time
present_end interval = option_map (λ (i : Interval). i.«end») interval

-- the first end of a time child: of its first finished interval, or else of its current one
abbrev pub first_end_of : History → Option Interval → ℕ → Option Time
first_end_of h interval serial =
    option_or (option_map finish_time (first_of (plays h serial).finished)) (present_end interval)

-- its latest end: of its current interval, or unresolved while it is deferred,
-- or else of its last finished one
abbrev pub latest_end_of : History → Option Interval → ℕ → Option Time
latest_end_of h interval serial =
    option_or (present_end interval) (if is_deferred h serial then Some Unresolved
    else option_map finish_time (last_or None (plays h serial).finished))

-- what `endsync` asks of a time child
abbrev pub child_end : History → (ℕ → Option Interval) → Node → Node → ChildEnd
child_end h intervals e c = record {
  named = is_named_child e.attrs.endsync c;
  first = first_end_of h (intervals c.serial) c.serial;
  latest = latest_end_of h (intervals c.serial) c.serial;
}

-- the implicit duration of a container, unresolved while it is not active
abbrev pub container_implicit : History → (ℕ → Option Interval) → Node → Time
container_implicit h intervals e =
    if is_active h.diary e.serial
    then container_duration e.kind (endsync_of e.attrs) (iteration_start h e.serial)
    (map (child_end h intervals e) (time_children h.nodes e.serial))
    else Unresolved

-- the implicit duration: 0 for still media, indefinite for a set,
-- and the length that the diary tells for continuous media
abbrev pub implicit_of : History → (ℕ → Option Interval) → Node → Kind → Time
implicit_of h intervals e kind.Par = container_implicit h intervals e
implicit_of h intervals e kind.Seq = container_implicit h intervals e
implicit_of h intervals e kind.Excl = container_implicit h intervals e
implicit_of h intervals e kind.Img = At (pos 0)
implicit_of h intervals e kind.Text = At (pos 0)
implicit_of h intervals e kind.Brush = At (pos 0)
implicit_of h intervals e kind.Set = Indefinite
implicit_of h intervals e _ = media_length h e.serial

abbrev pub implicit_duration : History → (ℕ → Option Interval) → Node → Time
implicit_duration h intervals e = implicit_of h intervals e e.kind

-- the simple duration of an element
abbrev pub simple_of : History → (ℕ → Option Interval) → Node → Time
simple_of h intervals e = simple_duration e.attrs (implicit_duration h intervals e)

-- ---- the current interval, given those of the others

-- an event, repeat or access key item
abbrev pub is_event_item : Item → Bool
is_event_item (Event who name offset) = true
is_event_item (Repeat who n offset) = true
is_event_item (Key key offset) = true
is_event_item _ = false

-- what its end list can do for the element
abbrev pub end_list_of : Option (List Item) → EndList
end_list_of None = Absent
end_list_of (Some items) = if list_any is_event_item items then Hearing else Plain

-- the present play of an active element
abbrev pub present_play : History → ℤ → Node → Option Play
present_play h now e =
    if is_active h.diary e.serial
    then option_map
    (λ (begin : PlayEdge). record {
      begin = begin.value;
      first = play_start h e.serial;
      start = iteration_start h e.serial;
      iteration = iteration h e.serial;
      shift =
          if is_paused h.diary e.serial then None
          else Some (outer h e.serial now -ℤ run h e.serial now);
    })
    ((plays h e.serial).present)
    else None

-- the facts of an element
abbrev pub facts_of : History → (ℕ → Option Interval) → ℤ → Node → Facts
facts_of h intervals now e = record {
  alive = is_alive h e.serial;
  deferred = is_deferred h e.serial;
  play = present_play h now e;
  parent_start = parent_start h e.serial;
  last =
      option_map (λ (f : FinishedInterval). record { begin = f.begin.value; «end» = finish_time f })
      (last_finished h e.serial);
  passed = passed h e.serial;
  end_list = end_list_of e.attrs.«end»;
  restart = restart_of h.nodes e;
  min = min_of e.attrs;
  max = max_of e.attrs;
  simple = simple_of h intervals e;
  count = e.attrs.repeat_count;
  repeat_dur = e.attrs.repeat_dur;
}

-- the interval of an element, given those of the others
abbrev pub interval_given : History → (ℕ → Option Interval) → ℤ → Node → Option Interval
interval_given h intervals now e =
    interval_of (facts_of h intervals now e) (begin_times h intervals now e)
    (end_times h intervals now e)

-- ---- rounds

-- what a table of serials and intervals has for an element
abbrev pub in_table : List (ℕ × Option Interval) → ℕ → Option Interval
in_table [] serial = None
in_table (row ∷ rows) serial = if row.0 == serial then row.1 else in_table rows serial

-- after k rounds from no interval, each element's interval given those of the round before
abbrev pub table : History → ℤ → ℕ → List (ℕ × Option Interval)
table h now zero = []
table h now (suc k) =
    let known = table h now k in
    map (λ (e : Node). (e.serial, interval_given h (in_table known) now e)) (elements h.nodes)

-- the current intervals: those of the round whose number is the number of elements
abbrev pub current_table : History → ℤ → List (ℕ × Option Interval)
current_table h now = table h now (length (elements h.nodes))

-- the current interval of an element
abbrev pub current_interval : History → ℤ → ℕ → Option Interval
current_interval h now serial = in_table (current_table h now) serial
