-- What is to happen: the begins, ends and repeats that the current intervals give,
-- and the order in which they happen.
use Rattle.std.specs.Prelude.{ℕ, suc, ℤ, pos, ◌+ℤ◌, ◌-ℤ◌, int_lt, int_le, List, [], ◌∷◌, ◌++◌, map, fold, Bool, true, false, not, ◌&&◌, ◌||◌, ◌==◌, nat_lt, if◌then◌else◌, Option, Some, None, is_some}
use Rattle.smil_model.specs.declared.times.Time.{Time}
use Rattle.smil_model.specs.declared.times.Time.TheVariants.{At}
use Rattle.smil_model.specs.declared.interval.Interval.{Interval}
use Rattle.smil_model.specs.declared.happening.TheConstants.{BEGIN_CLASS, EMPTY_END_CLASS, END_CLASS}
use Rattle.smil_model.specs.declared.happening.Key.{Key}
use Rattle.smil_model.specs.declared.document.Node.{Node}
use Rattle.smil_model.specs.Times.{time_le, later_time}
use Rattle.smil_model.specs.document.Document.{elements}
use Rattle.smil_model.specs.diary.Diary.{History, is_active, iteration}
use Rattle.smil_model.specs.diary.Clocks.{run, to_document, stands, outer_stands, play_start, iteration_start}
use Rattle.smil_model.specs.interval.Durations.{bounds_of, intermediate_end}
use Rattle.smil_model.specs.interval.Current.{simple_of, current_table, in_table}

-- what happens: a begin or an end with its value on the time parent's clock,
-- or a repeat with the start of the new iteration on the element's own clock
pub data Change : Type 0 where
  begins : ℤ → Change
  ends : ℤ → Change
  repeats : ℤ → Change

-- a change of an element, with the key that orders it among all that is to happen
pub record DueChange : Type 0 where
  pub key : Key
  pub change : Change

abbrev pub is_repeating : Change → Bool
is_repeating (repeats start) = true
is_repeating _ = false

abbrev pub coming_at : ℤ → ℕ → ℕ → Node → Change → DueChange
coming_at moment class place e change = record {
  key = record {
    value = moment;
    class = class;
    position = place;
    serial = e.serial;
    repeat = is_repeating change;
  };
  change = change;
}

-- the begin of a current interval
abbrev pub coming_begin : History → ℤ → ℕ → Node → Option Interval → List DueChange
coming_begin h now place e None = []
coming_begin h now place e (Some i) =
    coming_at (to_document h e.serial i.begin now) BEGIN_CLASS place e (begins i.begin) ∷ []

-- the end of a current interval that is a number, in a class of its own where the length is 0
abbrev pub coming_end_at : History → ℤ → ℕ → Node → ℤ → Time → List DueChange
coming_end_at h now place e begin (At v) =
    let class = if int_lt begin v then END_CLASS else EMPTY_END_CLASS in
    coming_at (to_document h e.serial v now) class place e (ends v) ∷ []
coming_end_at h now place e begin _ = []

abbrev pub coming_end : History → ℤ → ℕ → Node → Option Interval → List DueChange
coming_end h now place e None = []
coming_end h now place e (Some i) = coming_end_at h now place e i.begin i.«end»

-- a repeat, where the simple duration is above 0 and the iteration ends, at a number,
-- before the play's intermediate end
abbrev pub coming_repeat_at : History → ℤ → ℕ → Node → Time → Time → List DueChange
coming_repeat_at h now place e simple (At over) =
    if not (time_le simple (At (pos 0)))
    && not (time_le (intermediate_end (bounds_of e.attrs) simple (play_start h e.serial)
    (iteration_start h e.serial) (iteration h e.serial)) (At over))
    then coming_at (now +ℤ (over -ℤ run h e.serial now)) END_CLASS place e (repeats over) ∷ []
    else []
coming_repeat_at h now place e simple _ = []

-- an element with `repeatCount` or `repeatDur` repeats while its own clock runs
abbrev pub coming_repeat : History → Time → ℤ → ℕ → Node → List DueChange
coming_repeat h simple now place e =
    if (is_some e.attrs.repeat_count || is_some e.attrs.repeat_dur) && not (stands h e.serial)
    then coming_repeat_at h now place e simple (later_time simple (iteration_start h e.serial))
    else []

-- what comes of an element by its interval and its simple duration: its begin or its end
-- while the time parent's clock runs, and its repeat while it is active
abbrev pub coming_by : History → Option Interval → Time → ℤ → ℕ → Node → List DueChange
coming_by h interval simple now place e =
    if is_active h.diary e.serial
    then (if outer_stands h e.serial then [] else coming_end h now place e interval)
    ++ coming_repeat h simple now place e
    else (if outer_stands h e.serial then [] else coming_begin h now place e interval)

-- the same, given the intervals of all
abbrev pub coming_of : History → (ℕ → Option Interval) → ℤ → ℕ → Node → List DueChange
coming_of h intervals now place e =
    coming_by h (intervals e.serial) (simple_of h intervals e) now place e

abbrev pub coming_from : History → (ℕ → Option Interval) → ℤ → ℕ → List Node → List DueChange
coming_from h intervals now place [] = []
coming_from h intervals now place (e ∷ es) =
    coming_of h intervals now place e ++ coming_from h intervals now (suc place) es

-- what comes of all elements, by their current intervals
abbrev pub coming : History → ℤ → List DueChange
coming h now =
    let rows = current_table h now in
    coming_from h (in_table rows) now 0 (elements h.nodes)

abbrev pub keys : History → ℤ → List Key
keys h now = map (λ (c : DueChange). c.key) (coming h now)

-- ---- the order of keys

-- among keys of one moment and class: begins earlier in the document first, all others later first
abbrev pub is_placed_before : Key → Key → Bool
is_placed_before a b =
    if a.class == BEGIN_CLASS
    then nat_lt a.position b.position
    else nat_lt b.position a.position

-- an end before a repeat of the same element
abbrev pub is_ordered_before : Key → Key → Bool
is_ordered_before a b =
    if a.position == b.position then not a.repeat && b.repeat else is_placed_before a b

-- whether a happens before b: by moment, then by class, then by place
abbrev pub comes_before : Key → Key → Bool
comes_before a b =
    int_lt a.value b.value
    || (int_le a.value b.value
    && (nat_lt a.class b.class || ((a.class == b.class) && is_ordered_before a b)))

abbrev pub earlier_key : Option Key → Key → Option Key
earlier_key None k = Some k
earlier_key (Some l) k = if comes_before k l then Some k else Some l

-- the least key
abbrev pub least_key : List Key → Option Key
least_key ks = fold earlier_key None ks

abbrev pub earlier_coming : Option DueChange → DueChange → Option DueChange
earlier_coming None c = Some c
earlier_coming (Some b) c = if comes_before c.key b.key then Some c else Some b

-- what comes first
abbrev pub first_coming : List DueChange → Option DueChange
first_coming cs = fold earlier_coming None cs

-- what is due at a moment: its key is not above it
abbrev pub is_due : ℤ → Key → Bool
is_due moment key = int_le key.value moment
