-- SMIL's instance times: the times that the begin and end lists of an element give.
use Rattle.std.specs.Prelude.{ℕ, suc, min, ℤ, ◌+ℤ◌, List, [], ◌∷◌, ◌++◌, drop, map, filter_map, flat_map, Bool, true, false, not, ◌&&◌, ◌||◌, ◌==◌, if◌then◌else◌, Option, Some, None, option_to_list, slice_get, codes}
use Rattle.std.specs.List.{list_any}
use Rattle.std.specs.Str.{bytes_eq}
use Rattle.smil_model.specs.declared.times.Time.{Time}
use Rattle.smil_model.specs.declared.times.Time.TheVariants.{At}
use Rattle.smil_model.specs.declared.times.Time.TheVariants as time
use Rattle.smil_model.specs.declared.diary.Entry.{Entry}
use Rattle.smil_model.specs.declared.interval.Interval.{Interval}
use Rattle.smil_model.specs.declared.diary.LogEntry.{LogEntry}
use Rattle.smil_model.specs.declared.diary.Happening.{Happening}
use Rattle.smil_model.specs.declared.diary.Happening.TheVariants as happening
use Rattle.smil_model.specs.declared.diary.Step.{Step}
use Rattle.smil_model.specs.declared.diary.Step.TheVariants.{Began, Repeated, Ended, Cut, Logged}
use Rattle.smil_model.specs.declared.document.Node.{Node}
use Rattle.smil_model.specs.declared.document.Edge.{Edge}
use Rattle.smil_model.specs.declared.document.Edge.TheVariants.{Begin, End}
use Rattle.smil_model.specs.declared.document.Item.{Item}
use Rattle.smil_model.specs.declared.document.Item.TheVariants.{Offset, Sync, Event, Repeat, Key, Indefinite}
use Rattle.smil_model.specs.declared.document.Restart.{Restart}
use Rattle.smil_model.specs.declared.document.Restart.TheVariants.{Always}
use Rattle.smil_model.specs.Times.{within_horizon, numbers, rising, rising_times}
use Rattle.smil_model.specs.document.Document.{element_named, previous_in_seq, target}
use Rattle.smil_model.specs.document.Defaults.{begin_list, end_list, restart_of}
use Rattle.smil_model.specs.document.Dependencies.{leads_to}
use Rattle.smil_model.specs.diary.Diary.{History, birth, is_active, is_alive, iteration, up_to, with_past}
use Rattle.smil_model.specs.diary.Clocks.{outer, between, parent_start, outer_stands}
use Rattle.smil_model.specs.reach.Reach.{is_option, key_of}

-- ---- the begins and ends of another element

-- the time that an entry gives to an item for an edge of x
abbrev pub edge_time : History → ℕ → ℕ → ℤ → ℤ → Edge → Step → Option Time
edge_time h e x offset moment Begin (Began who begin) =
    if who == x then Some (within_horizon (between h x e begin moment +ℤ offset)) else None
edge_time h e x offset moment End (Ended who end') =
    if who == x then Some (within_horizon (between h x e end' moment +ℤ offset)) else None
edge_time h e x offset moment End (Cut who) =
    if who == x then Some (within_horizon (outer h e moment +ℤ offset)) else None
edge_time h e x offset moment _ _ = None

-- the times of the begins, or of the ends and cuts, of x that stand after the birth of e or after
-- that of x
abbrev pub happened_times : History → ℕ → ℕ → ℤ → Edge → List Time
happened_times h e x offset edge =
    filter_map
    (λ (y : Entry). edge_time h e x offset y.moment edge y.step)
    (drop (min (birth h e) (birth h x)) h.diary)

-- the number that an interval has for an edge; the begin of an active element has happened
abbrev pub number_of : Time → Option ℤ
number_of (At x) = Some x
number_of _ = None

abbrev pub interval_edge : Edge → Bool → Option Interval → Option ℤ
interval_edge edge active None = None
interval_edge Begin true (Some i) = None
interval_edge Begin false (Some i) = Some i.begin
interval_edge End active (Some i) = number_of i.«end»

-- the time of the begin or end of x by its current interval, unless one of the two clocks stands
abbrev pub expected_times : History → (ℕ → Option Interval) → ℤ → ℕ → ℕ → ℤ → Edge → List Time
expected_times h intervals now e x offset edge =
    if outer_stands h e || outer_stands h x
    then []
    else map
    (λ value. within_horizon (between h x e value now +ℤ offset))
    (option_to_list (interval_edge edge (is_active h.diary x) (intervals x)))

-- a looped reference gives its times only once they have happened
abbrev pub sync_times : History → (ℕ → Option Interval) → ℤ → ℕ → ℕ → ℤ → Edge → Bool → List Time
sync_times h intervals now e x offset edge looped =
    happened_times h e x offset edge
    ++ (if looped then [] else expected_times h intervals now e x offset edge)

-- ---- events

-- whether this is the named event on x
abbrev pub is_named : ℕ → List ℕ → Happening → Bool
is_named x name (happening.Event who own) = (who == x) && bytes_eq own name
is_named x name (happening.Media who length) = false
is_named x name (happening.Key key) = false

abbrev pub is_log_event : ℕ → List ℕ → Option LogEntry → Bool
is_log_event x name None = false
is_log_event x name (Some entry) = is_named x name entry.what

-- whether the step is an occurrence of the named event on x: a logged one, or one that its begins,
-- ends and repeats raise
abbrev pub is_event : List LogEntry → ℕ → List ℕ → Step → Bool
is_event log x name (Logged place) = is_log_event x name (slice_get log place)
is_event log x name (Began who begin) = (who == x) && bytes_eq name (codes "beginEvent")
is_event log x name (Ended who end') = (who == x) && bytes_eq name (codes "endEvent")
is_event log x name (Cut who) = (who == x) && bytes_eq name (codes "endEvent")
is_event log x name (Repeated who start) = (who == x) && bytes_eq name (codes "repeatEvent")
is_event log x name _ = false

-- whether the step is an occurrence of the key: a logged press
abbrev pub is_press : List LogEntry → ℕ → Step → Bool
is_press log key step = is_option key (key_of log step)

-- whether the step begins iteration n of x
abbrev pub is_repeat : History → ℕ → ℕ → Step → Bool
is_repeat past x n (Repeated who start) = (who == x) && (suc (iteration past x) == n)
is_repeat past x n _ = false

abbrev pub same_target : Option ℕ → Option ℕ → Bool
same_target (Some x) (Some y) = x == y
same_target _ _ = false

-- whether two items of e are for the same event of the same element, or for the same key
abbrev pub is_same_event : List Node → ℕ → Item → Item → Bool
is_same_event nodes e (Event a name o) (Event b name' o') =
    same_target (target nodes e a) (target nodes e b) && bytes_eq name name'
is_same_event nodes e (Repeat a n o) (Repeat b n' o') =
    same_target (target nodes e a) (target nodes e b) && (n == n')
is_same_event nodes e (Key key o) (Key key' o') = key == key'
is_same_event nodes e _ _ = false

-- SMIL's event sensitivity: an element that is not active hears its begin items alone;
-- an active one that may always restart hears its begin items,
-- and those end items that are for no event of a begin item;
-- any other active one hears its end items alone
abbrev pub is_sensitive : Bool → Restart → Edge → Bool → Bool
is_sensitive false restart Begin doubled = true
is_sensitive false restart End doubled = false
is_sensitive true Always Begin doubled = true
is_sensitive true Always End doubled = not doubled
is_sensitive true _ Begin doubled = false
is_sensitive true _ End doubled = true

-- whether the element hears an event for this item, by what has happened before it: it is alive,
-- and its outer clock runs
abbrev pub hears : History → Node → Edge → Item → Bool
hears past e side item =
    is_alive past e.serial
    && not (outer_stands past e.serial)
    && is_sensitive (is_active past.diary e.serial) (restart_of past.nodes e) side
    (list_any (is_same_event past.nodes e.serial item) (begin_list past.nodes e))

-- the times of the occurrences since birth that the element heard
abbrev pub heard_times : History → Node → Edge → Item → ℤ → (History → Step → Bool) → List Time
heard_times h e side item offset occurs =
    filter_map
    (λ (p : List Entry × Entry).
    if occurs (up_to h p.0) (p.1).step && hears (up_to h p.0) e side item
    then Some (within_horizon (outer h e.serial (p.1).moment +ℤ offset))
    else None)
    (drop (birth h e.serial) (with_past [] h.diary))

abbrev pub event_times : History → Node → Edge → Item → ℤ → List ℕ → Option ℕ → List Time
event_times h e side item offset name None = []
event_times h e side item offset name (Some x) =
    heard_times h e side item offset (λ past step. is_event past.log x name step)

abbrev pub repeat_times : History → Node → Edge → Item → ℤ → ℕ → Option ℕ → List Time
repeat_times h e side item offset n None = []
repeat_times h e side item offset n (Some x) =
    heard_times h e side item offset (λ past step. is_repeat past x n step)

-- ---- items and lists

-- an offset counts from the play start of the time parent;
-- in a child of a seq other than the first, from the end of the child before
abbrev pub offset_times : History → (ℕ → Option Interval) → ℤ → ℕ → ℤ → Option Node → List Time
offset_times h intervals now e offset None = within_horizon (parent_start h e +ℤ offset) ∷ []
offset_times h intervals now e offset (Some before) =
    sync_times h intervals now e before.serial offset End false

abbrev pub named_times :
    History → (ℕ → Option Interval) → ℤ → ℕ → ℤ → Edge → Option Node → List Time
named_times h intervals now e offset edge None = []
named_times h intervals now e offset edge (Some x) =
    sync_times h intervals now e x.serial offset edge (leads_to h.nodes e x.serial)

-- the times that an item gives
abbrev pub item_times : History → (ℕ → Option Interval) → ℤ → Node → Edge → Item → List Time
item_times h intervals now e side (Offset offset) =
    offset_times h intervals now e.serial offset (previous_in_seq h.nodes e.serial)
item_times h intervals now e side (Sync who edge offset) =
    named_times h intervals now e.serial offset edge (element_named h.nodes who)
item_times h intervals now e side (Event who name offset) =
    event_times h e side (Event who name offset) offset name (target h.nodes e.serial who)
item_times h intervals now e side (Repeat who n offset) =
    repeat_times h e side (Repeat who n offset) offset n (target h.nodes e.serial who)
item_times h intervals now e side (Key key offset) =
    heard_times h e side (Key key offset) offset (λ past step. is_press past.log key step)
item_times h intervals now e Begin Indefinite = []
item_times h intervals now e End Indefinite = time.Indefinite ∷ []

-- the begin instance times, which are numbers, in rising order
abbrev pub begin_times : History → (ℕ → Option Interval) → ℤ → Node → List ℤ
begin_times h intervals now e =
    rising (numbers (flat_map (item_times h intervals now e Begin) (begin_list h.nodes e)))

-- the end instance times, in rising order
abbrev pub end_times : History → (ℕ → Option Interval) → ℤ → Node → List Time
end_times h intervals now e =
    rising_times (flat_map (item_times h intervals now e End) (end_list e))

-- ---- what the diary alone gives, without current intervals

abbrev pub no_interval : ℕ → Option Interval
no_interval serial = None

abbrev pub settled_begins : History → ℤ → Node → List ℤ
settled_begins h now e = begin_times h no_interval now e

abbrev pub settled_ends : History → ℤ → Node → List Time
settled_ends h now e = end_times h no_interval now e
