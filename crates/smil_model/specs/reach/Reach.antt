-- Which elements an entry can concern: all whose times may follow from those of its element,
-- or from its key.
use Rattle.std.specs.Prelude.{ℕ, List, [], filter, Bool, false, ◌&&◌, ◌||◌, ◌==◌, Option, Some, None, slice_get, if◌then◌else◌, is_some}
use Rattle.std.specs.List.{list_any}
use Rattle.smil_model.specs.declared.diary.Entry.{Entry}
use Rattle.smil_model.specs.declared.diary.LogEntry.{LogEntry}
use Rattle.smil_model.specs.declared.diary.Happening.{Happening}
use Rattle.smil_model.specs.declared.diary.Happening.TheVariants as happening
use Rattle.smil_model.specs.declared.diary.Step.{Step}
use Rattle.smil_model.specs.declared.diary.Step.TheVariants.{Began, Repeated, Ended, Cut, Paused, Resumed, Deferred, Passed, Logged}
use Rattle.smil_model.specs.declared.document.Node.{Node}
use Rattle.smil_model.specs.declared.document.Item.{Item}
use Rattle.smil_model.specs.declared.document.Item.TheVariants.{Event, Repeat, Key}
use Rattle.smil_model.specs.document.Document.{elements, is_within, has_serial, time_parent, is_in_seq, is_in_excl, node_at, target, serials}
use Rattle.smil_model.specs.document.Dependencies.{feeds_node, all_items}
use Rattle.smil_model.specs.document.Closure.{closure}

abbrev pub is_option : ℕ → Option ℕ → Bool
is_option x None = false
is_option x (Some y) = x == y

-- an event or repeat item that means the element with this serial
abbrev pub is_event_of : List Node → ℕ → ℕ → Item → Bool
is_event_of nodes e x (Event who name offset) = is_option x (target nodes e who)
is_event_of nodes e x (Repeat who n offset) = is_option x (target nodes e who)
is_event_of nodes e x _ = false

-- whether the times of e follow from those of x, or e hears events of x
abbrev pub reads_node : List Node → ℕ → Node → Bool
reads_node nodes x e =
    feeds_node nodes x e || list_any (is_event_of nodes e.serial x) (all_items nodes e)

-- whether y reads x
abbrev pub reads : List Node → ℕ → ℕ → Bool
reads nodes x y = list_any (λ (e : Node). (e.serial == y) && reads_node nodes x e) (elements nodes)

abbrev pub shares_parent : List Node → Option Node → ℕ → Bool
shares_parent nodes None y = false
shares_parent nodes (Some p) y = is_within nodes p.serial y

-- the element, its time parent, its descendants, and in a seq or excl its siblings with theirs
abbrev pub is_near : List Node → ℕ → ℕ → Bool
is_near nodes x y =
    has_serial y (time_parent nodes x)
    || is_within nodes x y
    || ((is_in_seq nodes x || is_in_excl nodes x) && shares_parent nodes (time_parent nodes x) y)

abbrev pub near : List Node → ℕ → List ℕ
near nodes x = filter (is_near nodes x) (serials (elements nodes))

-- the smallest set that has these and, with each member, the elements that read it
abbrev pub down : List Node → ℕ → List ℕ
down nodes x = closure (reads nodes) (serials (elements nodes)) (near nodes x)

-- whom a logged event or length is on; a key is on none
abbrev pub subject : Happening → Option ℕ
subject (happening.Event who name) = Some who
subject (happening.Media who length) = Some who
subject (happening.Key key) = None

abbrev pub logged_subject : Option LogEntry → Option ℕ
logged_subject None = None
logged_subject (Some entry) = subject entry.what

-- the element that a step is on
abbrev pub subject_of : List LogEntry → Step → Option ℕ
subject_of log (Began who begin) = Some who
subject_of log (Repeated who start) = Some who
subject_of log (Ended who end') = Some who
subject_of log (Cut who) = Some who
subject_of log (Paused who) = Some who
subject_of log (Resumed who) = Some who
subject_of log (Deferred who begin) = Some who
subject_of log (Passed who begin) = Some who
subject_of log (Logged place) = logged_subject (slice_get log place)

-- the reach of an element is empty where the document has no such element
abbrev pub down_from : List Node → Option ℕ → List ℕ
down_from nodes None = []
down_from nodes (Some x) = if is_some (node_at (elements nodes) x) then down nodes x else []

-- whether the item waits for the key
abbrev pub is_key_item : ℕ → Item → Bool
is_key_item key (Key own offset) = own == key
is_key_item key _ = false

-- the elements with an item for the key
abbrev pub waiters : List Node → ℕ → List ℕ
waiters nodes key =
    serials (filter (λ (e : Node). list_any (is_key_item key) (all_items nodes e)) (elements nodes))

-- the reach of a key: the smallest set that has these and, with each member,
-- the elements that read it
abbrev pub down_key : List Node → ℕ → List ℕ
down_key nodes key = closure (reads nodes) (serials (elements nodes)) (waiters nodes key)

-- the key that a step is a press of
abbrev pub pressed : Happening → Option ℕ
pressed (happening.Key key) = Some key
pressed _ = None

abbrev pub logged_key : Option LogEntry → Option ℕ
logged_key None = None
logged_key (Some entry) = pressed entry.what

abbrev pub key_of : List LogEntry → Step → Option ℕ
key_of log (Logged place) = logged_key (slice_get log place)
key_of log _ = None

-- the reach of an entry: that of its key, or of the element that it is on
abbrev pub reach_by : List Node → Option ℕ → Option ℕ → List ℕ
reach_by nodes (Some key) on = down_key nodes key
reach_by nodes None on = down_from nodes on

abbrev pub reach : List Node → List LogEntry → Entry → List ℕ
reach nodes log entry = reach_by nodes (key_of log entry.step) (subject_of log entry.step)
