-- The attributes that a kind of node may have, and their ranges.
use Rattle.std.specs.Prelude.{ℕ, ℤ, pos, neg_ℤ, int_lt, int_le, List, [], ◌∷◌, length, Bool, true, false, not, ◌&&◌, ◌||◌, nat_le, nat_lt, if◌then◌else◌, Option, Some, None, is_some, codes, bytes_eq}
use Rattle.std.specs.List.{list_all, list_any}
use Rattle.smil_model.specs.declared.times.TheConstants.{HORIZON}
use Rattle.smil_model.specs.declared.times.Time.{Time}
use Rattle.smil_model.specs.declared.times.Time.TheVariants as time
use Rattle.smil_model.specs.declared.limits.TheConstants.{COUNT_THOUSANDTHS, ITEMS, ITERATIONS}
use Rattle.smil_model.specs.declared.document.Kind.{Kind}
use Rattle.smil_model.specs.declared.document.Kind.TheVariants.{Par, Excl}
use Rattle.smil_model.specs.declared.document.Attrs.{Attrs}
use Rattle.smil_model.specs.declared.texts.Texts.{Texts}
use Rattle.smil_model.specs.declared.texts.TextName.{TextName}
use Rattle.smil_model.specs.declared.document.Item.{Item}
use Rattle.smil_model.specs.declared.document.Item.TheVariants as item
use Rattle.smil_model.specs.declared.document.Dur.{Dur}
use Rattle.smil_model.specs.declared.document.Dur.TheVariants as dur
use Rattle.smil_model.specs.declared.document.Count.{Count}
use Rattle.smil_model.specs.declared.document.Count.TheVariants as count
use Rattle.smil_model.specs.declared.document.Endsync.{Endsync}
use Rattle.smil_model.specs.declared.document.Endsync.TheVariants.{Child}
use Rattle.smil_model.specs.declared.document.Act.{Act}
use Rattle.smil_model.specs.declared.document.Act.TheVariants.{Stop, Pause, Defer, Never}
use Rattle.smil_model.specs.document.Document.{is_class_kind, is_seq_kind}
use Rattle.smil_model.specs.document.Words.{is_id, is_event_name, is_key}
use Rattle.smil_model.specs.document.Texts.{has_text, is_text, text_at, text_names}

-- an absent value, or one that passes
abbrev pub absent_or : {A : Type 0} → (A → Bool) → Option A → Bool
absent_or test None = true
absent_or test (Some x) = test x

-- a clock value: from 0 to the horizon, in milliseconds
abbrev pub is_clock : ℤ → Bool
is_clock v = int_le (pos 0) v && int_le v HORIZON

-- an offset is a clock value with a sign
abbrev pub is_offset : ℤ → Bool
is_offset v = int_le (neg_ℤ HORIZON) v && int_le v HORIZON

-- an item of a begin or end list
abbrev pub is_item : Item → Bool
is_item (item.Offset offset) = is_offset offset
is_item (item.Sync who edge offset) = is_id who && is_offset offset
is_item (item.Event who name offset) = absent_or is_id who && is_event_name name && is_offset offset
is_item (item.Repeat who n offset) =
    absent_or is_id who && nat_le 1 n && nat_le n ITERATIONS && is_offset offset
is_item (item.Key key offset) = is_key key && is_offset offset
is_item item.Indefinite = true

-- a begin or end list
abbrev pub is_list : List Item → Bool
is_list items = nat_le 1 (length items) && nat_le (length items) ITEMS && list_all is_item items

-- the begin of a child of a seq: one offset that is not negative
abbrev pub is_plain_begin : List Item → Bool
is_plain_begin (item.Offset offset ∷ []) = int_le (pos 0) offset
is_plain_begin _ = false

abbrev pub is_begin : Bool → List Item → Bool
is_begin in_seq items = is_list items && (not in_seq || is_plain_begin items)

-- `dur`
abbrev pub is_dur : Dur → Bool
is_dur (dur.Clock v) = is_clock v
is_dur _ = true

-- `max`: a clock value or indefinite
abbrev pub is_bound : Time → Bool
is_bound (time.At v) = is_clock v
is_bound time.Indefinite = true
is_bound time.Unresolved = false

-- `repeatDur`: a clock value above 0, or indefinite
abbrev pub is_positive_bound : Time → Bool
is_positive_bound (time.At v) = int_lt (pos 0) v && is_clock v
is_positive_bound time.Indefinite = true
is_positive_bound time.Unresolved = false

-- `repeatCount`: above 0, with at most nine digits before the point and three behind it,
-- or indefinite
abbrev pub is_count : Count → Bool
is_count (count.Thousandths k) = nat_lt 0 k && nat_le k COUNT_THOUSANDTHS
is_count count.Indefinite = true

-- `endsync`: a keyword, or an id that is none of its keywords
abbrev pub is_endsync_word : List ℕ → Bool
is_endsync_word text =
    list_any (bytes_eq text) (codes "last" ∷ codes "first" ∷ codes "all" ∷ codes "media" ∷ [])

abbrev pub is_endsync : Endsync → Bool
is_endsync (Child id) = is_id id && not (is_endsync_word id)
is_endsync _ = true

-- `higher` may stop or pause the playing child
abbrev pub is_higher : Act → Bool
is_higher Stop = true
is_higher Pause = true
is_higher _ = false

-- `lower` may defer the newcomer or let it never begin
abbrev pub is_lower : Act → Bool
is_lower Defer = true
is_lower Never = true
is_lower _ = false

abbrev pub has_endsync : Kind → Bool
has_endsync Par = true
has_endsync Excl = true
has_endsync _ = false

-- what a priorityClass alone may have
abbrev pub has_class_attrs : Attrs → Bool
has_class_attrs attrs = is_some attrs.peers || is_some attrs.higher || is_some attrs.lower

-- what a priorityClass may not have, besides texts
abbrev pub has_element_attrs : Attrs → Bool
has_element_attrs attrs =
    is_some attrs.begin || is_some attrs.dur || is_some attrs.«end» || is_some attrs.min
    || is_some attrs.max
    || is_some attrs.repeat_count || is_some attrs.repeat_dur || is_some attrs.restart
    || is_some attrs.fill
    || is_some attrs.restart_default || is_some attrs.fill_default || is_some attrs.endsync

-- the values of the attributes that a priorityClass has not
abbrev pub are_element_values : Bool → Attrs → Bool
are_element_values in_seq attrs =
    absent_or (is_begin in_seq) attrs.begin && absent_or is_dur attrs.dur
    && absent_or is_list attrs.«end»
    && absent_or is_clock attrs.min && absent_or is_bound attrs.max
    && absent_or is_count attrs.repeat_count
    && absent_or is_positive_bound attrs.repeat_dur && absent_or is_endsync attrs.endsync

-- a text of this name that is there is one of the kind's, with a value that it may have
abbrev pub fits_text : Kind → Texts → TextName → Bool
fits_text kind texts name =
    absent_or (λ text. has_text kind name && is_text name text) (text_at texts name)

abbrev pub is_seq_parent : Option Kind → Bool
is_seq_parent None = false
is_seq_parent (Some kind) = is_seq_kind kind

-- the attributes fit the node's kind and its parent's kind, with values in their ranges
abbrev pub fit_kind : Kind → Option Kind → Attrs → Bool
fit_kind kind parent attrs =
    absent_or is_id attrs.id && list_all (fits_text kind attrs.texts) text_names
    && (if is_class_kind kind
    then not (has_element_attrs attrs) && absent_or is_higher attrs.higher
    && absent_or is_lower attrs.lower
    else not (has_class_attrs attrs) && are_element_values (is_seq_parent parent) attrs
    && (has_endsync kind || not (is_some attrs.endsync)))
