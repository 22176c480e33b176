-- Values of attributes.
use Rattle.std.specs.Prelude.{ℕ, ◌+◌, ◌*◌, pos, Bool, false, not, ◌&&◌, List, [], ◌∷◌, length, Option, Some, None, option_map, Result, Ok, Err, nat_lt, ◌==◌, if◌then◌else◌, codes, bytes_eq}
use Rattle.std.specs.List.{list_all}
use Rattle.std.specs.Option.{ok_or}
use Rattle.std.specs.Str.{is_utf8}
use Rattle.smil_model.specs.declared.document.Attr.{Attr}
pub use Rattle.smil_model.specs.document.Words.{is_kept}
use Rattle.smil_model.specs.document.Words.{is_attribute_name}
use Rattle.smil_model.specs.declared.document.Attr.TheVariants as attr
use Rattle.smil_model.specs.declared.document.AttrName.{AttrName}
use Rattle.smil_model.specs.declared.document.AttrName.TheVariants as name
use Rattle.smil_model.specs.declared.texts.TextName.{TextName}
use Rattle.smil_model.specs.declared.texts.TextName.TheVariants.{TargetElement, AttributeName}
use Rattle.smil_model.specs.declared.document.Dur.{Dur}
use Rattle.smil_model.specs.declared.document.Dur.TheVariants as dur
use Rattle.smil_model.specs.declared.document.Count.{Count}
use Rattle.smil_model.specs.declared.document.Count.TheVariants as count
use Rattle.smil_model.specs.declared.document.Restart.{Restart}
use Rattle.smil_model.specs.declared.document.Restart.TheVariants as restart
use Rattle.smil_model.specs.declared.document.Fill.{Fill}
use Rattle.smil_model.specs.declared.document.Fill.TheVariants as fill
use Rattle.smil_model.specs.declared.document.RestartDefault.{RestartDefault}
use Rattle.smil_model.specs.declared.document.RestartDefault.TheVariants as restart_default
use Rattle.smil_model.specs.declared.document.FillDefault.{FillDefault}
use Rattle.smil_model.specs.declared.document.FillDefault.TheVariants as fill_default
use Rattle.smil_model.specs.declared.document.Endsync.{Endsync}
use Rattle.smil_model.specs.declared.document.Endsync.TheVariants as endsync
use Rattle.smil_model.specs.declared.document.Act.{Act}
use Rattle.smil_model.specs.declared.document.Act.TheVariants as act
use Rattle.smil_model.specs.declared.times.Time.{Time}
use Rattle.smil_model.specs.declared.times.Time.TheVariants as time
use Rattle.smil_model.specs.declared.document.Item.{Item}
use Rattle.smil_model.specs.declared.limits.TheConstants.{DIGITS}
use Rattle.smil_grammar.specs.declared.fault.AttrFault.{AttrFault}
use Rattle.smil_grammar.specs.declared.fault.AttrFault.TheVariants.{UnsupportedValue, BadValue, TooManyItems, Memory}
use Rattle.smil_grammar.specs.declared.fault.ListFault.{ListFault}
use Rattle.smil_grammar.specs.declared.fault.ListFault.TheVariants as list
use Rattle.smil_grammar.specs.Texts.{◌>>=◌, trim}
use Rattle.smil_grammar.specs.Words.{id_len}
use Rattle.smil_grammar.specs.Numbers.{number_of, with_fraction}
use Rattle.smil_grammar.specs.Clock.{clock_within}
use Rattle.smil_grammar.specs.Lists.{list_of}

-- A keyword is one of a few words, each with its value.
abbrev pub keyword : {A : Type 0} → List (List ℕ × A) → List ℕ → Option A
keyword [] text = None
keyword (word ∷ words) text = if bytes_eq text word.0 then Some word.1 else keyword words text

-- the first of two readings that gives a value
abbrev pub either : {A : Type 0} → Option A → Option A → Option A
either (Some x) other = Some x
either None other = other

-- an id that is all of the text
abbrev pub id_of : List ℕ → Option (List ℕ)
id_of text =
    if not (length text == 0) && (id_len false text == length text) then Some text else None

-- a clock value or `indefinite`
abbrev pub time_of : List ℕ → Option Time
time_of text =
    either (keyword ((codes "indefinite", time.Indefinite) ∷ []) text)
    (option_map (λ n. time.At (pos n)) (clock_within text))

-- a clock value, `media` or `indefinite`
abbrev pub dur_of : List ℕ → Option Dur
dur_of text =
    either (keyword ((codes "media", dur.Media) ∷ (codes "indefinite", dur.Indefinite) ∷ []) text)
    (option_map (λ n. dur.Clock (pos n)) (clock_within text))

-- a number that is above 0
abbrev pub above_zero : ℕ → Option ℕ
above_zero n = if n == 0 then None else Some n

-- a clock value above 0 or `indefinite`
abbrev pub repeat_dur_of : List ℕ → Option Time
repeat_dur_of text =
    either (keyword ((codes "indefinite", time.Indefinite) ∷ []) text)
    (option_map (λ n. time.At (pos n)) (clock_within text >>= above_zero))

-- at most so many digits
abbrev pub short_number_of : List ℕ → Option ℕ
short_number_of digits = if nat_lt DIGITS (length digits) then None else number_of digits

-- a number and its decimals in thousandths: those past the third are dropped
abbrev pub thousandths : ℕ × ℕ → ℕ
thousandths n = n.0 * 1000 + n.1

-- a number of repetitions above 0 or `indefinite`
abbrev pub repeat_count_of : List ℕ → Option Count
repeat_count_of text =
    either (keyword ((codes "indefinite", count.Indefinite) ∷ []) text)
    (option_map count.Thousandths
    (option_map thousandths (with_fraction short_number_of 100 text) >>= above_zero))

-- `always`, `whenNotActive`, `never` or `default`
abbrev pub restart_of : List ℕ → Option Restart
restart_of text =
    keyword
    ((codes "always", restart.Always) ∷ (codes "whenNotActive", restart.WhenNotActive)
    ∷ (codes "never", restart.Never) ∷ (codes "default", restart.ByDefault) ∷ [])
    text

-- `remove`, `freeze`, `hold`, `auto` or `default`
abbrev pub fill_of : List ℕ → Option Fill
fill_of text =
    keyword
    ((codes "remove", fill.Remove) ∷ (codes "freeze", fill.Freeze) ∷ (codes "hold", fill.Hold)
    ∷ (codes "auto", fill.Auto) ∷ (codes "default", fill.ByDefault) ∷ [])
    text

-- `always`, `whenNotActive`, `never` or `inherit`
abbrev pub restart_default_of : List ℕ → Option RestartDefault
restart_default_of text =
    keyword
    ((codes "always", restart_default.Always)
    ∷ (codes "whenNotActive", restart_default.WhenNotActive)
    ∷ (codes "never", restart_default.Never) ∷ (codes "inherit", restart_default.Inherit) ∷ [])
    text

-- `remove`, `freeze`, `hold`, `auto` or `inherit`
abbrev pub fill_default_of : List ℕ → Option FillDefault
fill_default_of text =
    keyword
    ((codes "remove", fill_default.Remove) ∷ (codes "freeze", fill_default.Freeze)
    ∷ (codes "hold", fill_default.Hold) ∷ (codes "auto", fill_default.Auto)
    ∷ (codes "inherit", fill_default.Inherit) ∷ [])
    text

-- the name of an attribute that a set sets
abbrev pub attribute_name_of : List ℕ → Option (List ℕ)
attribute_name_of text = if is_attribute_name text then Some text else None

-- `last`, `first`, `all` or the id of a child: keywords go before ids
abbrev pub endsync_of : List ℕ → Option Endsync
endsync_of text =
    either
    (keyword
    ((codes "last", endsync.Last) ∷ (codes "first", endsync.First) ∷ (codes "all", endsync.All)
    ∷ [])
    text)
    (option_map endsync.Child (id_of text))

-- what is done where a peer of the class begins: `stop`, `pause`, `defer` or `never`
abbrev pub peers_of : List ℕ → Option Act
peers_of text =
    keyword
    ((codes "stop", act.Stop) ∷ (codes "pause", act.Pause) ∷ (codes "defer", act.Defer)
    ∷ (codes "never", act.Never) ∷ [])
    text

-- what is done where an element of a higher class begins: `stop` or `pause`
abbrev pub higher_of : List ℕ → Option Act
higher_of text = keyword ((codes "stop", act.Stop) ∷ (codes "pause", act.Pause) ∷ []) text

-- what is done where an element of a lower class begins: `defer` or `never`
abbrev pub lower_of : List ℕ → Option Act
lower_of text = keyword ((codes "defer", act.Defer) ∷ (codes "never", act.Never) ∷ []) text

-- a text that is kept as it is: UTF-8 without quotes and control characters
abbrev pub kept_of : List ℕ → Option (List ℕ)
kept_of text = if is_utf8 text && list_all is_kept text then Some text else None

-- a plain text
abbrev pub text_of : TextName → List ℕ → Option (List ℕ)
text_of TargetElement text = id_of (trim text)
text_of AttributeName text = attribute_name_of (trim text)
text_of _ text = kept_of text

-- values of SMIL that are left out
abbrev pub is_other_value : AttrName → List ℕ → Bool
is_other_value name.Min text = bytes_eq text (codes "media")
is_other_value name.Max text = bytes_eq text (codes "media")
is_other_value name.Endsync text = bytes_eq text (codes "media")
is_other_value name.Fill text = bytes_eq text (codes "transition")
is_other_value name.FillDefault text = bytes_eq text (codes "transition")
is_other_value _ text = false

-- faults of lists have their own places
abbrev pub of_list :
    {A : Type 0} → (List Item → A) → Result (List Item) ListFault → Result A AttrFault
of_list made (Ok items) = Ok (made items)
of_list made (Err (list.Bad place)) = Err (BadValue place)
of_list made (Err (list.Unsupported place)) = Err (UnsupportedValue place)
of_list made (Err list.TooManyItems) = Err TooManyItems
of_list made (Err list.Memory) = Err Memory

-- a fault of any other value stands at its first byte
abbrev pub of_value : {A B : Type 0} → (A → B) → Option A → Result B AttrFault
of_value made value = ok_or (option_map made value) (BadValue 0)

-- a value, without the white space at its ends where that is ignored;
-- the first argument says that it is read for a child of a seq
abbrev pub plain_value_of : Bool → AttrName → List ℕ → Result Attr AttrFault
plain_value_of in_seq name.Id text = of_value attr.Id (id_of text)
plain_value_of in_seq name.Begin text = of_list attr.Begin (list_of in_seq text)
plain_value_of in_seq name.Dur text = of_value attr.Dur (dur_of (trim text))
plain_value_of in_seq name.End text = of_list attr.End (list_of false text)
plain_value_of in_seq name.Min text = of_value (λ n. attr.Min (pos n)) (clock_within (trim text))
plain_value_of in_seq name.Max text = of_value attr.Max (time_of (trim text))
plain_value_of in_seq name.RepeatCount text = of_value attr.RepeatCount (repeat_count_of (trim text))
plain_value_of in_seq name.RepeatDur text = of_value attr.RepeatDur (repeat_dur_of (trim text))
plain_value_of in_seq name.Restart text = of_value attr.Restart (restart_of (trim text))
plain_value_of in_seq name.Fill text = of_value attr.Fill (fill_of (trim text))
plain_value_of in_seq name.RestartDefault text =
    of_value attr.RestartDefault (restart_default_of (trim text))
plain_value_of in_seq name.FillDefault text =
    of_value attr.FillDefault (fill_default_of (trim text))
plain_value_of in_seq name.Endsync text = of_value attr.Endsync (endsync_of (trim text))
plain_value_of in_seq name.Peers text = of_value attr.Peers (peers_of (trim text))
plain_value_of in_seq name.Higher text = of_value attr.Higher (higher_of (trim text))
plain_value_of in_seq name.Lower text = of_value attr.Lower (lower_of (trim text))
plain_value_of in_seq (name.Text n) text = of_value (attr.Text n) (text_of n text)

-- a value, where it isn't left out
abbrev pub value_of : Bool → AttrName → List ℕ → Result Attr AttrFault
value_of in_seq name text =
    if is_other_value name (trim text) then Err (UnsupportedValue 0)
    else plain_value_of in_seq name text
