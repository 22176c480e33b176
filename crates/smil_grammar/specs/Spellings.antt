-- The one printed spelling of each value, and of outlines.
use Rattle.std.specs.Prelude.{ℕ, zero, suc, ◌+◌, ◌*◌, ◌/◌, ◌%◌, ℤ, pos, negsuc, nat_abs, List, [], ◌∷◌, ◌++◌, replicate, flat_map, Option, Some, None, option_map, ◌==◌, if◌then◌else◌, codes, decimal}
use Rattle.smil_model.specs.declared.document.Kind.{Kind}
use Rattle.smil_model.specs.declared.document.Item.{Item}
use Rattle.smil_model.specs.declared.document.Item.TheVariants.{Offset, Sync, Event, Repeat, Key, Indefinite}
use Rattle.smil_model.specs.declared.document.Edge.{Edge}
use Rattle.smil_model.specs.declared.document.Edge.TheVariants.{Begin, End}
use Rattle.smil_model.specs.declared.document.Dur.{Dur}
use Rattle.smil_model.specs.declared.document.Dur.TheVariants as dur
use Rattle.smil_model.specs.declared.document.Count.{Count}
use Rattle.smil_model.specs.declared.document.Count.TheVariants as count
use Rattle.smil_model.specs.declared.document.Restart.{Restart}
use Rattle.smil_model.specs.declared.document.Restart.TheVariants as restart
use Rattle.smil_model.specs.declared.document.Fill.{Fill}
use Rattle.smil_model.specs.declared.document.Fill.TheVariants as fill
use Rattle.smil_model.specs.declared.document.RestartDefault.{RestartDefault}
use Rattle.smil_model.specs.declared.document.RestartDefault.TheVariants as restart_default
use Rattle.smil_model.specs.declared.document.FillDefault.{FillDefault}
use Rattle.smil_model.specs.declared.document.FillDefault.TheVariants as fill_default
use Rattle.smil_model.specs.declared.document.Endsync.{Endsync}
use Rattle.smil_model.specs.declared.document.Endsync.TheVariants as endsync
use Rattle.smil_model.specs.declared.document.Act.{Act}
use Rattle.smil_model.specs.declared.document.Act.TheVariants as act
use Rattle.smil_model.specs.declared.document.Attrs.{Attrs}
use Rattle.smil_model.specs.declared.document.Attr.{Attr}
use Rattle.smil_model.specs.declared.document.Attr.TheVariants as attr
use Rattle.smil_model.specs.declared.document.AttrName.{AttrName}
use Rattle.smil_model.specs.declared.document.AttrName.TheVariants as name
use Rattle.smil_model.specs.Times.{IsNear}
use Rattle.smil_model.specs.document.Texts.{text_at}
use Rattle.smil_grammar.specs.declared.words.TheConstants.{ACCESS_KEY, HEADER}
use Rattle.smil_model.specs.declared.times.Time.{Time}
use Rattle.smil_model.specs.declared.times.Time.TheVariants as time
use Rattle.smil_grammar.specs.Texts.{space, quote, plus, minus, point, semicolon, backslash, zero_digit}
use Rattle.smil_grammar.specs.Words.{is_dash}
use Rattle.smil_grammar.specs.Clock.{clock_text}
use Rattle.smil_grammar.specs.Attributes.{kind_text, name_text, names}

-- an id in a reference: a backslash before each `.` and `-`
abbrev pub escaped : List ℕ → List ℕ
escaped id = flat_map (λ b. if is_dash b then backslash ∷ b ∷ [] else b ∷ []) id

-- an offset: its clock value, with `-` before it where it is negative
abbrev pub offset_text : ℤ → List ℕ
offset_text (pos n) = clock_text n
offset_text (negsuc n) = minus ∷ clock_text (suc n)

-- a tail: a sign and the clock value, left out where it is 0
abbrev pub tail_text : ℤ → List ℕ
tail_text (pos zero) = []
tail_text (pos (suc n)) = plus ∷ clock_text (suc n)
tail_text (negsuc n) = minus ∷ clock_text (suc n)

-- the reference of the element that an item names
abbrev pub of_who : Option (List ℕ) → List ℕ
of_who None = []
of_who (Some id) = escaped id ++ point ∷ []

-- `begin` or `end`
abbrev pub edge_text : Edge → List ℕ
edge_text Begin = codes "begin"
edge_text End = codes "end"

-- an item
abbrev pub item_text : Item → List ℕ
item_text (Offset offset) = offset_text offset
item_text (Sync who edge offset) = escaped who ++ point ∷ (edge_text edge ++ tail_text offset)
item_text (Event who name offset) = of_who who ++ (name ++ tail_text offset)
item_text (Repeat who n offset) =
    of_who who ++ (codes "repeat(" ++ decimal n ++ codes ")" ++ tail_text offset)
item_text (Key key offset) = ACCESS_KEY.now ++ (key ∷ []) ++ codes ")" ++ tail_text offset
item_text Indefinite = codes "indefinite"

-- a list: its items joined by `;`
abbrev pub list_text : List Item → List ℕ
list_text [] = []
list_text (x ∷ []) = item_text x
list_text (x ∷ y ∷ items) = item_text x ++ semicolon ∷ list_text (y ∷ items)

-- a `dur`
abbrev pub dur_text : Dur → List ℕ
dur_text (dur.Clock n) = clock_text (nat_abs n)
dur_text dur.Media = codes "media"
dur_text dur.Indefinite = codes "indefinite"

-- a time; one that is unresolved has no spelling
abbrev pub time_text : Time → List ℕ
time_text (time.At n) = clock_text (nat_abs n)
time_text time.Indefinite = codes "indefinite"
time_text time.Unresolved = []

-- three digits without the zeros at their end
abbrev pub decimals : ℕ → List ℕ
decimals n =
    if n == 0 then []
    else (if n % 100 == 0 then point ∷ (zero_digit + n / 100) ∷ []
    else (if n % 10 == 0 then point ∷ (zero_digit + n / 100) ∷ (zero_digit + n / 10 % 10) ∷ []
    else point ∷ (zero_digit + n / 100) ∷ (zero_digit + n / 10 % 10) ∷ (zero_digit + n % 10) ∷ []))

-- a `repeatCount`
abbrev pub count_text : Count → List ℕ
count_text (count.Thousandths n) = decimal (n / 1000) ++ decimals (n % 1000)
count_text count.Indefinite = codes "indefinite"

-- a `restart`
abbrev pub restart_text : Restart → List ℕ
restart_text restart.Always = codes "always"
restart_text restart.WhenNotActive = codes "whenNotActive"
restart_text restart.Never = codes "never"
restart_text restart.ByDefault = codes "default"

-- a `fill`
abbrev pub fill_text : Fill → List ℕ
fill_text fill.Remove = codes "remove"
fill_text fill.Freeze = codes "freeze"
fill_text fill.Hold = codes "hold"
fill_text fill.Auto = codes "auto"
fill_text fill.ByDefault = codes "default"

-- a `restartDefault`
abbrev pub restart_default_text : RestartDefault → List ℕ
restart_default_text restart_default.Always = codes "always"
restart_default_text restart_default.WhenNotActive = codes "whenNotActive"
restart_default_text restart_default.Never = codes "never"
restart_default_text restart_default.Inherit = codes "inherit"

-- a `fillDefault`
abbrev pub fill_default_text : FillDefault → List ℕ
fill_default_text fill_default.Remove = codes "remove"
fill_default_text fill_default.Freeze = codes "freeze"
fill_default_text fill_default.Hold = codes "hold"
fill_default_text fill_default.Auto = codes "auto"
fill_default_text fill_default.Inherit = codes "inherit"

-- an `endsync`
abbrev pub endsync_text : Endsync → List ℕ
endsync_text endsync.Last = codes "last"
endsync_text endsync.First = codes "first"
endsync_text endsync.All = codes "all"
endsync_text (endsync.Child id) = id

-- a `peers`, `higher` or `lower`
abbrev pub act_text : Act → List ℕ
act_text act.Stop = codes "stop"
act_text act.Pause = codes "pause"
act_text act.Defer = codes "defer"
act_text act.Never = codes "never"

-- the printed spelling of an attribute's value
abbrev pub attr_text : Attr → List ℕ
attr_text (attr.Id id) = id
attr_text (attr.Begin items) = list_text items
attr_text (attr.Dur d) = dur_text d
attr_text (attr.End items) = list_text items
attr_text (attr.Min n) = clock_text (nat_abs n)
attr_text (attr.Max t) = time_text t
attr_text (attr.RepeatCount c) = count_text c
attr_text (attr.RepeatDur t) = time_text t
attr_text (attr.Restart r) = restart_text r
attr_text (attr.Fill f) = fill_text f
attr_text (attr.RestartDefault r) = restart_default_text r
attr_text (attr.FillDefault f) = fill_default_text f
attr_text (attr.Endsync e) = endsync_text e
attr_text (attr.Peers a) = act_text a
attr_text (attr.Higher a) = act_text a
attr_text (attr.Lower a) = act_text a
attr_text (attr.Text n text) = text

-- the attribute of this name, where it is there
abbrev pub attr_at : Attrs → AttrName → Option Attr
attr_at a name.Id = option_map attr.Id a.id
attr_at a name.Begin = option_map attr.Begin a.begin
attr_at a name.Dur = option_map attr.Dur a.dur
attr_at a name.End = option_map attr.End a.end
attr_at a name.Min = option_map attr.Min a.min
attr_at a name.Max = option_map attr.Max a.max
attr_at a name.RepeatCount = option_map attr.RepeatCount a.repeat_count
attr_at a name.RepeatDur = option_map attr.RepeatDur a.repeat_dur
attr_at a name.Restart = option_map attr.Restart a.restart
attr_at a name.Fill = option_map attr.Fill a.fill
attr_at a name.RestartDefault = option_map attr.RestartDefault a.restart_default
attr_at a name.FillDefault = option_map attr.FillDefault a.fill_default
attr_at a name.Endsync = option_map attr.Endsync a.endsync
attr_at a name.Peers = option_map attr.Peers a.peers
attr_at a name.Higher = option_map attr.Higher a.higher
attr_at a name.Lower = option_map attr.Lower a.lower
attr_at a (name.Text n) = option_map (attr.Text n) (text_at a.texts n)

-- the spelling of an attribute's value, where it is there
abbrev pub value_text : Attrs → AttrName → Option (List ℕ)
value_text attrs n = option_map attr_text (attr_at attrs n)

-- an attribute that is there stands behind a space
abbrev pub attribute_text : AttrName → Option (List ℕ) → List ℕ
attribute_text n None = []
attribute_text n (Some value) = space ∷ (name_text n ++ codes "=\"" ++ value ++ quote ∷ [])

-- the attributes that are there, in their order
abbrev pub attributes_text : Attrs → List ℕ
attributes_text attrs = flat_map (λ n. attribute_text n (value_text attrs n)) names

-- a node line: two spaces for each level, the kind, and the attributes
abbrev pub node_text : ℕ → Kind → Attrs → List ℕ
node_text depth kind attrs = replicate (2 * depth) space ++ kind_text kind ++ attributes_text attrs

-- the same with the node's serial behind the kind
abbrev pub saved_node_text : ℕ → Kind → ℕ → Attrs → List ℕ
saved_node_text depth kind serial attrs =
    replicate (2 * depth) space ++ kind_text kind ++ codes " #" ++ decimal serial
    ++ attributes_text attrs

-- the header of an outline with serials
abbrev pub header_text : ℕ → List ℕ
header_text next = HEADER.now ++ decimal next

-- an item that can be written
abbrev pub CanWrite : Item → Type 0
CanWrite (Offset offset) = IsNear offset
CanWrite (Sync who edge offset) = IsNear offset
CanWrite (Event who name offset) = IsNear offset
CanWrite (Repeat who n offset) = IsNear offset
CanWrite (Key key offset) = IsNear offset
CanWrite Indefinite = Unit {0}
