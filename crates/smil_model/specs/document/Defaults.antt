-- What an absent or inherited attribute means.
use Rattle.std.specs.Prelude.{ℕ, ℤ, pos, List, [], ◌∷◌, filter, Bool, true, false, not, ◌||◌, if◌then◌else◌, Option, Some, None, is_some, unwrap_or, option_and_then}
use Rattle.smil_model.specs.declared.times.Time.{Time}
use Rattle.smil_model.specs.declared.times.Time.TheVariants.{At}
use Rattle.smil_model.specs.declared.times.Time.TheVariants as time
use Rattle.smil_model.specs.declared.document.Node.{Node}
use Rattle.smil_model.specs.declared.document.Attrs.{Attrs}
use Rattle.smil_model.specs.declared.document.Item.{Item}
use Rattle.smil_model.specs.declared.document.Item.TheVariants.{Offset, Indefinite}
use Rattle.smil_model.specs.declared.document.Edge.{Edge}
use Rattle.smil_model.specs.declared.document.Edge.TheVariants.{Begin, End}
use Rattle.smil_model.specs.declared.document.Dur.{Dur}
use Rattle.smil_model.specs.declared.document.Dur.TheVariants.{Media}
use Rattle.smil_model.specs.declared.document.Restart.{Restart}
use Rattle.smil_model.specs.declared.document.Restart.TheVariants.{Always, WhenNotActive, Never}
use Rattle.smil_model.specs.declared.document.Restart.TheVariants as restart
use Rattle.smil_model.specs.declared.document.RestartDefault.{RestartDefault}
use Rattle.smil_model.specs.declared.document.RestartDefault.TheVariants as restart_default
use Rattle.smil_model.specs.declared.document.Fill.{Fill}
use Rattle.smil_model.specs.declared.document.Fill.TheVariants.{Remove, Freeze, Hold, Auto}
use Rattle.smil_model.specs.declared.document.Fill.TheVariants as fill
use Rattle.smil_model.specs.declared.document.FillDefault.{FillDefault}
use Rattle.smil_model.specs.declared.document.FillDefault.TheVariants as fill_default
use Rattle.smil_model.specs.declared.document.Endsync.{Endsync}
use Rattle.smil_model.specs.declared.document.Endsync.TheVariants.{Last}
use Rattle.smil_model.specs.declared.document.Act.{Act}
use Rattle.smil_model.specs.declared.document.Act.TheVariants.{Stop, Pause, Defer}
use Rattle.smil_model.specs.Times.{time_le}
use Rattle.smil_model.specs.document.Document.{is_element, lineage, is_in_excl}

abbrev pub items_or : List Item → Option (List Item) → List Item
items_or without None = without
items_or without (Some items) = items

-- without `begin`, a child of an excl has the one item `indefinite`,
-- and any other element the one offset 0
abbrev pub begin_list : List Node → Node → List Item
begin_list nodes e =
    items_or (if is_in_excl nodes e.serial then Indefinite ∷ []
    else Offset (pos 0) ∷ []) e.attrs.begin

-- without `end` there is no end list
abbrev pub end_list : Node → List Item
end_list e = items_or [] e.attrs.«end»

-- the items of the begin or the end list of an element
abbrev pub items_of : List Node → Edge → Node → List Item
items_of nodes Begin e = begin_list nodes e
items_of nodes End e = end_list e

-- the list of `begin` or `end`, where it is stated
abbrev pub stated_list : Attrs → Edge → Option (List Item)
stated_list attrs Begin = attrs.begin
stated_list attrs End = attrs.«end»

-- whether the simple duration is the implicit one: with `dur="media"`,
-- and without `dur` unless there is an `end` and nothing that repeats
abbrev pub takes_implicit : Attrs → Option Dur → Bool
takes_implicit attrs (Some Media) = true
takes_implicit attrs (Some _) = false
takes_implicit attrs None =
    is_some attrs.repeat_count || is_some attrs.repeat_dur || not (is_some attrs.«end»)

-- `min` is 0 and `max` sets no bound by default
abbrev pub stated_min : Attrs → ℤ
stated_min attrs = unwrap_or attrs.min (pos 0)

abbrev pub stated_max : Attrs → Time
stated_max attrs = unwrap_or attrs.max time.Indefinite

-- where `max` is less than `min`, both count as absent
abbrev pub min_of : Attrs → ℤ
min_of attrs =
    if time_le (At (stated_min attrs)) (stated_max attrs) then stated_min attrs else pos 0

abbrev pub max_of : Attrs → Time
max_of attrs =
    if time_le (At (stated_min attrs)) (stated_max attrs) then stated_max attrs else time.Indefinite

-- ---- inherited defaults

-- what the first of these nodes that states a default states; where none does, the given value
abbrev pub first_stated : {A : Type 0} → (Node → Option A) → A → List Node → A
first_stated stated without [] = without
first_stated stated without (n ∷ above) =
    let rest = first_stated stated without above in unwrap_or (stated n) rest

-- a default that an element inherits: its own, or that of the nearest element above it that states
-- one
abbrev pub inherited : {A : Type 0} → List Node → (Node → Option A) → A → ℕ → A
inherited nodes stated without serial =
    first_stated stated without (filter is_element (lineage nodes serial))

-- the restart that `restartDefault` states; `inherit` states none
abbrev pub restart_stated : RestartDefault → Option Restart
restart_stated restart_default.Always = Some Always
restart_stated restart_default.WhenNotActive = Some WhenNotActive
restart_stated restart_default.Never = Some Never
restart_stated restart_default.Inherit = None

-- where no element on the way up states a default, an element may always restart
abbrev pub default_restart : List Node → ℕ → Restart
default_restart nodes serial = inherited nodes
    (λ (n : Node). option_and_then restart_stated n.attrs.restart_default) Always serial

-- what the attribute states, or the default where it is absent or `default`
abbrev pub restart_or : Restart → Option Restart → Restart
restart_or otherwise None = otherwise
restart_or otherwise (Some restart.ByDefault) = otherwise
restart_or otherwise (Some stated) = stated

-- the restart of an element
abbrev pub restart_of : List Node → Node → Restart
restart_of nodes e = restart_or (default_restart nodes e.serial) e.attrs.restart

-- the fill that `fillDefault` states; `inherit` states none
abbrev pub fill_stated : FillDefault → Option Fill
fill_stated fill_default.Remove = Some Remove
fill_stated fill_default.Freeze = Some Freeze
fill_stated fill_default.Hold = Some Hold
fill_stated fill_default.Auto = Some Auto
fill_stated fill_default.Inherit = None

-- where no element on the way up states a default, it is `auto`
abbrev pub default_fill : List Node → ℕ → Fill
default_fill nodes serial =
    inherited nodes (λ (n : Node). option_and_then fill_stated n.attrs.fill_default) Auto serial

-- what the attribute states, or the default where it is absent or `default`
abbrev pub fill_or : Fill → Option Fill → Fill
fill_or otherwise None = otherwise
fill_or otherwise (Some fill.ByDefault) = otherwise
fill_or otherwise (Some stated) = stated

-- the fill of an element
abbrev pub fill_of : List Node → Node → Fill
fill_of nodes e = fill_or (default_fill nodes e.serial) e.attrs.fill

-- `auto` freezes where nothing limits the duration
abbrev pub fill_when_auto : Attrs → Fill
fill_when_auto attrs =
    if is_some attrs.dur || is_some attrs.«end» || is_some attrs.repeat_count
    || is_some attrs.repeat_dur
    then Remove
    else Freeze

abbrev pub fill_by : Attrs → Fill → Fill
fill_by attrs Auto = fill_when_auto attrs
fill_by attrs fill = fill

-- the fill that holds, which is never `auto`
abbrev pub effective_fill : List Node → Node → Fill
effective_fill nodes e = fill_by e.attrs (fill_of nodes e)

-- ---- containers

-- a container ends with the last of its children
abbrev pub endsync_of : Attrs → Endsync
endsync_of attrs = unwrap_or attrs.endsync Last

-- an excl without a priorityClass has one class with these defaults: peers stop,
-- a higher class pauses, a lower one is deferred
abbrev pub peers_of : Option Node → Act
peers_of None = Stop
peers_of (Some class) = unwrap_or class.attrs.peers Stop

abbrev pub higher_of : Option Node → Act
higher_of None = Pause
higher_of (Some class) = unwrap_or class.attrs.higher Pause

abbrev pub lower_of : Option Node → Act
lower_of None = Defer
lower_of (Some class) = unwrap_or class.attrs.lower Defer
