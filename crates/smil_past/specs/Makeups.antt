-- What evaluation reads of the attributes of an element, and where the element stands.
use Rattle.std.specs.Prelude.{◌≡◌, ◌&&◌, ℕ, List, Bool, true, false, Option, None, Some, if◌then◌else◌, option_and_then, option_map, slice_get}
use Rattle.std.specs.List.{list_any}
use Rattle.smil_model.specs.declared.times.Time.{Time}
use Rattle.smil_model.specs.declared.document.Fill.{Fill}
use Rattle.smil_model.specs.declared.document.Fill.TheVariants.{Freeze}
use Rattle.smil_model.specs.declared.document.Attrs.{Attrs}
use Rattle.smil_model.specs.declared.document.Node.{Node}
use Rattle.smil_model.specs.document.Document.{Document, elements, node_at, serial_of, time_children, time_parent}
use Rattle.smil_model.specs.document.Edits.{place_in}
use Rattle.smil_model.specs.document.Valid.{IsNumberedTree}
use Rattle.smil_model.specs.document.Defaults.{effective_fill, restart_of, takes_implicit}
use Rattle.smil_model.specs.interval.Current.{end_list_of}
use Rattle.smil_model.specs.interval.Durations.{bounds_of, stated_duration}
use Rattle.smil_graph.specs.Tables.{takes_turns}
use Rattle.smil_past.specs.declared.makeup.Makeup.{Makeup}
use Rattle.smil_past.specs.declared.makeup.ParentIndex.{ParentIndex}

-- whether a fill keeps an element until it is displaced
abbrev pub is_freeze : Fill → Bool
is_freeze Freeze = true
is_freeze _ = false

-- the simple duration where it is not the implicit one
abbrev pub stated_simple : Attrs → Option Time
stated_simple attrs =
    if takes_implicit attrs attrs.dur then None else Some (stated_duration attrs.dur)

-- the time parent, with its index among the elements
abbrev pub parent_index : List Node → ℕ → Option ParentIndex
parent_index nodes serial =
    option_map
    (λ (p : Node). record { serial = p.serial; index = place_in (elements nodes) p.serial })
    (time_parent nodes serial)

-- whether an element freezes when it ends
abbrev pub freezes : List Node → Node → Bool
freezes nodes e = is_freeze (effective_fill nodes e)

-- whether an element is a seq or an excl of whose time children one freezes when it ends
abbrev pub keeps_children : List Node → Node → Bool
keeps_children nodes e =
    takes_turns (Some e) && list_any (freezes nodes) (time_children nodes e.serial)

abbrev pub makeup_of : List Node → Node → Makeup
makeup_of nodes e = record {
  simple = stated_simple e.attrs;
  bounds = bounds_of e.attrs;
  end_list = end_list_of e.attrs.«end»;
  restart = restart_of nodes e;
  fill = effective_fill nodes e;
  keeps_children = keeps_children nodes e;
  kind = e.kind;
  node = place_in nodes e.serial;
  parent = parent_index nodes e.serial;
}

-- a makeup leads to the element among the nodes, and to its time parent among the elements
pub record TellsPlaces (nodes : List Node) (e : Node) : Type 0 where
  pub own : slice_get nodes (makeup_of nodes e).node ≡ Some e
  pub parent :
      option_and_then (λ (p : ParentIndex). slice_get (elements nodes) p.index)
      (makeup_of nodes e).parent
      ≡ time_parent nodes e.serial
  pub serial : option_map (λ (p : ParentIndex). p.serial) (makeup_of nodes e).parent
      ≡ serial_of (time_parent nodes e.serial)

abbrev pub MakeupsTellPlaces : Type 0
MakeupsTellPlaces =
    (document : Document) (e : Node) → IsNumberedTree document
    → node_at (elements document.nodes) e.serial ≡ Some e → TellsPlaces document.nodes e
