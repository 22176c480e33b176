-- What a graph reads of a document.
use Rattle.std.specs.Prelude.{pos, List, [], map, if◌then◌else◌, Some, option_map}
use Rattle.smil_model.specs.declared.document.Attrs.{Attrs}
use Rattle.smil_model.specs.declared.document.Dur.TheVariants as dur
use Rattle.smil_model.specs.declared.document.Item.{Item}
use Rattle.smil_model.specs.declared.document.Item.TheVariants.{Offset, Sync, Event, Repeat, Key, Indefinite}
use Rattle.smil_model.specs.declared.document.Node.{Node}
use Rattle.smil_model.specs.document.Defaults.{takes_implicit}
use Rattle.smil_model.specs.document.Edits.{no_attrs}

-- of an item its kind, the element and the edge that it names, and its key
abbrev pub reduced_item : Item → Item
reduced_item (Offset offset) = Offset (pos 0)
reduced_item (Sync who edge offset) = Sync who edge (pos 0)
reduced_item (Event who name offset) = Event who [] (pos 0)
reduced_item (Repeat who n offset) = Repeat who 0 (pos 0)
reduced_item (Key key offset) = Key key (pos 0)
reduced_item Indefinite = Indefinite

abbrev pub reduced_items : List Item → List Item
reduced_items items = map reduced_item items

-- of attributes the id, the items, and whether the simple duration is the implicit one
abbrev pub reduced_attrs : Attrs → Attrs
reduced_attrs attrs = record no_attrs {
  id = attrs.id;
  begin = option_map reduced_items attrs.begin;
  dur = Some (if takes_implicit attrs attrs.dur then dur.Media else dur.Indefinite);
  «end» = option_map reduced_items attrs.«end»;
}

abbrev pub reduced : Node → Node
reduced node = record node { attrs = reduced_attrs node.attrs }

abbrev pub all_reduced : List Node → List Node
all_reduced nodes = map reduced nodes
