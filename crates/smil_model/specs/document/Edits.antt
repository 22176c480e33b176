-- Edits of a document, as edits of its list of nodes.
use Rattle.std.specs.Prelude.{ℕ, suc, ◌+◌, ◌-◌, List, map, filter, insert, length, position, not, ◌==◌, if◌then◌else◌, Option, Some, None, unwrap_or, slice_get}
use Rattle.smil_model.specs.declared.document.Node.{Node}
use Rattle.smil_model.specs.declared.document.Attrs.{Attrs}
use Rattle.smil_model.specs.declared.document.Attr.{Attr}
use Rattle.smil_model.specs.declared.document.Attr.TheVariants as attr
use Rattle.smil_model.specs.declared.document.AttrName.{AttrName}
use Rattle.smil_model.specs.declared.document.AttrName.TheVariants as name
use Rattle.smil_model.specs.declared.document.Kind.{Kind}
use Rattle.smil_model.specs.document.Document.{Document, is_within}
use Rattle.smil_model.specs.document.Texts.{no_texts, with_text}

-- every attribute is absent
abbrev pub no_attrs : Attrs
no_attrs = record {
  id = None;
  begin = None;
  dur = None;
  «end» = None;
  min = None;
  max = None;
  repeat_count = None;
  repeat_dur = None;
  restart = None;
  fill = None;
  restart_default = None;
  fill_default = None;
  endsync = None;
  peers = None;
  higher = None;
  lower = None;
  texts = no_texts;
}

-- the attributes with this one set
abbrev pub with_attr : Attrs → Attr → Attrs
with_attr attrs (attr.Id v) = record attrs { id = Some v }
with_attr attrs (attr.Begin v) = record attrs { begin = Some v }
with_attr attrs (attr.Dur v) = record attrs { dur = Some v }
with_attr attrs (attr.End v) = record attrs { «end» = Some v }
with_attr attrs (attr.Min v) = record attrs { min = Some v }
with_attr attrs (attr.Max v) = record attrs { max = Some v }
with_attr attrs (attr.RepeatCount v) = record attrs { repeat_count = Some v }
with_attr attrs (attr.RepeatDur v) = record attrs { repeat_dur = Some v }
with_attr attrs (attr.Restart v) = record attrs { restart = Some v }
with_attr attrs (attr.Fill v) = record attrs { fill = Some v }
with_attr attrs (attr.RestartDefault v) = record attrs { restart_default = Some v }
with_attr attrs (attr.FillDefault v) = record attrs { fill_default = Some v }
with_attr attrs (attr.Endsync v) = record attrs { endsync = Some v }
with_attr attrs (attr.Peers v) = record attrs { peers = Some v }
with_attr attrs (attr.Higher v) = record attrs { higher = Some v }
with_attr attrs (attr.Lower v) = record attrs { lower = Some v }
with_attr attrs (attr.Text n v) = record attrs { texts = with_text attrs.texts n (Some v) }

-- the attributes with this one absent
abbrev pub without_attr : Attrs → AttrName → Attrs
without_attr attrs name.Id = record attrs { id = None }
without_attr attrs name.Begin = record attrs { begin = None }
without_attr attrs name.Dur = record attrs { dur = None }
without_attr attrs name.End = record attrs { «end» = None }
without_attr attrs name.Min = record attrs { min = None }
without_attr attrs name.Max = record attrs { max = None }
without_attr attrs name.RepeatCount = record attrs { repeat_count = None }
without_attr attrs name.RepeatDur = record attrs { repeat_dur = None }
without_attr attrs name.Restart = record attrs { restart = None }
without_attr attrs name.Fill = record attrs { fill = None }
without_attr attrs name.RestartDefault = record attrs { restart_default = None }
without_attr attrs name.FillDefault = record attrs { fill_default = None }
without_attr attrs name.Endsync = record attrs { endsync = None }
without_attr attrs name.Peers = record attrs { peers = None }
without_attr attrs name.Higher = record attrs { higher = None }
without_attr attrs name.Lower = record attrs { lower = None }
without_attr attrs (name.Text n) = record attrs { texts = with_text attrs.texts n None }

-- the nodes with the attributes of one changed
abbrev pub changed_at : (Attrs → Attrs) → ℕ → List Node → List Node
changed_at change serial nodes =
    map (λ (n : Node). if n.serial == serial then record n { attrs = change n.attrs } else n) nodes

-- the document with an attribute of a node set
abbrev pub attr_set : Document → ℕ → Attr → Document
attr_set document serial given =
    record document { nodes = changed_at (λ attrs. with_attr attrs given) serial document.nodes }

-- the document with an attribute of a node absent
abbrev pub attr_unset : Document → ℕ → AttrName → Document
attr_unset document serial given =
    record document { nodes = changed_at (λ attrs. without_attr attrs given) serial document.nodes }

-- the document without a node and its descendants
abbrev pub node_removed : Document → ℕ → Document
node_removed document serial =
    record document {
      nodes = filter (λ (n : Node). not (is_within document.nodes serial n.serial)) document.nodes;
    }

-- the children of a node in the outline, priorityClasses included
abbrev pub children : List Node → ℕ → List Node
children nodes parent = filter (λ (n : Node). n.parent == parent) nodes

-- the place of a node in the list, from 0
abbrev pub place_in : List Node → ℕ → ℕ
place_in nodes serial = unwrap_or (position (λ (n : Node). n.serial == serial) nodes) (length nodes)

-- where a child stands, or behind the last descendant of the parent
abbrev pub child_place : List Node → ℕ → Option Node → ℕ
child_place nodes parent (Some child) = place_in nodes child.serial
child_place nodes parent None =
    place_in nodes parent + length (filter (λ (n : Node). is_within nodes parent n.serial) nodes)

-- the document with a new child of a node at a place, from 1 to one more than its children;
-- the new node takes the next serial
abbrev pub node_inserted : Document → ℕ → ℕ → Kind → Attrs → Document
node_inserted document parent place kind attrs = record {
  nodes =
      insert document.nodes
      (child_place document.nodes parent (slice_get (children document.nodes parent) (place - 1)))
      (record { serial = document.next; kind = kind; parent = parent; attrs = attrs });
  next = suc document.next;
}
