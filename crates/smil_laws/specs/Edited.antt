-- An edit that leaves the references as they were changes the document only below the time parent
-- of what it edits; so the diary stays until that time parent begins.
use Rattle.std.specs.Prelude.{◌≡◌, ℕ, List, reverse, true, false, ◌==◌, Some}
use Rattle.std.specs.List.{list_any}
use Rattle.smil_model.specs.declared.document.Attr.{Attr}
use Rattle.smil_model.specs.declared.document.AttrName.{AttrName}
use Rattle.smil_model.specs.declared.document.Node.{Node}
use Rattle.smil_model.specs.document.Document.{Document, is_below, elements, node_at, time_parent, element_named, serial_of}
use Rattle.smil_model.specs.document.Valid.{IsNumberedTree, IsDistinct}
use Rattle.smil_model.specs.document.Dependencies.{leads_to, is_sync_with, all_items}
use Rattle.smil_laws.specs.Locality.{ParentsBefore}
use Rattle.smil_model.specs.declared.diary.LogEntry.{LogEntry}
use Rattle.smil_model.specs.happening.Resolution.{Progress, outset, after_steps, Reaches, resolved, diary_of}
use Rattle.smil_model.specs.document.Edits.{attr_set, attr_unset, node_removed, node_inserted}
use Rattle.smil_model.specs.declared.document.Attrs.{Attrs}
use Rattle.smil_model.specs.declared.document.Kind.{Kind}
use Rattle.smil_laws.specs.Agreement.{DifferBelow, course_on}
use Rattle.smil_model.specs.reach.Bounds.{has_begun, through_begin}

-- an id names the same serial before and after, and each reference of every other element that both
-- documents have is looped in both or in none
pub record KeepsReferences (edited : ℕ) (old new : List Node) : Type 0 where
  pub ids : (id : List ℕ) → serial_of (element_named old id) ≡ serial_of (element_named new id)
  pub loops : (e : Node) (x : ℕ) → node_at (elements old) e.serial ≡ Some e
      → node_at (elements new) e.serial ≡ Some e → e.serial == edited ≡ false
      → list_any (is_sync_with old x) (all_items old e) ≡ true
      → leads_to old e.serial x ≡ leads_to new e.serial x

-- in the document parents stand before their children, and no serial is given twice
pub record IsOrdered (nodes : List Node) : Type 0 where
  pub first : ParentsBefore (reverse nodes)
  pub distinct : IsDistinct nodes

-- an edit: setting or unsetting an attribute of a node, a new node under a parent at a place,
-- or a node taken away
pub data Edit : Type 0 where
  sets : ℕ → Attr → Edit
  unsets : ℕ → AttrName → Edit
  inserts : ℕ → ℕ → Kind → Attrs → Edit
  removes : ℕ → Edit

abbrev pub edited : Document → Edit → Document
edited document (sets serial given) = attr_set document serial given
edited document (unsets serial given) = attr_unset document serial given
edited document (inserts under place kind attrs) = node_inserted document under place kind attrs
edited document (removes serial) = node_removed document serial

-- the node that is edited, and the nodes that it stands among:
-- for an insertion those of the new document
abbrev pub edited_node : Document → Edit → ℕ
edited_node document (sets serial given) = serial
edited_node document (unsets serial given) = serial
edited_node document (inserts under place kind attrs) = document.next
edited_node document (removes serial) = serial

abbrev pub nodes_with : Document → Edit → List Node
nodes_with document (inserts under place kind attrs) =
    (node_inserted document under place kind attrs).nodes
nodes_with document _ = document.nodes

-- an edit of a node with a time parent, by which references stay as they are
pub record IsQuietEdit (document : Document) (edit : Edit) (parent : Node) : Type 0 where
  pub old : IsNumberedTree document
  pub new : IsNumberedTree (edited document edit)
  pub under : time_parent (nodes_with document edit) (edited_node document edit) ≡ Some parent
  pub references :
      KeepsReferences (edited_node document edit) document.nodes (edited document edit).nodes

-- it changes the document only below that time parent
abbrev pub EditDiffersBelow : Type 0
EditDiffersBelow =
    (document : Document) (edit : Edit) (parent : Node) → IsQuietEdit document edit parent
    → DifferBelow (is_below (nodes_with document edit) parent.serial) parent.serial document.nodes
    (edited document edit).nodes

-- so the old diary, and what is resolved for the new document,
-- agree through the first begin of the time parent
abbrev pub EditAgreesThroughBegin : Type 0
EditAgreesThroughBegin =
    (document : Document) (edit : Edit) (parent : Node) (log : List LogEntry) (last k : ℕ)
    → IsQuietEdit document edit parent
    → (r : Progress) × Reaches (course_on (edited document edit).nodes log last) r
    × (r.diary ≡ through_begin parent.serial
    (after_steps (course_on document.nodes log last) k outset).diary)

-- and wholly where it does not begin
abbrev pub EditKeepsDiary : Type 0
EditKeepsDiary =
    (document : Document) (edit : Edit) (parent : Node) (log : List LogEntry) (last : ℕ)
    → IsQuietEdit document edit parent
    → has_begun (resolved (course_on document.nodes log last)).diary parent.serial ≡ false
    → diary_of (course_on document.nodes log last)
    ≡ diary_of (course_on (edited document edit).nodes log last)
