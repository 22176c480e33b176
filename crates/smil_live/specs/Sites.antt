-- Where an edit takes place, and how many entries of the diary stay by it.
use Rattle.std.specs.Prelude.{◌≡◌, ℕ, suc, ◌+◌, List, length}
use Rattle.smil_model.specs.declared.document.Node.{Node}
use Rattle.smil_model.specs.declared.order.Order.{Order}
use Rattle.smil_model.specs.declared.order.Order.TheVariants as order
use Rattle.smil_model.specs.document.Document.{Document, elements, time_parent}
use Rattle.smil_model.specs.shown.Orders.{Presentation}
use Rattle.smil_laws.specs.Edited.{Edit, edited, edited_node, nodes_with}
use Rattle.smil_live.specs.Counts.{agreed_under, diary_at, edited_serial, reached_behind}
use Rattle.smil_live.specs.Moves.{edited_to}
use Rattle.smil_revision.specs.References.{keeps_references}
use Rattle.smil_live.specs.declared.edits.Site.{Site}
use Rattle.smil_live.specs.declared.edits.Site.TheVariants as site

-- the serial of the edited node
abbrev pub site_serial : Document → Site → ℕ
site_serial before (site.Old serial) = serial
site_serial before site.New = before.next

-- the nodes that it stands among
abbrev pub site_nodes : Document → Document → Site → List Node
site_nodes before after (site.Old serial) = before.nodes
site_nodes before after site.New = after.nodes

-- the next serial after an edit
abbrev pub site_next : Document → Site → ℕ
site_next before (site.Old serial) = before.next
site_next before site.New = suc before.next

-- a document becomes another by an edit at a site
pub record IsMade (before : Document) (at : Site) (after : Document) : Type 0 where
  pub edit : Edit
  pub document_is : edited before edit ≡ after
  pub serial_is : edited_node before edit ≡ site_serial before at
  pub nodes_are : nodes_with before edit ≡ site_nodes before after at
  pub next_is : after.next ≡ site_next before at

-- where an order edits
abbrev pub site_of : Document → Order → Site
site_of document (order.Insert who place line column) = site.New
site_of document given = site.Old (edited_serial document given)

-- how many entries stay by an edit at a site
abbrev pub staying : Presentation → Document → Site → ℕ
staying before after at =
    agreed_under
    (keeps_references (site_serial before.document at) before.document.nodes after.nodes)
    (time_parent (site_nodes before.document after at) (site_serial before.document at))
    (diary_at before)

-- each element of the edited document once, and the reaches of the entries that do not stay
abbrev pub most_resolving : Presentation → Site → Document → ℕ
most_resolving before at after =
    length (elements after.nodes)
    + reached_behind (staying before after at) (edited_to before after)
