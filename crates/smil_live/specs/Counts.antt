-- How often an order has intervals evaluated: at most, and at least.
use Rattle.std.specs.Prelude.{ℕ, ◌+◌, pos, nat_abs, nat_lt, List, drop, length, Bool, true, false, if◌then◌else◌, Option, Some, None, Result, Ok, Err}
use Rattle.std.specs.Str.{bytes_eq}
use Rattle.smil_model.specs.declared.diary.Entry.{Entry}
use Rattle.smil_model.specs.declared.document.Attr.{Attr}
use Rattle.smil_model.specs.declared.document.Attr.TheVariants as attr
use Rattle.smil_model.specs.declared.document.AttrName.{AttrName}
use Rattle.smil_model.specs.declared.document.AttrName.TheVariants as name
use Rattle.smil_model.specs.declared.document.Node.{Node}
use Rattle.smil_model.specs.declared.interval.Interval.{Interval}
use Rattle.smil_model.specs.declared.order.Order.{Order}
use Rattle.smil_model.specs.declared.order.Order.TheVariants as order
use Rattle.smil_model.specs.declared.order.Refusal.{Refusal}
use Rattle.smil_model.specs.document.Document.{Document, elements, node_at, time_parent}
use Rattle.smil_model.specs.document.Valid.{kind_of}
use Rattle.smil_model.specs.interval.Current.{current_interval}
use Rattle.smil_model.specs.reach.Bounds.{reaches, through_begin}
use Rattle.smil_model.specs.shown.Orders.{Presentation, node_of, on_node, outcome, resolved_history}
use Rattle.smil_grammar.specs.Formats.{formats}
use Rattle.smil_text_laws.specs.PlainTexts.{bare}
use Rattle.smil_cells.specs.CellsState.{any_interval, fresh}
use Rattle.smil_revision.specs.References.{keeps_references}

-- ---- what a state has

-- its diary from scratch
abbrev pub diary_at : Presentation → List Entry
diary_at p = (resolved_history p).diary

-- the current interval of an element
abbrev pub interval_by : Presentation → ℕ → Option Interval
interval_by p = current_interval (resolved_history p) (pos p.now)

abbrev pub element_count : Presentation → ℕ
element_count p = length (elements p.document.nodes)

-- the sum of the reaches of the entries of its diary behind the first ones
abbrev pub reached_behind : ℕ → Presentation → ℕ
reached_behind len p = reaches p.document.nodes p.log (drop len (diary_at p))

-- ---- a load

-- each element once, and the reaches of all entries
abbrev pub most_loading : Presentation → ℕ
most_loading p = element_count p + reached_behind 0 p

-- the elements that have an interval
abbrev pub least_loading : Presentation → ℕ
least_loading p = any_interval p.document.nodes (interval_by p)

-- ---- an order that goes on

-- the reaches of the entries that are appended
abbrev pub most_onward : Presentation → Presentation → ℕ
most_onward before after = reached_behind (length (diary_at before)) after

-- the elements that have an interval that they had not
abbrev pub least_onward : Presentation → Presentation → ℕ
least_onward before after = fresh before.document.nodes (interval_by before) (interval_by after)

-- ---- an edit

abbrev pub serial_or_0 : Option Node → ℕ
serial_or_0 None = 0
serial_or_0 (Some n) = n.serial

-- the serial of the node that an order edits: that of a new node is the next one
abbrev pub edited_serial : Document → Order → ℕ
edited_serial document (order.Set who name value name_column column) =
    serial_or_0 (node_of document.nodes who)
edited_serial document (order.Unset who name column) = serial_or_0 (node_of document.nodes who)
edited_serial document (order.Insert who place line column) = document.next
edited_serial document (order.Remove who) = serial_or_0 (node_of document.nodes who)
edited_serial document _ = 0

-- the nodes that the edited node stands among
abbrev pub nodes_with : Document → Document → Order → List Node
nodes_with before after (order.Insert who place line column) = after.nodes
nodes_with before after _ = before.nodes

-- how many entries stay: those through the first begin of the time parent, where the edit leaves
-- the references as they were
abbrev pub agreed_under : Bool → Option Node → List Entry → ℕ
agreed_under true (Some parent) diary = length (through_begin parent.serial diary)
agreed_under _ _ diary = 0

abbrev pub agreed : Presentation → Document → Order → ℕ
agreed before after given =
    let edited = edited_serial before.document given in
    agreed_under (keeps_references edited before.document.nodes after.nodes)
    (time_parent (nodes_with before.document after given) edited) (diary_at before)

-- whether an attribute is a plain text, on which no time depends
abbrev pub is_text : Result Attr Refusal → Bool
is_text (Ok (attr.Text given text)) = true
is_text _ = false

abbrev pub is_text_name : Result AttrName Refusal → Bool
is_text_name (Ok (name.Text given)) = true
is_text_name _ = false

-- whether an order sets a plain text of a node, or takes one away
abbrev pub edits_text : Presentation → Order → Bool
edits_text p (order.Set who name value name_column column) =
    is_text (on_node p who (λ (n : Node). formats.read_attr n.kind
    (kind_of (node_at p.document.nodes n.parent)) name value name_column column))
edits_text p (order.Unset who name column) =
    is_text_name (on_node p who (λ (n : Node). formats.read_name n.kind name column))
edits_text p _ = false

-- none where a plain text is edited, and else each element once, and the reaches of the entries
-- that do not stay
abbrev pub most_editing : Presentation → Presentation → Order → ℕ
most_editing before after given =
    if edits_text before given then 0
    else element_count after + reached_behind (agreed before after.document given) after

-- a document with every plain text absent
abbrev pub bare_document : Document → Document
bare_document document = record document { nodes = bare document.nodes }

-- whether two documents are saved as the same text but for plain texts
abbrev pub is_saved_alike : Document → Document → Bool
is_saved_alike one other =
    bytes_eq (formats.saved (bare_document one)) (formats.saved (bare_document other))

-- none where the document stays as it was but for plain texts, and else the elements that then have
-- an interval
abbrev pub least_editing : Presentation → Presentation → ℕ
least_editing before after =
    if is_saved_alike before.document after.document then 0 else least_loading after

-- ---- by the order

-- a backward seek: each element once
abbrev pub most_seeking : Bool → Presentation → Presentation → ℕ
most_seeking true before after = element_count after
most_seeking false before after = most_onward before after

abbrev pub most_between : Presentation → Order → Presentation → ℕ
most_between before (order.Advance by) after = most_onward before after
most_between before (order.Seek to) after =
    most_seeking (nat_lt (nat_abs to) before.now) before after
most_between before (order.Event who name) after = most_onward before after
most_between before (order.Media who len) after = most_onward before after
most_between before (order.Key key) after = most_onward before after
most_between before (order.Set who name value name_column column) after = most_editing before after
    (order.Set who name value name_column column)
most_between before (order.Unset who name column) after =
    most_editing before after (order.Unset who name column)
most_between before (order.Insert who place line column) after = most_editing before after
    (order.Insert who place line column)
most_between before (order.Remove who) after = most_editing before after (order.Remove who)
most_between before _ after = 0

-- a backward seek: the elements that then have an interval
abbrev pub least_seeking : Bool → Presentation → Presentation → ℕ
least_seeking true before after = least_loading after
least_seeking false before after = least_onward before after

abbrev pub least_between : Presentation → Order → Presentation → ℕ
least_between before (order.Advance by) after = least_onward before after
least_between before (order.Seek to) after =
    least_seeking (nat_lt (nat_abs to) before.now) before after
least_between before (order.Event who name) after = least_onward before after
least_between before (order.Media who len) after = least_onward before after
least_between before (order.Key key) after = least_onward before after
least_between before (order.Set who name value name_column column) after =
    least_editing before after
least_between before (order.Unset who name column) after = least_editing before after
least_between before (order.Insert who place line column) after = least_editing before after
least_between before (order.Remove who) after = least_editing before after
least_between before _ after = 0

-- a refused order has no bound to tell
abbrev pub when_accepted : Result Presentation Refusal → (Presentation → ℕ) → ℕ
when_accepted (Ok after) count = count after
when_accepted (Err refusal) count = 0

-- the greatest and the least number of evaluations for an order
abbrev pub most_number : Presentation → Order → ℕ
most_number before given = when_accepted (outcome formats before given) (most_between before given)

abbrev pub least_number : Presentation → Order → ℕ
least_number before given =
    when_accepted (outcome formats before given) (least_between before given)

-- a number, where it is told
abbrev pub told_where : Bool → ℕ → Option ℕ
told_where true number = Some number
told_where false number = None
