-- What an order makes of a presentation: the new state, or the first refusal that holds;
-- and the views that it changes.
use Rattle.std.specs.Prelude.{◌≡◌, ℕ, zero, suc, ◌+◌, pos, int_le, List, [], ◌∷◌, ◌++◌, length, map, filter, find, Bool, true, false, not, ◌&&◌, ◌||◌, ◌==◌, nat_lt, nat_le, if◌then◌else◌, Option, Some, None, is_some, Result, Ok, Err, unwrap_or, nat_abs}
use Rattle.smil_model.specs.declared.times.TheConstants.{HORIZON}
use Rattle.smil_model.specs.declared.limits.TheConstants.{LOG_ENTRIES, DEPTH, SERIALS}
use Rattle.smil_model.specs.declared.diary.Entry.{Entry}
use Rattle.smil_model.specs.declared.diary.LogEntry.{LogEntry}
use Rattle.smil_model.specs.declared.diary.Happening.{Happening}
use Rattle.smil_model.specs.declared.diary.Happening.TheVariants as happening
use Rattle.smil_model.specs.declared.document.Node.{Node}
use Rattle.smil_model.specs.declared.document.Kind.{Kind}
use Rattle.smil_model.specs.declared.document.Attr.{Attr}
use Rattle.smil_model.specs.declared.document.Attr.TheVariants as attr
use Rattle.smil_model.specs.declared.document.AttrName.{AttrName}
use Rattle.smil_model.specs.declared.document.Attrs.{Attrs}
use Rattle.smil_model.specs.declared.order.Refusal.{Refusal}
use Rattle.smil_model.specs.declared.order.Refusal.TheVariants.{TooDeep, BadPlace, DuplicateId, TooManyElements, TooManyReferences, NoElement, Root, NotContinuous, LogFull, BeyondHorizon, DiaryFull}
use Rattle.smil_model.specs.declared.order.Who.{Who}
use Rattle.smil_model.specs.declared.order.Who.TheVariants.{Id, Serial}
use Rattle.smil_model.specs.declared.order.Order.{Order}
use Rattle.smil_model.specs.declared.order.Order.TheVariants as order
use Rattle.smil_model.specs.declared.order.Order.TheVariants.{Advance, Seek, Set, Unset, Insert, Remove, Show, Text, Save, Values, Stack}
use Rattle.smil_model.specs.declared.view.State.{State}
use Rattle.smil_model.specs.declared.view.State.TheVariants as state
use Rattle.smil_model.specs.declared.view.Shown.{Shown}
use Rattle.smil_model.specs.declared.view.Shown.TheVariants as shown
use Rattle.smil_model.specs.declared.view.View.{View}
use Rattle.smil_model.specs.document.Limits.{Limits, limits}
use Rattle.smil_model.specs.document.Document.{Document, has_id, node_at, elements, is_element, is_continuous}
use Rattle.smil_model.specs.document.Valid.{IsValid, depth_of, kind_of, may_stand, agree_with, is_id_taken, references}
use Rattle.smil_model.specs.document.Edits.{attr_set, attr_unset, node_inserted, node_removed, children}
use Rattle.smil_model.specs.diary.Logs.{is_log, is_logged_by}
use Rattle.smil_model.specs.diary.Diary.{History}
use Rattle.smil_model.specs.happening.Resolution.{Course, diary_within, resolved}
use Rattle.smil_model.specs.shown.Views.{views, blank}

-- the whole state of a presentation: its document, its log and its moment
pub record Presentation : Type 0 where
  pub document : Document
  pub log : List LogEntry
  pub now : ℕ

-- a state: a valid document, a log no entry of which is later than the moment,
-- and a moment up to the horizon
pub record IsState (p : Presentation) : Type 0 where
  pub document : IsValid p.document
  pub log : is_log p.log ≡ true
  pub logged : is_logged_by (pos p.now) p.log ≡ true
  pub now : int_le (pos p.now) HORIZON ≡ true

abbrev pub course_of : Presentation → Course
course_of p = record { nodes = p.document.nodes; log = p.log; last = p.now }

-- the presentation as it was at an earlier moment, or as it will be without further orders
abbrev pub as_of : Presentation → ℕ → Presentation
as_of p moment = record { document = p.document; log = p.log; now = moment }

-- what has happened by the present moment, with the diary made anew from the document and the log
abbrev pub resolved_history : Presentation → History
resolved_history p =
    record { nodes = p.document.nodes; log = p.log; diary = (resolved (course_of p)).diary }

-- the views at the present moment
abbrev pub views_of : Presentation → List View
views_of p = views (resolved_history p) (pos p.now)

-- ---- views that differ

abbrev pub state_code : State → ℕ
state_code state.Idle = 0
state_code state.Waiting = 1
state_code state.Active = 2
state_code state.Paused = 3
state_code state.Deferred = 4
state_code state.Frozen = 5
state_code state.Done = 6

abbrev pub shown_eq : Shown → Shown → Bool
shown_eq shown.Nothing shown.Nothing = true
shown_eq shown.Indefinite shown.Indefinite = true
shown_eq shown.Unresolved shown.Unresolved = true
shown_eq shown.Standing shown.Standing = true
shown_eq (shown.At x) (shown.At y) = int_le x y && int_le y x
shown_eq _ _ = false

-- whether two views are the same
abbrev pub view_eq : View → View → Bool
view_eq v w =
    (v.serial == w.serial)
    && (state_code v.state == state_code w.state)
    && shown_eq v.begin w.begin
    && shown_eq v.«end» w.«end»
    && (v.iteration == w.iteration)
    && (v.finished == w.finished)

-- the view of the same element before; blank where it was not there
abbrev pub view_before : List View → View → View
view_before before v = unwrap_or (find (λ (w : View). w.serial == v.serial) before) (blank v.serial)

-- the views that differ from those before
abbrev pub changed : List View → List View → List View
changed before after = filter (λ v. not (view_eq v (view_before before v))) after

abbrev pub at_moment : ℕ → List View → List (ℕ × View)
at_moment moment vs = map (λ v. (moment, v)) vs

-- of an advance: for each moment passed, the views that differ from the moment before
abbrev pub changes_through : Presentation → ℕ → List (ℕ × View)
changes_through p zero = []
changes_through p (suc k) =
    changes_through p k
    ++ at_moment (suc (p.now + k))
    (changed (views_of (as_of p (p.now + k))) (views_of (as_of p (suc (p.now + k)))))

-- of every other order that changes something: the views after it that differ from those before
abbrev pub changes_between : Presentation → Presentation → List (ℕ × View)
changes_between before after = at_moment after.now (changed (views_of before) (views_of after))

-- of a load: before it every view is blank
abbrev pub changes_of_load : Presentation → List (ℕ × View)
changes_of_load loaded = at_moment loaded.now (changed [] (views_of loaded))

-- the changes of an accepted order; `show` tells every view,
-- and orders that tell something else change nothing
abbrev pub changes_of : Presentation → Presentation → Order → List (ℕ × View)
changes_of before after (Advance by) = changes_through before (nat_abs by)
changes_of before after Show = at_moment after.now (views_of after)
changes_of before after (order.History who) = []
changes_of before after Text = []
changes_of before after Save = []
changes_of before after order.Diary = []
changes_of before after Values = []
changes_of before after (Stack who name) = []
changes_of before after _ = changes_between before after

-- the elements of a document that another doesn't have
abbrev pub gone_from : List Node → List Node → List Node
gone_from after before =
    filter (λ (n : Node). not (is_some (node_at after n.serial))) (elements before)

-- the elements that an order removed, in the old document order
abbrev pub gone_elements : Presentation → Presentation → List Node
gone_elements before after = gone_from after.document.nodes before.document.nodes

-- ---- refusals

-- goes on with what was made, unless it was refused
abbrev pub and_then : {A B : Type 0} → Result A Refusal → (A → Result B Refusal) → Result B Refusal
and_then (Ok x) next = next x
and_then (Err refusal) next = Err refusal

-- goes on unless this holds
abbrev pub unless : {A : Type 0} → Bool → Refusal → A → Result A Refusal
unless refused refusal x = if refused then Err refusal else Ok x

-- the new state, unless its diary would have too many entries
abbrev pub kept_where : Presentation → Option (List Entry) → Result Presentation Refusal
kept_where p None = Err DiaryFull
kept_where p (Some diary) = Ok p

abbrev pub unless_too_full : Limits → Presentation → Result Presentation Refusal
unless_too_full allowed p = kept_where p (diary_within allowed.entries (course_of p))

-- ---- moments and the log

-- the state at another moment, unless that is beyond the horizon
abbrev pub at_moment_with : Limits → Presentation → ℕ → List LogEntry → Result Presentation Refusal
at_moment_with allowed p moment log =
    and_then
    (unless (not (int_le (pos moment) HORIZON)) BeyondHorizon
    (record { document = p.document; log = log; now = moment }))
    (unless_too_full allowed)

-- the clock moves on by so many milliseconds
abbrev pub advanced : Limits → Presentation → ℕ → Result Presentation Refusal
advanced allowed p by = at_moment_with allowed p (p.now + by) p.log

-- a seek to a later moment plays through; one to an earlier moment removes the log entries later
-- than its target
abbrev pub after_seek : Limits → Presentation → ℕ → Result Presentation Refusal
after_seek allowed p to =
    at_moment_with allowed p to (filter (λ (entry : LogEntry). int_le entry.moment (pos to)) p.log)

-- an event, a length or a key joins the log at the present moment, unless the log is full
abbrev pub with_logged : Limits → Presentation → Happening → Result Presentation Refusal
with_logged allowed p what =
    and_then
    (unless (not (nat_lt (length p.log) LOG_ENTRIES)) LogFull (record {
      document = p.document;
      log = p.log ++ record { moment = pos p.now; what = what } ∷ [];
      now = p.now;
    }))
    (unless_too_full allowed)

-- ---- the node that an order names

abbrev pub node_of : List Node → Who → Option Node
node_of nodes (Id id) = find (λ (n : Node). has_id id n.attrs.id) nodes
node_of nodes (Serial serial) = node_at nodes serial

abbrev pub found : Option Node → Result Node Refusal
found None = Err NoElement
found (Some n) = Ok n

-- goes on with that node, where there is one
abbrev pub on_node :
    {A : Type 0} → Presentation → Who → (Node → Result A Refusal) → Result A Refusal
on_node p who next = and_then (found (node_of p.document.nodes who)) next

-- ---- edits of the document

-- how values and node lines are read, and how the outline is written;
-- columns are counted from 1 in the order's line
pub record Formats : Type 0 where
  -- the attribute of a node of this kind under this parent, by its name and its value,
  -- with the columns of both
  pub read_attr : Kind → Option Kind → List ℕ → List ℕ → ℕ → ℕ → Result Attr Refusal
  -- the name of an attribute of a node of this kind, with its column
  pub read_name : Kind → List ℕ → ℕ → Result AttrName Refusal
  -- the kind of a node line, with the column of the line
  pub read_kind : List ℕ → ℕ → Result Kind Refusal
  -- the attributes of a node line under a parent of this kind
  pub read_attrs : Kind → List ℕ → ℕ → Result Attrs Refusal
  -- the canonical outline
  pub outline : List Node → List ℕ
  -- the canonical outline with the serials of the nodes and the next serial
  pub saved : Document → List ℕ

abbrev pub id_in : Attr → Option (List ℕ)
id_in (attr.Id id) = Some id
id_in _ = None

-- refused where another node has the id, or where too many items refer to something
abbrev pub set_checked : Limits → Document → Node → Attr → Result Document Refusal
set_checked allowed document n given =
    and_then
    (unless (is_id_taken document.nodes n.serial (id_in given)) DuplicateId
    (attr_set document n.serial given))
    (λ (after : Document). unless
    (nat_lt allowed.references (references after.nodes)) TooManyReferences after)

abbrev pub attr_set_by :
    Limits → Formats → Document → Node → List ℕ → List ℕ → ℕ → ℕ → Result Document Refusal
attr_set_by allowed formats document n name value name_column value_column =
    and_then
    (formats.read_attr n.kind
    (kind_of (node_at document.nodes n.parent)) name value name_column value_column)
    (set_checked allowed document n)

abbrev pub attr_unset_by : Formats → Document → Node → List ℕ → ℕ → Result Document Refusal
attr_unset_by formats document n name column =
    and_then (formats.read_name n.kind name column)
    (λ given. Ok (attr_unset document n.serial given))

-- a place among the children of a node, from 1 to one more than they are
abbrev pub is_place : List Node → ℕ → ℕ → Bool
is_place nodes parent place = nat_lt 0 place && nat_le place (suc (length (children nodes parent)))

-- where a child of this kind may be inserted
abbrev pub may_insert : Document → Node → ℕ → Kind → Result Kind Refusal
may_insert document p place kind =
    and_then
    (unless (not (nat_lt (suc (depth_of document.nodes p.serial)) DEPTH)) TooDeep kind)
    (λ k.
    unless
    (not (is_place document.nodes p.serial place && may_stand (Some p.kind) k
    && agree_with document.nodes p.serial k))
    BadPlace
    k)

-- refused where another node has the id, where there are too many nodes or no serial is left,
-- or where too many items refer to something
abbrev pub insert_checked : Limits → Document → ℕ → ℕ → Kind → Attrs → Result Document Refusal
insert_checked allowed document parent place kind attrs =
    and_then
    (unless (is_id_taken document.nodes document.next attrs.id) DuplicateId
    (node_inserted document parent place kind attrs))
    (λ (after : Document).
    and_then
    (unless (nat_lt allowed.nodes (length after.nodes)
    || nat_le SERIALS document.next) TooManyElements after)
    (λ (checked : Document). unless
    (nat_lt allowed.references (references checked.nodes)) TooManyReferences checked))

abbrev pub node_inserted_by :
    Limits → Formats → Document → Node → ℕ → List ℕ → ℕ → Result Document Refusal
node_inserted_by allowed formats document p place line column =
    and_then
    (and_then (formats.read_kind line column) (may_insert document p place))
    (λ kind. and_then (formats.read_attrs p.kind line column)
    (insert_checked allowed document p.serial place kind))

-- the root stays
abbrev pub node_removed_from : Document → Node → Result Document Refusal
node_removed_from document n = unless (n.parent == 0) Root (node_removed document n.serial)

-- an edited document is resolved from moment 0, with the same log
abbrev pub resolved_with : Limits → Presentation → Document → Result Presentation Refusal
resolved_with allowed p document =
    unless_too_full allowed (record { document = document; log = p.log; now = p.now })

-- ---- orders

-- a load opens a presentation at moment 0 with an empty log
abbrev pub opened_within : Limits → Document → Result Presentation Refusal
opened_within allowed document =
    unless_too_full allowed (record { document = document; log = []; now = 0 })

-- the new state within limits, or the first refusal that holds
abbrev pub outcome_within : Limits → Formats → Presentation → Order → Result Presentation Refusal
outcome_within allowed formats p (Advance by) = advanced allowed p (nat_abs by)
outcome_within allowed formats p (Seek to) = after_seek allowed p (nat_abs to)
outcome_within allowed formats p (order.Event who name) =
    on_node p who
    (λ (n : Node).
    and_then (unless (not (is_element n)) BadPlace n)
    (λ (e : Node). with_logged allowed p (happening.Event e.serial name)))
outcome_within allowed formats p (order.Media who length) =
    on_node p who
    (λ (n : Node).
    and_then
    (unless (not (is_continuous n.kind)) NotContinuous n)
    (λ (e : Node). with_logged allowed p (happening.Media e.serial length)))
outcome_within allowed formats p (order.Key key) = with_logged allowed p (happening.Key key)
outcome_within allowed formats p (Set who name value name_column value_column) =
    on_node p who
    (λ n. and_then (attr_set_by allowed formats p.document n name value name_column value_column)
    (resolved_with allowed p))
outcome_within allowed formats p (Unset who name column) =
    on_node p who
    (λ n. and_then (attr_unset_by formats p.document n name column) (resolved_with allowed p))
outcome_within allowed formats p (Insert who place line column) =
    on_node p who
    (λ n. and_then (node_inserted_by allowed formats p.document n place line column)
    (resolved_with allowed p))
outcome_within allowed formats p (Remove who) =
    on_node p who (λ n. and_then (node_removed_from p.document n) (resolved_with allowed p))
outcome_within allowed formats p Show = Ok p
outcome_within allowed formats p (order.History who) =
    on_node p who (λ (n : Node). unless (not (is_element n)) BadPlace p)
outcome_within allowed formats p Text = Ok p
outcome_within allowed formats p Save = Ok p
outcome_within allowed formats p order.Diary = Ok p
outcome_within allowed formats p Values = Ok p
outcome_within allowed formats p (Stack who name) = on_node p who (λ n. Ok p)

-- the same within the limits that hold
abbrev pub opened : Document → Result Presentation Refusal
opened document = opened_within limits document

abbrev pub outcome : Formats → Presentation → Order → Result Presentation Refusal
outcome formats p given = outcome_within limits formats p given
