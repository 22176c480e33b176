-- Documents that are the same but for their plain texts (`src`, `region`, `alt`, `title`,
-- `targetElement`, `attributeName`, `to`): all times are the same.
-- What a set gives to another node is no time; it follows from the last three, and no law here
-- tells of it.
use Rattle.std.specs.Prelude.{◌≡◌, ℕ, ℤ, List, map, Option}
use Rattle.smil_model.specs.declared.diary.Entry.{Entry}
use Rattle.smil_model.specs.declared.diary.LogEntry.{LogEntry}
use Rattle.smil_model.specs.declared.interval.Interval.{Interval}
use Rattle.smil_model.specs.declared.document.Node.{Node}
use Rattle.smil_model.specs.declared.document.Attr.TheVariants as attr
use Rattle.smil_model.specs.declared.document.AttrName.TheVariants as name
use Rattle.smil_model.specs.declared.texts.TextName.{TextName}
use Rattle.smil_model.specs.document.Document.{Document}
use Rattle.smil_model.specs.document.Texts.{no_texts}
use Rattle.smil_model.specs.document.Dependencies.{leads_to}
use Rattle.smil_model.specs.document.Edits.{attr_set, attr_unset}
use Rattle.smil_model.specs.diary.Diary.{History, deferral, is_alive, iteration}
use Rattle.smil_model.specs.diary.Clocks.{outer, run}
use Rattle.smil_model.specs.diary.Plays.{plays}
use Rattle.smil_model.specs.interval.Instances.{begin_times, end_times}
use Rattle.smil_model.specs.interval.Current.{current_interval, interval_given}
use Rattle.smil_model.specs.happening.Keys.{Change, coming}
use Rattle.smil_model.specs.happening.Groups.{group}
use Rattle.smil_model.specs.happening.Queue.{queue_of}
use Rattle.smil_model.specs.happening.Resolution.{Progress, after_steps, diary_within}
use Rattle.smil_model.specs.reach.Reach.{reach}
use Rattle.smil_model.specs.reach.Bounds.{reaches}
use Rattle.smil_model.specs.shown.Views.{views}
use Rattle.smil_model.specs.shown.Histories.{intervals_of}
use Rattle.smil_model.specs.shown.Orders.{Presentation, course_of, resolved_history, views_of}
use Rattle.smil_laws.specs.Agreement.{course_on}

-- a node with every plain text absent
abbrev pub without_texts : Node → Node
without_texts node = record node { attrs = record node.attrs { texts = no_texts } }

abbrev pub bare : List Node → List Node
bare nodes = map without_texts nodes

-- two documents are the same but for their plain texts
abbrev pub DifferInTexts : List Node → List Node → Type 0
DifferInTexts old new = bare old ≡ bare new

-- what has happened, in a document
abbrev pub history_in : List Node → List LogEntry → List Entry → History
history_in nodes log diary = record { nodes = nodes; log = log; diary = diary }

-- ---- by the same log and the same diary

-- what the diary says of the element with a serial: whether it is alive, what defers it, its plays,
-- its iteration and its clocks; and the queue, if it is an excl
pub record IsReadSame (h k : History) (serial : ℕ) : Type 0 where
  pub alive : is_alive h serial ≡ is_alive k serial
  pub deferral : deferral h serial ≡ deferral k serial
  pub plays : plays h serial ≡ plays k serial
  pub iteration : iteration h serial ≡ iteration k serial
  pub clock : (moment : ℤ) → run h serial moment ≡ run k serial moment
  pub outer : (moment : ℤ) → outer h serial moment ≡ outer k serial moment
  pub queue : queue_of h serial ≡ queue_of k serial

abbrev pub ReadingsAreSame : Type 0
ReadingsAreSame =
    (old new : List Node) (log : List LogEntry) (diary : List Entry) (serial : ℕ)
    → DifferInTexts old new
    → IsReadSame (history_in old log diary) (history_in new log diary) serial

-- the instance times of an element, and its interval, given those of the others
pub record IsTimedSame
    (h k : History) (intervals : ℕ → Option Interval) (now : ℤ) (e f : Node) : Type 0 where
  pub begins : begin_times h intervals now e ≡ begin_times k intervals now f
  pub ends : end_times h intervals now e ≡ end_times k intervals now f
  pub interval : interval_given h intervals now e ≡ interval_given k intervals now f

abbrev pub ElementsAreTimedSame : Type 0
ElementsAreTimedSame =
    (old new : List Node) (log : List LogEntry) (diary : List Entry)
    (intervals : ℕ → Option Interval) (now : ℤ) (e f : Node)
    → DifferInTexts old new
    → without_texts e ≡ without_texts f
    → IsTimedSame (history_in old log diary) (history_in new log diary) intervals now e f

-- the current interval of each element, what comes, and all views
pub record IsSameAt (h k : History) (now : ℤ) : Type 0 where
  pub intervals : (serial : ℕ) → current_interval h now serial ≡ current_interval k now serial
  pub coming : coming h now ≡ coming k now
  pub views : views h now ≡ views k now

abbrev pub MomentsAreSame : Type 0
MomentsAreSame =
    (old new : List Node) (log : List LogEntry) (diary : List Entry) (now : ℤ)
    → DifferInTexts old new
    → IsSameAt (history_in old log diary) (history_in new log diary) now

-- the intervals of an element, as the order `history` lists them
abbrev pub ListedIntervalsAreSame : Type 0
ListedIntervalsAreSame =
    (old new : List Node) (log : List LogEntry) (diary : List Entry) (now : ℤ) (e f : Node)
    → DifferInTexts old new
    → without_texts e ≡ without_texts f
    → intervals_of (history_in old log diary) now e ≡ intervals_of (history_in new log diary) now f

-- the group of entries of a happening
abbrev pub GroupsAreSame : Type 0
GroupsAreSame =
    (old new : List Node) (log : List LogEntry) (diary : List Entry) (moment : ℤ) (serial : ℕ)
    (change : Change)
    → DifferInTexts old new
    → group (history_in old log diary) moment serial change
    ≡ group (history_in new log diary) moment serial change

-- ---- of the documents alone

-- the references that are looped
abbrev pub LoopsAreSame : Type 0
LoopsAreSame =
    (old new : List Node) (e x : ℕ) → DifferInTexts old new → leads_to old e x ≡ leads_to new e x

-- the reach of each entry, and the sum of the reaches of several
pub record IsReachedSame (old new : List Node) (log : List LogEntry) : Type 0 where
  pub each : (entry : Entry) → reach old log entry ≡ reach new log entry
  pub all : (entries : List Entry) → reaches old log entries ≡ reaches new log entries

abbrev pub ReachesAreSame : Type 0
ReachesAreSame =
    (old new : List Node) (log : List LogEntry)
    → DifferInTexts old new
    → IsReachedSame old new log

-- ---- resolutions

-- the resolutions are the same, step by step
abbrev pub StepsAreSame : Type 0
StepsAreSame =
    (old new : List Node) (log : List LogEntry) (last steps : ℕ) (from : Progress)
    → DifferInTexts old new
    → after_steps (course_on old log last) steps from
    ≡ after_steps (course_on new log last) steps from

-- so the diaries are, within each limit on their entries, and so within the one that holds,
-- by which `diary_of` is defined
abbrev pub DiariesAreSame : Type 0
DiariesAreSame =
    (old new : List Node) (log : List LogEntry) (last entries : ℕ)
    → DifferInTexts old new
    → diary_within entries (course_on old log last) ≡ diary_within entries (course_on new log last)

-- the presentation with another document
abbrev pub with_document : Presentation → Document → Presentation
with_document p document = record { document = document; log = p.log; now = p.now }

-- so a presentation has the same diary, or none in both, and shows the same
pub record IsPresentedSame (p q : Presentation) : Type 0 where
  pub diary : (resolved_history p).diary ≡ (resolved_history q).diary
  pub full : (entries : ℕ) → diary_within entries (course_of p) ≡ diary_within entries (course_of q)
  pub views : views_of p ≡ views_of q

abbrev pub PresentedIsSame : Type 0
PresentedIsSame =
    (p : Presentation) (document : Document)
    → DifferInTexts p.document.nodes document.nodes
    → IsPresentedSame p (with_document p document)

-- ---- edits

-- a plain text that is set, or taken away
pub record ForTextEdits
    (P : Document → Type 0) (document : Document) (serial : ℕ) (given : TextName) (text : List ℕ)
    : Type 0 where
  pub set : P (attr_set document serial (attr.Text given text))
  pub unset : P (attr_unset document serial (name.Text given))

-- the rest of the document stays
abbrev pub TextEditsLeaveRest : Type 0
TextEditsLeaveRest =
    (document : Document) (serial : ℕ) (given : TextName) (text : List ℕ)
    → ForTextEdits (λ (after : Document). DifferInTexts document.nodes after.nodes)
    document serial given text

-- so the diary stays, and what is shown
abbrev pub TextEditsKeepPresented : Type 0
TextEditsKeepPresented =
    (p : Presentation) (serial : ℕ) (given : TextName) (text : List ℕ)
    → ForTextEdits (λ (after : Document). IsPresentedSame p (with_document p after))
    p.document serial given text
