-- References to the begin of a root that begins by itself: what a wall clock item is rewritten to.
use Rattle.std.specs.Prelude.{◌≡◌, ℕ, ℤ, pos, ◌==◌, List, Bool, true, false, Option, Some, None, slice_get}
use Rattle.std.specs.List.{Contains, list_any}
use Rattle.smil_model.specs.declared.times.Time.TheVariants.{At}
use Rattle.smil_model.specs.declared.diary.Entry.{Entry}
use Rattle.smil_model.specs.declared.diary.LogEntry.{LogEntry}
use Rattle.smil_model.specs.declared.diary.StepKind.TheVariants as kind
use Rattle.smil_model.specs.declared.interval.Interval.{Interval}
use Rattle.smil_model.specs.declared.document.Node.{Node}
use Rattle.smil_model.specs.declared.document.Edge.{Edge}
use Rattle.smil_model.specs.declared.document.Edge.TheVariants.{Begin, End}
use Rattle.smil_model.specs.declared.document.Item.TheVariants.{Sync}
use Rattle.smil_model.specs.document.Limits.{Limits}
use Rattle.smil_model.specs.document.Document.{Document, elements, node_at, ancestors}
use Rattle.smil_model.specs.document.Defaults.{items_of}
use Rattle.smil_model.specs.document.Valid.{IsValidWithin}
use Rattle.smil_model.specs.diary.Diary.{History, is_alive, is_step}
use Rattle.smil_model.specs.diary.Clocks.{outer}
use Rattle.smil_model.specs.interval.Instances.{begin_times, end_times}
use Rattle.smil_model.specs.interval.Current.{current_interval}
use Rattle.smil_model.specs.shown.Orders.{Presentation, IsState, resolved_history}
use Rattle.smil_laws.specs.Resolved.{history_after}

-- the root, which is the first node, has this id and states no begin
pub record IsAnchor (root : Node) (id : List ℕ) (nodes : List Node) : Type 0 where
  pub first : slice_get nodes 0 ≡ Some root
  pub named : root.attrs.id ≡ Some id
  pub plain : root.attrs.begin ≡ None

-- whether an element was paused at some time
abbrev pub was_paused : List Entry → ℕ → Bool
was_paused diary serial = list_any (λ (x : Entry). is_step kind.Paused serial x.step) diary

-- whether an ancestor was
abbrev pub was_paused_above : History → ℕ → Bool
was_paused_above h serial =
    list_any (λ (a : Node). was_paused h.diary a.serial) (ancestors h.nodes serial)

-- an alive element other than the root, no ancestor of which was paused so far
pub record RanSinceStart (h : History) (root e : Node) : Type 0 where
  pub here : node_at (elements h.nodes) e.serial ≡ Some e
  pub other : e.serial == root.serial ≡ false
  pub alive : is_alive h e.serial ≡ true
  pub unpaused : was_paused_above h e.serial ≡ false

-- whether a number is one of the instance times of the begin or the end list
abbrev pub IsInstance : History → (ℕ → Option Interval) → ℤ → Node → Edge → ℤ → Type 0
IsInstance h intervals now e Begin value = Contains (begin_times h intervals now e) value
IsInstance h intervals now e End value = Contains (end_times h intervals now e) (At value)

-- the offset is an instance time, on the clock of the time parent, which shows document time
pub record GivesOffset
    (h : History) (intervals : ℕ → Option Interval) (now : ℤ) (e : Node) (side : Edge) (offset : ℤ)
    : Type 0 where
  pub instance : IsInstance h intervals now e side offset
  pub clock : (moment : ℤ) → outer h e.serial moment ≡ moment

-- after each step of a resolution, by whatever intervals of the others:
-- a reference to the begin of the root, with an offset, gives the offset
abbrev pub ReferencesGiveOffsets : Type 0
ReferencesGiveOffsets =
    (allowed : Limits) (document : Document) (log : List LogEntry) (last steps : ℕ)
    (intervals : ℕ → Option Interval) (now : ℤ) (root e : Node) (id : List ℕ) (side : Edge)
    (offset : ℤ)
    → IsValidWithin allowed document
    → IsAnchor root id document.nodes
    → RanSinceStart (history_after document log last steps) root e
    → Contains (items_of document.nodes side e) (Sync id Begin offset)
    → GivesOffset (history_after document log last steps) intervals now e side offset

-- so it is in a presentation
abbrev pub PresentedReferencesGiveOffsets : Type 0
PresentedReferencesGiveOffsets =
    (p : Presentation) (root e : Node) (id : List ℕ) (side : Edge) (offset : ℤ)
    → IsState p
    → IsAnchor root id p.document.nodes
    → RanSinceStart (resolved_history p) root e
    → Contains (items_of p.document.nodes side e) (Sync id Begin offset)
    → GivesOffset (resolved_history p) (current_interval (resolved_history p) (pos p.now))
    (pos p.now) e side offset
