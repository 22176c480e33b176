-- The queues of the elements of a document, and the classes of its nodes.
use Rattle.std.specs.Prelude.{◌≡◌, ℕ, ◌<◌, List, [], map, filter, length, Bool, true, false, ◌||◌, ◌==◌, if◌then◌else◌, Option, Some, None}
use Rattle.std.specs.List.{AllByRecursion, position, position_or_len}
use Rattle.std.specs.Option.{option_and_then}
use Rattle.smil_model.specs.declared.diary.Entry.{Entry}
use Rattle.smil_model.specs.declared.diary.LogEntry.{LogEntry}
use Rattle.smil_model.specs.declared.diary.Step.{Step}
use Rattle.smil_model.specs.declared.diary.Step.TheVariants.{Began, Deferred, Ended, Cut, Paused, Resumed}
use Rattle.smil_model.specs.declared.document.Node.{Node}
use Rattle.smil_model.specs.declared.happening.Class.{Class}
use Rattle.smil_model.specs.document.Document.{Document, is_excl_kind, serials, time_children, time_parent}
use Rattle.smil_model.specs.diary.Diary.{History}
use Rattle.smil_model.specs.diary.Lawful.{IsLawful, has_element, is_lawful_step}
use Rattle.smil_model.specs.happening.Queue.{queue_of, queue_after, class_facts, is_child_of, is_playing_by, without, put_paused, put_deferred}
use Rattle.smil_excl.specs.declared.queued_child.QueuedChild.{QueuedChild}
use Rattle.smil_excl.specs.QueueState.{QueueState, line_in, without as without_held}
use Rattle.smil_model.specs.diary.Diary.{with_entry}

-- the queues of all nodes, in document order; only those of excls are ever filled in a resolved
-- diary
abbrev pub lines : List Node → (ℕ → List ℕ) → List QueueState
lines nodes queue = map (λ (n : Node). line_in nodes n.serial (queue n.serial)) nodes

-- the classes of all nodes, in document order
abbrev pub classes_in : List Node → List Class
classes_in nodes = map (λ (n : Node). class_facts nodes n.serial) nodes

-- a child with its place in the document as its rank
abbrev pub placed : List Node → ℕ → QueuedChild
placed nodes who =
    record { who = who; rank = position_or_len (λ (n : Node). n.serial == who) nodes }

-- the time children of an excl that play, in child order; none for another node
abbrev pub playing_line : List Node → (ℕ → Bool) → Node → QueueState
playing_line nodes plays n =
    if is_excl_kind n.kind
    then record {
      held = map (placed nodes) (filter plays (serials (time_children nodes n.serial)));
      room = length (time_children nodes n.serial);
    }
    else record { held = []; room = 0 }

-- those of all nodes, in document order
abbrev pub playing_lines : List Node → (ℕ → Bool) → List QueueState
playing_lines nodes plays = map (playing_line nodes plays) nodes

-- what is kept of a document
pub record KeptQueues : Type 0 where
  pub queues : List QueueState
  pub playing : List QueueState
  pub classes : List Class

abbrev pub kept_queues : History → KeptQueues
kept_queues h = record {
  queues = lines h.nodes (queue_of h);
  playing = playing_lines h.nodes (is_playing_by h.diary);
  classes = classes_in h.nodes;
}

-- what is kept of a history of this document
pub record AreQueuesOf (kept : KeptQueues) (document : Document) (h : History) : Type 0 where
  pub nodes : h.nodes ≡ document.nodes
  pub value : kept ≡ kept_queues h

-- the element is in no queue
abbrev pub IsInNoQueue : History → ℕ → Type 0
IsInNoQueue h who = (excl : ℕ) → without who (queue_of h excl) ≡ queue_of h excl

-- the element that a step takes out of a queue is in none
abbrev pub WaitsNowhere : History → Step → Type 0
WaitsNowhere h (Began who begin) = IsInNoQueue h who
WaitsNowhere h (Deferred who begin) = IsInNoQueue h who
WaitsNowhere h (Ended who end') = IsInNoQueue h who
WaitsNowhere h (Cut who) = IsInNoQueue h who
WaitsNowhere h step = Unit {0}

-- it is in one only where it is said to wait
abbrev pub MayStand : History → Step → Bool → Type 0
MayStand h step waits = waits ≡ false → WaitsNowhere h step

-- a history of this document of which this is kept, which the entry may follow, and in which its
-- element may stand in a queue, or doesn't
pub record IsPastOf (kept : KeptQueues) (document : Document) (entry : Entry) (waits : Bool)
    (h : History) : Type 0 where
  pub known : AreQueuesOf kept document h
  pub lawful : IsLawful (with_entry h entry)
  pub stands : MayStand h entry.step waits

-- the history of a document to which nothing has happened yet
abbrev pub unplayed : List Node → List LogEntry → History
unplayed nodes log = record { nodes = nodes; log = log; diary = [] }

-- the queue without its children
abbrev pub emptied : QueueState → QueueState
emptied queue = record { held = []; room = queue.room }

-- ---- the queue of each element, by its serial, after a part of a step

-- whatever the queues were, they are what the change makes of them
abbrev pub AreTurned :
    List QueueState → List QueueState → List Node → ((ℕ → List ℕ) → ℕ → List ℕ) → Type 0
AreTurned old new nodes change =
    (queue : ℕ → List ℕ) → old ≡ lines nodes queue → new ≡ lines nodes (change queue)

-- the queue of this element is emptied
abbrev pub without_children : ℕ → (ℕ → List ℕ) → ℕ → List ℕ
without_children who queue serial = if who == serial then [] else queue serial

-- the element leaves the queue of its time parent
abbrev pub without_child : List Node → ℕ → (ℕ → List ℕ) → ℕ → List ℕ
without_child nodes who queue serial =
    if is_child_of nodes serial who then without who (queue serial) else queue serial

-- the element is put in the queue of its time parent
abbrev pub with_paused : List Node → ℕ → (ℕ → List ℕ) → ℕ → List ℕ
with_paused nodes who queue serial = if is_child_of nodes serial who then put_paused nodes who
    (queue serial) else queue serial

abbrev pub with_deferred : List Node → ℕ → (ℕ → List ℕ) → ℕ → List ℕ
with_deferred nodes who queue serial = if is_child_of nodes serial who then put_deferred nodes who
    (queue serial) else queue serial

-- the queues without the element are the same
abbrev pub AreWithout : ℕ → List QueueState → Type 0
AreWithout who kept = AllByRecursion (λ (q : QueueState). without_held who q.held ≡ q.held) kept

-- the queues of a document in which there is room for the element
pub record HasRoom (kept : List QueueState) (nodes : List Node) (who : ℕ) : Type 0 where
  pub queue : ℕ → List ℕ
  pub value : kept ≡ lines nodes queue
  pub room : (serial : ℕ) → is_child_of nodes serial who ≡ true
      → length (queue serial) < length (time_children nodes serial)

-- the queues of all elements after a step
abbrev pub queues_after : List Node → (ℕ → List ℕ) → Step → ℕ → List ℕ
queues_after nodes queue step serial = queue_after nodes serial (queue serial) step

-- the queues of a lawful history of these nodes, in which this step is lawful, and its element may
-- stand in a queue, or doesn't
pub record MayTakeIn (kept : List QueueState) (nodes : List Node) (step : Step) (waits : Bool)
    (h : History) : Type 0 where
  pub same_nodes : h.nodes ≡ nodes
  pub value : kept ≡ lines nodes (queue_of h)
  pub lawful : IsLawful h
  pub step_lawful : is_lawful_step h step ≡ true
  pub stands : MayStand h step waits

-- ---- the children that play

-- the time parent where it is an excl
abbrev pub excl_in : Option Node → Option Node
excl_in None = None
excl_in (Some p) = if is_excl_kind p.kind then Some p else None

-- its place in the document
abbrev pub excl_place : List Node → ℕ → Option ℕ
excl_place nodes who = option_and_then
    (λ (p : Node). position (λ (n : Node). n.serial == p.serial) nodes)
    (excl_in (time_parent nodes who))

-- the element plays no more
abbrev pub without_play : ℕ → (ℕ → Bool) → ℕ → Bool
without_play who plays serial = if who == serial then false else plays serial

-- the element plays too
abbrev pub with_play : ℕ → (ℕ → Bool) → ℕ → Bool
with_play who plays serial = (who == serial) || plays serial

-- which elements play after a step: a begin or a resume lets its element play, a pause, an end or a
-- cut ends that
abbrev pub plays_after : (ℕ → Bool) → Step → ℕ → Bool
plays_after plays (Began who begin) = with_play who plays
plays_after plays (Resumed who) = with_play who plays
plays_after plays (Paused who) = without_play who plays
plays_after plays (Ended who end') = without_play who plays
plays_after plays (Cut who) = without_play who plays
plays_after plays _ = plays

-- the children that play in a document in which this element does not play
pub record IsIdle (kept : List QueueState) (nodes : List Node) (who : ℕ) : Type 0 where
  pub plays : ℕ → Bool
  pub value : kept ≡ playing_lines nodes plays
  pub known : has_element nodes who ≡ true
  pub idle : plays who ≡ false

-- the children that play after a history of these nodes, in which this step is lawful
pub record MayPlay
    (kept : List QueueState) (nodes : List Node) (step : Step) (h : History) : Type 0 where
  pub same_nodes : h.nodes ≡ nodes
  pub value : kept ≡ playing_lines nodes (is_playing_by h.diary)
  pub step_lawful : is_lawful_step h step ≡ true
