-- SMIL's excl: the classes of its children, the playing child,
-- what is done when another child begins, and the queue.
use Rattle.std.specs.Prelude.{ℕ, List, [], ◌∷◌, filter, find, fold, position, Bool, not, ◌&&◌, ◌==◌, nat_lt, nat_le, if◌then◌else◌, Option, Some, None, unwrap_or}
use Rattle.smil_model.specs.declared.diary.Entry.{Entry}
use Rattle.smil_model.specs.declared.diary.Step.{Step}
use Rattle.smil_model.specs.declared.diary.Step.TheVariants.{Began, Repeated, Ended, Cut, Paused, Resumed, Deferred, Passed, Logged}
use Rattle.smil_model.specs.declared.document.Node.{Node}
use Rattle.smil_model.specs.declared.document.Act.{Act}
use Rattle.smil_model.specs.declared.happening.Class.{Class}
use Rattle.smil_model.specs.document.Document.{node_at, has_serial, is_class_kind, time_parent, time_children}
use Rattle.smil_model.specs.document.Defaults.{peers_of, higher_of, lower_of}
use Rattle.smil_model.specs.diary.Diary.{History, is_active, is_paused}

-- the priorityClass that the node with this serial stands in
abbrev pub class_if : List Node → Option Node → Option Node
class_if nodes None = None
class_if nodes (Some p) = if is_class_kind p.kind then Some p else None

abbrev pub parent_of : List Node → Option Node → Option Node
parent_of nodes None = None
parent_of nodes (Some n) = node_at nodes n.parent

abbrev pub class_of : List Node → ℕ → Option Node
class_of nodes serial = class_if nodes (parent_of nodes (node_at nodes serial))

-- the place of a class among the classes of its excl; an excl without classes has one, at 0
abbrev pub place_of : List Node → Option Node → ℕ
place_of nodes None = 0
place_of nodes (Some n) =
    unwrap_or (position (λ (m : Node). m.serial == n.serial)
    (filter (λ (m : Node). m.parent == n.parent) nodes)) 0

-- the rank of a child: the place of its class
abbrev pub rank : List Node → ℕ → ℕ
rank nodes serial = place_of nodes (class_of nodes serial)

-- the class of a child: its rank, and what it asks for when another child begins
abbrev pub class_facts : List Node → ℕ → Class
class_facts nodes serial = record {
  rank = rank nodes serial;
  peers = peers_of (class_of nodes serial);
  higher = higher_of (class_of nodes serial);
  lower = lower_of (class_of nodes serial);
}

-- the class of the playing child decides: `peers` for a newcomer of the same rank,
-- `higher` for one of a class earlier in the document, `lower` for one of a later class
abbrev pub decide_by : Class → ℕ → Act
decide_by playing newcomer =
    if newcomer == playing.rank then playing.peers
    else (if nat_lt newcomer playing.rank then playing.higher else playing.lower)

-- what is done when the newcomer begins while the other child plays
abbrev pub decision : List Node → ℕ → ℕ → Act
decision nodes playing newcomer = decide_by (class_facts nodes playing) (rank nodes newcomer)

-- whether the element with this serial is active and not paused
abbrev pub is_playing_by : List Entry → ℕ → Bool
is_playing_by diary serial = is_active diary serial && not (is_paused diary serial)

-- the playing child of an excl: its active time child that is not paused
abbrev pub is_playing : List Entry → Node → Bool
is_playing diary n = is_playing_by diary n.serial

abbrev pub playing_child : History → ℕ → Option Node
playing_child h excl = find (is_playing h.diary) (time_children h.nodes excl)

-- ---- the queue, by class: earlier ones first, paused children before all of their class,
-- deferred ones behind

abbrev pub put_paused : List Node → ℕ → List ℕ → List ℕ
put_paused nodes serial [] = serial ∷ []
put_paused nodes serial (other ∷ others) =
    if nat_le (rank nodes serial) (rank nodes other) then serial ∷ other ∷ others
    else other ∷ put_paused nodes serial others

abbrev pub put_deferred : List Node → ℕ → List ℕ → List ℕ
put_deferred nodes serial [] = serial ∷ []
put_deferred nodes serial (other ∷ others) =
    if nat_lt (rank nodes serial) (rank nodes other) then serial ∷ other ∷ others
    else other ∷ put_deferred nodes serial others

abbrev pub without : ℕ → List ℕ → List ℕ
without serial queue = filter (λ other. not (other == serial)) queue

abbrev pub is_child_of : List Node → ℕ → ℕ → Bool
is_child_of nodes excl serial = has_serial excl (time_parent nodes serial)

-- a pause or a deferral of a child puts it in; a resume, a begin, an end or a cut takes it out
abbrev pub queue_after : List Node → ℕ → List ℕ → Step → List ℕ
queue_after nodes excl queue (Began who begin) = if who == excl then [] else without who queue
queue_after nodes excl queue (Repeated who start) = if who == excl then [] else queue
queue_after nodes excl queue (Paused who) =
    if is_child_of nodes excl who then put_paused nodes who (without who queue) else queue
queue_after nodes excl queue (Deferred who begin) =
    if is_child_of nodes excl who then put_deferred nodes who (without who queue) else queue
queue_after nodes excl queue (Resumed who) = without who queue
queue_after nodes excl queue (Ended who end') = without who queue
queue_after nodes excl queue (Cut who) = without who queue
queue_after nodes excl queue (Passed who begin) = queue
queue_after nodes excl queue (Logged place) = queue

-- the queue of an excl: that of its present play
abbrev pub queue_of : History → ℕ → List ℕ
queue_of h excl = fold (λ queue (x : Entry). queue_after h.nodes excl queue x.step) [] h.diary
