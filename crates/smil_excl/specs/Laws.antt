-- Laws of the queue of an excl, each in the contract of a function of its own.
use Rattle.std.specs.Prelude.{◌≡◌, ℕ, ◌<◌, ◌≤◌, List, [], ◌∷◌, map, drop, length, slice_get, option_map, true, false, ◌==◌, if◌then◌else◌}
use Rattle.smil_model.specs.declared.diary.Entry.{Entry}
use Rattle.smil_model.specs.declared.diary.Step.{Step}
use Rattle.smil_model.specs.declared.diary.Step.TheVariants.{Began, Repeated, Ended, Cut, Paused, Resumed, Deferred, Passed, Logged}
use Rattle.smil_model.specs.declared.document.Node.{Node}
use Rattle.smil_model.specs.document.Document.{time_children}
use Rattle.smil_model.specs.diary.Diary.{History, with_entry}
use Rattle.smil_model.specs.diary.Lawful.{IsLawful, has_element}
use Rattle.smil_model.specs.happening.Queue.{queue_of, is_child_of}
use Rattle.smil_excl.specs.declared.queued_child.QueuedChild.{QueuedChild}
use Rattle.smil_excl.specs.QueueState.{paused_before, deferred_after, without, holds, ranked}

-- ---- the calls, and the entries of a diary

-- the children in the queue of an excl, with the ranks that the document gives them
abbrev pub held_of : History → ℕ → List QueuedChild
held_of h excl = map (ranked h.nodes) (queue_of h excl)

-- what the calls make of the queue of an excl at a step: `clear`, `leave`, `pause` and `defer`;
-- a child is put in where it has left before
abbrev pub held_after : List Node → ℕ → List QueuedChild → Step → List QueuedChild
held_after nodes excl held (Began who begin) = if who == excl then [] else without who held
held_after nodes excl held (Repeated who start) = if who == excl then [] else held
held_after nodes excl held (Paused who) =
    if is_child_of nodes excl who then paused_before (ranked nodes who) (without who held) else held
held_after nodes excl held (Deferred who begin) =
    if is_child_of nodes excl who then deferred_after (ranked nodes who) (without who held)
    else held
held_after nodes excl held (Resumed who) = without who held
held_after nodes excl held (Ended who end') = without who held
held_after nodes excl held (Cut who) = without who held
held_after nodes excl held (Passed who begin) = held
held_after nodes excl held (Logged place) = held

-- they give the queue with one more entry
abbrev pub QueuesFollowEntries : Type 0
QueuesFollowEntries =
    (h : History) (excl : ℕ) (y : Entry)
    → held_after h.nodes excl (held_of h excl) y.step ≡ held_of (with_entry h y) excl

-- the first child is the first
abbrev pub FirstIsFirst : Type 0
FirstIsFirst =
    (h : History) (excl : ℕ)
    → option_map (λ (first : QueuedChild). first.who) (slice_get (held_of h excl) 0)
    ≡ slice_get (queue_of h excl) 0

-- ---- each child once

-- each child is held once
abbrev pub IsHeldOnce : List QueuedChild → Type 0
IsHeldOnce [] = Unit {0}
IsHeldOnce (child ∷ others) = (holds child.who others ≡ false) × IsHeldOnce others

-- to take out the first child is to let it leave
abbrev pub FirstLeaves : Type 0
FirstLeaves =
    (child : QueuedChild) (others : List QueuedChild) → IsHeldOnce (child ∷ others)
    → without child.who (child ∷ others) ≡ drop 1 (child ∷ others)

-- a child is put in where it isn't held
abbrev pub PausedIsHeldOnce : Type 0
PausedIsHeldOnce =
    (child : QueuedChild) (held : List QueuedChild) → IsHeldOnce held → holds child.who held ≡ false
    → IsHeldOnce (paused_before child held)

abbrev pub DeferredIsHeldOnce : Type 0
DeferredIsHeldOnce =
    (child : QueuedChild) (held : List QueuedChild) → IsHeldOnce held → holds child.who held ≡ false
    → IsHeldOnce (deferred_after child held)

-- a child leaves
abbrev pub OthersAreHeldOnce : Type 0
OthersAreHeldOnce =
    (who : ℕ) (held : List QueuedChild) → IsHeldOnce held → IsHeldOnce (without who held)

-- the first is taken out
abbrev pub RestIsHeldOnce : Type 0
RestIsHeldOnce = (held : List QueuedChild) → IsHeldOnce held → IsHeldOnce (drop 1 held)

-- a child that left isn't held
abbrev pub LeavingIsGone : Type 0
LeavingIsGone = (who : ℕ) (held : List QueuedChild) → holds who (without who held) ≡ false

-- in the queue of an excl each is held once, after any entries
abbrev pub WaitingAreHeldOnce : Type 0
WaitingAreHeldOnce = (h : History) (excl : ℕ) → IsHeldOnce (held_of h excl)

-- ---- the room

-- no more children are held than there are time children
abbrev pub QueuesFit : Type 0
QueuesFit =
    (h : History) (excl : ℕ) → IsLawful h
    → length (held_of h excl) ≤ length (time_children h.nodes excl)

-- where a time child has left, there is room for it
abbrev pub PutInFits : Type 0
PutInFits =
    (h : History) (excl who : ℕ) → IsLawful h → has_element h.nodes who ≡ true
    → is_child_of h.nodes excl who ≡ true
    → length (without who (held_of h excl)) < length (time_children h.nodes excl)
