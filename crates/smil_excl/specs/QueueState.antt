-- The queue of an excl, with the rank of each child in it.
use Rattle.std.specs.Prelude.{ℕ, List, [], ◌∷◌, map, filter, length, Bool, not, ◌==◌, nat_lt, nat_le, if◌then◌else◌}
use Rattle.std.specs.List.{list_any}
use Rattle.smil_model.specs.declared.document.Node.{Node}
use Rattle.smil_model.specs.document.Document.{time_children}
use Rattle.smil_model.specs.happening.Queue.{rank}
use Rattle.smil_excl.specs.declared.queued_child.QueuedChild.{QueuedChild}

-- a queue: the children that it holds, the next one first, and the number that it has room for
pub record QueueState : Type 0 where
  pub held : List QueuedChild
  pub room : ℕ

-- a child goes before the first one that is to come later
abbrev pub put_before : (QueuedChild → Bool) → QueuedChild → List QueuedChild → List QueuedChild
put_before is_later child [] = child ∷ []
put_before is_later child (other ∷ others) =
    if is_later other then child ∷ other ∷ others else other ∷ put_before is_later child others

-- a paused child goes before all of its class, behind those of earlier classes
abbrev pub paused_before : QueuedChild → List QueuedChild → List QueuedChild
paused_before child held =
    put_before (λ (other : QueuedChild). nat_le child.rank other.rank) child held

-- a deferred child goes behind all of its class, before those of later classes
abbrev pub deferred_after : QueuedChild → List QueuedChild → List QueuedChild
deferred_after child held =
    put_before (λ (other : QueuedChild). nat_lt child.rank other.rank) child held

-- the queue without this child
abbrev pub without : ℕ → List QueuedChild → List QueuedChild
without who held = filter (λ (other : QueuedChild). not (other.who == who)) held

-- whether this child is held
abbrev pub holds : ℕ → List QueuedChild → Bool
holds who held = list_any (λ (other : QueuedChild). other.who == who) held

-- a child with the rank that the document gives it
abbrev pub ranked : List Node → ℕ → QueuedChild
ranked nodes who = record { who = who; rank = rank nodes who }

-- the queue of an excl that holds these children, with the ranks that the document gives them,
-- and room for all time children
abbrev pub line_in : List Node → ℕ → List ℕ → QueueState
line_in nodes excl queue =
    record { held = map (ranked nodes) queue; room = length (time_children nodes excl) }
