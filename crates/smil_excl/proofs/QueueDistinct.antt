-- Queues that hold each child once.
use Rattle.std.proofs.Common.{◌≡◌, refl, ◌∙◌, ap, subst, ℕ, List, [], ◌∷◌, Bool, true, false}
use Rattle.std.specs.Prelude.{cond, not, ◌==◌, ◌||◌, fold, drop, map, nat_le, nat_lt}
use Rattle.std.proofs.lemmas.Bool.{eq-eqb, or_from, or_parts}
use Rattle.smil_model.specs.declared.diary.Entry.{Entry}
use Rattle.smil_model.specs.declared.diary.Step.{Step}
use Rattle.smil_model.specs.declared.diary.Step.TheVariants.{Began, Repeated, Ended, Cut, Paused, Resumed, Deferred, Passed, Logged}
use Rattle.smil_model.specs.declared.document.Node.{Node}
use Rattle.smil_model.specs.diary.Diary.{History}
use Rattle.smil_model.specs.happening.Queue.{is_child_of, queue_after}
use Rattle.smil_laws.proofs.LineageParents.{swap_eqb}
use Rattle.smil_excl.specs.declared.queued_child.QueuedChild.{QueuedChild}
use Rattle.smil_excl.specs.QueueState.{put_before, paused_before, deferred_after, without, holds, ranked}
use Rattle.smil_excl.specs.Laws.{IsHeldOnce, held_of, held_after}
use Rattle.smil_excl.proofs.QueueEntries.{after_step}

-- ---- who is held

-- a child that is put in stands before the others or behind them
swap : (a b c : Bool) → (a || (b || c)) ≡ (b || (a || c))
swap true true c = refl
swap true false c = refl
swap false b c = refl

module _ (s : ℕ) (is_later : QueuedChild → Bool) (child : QueuedChild) where
  either_holds : (t : Bool) (held other : List QueuedChild) (v : Bool) → holds s held ≡ v → holds s other ≡ v → holds s (cond t held other) ≡ v
  either_holds true held other v p q = p
  either_holds false held other v p q = q

  holds_put : (held : List QueuedChild) → holds s (put_before is_later child held) ≡ ((child.who == s) || holds s held)
  holds_put [] = refl
  holds_put (other ∷ others) =
      either_holds (is_later other) (child ∷ other ∷ others) (other ∷ put_before is_later child others) ((child.who == s) || ((other.who == s) || holds s others)) refl
      (ap (λ t. (other.who == s) || t) (holds_put others) ∙ swap (other.who == s) (child.who == s) (holds s others))

-- who isn't held isn't held when another has left
absent_without : (s who : ℕ) (held : List QueuedChild) → holds s held ≡ false → holds s (without who held) ≡ false
absent_without s who [] q = refl
absent_without s who (other ∷ others) q = step (not (other.who == who)) (or_parts (other.who == s) (holds s others) q) (absent_without s who others)
  where
    step : (t : Bool) → (other.who == s ≡ false) × (holds s others ≡ false) → (holds s others ≡ false → holds s (without who others) ≡ false) → holds s (cond t (other ∷ without who others) (without who others)) ≡ false
    step true parts later = or_from (other.who == s) (holds s (without who others)) parts.0 (later parts.1)
    step false parts later = later parts.1

pub gone : (who : ℕ) (held : List QueuedChild) → holds who (without who held) ≡ false
gone who [] = refl
gone who (other ∷ others) = step (other.who == who) refl (gone who others)
  where
    step : (t : Bool) → other.who == who ≡ t → holds who (without who others) ≡ false → holds who (cond (not t) (other ∷ without who others) (without who others)) ≡ false
    step true e rest = rest
    step false e rest = or_from (other.who == who) (holds who (without who others)) e rest

-- ---- each once

either_once : (t : Bool) (held other : List QueuedChild) → IsHeldOnce held → IsHeldOnce other → IsHeldOnce (cond t held other)
either_once true held other a b = a
either_once false held other a b = b

once_put : (is_later : QueuedChild → Bool) (child : QueuedChild) (held : List QueuedChild) → IsHeldOnce held → holds child.who held ≡ false → IsHeldOnce (put_before is_later child held)
once_put is_later child [] once absent = (refl, tt)
once_put is_later child (other ∷ others) once absent =
    let parts = or_parts (other.who == child.who) (holds child.who others) absent in
    let behind : holds other.who (put_before is_later child others) ≡ false = holds_put other.who is_later child others ∙ or_from (child.who == other.who) (holds other.who others) (swap_eqb other.who child.who parts.0) once.0 in
    either_once (is_later other) (child ∷ other ∷ others) (other ∷ put_before is_later child others) (absent, once) (behind, once_put is_later child others once.1 parts.1)

pub once_paused : (child : QueuedChild) (held : List QueuedChild) → IsHeldOnce held → holds child.who held ≡ false → IsHeldOnce (paused_before child held)
once_paused child held once absent = once_put (λ (other : QueuedChild). nat_le child.rank other.rank) child held once absent

pub once_deferred : (child : QueuedChild) (held : List QueuedChild) → IsHeldOnce held → holds child.who held ≡ false → IsHeldOnce (deferred_after child held)
once_deferred child held once absent = once_put (λ (other : QueuedChild). nat_lt child.rank other.rank) child held once absent

pub once_without : (who : ℕ) (held : List QueuedChild) → IsHeldOnce held → IsHeldOnce (without who held)
once_without who [] once = tt
once_without who (other ∷ others) once =
    either_once (not (other.who == who)) (other ∷ without who others) (without who others) (absent_without other.who who others once.0, once_without who others once.1) (once_without who others once.1)

pub once_rest : (held : List QueuedChild) → IsHeldOnce held → IsHeldOnce (drop 1 held)
once_rest [] once = tt
once_rest (child ∷ others) once = once.1

-- who isn't held needn't leave
without_absent : (who : ℕ) (held : List QueuedChild) → holds who held ≡ false → without who held ≡ held
without_absent who [] absent = refl
without_absent who (other ∷ others) absent =
    let parts = or_parts (other.who == who) (holds who others) absent in
    ap (λ t. cond (not t) (other ∷ without who others) (without who others)) parts.0 ∙ ap (λ held. other ∷ held) (without_absent who others parts.1)

pub first_leaves : (child : QueuedChild) (others : List QueuedChild) → IsHeldOnce (child ∷ others) → without child.who (child ∷ others) ≡ drop 1 (child ∷ others)
first_leaves child others once =
    ap (λ t. cond (not t) (child ∷ without child.who others) (without child.who others)) (eq-eqb child.who child.who refl) ∙ without_absent child.who others once.0

-- ---- after any entries

once_after : (nodes : List Node) (excl : ℕ) (held : List QueuedChild) (step : Step) → IsHeldOnce held → IsHeldOnce (held_after nodes excl held step)
once_after nodes excl held (Began who begin) once = either_once (who == excl) [] (without who held) tt (once_without who held once)
once_after nodes excl held (Repeated who start) once = either_once (who == excl) [] held tt once
once_after nodes excl held (Paused who) once =
    either_once (is_child_of nodes excl who) (paused_before (ranked nodes who) (without who held)) held (once_paused (ranked nodes who) (without who held) (once_without who held once) (gone who held)) once
once_after nodes excl held (Deferred who begin) once =
    either_once (is_child_of nodes excl who) (deferred_after (ranked nodes who) (without who held)) held (once_deferred (ranked nodes who) (without who held) (once_without who held once) (gone who held)) once
once_after nodes excl held (Resumed who) once = once_without who held once
once_after nodes excl held (Ended who end') once = once_without who held once
once_after nodes excl held (Cut who) once = once_without who held once
once_after nodes excl held (Passed who begin) once = once
once_after nodes excl held (Logged place) once = once

once_from : (nodes : List Node) (excl : ℕ) (queue : List ℕ) (diary : List Entry) → IsHeldOnce (map (ranked nodes) queue) → IsHeldOnce (map (ranked nodes) (fold (λ queue (x : Entry). queue_after nodes excl queue x.step) queue diary))
once_from nodes excl queue [] once = once
once_from nodes excl queue (y ∷ diary) once =
    once_from nodes excl (queue_after nodes excl queue y.step) diary
    (subst IsHeldOnce (after_step nodes excl queue y.step) (once_after nodes excl (map (ranked nodes) queue) y.step once))

pub once_waiting : (h : History) (excl : ℕ) → IsHeldOnce (held_of h excl)
once_waiting h excl = once_from h.nodes excl [] h.diary tt
