-- The calls and the entries of a diary: what the calls make of the queue of an excl is what an entry makes of it.
use Rattle.std.proofs.Common.{◌≡◌, refl, sym, ◌∙◌, ap, ℕ, List, [], ◌∷◌, Bool, true, false}
use Rattle.std.specs.Prelude.{cond, ◌==◌, map, option_map, slice_get}
use Rattle.std.proofs.lemmas.List.Sums.{fold_push}
use Rattle.smil_model.specs.declared.diary.Entry.{Entry}
use Rattle.smil_model.specs.declared.diary.Step.{Step}
use Rattle.smil_model.specs.declared.diary.Step.TheVariants.{Began, Repeated, Ended, Cut, Paused, Resumed, Deferred, Passed, Logged}
use Rattle.smil_model.specs.declared.document.Node.{Node}
use Rattle.smil_model.specs.diary.Diary.{History, with_entry}
use Rattle.smil_model.specs.happening.Queue
use Rattle.smil_model.specs.happening.Queue.{put_paused, put_deferred, is_child_of, queue_after, queue_of}
use Rattle.smil_excl.specs.declared.queued_child.QueuedChild.{QueuedChild}
use Rattle.smil_excl.specs.QueueState.{paused_before, deferred_after, without, ranked}
use Rattle.smil_excl.specs.Laws.{held_of, held_after}
use Rattle.smil_excl.proofs.QueuePlaces.{paused_is_put, deferred_is_put, without_is_without}

either : (nodes : List Node) (t : Bool) (held other : List QueuedChild) (queue more : List ℕ) → held ≡ map (ranked nodes) queue → other ≡ map (ranked nodes) more → cond t held other ≡ map (ranked nodes) (cond t queue more)
either nodes true held other queue more p q = p
either nodes false held other queue more p q = q

pub after_step : (nodes : List Node) (excl : ℕ) (queue : List ℕ) (step : Step) → held_after nodes excl (map (ranked nodes) queue) step ≡ map (ranked nodes) (queue_after nodes excl queue step)
after_step nodes excl queue (Began who begin) =
    either nodes (who == excl) [] (without who (map (ranked nodes) queue)) [] (Queue.without who queue) refl (without_is_without nodes who queue)
after_step nodes excl queue (Repeated who start) = either nodes (who == excl) [] (map (ranked nodes) queue) [] queue refl refl
after_step nodes excl queue (Paused who) =
    either nodes (is_child_of nodes excl who) (paused_before (ranked nodes who) (without who (map (ranked nodes) queue))) (map (ranked nodes) queue) (put_paused nodes who (Queue.without who queue)) queue
    (ap (paused_before (ranked nodes who)) (without_is_without nodes who queue) ∙ paused_is_put nodes who (Queue.without who queue))
    refl
after_step nodes excl queue (Deferred who begin) =
    either nodes (is_child_of nodes excl who) (deferred_after (ranked nodes who) (without who (map (ranked nodes) queue))) (map (ranked nodes) queue) (put_deferred nodes who (Queue.without who queue)) queue
    (ap (deferred_after (ranked nodes who)) (without_is_without nodes who queue) ∙ deferred_is_put nodes who (Queue.without who queue))
    refl
after_step nodes excl queue (Resumed who) = without_is_without nodes who queue
after_step nodes excl queue (Ended who end') = without_is_without nodes who queue
after_step nodes excl queue (Cut who) = without_is_without nodes who queue
after_step nodes excl queue (Passed who begin) = refl
after_step nodes excl queue (Logged place) = refl

pub follow : (h : History) (excl : ℕ) (y : Entry) → held_after h.nodes excl (held_of h excl) y.step ≡ held_of (with_entry h y) excl
follow h excl y =
    after_step h.nodes excl (queue_of h excl) y.step
    ∙ sym (ap (map (ranked h.nodes)) (fold_push (λ queue (x : Entry). queue_after h.nodes excl queue x.step) [] h.diary y))

pub first_of : (nodes : List Node) (queue : List ℕ) → option_map (λ (first : QueuedChild). first.who) (slice_get (map (ranked nodes) queue) 0) ≡ slice_get queue 0
first_of nodes [] = refl
first_of nodes (x ∷ xs) = refl
