-- The places in a queue, and the queue of the document's classes.
use Rattle.std.proofs.Common.{◌≡◌, refl, sym, ◌∙◌, suc, ap, ℕ, ◌≤◌, List, [], ◌∷◌, length, Bool, true, false, ltb, inl, inr, arith}
use Rattle.std.specs.Prelude.{cond, map, nat_lt, nat_le, not, ◌==◌, if◌then◌else◌, unwrap_or, position}
use Rattle.std.proofs.lemmas.Bool.{cases_lt, lt-ltb, le-ltb}
use Rattle.std.proofs.lemmas.List.Sums.{prefix_len-le-length}
use Rattle.std.specs.List.{insert, position_or_len}
use Rattle.smil_model.specs.declared.document.Node.{Node}
use Rattle.smil_model.specs.happening.Queue
use Rattle.smil_model.specs.happening.Queue.{rank, put_paused, put_deferred}
use Rattle.smil_excl.specs.declared.queued_child.QueuedChild.{QueuedChild}
use Rattle.smil_excl.specs.QueueState.{QueueState, put_before, paused_before, deferred_after, without, ranked}

abbrev line : List QueuedChild → ℕ → QueueState
line held room = record { held = held; room = room }

-- a change of what is held, seen from outside
pub changed : (change : List QueuedChild → List QueuedChild) (now : QueueState) (inside after : List QueuedChild) (room : ℕ) → line inside room ≡ now → after ≡ change inside → line after room ≡ line (change now.held) now.room
changed change now inside after room seen made =
    ap (λ held. line held room) made ∙ ap (λ (now : QueueState). line (change now.held) now.room) seen

-- the place of what isn't there is the length
pub or_length : (p : QueuedChild → Bool) (held : List QueuedChild) → unwrap_or (position p held) (length held) ≡ position_or_len p held
or_length p held = elim (cases_lt (position_or_len p held) (length held)) [
  | inl lt ↦ let t : ltb (position_or_len p held) (length held) ≡ true = lt-ltb _ _ lt in rw t refl
  | inr le ↦ let t : ltb (position_or_len p held) (length held) ≡ false = le-ltb _ _ le in
      let most : position_or_len p held ≤ length held = prefix_len-le-length (λ x. not (p x)) held in
      let same : length held ≡ position_or_len p held = omega arith in
      rw t same
]

-- the place before the first later child
pub put_at : (is_later : QueuedChild → Bool) (child : QueuedChild) (held : List QueuedChild) → insert held (position_or_len is_later held) child ≡ put_before is_later child held
put_at is_later child [] = refl
put_at is_later child (other ∷ others) = step (is_later other) refl (put_at is_later child others)
  where
    step : (t : Bool) → is_later other ≡ t → insert others (position_or_len is_later others) child ≡ put_before is_later child others → insert (other ∷ others) (position_or_len is_later (other ∷ others)) child ≡ put_before is_later child (other ∷ others)
    step true e rest = rw e refl
    step false e rest =
        let more : position_or_len is_later (other ∷ others) ≡ suc (position_or_len is_later others) = rw e (omega arith) in
        let on : put_before is_later child (other ∷ others) ≡ other ∷ put_before is_later child others = rw e refl in
        ap (λ i. insert (other ∷ others) i child) more ∙ ap (λ os. other ∷ os) rest ∙ sym on

-- with the ranks that a document gives, a pause, a deferral and a leave are the model's
module _ (nodes : List Node) (who : ℕ) where
  put_is : (is_later : QueuedChild → Bool) (put : List ℕ → List ℕ) → put [] ≡ who ∷ [] → ((other : ℕ) (others : List ℕ) → put (other ∷ others) ≡ cond (is_later (ranked nodes other)) (who ∷ other ∷ others) (other ∷ put others)) → (queue : List ℕ) → put_before is_later (ranked nodes who) (map (ranked nodes) queue) ≡ map (ranked nodes) (put queue)
  put_is is_later put alone before [] = sym (ap (map (ranked nodes)) alone)
  put_is is_later put alone before (other ∷ others) =
      step (is_later (ranked nodes other)) (put_is is_later put alone before others) ∙ sym (ap (map (ranked nodes)) (before other others))
    where
      step : (t : Bool) → put_before is_later (ranked nodes who) (map (ranked nodes) others) ≡ map (ranked nodes) (put others) → cond t (ranked nodes who ∷ ranked nodes other ∷ map (ranked nodes) others) (ranked nodes other ∷ put_before is_later (ranked nodes who) (map (ranked nodes) others)) ≡ map (ranked nodes) (cond t (who ∷ other ∷ others) (other ∷ put others))
      step true rest = refl
      step false rest = ap (λ os. ranked nodes other ∷ os) rest

  pub paused_is_put : (queue : List ℕ) → paused_before (ranked nodes who) (map (ranked nodes) queue) ≡ map (ranked nodes) (put_paused nodes who queue)
  paused_is_put queue = put_is (λ (other : QueuedChild). nat_le (rank nodes who) other.rank) (put_paused nodes who) refl (λ other others. refl) queue

  pub deferred_is_put : (queue : List ℕ) → deferred_after (ranked nodes who) (map (ranked nodes) queue) ≡ map (ranked nodes) (put_deferred nodes who queue)
  deferred_is_put queue = put_is (λ (other : QueuedChild). nat_lt (rank nodes who) other.rank) (put_deferred nodes who) refl (λ other others. refl) queue

pub without_is_without : (nodes : List Node) (who : ℕ) (queue : List ℕ) → without who (map (ranked nodes) queue) ≡ map (ranked nodes) (Queue.without who queue)
without_is_without nodes who [] = refl
without_is_without nodes who (other ∷ others) = step (not (other == who)) (without_is_without nodes who others)
  where
    step : (t : Bool) → without who (map (ranked nodes) others) ≡ map (ranked nodes) (Queue.without who others) → (if t then ranked nodes other ∷ without who (map (ranked nodes) others) else without who (map (ranked nodes) others)) ≡ map (ranked nodes) (if t then other ∷ Queue.without who others else Queue.without who others)
    step true rest = ap (λ os. ranked nodes other ∷ os) rest
    step false rest = rest
