-- How many children a queue holds after a step.
use Rattle.std.proofs.Common.{◌≡◌, refl, ap, ℕ, suc, ◌≤◌, List, [], ◌∷◌, length, Bool, true, false}
use Rattle.std.specs.Prelude.{not, ◌==◌, if◌then◌else◌}
use Rattle.smil_interval.proofs.OrderedLists.{shorter}
use Rattle.smil_excl.specs.declared.queued_child.QueuedChild.{QueuedChild}
use Rattle.smil_excl.specs.QueueState.{put_before, without}

-- a child is put in
pub put_longer : (is_later : QueuedChild → Bool) (child : QueuedChild) (held : List QueuedChild) → length (put_before is_later child held) ≡ suc (length held)
put_longer is_later child [] = refl
put_longer is_later child (other ∷ others) = step (is_later other) (put_longer is_later child others)
  where
    step : (t : Bool) → length (put_before is_later child others) ≡ suc (length others) → length (if t then child ∷ other ∷ others else other ∷ put_before is_later child others) ≡ suc (suc (length others))
    step true rest = refl
    step false rest = ap suc rest

pub without_shorter : (who : ℕ) (held : List QueuedChild) → length (without who held) ≤ length held
without_shorter who held = shorter (λ (other : QueuedChild). not (other.who == who)) held (without who held) refl
