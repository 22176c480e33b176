-- What a history says of an element, and of what is around it; it doesn't follow from the log.
use Rattle.std.proofs.Common.{◌≡◌, refl, sym, ◌∙◌, ap, ℕ, suc, zero, ◌≤◌, ◌+◌, [], length, Option, Some, None, ℤ, Bool}
use Rattle.std.specs.Prelude.{cond, pos, negsuc, ◌==◌, ◌⊎◌, ◌+ℤ◌, ◌-ℤ◌}
use Rattle.smil_model.specs.declared.diary.Entry.{Entry}
use Rattle.smil_model.specs.declared.diary.Step.{Step}
use Rattle.smil_model.specs.declared.diary.Step.TheVariants.{Began, Cut}
use Rattle.smil_model.specs.declared.document.Node.{Node}
use Rattle.smil_model.specs.document.Document.{time_parent}
use Rattle.smil_model.specs.diary.Diary.{History, birth, is_active, is_paused, is_alive, deferral, iteration}
use Rattle.smil_model.specs.diary.Clocks.{until, stands_by, elapsed, run, outer_under, outer, stands, stands_under, outer_stands, play_start_after, play_start, iteration_start_after, iteration_start, start_under, parent_start}
use Rattle.smil_model.specs.diary.Plays.{Plays, play_after, is_birth_under, plays, passed}
use Rattle.smil_laws.proofs.ForeignEntries.{fold_same}

-- a place that is kept, or that stands at the end of a list of n before and after it grew by one
abbrev pub Shifts : ℕ → ℕ → ℕ → Type 0
Shifts n after before = ((after ≡ before) × (before ≤ n)) ⊎ ((after ≡ suc n) × (before ≡ n))

-- the clock of its time parent, and its birth
pub record AroundSame (h k : History) (s : ℕ) : Type 0 where
  pub outer_same : (m : ℤ) → outer k s m ≡ outer h s m
  pub outer_held : outer_stands k s ≡ outer_stands h s
  pub birth_shifts : Shifts (length h.diary) (birth k s) (birth h s)

pub record ReadingsSame (h k : History) (s : ℕ) : Type 0 where
  pub around : AroundSame h k s
  pub active : is_active k.diary s ≡ is_active h.diary s
  pub paused : is_paused k.diary s ≡ is_paused h.diary s
  pub alive : is_alive k s ≡ is_alive h s
  pub own : (m : ℤ) → run k s m ≡ run h s m
  pub own_held : stands k s ≡ stands h s
  pub play_starts : play_start k s ≡ play_start h s
  pub iteration_starts : iteration_start k s ≡ iteration_start h s
  pub parent_starts : parent_start k s ≡ parent_start h s
  pub plays_same : plays k s ≡ plays h s
  pub deferral_same : deferral k s ≡ deferral h s
  pub iteration_same : iteration k s ≡ iteration h s
  pub passed_same : passed k s ≡ passed h s

-- ---- by another log all is the same

abbrev pub without_log : History → History
without_log h = record { nodes = h.nodes; log = []; diary = h.diary }

module _ (h : History) (s : ℕ) where
  elapsed_free : (m : ℕ) → elapsed (without_log h) s m ≡ elapsed h s m
  elapsed_free zero = refl
  elapsed_free (suc m) = ap (λ n. n + cond (stands_by h.nodes (until (pos m) h.diary) s) 0 1) (elapsed_free m)

  run_free : (m : ℤ) → run (without_log h) s m ≡ run h s m
  run_free (pos m) = ap pos (elapsed_free m)
  run_free (negsuc m) = refl

module _ (h : History) (s : ℕ) where
  outer_free : (m : ℤ) → outer (without_log h) s m ≡ outer h s m
  outer_free m = under (time_parent h.nodes s)
    where
      under : (o : Option Node) → outer_under (without_log h) o m ≡ outer_under h o m
      under None = refl
      under (Some p) = run_free h p.serial m

  outer_held_free : outer_stands (without_log h) s ≡ outer_stands h s
  outer_held_free = under (time_parent h.nodes s)
    where
      under : (o : Option Node) → stands_under (without_log h) o ≡ stands_under h o
      under None = refl
      under (Some p) = refl

  began_free : (m begin b : ℤ) (t : Bool) → cond t (run (without_log h) s m +ℤ (begin -ℤ outer (without_log h) s m)) b ≡ cond t (run h s m +ℤ (begin -ℤ outer h s m)) b
  began_free m begin b t =
      ap (λ o. cond t (o +ℤ (begin -ℤ outer (without_log h) s m)) b) (run_free h s m)
      ∙ ap (λ o. cond t (run h s m +ℤ (begin -ℤ o)) b) (outer_free m)

  play_start_free : play_start (without_log h) s ≡ play_start h s
  play_start_free =
      fold_same (λ before (z : Entry). play_start_after (without_log h) s z.moment before z.step) (λ before (z : Entry). play_start_after h s z.moment before z.step) (pos 0) h.diary (λ b z. each z.moment b z.step)
    where
      each : (m b : ℤ) (step : Step) → play_start_after (without_log h) s m b step ≡ play_start_after h s m b step
      each m b (Began who begin) = began_free m begin b (who == s)
      each m b _ = refl

  iteration_start_free : iteration_start (without_log h) s ≡ iteration_start h s
  iteration_start_free =
      fold_same (λ before (z : Entry). iteration_start_after (without_log h) s z.moment before z.step) (λ before (z : Entry). iteration_start_after h s z.moment before z.step) (pos 0) h.diary (λ b z. each z.moment b z.step)
    where
      each : (m b : ℤ) (step : Step) → iteration_start_after (without_log h) s m b step ≡ iteration_start_after h s m b step
      each m b (Began who begin) = began_free m begin b (who == s)
      each m b _ = refl

  plays_free : plays (without_log h) s ≡ plays h s
  plays_free =
      fold_same (follow (without_log h)) (follow h) (record { present = None; finished = [] }) h.diary
      (λ b z. ap (λ r. cond (is_birth_under (time_parent h.nodes s) z.step) (record { present = b.present; finished = [] }) r) (each z.moment b z.step))
    where
      follow : History → Plays → Entry → Plays
      follow k = λ so_far z. cond (is_birth_under (time_parent h.nodes s) z.step) (record { present = so_far.present; finished = [] }) (play_after k s z.moment so_far z.step)

      each : (m : ℤ) (b : Plays) (step : Step) → play_after (without_log h) s m b step ≡ play_after h s m b step
      each m b (Cut who) = rw (outer_free m)
      each m b _ = refl

module _ (h : History) (s : ℕ) where
  parent_start_free : parent_start (without_log h) s ≡ parent_start h s
  parent_start_free = under (time_parent h.nodes s)
    where
      under : (o : Option Node) → start_under (without_log h) o ≡ start_under h o
      under None = refl
      under (Some p) = iteration_start_free h p.serial

pub with_logs : (h k : History) (s : ℕ) → ReadingsSame (without_log h) (without_log k) s → ReadingsSame h k s
with_logs h k s r = record {
  around = record {
    outer_same = λ m. sym (outer_free k s m) ∙ r.around.outer_same m ∙ outer_free h s m;
    outer_held = sym (outer_held_free k s) ∙ r.around.outer_held ∙ outer_held_free h s;
    birth_shifts = r.around.birth_shifts;
  };
  active = r.active;
  paused = r.paused;
  alive = r.alive;
  own = λ m. sym (run_free k s m) ∙ r.own m ∙ run_free h s m;
  own_held = r.own_held;
  play_starts = sym (play_start_free k s) ∙ r.play_starts ∙ play_start_free h s;
  iteration_starts = sym (iteration_start_free k s) ∙ r.iteration_starts ∙ iteration_start_free h s;
  parent_starts = sym (parent_start_free k s) ∙ r.parent_starts ∙ parent_start_free h s;
  plays_same = sym (plays_free k s) ∙ r.plays_same ∙ plays_free h s;
  deferral_same = r.deferral_same;
  iteration_same = r.iteration_same;
  passed_same = r.passed_same;
}
