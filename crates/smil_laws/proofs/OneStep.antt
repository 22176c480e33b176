-- What one step of a resolution does: a moment passes, a log entry is heard, or what comes happens.
use Rattle.std.proofs.Common.{◌≡◌, refl, suc, [], ◌∷◌, ◌++◌, Option, Some, None, Bool, true, false, inl, inr}
use Rattle.std.specs.Prelude.{◌⊎◌, cond, pos, int_le, nat_lt, slice_get}
use Rattle.smil_model.specs.declared.diary.LogEntry.{LogEntry}
use Rattle.smil_model.specs.declared.diary.Step.TheVariants.{Logged}
use Rattle.smil_model.specs.happening.Keys.{DueChange, coming, first_coming, is_due}
use Rattle.smil_model.specs.happening.Groups.{group}
use Rattle.smil_model.specs.happening.Resolution.{Course, Progress, history_at, after_quiet, after_settling, after_coming, next_step}

module _ (c : Course) (q : Progress) where
  pub record Passes (r : Progress) : Type 0 where
    pub below : nat_lt q.moment c.last ≡ true
    pub is : record { moment = suc q.moment; heard = q.heard; diary = q.diary } ≡ r

  pub record Hears (r : Progress) : Type 0 where
    pub entry : LogEntry
    pub there : slice_get c.log q.heard ≡ Some entry
    pub is : record { moment = q.moment; heard = suc q.heard; diary = q.diary ++ record { moment = pos q.moment; step = Logged q.heard } ∷ [] } ≡ r

  pub record Happens (r : Progress) : Type 0 where
    pub next : DueChange
    pub is : record { moment = q.moment; heard = q.heard; diary = q.diary ++ group (history_at c q) (pos q.moment) next.key.serial next.change } ≡ r

  abbrev pub Steps : Progress → Type 0
  Steps r = Passes r ⊎ (Hears r ⊎ Happens r)

  quiet_steps : (r : Progress) → after_quiet c q ≡ Some r → Steps r
  quiet_steps r e = by_test (nat_lt q.moment c.last) refl e
    where
      by_test : (t : Bool) → nat_lt q.moment c.last ≡ t → cond t (Some (record { moment = suc q.moment; heard = q.heard; diary = q.diary })) None ≡ Some r → Steps r
      by_test true t e = let one : record { moment = suc q.moment; heard = q.heard; diary = q.diary } ≡ r = cc in inl (record { below = t; is = one })
      by_test false t e = cc

  settling_steps : (o : Option LogEntry) (r : Progress) → slice_get c.log q.heard ≡ o → after_settling c q o ≡ Some r → Steps r
  settling_steps None r f e = quiet_steps r e
  settling_steps (Some entry) r f e = by_test (int_le entry.moment (pos q.moment)) e
    where
      by_test : (t : Bool) → cond t (Some (record { moment = q.moment; heard = suc q.heard; diary = q.diary ++ record { moment = pos q.moment; step = Logged q.heard } ∷ [] })) (after_quiet c q) ≡ Some r → Steps r
      by_test true e =
          let one : record { moment = q.moment; heard = suc q.heard; diary = q.diary ++ record { moment = pos q.moment; step = Logged q.heard } ∷ [] } ≡ r = cc in
          inr (inl (record { entry = entry; there = f; is = one }))
      by_test false e = quiet_steps r e

  coming_steps : (o : Option DueChange) (r : Progress) → after_coming c q o ≡ Some r → Steps r
  coming_steps None r e = settling_steps (slice_get c.log q.heard) r refl e
  coming_steps (Some next) r e = by_test (is_due (pos q.moment) next.key) e
    where
      by_test : (t : Bool) → cond t (Some (record { moment = q.moment; heard = q.heard; diary = q.diary ++ group (history_at c q) (pos q.moment) next.key.serial next.change })) (after_settling c q (slice_get c.log q.heard)) ≡ Some r → Steps r
      by_test true e =
          let one : record { moment = q.moment; heard = q.heard; diary = q.diary ++ group (history_at c q) (pos q.moment) next.key.serial next.change } ≡ r = cc in
          inr (inr (record { next = next; is = one }))
      by_test false e = settling_steps (slice_get c.log q.heard) r refl e

  pub steps_so : (r : Progress) → next_step c q ≡ Some r → Steps r
  steps_so r e = coming_steps (first_coming (coming (history_at c q) (pos q.moment))) r e
