-- AllByRecursion step of a resolution keeps the diary lawful, what is active alive, and the moments rising.
use Rattle.std.proofs.Common.{◌≡◌, refl, ℕ, suc, zero, ◌≤◌, List, [], ◌∷◌, ◌++◌, Option, Some, None, ℤ, Bool, true, false, arith}
use Rattle.std.specs.Prelude.{cond, pos, ◌&&◌, int_le, nat_lt, slice_get, ◌≤ℤ◌}
use Rattle.std.specs.Option.{option_map_or}
use Rattle.std.proofs.lemmas.Bool.{and_from, ltb-true}
use Rattle.std.proofs.lemmas.Int.{ints}
use Rattle.smil_model.specs.declared.diary.Entry.{Entry}
use Rattle.smil_model.specs.declared.diary.LogEntry.{LogEntry}
use Rattle.smil_model.specs.declared.diary.Step.{Step}
use Rattle.smil_model.specs.declared.diary.Step.TheVariants.{Logged}
use Rattle.smil_model.specs.declared.times.TheConstants.{HORIZON}
use Rattle.smil_model.specs.document.Document.{Document}
use Rattle.smil_model.specs.document.Valid.{IsNumberedTree}
use Rattle.smil_model.specs.diary.Diary.{is_active, is_alive}
use Rattle.smil_model.specs.diary.Lawful.{is_rising_from, IsLawful}
use Rattle.smil_model.specs.happening.Keys.{DueChange, coming, first_coming, is_due}
use Rattle.smil_model.specs.happening.Groups.{steps_of, at_moment, group}
use Rattle.smil_model.specs.happening.Resolution.{Course, Progress, outset, history_at, after_quiet, after_settling, after_coming, next_step, after_steps}
use Rattle.smil_model.proofs.NumberOrders.{le_self, le_both}
use Rattle.smil_laws.specs.Agreement.{course_on}
use Rattle.smil_laws.specs.Edited.{IsOrdered}
use Rattle.smil_laws.specs.Resolved.{history_after}
use Rattle.smil_laws.proofs.NumberedTrees.{ordered}
use Rattle.smil_laws.proofs.LawfulSteps.{Follow, follow_append, all_lawful, known_all, all_waiting}
use Rattle.smil_laws.proofs.LawfulGroups.{Live, group_sound, same_live, mark}
use Rattle.smil_laws.proofs.ComingsMayHappen.{first_may}

-- ---- moments

-- moments that do not fall, from the first to the last
abbrev Rises : ℤ → List Entry → ℤ → Type 0
Rises from [] to = int_le from to ≡ true
Rises from (x ∷ xs) to = (int_le from x.moment ≡ true) × Rises x.moment xs to

rises_within : (from : ℤ) (xs : List Entry) (to : ℤ) → Rises from xs to → int_le from to ≡ true
rises_within from [] to r = r
rises_within from (x ∷ xs) to r = le_both from x.moment to r.0 (rises_within x.moment xs to r.1)

rises_later : (from : ℤ) (xs : List Entry) (to later : ℤ) → Rises from xs to → int_le to later ≡ true → Rises from xs later
rises_later from [] to later r l = le_both from to later r l
rises_later from (x ∷ xs) to later r l = (r.0, rises_later x.moment xs to later r.1 l)

rises_sooner : (sooner from : ℤ) (xs : List Entry) (to : ℤ) → int_le sooner from ≡ true → Rises from xs to → Rises sooner xs to
rises_sooner sooner from [] to l r = le_both sooner from to l r
rises_sooner sooner from (x ∷ xs) to l r = (le_both sooner from x.moment l r.0, r.1)

rises_append : (from : ℤ) (xs : List Entry) (mid : ℤ) (ys : List Entry) (to : ℤ) → Rises from xs mid → Rises mid ys to → Rises from (xs ++ ys) to
rises_append from [] mid ys to r s = rises_sooner from mid ys to r s
rises_append from (x ∷ xs) mid ys to r s = (r.0, rises_append x.moment xs mid ys to r.1 s)

rises_at : (m : ℤ) (steps : List Step) → Rises m (at_moment m steps) m
rises_at m [] = le_self m
rises_at m (step ∷ steps) = (le_self m, rises_at m steps)

rising : (from : ℤ) (xs : List Entry) (to : ℤ) → Rises from xs to → int_le to HORIZON ≡ true → is_rising_from from xs ≡ true
rising from [] to r l = refl
rising from (x ∷ xs) to r l =
    and_from (int_le from x.moment && int_le x.moment HORIZON) (is_rising_from x.moment xs)
    (and_from (int_le from x.moment) (int_le x.moment HORIZON) r.0 (le_both x.moment to HORIZON (rises_within x.moment xs to r.1) l))
    (rising x.moment xs to r.1 l)

-- ---- what each kind of step keeps, each step keeps

module _ (c : Course) (P : Progress → Type 0) where
  pub record Keeps : Type 0 where
    pub quiet : (p : Progress) → P p → nat_lt p.moment c.last ≡ true → P (record { moment = suc p.moment; heard = p.heard; diary = p.diary })
    pub hears : (p : Progress) → P p → P (record { moment = p.moment; heard = suc p.heard; diary = p.diary ++ record { moment = pos p.moment; step = Logged p.heard } ∷ [] })
    pub happens : (p : Progress) (next : DueChange) → P p → first_coming (coming (history_at c p) (pos p.moment)) ≡ Some next → P (record { moment = p.moment; heard = p.heard; diary = p.diary ++ group (history_at c p) (pos p.moment) next.key.serial next.change })

  module _ (keeps : Keeps) where
    quiet_keeps : (p q : Progress) → P p → after_quiet c p ≡ Some q → P q
    quiet_keeps p q held e = step (nat_lt p.moment c.last) refl e
      where
        step : (t : Bool) → nat_lt p.moment c.last ≡ t → cond t (Some (record { moment = suc p.moment; heard = p.heard; diary = p.diary })) None ≡ Some q → P q
        step true l d =
            let one : record { moment = suc p.moment; heard = p.heard; diary = p.diary } ≡ q = cc in
            rw (← one) (keeps.quiet p held l)
        step false l d = cc

    settling_keeps : (p q : Progress) → P p → (r : Option LogEntry) → after_settling c p r ≡ Some q → P q
    settling_keeps p q held None e = quiet_keeps p q held e
    settling_keeps p q held (Some entry) e = step (int_le entry.moment (pos p.moment)) e
      where
        step : (t : Bool) → cond t (Some (record { moment = p.moment; heard = suc p.heard; diary = p.diary ++ record { moment = pos p.moment; step = Logged p.heard } ∷ [] })) (after_quiet c p) ≡ Some q → P q
        step true d =
            let one : record { moment = p.moment; heard = suc p.heard; diary = p.diary ++ record { moment = pos p.moment; step = Logged p.heard } ∷ [] } ≡ q = cc in
            rw (← one) (keeps.hears p held)
        step false d = quiet_keeps p q held d

    step_keeps : (p q : Progress) → P p → next_step c p ≡ Some q → P q
    step_keeps p q held e = by_coming (first_coming (coming (history_at c p) (pos p.moment))) refl e
      where
        by_coming : (r : Option DueChange) → first_coming (coming (history_at c p) (pos p.moment)) ≡ r → after_coming c p r ≡ Some q → P q
        by_coming None f d = settling_keeps p q held (slice_get c.log p.heard) d
        by_coming (Some next) f d = by_due (is_due (pos p.moment) next.key) d
          where
            by_due : (t : Bool) → cond t (Some (record { moment = p.moment; heard = p.heard; diary = p.diary ++ group (history_at c p) (pos p.moment) next.key.serial next.change })) (after_settling c p (slice_get c.log p.heard)) ≡ Some q → P q
            by_due true k =
                let one : record { moment = p.moment; heard = p.heard; diary = p.diary ++ group (history_at c p) (pos p.moment) next.key.serial next.change } ≡ q = cc in
                rw (← one) (keeps.happens p next held f)
            by_due false k = settling_keeps p q held (slice_get c.log p.heard) k

    pub steps_keep : (k : ℕ) (p : Progress) → P p → P (after_steps c k p)
    steps_keep zero p held = held
    steps_keep (suc k) p held = by_next (next_step c p) refl (steps_keep k)
      where
        by_next : (r : Option Progress) → next_step c p ≡ r → ((q : Progress) → P q → P (after_steps c k q)) → P (option_map_or (λ q. after_steps c k q) r p)
        by_next None e later = held
        by_next (Some q) e later = later q (step_keeps p q held e)

-- ---- the moments of a resolution

record IsTimed (c : Course) (p : Progress) : Type 0 where
  rises : Rises (pos 0) p.diary (pos p.moment)
  within : p.moment ≤ c.last

timed : (c : Course) (k : ℕ) → IsTimed c (after_steps c k outset)
timed c k = steps_keep c (IsTimed c) keeps k outset (record { rises = refl; within = omega arith })
  where
    keeps : Keeps c (IsTimed c)
    keeps = record {
      quiet = λ p t l. record {
        rises = rises_later (pos 0) p.diary (pos p.moment) (pos (suc p.moment)) t.rises (grind (arith, ints));
        within = omega (arith, ltb-true p.moment c.last l);
      };
      hears = λ p t. record {
        rises = rises_append (pos 0) p.diary (pos p.moment) (at_moment (pos p.moment) (Logged p.heard ∷ [])) (pos p.moment) t.rises (rises_at (pos p.moment) (Logged p.heard ∷ []));
        within = t.within;
      };
      happens = λ p next t f. record {
        rises = rises_append (pos 0) p.diary (pos p.moment) (group (history_at c p) (pos p.moment) next.key.serial next.change) (pos p.moment) t.rises (rises_at (pos p.moment) (steps_of (history_at c p) (pos p.moment) next.key.serial next.change));
        within = t.within;
      };
    }

-- ---- the entries of a resolution

module _ (c : Course) (o : IsOrdered c.nodes) where
  record Lawfully (p : Progress) : Type 0 where
    follow : Follow c.nodes c.log [] p.diary
    live : Live c.nodes o c.log (pos 0) p.diary

  lawfully : (k : ℕ) → Lawfully (after_steps c k outset)
  lawfully k = steps_keep c Lawfully keeps k outset (record { follow = tt; live = λ s t. cc })
    where
      keeps : Keeps c Lawfully
      keeps = record {
        quiet = λ p held l. record { follow = held.follow; live = held.live };
        hears = λ p held. record {
          follow = follow_append c.nodes c.log [] p.diary (mark (pos p.moment) (Logged p.heard) ∷ []) held.follow (refl, tt);
          live = same_live c.nodes o c.log (pos 0) p.diary (mark (pos p.moment) (Logged p.heard)) (λ q. refl) held.live;
        };
        happens = λ p next held f.
            let sound = group_sound c.nodes o c.log (pos p.moment) p.diary (known_all c.nodes c.log p.diary held.follow) (all_waiting c.nodes c.log p.diary held.follow) held.live next.key.serial next.change (first_may c.nodes o c.log (pos p.moment) p.diary next f) in
            record {
              follow = follow_append c.nodes c.log [] p.diary (group (history_at c p) (pos p.moment) next.key.serial next.change) held.follow sound.0;
              live = sound.1;
            };
      }

-- ---- the laws

pub resolved_lawful : (document : Document) (log : List LogEntry) (last steps : ℕ) → IsNumberedTree document → pos last ≤ℤ HORIZON → IsLawful (history_after document log last steps)
resolved_lawful document log last steps numbered near = record {
  moments =
      rising (pos 0) reached.diary (pos reached.moment) (timed course steps).rises (le_both (pos reached.moment) (pos last) HORIZON (moment_near (timed course steps).within) (grind (arith, ints)));
  steps = all_lawful document.nodes log reached.diary [] reached.diary (lawfully course (ordered document numbered) steps).follow;
}
  where
    course : Course
    course = course_on document.nodes log last

    reached : Progress
    reached = after_steps course steps outset

    moment_near : reached.moment ≤ last → int_le (pos reached.moment) (pos last) ≡ true
    moment_near l = grind (arith, ints)

pub resolved_live : (document : Document) (log : List LogEntry) (last steps : ℕ) (serial : ℕ) → IsNumberedTree document → is_active (history_after document log last steps).diary serial ≡ true → is_alive (history_after document log last steps) serial ≡ true
resolved_live document log last steps serial numbered active =
    (lawfully (course_on document.nodes log last) (ordered document numbered) steps).live serial active
