-- Each step of a resolution appends an entry or takes the next moment, so it has ended, or has too many entries, after as many
-- steps as there are entries and moments.
use Rattle.std.proofs.Common.{◌≡◌, refl, sym, ◌∙◌, ap, ℕ, suc, zero, ◌<◌, ◌≤◌, ◌+◌, List, [], ◌∷◌, Option, Some, None, arith, inl, inr, length, length-append}
use Rattle.std.specs.Prelude.{◌⊎◌, cond, pos, nat_le, slice_get}
use Rattle.std.specs.Option.{option_map_or}
use Rattle.std.proofs.lemmas.Bool.{ltb-true, le-leb, lt-leb}
use Rattle.smil_model.specs.declared.diary.LogEntry.{LogEntry}
use Rattle.smil_model.specs.declared.diary.Step.TheVariants.{Logged}
use Rattle.smil_model.specs.declared.limits.TheConstants.{DIARY_ENTRIES}
use Rattle.smil_model.specs.happening.Groups.{group}
use Rattle.smil_model.specs.happening.Resolution.{Course, Progress, outset, history_at, next_step, after_steps, Reaches, resolved, diary_of}
use Rattle.smil_laws.proofs.GroupEntries.{group_filled}
use Rattle.smil_laws.proofs.OneStep.{Steps, steps_so}

-- entries and milliseconds
abbrev pub extent : Progress → ℕ
extent p = length p.diary + p.moment

-- a step goes on by one of them at least, keeps the entries, and passes neither the last moment nor the end of the log
pub record Advances (c : Course) (q r : Progress) : Type 0 where
  pub more : suc (extent q) ≤ extent r
  pub longer : length q.diary ≤ length r.diary
  pub within : q.moment ≤ c.last → r.moment ≤ c.last
  pub heard : q.heard ≤ length c.log → r.heard ≤ length c.log

pub in_log : (i : ℕ) (es : List LogEntry) (x : LogEntry) → slice_get es i ≡ Some x → suc i ≤ length es
in_log i [] x q = cc
in_log zero (y ∷ ys) x q = omega arith
in_log (suc i) (y ∷ ys) x q = let rest = in_log i ys x q in omega (arith, rest)

pub next_advances : (c : Course) (q r : Progress) → next_step c q ≡ Some r → Advances c q r
next_advances c q r e = by_step (steps_so c q r e)
  where
    by_step : Steps c q r → Advances c q r
    by_step (inl p) =
        let below : q.moment < c.last = ltb-true q.moment c.last p.below in
        rw (← p.is) (record { more = omega arith; longer = omega arith; within = λ w. omega (arith, below); heard = λ w. w })
    by_step (inr (inl h)) =
        let more = length-append q.diary (record { moment = pos q.moment; step = Logged q.heard } ∷ []) in
        rw (← h.is) (record { more = omega (arith, more); longer = omega (arith, more); within = λ w. w; heard = λ w. in_log q.heard c.log h.entry h.there })
    by_step (inr (inr h)) =
        let more = length-append q.diary (group (history_at c q) (pos q.moment) h.next.key.serial h.next.change) in
        let some = group_filled (history_at c q) (pos q.moment) h.next.key.serial h.next.change in
        rw (← h.is) (record { more = omega (arith, more, some); longer = omega (arith, more); within = λ w. w; heard = λ w. w })

-- after k steps the resolution has ended, or has come as far
pub record Comes (c : Course) (k : ℕ) (q r : Progress) : Type 0 where
  pub far : (next_step c r ≡ None) ⊎ (k + extent q ≤ extent r)
  pub longer : length q.diary ≤ length r.diary
  pub within : q.moment ≤ c.last → r.moment ≤ c.last
  pub heard : q.heard ≤ length c.log → r.heard ≤ length c.log

pub comes : (c : Course) (k : ℕ) (q : Progress) → Comes c k q (after_steps c k q)
comes c zero q = record { far = inr (omega arith); longer = omega arith; within = λ w. w; heard = λ w. w }
comes c (suc k) q = by_next (next_step c q) refl (comes c k)
  where
    by_next : (o : Option Progress) → next_step c q ≡ o → ((r : Progress) → Comes c k r (after_steps c k r)) → Comes c (suc k) q (option_map_or (λ r. after_steps c k r) o q)
    by_next None e later = record { far = inl e; longer = omega arith; within = λ w. w; heard = λ w. w }
    by_next (Some r) e later =
        let one = next_advances c q r e in
        let rest = later r in
        record {
          far = by_far (rest.far) one.more;
          longer = omega (arith, one.longer, rest.longer);
          within = λ w. rest.within (one.within w);
          heard = λ w. rest.heard (one.heard w);
        }
      where
        by_far : (next_step c (after_steps c k r) ≡ None) ⊎ (k + extent r ≤ extent (after_steps c k r)) → suc (extent q) ≤ extent r → (next_step c (after_steps c k r) ≡ None) ⊎ (suc k + extent q ≤ extent (after_steps c k r))
        by_far (inl ended) more = inl ended
        by_far (inr far) more = inr (omega (arith, far, more))

-- where it has ended it stays
pub stays : (c : Course) (k : ℕ) (q : Progress) → next_step c q ≡ None → after_steps c k q ≡ q
stays c zero q e = refl
stays c (suc k) q e = ap (λ o. option_map_or (λ r. after_steps c k r) o q) e

-- more steps after some
pub then : (c : Course) (k j : ℕ) (q : Progress) → after_steps c (k + j) q ≡ after_steps c j (after_steps c k q)
then c zero j q = ap (λ n. after_steps c n q) (omega arith)
then c (suc k) j q = ap (λ n. after_steps c n q) there ∙ by_next (next_step c q) refl (then c k j)
  where
    there : suc k + j ≡ suc (k + j)
    there = omega arith

    by_next : (o : Option Progress) → next_step c q ≡ o → ((r : Progress) → after_steps c (k + j) r ≡ after_steps c j (after_steps c k r)) → option_map_or (λ r. after_steps c (k + j) r) o q ≡ after_steps c j (option_map_or (λ r. after_steps c k r) o q)
    by_next None e later = sym (stays c j q e)
    by_next (Some r) e later = later r

-- one of two numbers of steps is the other and some more
pub ordered : (a b : ℕ) → ((j : ℕ) × (a + j ≡ b)) ⊎ ((j : ℕ) × (b + j ≡ a))
ordered zero b = inl (b, omega arith)
ordered (suc a) zero = inr (suc a, omega arith)
ordered (suc a) (suc b) = by_case (ordered a b)
  where
    by_case : ((j : ℕ) × (a + j ≡ b)) ⊎ ((j : ℕ) × (b + j ≡ a)) → ((j : ℕ) × (suc a + j ≡ suc b)) ⊎ ((j : ℕ) × (suc b + j ≡ suc a))
    by_case (inl (j, e)) = inl (j, omega (arith, e))
    by_case (inr (j, e)) = inr (j, omega (arith, e))

module _ (c : Course) (p : Progress) (most steps : ℕ) (enough : most + c.last < steps) where
  -- what has ended within the bound is where all steps lead
  pub ended_there : (k : ℕ) → after_steps c k outset ≡ p → next_step c p ≡ None → length p.diary ≤ most → after_steps c steps outset ≡ p
  ended_there k e ended few = by_order (ordered k steps)
    where
      by_far : (j : ℕ) → steps + j ≡ k → (next_step c (after_steps c steps outset) ≡ None) ⊎ (steps + extent outset ≤ extent (after_steps c steps outset)) → after_steps c steps outset ≡ p
      by_far j there (inl early) =
          sym (stays c j (after_steps c steps outset) early) ∙ sym (then c steps j outset) ∙ ap (λ n. after_steps c n outset) there ∙ e
      by_far j there (inr far) =
          let longer = (comes c j (after_steps c steps outset)).longer in
          let same : after_steps c j (after_steps c steps outset) ≡ p = sym (then c steps j outset) ∙ ap (λ n. after_steps c n outset) there ∙ e in
          let as_long : length (after_steps c j (after_steps c steps outset)).diary ≡ length p.diary = ap (λ (x : Progress). length x.diary) same in
          let bound = (comes c steps outset).within (omega arith) in
          absurd (omega (arith, far, longer, as_long, bound, few, enough))

      by_order : ((j : ℕ) × (k + j ≡ steps)) ⊎ ((j : ℕ) × (steps + j ≡ k)) → after_steps c steps outset ≡ p
      by_order (inl (j, there)) =
          ap (λ n. after_steps c n outset) (sym there) ∙ then c k j outset ∙ ap (after_steps c j) e ∙ stays c j p ended
      by_order (inr (j, there)) = by_far j there (comes c steps outset).far

  -- and where it has come to more entries, all steps lead to more
  pub too_long_there : (k : ℕ) → after_steps c k outset ≡ p → most < length p.diary → most < length (after_steps c steps outset).diary
  too_long_there k e many = by_order (ordered k steps)
    where
      same_length : length (after_steps c k outset).diary ≡ length p.diary
      same_length = ap (λ (x : Progress). length x.diary) e

      by_far : (j : ℕ) → steps + j ≡ k → (next_step c (after_steps c steps outset) ≡ None) ⊎ (steps + extent outset ≤ extent (after_steps c steps outset)) → most < length (after_steps c steps outset).diary
      by_far j there (inl early) =
          let same : after_steps c steps outset ≡ p = sym (stays c j (after_steps c steps outset) early) ∙ sym (then c steps j outset) ∙ ap (λ n. after_steps c n outset) there ∙ e in
          let as_long : length (after_steps c steps outset).diary ≡ length p.diary = ap (λ (x : Progress). length x.diary) same in
          omega (arith, as_long, many)
      by_far j there (inr far) =
          let bound = (comes c steps outset).within (omega arith) in
          omega (arith, far, bound, enough)

      by_order : ((j : ℕ) × (k + j ≡ steps)) ⊎ ((j : ℕ) × (steps + j ≡ k)) → most < length (after_steps c steps outset).diary
      by_order (inl (j, there)) =
          let longer = (comes c j (after_steps c k outset)).longer in
          let same : after_steps c steps outset ≡ after_steps c j (after_steps c k outset) = ap (λ n. after_steps c n outset) (sym there) ∙ then c k j outset in
          let as_long : length (after_steps c steps outset).diary ≡ length (after_steps c j (after_steps c k outset)).diary = ap (λ (x : Progress). length x.diary) same in
          omega (arith, longer, as_long, same_length, many)
      by_order (inr (j, there)) = by_far j there (comes c steps outset).far

pub ended_is_diary : (c : Course) (p : Progress) → Reaches c p → next_step c p ≡ None → length p.diary ≤ DIARY_ENTRIES → diary_of c ≡ Some p.diary
ended_is_diary c p reached ended few =
    let there : resolved c ≡ p = ended_there c p DIARY_ENTRIES (suc (DIARY_ENTRIES + c.last)) (omega arith) reached.0 reached.1 ended few in
    ap (λ (x : Progress). cond (nat_le (length x.diary) DIARY_ENTRIES) (Some x.diary) None) there
    ∙ ap (λ t. cond t (Some p.diary) None) (le-leb (length p.diary) DIARY_ENTRIES few)

pub too_long_is_full : (c : Course) (p : Progress) → Reaches c p → DIARY_ENTRIES < length p.diary → diary_of c ≡ None
too_long_is_full c p reached many =
    let more : DIARY_ENTRIES < length (resolved c).diary = too_long_there c p DIARY_ENTRIES (suc (DIARY_ENTRIES + c.last)) (omega arith) reached.0 reached.1 many in
    ap (λ t. cond t (Some (resolved c).diary) None) (lt-leb (length (resolved c).diary) DIARY_ENTRIES more)
