-- Entries that are each lawful by those before them: what they keep of a diary.
use Rattle.std.proofs.Common.{◌≡◌, refl, sym, ◌∙◌, ap, ℕ, List, [], ◌∷◌, ◌++◌, Bool, true, false, inl, inr, append_assoc}
use Rattle.std.specs.Prelude.{cond, not, ◌==◌, ◌||◌, ◌&&◌, ◌⊎◌, fold, nat_le, nat_lt}
use Rattle.std.specs.List.{AllByRecursion}
use Rattle.std.proofs.lemmas.Bool.{and_parts, or_cases, not-true, eqb-true, eq-eqb}
use Rattle.std.proofs.lemmas.List.Sums.{fold_push}
use Rattle.std.proofs.lemmas.List.{append-nil}
use Rattle.smil_model.specs.declared.diary.Entry.{Entry}
use Rattle.smil_model.specs.declared.diary.LogEntry.{LogEntry}
use Rattle.smil_model.specs.declared.diary.Step.{Step}
use Rattle.smil_model.specs.declared.diary.Step.TheVariants.{Began, Repeated, Ended, Cut, Paused, Resumed, Deferred, Passed, Logged}
use Rattle.smil_model.specs.declared.document.Node.{Node}
use Rattle.smil_model.specs.diary.Diary.{History, active_after, is_active, paused_after, is_paused, is_alive, with_past}
use Rattle.smil_model.specs.diary.Lawful.{has_element, may_begin, is_lawful_step, AllLawful}
use Rattle.smil_model.specs.happening.Queue.{rank, put_paused, put_deferred, without, is_child_of, queue_after, queue_of}
use Rattle.smil_laws.proofs.LineageParents.{swap_eqb}
use Rattle.smil_laws.proofs.Lists.{each_weaker, each_chosen}

-- ---- one entry

-- whether the last pause is not yet over by a resume or a begin
abbrev pub pausing : List Entry → ℕ → Bool
pausing ds s = fold (λ before (x : Entry). paused_after s before x.step) false ds

pub active_push : (ds : List Entry) (y : Entry) (s : ℕ) → is_active (ds ++ y ∷ []) s ≡ active_after s (is_active ds s) y.step
active_push ds y s = fold_push (λ before (x : Entry). active_after s before x.step) false ds y

pub pausing_push : (ds : List Entry) (y : Entry) (s : ℕ) → pausing (ds ++ y ∷ []) s ≡ paused_after s (pausing ds s) y.step
pausing_push ds y s = fold_push (λ before (x : Entry). paused_after s before x.step) false ds y

-- an end takes activity away, and gives none
pub still : (t b : Bool) → cond t false b ≡ true → (t ≡ false) × (b ≡ true)
still true b q = cc
still false b q = (refl, q)

-- ---- queues of serials

each_either : (P : ℕ → Type 0) (t : Bool) (xs ys : List ℕ) → AllByRecursion P xs → AllByRecursion P ys → AllByRecursion P (cond t xs ys)
each_either P true xs ys a b = a
each_either P false xs ys a b = b

each_put_paused : (P : ℕ → Type 0) (nodes : List Node) (who : ℕ) (xs : List ℕ) → P who → AllByRecursion P xs → AllByRecursion P (put_paused nodes who xs)
each_put_paused P nodes who [] here each = (here, tt)
each_put_paused P nodes who (x ∷ xs) here each =
    each_either P (nat_le (rank nodes who) (rank nodes x)) (who ∷ x ∷ xs) (x ∷ put_paused nodes who xs) (here, each) (each.0, each_put_paused P nodes who xs here each.1)

each_put_deferred : (P : ℕ → Type 0) (nodes : List Node) (who : ℕ) (xs : List ℕ) → P who → AllByRecursion P xs → AllByRecursion P (put_deferred nodes who xs)
each_put_deferred P nodes who [] here each = (here, tt)
each_put_deferred P nodes who (x ∷ xs) here each =
    each_either P (nat_lt (rank nodes who) (rank nodes x)) (who ∷ x ∷ xs) (x ∷ put_deferred nodes who xs) (here, each) (each.0, each_put_deferred P nodes who xs here each.1)

-- ---- lawful entries

module _ (nodes : List Node) (log : List LogEntry) where
  abbrev pub by : List Entry → History
  by ds = record { nodes = nodes; log = log; diary = ds }

  -- each entry is lawful by those before it
  abbrev pub Follow : List Entry → List Entry → Type 0
  Follow before [] = Unit {0}
  Follow before (x ∷ xs) = (is_lawful_step (by before) x.step ≡ true) × Follow (before ++ x ∷ []) xs

  pub follow_along : (ds es xs : List Entry) → ds ≡ es → Follow ds xs → Follow es xs
  follow_along ds es xs e f = rw (← e) f

  pub follow_append : (before xs ys : List Entry) → Follow before xs → Follow (before ++ xs) ys → Follow before (xs ++ ys)
  follow_append before [] ys f g = follow_along (before ++ []) before ys (append-nil before) g
  follow_append before (x ∷ xs) ys f g =
      (f.0, follow_append (before ++ x ∷ []) xs ys f.1 (follow_along (before ++ x ∷ xs) ((before ++ x ∷ []) ++ xs) ys (sym (append_assoc before (x ∷ []) xs)) g))

  pub all_lawful : (whole before xs : List Entry) → Follow before xs → AllLawful (by whole) (with_past before xs)
  all_lawful whole before [] f = tt
  all_lawful whole before (x ∷ xs) f = (f.0, all_lawful whole (before ++ x ∷ []) xs f.1)

  -- what each lawful entry keeps, lawful entries keep
  pub kept_along : (P : List Entry → Type 0) → ((ds : List Entry) (y : Entry) → P ds → is_lawful_step (by ds) y.step ≡ true → P (ds ++ y ∷ [])) → (before xs : List Entry) → P before → Follow before xs → P (before ++ xs)
  kept_along P step before [] p f = rw (append-nil before) p
  kept_along P step before (x ∷ xs) p f =
      along ((before ++ x ∷ []) ++ xs) (before ++ x ∷ xs) (append_assoc before (x ∷ []) xs) (kept_along P step (before ++ x ∷ []) xs (step before x p f.0) f.1)
    where
      along : (ds es : List Entry) → ds ≡ es → P ds → P es
      along ds es e q = rw (← e) q

  -- ---- what is active is an element

  abbrev pub Known : List Entry → Type 0
  Known ds = (s : ℕ) → is_active ds s ≡ true → has_element nodes s ≡ true

  known_step : (ds : List Entry) (s : ℕ) (step : Step) → Known ds → is_lawful_step (by ds) step ≡ true → active_after s (is_active ds s) step ≡ true → has_element nodes s ≡ true
  known_step ds s (Began who begin) known q t = by_case (or_cases (who == s) (is_active ds s) t)
    where
      by_case : (who == s ≡ true) ⊎ (is_active ds s ≡ true) → has_element nodes s ≡ true
      by_case (inl d) = ap (has_element nodes) (sym (eqb-true who s d)) ∙ (and_parts (has_element nodes who) (may_begin (by ds) who) q).0
      by_case (inr d) = known s d
  known_step ds s (Ended who end') known q t = known s ((still (who == s) (is_active ds s) t).1)
  known_step ds s (Cut who) known q t = known s ((still (who == s) (is_active ds s) t).1)
  known_step ds s _ known q t = known s t

  pub known_all : (ds : List Entry) → Follow [] ds → Known ds
  known_all ds f = kept_along Known (λ es y known q s t. known_step es s y.step known q (sym (active_push es y s) ∙ t)) [] ds (λ s t. cc) f

  -- ---- what is queued is a child that is an element, and is paused or not active

  abbrev waits : Bool → Bool → Bool
  waits a p = (a && p) || not a

  abbrev pub IsWaiting : List Entry → ℕ → ℕ → Type 0
  IsWaiting ds x q = (has_element nodes q ≡ true) × (is_child_of nodes x q ≡ true) × (waits (is_active ds q) (pausing ds q) ≡ true)

  abbrev pub AllWaiting : List Entry → Type 0
  AllWaiting ds = (x : ℕ) → AllByRecursion (IsWaiting ds x) (queue_of (by ds) x)

  module _ (ds : List Entry) (x : ℕ) where
    -- the same once the step is taken
    abbrev WaitsAfter : Step → ℕ → Type 0
    WaitsAfter step q = (has_element nodes q ≡ true) × (is_child_of nodes x q ≡ true) × (waits (active_after q (is_active ds q) step) (paused_after q (pausing ds q) step) ≡ true)

    other_waits : (who q : ℕ) (step : Step) → (who == q ≡ false → active_after q (is_active ds q) step ≡ is_active ds q) → (who == q ≡ false → paused_after q (pausing ds q) step ≡ pausing ds q) → not (q == who) ≡ true → IsWaiting ds x q → WaitsAfter step q
    other_waits who q step a p t w =
        let apart = swap_eqb q who (not-true (q == who) t) in
        (w.0, w.1, ap (λ b. waits b (paused_after q (pausing ds q) step)) (a apart) ∙ ap (λ b. waits (is_active ds q) b) (p apart) ∙ w.2)

    without_waits : (who : ℕ) (step : Step) (queue : List ℕ) → ((q : ℕ) → who == q ≡ false → active_after q (is_active ds q) step ≡ is_active ds q) → ((q : ℕ) → who == q ≡ false → paused_after q (pausing ds q) step ≡ pausing ds q) → AllByRecursion (IsWaiting ds x) queue → AllByRecursion (WaitsAfter step) (without who queue)
    without_waits who step queue a p each =
        each_chosen (IsWaiting ds x) (WaitsAfter step) (λ other. not (other == who)) queue each (λ q t w. other_waits who q step (a q) (p q) t w)

    more_paused : (a w p : Bool) → waits a p ≡ true → waits a (w || p) ≡ true
    more_paused true true p q = refl
    more_paused true false p q = q
    more_paused false w p q = refl

    waits_step : (queue : List ℕ) (step : Step) → is_lawful_step (by ds) step ≡ true → AllByRecursion (IsWaiting ds x) queue → AllByRecursion (WaitsAfter step) (queue_after nodes x queue step)
    waits_step queue (Began who begin) l each =
        each_either (WaitsAfter (Began who begin)) (who == x) [] (without who queue) tt
        (without_waits who (Began who begin) queue (λ q e. ap (λ t. t || is_active ds q) e) (λ q e. ap (λ t. cond t false (pausing ds q)) e) each)
    waits_step queue (Repeated who start) l each = each_either (WaitsAfter (Repeated who start)) (who == x) [] queue tt each
    waits_step queue (Paused who) l each = by_child (is_child_of nodes x who) refl
      where
        facts : (has_element nodes who ≡ true) × (is_active ds who && not (is_paused ds who) ≡ true)
        facts = and_parts (has_element nodes who) (is_active ds who && not (is_paused ds who)) l

        here : is_child_of nodes x who ≡ true → WaitsAfter (Paused who) who
        here c = (facts.0, c, ap (λ a. waits a ((who == who) || pausing ds who)) ((and_parts (is_active ds who) (not (is_paused ds who)) facts.1).0) ∙ ap (λ t. waits true (t || pausing ds who)) (eq-eqb who who refl))

        all : AllByRecursion (WaitsAfter (Paused who)) queue
        all = each_weaker (IsWaiting ds x) (WaitsAfter (Paused who)) queue each (λ q w. (w.0, w.1, more_paused (is_active ds q) (who == q) (pausing ds q) w.2))

        by_child : (t : Bool) → is_child_of nodes x who ≡ t → AllByRecursion (WaitsAfter (Paused who)) (cond t (put_paused nodes who (without who queue)) queue)
        by_child true c =
            each_put_paused (WaitsAfter (Paused who)) nodes who (without who queue) (here c)
            (each_chosen (WaitsAfter (Paused who)) (WaitsAfter (Paused who)) (λ other. not (other == who)) queue all (λ q t w. w))
        by_child false c = all
    waits_step queue (Deferred who begin) l each = by_child (is_child_of nodes x who) refl
      where
        facts : (has_element nodes who ≡ true) × (is_alive (by ds) who && not (is_active ds who) ≡ true)
        facts = and_parts (has_element nodes who) (may_begin (by ds) who) l

        here : is_child_of nodes x who ≡ true → WaitsAfter (Deferred who begin) who
        here c = (facts.0, c, ap (λ a. waits a (pausing ds who)) (not-true (is_active ds who) ((and_parts (is_alive (by ds) who) (not (is_active ds who)) facts.1).1)))

        by_child : (t : Bool) → is_child_of nodes x who ≡ t → AllByRecursion (WaitsAfter (Deferred who begin)) (cond t (put_deferred nodes who (without who queue)) queue)
        by_child true c =
            each_put_deferred (WaitsAfter (Deferred who begin)) nodes who (without who queue) (here c)
            (each_chosen (IsWaiting ds x) (WaitsAfter (Deferred who begin)) (λ other. not (other == who)) queue each (λ q t w. w))
        by_child false c = each
    waits_step queue (Resumed who) l each =
        without_waits who (Resumed who) queue (λ q e. refl) (λ q e. ap (λ t. cond t false (pausing ds q)) e) each
    waits_step queue (Ended who end') l each =
        without_waits who (Ended who end') queue (λ q e. ap (λ t. cond t false (is_active ds q)) e) (λ q e. refl) each
    waits_step queue (Cut who) l each =
        without_waits who (Cut who) queue (λ q e. ap (λ t. cond t false (is_active ds q)) e) (λ q e. refl) each
    waits_step queue (Passed who begin) l each = each
    waits_step queue (Logged place) l each = each

    waits_push : (y : Entry) → is_lawful_step (by ds) y.step ≡ true → AllByRecursion (IsWaiting ds x) (queue_of (by ds) x) → AllByRecursion (IsWaiting (ds ++ y ∷ []) x) (queue_of (by (ds ++ y ∷ [])) x)
    waits_push y l each =
        rw (fold_push (λ queue (z : Entry). queue_after nodes x queue z.step) [] ds y)
        (each_weaker (WaitsAfter y.step) (IsWaiting (ds ++ y ∷ []) x) (queue_after nodes x (queue_of (by ds) x) y.step) (waits_step (queue_of (by ds) x) y.step l each)
        (λ q w. (w.0, w.1, ap (λ a. waits a (pausing (ds ++ y ∷ []) q)) (active_push ds y q) ∙ ap (λ p. waits (active_after q (is_active ds q) y.step) p) (pausing_push ds y q) ∙ w.2)))

  pub all_waiting : (ds : List Entry) → Follow [] ds → AllWaiting ds
  all_waiting ds f = kept_along AllWaiting (λ es y waiting l x. waits_push es x y l (waiting x)) [] ds (λ x. tt) f
