-- Who is in the queue of an excl: who is active there, or was deferred or passed over since birth.
use Rattle.std.proofs.Common.{◌≡◌, refl, sym, ◌∙◌, ap, subst, ℕ, ℤ, List, [], ◌∷◌, ◌++◌, Bool, true, false, Option, Some, None}
use Rattle.std.specs.Prelude.{cond, not, ◌==◌, ◌||◌, ◌&&◌, fold, is_some, nat_le, nat_lt, int_lt}
use Rattle.std.specs.List.{AllByRecursion}
use Rattle.std.proofs.lemmas.Bool.{and_parts, eqb-true, eq-eqb, not-true, or_from, or_left, or_parts, or_right}
use Rattle.std.proofs.lemmas.List.Sums.{fold_push}
use Rattle.smil_model.specs.declared.diary.Entry.{Entry}
use Rattle.smil_model.specs.declared.diary.LogEntry.{LogEntry}
use Rattle.smil_model.specs.declared.diary.Step.{Step}
use Rattle.smil_model.specs.declared.diary.Step.TheVariants.{Began, Repeated, Ended, Cut, Paused, Resumed, Deferred, Passed, Logged}
use Rattle.smil_model.specs.declared.document.Node.{Node}
use Rattle.smil_model.specs.document.Document.{has_serial, time_parent}
use Rattle.smil_model.specs.diary.Diary.{History, active_after, is_active, is_alive, is_deferred, is_paused, deferral_after, gives_birth, since_birth}
use Rattle.smil_model.specs.diary.Lawful.{IsLawful, has_element, may_begin, is_lawful_step}
use Rattle.smil_model.specs.diary.Plays.{greater_begin, is_birth_under, passed, passed_after}
use Rattle.smil_model.specs.happening.Queue.{is_child_of, put_deferred, put_paused, queue_after, queue_of, rank, without}
use Rattle.smil_model.specs.reach.Reach.{subject_of}
use Rattle.smil_laws.proofs.LawfulSteps.{IsWaiting, active_push, all_waiting, kept_along, pausing}
use Rattle.smil_laws.proofs.LineageParents.{swap_eqb}
use Rattle.smil_laws.proofs.Lists.{each_chosen, each_weaker}
use Rattle.smil_past.specs.Followed.{may_wait}
use Rattle.smil_past.specs.Played.{played}
use Rattle.smil_past.specs.Queues.{IsInNoQueue, MayStand, WaitsNowhere}
use Rattle.smil_past.proofs.AliveSinceBirth.{deferred_dead, passed_dead, since_miss}
use Rattle.smil_past.proofs.KeptActivity.{deferred_is, follow}

-- ---- lists of serials

each_either : (P : ℕ → Type 0) (t : Bool) (xs ys : List ℕ) → AllByRecursion P xs → AllByRecursion P ys → AllByRecursion P (cond t xs ys)
each_either P true xs ys a b = a
each_either P false xs ys a b = b

each_paused : (P : ℕ → Type 0) (nodes : List Node) (who : ℕ) (xs : List ℕ) → P who → AllByRecursion P xs → AllByRecursion P (put_paused nodes who xs)
each_paused P nodes who [] here each = (here, tt)
each_paused P nodes who (x ∷ xs) here each =
    each_either P (nat_le (rank nodes who) (rank nodes x)) (who ∷ x ∷ xs) (x ∷ put_paused nodes who xs) (here, each) (each.0, each_paused P nodes who xs here each.1)

each_deferred : (P : ℕ → Type 0) (nodes : List Node) (who : ℕ) (xs : List ℕ) → P who → AllByRecursion P xs → AllByRecursion P (put_deferred nodes who xs)
each_deferred P nodes who [] here each = (here, tt)
each_deferred P nodes who (x ∷ xs) here each =
    each_either P (nat_lt (rank nodes who) (rank nodes x)) (who ∷ x ∷ xs) (x ∷ put_deferred nodes who xs) (here, each) (each.0, each_deferred P nodes who xs here each.1)

-- who is none of them
without_none : (who : ℕ) (xs : List ℕ) → AllByRecursion (λ q. q == who ≡ false) xs → without who xs ≡ xs
without_none who [] each = refl
without_none who (x ∷ xs) each =
    ap (λ t. cond (not t) (x ∷ without who xs) (without who xs)) each.0 ∙ ap (λ ys. x ∷ ys) (without_none who xs each.1)

-- ---- what is noted of an element

abbrev reason : Bool → Option Entry → Option ℤ → Bool
reason a d p = (a || is_some d) || is_some p

by_deferral : (a : Bool) (d : Option Entry) (p : Option ℤ) → is_some d ≡ true → reason a d p ≡ true
by_deferral a d p q = or_left (a || is_some d) (is_some p) (or_right a (is_some d) q)

by_pass : (a : Bool) (d : Option Entry) (p : Option ℤ) → is_some p ≡ true → reason a d p ≡ true
by_pass a d p q = or_right (a || is_some d) (is_some p) q

by_activity : (a : Bool) (d : Option Entry) (p : Option ℤ) → a ≡ true → reason a d p ≡ true
by_activity a d p q = or_left (a || is_some d) (is_some p) (or_left a (is_some d) q)

some_greater : (o : Option ℤ) (v : ℤ) → is_some (greater_begin o v) ≡ true
some_greater None v = refl
some_greater (Some a) v = by (int_lt a v)
  where
    by : (t : Bool) → is_some (cond t (Some v) (Some a)) ≡ true
    by true = refl
    by false = refl

-- the step takes the element out of no queue
abbrev Stays : ℕ → Step → Type 0
Stays q (Began who begin) = who == q ≡ false
Stays q (Ended who end') = who == q ≡ false
Stays q (Cut who) = who == q ≡ false
Stays q step = Unit {0}

reason_after : (q : ℕ) (y : Entry) (a : Bool) (d : Option Entry) (p : Option ℤ) (step : Step) → Stays q step → reason a d p ≡ true → reason (active_after q a step) (deferral_after q y d step) (passed_after q p step) ≡ true
reason_after q y a d p (Began who begin) stays r = ap (λ t. reason (t || a) (cond t None d) p) stays ∙ r
reason_after q y a d p (Ended who end') stays r = ap (λ t. reason (cond t false a) (cond t None d) p) stays ∙ r
reason_after q y a d p (Cut who) stays r = ap (λ t. reason (cond t false a) (cond t None d) p) stays ∙ r
reason_after q y a d p (Deferred who begin) stays r = by (who == q)
  where
    by : (t : Bool) → reason a (cond t (Some y) d) p ≡ true
    by true = by_deferral a (Some y) p refl
    by false = r
reason_after q y a d p (Passed who begin) stays r = by (who == q)
  where
    by : (t : Bool) → reason a (cond t None d) (cond t (greater_begin p begin) p) ≡ true
    by true = by_pass a None (greater_begin p begin) (some_greater p begin)
    by false = r
reason_after q y a d p (Repeated who start) stays r = r
reason_after q y a d p (Paused who) stays r = r
reason_after q y a d p (Resumed who) stays r = r
reason_after q y a d p (Logged place) stays r = r

module _ (nodes : List Node) (log : List LogEntry) where
  abbrev by : List Entry → History
  by ds = record { nodes = nodes; log = log; diary = ds }

  abbrev put_off : ℕ → List Entry → Option Entry
  put_off q ds = fold (λ before (x : Entry). deferral_after q x before x.step) None (since_birth (by ds) q)

  abbrev noted : List Entry → ℕ → Bool
  noted ds q = reason (is_active ds q) (put_off q ds) (passed (by ds) q)

  abbrev IsNoted : List Entry → ℕ → ℕ → Type 0
  IsNoted ds x q = (is_child_of nodes x q ≡ true) × (noted ds q ≡ true)

  abbrev AllNoted : List Entry → Type 0
  AllNoted ds = (x : ℕ) → AllByRecursion (IsNoted ds x) (queue_of (by ds) x)

  module _ (ds : List Entry) (y : Entry) (lawful : is_lawful_step (by ds) y.step ≡ true) (x : ℕ) where
    abbrev more : List Entry
    more = ds ++ y ∷ []

    -- what is no birth of the excl's children is none of this child
    no_birth : (q : ℕ) → is_child_of nodes x q ≡ true → gives_birth x y.step ≡ false → is_birth_under (time_parent nodes q) y.step ≡ false
    no_birth q child none = under (time_parent nodes q) child
      where
        under : (o : Option Node) → has_serial x o ≡ true → is_birth_under o y.step ≡ false
        under None c = cc
        under (Some p) c = ap (λ s. gives_birth s y.step) (eqb-true p.serial x c) ∙ none

    put_off_more : (q : ℕ) → is_child_of nodes x q ≡ true → gives_birth x y.step ≡ false → put_off q more ≡ deferral_after q y (put_off q ds) y.step
    put_off_more q child none =
        since_miss (by ds) y q (λ before (z : Entry). deferral_after q z before z.step) None (no_birth q child none) (deferred_dead (by ds) y q lawful)

    passed_more : (q : ℕ) → is_child_of nodes x q ≡ true → gives_birth x y.step ≡ false → passed (by more) q ≡ passed_after q (passed (by ds) q) y.step
    passed_more q child none =
        since_miss (by ds) y q (λ before (z : Entry). passed_after q before z.step) None (no_birth q child none) (passed_dead (by ds) y q lawful)

    -- what is noted after the entry
    noted_is : (q : ℕ) → is_child_of nodes x q ≡ true → gives_birth x y.step ≡ false → reason (active_after q (is_active ds q) y.step) (deferral_after q y (put_off q ds) y.step) (passed_after q (passed (by ds) q) y.step) ≡ noted more q
    noted_is q child none =
        ap (λ a. reason a (deferral_after q y (put_off q ds) y.step) (passed_after q (passed (by ds) q) y.step)) (sym (active_push ds y q))
        ∙ ap (λ d. reason (is_active more q) d (passed_after q (passed (by ds) q) y.step)) (sym (put_off_more q child none))
        ∙ ap (reason (is_active more q) (put_off q more)) (sym (passed_more q child none))

    kept : (q : ℕ) → gives_birth x y.step ≡ false → Stays q y.step → IsNoted ds x q → IsNoted more x q
    kept q none stays is =
        (is.0, sym (noted_is q is.0 none) ∙ reason_after q y (is_active ds q) (put_off q ds) (passed (by ds) q) y.step stays is.1)

    abbrev queue : List ℕ
    queue = queue_of (by ds) x

    abbrev Each : List ℕ → Type 0
    Each qs = AllByRecursion (IsNoted more x) qs

    -- the others stay
    others : (who : ℕ) → AllByRecursion (IsNoted ds x) queue → ((q : ℕ) → who == q ≡ false → IsNoted ds x q → IsNoted more x q) → Each (without who queue)
    others who each f =
        each_chosen (IsNoted ds x) (IsNoted more x) (λ other. not (other == who)) queue each (λ q t is. f q (swap_eqb q who (not-true (q == who) t)) is)

    all : ((q : ℕ) → IsNoted ds x q → IsNoted more x q) → AllByRecursion (IsNoted ds x) queue → Each queue
    all f each = each_weaker (IsNoted ds x) (IsNoted more x) queue each f

    by_step : (step : Step) → y.step ≡ step → AllByRecursion (IsNoted ds x) queue → Each (queue_after nodes x queue step)
    by_step (Began who begin) is each = split (who == x) refl
      where
        split : (t : Bool) → who == x ≡ t → Each (cond t [] (without who queue))
        split true e = tt
        split false e =
            others who each (λ q apart is-q. kept q (ap (gives_birth x) is ∙ e) (stays q apart) is-q)
          where
            stays : (q : ℕ) → who == q ≡ false → Stays q y.step
            stays q apart = subst (Stays q) (sym is) apart
    by_step (Repeated who start) is each = split (who == x) refl
      where
        split : (t : Bool) → who == x ≡ t → Each (cond t [] queue)
        split true e = tt
        split false e = all (λ q is-q. kept q (ap (gives_birth x) is ∙ e) (subst (Stays q) (sym is) tt) is-q) each
    by_step (Paused who) is each = split (is_child_of nodes x who) refl
      where
        active : is_active ds who ≡ true
        active =
            let parts = and_parts (has_element nodes who) (is_active ds who && not (is_paused ds who)) (ap (is_lawful_step (by ds)) (sym is) ∙ lawful) in
            (and_parts (is_active ds who) (not (is_paused ds who)) parts.1).0

        here : is_child_of nodes x who ≡ true → IsNoted more x who
        here child = (child, by_activity (is_active more who) (put_off who more) (passed (by more) who) (active_push ds y who ∙ ap (active_after who (is_active ds who)) is ∙ active))

        rest : Each (without who queue)
        rest = others who each (λ q apart is-q. kept q (ap (gives_birth x) is) (subst (Stays q) (sym is) tt) is-q)

        split : (t : Bool) → is_child_of nodes x who ≡ t → Each (cond t (put_paused nodes who (without who queue)) queue)
        split true child = each_paused (IsNoted more x) nodes who (without who queue) (here child) rest
        split false child = all (λ q is-q. kept q (ap (gives_birth x) is) (subst (Stays q) (sym is) tt) is-q) each
    by_step (Deferred who begin) is each = split (is_child_of nodes x who) refl
      where
        here : is_child_of nodes x who ≡ true → IsNoted more x who
        here child = (child, by_deferral (is_active more who) (put_off who more) (passed (by more) who) (ap is_some (put_off_more who child (ap (gives_birth x) is) ∙ ap (deferral_after who y (put_off who ds)) is) ∙ ap (λ t. is_some (cond t (Some y) (put_off who ds))) (eq-eqb who who refl)))

        rest : Each (without who queue)
        rest = others who each (λ q apart is-q. kept q (ap (gives_birth x) is) (subst (Stays q) (sym is) tt) is-q)

        split : (t : Bool) → is_child_of nodes x who ≡ t → Each (cond t (put_deferred nodes who (without who queue)) queue)
        split true child = each_deferred (IsNoted more x) nodes who (without who queue) (here child) rest
        split false child = all (λ q is-q. kept q (ap (gives_birth x) is) (subst (Stays q) (sym is) tt) is-q) each
    by_step (Resumed who) is each =
        others who each (λ q apart is-q. kept q (ap (gives_birth x) is) (subst (Stays q) (sym is) tt) is-q)
    by_step (Ended who end') is each =
        others who each (λ q apart is-q. kept q (ap (gives_birth x) is) (subst (Stays q) (sym is) apart) is-q)
    by_step (Cut who) is each =
        others who each (λ q apart is-q. kept q (ap (gives_birth x) is) (subst (Stays q) (sym is) apart) is-q)
    by_step (Passed who begin) is each = all (λ q is-q. kept q (ap (gives_birth x) is) (subst (Stays q) (sym is) tt) is-q) each
    by_step (Logged place) is each = all (λ q is-q. kept q (ap (gives_birth x) is) (subst (Stays q) (sym is) tt) is-q) each

    noted_push : AllByRecursion (IsNoted ds x) queue → Each (queue_of (by more) x)
    noted_push each =
        rw (fold_push (λ before (z : Entry). queue_after nodes x before z.step) [] ds y)
        (by_step y.step refl each)

-- ---- who is in no queue

module _ (h : History) (who : ℕ) (lawful : IsLawful h) where
  -- all who are in a queue differ from the element
  apart_each : (P : ℕ → Type 0) (xs : List ℕ) → AllByRecursion P xs → (P who → true ≡ false) → without who xs ≡ xs
  apart_each P xs each never =
      without_none who xs (each_weaker P (λ q. q == who ≡ false) xs each (λ q p. by_test q (q == who) refl p))
    where
      by_test : (q : ℕ) (t : Bool) → q == who ≡ t → P q → t ≡ false
      by_test q true e p = never (subst P (eqb-true q who e) p)
      by_test q false e p = refl

  -- who plays
  pub playing_outside : is_active h.diary who ≡ true → is_paused h.diary who ≡ false → IsInNoQueue h who
  playing_outside active unpaused x =
      apart_each (IsWaiting h.nodes h.log h.diary x) (queue_of h x) (all_waiting h.nodes h.log h.diary (follow h [] h.diary lawful.steps) x) never
    where
      waits : Bool → Bool → Bool
      waits a p = (a && p) || not a

      never : IsWaiting h.nodes h.log h.diary x who → true ≡ false
      never is =
          let not_pausing : pausing h.diary who ≡ false = ap (λ a. a && pausing h.diary who) (sym active) ∙ unpaused in
          sym is.2 ∙ ap (λ a. waits a (pausing h.diary who)) active ∙ ap (waits true) not_pausing

  -- who may begin, and was neither deferred nor passed over since birth
  pub beginning_outside : may_begin h who ≡ true → is_deferred h who ≡ false → is_some (passed h who) ≡ false → IsInNoQueue h who
  beginning_outside may undeferred unpassed x =
      apart_each (IsNoted h.nodes h.log h.diary x) (queue_of h x) (all_noted x) never
    where
      all_noted : AllNoted h.nodes h.log h.diary
      all_noted =
          kept_along h.nodes h.log (AllNoted h.nodes h.log) (λ ds y each step z. noted_push h.nodes h.log ds y step z (each z)) [] h.diary (λ z. tt) (follow h [] h.diary lawful.steps)

      parts : (is_alive h who ≡ true) × (not (is_active h.diary who) ≡ true)
      parts = and_parts (is_alive h who) (not (is_active h.diary who)) may

      none : is_some (put_off h.nodes h.log who h.diary) ≡ false
      none = ap (λ t. is_some (cond t (put_off h.nodes h.log who h.diary) None)) (sym parts.0) ∙ undeferred

      never : IsNoted h.nodes h.log h.diary x who → true ≡ false
      never is =
          sym is.1
          ∙ or_from (is_active h.diary who || is_some (put_off h.nodes h.log who h.diary)) (is_some (passed h who))
          (or_from (is_active h.diary who) (is_some (put_off h.nodes h.log who h.diary)) (not-true (is_active h.diary who) parts.1) none) unpassed

-- what is kept of the element of a lawful step tells that it is in no queue
pub may_stand : (h : History) (step : Step) (waits : Bool) → IsLawful h → is_lawful_step h step ≡ true → ((who : ℕ) → subject_of h.log step ≡ Some who → has_element h.nodes who ≡ true → waits ≡ may_wait (played h who) step) → MayStand h step waits
may_stand h step waits lawful may told off = by_step step may told
  where
    beginning : (who : ℕ) → (has_element h.nodes who && may_begin h who) ≡ true → (has_element h.nodes who ≡ true → waits ≡ (is_some (played h who).shown_deferred || is_some (passed h who))) → IsInNoQueue h who
    beginning who q is =
        let known = and_parts (has_element h.nodes who) (may_begin h who) q in
        let none = or_parts (is_some (played h who).shown_deferred) (is_some (passed h who)) (sym (is known.0) ∙ off) in
        beginning_outside h who lawful known.1 (sym (deferred_is h who) ∙ none.0) none.1

    playing : (who : ℕ) → (has_element h.nodes who && is_active h.diary who) ≡ true → (has_element h.nodes who ≡ true → waits ≡ is_paused h.diary who) → IsInNoQueue h who
    playing who q is =
        let known = and_parts (has_element h.nodes who) (is_active h.diary who) q in
        playing_outside h who lawful known.1 (sym (is known.0) ∙ off)

    by_step : (other : Step) → is_lawful_step h other ≡ true → ((who : ℕ) → subject_of h.log other ≡ Some who → has_element h.nodes who ≡ true → waits ≡ may_wait (played h who) other) → WaitsNowhere h other
    by_step (Began who begin) q is = beginning who q (is who refl)
    by_step (Deferred who begin) q is = beginning who q (is who refl)
    by_step (Ended who end') q is = playing who q (is who refl)
    by_step (Cut who) q is = playing who q (is who refl)
    by_step _ q is = tt
