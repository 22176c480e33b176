-- What a course reaches, it reaches with the part of the log that was heard by then, and up to that moment.
use Rattle.std.proofs.Common.{◌≡◌, refl, sym, ◌∙◌, ap, ℕ, suc, zero, ◌<◌, ◌≤◌, List, [], ◌∷◌, ◌++◌, Option, Some, None, ℤ, Bool, true, false, arith, inl, inr, length, length-append, ◌+◌}
use Rattle.std.specs.Prelude.{◌⊎◌, fold, cond, pos, int_le, nat_lt, slice_get, take, map, reverse, filter, ◌&&◌, ◌==◌}
use Rattle.std.specs.Option.{option_map_or}
use Rattle.std.proofs.lemmas.List.Sums.{fold-append}
use Rattle.std.proofs.lemmas.List.Elements.{filter-append}
use Rattle.smil_laws.specs.Cut.{IsNamedBelow, NamesBelow, is_logged, logged}
use Rattle.std.proofs.lemmas.Bool.{lt-ltb, le-ltb, ltb-true, eq-eqb, ne_eqb}
use Rattle.std.proofs.lemmas.List.{append-nil}
use Rattle.smil_model.specs.declared.diary.Entry.{Entry}
use Rattle.smil_model.specs.declared.diary.LogEntry.{LogEntry}
use Rattle.smil_model.specs.declared.diary.Step.{Step}
use Rattle.smil_model.specs.declared.diary.Step.TheVariants.{Began, Repeated, Ended, Cut, Paused, Resumed, Deferred, Passed, Logged}
use Rattle.smil_model.specs.declared.document.Act.{Act}
use Rattle.smil_model.specs.declared.document.Act.TheVariants.{Stop, Pause, Defer, Never}
use Rattle.smil_model.specs.declared.document.Node.{Node}
use Rattle.smil_model.specs.document.Document.{Document, time_parent, descendants, is_excl_kind, has_serial}
use Rattle.smil_model.specs.document.Valid.{IsNumberedTree}
use Rattle.smil_laws.specs.Locality.{ParentsBefore}
use Rattle.smil_model.specs.diary.Diary.{History, is_active, is_paused, last_moment}
use Rattle.smil_model.specs.diary.Clocks.{outer}
use Rattle.smil_model.specs.happening.Queue.{playing_child, queue_of, decision}
use Rattle.smil_model.specs.happening.Keys.{Change, begins, ends, repeats}
use Rattle.smil_model.specs.happening.Groups.{cuts, follower, followers, interruption, begin_beside, begin_under, steps_of, at_moment, group}
use Rattle.smil_model.specs.happening.Resolution.{Course, Progress, outset, history_at, after_quiet, after_settling, next_step, after_steps, Reaches}
use Rattle.smil_laws.specs.Agreement.{IsAside, DifferBelow, SparesAll, course_on}
use Rattle.smil_model.specs.reach.Bounds.{has_begun}
use Rattle.smil_laws.proofs.AsideDocuments.{SameLogged, NamesAlike, each_append, spared}
use Rattle.smil_laws.proofs.FreshSerials.{IsFresh, is_fresh, fresh_aside, fresh_differ}
use Rattle.smil_laws.proofs.AsideGroups.{each_map}
use Rattle.smil_laws.proofs.ResolutionsAgree.{next_alike, next_frees}
use Rattle.smil_laws.proofs.NumberedTrees.{all_low, ordered}
use Rattle.smil_laws.proofs.Lists.{each_weaker}
use Rattle.smil_laws.proofs.OneStep.{Steps, steps_so}
use Rattle.std.specs.List.{AllByRecursion}

-- ---- the places that a diary names

pub step_weaker : (n j : ℕ) (step : Step) → n ≤ j → IsNamedBelow n step → IsNamedBelow j step
step_weaker n j (Logged place) l p = omega (arith, l, p)
step_weaker n j (Began who begin) l p = tt
step_weaker n j (Repeated who start) l p = tt
step_weaker n j (Ended who end') l p = tt
step_weaker n j (Cut who) l p = tt
step_weaker n j (Paused who) l p = tt
step_weaker n j (Resumed who) l p = tt
step_weaker n j (Deferred who begin) l p = tt
step_weaker n j (Passed who begin) l p = tt

pub names_weaker : (n j : ℕ) (ds : List Entry) → n ≤ j → NamesBelow n ds → NamesBelow j ds
names_weaker n j [] l named = tt
names_weaker n j (x ∷ xs) l named = (step_weaker n j x.step l named.0, names_weaker n j xs l named.1)

-- a group names no place

module _ (n : ℕ) (h : History) (m : ℤ) where
  abbrev Free : List Step → Type 0
  Free steps = AllByRecursion (λ (step : Step). IsNamedBelow n step) steps

  join : (xs ys : List Step) → Free xs → Free ys → Free (xs ++ ys)
  join xs ys p q = each_append (λ (step : Step). IsNamedBelow n step) xs ys p q

  either : (t : Bool) (a b : List Step) → Free a → Free b → Free (cond t a b)
  either true a b x y = x
  either false a b x y = y

  cuts_free : (s : ℕ) → Free (cuts h s)
  cuts_free s = go (reverse (filter (λ (n : Node). is_active h.diary n.serial) (descendants h.nodes s)))
    where
      go : (ns : List Node) → Free (map (λ (n : Node). Cut n.serial) ns)
      go [] = tt
      go (x ∷ xs) = (tt, go xs)

  follower_free : (queue : List ℕ) → Free (follower h m queue)
  follower_free [] = tt
  follower_free (x ∷ xs) = either (is_paused h.diary x) (Resumed x ∷ []) (Began x (outer h x m) ∷ []) (tt, tt) (tt, tt)

  followers_free : (s : ℕ) (o : Option Node) → Free (followers h m s o)
  followers_free s None = tt
  followers_free s (Some q) = either (is_excl_kind q.kind && has_serial s (playing_child h q.serial)) (follower h m (queue_of h q.serial)) [] (follower_free (queue_of h q.serial)) tt

  interruption_free : (s : ℕ) (value : ℤ) (x : ℕ) (act : Act) → Free (interruption h m s value x act)
  interruption_free s value x Stop = join (cuts h x) (Ended x (outer h x m) ∷ Began s value ∷ []) (cuts_free x) (tt, (tt, tt))
  interruption_free s value x Pause = (tt, (tt, tt))
  interruption_free s value x Defer = (tt, tt)
  interruption_free s value x Never = (tt, tt)

  beside_free : (s : ℕ) (value : ℤ) (o : Option Node) → Free (begin_beside h m s value o)
  beside_free s value None = (tt, tt)
  beside_free s value (Some x) = interruption_free s value x.serial (decision h.nodes x.serial s)

  begin_free : (s : ℕ) (value : ℤ) (o : Option Node) → Free (begin_under h m s value o)
  begin_free s value None = (tt, tt)
  begin_free s value (Some q) = either (is_excl_kind q.kind) (begin_beside h m s value (playing_child h q.serial)) (Began s value ∷ []) (beside_free s value (playing_child h q.serial)) (tt, tt)

  steps_free : (s : ℕ) (due : Change) → Free (steps_of h m s due)
  steps_free s (begins value) = begin_free s value (time_parent h.nodes s)
  steps_free s (ends value) = join (cuts h s) (Ended s value ∷ followers h m s (time_parent h.nodes s)) (cuts_free s) (tt, followers_free s (time_parent h.nodes s))
  steps_free s (repeats start) = join (cuts h s) (Repeated s start ∷ []) (cuts_free s) (tt, tt)

  group_free : (s : ℕ) (due : Change) → NamesBelow n (group h m s due)
  group_free s due =
      each_map (λ (step : Step). IsNamedBelow n step) (λ (x : Entry). IsNamedBelow n x.step) (λ step. record { moment = m; step = step }) (steps_of h m s due) (steps_free s due) (λ step q. q)

-- ---- how many entries were heard

none_logged : (xs : List Entry) → NamesBelow 0 xs → filter (λ (x : Entry). is_logged x.step) xs ≡ []
none_logged [] named = refl
none_logged (x ∷ xs) named = ap (λ t. cond t (x ∷ filter (λ (x : Entry). is_logged x.step) xs) (filter (λ (x : Entry). is_logged x.step) xs)) (by_step x.step named.0) ∙ none_logged xs named.1
  where
    by_step : (step : Step) → IsNamedBelow 0 step → is_logged step ≡ false
    by_step (Logged place) p = absurd (omega (arith, p))
    by_step (Began who begin) p = refl
    by_step (Repeated who start) p = refl
    by_step (Ended who end') p = refl
    by_step (Cut who) p = refl
    by_step (Paused who) p = refl
    by_step (Resumed who) p = refl
    by_step (Deferred who begin) p = refl
    by_step (Passed who begin) p = refl

pub logged_append : (xs ys : List Entry) → logged (xs ++ ys) ≡ logged xs + logged ys
logged_append xs ys = ap length (filter-append (λ (x : Entry). is_logged x.step) xs ys) ∙ length-append (filter (λ (x : Entry). is_logged x.step) xs) (filter (λ (x : Entry). is_logged x.step) ys)

-- ---- a step does not go back

pub record GoesOn (q r : Progress) : Type 0 where
  pub heard : q.heard ≤ r.heard
  pub moment : q.moment ≤ r.moment
  pub named : NamesBelow q.heard q.diary → NamesBelow r.heard r.diary
  pub count : logged q.diary ≡ q.heard → logged r.diary ≡ r.heard

pub next_on : (c : Course) (q r : Progress) → next_step c q ≡ Some r → GoesOn q r
next_on c q r e = by_step (steps_so c q r e)
  where
    by_step : Steps c q r → GoesOn q r
    by_step (inl p) = rw (← p.is) (record { heard = omega arith; moment = omega arith; named = λ d. d; count = λ d. d })
    by_step (inr (inl h)) =
        rw (← h.is)
        (record {
          heard = omega arith;
          moment = omega arith;
          named = λ d. each_append (λ (x : Entry). IsNamedBelow (suc q.heard) x.step) q.diary (record { moment = pos q.moment; step = Logged q.heard } ∷ []) (names_weaker q.heard (suc q.heard) q.diary (omega arith) d) (omega arith, tt);
          count = λ d. logged_append q.diary (record { moment = pos q.moment; step = Logged q.heard } ∷ []) ∙ omega (arith, d);
        })
    by_step (inr (inr h)) =
        rw (← h.is)
        (record {
          heard = omega arith;
          moment = omega arith;
          named = λ d. each_append (λ (x : Entry). IsNamedBelow q.heard x.step) q.diary (group (history_at c q) (pos q.moment) h.next.key.serial h.next.change) d (group_free q.heard (history_at c q) (pos q.moment) h.next.key.serial h.next.change);
          count = λ d.
              let none : logged (group (history_at c q) (pos q.moment) h.next.key.serial h.next.change) ≡ 0 = ap length (none_logged (group (history_at c q) (pos q.moment) h.next.key.serial h.next.change) (group_free 0 (history_at c q) (pos q.moment) h.next.key.serial h.next.change)) in
              logged_append q.diary (group (history_at c q) (pos q.moment) h.next.key.serial h.next.change) ∙ omega (arith, d, none);
        })

pub steps_on : (c : Course) (k : ℕ) (q : Progress) → (q.heard ≤ (after_steps c k q).heard) × (q.moment ≤ (after_steps c k q).moment)
steps_on c zero q = (omega arith, omega arith)
steps_on c (suc k) q = by_next (next_step c q) refl (steps_on c k)
  where
    by_next : (o : Option Progress) → next_step c q ≡ o → ((r : Progress) → (r.heard ≤ (after_steps c k r).heard) × (r.moment ≤ (after_steps c k r).moment)) → (q.heard ≤ (option_map_or (λ r. after_steps c k r) o q).heard) × (q.moment ≤ (option_map_or (λ r. after_steps c k r) o q).moment)
    by_next None e later = (omega arith, omega arith)
    by_next (Some r) e later =
        let one = next_on c q r e in let rest = later r in
        (omega (arith, one.heard, rest.0), omega (arith, one.moment, rest.1))

-- ---- a log that is cut

get_take : (n i : ℕ) (log : List LogEntry) → i < n → slice_get log i ≡ slice_get (take n log) i
get_take zero i log l = absurd (omega (arith, l))
get_take (suc n) i [] l = refl
get_take (suc n) zero (x ∷ xs) l = refl
get_take (suc n) (suc i) (x ∷ xs) l = get_take n i xs (omega (arith, l))

get_past : (n : ℕ) (log : List LogEntry) → slice_get (take n log) n ≡ None
get_past zero [] = refl
get_past zero (x ∷ xs) = refl
get_past (suc n) [] = refl
get_past (suc n) (x ∷ xs) = get_past n xs

same_names : (n j : ℕ) (log : List LogEntry) (ds : List Entry) → j ≤ n → NamesBelow j ds → NamesAlike log (take n log) ds
same_names n j log [] l named = tt
same_names n j log (x ∷ xs) l named = (by_step x.step named.0, same_names n j log xs l named.1)
  where
    by_step : (step : Step) → IsNamedBelow j step → SameLogged log (take n log) step
    by_step (Logged place) p = get_take n place log (omega (arith, p, l))
    by_step (Began who begin) p = tt
    by_step (Repeated who start) p = tt
    by_step (Ended who end') p = tt
    by_step (Cut who) p = tt
    by_step (Paused who) p = tt
    by_step (Resumed who) p = tt
    by_step (Deferred who begin) p = tt
    by_step (Passed who begin) p = tt

leq_cases : (a b : ℕ) → a ≤ b → (a < b) ⊎ (a ≡ b)
leq_cases zero zero l = inr refl
leq_cases zero (suc b) l = inl (omega arith)
leq_cases (suc a) zero l = absurd (omega (arith, l))
leq_cases (suc a) (suc b) l = by_case (leq_cases a b (omega (arith, l)))
  where
    by_case : (a < b) ⊎ (a ≡ b) → (suc a < suc b) ⊎ (suc a ≡ suc b)
    by_case (inl s) = inl (omega (arith, s))
    by_case (inr s) = inr (ap suc s)

module _ (nodes : List Node) (first : ParentsBefore (reverse nodes)) (fresh : ℕ) (unused : IsFresh fresh nodes) (log : List LogEntry) (last n m : ℕ) where
  -- nothing has this serial, so the document differs from itself only below it
  abbrev aside : ℕ → Bool
  aside = is_fresh fresh

  abbrev whole : Course
  whole = course_on nodes log last

  abbrev cut : Course
  cut = course_on nodes (take n log) m

  is_aside : IsAside aside fresh nodes
  is_aside = fresh_aside nodes first fresh unused

  itself : DifferBelow aside fresh nodes nodes
  itself = fresh_differ nodes first fresh unused

  module _ (q : Progress) (low : q.heard ≤ n) (going : (r : Progress) → next_step whole q ≡ Some r → (r.heard ≤ n) × (r.moment ≤ m)) (ending : next_step whole q ≡ None → (q.heard ≡ n) × (q.moment ≡ m)) where
    quiets : next_step whole q ≡ after_quiet whole q → after_quiet whole q ≡ after_quiet cut q
    quiets e = by_test (nat_lt q.moment last) refl
      where
        by_test : (t : Bool) → nat_lt q.moment last ≡ t → after_quiet whole q ≡ after_quiet cut q
        by_test true t =
            let here : after_quiet whole q ≡ Some (record { moment = suc q.moment; heard = q.heard; diary = q.diary }) = ap (λ b. cond b (Some (record { moment = suc q.moment; heard = q.heard; diary = q.diary })) None) t in
            let bound : suc q.moment ≤ m = (going (record { moment = suc q.moment; heard = q.heard; diary = q.diary }) (e ∙ here)).1 in
            here ∙ sym (ap (λ b. cond b (Some (record { moment = suc q.moment; heard = q.heard; diary = q.diary })) None) (lt-ltb q.moment m (omega (arith, bound))))
        by_test false t =
            let here : after_quiet whole q ≡ None = ap (λ b. cond b (Some (record { moment = suc q.moment; heard = q.heard; diary = q.diary })) None) t in
            let over : q.moment ≡ m = (ending (e ∙ here)).1 in
            here ∙ sym (ap (λ b. cond b (Some (record { moment = suc q.moment; heard = q.heard; diary = q.diary })) None) (le-ltb q.moment m (omega (arith, over))))

    same_or_none : (t : Bool) → nat_lt q.heard n ≡ t → (slice_get (take n log) q.heard ≡ slice_get log q.heard) ⊎ (slice_get (take n log) q.heard ≡ None)
    same_or_none true t = inl (sym (get_take n q.heard log (ltb-true q.heard n t)))
    same_or_none false t =
        let at_end : q.heard ≡ n = settled_at (q.heard) n low (λ l. let never : true ≡ false = sym (lt-ltb q.heard n l) ∙ t in cc) in
        inr (ap (slice_get (take n log)) at_end ∙ get_past n log)
      where
        settled_at : (a b : ℕ) → a ≤ b → (a < b → a ≡ b) → a ≡ b
        settled_at a b l f = by_less (leq_cases a b l)
          where
            by_less : (a < b) ⊎ (a ≡ b) → a ≡ b
            by_less (inl s) = f s
            by_less (inr s) = s

    settles : next_step whole q ≡ after_settling whole q (slice_get log q.heard) → after_settling whole q (slice_get log q.heard) ≡ after_settling cut q (slice_get (take n log) q.heard)
    settles e = by_entry (slice_get log q.heard) refl
      where
        quiet_too : (entry : LogEntry) → int_le entry.moment (pos q.moment) ≡ false → after_settling cut q (Some entry) ≡ after_quiet cut q
        quiet_too entry t = ap (λ b. cond b (Some (record { moment = q.moment; heard = suc q.heard; diary = q.diary ++ record { moment = pos q.moment; step = Logged q.heard } ∷ [] })) (after_quiet cut q)) t

        by_entry : (o : Option LogEntry) → slice_get log q.heard ≡ o → after_settling whole q (slice_get log q.heard) ≡ after_settling cut q (slice_get (take n log) q.heard)
        by_entry None r =
            let here : after_settling whole q (slice_get log q.heard) ≡ after_quiet whole q = ap (after_settling whole q) r in
            here ∙ quiets (e ∙ here) ∙ sym (ap (after_settling cut q) (none_too (same_or_none (nat_lt q.heard n) refl)))
          where
            none_too : (slice_get (take n log) q.heard ≡ slice_get log q.heard) ⊎ (slice_get (take n log) q.heard ≡ None) → slice_get (take n log) q.heard ≡ None
            none_too (inl s) = s ∙ r
            none_too (inr s) = s
        by_entry (Some entry) r = by_test (int_le entry.moment (pos q.moment)) refl
          where
            by_test : (t : Bool) → int_le entry.moment (pos q.moment) ≡ t → after_settling whole q (slice_get log q.heard) ≡ after_settling cut q (slice_get (take n log) q.heard)
            by_test true t =
                let here : after_settling whole q (slice_get log q.heard) ≡ Some (record { moment = q.moment; heard = suc q.heard; diary = q.diary ++ record { moment = pos q.moment; step = Logged q.heard } ∷ [] }) =
                ap (after_settling whole q) r ∙ ap (λ b. cond b (Some (record { moment = q.moment; heard = suc q.heard; diary = q.diary ++ record { moment = pos q.moment; step = Logged q.heard } ∷ [] })) (after_quiet whole q)) t in
                let bound : suc q.heard ≤ n = (going (record { moment = q.moment; heard = suc q.heard; diary = q.diary ++ record { moment = pos q.moment; step = Logged q.heard } ∷ [] }) (e ∙ here)).0 in
                here
                ∙ sym (ap (after_settling cut q) (sym (get_take n q.heard log (omega (arith, bound))) ∙ r)
                ∙ ap (λ b. cond b (Some (record { moment = q.moment; heard = suc q.heard; diary = q.diary ++ record { moment = pos q.moment; step = Logged q.heard } ∷ [] })) (after_quiet cut q)) t)
            by_test false t =
                let here : after_settling whole q (slice_get log q.heard) ≡ after_quiet whole q =
                ap (after_settling whole q) r ∙ ap (λ b. cond b (Some (record { moment = q.moment; heard = suc q.heard; diary = q.diary ++ record { moment = pos q.moment; step = Logged q.heard } ∷ [] })) (after_quiet whole q)) t in
                here ∙ quiets (e ∙ here) ∙ sym (quiet_both (same_or_none (nat_lt q.heard n) refl))
              where
                quiet_both : (slice_get (take n log) q.heard ≡ slice_get log q.heard) ⊎ (slice_get (take n log) q.heard ≡ None) → after_settling cut q (slice_get (take n log) q.heard) ≡ after_quiet cut q
                quiet_both (inl s) = ap (after_settling cut q) (s ∙ r) ∙ quiet_too entry t
                quiet_both (inr s) = ap (after_settling cut q) s

  cut_same : (k : ℕ) (q : Progress) → SparesAll aside q.diary → NamesBelow q.heard q.diary → (after_steps whole k q).heard ≡ n → (after_steps whole k q).moment ≡ m → after_steps cut k q ≡ after_steps whole k q
  cut_same zero q free named heard moment = refl
  cut_same (suc k) q free named heard moment =
      ap (λ o. option_map_or (λ r. after_steps cut k r) o q) (sym next_same) ∙ by_next (next_step whole q) refl (cut_same k) heard moment
    where
      never : has_begun q.diary fresh ≡ false
      never = spared aside fresh q.diary fresh free (eq-eqb fresh fresh refl)

      low : q.heard ≤ n
      low = omega (arith, (steps_on whole (suc k) q).0, heard)

      next_same : next_step whole q ≡ next_step cut q
      next_same =
          next_alike aside fresh nodes nodes itself log (take n log) last m q free never (same_names n q.heard log q.diary low named)
          (settles q low
          (λ r e.
          let at_r : (after_steps whole k r).heard ≡ n = sym (ap (λ o. (option_map_or (λ r. after_steps whole k r) o q).heard) e) ∙ heard in
          let then_r : (after_steps whole k r).moment ≡ m = sym (ap (λ o. (option_map_or (λ r. after_steps whole k r) o q).moment) e) ∙ moment in
          let on = steps_on whole k r in
          (omega (arith, on.0, at_r), omega (arith, on.1, then_r)))
          (λ e. (sym (ap (λ o. (option_map_or (λ r. after_steps whole k r) o q).heard) e) ∙ heard, sym (ap (λ o. (option_map_or (λ r. after_steps whole k r) o q).moment) e) ∙ moment)))

      by_next : (o : Option Progress) → next_step whole q ≡ o → ((r : Progress) → SparesAll aside r.diary → NamesBelow r.heard r.diary → (after_steps whole k r).heard ≡ n → (after_steps whole k r).moment ≡ m → after_steps cut k r ≡ after_steps whole k r) → (option_map_or (λ r. after_steps whole k r) o q).heard ≡ n → (option_map_or (λ r. after_steps whole k r) o q).moment ≡ m → option_map_or (λ r. after_steps cut k r) o q ≡ option_map_or (λ r. after_steps whole k r) o q
      by_next None e later h t = refl
      by_next (Some r) e later h t =
          later r (next_frees aside fresh nodes nodes itself log (take n log) last m q free never (same_names n q.heard log q.diary low named) r e) ((next_on whole q r e).named named) h t

-- the law
pub reaches_when_cut : (d : Document) (log : List LogEntry) (last : ℕ) (q : Progress) → IsNumberedTree d → Reaches (course_on d.nodes log last) q → Reaches (course_on d.nodes (take q.heard log) q.moment) q
reaches_when_cut d log last q numbered r = (
  r.0,
  cut_same d.nodes (ordered d numbered).first d.next
      (each_weaker (λ (x : Node). (x.serial < d.next) × (x.parent < d.next)) (λ (x : Node). (x.serial == d.next ≡ false) × (x.parent == d.next ≡ false)) d.nodes (all_low d numbered) (λ x l. (differs x.serial d.next l.0, differs x.parent d.next l.1)))
      log last q.heard q.moment r.0 outset tt tt (ap (λ (x : Progress). x.heard) r.1) (ap (λ (x : Progress). x.moment) r.1)
      ∙ r.1,
)
  where
    differs : (a b : ℕ) → a < b → a == b ≡ false
    differs a b l = ne_eqb a b (λ e. absurd (omega (arith, e, l)))

-- ---- without the quiet moments behind the last entry

last_all : (m v : ℤ) (step : Step) (steps : List Step) → fold (λ before (x : Entry). x.moment) v (at_moment m (step ∷ steps)) ≡ m
last_all m v step [] = refl
last_all m v step (s ∷ ss) = last_all m m s ss

last_added : (m : ℤ) (ds : List Entry) (step : Step) (steps : List Step) → last_moment (ds ++ at_moment m (step ∷ steps)) ≡ m
last_added m ds step steps = fold-append (λ before (x : Entry). x.moment) (pos 0) ds (at_moment m (step ∷ steps)) ∙ last_all m (last_moment ds) step steps

-- a step leaves the diary, or its moment is that of the last entry
abbrev Adds : Progress → Progress → Type 0
Adds q r = (r.diary ≡ q.diary) ⊎ (pos r.moment ≡ last_moment r.diary)

next_adds : (c : Course) (q r : Progress) → next_step c q ≡ Some r → Adds q r
next_adds c q r e = by_step (steps_so c q r e)
  where
    by_steps : (steps : List Step) → record { moment = q.moment; heard = q.heard; diary = q.diary ++ at_moment (pos q.moment) steps } ≡ r → Adds q r
    by_steps [] one = inl (sym (ap (λ (x : Progress). x.diary) one) ∙ append-nil q.diary)
    by_steps (s ∷ ss) one = rw (← one) (inr (sym (last_added (pos q.moment) q.diary s ss)))

    by_step : Steps c q r → Adds q r
    by_step (inl p) = inl (sym (ap (λ (x : Progress). x.diary) p.is))
    by_step (inr (inl h)) = rw (← h.is) (inr (sym (last_added (pos q.moment) q.diary (Logged q.heard) [])))
    by_step (inr (inr h)) = by_steps (steps_of (history_at c q) (pos q.moment) h.next.key.serial h.next.change) h.is

pub one_more : (c : Course) (i : ℕ) (x q r : Progress) → after_steps c i x ≡ q → next_step c q ≡ Some r → after_steps c (suc i) x ≡ r
one_more c zero x q r e n = ap (λ o. option_map_or (λ s. s) o x) (ap (next_step c) e ∙ n)
one_more c (suc i) x q r e n = by_next (next_step c x) refl e (λ y. one_more c i y q r)
  where
    by_next : (o : Option Progress) → next_step c x ≡ o → option_map_or (λ s. after_steps c i s) o x ≡ q → ((y : Progress) → after_steps c i y ≡ q → next_step c q ≡ Some r → after_steps c (suc i) y ≡ r) → option_map_or (λ s. after_steps c (suc i) s) o x ≡ r
    by_next None d f later = let never : None ≡ Some r = sym d ∙ ap (next_step c) f ∙ n in cc
    by_next (Some y) d f later = later y f n

-- where the last entry was appended
record IsTrimmed (c : Course) (q : Progress) : Type 0 where
  at : Progress
  reached : Reaches c at
  same : at.diary ≡ q.diary
  last : pos at.moment ≡ last_moment at.diary
  count : logged at.diary ≡ at.heard

trim : (c : Course) (k i : ℕ) (q : Progress) → after_steps c i outset ≡ q → logged q.diary ≡ q.heard → IsTrimmed c q → IsTrimmed c (after_steps c k q)
trim c zero i q e count t = t
trim c (suc k) i q e count t = by_next (next_step c q) refl (trim c k (suc i))
  where
    by_next : (o : Option Progress) → next_step c q ≡ o → ((r : Progress) → after_steps c (suc i) outset ≡ r → logged r.diary ≡ r.heard → IsTrimmed c r → IsTrimmed c (after_steps c k r)) → IsTrimmed c (option_map_or (λ r. after_steps c k r) o q)
    by_next None d later = t
    by_next (Some r) d later = later r on counted (by_adds (next_adds c q r d))
      where
        on : after_steps c (suc i) outset ≡ r
        on = one_more c i outset q r e d

        counted : logged r.diary ≡ r.heard
        counted = (next_on c q r d).count count

        by_adds : Adds q r → IsTrimmed c r
        by_adds (inl s) = record { at = t.at; reached = t.reached; same = t.same ∙ sym s; last = t.last; count = t.count }
        by_adds (inr l) = record { at = r; reached = (suc i, on); same = refl; last = l; count = counted }

pub reaches_at_last : (d : Document) (log : List LogEntry) (last : ℕ) (q : Progress) → IsNumberedTree d → Reaches (course_on d.nodes log last) q → (r : Progress) × (r.diary ≡ q.diary) × (pos r.moment ≡ last_moment r.diary) × Reaches (course_on d.nodes (take (logged r.diary) log) r.moment) r
reaches_at_last d log last q numbered e =
    let t = trim (course_on d.nodes log last) e.0 0 outset refl refl (record { at = outset; reached = (0, refl); same = refl; last = refl; count = refl }) in
    (t.at, t.same ∙ ap (λ (x : Progress). x.diary) e.1, t.last, along t.at (sym t.count) (reaches_when_cut d log last t.at numbered t.reached))
  where
    along : (r : Progress) {a : ℕ} → r.heard ≡ a → Reaches (course_on d.nodes (take r.heard log) r.moment) r → Reaches (course_on d.nodes (take a log) r.moment) r
    along r e got = rw (← e) got
