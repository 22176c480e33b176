-- The entries of a resolved diary can be written: each names an element of the document, with a
-- value that is near, or the log entry that is next, at its moment.
use Rattle.std.proofs.Common.{◌≡◌, refl, sym, ◌∙◌, ap, subst, ℕ, zero, suc, ◌+◌, ◌<◌, ◌≤◌, ◌^◌, Bool, true, false, cond, eqb, leb, not, ◌&&◌, List, [], ◌∷◌, ◌++◌, length, take, filter, Option, Some, None, arith, inl, inr}
use Rattle.std.specs.Prelude.{ℤ, pos, nat_abs, int_le, ◌≤ℤ◌, is_some, slice_get}
use Rattle.std.specs.List.{AllByRecursion, list_all}
use Rattle.std.specs.Option.{option_map_or}
use Rattle.std.proofs.lemmas.Bool.{and_parts, and_from, le-leb, eqb-true}
use Rattle.std.proofs.lemmas.Int.{ints}
use Rattle.std.proofs.lemmas.List.Elements.{recursion_from_All}
use Rattle.smil_model.specs.declared.diary.Entry.{Entry}
use Rattle.smil_model.specs.declared.diary.LogEntry.{LogEntry}
use Rattle.smil_model.specs.declared.diary.Step.{Step}
use Rattle.smil_model.specs.declared.diary.Step.TheVariants.{Began, Repeated, Ended, Cut, Paused, Resumed, Deferred, Passed, Logged}
use Rattle.smil_model.specs.declared.document.Node.{Node}
use Rattle.smil_model.specs.declared.limits.TheConstants.{SERIALS}
use Rattle.smil_model.specs.declared.times.TheConstants.{HORIZON}
use Rattle.smil_model.specs.Times.{IsNear}
use Rattle.smil_model.specs.document.Document.{Document, elements, is_element, node_at}
use Rattle.smil_model.specs.document.Valid.{IsNumberedTree}
use Rattle.smil_model.specs.diary.Diary.{History, is_active, is_paused, up_to, with_past}
use Rattle.smil_model.specs.diary.Lawful.{IsLawful, AllLawful, has_element, is_lawful_step, is_rising_from, may_begin}
use Rattle.smil_model.specs.diary.Logs.{is_log, is_serial, may_happen, moments_rise}
use Rattle.smil_model.specs.happening.Groups.{group}
use Rattle.smil_model.specs.happening.Resolution.{Course, Progress, Reaches, after_steps, history_at, next_step, outset}
use Rattle.smil_model.proofs.NumberOrders.{le_both, le_exact, le_self}
use Rattle.smil_laws.specs.Agreement.{course_on}
use Rattle.smil_laws.specs.Cut.{is_logged, logged}
use Rattle.smil_laws.specs.Near.{AllNear, HasNear}
use Rattle.smil_laws.proofs.AsideDocuments.{find_each, find_true}
use Rattle.smil_laws.proofs.CourseCut.{logged_append, one_more}
use Rattle.smil_laws.proofs.Lists.{each_kept}
use Rattle.smil_laws.proofs.NearDiary.{resolved_near}
use Rattle.smil_laws.proofs.ResolvedSteps.{resolved_lawful}
use Rattle.smil_laws.proofs.OneStep.{Steps, steps_so}
use Rattle.smil_rounds.proofs.HeardLogEntries.{heeded}
use Rattle.smil_live.proofs.RebuiltLogs.{has_heard}
use Rattle.smil_audit_laws.specs.Lines.{HasValue, IsPlainStep, IsPlain}

-- ---- the log entries that a diary names

-- a step names the log entry at a place, which has this moment, if it names one
abbrev pub IsAt : List LogEntry → ℕ → ℤ → Step → Type 0
IsAt log place moment (Logged named) = (named ≡ place) × ((entry : LogEntry) × (slice_get log place ≡ Some entry) × (entry.moment ≡ moment))
IsAt log place moment _ = Unit {0}

-- the place of the log entry that is named next
abbrev pub behind : ℕ → Step → ℕ
behind place step = cond (is_logged step) (suc place) place

-- from a place on, the log entries are named one by one
abbrev pub InPlaces : List LogEntry → ℕ → List Entry → Type 0
InPlaces log place [] = Unit {0}
InPlaces log place (x ∷ xs) = IsAt log place x.moment x.step × InPlaces log (behind place x.step) xs

pub count_cons : (place : ℕ) (x : Entry) (xs : List Entry) → place + logged (x ∷ xs) ≡ behind place x.step + logged xs
count_cons place x xs = by_test (is_logged x.step)
  where
    by_test : (t : Bool) → place + length (cond t (x ∷ filter (λ (y : Entry). is_logged y.step) xs) (filter (λ (y : Entry). is_logged y.step) xs)) ≡ cond t (suc place) place + length (filter (λ (y : Entry). is_logged y.step) xs)
    by_test true = omega arith
    by_test false = refl

places_append : (log : List LogEntry) (place : ℕ) (xs ys : List Entry) → InPlaces log place xs → InPlaces log (place + logged xs) ys → InPlaces log place (xs ++ ys)
places_append log place [] ys h k = let same : place + 0 ≡ place = omega arith in subst (λ (n : ℕ). InPlaces log n ys) same k
places_append log place (x ∷ xs) ys h k = (h.0, places_append log (behind place x.step) xs ys h.1 (subst (λ (n : ℕ). InPlaces log n ys) (count_cons place x xs) k))

-- entries that name none
none_named : (log : List LogEntry) (place : ℕ) (xs : List Entry) → logged xs ≡ 0 → InPlaces log place xs
none_named log place [] e = tt
none_named log place (x ∷ xs) e = by_step x.step e (none_named log place xs)
  where
    by_step : (step : Step) → length (cond (is_logged step) (x ∷ filter (λ (y : Entry). is_logged y.step) xs) (filter (λ (y : Entry). is_logged y.step) xs)) ≡ 0 → (logged xs ≡ 0 → InPlaces log place xs) → IsAt log place x.moment step × InPlaces log (behind place step) xs
    by_step (Logged named) e rest = absurd (omega (arith, e))
    by_step (Began who v) e rest = (tt, rest e)
    by_step (Repeated who v) e rest = (tt, rest e)
    by_step (Ended who v) e rest = (tt, rest e)
    by_step (Cut who) e rest = (tt, rest e)
    by_step (Paused who) e rest = (tt, rest e)
    by_step (Resumed who) e rest = (tt, rest e)
    by_step (Deferred who v) e rest = (tt, rest e)
    by_step (Passed who v) e rest = (tt, rest e)

-- the last of those that were heard
last_of_taken : (m : ℤ) (log : List LogEntry) (k : ℕ) (entry : LogEntry) → slice_get log k ≡ Some entry → list_all (λ (x : LogEntry). int_le x.moment m) (take (suc k) log) ≡ true → int_le entry.moment m ≡ true
last_of_taken m [] k entry e all = cc
last_of_taken m (x ∷ xs) zero entry e all = let one : x ≡ entry = cc in subst (λ (y : LogEntry). int_le y.moment m ≡ true) one (and_parts (int_le x.moment m) _ all).0
last_of_taken m (x ∷ xs) (suc k) entry e all = last_of_taken m xs k entry e (and_parts (int_le x.moment m) (list_all (λ (y : LogEntry). int_le y.moment m) (take (suc k) xs)) all).1

module _ (c : Course) (rise : moments_rise (pos 0) c.log ≡ true) where
  -- one step
  module _ (q r : Progress) (before : Reaches c q) (after : Reaches c r) (so_far : InPlaces c.log 0 q.diary) where
    count : logged q.diary ≡ q.heard
    count = (has_heard c q rise before).count

    by_step : Steps c q r → InPlaces c.log 0 r.diary
    by_step (inl p) = subst (λ (s : Progress). InPlaces c.log 0 s.diary) p.is so_far
    by_step (inr (inl h)) =
        let entry : LogEntry = h.entry in
        let here : slice_get c.log q.heard ≡ Some entry = h.there in
        let added : Entry = record { moment = pos q.moment; step = Logged q.heard } in
        let from : int_le (pos q.moment) entry.moment ≡ true = (has_heard c q rise before).next entry here in
        let same : Reaches c (record { moment = q.moment; heard = suc q.heard; diary = q.diary ++ added ∷ [] }) = subst (Reaches c) (sym h.is) after in
        let by : int_le entry.moment (pos q.moment) ≡ true = last_of_taken (pos q.moment) c.log q.heard entry here (heeded c _ same).by in
        let now : entry.moment ≡ pos q.moment = le_exact entry.moment (pos q.moment) by from in
        let place : 0 + logged q.diary ≡ q.heard = (let own = count in omega (arith, own)) in
        let one : InPlaces c.log q.heard (added ∷ []) = ((refl, (entry, here, now)), tt) in
        let two : InPlaces c.log (0 + logged q.diary) (added ∷ []) = subst (λ (n : ℕ). InPlaces c.log n (added ∷ [])) (sym place) one in
        subst (λ (s : Progress). InPlaces c.log 0 s.diary) h.is (places_append c.log 0 q.diary (added ∷ []) so_far two)
    by_step (inr (inr h)) =
        let gs : List Entry = group (history_at c q) (pos q.moment) h.next.key.serial h.next.change in
        let same : Reaches c (record { moment = q.moment; heard = q.heard; diary = q.diary ++ gs }) = subst (Reaches c) (sym h.is) after in
        let all : logged (q.diary ++ gs) ≡ q.heard = (has_heard c _ rise same).count in
        let none : logged gs ≡ 0 = (let old = count in let both = logged_append q.diary gs in omega (arith, all, both, old)) in
        subst (λ (s : Progress). InPlaces c.log 0 s.diary) h.is (places_append c.log 0 q.diary gs so_far (none_named c.log (0 + logged q.diary) gs none))

  at_steps : (k i : ℕ) (q : Progress) → after_steps c i outset ≡ q → InPlaces c.log 0 q.diary → InPlaces c.log 0 (after_steps c k q).diary
  at_steps zero i q e h = h
  at_steps (suc k) i q e h = by_next (next_step c q) refl (at_steps k (suc i))
    where
      by_next : (o : Option Progress) → next_step c q ≡ o → ((r : Progress) → after_steps c (suc i) outset ≡ r → InPlaces c.log 0 r.diary → InPlaces c.log 0 (after_steps c k r).diary) → InPlaces c.log 0 (option_map_or (λ r. after_steps c k r) o q).diary
      by_next None d later = h
      by_next (Some r) d later = let next : after_steps c (suc i) outset ≡ r = one_more c i outset q r e d in later r next (by_step q r (i, e) (suc i, next) h (steps_so c q r d))

  pub in_places : (p : Progress) → Reaches c p → InPlaces c.log 0 p.diary
  in_places p reached = subst (λ (s : Progress). InPlaces c.log 0 s.diary) reached.1 (at_steps reached.0 0 outset refl tt)

-- ---- elements and their values

-- the serial of an element of a document
element_serial : (document : Document) (who : ℕ) → IsNumberedTree document → has_element document.nodes who ≡ true → is_serial who ≡ true
element_serial document who numbered h = by_node (node_at (elements document.nodes) who) refl h
  where
    by_node : (o : Option Node) → node_at (elements document.nodes) who ≡ o → is_some o ≡ true → is_serial who ≡ true
    by_node None e h = absurd cc
    by_node (Some n) e h =
        let each = each_kept (λ (m : Node). (0 < m.serial) × (m.serial < document.next)) is_element document.nodes (recursion_from_All (λ (m : Node). (0 < m.serial) × (m.serial < document.next)) document.nodes numbered.below) in
        let bounds : (0 < n.serial) × (n.serial < document.next) = find_each (λ (m : Node). (0 < m.serial) × (m.serial < document.next)) (λ (m : Node). eqb m.serial who) (elements document.nodes) n each e in
        let own : n.serial ≡ who = eqb-true n.serial who (find_true (λ (m : Node). eqb m.serial who) (elements document.nodes) n e) in
        let some = bounds.0 in
        let below = bounds.1 in
        let few = numbered.next in
        subst (λ (serial : ℕ). is_serial serial ≡ true) own (and_from (leb 1 n.serial) (leb n.serial SERIALS) (le-leb 1 n.serial (omega (arith, some))) (le-leb n.serial SERIALS (omega (arith, below, few))))

near_size : (v : ℤ) → IsNear v → nat_abs v < 10 ^ 18
near_size v h = let low = h.low in let high = h.high in omega (arith, ints, low, high)

module _ (document : Document) (log : List LogEntry) (numbered : IsNumberedTree document) (may : list_all (λ (x : LogEntry). may_happen x.what) log ≡ true) where
  valued : (who : ℕ) (v : ℤ) (more : Bool) → (has_element document.nodes who && more) ≡ true → IsNear v → HasValue who v
  valued who v more h near = record { serial = element_serial document who numbered (and_parts (has_element document.nodes who) more h).0; size = near_size v near }

  known : (who : ℕ) (more : Bool) → (has_element document.nodes who && more) ≡ true → is_serial who ≡ true
  known who more h = element_serial document who numbered (and_parts (has_element document.nodes who) more h).0

  may_at : (xs : List LogEntry) (k : ℕ) (x : LogEntry) → list_all (λ (y : LogEntry). may_happen y.what) xs ≡ true → slice_get xs k ≡ Some x → may_happen x.what ≡ true
  may_at [] k x all e = cc
  may_at (y ∷ ys) zero x all e = let one : y ≡ x = cc in subst (λ (z : LogEntry). may_happen z.what ≡ true) one (and_parts (may_happen y.what) _ all).0
  may_at (y ∷ ys) (suc k) x all e = may_at ys k x (and_parts (may_happen y.what) (list_all (λ (z : LogEntry). may_happen z.what) ys) all).1 e

  plain_step : (past : History) (place : ℕ) (moment : ℤ) (step : Step) → past.nodes ≡ document.nodes → is_lawful_step past step ≡ true → HasNear step → IsAt log place moment step → IsPlainStep log step
  plain_step past place moment (Began who v) same lawful near at = valued who v (may_begin past who) (subst (λ (nodes : List Node). (has_element nodes who && may_begin past who) ≡ true) same lawful) near
  plain_step past place moment (Repeated who v) same lawful near at = valued who v (is_active past.diary who) (subst (λ (nodes : List Node). (has_element nodes who && is_active past.diary who) ≡ true) same lawful) near
  plain_step past place moment (Ended who v) same lawful near at = valued who v (is_active past.diary who) (subst (λ (nodes : List Node). (has_element nodes who && is_active past.diary who) ≡ true) same lawful) near
  plain_step past place moment (Cut who) same lawful near at = known who (is_active past.diary who) (subst (λ (nodes : List Node). (has_element nodes who && is_active past.diary who) ≡ true) same lawful)
  plain_step past place moment (Paused who) same lawful near at = known who (is_active past.diary who && not (is_paused past.diary who)) (subst (λ (nodes : List Node). (has_element nodes who && (is_active past.diary who && not (is_paused past.diary who))) ≡ true) same lawful)
  plain_step past place moment (Resumed who) same lawful near at = known who (is_paused past.diary who) (subst (λ (nodes : List Node). (has_element nodes who && is_paused past.diary who) ≡ true) same lawful)
  plain_step past place moment (Deferred who v) same lawful near at = valued who v (may_begin past who) (subst (λ (nodes : List Node). (has_element nodes who && may_begin past who) ≡ true) same lawful) near
  plain_step past place moment (Passed who v) same lawful near at = valued who v (may_begin past who) (subst (λ (nodes : List Node). (has_element nodes who && may_begin past who) ≡ true) same lawful) near
  plain_step past place moment (Logged named) same lawful near at =
      let entry : LogEntry = at.1.0 in
      let there : slice_get log place ≡ Some entry = at.1.1 in
      (entry, ap (slice_get log) at.0 ∙ there, may_at log place entry may there)

  plain_all : (whole before xs : List Entry) (place : ℕ) (from : ℤ) → int_le (pos 0) from ≡ true → is_rising_from from xs ≡ true
      → AllLawful (record { nodes = document.nodes; log = log; diary = whole }) (with_past before xs) → AllNear xs → InPlaces log place xs → AllByRecursion (IsPlain log) xs
  plain_all whole before [] place from low rising lawful near places = tt
  plain_all whole before (x ∷ xs) place from low rising lawful near places =
      let h : History = record { nodes = document.nodes; log = log; diary = whole } in
      let parts = and_parts (int_le from x.moment && int_le x.moment HORIZON) (is_rising_from x.moment xs) rising in
      let bounds = and_parts (int_le from x.moment) (int_le x.moment HORIZON) parts.0 in
      let later : int_le (pos 0) x.moment ≡ true = le_both (pos 0) from x.moment low bounds.0 in (
        record {
          moment = and_from (int_le (pos 0) x.moment) (int_le x.moment HORIZON) later bounds.1;
          step = plain_step (up_to h before) place x.moment x.step refl lawful.0 near.0 places.0;
        },
        plain_all whole (before ++ x ∷ []) xs (behind place x.step) x.moment later parts.1 lawful.1 near.1 places.1,
      )

-- what a course comes to
pub all_plain : (document : Document) (log : List LogEntry) (last : ℕ) (p : Progress) → IsNumberedTree document → pos last ≤ℤ HORIZON → is_log log ≡ true
    → Reaches (course_on document.nodes log last) p → AllByRecursion (IsPlain log) p.diary
all_plain document log last p numbered horizon is reached =
    let parts = and_parts (moments_rise (pos 0) log) (list_all (λ (x : LogEntry). may_happen x.what) log) is in
    let c : Course = course_on document.nodes log last in
    let steps : after_steps c reached.0 outset ≡ p = reached.1 in
    let lawful : IsLawful (history_at c p) = subst (λ (q : Progress). IsLawful (history_at c q)) steps (resolved_lawful document log last reached.0 numbered horizon) in
    let near : AllNear p.diary = subst (λ (q : Progress). AllNear q.diary) steps (resolved_near document log last reached.0 horizon) in
    plain_all document log numbered parts.1 p.diary [] p.diary 0 (pos 0) (le_self (pos 0)) lawful.moments lawful.steps near (in_places c parts.0 p reached)
