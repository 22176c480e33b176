-- The resolutions of two documents that are the same but for the descendants of an element are the same until it begins.
use Rattle.std.proofs.Common.{◌≡◌, refl, sym, ◌∙◌, ap, ℕ, suc, zero, List, [], ◌∷◌, ◌++◌, Option, Some, None, Bool, true, false}
use Rattle.std.specs.Prelude.{cond, pos, int_le, nat_lt, slice_get}
use Rattle.std.specs.Option.{option_map_or}
use Rattle.std.proofs.lemmas.Bool.{or_parts}
use Rattle.std.proofs.lemmas.List.Folds.{list_any-append}
use Rattle.std.proofs.lemmas.List.{append-nil}
use Rattle.smil_model.specs.declared.diary.Entry.{Entry}
use Rattle.smil_model.specs.declared.diary.LogEntry.{LogEntry}
use Rattle.smil_model.specs.declared.diary.Step.TheVariants.{Logged}
use Rattle.smil_model.specs.declared.diary.StepKind.TheVariants as kind
use Rattle.smil_model.specs.declared.document.Node.{Node}
use Rattle.smil_model.specs.happening.Keys.{DueChange, coming, first_coming, is_due}
use Rattle.smil_model.specs.happening.Groups.{group}
use Rattle.smil_model.specs.happening.Resolution.{Course, Progress, outset, history_at, after_quiet, after_settling, after_coming, next_step, after_steps}
use Rattle.smil_laws.specs.Agreement.{DifferBelow, SparesAll, is_on, course_on}
use Rattle.smil_model.specs.diary.Diary.{is_step}
use Rattle.smil_model.specs.reach.Bounds.{has_begun}
use Rattle.smil_laws.proofs.AsideDocuments.{NamesAlike, names_itself, each_append}
use Rattle.smil_laws.proofs.AsideKeys.{bare, least_same, least_kept}
use Rattle.smil_laws.proofs.AsideGroups.{group_same, group_spares}

-- ---- one step appends to the diary

-- the diary that a step leaves is the one before it with such entries appended
abbrev Extends : (List Entry → Type 0) → Progress → Option Progress → Type 0
Extends P q o = (r : Progress) → o ≡ Some r → (added : List Entry) × (r.diary ≡ q.diary ++ added) × P added

module _ (P : List Entry → Type 0) (c : Course) (q : Progress) (nothing : P []) (hears : P (record { moment = pos q.moment; step = Logged q.heard } ∷ [])) where
  quiet_extends : Extends P q (after_quiet c q)
  quiet_extends r e = by_test (nat_lt q.moment c.last) e
    where
      by_test : (t : Bool) → cond t (Some (record { moment = suc q.moment; heard = q.heard; diary = q.diary })) None ≡ Some r → (added : List Entry) × (r.diary ≡ q.diary ++ added) × P added
      by_test true e =
          let one : record { moment = suc q.moment; heard = q.heard; diary = q.diary } ≡ r = cc in
          ([], sym (ap (λ (x : Progress). x.diary) one) ∙ sym (append-nil q.diary), nothing)
      by_test false e = cc

  settling_extends : (o : Option LogEntry) → Extends P q (after_settling c q o)
  settling_extends None r e = quiet_extends r e
  settling_extends (Some entry) r e = by_test (int_le entry.moment (pos q.moment)) e
    where
      by_test : (t : Bool) → cond t (Some (record { moment = q.moment; heard = suc q.heard; diary = q.diary ++ record { moment = pos q.moment; step = Logged q.heard } ∷ [] })) (after_quiet c q) ≡ Some r → (added : List Entry) × (r.diary ≡ q.diary ++ added) × P added
      by_test true e =
          let one : record { moment = q.moment; heard = suc q.heard; diary = q.diary ++ record { moment = pos q.moment; step = Logged q.heard } ∷ [] } ≡ r = cc in
          (record { moment = pos q.moment; step = Logged q.heard } ∷ [], sym (ap (λ (x : Progress). x.diary) one), hears)
      by_test false e = quiet_extends r e

  key_extends : (o : Option DueChange) → ((next : DueChange) → o ≡ Some next → P (group (history_at c q) (pos q.moment) next.key.serial next.change)) → Extends P q (after_coming c q o)
  key_extends None happens r e = settling_extends (slice_get c.log q.heard) r e
  key_extends (Some next) happens r e = by_test (is_due (pos q.moment) next.key) e
    where
      by_test : (t : Bool) → cond t (Some (record { moment = q.moment; heard = q.heard; diary = q.diary ++ group (history_at c q) (pos q.moment) next.key.serial next.change })) (after_settling c q (slice_get c.log q.heard)) ≡ Some r → (added : List Entry) × (r.diary ≡ q.diary ++ added) × P added
      by_test true e =
          let one : record { moment = q.moment; heard = q.heard; diary = q.diary ++ group (history_at c q) (pos q.moment) next.key.serial next.change } ≡ r = cc in
          (group (history_at c q) (pos q.moment) next.key.serial next.change, sym (ap (λ (x : Progress). x.diary) one), happens next refl)
      by_test false e = settling_extends (slice_get c.log q.heard) r e

  pub next_extends : ((next : DueChange) → first_coming (coming (history_at c q) (pos q.moment)) ≡ Some next → P (group (history_at c q) (pos q.moment) next.key.serial next.change)) → Extends P q (next_step c q)
  next_extends happens = key_extends (first_coming (coming (history_at c q) (pos q.moment))) happens

-- ---- what has begun stays so

begun_more : (xs ys : List Entry) (p : ℕ) → has_begun (xs ++ ys) p ≡ false → has_begun xs p ≡ false
begun_more xs ys p q = (or_parts _ _ (sym (list_any-append (λ (x : Entry). is_step kind.Began p x.step) xs ys) ∙ q)).0

begun_step : (c : Course) (p : ℕ) (q r : Progress) → next_step c q ≡ Some r → has_begun r.diary p ≡ false → has_begun q.diary p ≡ false
begun_step c p q r e never =
    let more = next_extends (λ added. Unit {0}) c q tt tt (λ next d. tt) r e in
    begun_more q.diary more.0 p (sym (ap (λ ds. has_begun ds p) more.1) ∙ never)

pub begun_before : (c : Course) (p k : ℕ) (q : Progress) → has_begun (after_steps c k q).diary p ≡ false → has_begun q.diary p ≡ false
begun_before c p zero q never = never
begun_before c p (suc k) q never = by_next (next_step c q) refl never (begun_before c p k)
  where
    by_next : (o : Option Progress) → next_step c q ≡ o → has_begun (option_map_or (λ r. after_steps c k r) o q).diary p ≡ false → ((r : Progress) → has_begun (after_steps c k r).diary p ≡ false → has_begun r.diary p ≡ false) → has_begun q.diary p ≡ false
    by_next None e f later = f
    by_next (Some r) e f later = begun_step c p q r e (later r f)

-- ---- two documents

after_bare : (c : Course) (q : Progress) (o : Option DueChange) → after_coming c q o ≡ after_coming c q (bare o)
after_bare c q None = refl
after_bare c q (Some next) = refl

module _ (aside : ℕ → Bool) (p : ℕ) (n1 n2 : List Node) (differ : DifferBelow aside p n1 n2) (log1 log2 : List LogEntry) (last1 last2 : ℕ) (q : Progress) (free : SparesAll aside q.diary) (never : has_begun q.diary p ≡ false) (named : NamesAlike log1 log2 q.diary) where
  abbrev c1 : Course
  c1 = course_on n1 log1 last1

  abbrev c2 : Course
  c2 = course_on n2 log2 last2

  abbrev due : Option DueChange
  due = first_coming (coming (history_at c1 q) (pos q.moment))

  key_alike : (next_step c1 q ≡ after_settling c1 q (slice_get log1 q.heard) → after_settling c1 q (slice_get log1 q.heard) ≡ after_settling c2 q (slice_get log2 q.heard)) → (o : Option DueChange) → due ≡ o → ((next : DueChange) → o ≡ Some next → aside next.key.serial ≡ false) → after_coming c1 q o ≡ after_coming c2 q o
  key_alike settles None d f = settles (ap (after_coming c1 q) d)
  key_alike settles (Some next) d f =
      ap (λ (g : List Entry). cond (is_due (pos q.moment) next.key) (Some (record { moment = q.moment; heard = q.heard; diary = q.diary ++ g })) (after_settling c1 q (slice_get log1 q.heard)))
      (group_same aside p n1 n2 differ log1 log2 q.diary free (pos q.moment) next.key.serial next.change (f next refl))
      ∙ by_test (is_due (pos q.moment) next.key) refl
    where
      by_test : (t : Bool) → is_due (pos q.moment) next.key ≡ t → cond t (Some (record { moment = q.moment; heard = q.heard; diary = q.diary ++ group (history_at c2 q) (pos q.moment) next.key.serial next.change })) (after_settling c1 q (slice_get log1 q.heard)) ≡ cond t (Some (record { moment = q.moment; heard = q.heard; diary = q.diary ++ group (history_at c2 q) (pos q.moment) next.key.serial next.change })) (after_settling c2 q (slice_get log2 q.heard))
      by_test true e = refl
      by_test false e =
          settles (ap (after_coming c1 q) d ∙ ap (λ t. cond t (Some (record { moment = q.moment; heard = q.heard; diary = q.diary ++ group (history_at c1 q) (pos q.moment) next.key.serial next.change })) (after_settling c1 q (slice_get log1 q.heard))) e)

  -- the next step is the same in both, if it is where nothing is due
  pub next_alike : (next_step c1 q ≡ after_settling c1 q (slice_get log1 q.heard) → after_settling c1 q (slice_get log1 q.heard) ≡ after_settling c2 q (slice_get log2 q.heard)) → next_step c1 q ≡ next_step c2 q
  next_alike settles =
      key_alike settles due refl (least_kept aside p n1 n2 differ log1 log2 q.diary free never named (pos q.moment))
      ∙ after_bare c2 q due
      ∙ ap (after_coming c2 q) (least_same aside p n1 n2 differ log1 log2 q.diary free never named (pos q.moment))
      ∙ sym (after_bare c2 q (first_coming (coming (history_at c2 q) (pos q.moment))))

  -- and nothing happens to what is set aside
  pub next_frees : (r : Progress) → next_step c1 q ≡ Some r → SparesAll aside r.diary
  next_frees r e =
      let more = next_extends (SparesAll aside) c1 q tt (refl, tt)
      (λ next d. group_spares aside p n1 n2 differ log1 log2 q.diary free (pos q.moment) next.key.serial next.change (least_kept aside p n1 n2 differ log1 log2 q.diary free never named (pos q.moment) next d)) r e in
      rw more.1 (each_append (λ (x : Entry). is_on aside x.step ≡ false) q.diary more.0 free more.2)

module _ (aside : ℕ → Bool) (p : ℕ) (n1 n2 : List Node) (differ : DifferBelow aside p n1 n2) (log : List LogEntry) (last : ℕ) where
  abbrev k1 : Course
  k1 = course_on n1 log last

  abbrev k2 : Course
  k2 = course_on n2 log last

  settling_same : (q : Progress) (o : Option LogEntry) → after_settling k1 q o ≡ after_settling k2 q o
  settling_same q None = refl
  settling_same q (Some entry) = refl

  pub next_same : (q : Progress) → SparesAll aside q.diary → has_begun q.diary p ≡ false → next_step k1 q ≡ next_step k2 q
  next_same q free never = next_alike aside p n1 n2 differ log log last last q free never (names_itself log q.diary) (λ d. settling_same q (slice_get log q.heard))

  pub next_spares : (q : Progress) → SparesAll aside q.diary → has_begun q.diary p ≡ false → (r : Progress) → next_step k1 q ≡ Some r → SparesAll aside r.diary
  next_spares q free never r e = next_frees aside p n1 n2 differ log log last last q free never (names_itself log q.diary) r e

  steps_agree : (k : ℕ) (q : Progress) → SparesAll aside q.diary → has_begun (after_steps k1 k q).diary p ≡ false → after_steps k1 (suc k) q ≡ after_steps k2 (suc k) q
  steps_agree zero q free never = ap (λ o. option_map_or (λ r. r) o q) (next_same q free never)
  steps_agree (suc k) q free never =
      by_next (next_step k1 q) refl never (steps_agree k)
      ∙ ap (λ o. option_map_or (λ r. after_steps k2 (suc k) r) o q) (next_same q free (begun_before k1 p (suc k) q never))
    where
      by_next : (o : Option Progress) → next_step k1 q ≡ o → has_begun (option_map_or (λ r. after_steps k1 k r) o q).diary p ≡ false → ((r : Progress) → SparesAll aside r.diary → has_begun (after_steps k1 k r).diary p ≡ false → after_steps k1 (suc k) r ≡ after_steps k2 (suc k) r) → option_map_or (λ r. after_steps k1 (suc k) r) o q ≡ option_map_or (λ r. after_steps k2 (suc k) r) o q
      by_next None e f later = refl
      by_next (Some r) e f later = later r (next_spares q free (begun_before k1 p (suc k) q never) r e) f

  -- the law
  pub agrees_until_begun : (k : ℕ) → has_begun (after_steps k1 k outset).diary p ≡ false → after_steps k1 (suc k) outset ≡ after_steps k2 (suc k) outset
  agrees_until_begun k never = steps_agree k outset tt never
