-- Rows that take in entries once more: each has what its element has of the entries so far.
use Rattle.std.proofs.Common.{◌≡◌, refl, ap, sym, subst, ◌∙◌, ℕ, ◌≤◌, ◌<◌, ◌+◌, Bool, true, false, cond, List, [], ◌∷◌, ◌++◌, take, zero, suc, Option, Some, None, length, get_or, set, arith}
use Rattle.std.specs.Prelude.{◌==◌, if◌then◌else◌, is_some, IfSome}
use Rattle.std.proofs.lemmas.Bool.{eqb-true}
use Rattle.std.proofs.lemmas.List.{length-take, take_more}
use Rattle.smil_model.specs.declared.diary.Entry.{Entry}
use Rattle.smil_model.specs.declared.diary.StepKind.{StepKind}
use Rattle.smil_model.specs.declared.diary.StepKind.TheVariants as kind
use Rattle.smil_model.specs.diary.Diary.{is_step, last_place, later_place}
use Rattle.smil_diary.specs.declared.element.ElementPlaces.{ElementPlaces}
use Rattle.smil_diary.specs.declared.element.TheConstants.{NOTHING}
use Rattle.smil_diary.specs.ElementPlaces.{element_of, kept, noted, noted_at, noted_by, row_of, subject}
use Rattle.smil_diary.proofs.ElementIndex.{few-repeats, no-entries, pushed}
use Rattle.smil_diary.proofs.EntryCounts.{repeats-none}
use Rattle.smil_diary.proofs.IndexRows.{kept_changed, kept_none}

-- what a row has of some entries, where there is one
abbrev pub given : Bool → List Entry → ℕ → ElementPlaces
given has entries s = if has then element_of entries s else NOTHING

pub given_none : (has : Bool) (s : ℕ) → NOTHING ≡ given has [] s
given_none true s = sym (no-entries s)
given_none false s = refl

given_more : (has : Bool) (past : List Entry) (x : Entry) (s place : ℕ) (was now : ElementPlaces) → place ≡ length past
    → was ≡ given has past s → now ≡ (if has then noted_by (subject x.step) place s was else was)
    → now ≡ given has (past ++ x ∷ []) s
given_more true past x s place was now at was_is now_is =
    now_is
    ∙ ap (noted_by (subject x.step) place s) was_is
    ∙ ap (λ p. noted_by (subject x.step) p s (element_of past s)) at
    ∙ sym (pushed past x s)
given_more false past x s place was now at was_is now_is = now_is ∙ was_is

so_many : (entries : List Entry) (i : ℕ) → i < length entries → i ≡ length (take i entries)
so_many entries i inside = omega (arith, length-take i entries)

pub given_next : (entries : List Entry) (i : ℕ) (d : Entry) → i < length entries → (before row : Option ℕ) (s : ℕ) (was now : ElementPlaces)
    → row ≡ before → was ≡ given (is_some before) (take i entries) s
    → now ≡ (if is_some row then noted_by (subject (get_or entries i d).step) i s was else was)
    → now ≡ given (is_some before) (take (i + 1) entries) s
given_next entries i d inside before row s was now same was_is now_is =
    given_more (is_some before) (take i entries) (get_or entries i d) s i was now (so_many entries i inside) was_is
    (now_is ∙ ap (λ o. if is_some o then noted_by (subject (get_or entries i d).step) i s was else was) same)
    ∙ ap (λ xs. given (is_some before) xs s) (sym (take_more entries i d inside))

pub given_few : (has : Bool) (entries : List Entry) (i s : ℕ) (was : ElementPlaces) → i < length entries
    → was ≡ given has (take i entries) s → IfSome was.repeats (λ k. k ≤ i)
given_few true entries i s was inside was_is =
    subst (λ (e : ElementPlaces). IfSome e.repeats (λ k. k ≤ i)) (sym was_is)
    (subst (λ n. IfSome (element_of (take i entries) s).repeats (λ k. k ≤ n)) (sym (so_many entries i inside)) (few-repeats (take i entries) s))
given_few false entries i s was inside was_is =
    subst (λ (e : ElementPlaces). IfSome e.repeats (λ k. k ≤ i)) (sym was_is) tt

-- ---- one row changed

has_row : (es : List (ℕ × ElementPlaces)) (who row s : ℕ) → row_of es who ≡ Some row → (who == s) ≡ true → is_some (row_of es s) ≡ true
has_row es who row s at same = ap (λ n. is_some (row_of es n)) (sym (eqb-true who s same)) ∙ ap is_some at

pub row_noted : (es : List (ℕ × ElementPlaces)) (who row : ℕ) (k : StepKind) (place : ℕ) (d e : ℕ × ElementPlaces) (x : ElementPlaces)
    → row_of es who ≡ Some row → e ≡ get_or es row d → x ≡ noted k place e.1 → (s : ℕ)
    → kept (set es row (e.0, x)) s ≡ (if is_some (row_of es s) then noted_at who k place s (kept es s) else kept es s)
row_noted es who row k place d e x at is now s =
    kept_changed es who row d e x (noted k place) at is now s ∙ by (who == s) refl (is_some (row_of es s)) refl
  where
    by : (t : Bool) → (who == s) ≡ t → (r : Bool) → is_some (row_of es s) ≡ r → cond t (noted k place (kept es s)) (kept es s) ≡ (if r then (if t then noted k place (kept es s) else kept es s) else kept es s)
    by true same true has = refl
    by true same false has = let never : true ≡ false = sym (has_row es who row s at same) ∙ has in cc
    by false same true has = refl
    by false same false has = refl

pub row_unknown : (es : List (ℕ × ElementPlaces)) (who : ℕ) (k : StepKind) (place : ℕ) → row_of es who ≡ None → (s : ℕ)
    → kept es s ≡ (if is_some (row_of es s) then noted_at who k place s (kept es s) else kept es s)
row_unknown es who k place none s = by (who == s) refl (is_some (row_of es s)) refl
  where
    by : (t : Bool) → (who == s) ≡ t → (r : Bool) → is_some (row_of es s) ≡ r → kept es s ≡ (if r then (if t then noted k place (kept es s) else kept es s) else kept es s)
    by true same true has =
        let never : false ≡ true = ap is_some (sym none) ∙ ap (λ n. is_some (row_of es n)) (eqb-true who s same) ∙ has in
        cc
    by true same false has = refl
    by false same true has = refl
    by false same false has = refl

-- ---- where an element has no entries, it had none before

later_none : (t : Bool) (o p : Option ℕ) → later_place t o ≡ None → (o ≡ None → p ≡ None) → later_place t p ≡ None
later_none true None p is fewer = cc
later_none false None p is fewer = ap (later_place false) (fewer refl)
later_none t (Some k) p is fewer = cc

none_before : {A : Type 0} (test : A → Bool) (n : ℕ) (xs : List A) → last_place test xs ≡ None → last_place test (take n xs) ≡ None
none_before test zero xs is = refl
none_before test (suc n) [] is = refl
none_before test (suc n) (x ∷ xs) is =
    later_none (test x) (last_place test xs) (last_place test (take n xs)) is (none_before test n xs)

pub nothing_before : (diary : List Entry) (n s : ℕ) → element_of diary s ≡ NOTHING → NOTHING ≡ element_of (take n diary) s
unfolding element_of
nothing_before diary n s is =
    let none = λ (k : StepKind). none_before (λ (x : Entry). is_step k s x.step) n diary in
    let began = none kind.Began (ap (λ (e : ElementPlaces). e.began) is) in
    let ended = none kind.Ended (ap (λ (e : ElementPlaces). e.ended) is) in
    let cut = none kind.Cut (ap (λ (e : ElementPlaces). e.cut) is) in
    let repeated = none kind.Repeated (ap (λ (e : ElementPlaces). e.repeated) is) in
    let paused = none kind.Paused (ap (λ (e : ElementPlaces). e.paused) is) in
    let resumed = none kind.Resumed (ap (λ (e : ElementPlaces). e.resumed) is) in
    let deferred = none kind.Deferred (ap (λ (e : ElementPlaces). e.deferred) is) in
    let passed = none kind.Passed (ap (λ (e : ElementPlaces). e.passed) is) in
    let repeats = repeats-none s (take n diary) began in
    sym
    (λ i. record {
      began = began i;
      ended = ended i;
      cut = cut i;
      repeated = repeated i;
      repeats = repeats i;
      paused = paused i;
      resumed = resumed i;
      deferred = deferred i;
      passed = passed i;
    })

pub given_back : (es : List (ℕ × ElementPlaces)) (diary : List Entry) (n s : ℕ) → kept es s ≡ element_of diary s
    → given (is_some (row_of es s)) (take n diary) s ≡ element_of (take n diary) s
given_back es diary n s is = by (row_of es s) refl
  where
    by : (o : Option ℕ) → row_of es s ≡ o → given (is_some o) (take n diary) s ≡ element_of (take n diary) s
    by None none = nothing_before diary n s (sym is ∙ kept_none es s none)
    by (Some row) at = refl
