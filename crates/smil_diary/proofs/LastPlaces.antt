-- What the last places of two tests say of a fold that one sets and the other clears.
use Rattle.std.proofs.Common.{◌≡◌, ℕ, zero, suc, ◌-◌, Bool, true, false, ◌&&◌, ◌||◌, List, [], ◌∷◌, ◌++◌, drop, length, refl, ap, ◌∙◌, ◌<◌, arith}
use Rattle.std.specs.Prelude.{fold, nat_lt, nat_le, if◌then◌else◌, Option, Some, None, is_some, IfSome}
use Rattle.smil_model.specs.declared.diary.Entry.{Entry}
use Rattle.smil_model.specs.declared.diary.Step.{Step}
use Rattle.smil_model.specs.declared.diary.Step.TheVariants.{Began, Ended, Resumed}
use Rattle.smil_model.specs.declared.diary.StepKind.TheVariants as kind
use Rattle.smil_model.specs.diary.Diary.{last_place, later_place, gives_birth, active_after, paused_after, deferral_after, is_step, is_active, last_step}
use Rattle.smil_model.specs.shown.Views.{is_finish}
use Rattle.smil_diary.specs.Places.{is_later, later_of, is_from, is_decision}

-- the fold's value where it began with `before`
abbrev pub held : Bool → Option ℕ → Option ℕ → Bool
held before None None = before
held before None (Some k) = false
held before (Some s) None = true
held before (Some s) (Some k) = nat_lt k s

abbrev pub set_or_clear : Bool → Bool → Bool → Bool
set_or_clear is_clear is_set before = if is_clear then false else is_set || before

held-later : (c s before : Bool) (S C : Option ℕ) →
    held (set_or_clear c s before) S C ≡ held before (later_place s S) (later_place c C)
held-later c s before None None = grind arith
held-later c s before (Some j) None = grind arith
held-later c s before None (Some k) = grind arith
held-later c s before (Some j) (Some k) = grind arith

pub fold-held : {A : Type 0} (after : Bool → A → Bool) (set clear : A → Bool)
    → ((b : Bool) (x : A) → after b x ≡ set_or_clear (clear x) (set x) b) → (before : Bool) (xs : List A)
    → fold after before xs ≡ held before (last_place set xs) (last_place clear xs)
fold-held after set clear is before [] = refl
fold-held after set clear is before (x ∷ xs) =
    fold-held after set clear is (after before x) xs
    ∙ ap (λ b. held b (last_place set xs) (last_place clear xs)) (is before x)
    ∙ held-later (clear x) (set x) before (last_place set xs) (last_place clear xs)

pub held-false : (S C : Option ℕ) → held false S C ≡ is_later S C
held-false None None = refl
held-false None (Some k) = refl
held-false (Some j) None = refl
held-false (Some j) (Some k) = refl

-- the last place of either of two tests is the later one
later-either : (a b : Bool) (P Q : Option ℕ) →
    later_place (a || b) (later_of P Q) ≡ later_of (later_place a P) (later_place b Q)
later-either a b None None = grind arith
later-either a b (Some j) None = grind arith
later-either a b None (Some k) = grind arith
later-either a b (Some j) (Some k) = grind arith

pub last_place-either : {A : Type 0} (p q r : A → Bool) → ((x : A) → r x ≡ (p x || q x)) → (xs : List A)
    → last_place r xs ≡ later_of (last_place p xs) (last_place q xs)
last_place-either p q r is [] = refl
last_place-either p q r is (x ∷ xs) =
    ap (λ b. later_place b (last_place r xs)) (is x)
    ∙ ap (λ o. later_place (p x || q x) o) (last_place-either p q r is xs)
    ∙ later-either (p x) (q x) (last_place p xs) (last_place q xs)

-- the birth is the later one of the last begin and the last repeat
gives_birth-either : (s : ℕ) (step : Step) → gives_birth s step ≡ (is_step kind.Began s step || is_step kind.Repeated s step)
gives_birth-either s (Began who begin) = grind arith
gives_birth-either s _ = refl

pub birth-last : (s : ℕ) (diary : List Entry)
    → last_place (λ (x : Entry). gives_birth s x.step) diary
    ≡ later_of (last_step diary kind.Began s) (last_step diary kind.Repeated s)
birth-last s diary =
    last_place-either (λ (x : Entry). is_step kind.Began s x.step) (λ (x : Entry). is_step kind.Repeated s x.step)
    (λ (x : Entry). gives_birth s x.step) (λ x. gives_birth-either s x.step) diary

-- the last end or cut is the later one of the last end and the last cut
is_finish-either : (s : ℕ) (step : Step) → is_finish s step ≡ (is_step kind.Ended s step || is_step kind.Cut s step)
is_finish-either s (Ended who end') = grind arith
is_finish-either s _ = refl

pub finish-last : (s : ℕ) (diary : List Entry)
    → last_place (λ (x : Entry). is_finish s x.step) diary
    ≡ later_of (last_step diary kind.Ended s) (last_step diary kind.Cut s)
finish-last s diary =
    last_place-either (λ (x : Entry). is_step kind.Ended s x.step) (λ (x : Entry). is_step kind.Cut s x.step)
    (λ (x : Entry). is_finish s x.step) (λ x. is_finish-either s x.step) diary

-- ---- activity and pauses

active-sets : (s : ℕ) (b : Bool) (step : Step) →
    active_after s b step ≡ set_or_clear (is_finish s step) (is_step kind.Began s step) b
active-sets s b (Began who begin) = refl
active-sets s b _ = refl

-- a resume or a begin
abbrev pub is_release : ℕ → Step → Bool
is_release s step = is_step kind.Resumed s step || is_step kind.Began s step

paused-sets : (s : ℕ) (b : Bool) (step : Step) →
    paused_after s b step ≡ set_or_clear (is_release s step) (is_step kind.Paused s step) b
paused-sets s b (Resumed who) = grind arith
paused-sets s b _ = refl

pub active-last : (s : ℕ) (diary : List Entry) →
    is_active diary s ≡
    is_later (last_step diary kind.Began s) (later_of (last_step diary kind.Ended s) (last_step diary kind.Cut s))
active-last s diary =
    fold-held (λ b (x : Entry). active_after s b x.step) (λ (x : Entry). is_step kind.Began s x.step)
    (λ (x : Entry). is_finish s x.step) (λ b x. active-sets s b x.step) false diary
    ∙ held-false (last_step diary kind.Began s) (last_place (λ (x : Entry). is_finish s x.step) diary)
    ∙ ap (λ o. is_later (last_step diary kind.Began s) o) (finish-last s diary)

pub paused-last : (s : ℕ) (diary : List Entry) →
    fold (λ before (x : Entry). paused_after s before x.step) false diary ≡
    is_later (last_step diary kind.Paused s) (later_of (last_step diary kind.Resumed s) (last_step diary kind.Began s))
paused-last s diary =
    fold-held (λ b (x : Entry). paused_after s b x.step) (λ (x : Entry). is_step kind.Paused s x.step)
    (λ (x : Entry). is_release s x.step) (λ b x. paused-sets s b x.step) false diary
    ∙ held-false (last_step diary kind.Paused s) (last_place (λ (x : Entry). is_release s x.step) diary)
    ∙ ap (λ o. is_later (last_step diary kind.Paused s) o)
    (last_place-either (λ (x : Entry). is_step kind.Resumed s x.step) (λ (x : Entry). is_step kind.Began s x.step)
    (λ (x : Entry). is_release s x.step) (λ x. refl) diary)

-- ---- since birth

abbrev pub drop_place : ℕ → Option ℕ → Option ℕ
drop_place from None = None
drop_place from (Some k) = if nat_le from k then Some (k - from) else None

drop_place-zero : (o : Option ℕ) → o ≡ drop_place 0 o
drop_place-zero None = refl
drop_place-zero (Some k) = grind arith

drop_place-suc : (t : Bool) (b : ℕ) (o : Option ℕ) → drop_place b o ≡ drop_place (suc b) (later_place t o)
drop_place-suc true b None = grind arith
drop_place-suc false b None = refl
drop_place-suc t b (Some k) = grind arith

pub last-drop : {A : Type 0} (test : A → Bool) (b : ℕ) (xs : List A)
    → last_place test (drop b xs) ≡ drop_place b (last_place test xs)
last-drop test zero [] = refl
last-drop test (suc b) [] = refl
last-drop test zero (x ∷ xs) = drop_place-zero (last_place test (x ∷ xs))
last-drop test (suc b) (x ∷ xs) = last-drop test b xs ∙ drop_place-suc (test x) b (last_place test xs)

later-drop : (b : ℕ) (S C : Option ℕ) → is_later (drop_place b S) (drop_place b C) ≡ (is_from b S && is_later S C)
later-drop b None None = refl
later-drop b None (Some k) = refl
later-drop b (Some j) None = grind arith
later-drop b (Some j) (Some k) = grind arith

pub fold-fusion : {A B C : Type 0} (to : B → C) (f : B → A → B) (g : C → A → C)
    → ((b : B) (x : A) → to (f b x) ≡ g (to b) x) → (b : B) (xs : List A) → to (fold f b xs) ≡ fold g (to b) xs
fold-fusion to f g same b [] = refl
fold-fusion to f g same b (x ∷ xs) =
    fold-fusion to f g same (f b x) xs ∙ ap (λ c. fold g c xs) (same b x)

defers-sets : (s : ℕ) (here : Entry) (before : Option Entry) (step : Step) →
    is_some (deferral_after s here before step)
    ≡ set_or_clear (is_decision s step) (is_step kind.Deferred s step) (is_some before)
defers-sets s here before (Began who begin) = grind arith
defers-sets s here before _ = grind arith

pub deferral-last : (s b : ℕ) (diary : List Entry) →
    is_some (fold (λ before (x : Entry). deferral_after s x before x.step) None (drop b diary)) ≡
    (is_from b (last_step diary kind.Deferred s)
    && is_later (last_step diary kind.Deferred s) (last_place (λ (x : Entry). is_decision s x.step) diary))
deferral-last s b diary =
    let sets : Entry → Bool = λ (x : Entry). is_step kind.Deferred s x.step in
    let clears : Entry → Bool = λ (x : Entry). is_decision s x.step in
    let after : Bool → Entry → Bool = λ o x. set_or_clear (clears x) (sets x) o in
    fold-fusion is_some (λ before (x : Entry). deferral_after s x before x.step) after
    (λ o x. defers-sets s x o x.step) None (drop b diary)
    ∙ fold-held after sets clears (λ o x. refl) false (drop b diary)
    ∙ held-false (last_place sets (drop b diary)) (last_place clears (drop b diary))
    ∙ ap (λ o. is_later o (last_place clears (drop b diary))) (last-drop sets b diary)
    ∙ ap (λ o. is_later (drop_place b (last_place sets diary)) o) (last-drop clears b diary)
    ∙ later-drop b (last_place sets diary) (last_place clears diary)

pub decision-last : (s : ℕ) (diary : List Entry) →
    last_place (λ (x : Entry). is_decision s x.step) diary ≡
    later_of (later_of (last_step diary kind.Began s) (last_step diary kind.Passed s))
    (later_of (last_step diary kind.Ended s) (last_step diary kind.Cut s))
decision-last s diary =
    last_place-either (λ (x : Entry). is_step kind.Began s x.step || is_step kind.Passed s x.step)
    (λ (x : Entry). is_finish s x.step) (λ (x : Entry). is_decision s x.step) (λ x. refl) diary
    ∙ ap (λ o. later_of o (last_place (λ (x : Entry). is_finish s x.step) diary))
    (last_place-either (λ (x : Entry). is_step kind.Began s x.step) (λ (x : Entry). is_step kind.Passed s x.step)
    (λ (x : Entry). is_step kind.Began s x.step || is_step kind.Passed s x.step) (λ x. refl) diary)
    ∙ ap (λ o. later_of (later_of (last_step diary kind.Began s) (last_step diary kind.Passed s)) o)
    (finish-last s diary)

-- ---- one more entry, and the bound of a last place

abbrev pub found : Bool → ℕ → Option ℕ → Option ℕ
found true place before = Some place
found false place before = before

found-next : (t b : Bool) (i : ℕ) (o : Option ℕ) → later_place t (found b i o) ≡ found b (suc i) (later_place t o)
found-next true true i o = refl
found-next false true i o = refl
found-next t false i o = refl

found-first : (b : Bool) → later_place b None ≡ found b 0 None
found-first true = refl
found-first false = refl

pub last-push : {A : Type 0} (test : A → Bool) (xs : List A) (x : A) →
    last_place test (xs ++ x ∷ []) ≡ found (test x) (length xs) (last_place test xs)
last-push test [] x = found-first (test x)
last-push test (y ∷ ys) x =
    ap (λ o. later_place (test y) o) (last-push test ys x)
    ∙ found-next (test y) (test x) (length ys) (last_place test ys)

within-later : (t : Bool) (o : Option ℕ) (n : ℕ) → IfSome o (λ k. k < n) → IfSome (later_place t o) (λ k. k < suc n)
within-later true None n none = omega arith
within-later false None n none = tt
within-later t (Some k) n below = omega arith

pub last-within : {A : Type 0} (test : A → Bool) (xs : List A) → IfSome (last_place test xs) (λ k. k < length xs)
last-within test [] = tt
last-within test (x ∷ xs) = within-later (test x) (last_place test xs) (length xs) (last-within test xs)
