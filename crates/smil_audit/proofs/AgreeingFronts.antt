-- How far two diaries agree, as it is counted and as one of them grows.
use Rattle.std.proofs.Common.{◌≡◌, refl, sym, ◌∙◌, ap, subst, ℕ, zero, suc, ◌+◌, ◌<◌, ◌≤◌, List, [], ◌∷◌, ◌++◌, ℤ, Bool, true, false, arith, length, take, drop, get_or, drop-cons, append-nil}
use Rattle.std.specs.Prelude.{cond, int_le, ◌&&◌, ◌==◌}
use Rattle.std.proofs.lemmas.Bool.{and_parts, and_from, eqb-true, eq-eqb}
use Rattle.smil_model.specs.declared.diary.Entry.{Entry}
use Rattle.smil_model.specs.declared.diary.Step.{Step}
use Rattle.smil_model.specs.declared.diary.Step.TheVariants.{Began, Repeated, Ended, Cut, Paused, Resumed, Deferred, Passed, Logged}
use Rattle.smil_model.proofs.NumberOrders.{le_exact, le_self}
use Rattle.smil_audit.specs.Entries.{agreed, is_same_entry, is_same_step, is_same_value}
use Rattle.smil_audit.specs.Verdict.{heard_at, is_in_place, placed}

-- ---- entries that are the same are one

not_true : (b : Bool) → b ≡ false → b ≡ true → ⊥
not_true true p q = cc
not_true false p q = cc

one_value : (v w : ℤ) → is_same_value v w ≡ true → v ≡ w
one_value v w e = let both = and_parts (int_le v w) (int_le w v) e in le_exact v w both.0 both.1

two : (made : ℕ → ℤ → Step) (s t : ℕ) (v w : ℤ) → ((s == t) && is_same_value v w) ≡ true → made s v ≡ made t w
two made s t v w e =
    let both = and_parts (s == t) (is_same_value v w) e in
    ap (λ (k : ℕ). made k v) (eqb-true s t both.0) ∙ ap (made t) (one_value v w both.1)

pub one_step : (x y : Step) → is_same_step x y ≡ true → x ≡ y
one_step (Began s v) (Began t w) e = two Began s t v w e
one_step (Repeated s v) (Repeated t w) e = two Repeated s t v w e
one_step (Ended s v) (Ended t w) e = two Ended s t v w e
one_step (Cut s) (Cut t) e = ap Cut (eqb-true s t e)
one_step (Paused s) (Paused t) e = ap Paused (eqb-true s t e)
one_step (Resumed s) (Resumed t) e = ap Resumed (eqb-true s t e)
one_step (Deferred s v) (Deferred t w) e = two Deferred s t v w e
one_step (Passed s v) (Passed t w) e = two Passed s t v w e
one_step (Logged s) (Logged t) e = ap Logged (eqb-true s t e)
one_step _ _ e = absurd cc

pub one_entry : (x y : Entry) → is_same_entry x y ≡ true → x ≡ y
one_entry x y e =
    let both = and_parts (is_same_value x.moment y.moment) (is_same_step x.step y.step) e in
    let at : x.moment ≡ y.moment = one_value x.moment y.moment both.0 in
    let done : x.step ≡ y.step = one_step x.step y.step both.1 in
    subst (λ (s : Step). x ≡ record { moment = y.moment; step = s }) done (subst (λ (m : ℤ). x ≡ record { moment = m; step = x.step }) at refl)

same_value : (v : ℤ) → is_same_value v v ≡ true
same_value v = and_from (int_le v v) (int_le v v) (le_self v) (le_self v)

both_same : (s : ℕ) (v : ℤ) → ((s == s) && is_same_value v v) ≡ true
both_same s v = and_from (s == s) (is_same_value v v) (eq-eqb s s refl) (same_value v)

same_step : (x : Step) → is_same_step x x ≡ true
same_step (Began s v) = both_same s v
same_step (Repeated s v) = both_same s v
same_step (Ended s v) = both_same s v
same_step (Cut s) = eq-eqb s s refl
same_step (Paused s) = eq-eqb s s refl
same_step (Resumed s) = eq-eqb s s refl
same_step (Deferred s v) = both_same s v
same_step (Passed s v) = both_same s v
same_step (Logged s) = eq-eqb s s refl

pub same_entry : (x : Entry) → is_same_entry x x ≡ true
same_entry x = and_from (is_same_value x.moment x.moment) (is_same_step x.step x.step) (same_value x.moment) (same_step x.step)

-- ---- counting

pub none_agree : (xs : List Entry) → agreed xs [] ≡ 0
none_agree [] = refl
none_agree (x ∷ xs) = refl

pub none_left : (i : ℕ) (xs ys : List Entry) → length ys ≤ i → agreed (drop i xs) (drop i ys) ≡ 0
none_left i xs ys all = ap (λ (zs : List Entry). agreed (drop i xs) zs) (dropped i ys all) ∙ none_agree (drop i xs)
  where
    dropped : (k : ℕ) (zs : List Entry) → length zs ≤ k → drop k zs ≡ []
    dropped zero [] le = refl
    dropped (suc k) [] le = refl
    dropped zero (z ∷ zs) le = absurd (omega (arith, le))
    dropped (suc k) (z ∷ zs) le = dropped k zs (omega (arith, le))

-- no more agree than there are
pub within_first : (xs ys : List Entry) → agreed xs ys ≤ length xs
within_first [] ys = omega arith
within_first (x ∷ xs) [] = omega arith
within_first (x ∷ xs) (y ∷ ys) = by_test (is_same_entry x y) (within_first xs ys)
  where
    by_test : (t : Bool) → agreed xs ys ≤ length xs → cond t (suc (agreed xs ys)) 0 ≤ suc (length xs)
    by_test true le = omega (arith, le)
    by_test false le = omega arith

pub within_second : (xs ys : List Entry) → agreed xs ys ≤ length ys
within_second [] ys = omega arith
within_second (x ∷ xs) [] = omega arith
within_second (x ∷ xs) (y ∷ ys) = by_test (is_same_entry x y) (within_second xs ys)
  where
    by_test : (t : Bool) → agreed xs ys ≤ length ys → cond t (suc (agreed xs ys)) 0 ≤ suc (length ys)
    by_test true le = omega (arith, le)
    by_test false le = omega arith

-- where a diary that disagrees somewhere goes on, as many agree
pub agree_longer : (xs ys more : List Entry) → agreed xs ys < length ys → agreed xs (ys ++ more) ≡ agreed xs ys
agree_longer [] [] more less = absurd (omega (arith, less))
agree_longer [] (y ∷ ys) more less = refl
agree_longer (x ∷ xs) [] more less = absurd (omega (arith, less))
agree_longer (x ∷ xs) (y ∷ ys) more less = by_test (is_same_entry x y) less (agree_longer xs ys more)
  where
    by_test : (t : Bool) → cond t (suc (agreed xs ys)) 0 < suc (length ys) → (agreed xs ys < length ys → agreed xs (ys ++ more) ≡ agreed xs ys)
        → cond t (suc (agreed xs (ys ++ more))) 0 ≡ cond t (suc (agreed xs ys)) 0
    by_test true l rest = ap suc (rest (omega (arith, l)))
    by_test false l rest = refl

-- and where it is cut behind what agrees, as many agree
pub agree_shorter : (xs ys more : List Entry) → agreed xs (ys ++ more) < length ys → agreed xs ys ≡ agreed xs (ys ++ more)
agree_shorter [] [] more less = absurd (omega (arith, less))
agree_shorter [] (y ∷ ys) more less = refl
agree_shorter (x ∷ xs) [] more less = absurd (omega (arith, less))
agree_shorter (x ∷ xs) (y ∷ ys) more less = by_test (is_same_entry x y) less (agree_shorter xs ys more)
  where
    by_test : (t : Bool) → cond t (suc (agreed xs (ys ++ more))) 0 < suc (length ys) → (agreed xs (ys ++ more) < length ys → agreed xs ys ≡ agreed xs (ys ++ more))
        → cond t (suc (agreed xs ys)) 0 ≡ cond t (suc (agreed xs (ys ++ more))) 0
    by_test true l rest = ap suc (rest (omega (arith, l)))
    by_test false l rest = refl

-- ---- log entries out of their places

pub cut_off : (i : ℕ) (xs total : List Entry) (from last : ℤ) (x : Entry) → i < length xs → is_in_place from last (get_or xs i x) ≡ false
    → take i xs ++ placed from last (drop i xs) ≡ total → take i xs ≡ total
cut_off i xs total from last x lt out so_far =
    let none : placed from last (drop i xs) ≡ [] = rw (drop-cons xs i x) (by_test (is_in_place from last (get_or xs i x)) out) in
    sym (append-nil (take i xs)) ∙ ap (λ (zs : List Entry). take i xs ++ zs) (sym none) ∙ so_far
  where
    by_test : (t : Bool) → t ≡ false → cond t (get_or xs i x ∷ placed (heard_at from (get_or xs i x)) last (drop (suc i) xs)) [] ≡ []
    by_test true e = cc
    by_test false e = refl

-- ---- a diary that begins with what was made

-- all that was made agrees
pub all_agree : (xs ys : List Entry) → take (length ys) xs ≡ ys → agreed xs ys ≡ length ys
all_agree xs [] e = none_agree xs
all_agree [] (y ∷ ys) e = absurd cc
all_agree (x ∷ xs) (y ∷ ys) e =
    let head : x ≡ y = cc in
    let rest : take (length ys) xs ≡ ys = cc in
    ap (λ (t : Bool). cond t (suc (agreed xs ys)) 0) (ap (λ (z : Entry). is_same_entry x z) (sym head) ∙ same_entry x) ∙ ap suc (all_agree xs ys rest)

-- and behind it as much agrees as of the rest
pub agree_behind : (xs ys more : List Entry) → take (length ys) xs ≡ ys → agreed xs (ys ++ more) ≡ length ys + agreed (drop (length ys) xs) more
agree_behind xs [] more e = omega arith
agree_behind [] (y ∷ ys) more e = absurd cc
agree_behind (x ∷ xs) (y ∷ ys) more e =
    let head : x ≡ y = cc in
    let rest : take (length ys) xs ≡ ys = cc in
    let one : agreed (x ∷ xs) (y ∷ (ys ++ more)) ≡ suc (agreed xs (ys ++ more)) =
    ap (λ (t : Bool). cond t (suc (agreed xs (ys ++ more))) 0) (ap (λ (z : Entry). is_same_entry x z) (sym head) ∙ same_entry x) in
    let later = agree_behind xs ys more rest in
    omega (arith, one, later)

-- where all of a list agrees, it stands at the front
pub stands_first : (xs ys : List Entry) → agreed xs ys ≡ length ys → take (length ys) xs ≡ ys
stands_first xs [] e = refl
stands_first [] (y ∷ ys) e = absurd (omega (arith, e))
stands_first (x ∷ xs) (y ∷ ys) e = by_test (is_same_entry x y) refl e (stands_first xs ys)
  where
    by_test : (t : Bool) → is_same_entry x y ≡ t → cond t (suc (agreed xs ys)) 0 ≡ suc (length ys) → (agreed xs ys ≡ length ys → take (length ys) xs ≡ ys) → x ∷ take (length ys) xs ≡ y ∷ ys
    by_test true same l rest = ap (λ (z : Entry). z ∷ take (length ys) xs) (one_entry x y same) ∙ ap (λ (zs : List Entry). y ∷ zs) (rest (omega (arith, l)))
    by_test false same l rest = absurd (omega (arith, l))
