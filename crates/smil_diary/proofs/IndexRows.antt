-- The rows of an index: what is kept of a serial with a row, and what a change of one leaves.
use Rattle.std.proofs.Common.{◌≡◌, ◌∙◌, refl, ap, sym, ℕ, zero, suc, ◌+◌, Bool, true, false, cond, List, [], ◌∷◌, ◌++◌, Option, Some, None, length, get_or, set, map, arith}
use Rattle.std.specs.Prelude.{◌==◌, nat_eq, option_map, unwrap_or}
use Rattle.std.specs.Map.{lookup}
use Rattle.std.specs.Option.{option_or}
use Rattle.std.proofs.lemmas.Bool.{eq-eqb, eqb-true}
use Rattle.std.proofs.lemmas.Bool.Decides.{nat_tests}
use Rattle.std.proofs.lemmas.List.Quantifiers.{position-Some}
use Rattle.smil_model.proofs.FirstPlaces.{position_cons, position_push}
use Rattle.smil_diary.specs.declared.element.ElementPlaces.{ElementPlaces}
use Rattle.smil_diary.specs.declared.element.TheConstants.{NOTHING}
use Rattle.smil_diary.specs.ElementPlaces.{cleared, kept, row_of}

some_same : (a b : ℕ) → Some a ≡ Some b → a ≡ b
some_same a b is = ap (λ o. unwrap_or o a) is

zero_first : (at : ℕ) → Some 0 ≡ Some (suc at) → ⊥
zero_first at is = omega (arith, some_same 0 (suc at) is)

suc_first : (row : ℕ) → Some (suc row) ≡ Some 0 → ⊥
suc_first row is = omega (arith, some_same (suc row) 0 is)

turned : (a b : ℕ) → nat_eq a b ≡ (b == a)
turned a b = grind (arith, nat_tests)

kept_cons : (e : ℕ × ElementPlaces) (es : List (ℕ × ElementPlaces)) (s : ℕ) → kept (e ∷ es) s ≡ cond (e.0 == s) e.1 (kept es s)
kept_cons e es s = ap (λ t. unwrap_or (cond t (Some e.1) (lookup (nat_eq s) es)) NOTHING) (turned s e.0) ∙ by (e.0 == s)
  where
    by : (t : Bool) → unwrap_or (cond t (Some e.1) (lookup (nat_eq s) es)) NOTHING ≡ cond t e.1 (kept es s)
    by true = refl
    by false = refl

row_cons : (e : ℕ × ElementPlaces) (es : List (ℕ × ElementPlaces)) (s : ℕ) → row_of (e ∷ es) s ≡ cond (e.0 == s) (Some 0) (option_map suc (row_of es s))
row_cons e es s = position_cons (λ (e : ℕ × ElementPlaces). e.0 == s) e es

-- what is kept at a row, and where there is none
told : (ℕ × ElementPlaces) → List (ℕ × ElementPlaces) → Option ℕ → ElementPlaces
told d es None = NOTHING
told d es (Some row) = (get_or es row d).1

told_next : (d e : ℕ × ElementPlaces) (es : List (ℕ × ElementPlaces)) (t : Bool) (o : Option ℕ) → cond t e.1 (told d es o) ≡ told d (e ∷ es) (cond t (Some 0) (option_map suc o))
unfolding told
told_next d e es true o = refl
told_next d e es false None = refl
told_next d e es false (Some row) = refl

kept_told : (d : ℕ × ElementPlaces) (es : List (ℕ × ElementPlaces)) (s : ℕ) → kept es s ≡ told d es (row_of es s)
unfolding told
kept_told d [] s = refl
kept_told d (e ∷ es) s =
    kept_cons e es s ∙ ap (cond (e.0 == s) e.1) (kept_told d es s) ∙ told_next d e es (e.0 == s) (row_of es s) ∙ ap (told d (e ∷ es)) (sym (row_cons e es s))

pub kept_at : (es : List (ℕ × ElementPlaces)) (s row : ℕ) (d : ℕ × ElementPlaces) → row_of es s ≡ Some row → kept es s ≡ (get_or es row d).1
unfolding told
kept_at es s row d is = kept_told d es s ∙ ap (told d es) is

pub kept_none : (es : List (ℕ × ElementPlaces)) (s : ℕ) → row_of es s ≡ None → kept es s ≡ NOTHING
unfolding told
kept_none es s is = kept_told (0, NOTHING) es s ∙ ap (told (0, NOTHING) es) is

-- a row with nothing changes what is kept of no serial
pub kept_pushed : (es : List (ℕ × ElementPlaces)) (who s : ℕ) → kept (es ++ (who, NOTHING) ∷ []) s ≡ kept es s
kept_pushed [] who s = kept_cons (who, NOTHING) [] s ∙ by (who == s)
  where
    by : (t : Bool) → cond t NOTHING NOTHING ≡ NOTHING
    by true = refl
    by false = refl
kept_pushed (e ∷ es) who s =
    kept_cons e (es ++ (who, NOTHING) ∷ []) s ∙ ap (cond (e.0 == s) e.1) (kept_pushed es who s) ∙ sym (kept_cons e es s)

-- the rows with one for a serial that had none
pub row_pushed : (es : List (ℕ × ElementPlaces)) (who s : ℕ) → row_of es who ≡ None → cond (who == s) (Some (length es)) (row_of es s) ≡ row_of (es ++ (who, NOTHING) ∷ []) s
row_pushed es who s none =
    by (who == s) refl (row_of es s) refl ∙ sym (position_push (λ (e : ℕ × ElementPlaces). e.0 == s) es (who, NOTHING))
  where
    by : (t : Bool) → (who == s) ≡ t → (o : Option ℕ) → row_of es s ≡ o → cond t (Some (length es)) o ≡ option_or o (cond t (Some (length es)) None)
    by true same None is = refl
    by true same (Some row) is =
        let never : None ≡ Some row = sym none ∙ ap (row_of es) (eqb-true who s same) ∙ is in
        cc
    by false same None is = refl
    by false same (Some row) is = refl

-- a row keeps its serial under a change of what it has
pub row_set : (es : List (ℕ × ElementPlaces)) (at : ℕ) (d : ℕ × ElementPlaces) (x : ElementPlaces) (s : ℕ) → row_of (set es at ((get_or es at d).0, x)) s ≡ row_of es s
row_set [] at d x s = refl
row_set (e ∷ es) zero d x s = row_cons (e.0, x) es s ∙ sym (row_cons e es s)
row_set (e ∷ es) (suc at) d x s =
    row_cons e (set es at ((get_or es at d).0, x)) s ∙ ap (λ o. cond (e.0 == s) (Some 0) (option_map suc o)) (row_set es at d x s) ∙ sym (row_cons e es s)

-- what is kept of each serial after a change of one
pub kept_set : (es : List (ℕ × ElementPlaces)) (at who : ℕ) (x : ElementPlaces) (s : ℕ) → row_of es who ≡ Some at → kept (set es at (who, x)) s ≡ cond (who == s) x (kept es s)
kept_set [] at who x s is = let never : None ≡ Some at = is in cc
kept_set (e ∷ es) at who x s is = by (e.0 == who) refl (row_of es who) refl at (sym (row_cons e es who) ∙ is) (λ row there. kept_set es row who x s there)
  where
    first : (t : Bool) → cond t x (kept es s) ≡ cond t x (cond t e.1 (kept es s))
    first true = refl
    first false = refl

    later : (t u : Bool) → (e.0 == s) ≡ t → (who == s) ≡ u → (e.0 == who) ≡ false → cond t e.1 (cond u x (kept es s)) ≡ cond u x (cond t e.1 (kept es s))
    later true true here there differ =
        let never : true ≡ false = sym (eq-eqb e.0 who (eqb-true e.0 s here ∙ sym (eqb-true who s there))) ∙ differ in
        cc
    later true false here there differ = refl
    later false u here there differ = refl

    by : (t : Bool) → (e.0 == who) ≡ t → (o : Option ℕ) → row_of es who ≡ o → (at : ℕ) → cond t (Some 0) (option_map suc o) ≡ Some at → ((row : ℕ) → row_of es who ≡ Some row → kept (set es row (who, x)) s ≡ cond (who == s) x (kept es s)) → kept (set (e ∷ es) at (who, x)) s ≡ cond (who == s) x (kept (e ∷ es) s)
    by true same o there zero is rest =
        kept_cons (who, x) es s ∙ first (who == s)
        ∙ ap (λ n. cond (who == s) x (cond (n == s) e.1 (kept es s))) (sym (eqb-true e.0 who same))
        ∙ ap (cond (who == s) x) (sym (kept_cons e es s))
    by true same o there (suc at) is rest = absurd (zero_first at is)
    by false differ None there at is rest = let never : None ≡ Some at = is in cc
    by false differ (Some row) there zero is rest = absurd (suc_first row is)
    by false differ (Some row) there (suc at) is rest =
        kept_cons e (set es at (who, x)) s
        ∙ ap (cond (e.0 == s) e.1) (rest at (there ∙ ap Some (omega (arith, some_same (suc row) (suc at) is))))
        ∙ later (e.0 == s) (who == s) refl refl differ
        ∙ ap (cond (who == s) x) (sym (kept_cons e es s))

-- a row that is changed by its serial alone
pub kept_changed : (es : List (ℕ × ElementPlaces)) (who row : ℕ) (d e : ℕ × ElementPlaces) (x : ElementPlaces) (f : ElementPlaces → ElementPlaces) → row_of es who ≡ Some row → e ≡ get_or es row d → x ≡ f e.1 → (s : ℕ) → kept (set es row (e.0, x)) s ≡ cond (who == s) (f (kept es s)) (kept es s)
kept_changed es who row d e x f is at now s =
    ap (λ n. kept (set es row (n, x)) s) own ∙ kept_set es row who x s is ∙ by (who == s) refl
  where
    own : e.0 ≡ who
    own = eqb-true e.0 who (ap (λ (r : ℕ × ElementPlaces). r.0 == who) at ∙ (position-Some (λ (r : ℕ × ElementPlaces). r.0 == who) es row d is).1)

    by : (t : Bool) → (who == s) ≡ t → cond t x (kept es s) ≡ cond t (f (kept es s)) (kept es s)
    by true same = now ∙ ap f (ap (λ (r : ℕ × ElementPlaces). r.1) at ∙ sym (kept_at es who row d is) ∙ ap (kept es) (eqb-true who s same))
    by false same = refl

-- ---- rows that are cleared

pub kept_cleared : (es : List (ℕ × ElementPlaces)) (s : ℕ) → kept (map cleared es) s ≡ NOTHING
kept_cleared [] s = refl
kept_cleared (e ∷ es) s = kept_cons (cleared e) (map cleared es) s ∙ ap (cond (e.0 == s) NOTHING) (kept_cleared es s) ∙ by (e.0 == s)
  where
    by : (t : Bool) → cond t NOTHING NOTHING ≡ NOTHING
    by true = refl
    by false = refl

pub row_cleared : (es : List (ℕ × ElementPlaces)) (s : ℕ) → row_of (map cleared es) s ≡ row_of es s
row_cleared [] s = refl
row_cleared (e ∷ es) s =
    row_cons (cleared e) (map cleared es) s ∙ ap (λ o. cond (e.0 == s) (Some 0) (option_map suc o)) (row_cleared es s) ∙ sym (row_cons e es s)
