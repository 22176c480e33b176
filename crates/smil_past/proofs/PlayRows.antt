-- Lists of rows: what they have for an element, and one row put in the place of another.
use Rattle.std.proofs.Common.{◌≡◌, refl, sym, ◌∙◌, ap, subst, ℕ, suc, zero, ◌<◌, List, [], ◌∷◌, length, Option, Some, None, Bool, true, false, get_or, set, arith}
use Rattle.std.specs.Prelude.{cond, ◌==◌, ◌||◌, map, filter, find, option_map, is_some, slice_get}
use Rattle.std.specs.List.{list_any}
use Rattle.std.proofs.lemmas.Bool.{eqb-true, eq-eqb, or_parts}
use Rattle.smil_model.specs.declared.document.Node.{Node}
use Rattle.smil_model.specs.document.Document.{is_element}
use Rattle.smil_model.specs.document.Valid.{IsDistinct}
use Rattle.smil_model.specs.reach.Reach.{is_option}
use Rattle.smil_laws.proofs.LineageParents.{same_eqb}
use Rattle.smil_instances.specs.Spread.{IsIndex}
use Rattle.smil_past.specs.declared.plays.facts.PlayFacts.{PlayFacts}
use Rattle.smil_past.specs.Rows.{row_of, keys_of, IsPut}

abbrev pub Row : Type 0
Row = ℕ × PlayFacts

abbrev is_of : ℕ → Row → Bool
is_of s row = row.0 == s

-- ---- the first row of an element

abbrev pub IsFirst : ℕ → List Row → ℕ → Type 0
IsFirst who [] k = ⊥
IsFirst who (x ∷ xs) zero = x.0 == who ≡ true
IsFirst who (x ∷ xs) (suc k) = (x.0 == who ≡ false) × IsFirst who xs k

pub first_below : (who : ℕ) (xs : List Row) (k : ℕ) → IsFirst who xs k → k < length xs
first_below who [] k is = elim is [ ]
first_below who (x ∷ xs) zero is = omega arith
first_below who (x ∷ xs) (suc k) is = omega (arith, first_below who xs k is.1)

pub row_first : (who : ℕ) (xs : List Row) (k : ℕ) (d : Row) → IsFirst who xs k → row_of xs who ≡ Some (get_or xs k d).1
row_first who [] k d is = elim is [ ]
row_first who (x ∷ xs) zero d is = ap (λ t. option_map (λ (row : Row). row.1) (cond t (Some x) (find (λ (row : Row). row.0 == who) xs))) is
row_first who (x ∷ xs) (suc k) d is = ap (λ t. option_map (λ (row : Row). row.1) (cond t (Some x) (find (λ (row : Row). row.0 == who) xs))) is.0 ∙ row_first who xs k d is.1

pub first_key : (who : ℕ) (xs : List Row) (k : ℕ) (d : Row) → IsFirst who xs k → (get_or xs k d).0 ≡ who
first_key who [] k d is = elim is [ ]
first_key who (x ∷ xs) zero d is = eqb-true x.0 who is
first_key who (x ∷ xs) (suc k) d is = first_key who xs k d is.1

-- ---- a row put in its place

cons_row : (s : ℕ) (x : Row) (xs : List Row) → row_of (x ∷ xs) s ≡ cond (x.0 == s) (Some x.1) (row_of xs s)
cons_row s x xs = by_test (x.0 == s)
  where
    by_test : (t : Bool) → option_map (λ (row : Row). row.1) (cond t (Some x) (find (λ (row : Row). row.0 == s) xs)) ≡ cond t (Some x.1) (row_of xs s)
    by_test true = refl
    by_test false = refl

pub set_keys : (who : ℕ) (r : PlayFacts) (xs : List Row) (k : ℕ) → IsFirst who xs k → keys_of (set xs k (who, r)) ≡ keys_of xs
set_keys who r [] k is = cc
set_keys who r (x ∷ xs) zero is = ap (λ n. n ∷ keys_of xs) (sym (eqb-true x.0 who is))
set_keys who r (x ∷ xs) (suc k) is = ap (λ ns. x.0 ∷ ns) (set_keys who r xs k is.1)

abbrev put_at : ℕ → PlayFacts → ℕ → Option PlayFacts → Option PlayFacts
put_at who r s o = cond (who == s) (option_map (λ (q : PlayFacts). r) o) o

pub set_row : (who : ℕ) (r : PlayFacts) (xs : List Row) (k : ℕ) (s : ℕ) → IsFirst who xs k → row_of (set xs k (who, r)) s ≡ put_at who r s (row_of xs s)
set_row who r [] k s is = elim is [ ]
set_row who r (x ∷ xs) zero s is =
    cons_row s (who, r) xs ∙ by_test (who == s)
    ∙ ap (λ n. put_at who r s (cond (n == s) (Some x.1) (row_of xs s))) (sym (eqb-true x.0 who is))
    ∙ ap (put_at who r s) (sym (cons_row s x xs))
  where
    by_test : (t : Bool) → cond t (Some r) (row_of xs s) ≡ cond t (option_map (λ (q : PlayFacts). r) (cond t (Some x.1) (row_of xs s))) (cond t (Some x.1) (row_of xs s))
    by_test true = refl
    by_test false = refl
set_row who r (x ∷ xs) (suc k) s is =
    cons_row s x (set xs k (who, r)) ∙ by_test (x.0 == s) (who == s) refl refl (set_row who r xs k s is.1)
    ∙ ap (put_at who r s) (sym (cons_row s x xs))
  where
    by_test : (t u : Bool) → x.0 == s ≡ t → who == s ≡ u → row_of (set xs k (who, r)) s ≡ cond u (option_map (λ (q : PlayFacts). r) (row_of xs s)) (row_of xs s) → cond t (Some x.1) (row_of (set xs k (who, r)) s) ≡ cond u (option_map (λ (q : PlayFacts). r) (cond t (Some x.1) (row_of xs s))) (cond t (Some x.1) (row_of xs s))
    by_test true true e f more =
        let one : x.0 ≡ who = eqb-true x.0 s e ∙ sym (eqb-true who s f) in
        let never : true ≡ false = sym (eq-eqb x.0 who one) ∙ is.0 in
        cc
    by_test true false e f more = refl
    by_test false u e f more = more

-- ---- rows by an index

-- the k-th row alone is of the element
alone_first : (who : ℕ) (xs : List Row) (k : ℕ) → ((j : ℕ) → is_option j (Some k) ≡ is_option who (slice_get (keys_of xs) j)) → IsFirst who xs k
alone_first who [] k alone = let never : true ≡ false = sym (eq-eqb k k refl) ∙ alone k in cc
alone_first who (x ∷ xs) zero alone = same_eqb x.0 who ∙ sym (alone zero) ∙ eq-eqb zero zero refl
alone_first who (x ∷ xs) (suc k) alone =
    (same_eqb x.0 who ∙ sym (alone zero) ∙ apart k, alone_first who xs k (λ j. next j k ∙ alone (suc j)))
  where
    apart : (i : ℕ) → zero == suc i ≡ false
    apart i = grind arith

    next : (i j : ℕ) → (i == j) ≡ (suc i == suc j)
    next i j = grind arith

-- no row is of the element
none_first : (who : ℕ) (xs : List Row) → ((j : ℕ) → false ≡ is_option who (slice_get (keys_of xs) j)) → row_of xs who ≡ None
none_first who [] none = refl
none_first who (x ∷ xs) none =
    cons_row who x xs ∙ ap (λ t. cond t (Some x.1) (row_of xs who)) (same_eqb x.0 who ∙ sym (none zero))
    ∙ none_first who xs (λ j. none (suc j))

module _ (who : ℕ) (xs : List Row) (index : ℕ → Option ℕ) (is : IsIndex (keys_of xs) index) where
  pub first_indexed : (k : ℕ) → index who ≡ Some k → IsFirst who xs k
  first_indexed k at = alone_first who xs k (λ j. ap (is_option j) (sym at) ∙ is j who)

  pub none_indexed : index who ≡ None → row_of xs who ≡ None
  none_indexed at = none_first who xs (λ j. ap (is_option j) (sym at) ∙ is j who)

pub keys_indexed : (old new : List Row) (index : ℕ → Option ℕ) → keys_of new ≡ keys_of old → IsIndex (keys_of old) index → IsIndex (keys_of new) index
keys_indexed old new index same is = subst (λ (keys : List ℕ). IsIndex keys index) (sym same) is

-- ---- rows of nodes

pub row_map : (f : ℕ → PlayFacts) (ns : List Node) (s : ℕ) → row_of (map (λ (e : Node). (e.serial, f e.serial)) ns) s ≡ cond (list_any (λ (n : Node). n.serial == s) ns) (Some (f s)) None
row_map f [] s = refl
row_map f (n ∷ ns) s =
    cons_row s (n.serial, f n.serial) (map (λ (e : Node). (e.serial, f e.serial)) ns)
    ∙ by_test (n.serial == s) refl (row_map f ns s)
  where
    by_test : (t : Bool) → n.serial == s ≡ t → row_of (map (λ (e : Node). (e.serial, f e.serial)) ns) s ≡ cond (list_any (λ (m : Node). m.serial == s) ns) (Some (f s)) None → cond t (Some (f n.serial)) (row_of (map (λ (e : Node). (e.serial, f e.serial)) ns) s) ≡ cond (t || list_any (λ (m : Node). m.serial == s) ns) (Some (f s)) None
    by_test true e more = ap (λ k. Some (f k)) (eqb-true n.serial s e)
    by_test false e more = more

-- and by the node that is found
pub row_of_found : (f : ℕ → PlayFacts) (ns : List Node) (s : ℕ) → row_of (map (λ (e : Node). (e.serial, f e.serial)) ns) s ≡ option_map (λ (e : Node). f e.serial) (find (λ (n : Node). n.serial == s) ns)
row_of_found f [] s = refl
row_of_found f (n ∷ ns) s = by_test (n.serial == s) (row_of_found f ns s)
  where
    rows : List Row
    rows = map (λ (e : Node). (e.serial, f e.serial)) ns

    by_test : (t : Bool) → row_of rows s ≡ option_map (λ (e : Node). f e.serial) (find (λ (m : Node). m.serial == s) ns) → option_map (λ (row : Row). row.1) (cond t (Some (n.serial, f n.serial)) (find (λ (row : Row). row.0 == s) rows)) ≡ option_map (λ (e : Node). f e.serial) (cond t (Some n) (find (λ (m : Node). m.serial == s) ns))
    by_test true more = refl
    by_test false more = more

pub found_any : (s : ℕ) (ns : List Node) → is_some (find (λ (n : Node). n.serial == s) ns) ≡ list_any (λ (n : Node). n.serial == s) ns
found_any s [] = refl
found_any s (n ∷ ns) = by_test (n.serial == s) (found_any s ns)
  where
    by_test : (t : Bool) → is_some (find (λ (m : Node). m.serial == s) ns) ≡ list_any (λ (m : Node). m.serial == s) ns → is_some (cond t (Some n) (find (λ (m : Node). m.serial == s) ns)) ≡ (t || list_any (λ (m : Node). m.serial == s) ns)
    by_test true more = refl
    by_test false more = more

any_filter : (s : ℕ) (ns : List Node) → list_any (λ (n : Node). n.serial == s) ns ≡ false → list_any (λ (n : Node). n.serial == s) (filter is_element ns) ≡ false
any_filter s [] q = refl
any_filter s (n ∷ ns) q =
    let parts = or_parts (n.serial == s) (list_any (λ (m : Node). m.serial == s) ns) q in
    by_test (is_element n) parts.0 (any_filter s ns parts.1)
  where
    by_test : (t : Bool) → n.serial == s ≡ false → list_any (λ (m : Node). m.serial == s) (filter is_element ns) ≡ false → list_any (λ (m : Node). m.serial == s) (cond t (n ∷ filter is_element ns) (filter is_element ns)) ≡ false
    by_test true here more = ap (λ u. u || list_any (λ (m : Node). m.serial == s) (filter is_element ns)) here ∙ more
    by_test false here more = more

-- rows of the elements of distinct nodes, by what they have for each
abbrev Has : (ℕ → PlayFacts) → List Node → List Row → Type 0
Has g es xs = (s : ℕ) → list_any (λ (n : Node). n.serial == s) es ≡ true → row_of xs s ≡ Some (g s)

pub rows_are : (g : ℕ → PlayFacts) (ns : List Node) (xs : List Row) → IsDistinct ns → keys_of xs ≡ map (λ (n : Node). n.serial) (filter is_element ns) → Has g (filter is_element ns) xs → xs ≡ map (λ (e : Node). (e.serial, g e.serial)) (filter is_element ns)
rows_are g [] [] distinct keys has = refl
rows_are g [] (x ∷ xs) distinct keys has = cc
rows_are g (n ∷ ns) xs distinct keys has = by_test (is_element n) xs keys has (λ zs. rows_are g ns zs distinct.1)
  where
    es : List Node
    es = filter is_element ns

    out : list_any (λ (m : Node). m.serial == n.serial) es ≡ false
    out = any_filter n.serial ns distinct.0

    by_test : (t : Bool) (zs : List Row) → keys_of zs ≡ map (λ (m : Node). m.serial) (cond t (n ∷ es) es) → Has g (cond t (n ∷ es) es) zs → ((ws : List Row) → keys_of ws ≡ map (λ (m : Node). m.serial) es → Has g es ws → ws ≡ map (λ (e : Node). (e.serial, g e.serial)) es) → zs ≡ map (λ (e : Node). (e.serial, g e.serial)) (cond t (n ∷ es) es)
    by_test false zs same here more = more zs same here
    by_test true [] same here more = cc
    by_test true (z ∷ zs) same here more =
        let own : z.0 ≡ n.serial = cc in
        let rest : keys_of zs ≡ map (λ (m : Node). m.serial) es = cc in
        let self : n.serial == n.serial ≡ true = eq-eqb n.serial n.serial refl in
        let got : row_of (z ∷ zs) n.serial ≡ Some (g n.serial) = here n.serial (ap (λ t. t || list_any (λ (m : Node). m.serial == n.serial) es) self) in
        let is : Some z.1 ≡ Some (g n.serial) = sym (cons_row n.serial z zs ∙ ap (λ k. cond (k == n.serial) (Some z.1) (row_of zs n.serial)) own ∙ ap (λ t. cond t (Some z.1) (row_of zs n.serial)) self) ∙ got in
        let played : z.1 ≡ g n.serial = cc in
        let tail : zs ≡ map (λ (e : Node). (e.serial, g e.serial)) es = more zs rest (λ s among. later s among own (here s (or_right (n.serial == s) among))) in
        ap (λ k. (k, z.1) ∷ zs) own ∙ ap (λ r. (n.serial, r) ∷ zs) played ∙ ap (λ ws. (n.serial, g n.serial) ∷ ws) tail
      where
        or_right : (t : Bool) {u : Bool} → u ≡ true → (t || u) ≡ true
        or_right true q = refl
        or_right false q = q

        later : (s : ℕ) → list_any (λ (m : Node). m.serial == s) es ≡ true → z.0 ≡ n.serial → row_of (z ∷ zs) s ≡ Some (g s) → row_of zs s ≡ Some (g s)
        later s among own q = by_own (n.serial == s) refl
          where
            by_own : (t : Bool) → n.serial == s ≡ t → row_of zs s ≡ Some (g s)
            by_own true e =
                let never : true ≡ false = sym among ∙ ap (λ k. list_any (λ (m : Node). m.serial == k) es) (sym (eqb-true n.serial s e)) ∙ out in
                cc
            by_own false e = sym (cons_row s z zs ∙ ap (λ k. cond (k == s) (Some z.1) (row_of zs s)) own ∙ ap (λ t. cond t (Some z.1) (row_of zs s)) e) ∙ q

-- ---- rows that are put

pub put_set : (who : ℕ) (r : PlayFacts) (rows : List Row) (k : ℕ) → IsFirst who rows k → IsPut who r rows (set rows k (who, r))
put_set who r rows k is = record { same_keys = set_keys who r rows k is; rows = λ s. set_row who r rows k s is }
