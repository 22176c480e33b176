-- The time child before another is the last one before it in document order.
use Rattle.std.proofs.Common.{◌≡◌, refl, sym, ◌∙◌, ap, ℕ, zero, suc, ◌+◌, take, drop, arith, List, [], ◌∷◌, ◌++◌, Option, Some, None, Bool, true, false, cond}
use Rattle.std.specs.Prelude.{◌==◌, ◌&&◌, ◌||◌, filter, slice_get, option_and_then, option_map}
use Rattle.std.specs.List.{AllByRecursion, list_any, position}
use Rattle.std.proofs.Math.Dec.{eqb-suc-suc, eqb-suc-zero, eqb-zero-suc}
use Rattle.std.proofs.lemmas.Bool.{or_parts, eq-eqb, eqb-true}
use Rattle.std.proofs.lemmas.List.{take-append-drop, append-nil}
use Rattle.std.proofs.lemmas.List.Elements.{filter-append}
use Rattle.std.proofs.lemmas.Option.{slice_get-map}
use Rattle.smil_model.specs.declared.document.Node.{Node}
use Rattle.smil_model.specs.document.Document.{elements, is_element, is_time_child, just_before, has_serial, previous_child, time_children, time_parent, serials, serial_of}
use Rattle.smil_model.specs.document.Valid.{IsDistinct}
use Rattle.smil_model.specs.reach.Reach.{is_option}
use Rattle.smil_model.proofs.FirstPlaces.{position_cons}
use Rattle.smil_laws.proofs.Lists.{take-more_at, each_at}
use Rattle.smil_tree.proofs.NodeFamilies.{drop_at}
use Rattle.smil_laws.proofs.LineageParents.{same_eqb, is_option-serial_of}
use Rattle.smil_tree.proofs.NodeRemoved.{distinct_fewer}

abbrev pub last_or : Option Node → List Node → Option Node
last_or before [] = before
last_or before (n ∷ ns) = last_or (Some n) ns

-- the last one
abbrev pub last_of : List Node → Option Node
last_of ns = last_or None ns

last_push : (before : Option Node) (ns : List Node) (n : Node) → last_or before (ns ++ n ∷ []) ≡ Some n
last_push before [] n = refl
last_push before (m ∷ ms) n = last_push (Some m) ms n

-- of those before a node, whose serial none of them has
before_here : (s : ℕ) (before : Option Node) (ns : List Node) (n : Node) (rest : List Node) → list_any (λ (m : Node). m.serial == s) ns ≡ false → n.serial == s ≡ true → just_before s before (ns ++ n ∷ rest) ≡ last_or before ns
before_here s before [] n rest none here = ap (λ t. cond t before (just_before s (Some n) rest)) here
before_here s before (m ∷ ms) n rest none here =
    let parts = or_parts (m.serial == s) (list_any (λ (k : Node). k.serial == s) ms) none in
    ap (λ t. cond t before (just_before s (Some m) (ms ++ n ∷ rest))) parts.0 ∙ before_here s (Some m) ms n rest parts.1 here

-- ---- serials are distinct among the elements too

any_filter : (t p : Node → Bool) (ns : List Node) → list_any p ns ≡ false → list_any p (filter t ns) ≡ false
any_filter t p [] none = refl
any_filter t p (n ∷ ns) none =
    let parts = or_parts (p n) (list_any p ns) none in step (t n) parts.0 (any_filter t p ns parts.1)
  where
    step : (u : Bool) → p n ≡ false → list_any p (filter t ns) ≡ false → list_any p (cond u (n ∷ filter t ns) (filter t ns)) ≡ false
    step true here rest = ap (λ v. v || list_any p (filter t ns)) here ∙ rest
    step false here rest = rest

pub distinct_elements : (nodes : List Node) → IsDistinct nodes → IsDistinct (elements nodes)
distinct_elements nodes d = distinct_fewer is_element nodes d

among : (ns : List Node) (i : ℕ) (n : Node) (s : ℕ) → slice_get ns i ≡ Some n → list_any (λ (m : Node). m.serial == s) ns ≡ false → n.serial == s ≡ false
among [] i n s at none = cc
among (m ∷ ms) zero n s at none =
    let one : m ≡ n = cc in ap (λ (x : Node). x.serial == s) (sym one) ∙ (or_parts (m.serial == s) (list_any (λ (k : Node). k.serial == s) ms) none).0
among (m ∷ ms) (suc i) n s at none = among ms i n s at (or_parts (m.serial == s) (list_any (λ (k : Node). k.serial == s) ms) none).1

-- none of those before it has its serial
none_before : (ns : List Node) (i : ℕ) (n : Node) → IsDistinct ns → slice_get ns i ≡ Some n → list_any (λ (m : Node). m.serial == n.serial) (take i ns) ≡ false
none_before [] i n d at = cc
none_before (m ∷ ms) zero n d at = refl
none_before (m ∷ ms) (suc i) n d at =
    ap (λ t. t || list_any (λ (k : Node). k.serial == n.serial) (take i ms)) (same_eqb m.serial n.serial ∙ among ms i n m.serial at d.0)
    ∙ none_before ms i n d.1 at

pub one_place : (ns : List Node) (i j : ℕ) (n m : Node) → IsDistinct ns → slice_get ns i ≡ Some n → slice_get ns j ≡ Some m → m.serial == n.serial ≡ true → j ≡ i
one_place [] i j n m d a b q = cc
one_place (x ∷ xs) zero zero n m d a b q = refl
one_place (x ∷ xs) zero (suc j) n m d a b q =
    let one : x ≡ n = cc in
    let never : true ≡ false = sym q ∙ ap (λ (y : Node). m.serial == y.serial) (sym one) ∙ among xs j m x.serial b d.0 in cc
one_place (x ∷ xs) (suc i) zero n m d a b q =
    let one : x ≡ m = cc in
    let never : true ≡ false = sym q ∙ same_eqb m.serial n.serial ∙ ap (λ (y : Node). n.serial == y.serial) (sym one) ∙ among xs i n x.serial a d.0 in cc
one_place (x ∷ xs) (suc i) (suc j) n m d a b q = ap suc (one_place xs i j n m d.1 a b q)

-- what stands among the elements is one
pub element_is : (ns : List Node) (i : ℕ) (n : Node) → slice_get (elements ns) i ≡ Some n → is_element n ≡ true
element_is ns i n at = each_at (λ (m : Node). is_element m ≡ true) (elements ns) i n (each_passes ns) at
  where
    each_passes : (ms : List Node) → AllByRecursion (λ (m : Node). is_element m ≡ true) (elements ms)
    each_passes [] = tt
    each_passes (m ∷ ms) = step (is_element m) refl (each_passes ms)
      where
        step : (t : Bool) → is_element m ≡ t → AllByRecursion (λ (k : Node). is_element k ≡ true) (elements ms) → AllByRecursion (λ (k : Node). is_element k ≡ true) (cond t (m ∷ elements ms) (elements ms))
        step true e rest = (e, rest)
        step false e rest = rest

-- ---- the time children among the elements

module _ (nodes : List Node) where
  all_elements : (p : ℕ) (ns : List Node) → filter (is_time_child nodes p) (elements ns) ≡ filter (is_time_child nodes p) ns
  all_elements p [] = refl
  all_elements p (n ∷ ns) = step (is_element n) refl (all_elements p ns)
    where
      step : (t : Bool) → is_element n ≡ t → filter (is_time_child nodes p) (elements ns) ≡ filter (is_time_child nodes p) ns → filter (is_time_child nodes p) (cond t (n ∷ elements ns) (elements ns)) ≡ cond (is_time_child nodes p n) (n ∷ filter (is_time_child nodes p) ns) (filter (is_time_child nodes p) ns)
      step true e rest = ap (λ xs. cond (is_time_child nodes p n) (n ∷ xs) xs) rest
      step false e rest = rest ∙ sym (ap (λ u. cond (u && has_serial p (time_parent nodes n.serial)) (n ∷ filter (is_time_child nodes p) ns) (filter (is_time_child nodes p) ns)) e)

  module _ (distinct : IsDistinct nodes) (i : ℕ) (n : Node) (at : slice_get (elements nodes) i ≡ Some n) where
    child_is : (p : ℕ) → is_time_child nodes p n ≡ has_serial p (time_parent nodes n.serial)
    child_is p = ap (λ t. t && has_serial p (time_parent nodes n.serial)) (element_is nodes i n at)

    split : elements nodes ≡ take i (elements nodes) ++ n ∷ drop (i + 1) (elements nodes)
    split = sym (take-append-drop i (elements nodes)) ∙ ap (λ xs. take i (elements nodes) ++ xs) (drop_at (elements nodes) i n at)

    before_is : (q : Node) → time_parent nodes n.serial ≡ Some q → just_before n.serial None (time_children nodes q.serial) ≡ last_of (filter (is_time_child nodes q.serial) (take i (elements nodes)))
    before_is q under =
        ap (just_before n.serial None) (sym (all_elements q.serial nodes) ∙ ap (filter test) split ∙ filter-append test (take i (elements nodes)) (n ∷ drop (i + 1) (elements nodes)) ∙ ap (λ t. filter test (take i (elements nodes)) ++ cond t (n ∷ filter test (drop (i + 1) (elements nodes))) (filter test (drop (i + 1) (elements nodes)))) passes)
        ∙ before_here n.serial None (filter test (take i (elements nodes))) n (filter test (drop (i + 1) (elements nodes)))
        (any_filter test (λ (m : Node). m.serial == n.serial) (take i (elements nodes)) (none_before (elements nodes) i n (distinct_elements nodes distinct) at))
        (eq-eqb n.serial n.serial refl)
      where
        test : Node → Bool
        test = is_time_child nodes q.serial

        passes : test n ≡ true
        passes = child_is q.serial ∙ ap (has_serial q.serial) under ∙ eq-eqb q.serial q.serial refl

    pub before_told : (last : ℕ → Option ℕ) → ((p : ℕ) → last p ≡ serial_of (last_of (filter (is_time_child nodes p) (take i (elements nodes))))) → option_and_then last (serial_of (time_parent nodes n.serial)) ≡ serial_of (previous_child nodes (time_parent nodes n.serial) n.serial)
    before_told last all = by_node (time_parent nodes n.serial) refl
      where
        by_node : (o : Option Node) → time_parent nodes n.serial ≡ o → option_and_then last (serial_of o) ≡ serial_of (previous_child nodes o n.serial)
        by_node None under = refl
        by_node (Some q) under = all q.serial ∙ ap serial_of (sym (before_is q under))

    pub last_told : (old new : ℕ → Option ℕ) → ((p : ℕ) → old p ≡ serial_of (last_of (filter (is_time_child nodes p) (take i (elements nodes))))) → ((p : ℕ) → new p ≡ cond (is_option p (serial_of (time_parent nodes n.serial))) (Some n.serial) (old p)) → (p : ℕ) → new p ≡ serial_of (last_of (filter (is_time_child nodes p) (take (i + 1) (elements nodes))))
    last_told old new all step p =
        step p ∙ by_test (has_serial p (time_parent nodes n.serial)) refl
        ∙ ap (λ t. serial_of (last_of (filter (is_time_child nodes p) (take i (elements nodes)) ++ cond t (n ∷ []) []))) (sym (child_is p))
        ∙ ap (λ xs. serial_of (last_of xs)) (sym (filter-append (is_time_child nodes p) (take i (elements nodes)) (n ∷ [])))
        ∙ ap (λ xs. serial_of (last_of (filter (is_time_child nodes p) xs))) (sym (take-more_at (elements nodes) i n at))
      where
        by_test : (t : Bool) → has_serial p (time_parent nodes n.serial) ≡ t → cond (is_option p (serial_of (time_parent nodes n.serial))) (Some n.serial) (old p) ≡ serial_of (last_of (filter (is_time_child nodes p) (take i (elements nodes)) ++ cond t (n ∷ []) []))
        by_test true e = ap (λ t. cond t (Some n.serial) (old p)) (is_option-serial_of p (time_parent nodes n.serial) ∙ e) ∙ ap serial_of (sym (last_push None (filter (is_time_child nodes p) (take i (elements nodes))) n))
        by_test false e =
            ap (λ t. cond t (Some n.serial) (old p)) (is_option-serial_of p (time_parent nodes n.serial) ∙ e) ∙ all p
            ∙ ap (λ xs. serial_of (last_of xs)) (sym (append-nil (filter (is_time_child nodes p) (take i (elements nodes)))))

-- ---- places

-- the first place of a serial is its only one
pub first_told : (ns : List Node) → IsDistinct ns → (row who : ℕ) → is_option row (position (λ s. s == who) (serials ns)) ≡ is_option who (slice_get (serials ns) row)
first_told [] distinct zero who = refl
first_told [] distinct (suc row) who = refl
first_told (n ∷ ns) distinct zero who =
    ap (is_option 0) (position_cons (λ s. s == who) n.serial (serials ns))
    ∙ by_test (n.serial == who) (position (λ s. s == who) (serials ns)) (same_eqb who n.serial)
  where
    by_test : (t : Bool) (o : Option ℕ) → who == n.serial ≡ t → is_option 0 (cond t (Some 0) (option_map suc o)) ≡ who == n.serial
    by_test true o is = sym is
    by_test false None is = sym is
    by_test false (Some k) is = eqb-zero-suc k ∙ sym is
first_told (n ∷ ns) distinct (suc row) who =
    ap (is_option (suc row)) (position_cons (λ s. s == who) n.serial (serials ns))
    ∙ by_test (n.serial == who) refl (position (λ s. s == who) (serials ns)) (first_told ns distinct.1 row who)
  where
    absent : n.serial == who ≡ true → (o : Option Node) → slice_get ns row ≡ o → is_option who (serial_of o) ≡ false
    absent here None at = refl
    absent here (Some m) at = by_same (who == m.serial) refl
      where
        by_same : (t : Bool) → who == m.serial ≡ t → who == m.serial ≡ false
        by_same true is =
            let one : n.serial ≡ m.serial = eqb-true n.serial who here ∙ eqb-true who m.serial is in
            let never : suc row ≡ 0 = one_place (n ∷ ns) 0 (suc row) n m distinct refl at (eq-eqb m.serial n.serial (sym one)) in
            absurd (omega (arith, never))
        by_same false is = is

    by_test : (t : Bool) → n.serial == who ≡ t → (o : Option ℕ) → is_option row o ≡ is_option who (slice_get (serials ns) row) → is_option (suc row) (cond t (Some 0) (option_map suc o)) ≡ is_option who (slice_get (serials ns) row)
    by_test true here o rest =
        eqb-suc-zero row
        ∙ sym (ap (is_option who) (slice_get-map (λ (m : Node). m.serial) ns row) ∙ absent here (slice_get ns row) refl)
    by_test false other None rest = rest
    by_test false other (Some k) rest = eqb-suc-suc row k ∙ rest
