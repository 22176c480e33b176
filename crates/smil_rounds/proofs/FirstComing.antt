-- What comes first, by its key and the row at its place.
use Rattle.std.proofs.Common.{◌≡◌, refl, ◌∙◌, ap, sym, subst, ℕ, suc, zero, ◌+◌, List, [], ◌∷◌, ◌++◌, Option, Some, None, ℤ, Bool, true, false, arith, inl, inr, map}
use Rattle.std.specs.Prelude.{◌⊎◌, pos, cond, fold, option_map, slice_get, is_some, not, ◌&&◌, ◌||◌}
use Rattle.std.specs.FinSet as set
use Rattle.smil_model.specs.declared.happening.Key.{Key}
use Rattle.smil_model.specs.declared.interval.Interval.{Interval}
use Rattle.smil_model.specs.declared.document.Node.{Node}
use Rattle.smil_model.specs.declared.times.Time.{Time}
use Rattle.smil_model.specs.declared.times.Time.TheVariants.{At, Indefinite, Unresolved}
use Rattle.smil_model.specs.Times.{time_le, later_time}
use Rattle.smil_model.specs.document.Document.{elements}
use Rattle.smil_model.specs.diary.Diary.{History, is_active, iteration}
use Rattle.smil_model.specs.diary.Clocks.{stands, outer_stands, play_start, iteration_start}
use Rattle.smil_model.specs.interval.Durations.{bounds_of, intermediate_end}
use Rattle.smil_model.specs.interval.Current.{simple_of, current_interval}
use Rattle.smil_model.specs.happening.Keys as model
use Rattle.smil_model.specs.happening.Keys.{comes_before, coming_begin, coming_end, coming_end_at, coming_repeat, coming_repeat_at, coming_of, coming_from, coming, earlier_coming, first_coming, least_key, keys}
use Rattle.smil_laws.proofs.FirstKey.{first_key}
use Rattle.smil_due.specs.Order.{key_cmp}
use Rattle.smil_element.specs.declared.happening.change.DueChange.{DueChange}
use Rattle.smil_element.specs.Parts.{coming_meant}
use Rattle.smil_element.specs.Element.{both}
use Rattle.smil_element.specs.Comings.{HaveDueChanges}
use Rattle.smil_rounds.specs.declared.current_rows.CurrentRow.{CurrentRow}
use Rattle.smil_rounds.specs.Current.{IsCurrent}
use Rattle.smil_rounds.specs.Rows.{IsChosen, IsChosenBy}
use Rattle.smil_rounds.proofs.RowsBesideElements.{row_at}
use Rattle.smil_rounds.proofs.CurrentRowsExact.{current_elements}

-- ---- what comes first is one of those that come

abbrev In : model.DueChange → List model.DueChange → Type 0
In c [] = ⊥
In c (x ∷ xs) = (x ≡ c) ⊎ In c xs

in_append : (c : model.DueChange) (xs ys : List model.DueChange) → In c (xs ++ ys) → In c xs ⊎ In c ys
in_append c [] ys is = inr is
in_append c (x ∷ xs) ys (inl e) = inl (inl e)
in_append c (x ∷ xs) ys (inr is) = by_case (in_append c xs ys is)
  where
    by_case : In c xs ⊎ In c ys → In c (x ∷ xs) ⊎ In c ys
    by_case (inl a) = inl (inr a)
    by_case (inr b) = inr b

least_in : (before : Option model.DueChange) (cs : List model.DueChange) (c : model.DueChange) → fold earlier_coming before cs ≡ Some c → (before ≡ Some c) ⊎ In c cs
least_in before [] c q = inl q
least_in before (k ∷ ks) c q = by_case (least_in (earlier_coming before k) ks c q)
  where
    choose : (b : model.DueChange) (t : Bool) → cond t (Some k) (Some b) ≡ Some c → (Some b ≡ Some c) ⊎ In c (k ∷ ks)
    choose b true d = let one : k ≡ c = cc in inr (inl one)
    choose b false d = inl d

    next : (o : Option model.DueChange) → earlier_coming o k ≡ Some c → (o ≡ Some c) ⊎ In c (k ∷ ks)
    next None e = let one : k ≡ c = cc in inr (inl one)
    next (Some b) e = choose b (comes_before k.key b.key) e

    by_case : (earlier_coming before k ≡ Some c) ⊎ In c ks → (before ≡ Some c) ⊎ In c (k ∷ ks)
    by_case (inl e) = next before e
    by_case (inr is) = inr (inr is)

first_in : (cs : List model.DueChange) (c : model.DueChange) → first_coming cs ≡ Some c → In c cs
first_in cs c q = by_case (least_in None cs c q)
  where
    by_case : (None ≡ Some c) ⊎ In c cs → In c cs
    by_case (inl e) = absurd (cc)
    by_case (inr is) = is

-- ---- what comes of one element

-- at most one, at this place, with this mark of a repeat
abbrev IsOne : ℕ → Bool → List model.DueChange → Type 0
IsOne place repeat [] = Unit {0}
IsOne place repeat (c ∷ []) = ((c.key).position ≡ place) × ((c.key).repeat ≡ repeat)
IsOne place repeat (c ∷ d ∷ cs) = ⊥

one_of : (place : ℕ) (repeat t : Bool) (xs ys : List model.DueChange) → IsOne place repeat xs → IsOne place repeat ys → IsOne place repeat (cond t xs ys)
one_of place repeat true xs ys a b = a
one_of place repeat false xs ys a b = b

-- all are at the place, and of two the first is no repeat and the second is one
pub record IsPlaced (place : ℕ) (cs : List model.DueChange) : Type 0 where
  pub at : (c : model.DueChange) → In c cs → (c.key).position ≡ place
  pub two : (a b : model.DueChange) → cs ≡ a ∷ b ∷ [] → ((a.key).repeat ≡ false) × ((b.key).repeat ≡ true)

one_placed : (place : ℕ) (repeat : Bool) (xs : List model.DueChange) → IsOne place repeat xs → IsPlaced place xs
one_placed place repeat [] is = record { at = λ c i. absurd i; two = λ a b q. absurd (cc) }
one_placed place repeat (x ∷ []) is = record {
  at = λ c i. here c i;
  two = λ a b q. absurd (cc);
}
  where
    here : (c : model.DueChange) → In c (x ∷ []) → (c.key).position ≡ place
    here c (inl e) = sym (ap (λ (k : model.DueChange). (k.key).position) e) ∙ is.0
    here c (inr never) = absurd never
one_placed place repeat (x ∷ y ∷ ys) is = absurd is

both_placed : (place : ℕ) (xs ys : List model.DueChange) → IsOne place false xs → IsOne place true ys → IsPlaced place (xs ++ ys)
both_placed place [] ys a b = one_placed place true ys b
both_placed place (x ∷ []) [] a b = one_placed place false (x ∷ []) a
both_placed place (x ∷ []) (y ∷ []) a b = record {
  at = λ c i. here c i;
  two = λ c d q.
      let first : x ≡ c = cc in
      let second : y ≡ d = cc in
      (sym (ap (λ (k : model.DueChange). (k.key).repeat) first) ∙ a.1, sym (ap (λ (k : model.DueChange). (k.key).repeat) second) ∙ b.1);
}
  where
    here : (c : model.DueChange) → In c (x ∷ y ∷ []) → (c.key).position ≡ place
    here c (inl e) = sym (ap (λ (k : model.DueChange). (k.key).position) e) ∙ a.0
    here c (inr (inl e)) = sym (ap (λ (k : model.DueChange). (k.key).position) e) ∙ b.0
    here c (inr (inr never)) = absurd never
both_placed place (x ∷ []) (y ∷ z ∷ zs) a b = absurd b
both_placed place (x ∷ w ∷ ws) ys a b = absurd a

module _ (h : History) (now : ℤ) (J : ℕ → Option Interval) (place : ℕ) (e : Node) where
  begin_one : (i : Option Interval) → IsOne place false (coming_begin h now place e i)
  begin_one None = tt
  begin_one (Some i) = (refl, refl)

  end_at_one : (begin : ℤ) (t : Time) → IsOne place false (coming_end_at h now place e begin t)
  end_at_one begin (At v) = (refl, refl)
  end_at_one begin Indefinite = tt
  end_at_one begin Unresolved = tt

  end_one : (i : Option Interval) → IsOne place false (coming_end h now place e i)
  end_one None = tt
  end_one (Some i) = end_at_one i.begin i.«end»

  repeat_at_one : (simple t : Time) → IsOne place true (coming_repeat_at h now place e simple t)
  repeat_at_one simple (At over) =
      one_of place true
      (not (time_le simple (At (pos 0)))
      && not (time_le (intermediate_end (bounds_of e.attrs) simple (play_start h e.serial) (iteration_start h e.serial) (iteration h e.serial)) (At over)))
      _ [] (refl, refl) tt
  repeat_at_one simple Indefinite = tt
  repeat_at_one simple Unresolved = tt

  repeat_one : IsOne place true (coming_repeat h (simple_of h J e) now place e)
  repeat_one =
      one_of place true ((is_some e.attrs.repeat_count || is_some e.attrs.repeat_dur) && not (stands h e.serial))
      (coming_repeat_at h now place e (simple_of h J e) (later_time (simple_of h J e) (iteration_start h e.serial))) []
      (repeat_at_one (simple_of h J e) (later_time (simple_of h J e) (iteration_start h e.serial))) tt

  placed_by : (t : Bool) → IsPlaced place (cond t (cond (outer_stands h e.serial) [] (coming_end h now place e (J e.serial)) ++ coming_repeat h (simple_of h J e) now place e) (cond (outer_stands h e.serial) [] (coming_begin h now place e (J e.serial))))
  placed_by true =
      both_placed place (cond (outer_stands h e.serial) [] (coming_end h now place e (J e.serial))) (coming_repeat h (simple_of h J e) now place e)
      (one_of place false (outer_stands h e.serial) [] (coming_end h now place e (J e.serial)) tt (end_one (J e.serial))) repeat_one
  placed_by false =
      one_placed place false (cond (outer_stands h e.serial) [] (coming_begin h now place e (J e.serial)))
      (one_of place false (outer_stands h e.serial) [] (coming_begin h now place e (J e.serial)) tt (begin_one (J e.serial)))

  pub placed : IsPlaced place (coming_of h J now place e)
  placed = placed_by (is_active h.diary e.serial)

-- ---- the element that it comes of

in_from : (h : History) (now : ℤ) (J : ℕ → Option Interval) (place : ℕ) (es : List Node) (c : model.DueChange) → In c (coming_from h J now place es) → (k : ℕ) × (n : ℕ) × (e : Node) × (n ≡ place + k) × (slice_get es k ≡ Some e) × In c (coming_of h J now n e)
in_from h now J place [] c is = absurd is
in_from h now J place (e ∷ es) c is = by_case (in_append c (coming_of h J now place e) (coming_from h J now (suc place) es) is) (in_from h now J (suc place) es c)
  where
    by_case : In c (coming_of h J now place e) ⊎ In c (coming_from h J now (suc place) es) → (In c (coming_from h J now (suc place) es) → (k : ℕ) × (n : ℕ) × (d : Node) × (n ≡ suc place + k) × (slice_get es k ≡ Some d) × In c (coming_of h J now n d)) → (k : ℕ) × (n : ℕ) × (d : Node) × (n ≡ place + k) × (slice_get (e ∷ es) k ≡ Some d) × In c (coming_of h J now n d)
    by_case (inl i) later = (0, place, e, omega arith, refl, i)
    by_case (inr i) later = let at = later i in let same : at.1 ≡ suc place + at.0 = at.3 in (suc at.0, at.1, at.2, omega (arith, same), at.4, at.5)

pub comings_at : (h : History) (now : ℤ) (place : ℕ) (es : List Node) (rows : List CurrentRow) (k n : ℕ) (e : Node) (r : CurrentRow) → HaveDueChanges h now place es (map (λ (r : CurrentRow). r.comings) rows) → n ≡ place + k → slice_get es k ≡ Some e → slice_get rows k ≡ Some r → both r.comings.moved r.comings.repeat ≡ coming_of h (current_interval h now) now n e
comings_at h now place [] rows k n e r is eq p q = absurd (cc)
comings_at h now place (d ∷ ds) [] k n e r is eq p q = absurd is
comings_at h now place (d ∷ ds) (x ∷ xs) zero n e r is eq p q =
    let node : d ≡ e = cc in
    let row : x ≡ r = cc in
    let same : place ≡ n = omega (arith, eq) in
    ap (λ (y : CurrentRow). both y.comings.moved y.comings.repeat) (sym row) ∙ is.0
    ∙ ap (λ m. coming_of h (current_interval h now) now m d) same
    ∙ ap (λ y. coming_of h (current_interval h now) now n y) node
comings_at h now place (d ∷ ds) (x ∷ xs) (suc k) n e r is eq p q = comings_at h now (suc place) ds xs k n e r is.1 (omega (arith, eq)) p q

-- ---- the one that its key chooses

-- where it tells the two apart, this chooses the one of which it is told
module _ {A : Type 0} (told : Key → A) (code : A) where
  abbrev pub IsApart : Option DueChange → Option DueChange → Type 0
  IsApart moved repeat = (a b : DueChange) → moved ≡ Some a → repeat ≡ Some b → told a.key ≡ told b.key → (a.key).repeat ≡ (b.key).repeat

  chosen_is : (moved repeat chosen : Option DueChange) (place : ℕ) (cs : List model.DueChange) (c : model.DueChange) → both moved repeat ≡ cs → IsPlaced place cs → In c (both moved repeat) → told c.key ≡ code → IsApart moved repeat → IsChosenBy told code moved repeat chosen → option_map coming_meant chosen ≡ Some c
  chosen_is None None chosen place cs c same placed is of_key apart by_key = absurd is
  chosen_is None (Some r) chosen place cs c same placed (inl e) of_key apart by_key = ap (option_map coming_meant) by_key ∙ ap Some e
  chosen_is None (Some r) chosen place cs c same placed (inr never) of_key apart by_key = absurd never
  chosen_is (Some m) repeat chosen place cs c same placed (inl e) of_key apart (inl at) = ap (option_map coming_meant) at.1 ∙ ap Some e
  chosen_is (Some m) repeat chosen place cs c same placed (inl e) of_key apart (inr at) = absurd (at.0 (ap (λ (k : model.DueChange). told k.key) e ∙ of_key))
  chosen_is (Some m) None chosen place cs c same placed (inr never) of_key apart by_key = absurd never
  chosen_is (Some m) (Some r) chosen place cs c same placed (inr (inr never)) of_key apart by_key = absurd never
  chosen_is (Some m) (Some r) chosen place cs c same placed (inr (inl e)) of_key apart (inr at) = ap (option_map coming_meant) at.1 ∙ ap Some e
  chosen_is (Some m) (Some r) chosen place cs c same placed (inr (inl e)) of_key apart (inl at) =
      let marks = placed.two (coming_meant m) (coming_meant r) (sym same) in
      let keys_same : told m.key ≡ told r.key = at.0 ∙ sym (ap (λ (k : model.DueChange). told k.key) e ∙ of_key) in
      let never : false ≡ true = sym marks.0 ∙ apart m r refl refl keys_same ∙ marks.1 in
      cc

-- ---- by the least key

none_comes : (o : Option model.DueChange) → option_map (λ (c : model.DueChange). c.key) o ≡ None → o ≡ None
none_comes None q = refl
none_comes (Some c) q = cc

pub none_first : (h : History) (now : ℤ) (least : Option Key) → least ≡ least_key (keys h now) → least ≡ None → first_coming (coming h now) ≡ None
none_first h now least is none = none_comes (first_coming (coming h now)) (first_key h now ∙ sym is ∙ none)

some_comes : (key : Key) (o : Option model.DueChange) → option_map (λ (c : model.DueChange). c.key) o ≡ Some key → (c : model.DueChange) × (o ≡ Some c) × (c.key ≡ key)
some_comes key None q = cc
some_comes key (Some c) q = (c, refl, cc)

-- where the least key is at the place, and this is told of it
pub first_by : {A : Type 0} (told : Key → A) (code : A) (h : History) (now : ℤ) (rows : List CurrentRow) (due : set.FinSet key_cmp) (key : Key) (place : ℕ) (chosen : Option DueChange) → IsCurrent rows due h now → Some key ≡ least_key (keys h now) → told key ≡ code → key.position ≡ place → ((r : CurrentRow) → slice_get rows place ≡ Some r → IsApart told code r.comings.moved r.comings.repeat) → ((r : CurrentRow) → slice_get rows place ≡ Some r → IsChosenBy told code r.comings.moved r.comings.repeat chosen) → option_map coming_meant chosen ≡ first_coming (coming h now)
first_by told code h now rows due key place chosen is least of_key here apart by_row =
    let found = some_comes key (first_coming (coming h now)) (first_key h now ∙ sym least) in
    let c = found.0 in
    let at = in_from h now (current_interval h now) 0 (elements h.nodes) c (first_in (coming h now) c found.1) in
    let index : at.0 ≡ at.1 = place_is at.0 at.1 at.3 in
    let row = row_at (elements h.nodes) rows at.0 at.2 (current_elements h now rows due is) at.4 in
    let comes = comings_at h now 0 (elements h.nodes) rows at.0 at.1 at.2 row.0 is.current.comings_are at.3 at.4 row.1 in
    let placed_there = placed h now (current_interval h now) at.1 at.2 in
    let position : place ≡ at.0 = sym here ∙ ap (λ (k : Key). k.position) (sym found.2) ∙ placed_there.at c at.5 ∙ sym index in
    let there : slice_get rows place ≡ Some row.0 = ap (slice_get rows) position ∙ row.1 in
    chosen_is told code row.0.comings.moved row.0.comings.repeat chosen at.1 (coming_of h (current_interval h now) now at.1 at.2) c comes placed_there
    (subst (In c) (sym comes) at.5) (ap told found.2 ∙ of_key) (apart row.0 there) (by_row row.0 there)
    ∙ sym found.1
  where
    place_is : (k n : ℕ) → n ≡ 0 + k → k ≡ n
    place_is k n eq = omega (arith, eq)

pub first_by_key : (h : History) (now : ℤ) (rows : List CurrentRow) (due : set.FinSet key_cmp) (key : Key) (chosen : Option DueChange) → IsCurrent rows due h now → Some key ≡ least_key (keys h now) → ((r : CurrentRow) → slice_get rows key.position ≡ Some r → IsChosen key r.comings.moved r.comings.repeat chosen) → option_map coming_meant chosen ≡ first_coming (coming h now)
first_by_key h now rows due key chosen is least by_row =
    first_by (λ (k : Key). k) key h now rows due key key.position chosen is least refl refl (λ r got a b p q same. ap (λ (k : Key). k.repeat) same) by_row
