-- Where the view of an element stands, and what is put there.
use Rattle.std.proofs.Common.{◌≡◌, refl, sym, ◌∙◌, ap, subst, ℕ, zero, suc, ◌+◌, ◌<◌, List, [], ◌∷◌, ◌++◌, Option, Some, None, Bool, true, false, length, get_or, arith}
use Rattle.std.specs.Prelude.{cond, not, ◌==◌, ◌||◌, nat_lt, set, slice_get, find, unwrap_or, length}
use Rattle.std.specs.List.{position, position_or_len}
use Rattle.std.proofs.lemmas.Bool.{ltb-true, lt-ltb, eq-eqb, eqb-true}
use Rattle.std.proofs.lemmas.Option.{slice_get-get_or, same_Some}
use Rattle.std.proofs.lemmas.List.Folds.{find_at}
use Rattle.std.proofs.lemmas.List.Sums.{passes_at_first}
use Rattle.smil_model.specs.declared.view.View.{View}
use Rattle.smil_model.specs.shown.Views.{blank}
use Rattle.smil_model.specs.shown.Orders.{view_eq}
use Rattle.smil_shown.specs.ViewTable.{put_in, owners, view_in, has_view, differs, AreOne, AreAt}
use Rattle.smil_shown.proofs.SameViews.{same_view}

abbrev pub of : ℕ → View → Bool
of serial v = v.serial == serial

-- ---- the place of a view

place_is : (s : ℕ) (views : List View) (i : ℕ) → Some i ≡ position (of s) views → (i < length views) × (position_or_len (of s) views ≡ i)
place_is s views i q = by_test (nat_lt (position_or_len (of s) views) (length views)) refl q
  where
    by_test : (t : Bool) → nat_lt (position_or_len (of s) views) (length views) ≡ t → Some i ≡ cond t (Some (position_or_len (of s) views)) None → (i < length views) × (position_or_len (of s) views ≡ i)
    by_test true e r =
        let same = same_Some i (position_or_len (of s) views) r in
        (subst (λ k. k < length views) (sym same) (ltb-true (position_or_len (of s) views) (length views) e), sym same)
    by_test false e r = cc

pub record IsThere (s : ℕ) (views : List View) (i : ℕ) : Type 0 where
  pub view : View
  pub at : slice_get views i ≡ Some view
  pub serial : view.serial ≡ s
  pub below : i < length views

pub there : (s : ℕ) (views : List View) (i : ℕ) → Some i ≡ position (of s) views → IsThere s views i
there s views i q =
    let is = place_is s views i q in
    let v = get_or views i (blank s) in
    record {
      view = v;
      at = slice_get-get_or views i (blank s) is.0;
      serial =
          eqb-true v.serial s
          (ap (λ k. of s (get_or views k (blank s))) (sym is.1)
          ∙ passes_at_first (of s) views (blank s) (subst (λ k. k < length views) (sym is.1) is.0));
      below = is.0;
    }

-- the view at the place is that of the element
view_there : (s : ℕ) (views : List View) (i : ℕ) (x : View) → Some i ≡ position (of s) views → slice_get views i ≡ Some x → view_in views s ≡ x
view_there s views i x q at =
    ap (λ o. unwrap_or o (blank s)) (find_at (of s) views ∙ (ap (slice_get views) (place_is s views i q).1 ∙ at))

-- one that was read there
pub view_read : (s : ℕ) (views : List View) (i : ℕ) (x : View) → Some i ≡ position (of s) views → x ≡ get_or views i x → x ≡ view_in views s
view_read s views i x q read =
    sym (view_there s views i x q (slice_get-get_or views i x (place_is s views i q).0 ∙ ap Some (sym read)))

present_place : (s : ℕ) (views : List View) → has_view views s ≡ true → position_or_len (of s) views < length views
present_place s [] q = cc
present_place s (v ∷ vs) q = by_test (of s v) refl q (present_place s vs)
  where
    by_test : (t : Bool) → of s v ≡ t → t || has_view vs s ≡ true → (has_view vs s ≡ true → position_or_len (of s) vs < length vs) → cond (not t) (1 + position_or_len (of s) vs) 0 < length (v ∷ vs)
    by_test true e r below = omega arith
    by_test false e r below = let l = below r in omega (arith, l)

pub present : (s : ℕ) (views : List View) → has_view views s ≡ true → position (of s) views ≡ Some (position_or_len (of s) views)
present s views q = ap (λ (t : Bool). cond t (Some (position_or_len (of s) views)) None) (lt-ltb (position_or_len (of s) views) (length views) (present_place s views q))

pub absent : (s : ℕ) (views : List View) → None ≡ position (of s) views → has_view views s ≡ false
absent s views q = by_test (has_view views s) refl
  where
    by_test : (t : Bool) → has_view views s ≡ t → t ≡ false
    by_test true e = let never = q ∙ present s views e in cc
    by_test false e = refl

pub view_absent : (s : ℕ) (views : List View) → has_view views s ≡ false → view_in views s ≡ blank s
view_absent s views q = ap (λ o. unwrap_or o (blank s)) (none views q)
  where
    none : (vs : List View) → has_view vs s ≡ false → find (of s) vs ≡ None
    none [] r = refl
    none (v ∷ vs) r = by_test (of s v) r (none vs)
      where
        by_test : (t : Bool) → t || has_view vs s ≡ false → (has_view vs s ≡ false → find (of s) vs ≡ None) → cond t (Some v) (find (of s) vs) ≡ None
        by_test true p below = cc
        by_test false p below = below p

-- ---- a view put in its place

pub untouched : (views : List View) (view : View) → has_view views view.serial ≡ false → put_in views view ≡ views
untouched [] view q = refl
untouched (v ∷ vs) view q = by_test (of view.serial v) q (untouched vs view)
  where
    by_test : (t : Bool) → t || has_view vs view.serial ≡ false → (has_view vs view.serial ≡ false → put_in vs view ≡ vs) → cond t view v ∷ put_in vs view ≡ v ∷ vs
    by_test true r below = cc
    by_test false r below = ap (λ l. v ∷ l) (below r)

-- its serial is not that of one before it
pub apart : (v : View) (vs : List View) (i : ℕ) (x : View) → has_view vs v.serial ≡ false → slice_get vs i ≡ Some x → of x.serial v ≡ false
apart v [] i x q at = cc
apart v (w ∷ vs) zero x q at = by_test (of x.serial v) refl
  where
    by_test : (t : Bool) → of x.serial v ≡ t → t ≡ false
    by_test true e =
        let one : w ≡ x = same_Some w x at in
        let here : of v.serial w ≡ true = eq-eqb w.serial v.serial (ap (λ (u : View). u.serial) one ∙ sym (eqb-true v.serial x.serial e)) in
        let never : true ≡ false = sym (ap (λ (t : Bool). t || has_view vs v.serial) here) ∙ q in
        cc
    by_test false e = refl
apart v (w ∷ vs) (suc i) x q at = apart v vs i x (rest (of v.serial w) q) at
  where
    rest : (t : Bool) → t || has_view vs v.serial ≡ false → has_view vs v.serial ≡ false
    rest true r = cc
    rest false r = r

put_at : (views : List View) (i : ℕ) (x view : View) → AreOne views → slice_get views i ≡ Some x → x.serial ≡ view.serial → set views i view ≡ put_in views view
put_at [] i x view one at same = cc
put_at (v ∷ vs) zero x view one at same =
    let is : v ≡ x = same_Some v x at in
    let serial : v.serial ≡ view.serial = ap (λ (u : View). u.serial) is ∙ same in
    ap (λ (t : Bool). cond t view v ∷ vs) (sym (eq-eqb v.serial view.serial serial))
    ∙ ap (λ l. put_in (v ∷ []) view ++ l) (sym (untouched vs view (subst (λ s. has_view vs s ≡ false) serial one.0)))
put_at (v ∷ vs) (suc i) x view one at same =
    ap (λ l. v ∷ l) (put_at vs i x view one.1 at same)
    ∙ ap (λ (t : Bool). cond t view v ∷ put_in vs view) (sym (subst (λ s. of s v ≡ false) same (apart v vs i x one.0 at)))

-- one that stands there already changes nothing
put_same : (views : List View) (i : ℕ) (view : View) → AreOne views → slice_get views i ≡ Some view → put_in views view ≡ views
put_same [] i view one at = cc
put_same (v ∷ vs) zero view one at =
    let is : v ≡ view = same_Some v view at in
    ap (λ l. cond (of view.serial v) view v ∷ l) (untouched vs view (subst (λ s. has_view vs s ≡ false) (ap (λ (u : View). u.serial) is) one.0))
    ∙ ap (λ u. u ∷ vs) (ap (λ u. cond (of view.serial v) u v) (sym is) ∙ either (of view.serial v))
  where
    either : (t : Bool) → cond t v v ≡ v
    either true = refl
    either false = refl
put_same (v ∷ vs) (suc i) view one at =
    ap (λ (t : Bool). cond t view v ∷ put_in vs view) (apart v vs i view one.0 at)
    ∙ ap (λ l. v ∷ l) (put_same vs i view one.1 at)

-- ---- no more elements, and no fewer

pub has_put : (views : List View) (view : View) (s : ℕ) → has_view (put_in views view) s ≡ has_view views s
has_put [] view s = refl
has_put (v ∷ vs) view s =
    ap (λ (t : Bool). t || has_view (put_in vs view) s) (by_test (of view.serial v) refl)
    ∙ ap (λ (t : Bool). of s v || t) (has_put vs view s)
  where
    by_test : (t : Bool) → of view.serial v ≡ t → of s (cond t view v) ≡ of s v
    by_test true e = ap (λ (k : ℕ). k == s) (sym (eqb-true v.serial view.serial e))
    by_test false e = refl

serial_put : (v view : View) → (cond (of view.serial v) view v).serial ≡ v.serial
serial_put v view = by_test (of view.serial v) refl
  where
    by_test : (t : Bool) → of view.serial v ≡ t → (cond t view v).serial ≡ v.serial
    by_test true e = sym (eqb-true v.serial view.serial e)
    by_test false e = refl

pub owners_put : (views : List View) (view : View) → owners (put_in views view) ≡ owners views
owners_put [] view = refl
owners_put (v ∷ vs) view =
    ap (λ (s : ℕ). s ∷ owners (put_in vs view)) (serial_put v view) ∙ ap (λ (ss : List ℕ). v.serial ∷ ss) (owners_put vs view)

one_put : (views : List View) (view : View) → AreOne views → AreOne (put_in views view)
one_put [] view one = tt
one_put (v ∷ vs) view one = (
  subst (λ s. has_view (put_in vs view) s ≡ false) (sym (serial_put v view)) (has_put vs view v.serial ∙ one.0),
  one_put vs view one.1,
)

place_put : (views : List View) (view : View) (s : ℕ) → position_or_len (of s) (put_in views view) ≡ position_or_len (of s) views
place_put [] view s = refl
place_put (v ∷ vs) view s =
    ap (λ (k : ℕ). cond (not (k == s)) (1 + position_or_len (of s) (put_in vs view)) 0) (serial_put v view)
    ∙ ap (λ n. cond (not (of s v)) (1 + n) 0) (place_put vs view s)

len_put : (views : List View) (view : View) → length (put_in views view) ≡ length views
len_put [] view = refl
len_put (v ∷ vs) view = ap suc (len_put vs view)

position_put : (views : List View) (view : View) (s : ℕ) → position (of s) (put_in views view) ≡ position (of s) views
position_put views view s =
    ap (λ n. cond (nat_lt n (length (put_in views view))) (Some n) None) (place_put views view s)
    ∙ ap (λ m. cond (nat_lt (position_or_len (of s) views) m) (Some (position_or_len (of s) views)) None) (len_put views view)

pub at_put : (places : ℕ → Option ℕ) (views : List View) (view : View) → AreAt places views → AreAt places (put_in views view)
at_put places views view at = record {
  place = λ s. at.place s ∙ sym (position_put views view s);
  one = one_put views view at.one;
}

-- ---- what a call of `put` comes to

pub differs_by : (views : List View) (i : ℕ) (old view : View) (b : Bool) → Some i ≡ position (of view.serial) views → old ≡ get_or views i old → b ≡ view_eq view old → not b ≡ differs views view
differs_by views i old view b q read e =
    ap not (e ∙ ap (λ v. view_eq view v) (view_read view.serial views i old q read))

pub unchanged : (views : List View) (i : ℕ) (old view : View) → AreOne views → Some i ≡ position (of view.serial) views → old ≡ get_or views i old → view_eq view old ≡ true → put_in views view ≡ views
unchanged views i old view one q read same =
    put_same views i view one
    (slice_get-get_or views i old (place_is view.serial views i q).0 ∙ (ap Some (sym read) ∙ ap Some (sym (same_view view old same))))

pub placed : (views : List View) (i : ℕ) (old view : View) → AreOne views → Some i ≡ position (of view.serial) views → set views i view ≡ put_in views view
placed views i old view one q =
    let at = there view.serial views i q in
    put_at views i at.view view one at.at at.serial
