-- What an advance tells: moment by moment, or from one moment at which something comes to the next.
use Rattle.std.proofs.Common.{◌≡◌, refl, sym, ◌∙◌, ap, ℕ, suc, zero, ◌≤◌, ◌+◌, List, [], ◌∷◌, ◌++◌, Option, Some, Bool, true, false, ℤ, arith, append_assoc, append-nil}
use Rattle.std.specs.Prelude.{cond, pos, int_le, find, not, ◌==◌, ◌≤ℤ◌, ◌+ℤ◌, unwrap_or}
use Rattle.std.specs.List.{AllByRecursion}
use Rattle.std.proofs.lemmas.Int.{ints}
use Rattle.std.proofs.lemmas.Bool.{eq-eqb, or_parts, and_from}
use Rattle.smil_model.specs.declared.diary.Entry.{Entry}
use Rattle.smil_model.specs.declared.view.View.{View}
use Rattle.smil_model.specs.declared.view.Shown.{Shown}
use Rattle.smil_model.specs.declared.view.Shown.TheVariants as shown
use Rattle.smil_model.specs.document.Document.{elements}
use Rattle.smil_model.specs.shown.Orders.{Presentation, as_of, views_of, view_eq, state_code, shown_eq, view_before, changed, at_moment, changes_through, changes_between, resolved_history}
use Rattle.smil_model.specs.shown.Views.{blank}
use Rattle.smil_model.proofs.NumberOrders.{le_self}
use Rattle.smil_laws.specs.Same.{view_at}
use Rattle.smil_laws.proofs.LineageParents.{swap_eqb}
use Rattle.smil_instances.proofs.SiblingBefore.{distinct_elements}
use Rattle.smil_shown.specs.ViewTable.{AreOne, has_view}
use Rattle.smil_shown.proofs.AllViews.{one_each}
use Rattle.smil_live.proofs.QuietViews.{HasDiary, IsQuiet, views_stay}

-- ---- one advance after another

pub in_two : (p : Presentation) (a b : ℕ) → changes_through p (a + b) ≡ changes_through p a ++ changes_through (as_of p (p.now + a)) b
in_two p a zero = ap (changes_through p) same ∙ sym (append-nil (changes_through p a))
  where
    same : a + 0 ≡ a
    same = omega arith
in_two p a (suc b) =
    ap (changes_through p) one_more
    ∙ (ap (λ (l : List (ℕ × View)). l ++ at (p.now + (a + b))) (in_two p a b)
    ∙ (ap (λ (m : ℕ). (changes_through p a ++ changes_through (as_of p (p.now + a)) b) ++ at m) along
    ∙ append_assoc (changes_through p a) (changes_through (as_of p (p.now + a)) b) (at ((p.now + a) + b))))
  where
    one_more : a + suc b ≡ suc (a + b)
    one_more = omega arith

    along : p.now + (a + b) ≡ (p.now + a) + b
    along = omega arith

    at : ℕ → List (ℕ × View)
    at m = at_moment (suc m) (changed (views_of (as_of p m)) (views_of (as_of p (suc m))))

-- ---- views that are the same

same_shown : (x : Shown) → shown_eq x x ≡ true
same_shown shown.Nothing = refl
same_shown shown.Indefinite = refl
same_shown shown.Unresolved = refl
same_shown shown.Standing = refl
same_shown (shown.At x) = and_from (int_le x x) (int_le x x) (le_self x) (le_self x)

pub same_view : (v : View) → view_eq v v ≡ true
same_view v =
    and_from _ _
    (and_from _ _
    (and_from _ _ (and_from _ _ (and_from _ _ (eq-eqb v.serial v.serial refl) (eq-eqb (state_code v.state) (state_code v.state) refl)) (same_shown v.begin)) (same_shown v.«end»))
    (eq-eqb v.iteration v.iteration refl))
    (eq-eqb v.finished v.finished refl)

-- each view is the first of its element
abbrev pub AreFirst : List View → List View → Type 0
AreFirst all vs = AllByRecursion (λ (v : View). find (λ (w : View). w.serial == v.serial) all ≡ Some v) vs

none_differ : (all vs : List View) → AreFirst all vs → changed all vs ≡ []
none_differ all [] first = refl
none_differ all (v ∷ vs) first =
    ap (λ (b : Bool). cond b (v ∷ changed all vs) (changed all vs)) same ∙ none_differ all vs first.1
  where
    same : not (view_eq v (view_before all v)) ≡ false
    same = ap (λ (o : Option View). not (view_eq v (unwrap_or o (blank v.serial)))) first.0 ∙ ap not (same_view v)

found_behind : (x : View) (all vs : List View) → has_view vs x.serial ≡ false → AreFirst all vs → AreFirst (x ∷ all) vs
found_behind x all [] other first = tt
found_behind x all (v ∷ vs) other first =
    let apart = or_parts (v.serial == x.serial) (has_view vs x.serial) other in (
      ap (λ (b : Bool). cond b (Some x) (find (λ (w : View). w.serial == v.serial) all)) (swap_eqb v.serial x.serial apart.0) ∙ first.0,
      found_behind x all vs apart.1 first.1,
    )

are_first : (vs : List View) → AreOne vs → AreFirst vs vs
are_first [] one = tt
are_first (v ∷ vs) one = (
  ap (λ (b : Bool). cond b (Some v) (find (λ (w : View). w.serial == v.serial) vs)) (eq-eqb v.serial v.serial refl),
  found_behind v vs vs one.0 (are_first vs one.1),
)

-- views of different elements don't differ from themselves
none_changed : (vs : List View) → AreOne vs → changed vs vs ≡ []
none_changed vs one = none_differ vs vs (are_first vs one)

-- ---- what an advance tells over quiet moments

module _ (p : Presentation) (d : List Entry) (has : HasDiary p d) where
  pub same_unchanged : changed (views_of p) (views_of p) ≡ []
  same_unchanged = none_changed (views_of p) (one_each (view_at (resolved_history p) (pos p.now)) (λ n. refl) (elements p.document.nodes) (distinct_elements p.document.nodes has.numbered.distinct))

  sooner : (n k : ℕ) → suc k ≤ n → IsQuiet p d (pos (p.now + n)) → IsQuiet p d (pos (p.now + k) +ℤ pos 1)
  sooner n k l quiet c e = numbers p.now n k c.key.value l (quiet c e)
    where
      numbers : (a n k : ℕ) (x : ℤ) → suc k ≤ n → pos (a + n) ≤ℤ x → (pos (a + k) +ℤ pos 1) ≤ℤ x
      numbers a n k x l q = omega (arith, ints, l, q)

  pub none_on_the_way : (n k : ℕ) → suc k ≤ n → IsQuiet p d (pos (p.now + n)) → changes_through p k ≡ []
  none_on_the_way n zero l quiet = refl
  none_on_the_way n (suc k) l quiet =
      ap (λ (vs : List View). changes_through p k ++ at_moment (suc (p.now + k)) (changed vs (views_of (as_of p (suc (p.now + k)))))) (views_stay p d has k (sooner n k (omega (arith, l)) quiet))
      ∙ (ap (λ (vs : List View). changes_through p k ++ at_moment (suc (p.now + k)) (changed (views_of p) vs)) there
      ∙ (ap (λ (vs : List View). changes_through p k ++ at_moment (suc (p.now + k)) vs) same_unchanged
      ∙ (append-nil (changes_through p k) ∙ none_on_the_way n k (omega (arith, l)) quiet)))
    where
      one_on : suc (p.now + k) ≡ p.now + suc k
      one_on = omega arith

      there : views_of (as_of p (suc (p.now + k))) ≡ views_of p
      there = ap (λ (m : ℕ). views_of (as_of p m)) one_on ∙ views_stay p d has (suc k) (sooner n (suc k) l quiet)

  -- an advance up to a moment before which nothing comes tells what is different there
  pub through_quiet : (n : ℕ) → IsQuiet p d (pos (p.now + n)) → changes_through p n ≡ changes_between p (as_of p (p.now + n))
  through_quiet zero quiet =
      sym (ap (λ (m : ℕ). changes_between p (as_of p m)) still ∙ ap (λ (vs : List View). at_moment p.now vs) same_unchanged)
    where
      still : p.now + 0 ≡ p.now
      still = omega arith
  through_quiet (suc k) quiet =
      ap (λ (cs : List (ℕ × View)). cs ++ at_moment (suc (p.now + k)) (changed (views_of (as_of p (p.now + k))) (views_of (as_of p (suc (p.now + k)))))) (none_on_the_way (suc k) k (omega arith) quiet)
      ∙ (ap (λ (vs : List View). at_moment (suc (p.now + k)) (changed vs (views_of (as_of p (suc (p.now + k)))))) (views_stay p d has k (sooner (suc k) k (omega arith) quiet))
      ∙ ap (λ (m : ℕ). changes_between p (as_of p m)) one_on)
    where
      one_on : suc (p.now + k) ≡ p.now + suc k
      one_on = omega arith
