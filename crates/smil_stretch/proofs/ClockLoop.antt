-- The steps of the loop that turns clocks.
use Rattle.std.proofs.Common.{◌≡◌, refl, sym, ◌∙◌, ap, ℕ, zero, suc, ◌+◌, ◌≤◌, ◌<◌, List, [], ◌∷◌, ◌++◌, ℤ, Option, Some, None, Bool, false, length, get_or, take, drop, set, arith}
use Rattle.std.specs.Prelude.{◌||◌, slice_get}
use Rattle.std.proofs.lemmas.List.{get_or-drop, drop-drop, drop-set-lt, take_more_set, take_more, take-append-drop}
use Rattle.std.proofs.lemmas.Option.{slice_get-get_or, get_or_from_slice_get}
use Rattle.smil_diary.specs.Places.{is_from}
use Rattle.smil_stretch.specs.declared.clock.Clock.{Clock}
use Rattle.smil_stretch.specs.declared.clock.NodeClock.{NodeClock}
use Rattle.smil_stretch.specs.Clocks.{shown, clock_by}
use Rattle.smil_stretch.specs.NodeClocks.{at_place, stands_by, IsTurned}

pub at_front : {A : Type 0} (xs : List A) (p k : ℕ) → k < p → slice_get (take p xs) k ≡ slice_get xs k
at_front xs zero k l = absurd (omega (arith, l))
at_front [] (suc p) k l = refl
at_front (x ∷ xs) (suc p) zero l = refl
at_front (x ∷ xs) (suc p) (suc k) l = at_front xs p k (omega (arith, l))

at_rest : (p : ℕ) (xs : List NodeClock) (d : NodeClock) → get_or (drop p xs) 0 d ≡ get_or xs p d
at_rest p xs d = let same : p + 0 ≡ p = omega arith in get_or-drop p xs 0 d ∙ ap (λ k. get_or xs k d) same

-- where the rest is as it was, the clock at its begin is
pub same_here : (now before : List NodeClock) (p : ℕ) (d : NodeClock) → drop p now ≡ drop p before → get_or now p d ≡ get_or before p d
same_here now before p d rest = sym (at_rest p now d) ∙ ap (λ xs. get_or xs 0 d) rest ∙ at_rest p before d

pub rest_on : (now before : List NodeClock) (p : ℕ) (v : NodeClock) → drop p now ≡ drop p before → drop (p + 1) (set now p v) ≡ drop (p + 1) before
rest_on now before p v rest =
    drop-set-lt (p + 1) now p v (omega arith) ∙ sym (drop-drop 1 p now) ∙ ap (drop 1) rest ∙ drop-drop 1 p before

same_parent : (now after : List NodeClock) (p : ℕ) (parent : Option ℕ) → take p now ≡ take p after → ((k : ℕ) → parent ≡ Some k → k < p) → at_place now parent ≡ at_place after parent
same_parent now after p None done early = refl
same_parent now after p (Some k) done early =
    let l = early k refl in
    sym (at_front now p k l) ∙ ap (λ xs. slice_get xs k) done ∙ at_front after p k l

module _ (first : ℕ) (moment : ℤ) (before after now : List NodeClock) (turned : IsTurned first moment before after) (p : ℕ) (d : NodeClock) (less : p < length before) (same : length now ≡ length before) (rest : drop p now ≡ drop p before) (done : take p now ≡ take p after) where
  node_is : slice_get before p ≡ Some (get_or now p d)
  node_is = slice_get-get_or before p d less ∙ ap Some (sym (same_here now before p d rest))

  pub done_on : (c : Clock) (held : Bool) → first ≤ p → held ≡ ((get_or now p d).paused || stands_by (at_place now (get_or now p d).parent)) → c ≡ clock_by held (shown (get_or now p d).clock moment) moment → take (p + 1) (set now p (record (get_or now p d) { clock = c })) ≡ take (p + 1) after
  done_on c held le holds is =
      let node = get_or now p d in
      let inside : p < length now = omega (arith, less, same) in
      let there : p < length after = omega (arith, less, turned.same_length) in
      let value : get_or after p d ≡ record node { clock = clock_by (node.paused || stands_by (at_place after node.parent)) (shown node.clock moment) moment } =
      get_or_from_slice_get after p (record node { clock = clock_by (node.paused || stands_by (at_place after node.parent)) (shown node.clock moment) moment }) d (turned.turned p node le node_is) in
      take_more_set now p (record node { clock = c }) inside
      ∙ ap (λ xs. xs ++ record node { clock = c } ∷ []) done
      ∙ ap (λ x. take p after ++ x ∷ [])
      (ap (λ k. record node { clock = k })
      (is ∙ ap (λ t. clock_by t (shown node.clock moment) moment)
      (holds ∙ ap (λ o. node.paused || stands_by o) (same_parent now after p node.parent done (λ k q. turned.parents p node k node_is q))))
      ∙ sym value)
      ∙ sym (take_more after p d there)

  pub done_early : first < p → is_from first (get_or now p d).parent ≡ false → now ≡ after
  done_early l outside =
      sym (take-append-drop p now) ∙ ap (λ xs. xs ++ drop p now) done
      ∙ ap (λ xs. take p after ++ xs) (rest ∙ sym (turned.later p (get_or now p d) l node_is outside))
      ∙ take-append-drop p after
