-- The first of rising ranks is the least, and all others stay.
use Rattle.std.proofs.Common.{◌≡◌, refl, ◌∙◌, ap, sym, subst, ℕ, suc, ◌+◌, ◌<◌, List, [], ◌∷◌, Bool, true, false, inl, inr, get_or, arith}
use Rattle.std.specs.Prelude.{not, ◌&&◌, ◌||◌, ◌==◌, ◌⊎◌}
use Rattle.std.specs.List.Sorted.{IsStrictlyIncreasing}
use Rattle.std.proofs.lemmas.Bool.{eqb-true, false_from_ne_true, or_cases}
use Rattle.smil_model.specs.document.Closure.{has}
use Rattle.smil_nodes.specs.Agenda.{IsLeastTaken}

-- what stands behind a number is above it
all_above : (low : ℕ) (xs : List ℕ) → IsStrictlyIncreasing (low ∷ xs) → (r : ℕ) → has xs r ≡ true → low < r
all_above low [] up r on = cc
all_above low (x ∷ xs) up r on = by_case (or_cases (x == r) (has xs r) on) (all_above x xs rest r)
  where
    rest : IsStrictlyIncreasing (x ∷ xs)
    rest k within =
        let next : suc k + 1 ≡ suc (k + 1) = omega arith in
        subst (λ n. get_or (x ∷ xs) k 0 < get_or (low ∷ x ∷ xs) n 0) next (up (suc k) (omega (arith, within)))

    first : low < x
    first = up 0 (omega arith)

    by_case : (x == r ≡ true) ⊎ (has xs r ≡ true) → (has xs r ≡ true → x < r) → low < r
    by_case (inl here) above = omega (arith, first, eqb-true x r here)
    by_case (inr later) above = omega (arith, first, above later)

taken_first : (rank : ℕ) (new : List ℕ) → IsStrictlyIncreasing (rank ∷ new) → IsLeastTaken (rank ∷ new) rank new
taken_first rank new up = record {
  member = grind arith;
  least = λ r on. elim (or_cases (rank == r) (has new r) on) [
    | inl here ↦ omega (arith, eqb-true rank r here)
    | inr later ↦ omega (arith, all_above rank new up r later)
  ];
  rest = λ r. others r (rank == r) refl;
}
  where
    gone : has new rank ≡ false
    gone = false_from_ne_true (has new rank) (λ on. absurd (omega (arith, all_above rank new up rank on)))

    turned : (a b : ℕ) → (a == b) ≡ (b == a)
    turned a b = grind arith

    others : (r : ℕ) (t : Bool) → rank == r ≡ t → has new r ≡ (not (r == rank) && ((rank == r) || has new r))
    others r true same =
        ap (has new) (sym (eqb-true rank r same)) ∙ gone
        ∙ (λ i. not ((sym same ∙ turned rank r) i) && ((rank == r) || has new r))
    others r false apart =
        (λ i. not ((sym apart ∙ turned rank r) i) && (sym apart i || has new r))

-- the first of rising ranks is taken out
pub taken_out : (old : List ℕ) (rank : ℕ) (new : List ℕ) → old ≡ rank ∷ new → IsStrictlyIncreasing old → IsLeastTaken old rank new
taken_out old rank new split up = subst (λ keys. IsLeastTaken keys rank new) (sym split) (taken_first rank new (subst IsStrictlyIncreasing split up))
