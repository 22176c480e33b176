-- Ranks of the elements in an order: each element has one.
use Rattle.std.proofs.Common.{◌≡◌, ◌∙◌, ap, subst, ℕ, zero, suc, ◌+◌, ◌<◌, List, [], ◌∷◌, length, get_or, Some, None, false, arith}
use Rattle.std.specs.Prelude.{cond, not, nat_eq, nat_lt, ◌==◌}
use Rattle.std.specs.List.{IsDistinct, position, position_or_len}
use Rattle.std.proofs.lemmas.Bool.{eq-eqb, lt-ltb}
use Rattle.smil_model.specs.declared.document.Node.{Node}
use Rattle.smil_model.specs.document.Document.{elements, node_at}
use Rattle.smil_laws.proofs.RoundsRest.{find-serial}
use Rattle.smil_graph.specs.Graph.{IsGraphOrder}
use Rattle.smil_rounds.proofs.CurrentRowsExact.{ordered_element}
use Rattle.smil_instances.proofs.IdTargets.{some_of}
use Rattle.smil_cells.proofs.DistinctElements.{all_at}

-- ---- lists of different numbers

first_place : (s : ℕ) (xs : List ℕ) (j : ℕ) → IsDistinct nat_eq xs → j < length xs → get_or xs j 0 ≡ s → position_or_len (λ x. x == s) xs ≡ j
unfolding IsDistinct
first_place s [] j distinct lt at = absurd (omega (arith, lt))
first_place s (x ∷ xs) zero distinct lt at =
    ap (λ t. cond (not t) (1 + position_or_len (λ y. y == s) xs) 0) (eq-eqb x s at)
first_place s (x ∷ xs) (suc j) distinct lt at =
    let other : x == s ≡ false = subst (λ y. nat_eq x y ≡ false) at (all_at (λ y. nat_eq x y ≡ false) xs j distinct.0 (omega (arith, lt))) in
    let later : position_or_len (λ y. y == s) xs ≡ j = first_place s xs j distinct.1 (omega (arith, lt)) at in
    ap (λ t. cond (not t) (1 + position_or_len (λ y. y == s) xs) 0) other ∙ omega (arith, later)

-- each is found where it stands
pub found_place : (s : ℕ) (xs : List ℕ) (j : ℕ) → IsDistinct nat_eq xs → j < length xs → get_or xs j 0 ≡ s → position (λ x. x == s) xs ≡ Some j
found_place s xs j distinct lt at =
    ap (λ n. cond (nat_lt n (length xs)) (Some n) None) (first_place s xs j distinct lt at)
    ∙ ap (λ t. cond t (Some j) None) (lt-ltb j (length xs) lt)

-- each rank is that of an element
pub element_of : (nodes : List Node) (order : List ℕ) (rank : ℕ) → IsGraphOrder nodes order → rank < length order → (e : Node) × (e.serial ≡ get_or order rank 0) × (node_at (elements nodes) e.serial ≡ Some e)
element_of nodes order rank is within =
    let some = some_of (node_at (elements nodes) (get_or order rank 0)) (ordered_element nodes order rank is within) in
    let same : (some.0).serial ≡ get_or order rank 0 = find-serial (get_or order rank 0) (elements nodes) some.0 some.1 in
    (some.0, same, ap (node_at (elements nodes)) same ∙ some.1)
