-- The elements of a document are different, and so are those of an order of them.
use Rattle.std.proofs.Common.{◌≡◌, refl, sym, ◌∙◌, ap, ℕ, zero, suc, ◌<◌, List, [], ◌∷◌, length, get_or, true, false, arith}
use Rattle.std.specs.Prelude.{nat_eq, ◌==◌}
use Rattle.std.specs.List.{AllByRecursion, IsDistinct}
use Rattle.std.proofs.lemmas.Bool.{eq-eqb}
use Rattle.std.proofs.lemmas.Cmp.{nat_eq_equiv}
use Rattle.std.proofs.lemmas.Map.Keys.{IsDistinct-IsPermutation}
use Rattle.smil_model.specs.declared.document.Node.{Node}
use Rattle.smil_model.specs.document.Document.{elements, is_element, serials}
use Rattle.smil_model.specs.document.Valid as document
use Rattle.smil_laws.proofs.ListMembers.{Differ, differ_all, differ_kept}
use Rattle.smil_graph.specs.Graph.{IsGraphOrder}

-- ---- lists of different numbers

pub all_at : (P : ℕ → Type 0) (xs : List ℕ) (k : ℕ) → AllByRecursion P xs → k < length xs → P (get_or xs k 0)
all_at P [] k all lt = absurd (omega (arith, lt))
all_at P (x ∷ xs) zero all lt = all.0
all_at P (x ∷ xs) (suc k) all lt = all_at P xs k all.1 (omega (arith, lt))

-- equal ones stand at one place
pub one_place : (xs : List ℕ) (j k : ℕ) → IsDistinct nat_eq xs → j < length xs → k < length xs → get_or xs j 0 ≡ get_or xs k 0 → j ≡ k
unfolding IsDistinct
one_place [] j k distinct lt less same = absurd (omega (arith, lt))
one_place (x ∷ xs) zero zero distinct lt less same = refl
one_place (x ∷ xs) zero (suc k) distinct lt less same =
    let never : false ≡ true = sym (all_at (λ y. nat_eq x y ≡ false) xs k distinct.0 (omega (arith, less))) ∙ eq-eqb x (get_or xs k 0) same in
    cc
one_place (x ∷ xs) (suc j) zero distinct lt less same =
    let never : false ≡ true = sym (all_at (λ y. nat_eq x y ≡ false) xs j distinct.0 (omega (arith, lt))) ∙ eq-eqb x (get_or xs j 0) (sym same) in
    cc
one_place (x ∷ xs) (suc j) (suc k) distinct lt less same =
    ap suc (one_place xs j k distinct.1 (omega (arith, lt)) (omega (arith, less)) same)

-- ---- the elements of a document

pub serials_differ : (ns : List Node) → Differ ns → IsDistinct nat_eq (serials ns)
unfolding IsDistinct
serials_differ [] d = tt
serials_differ (n ∷ ns) d = (each ns d.0, serials_differ ns d.1)
  where
    each : (ms : List Node) → AllByRecursion (λ (m : Node). m.serial == n.serial ≡ false) ms → AllByRecursion (λ s. nat_eq n.serial s ≡ false) (serials ms)
    each [] all = tt
    each (m ∷ ms) all = (nat_eq_equiv.symm n.serial m.serial ∙ all.0, each ms all.1)

-- the serials of the elements of a document are distinct
pub elements_distinct : (nodes : List Node) → document.IsDistinct nodes → IsDistinct nat_eq (serials (elements nodes))
elements_distinct nodes distinct = serials_differ (elements nodes) (differ_kept is_element nodes (differ_all nodes distinct))

-- an order of different elements
pub order_distinct : (nodes : List Node) (order : List ℕ) → IsDistinct nat_eq (serials (elements nodes)) → IsGraphOrder nodes order → IsDistinct nat_eq order
order_distinct nodes order distinct is =
    IsDistinct-IsPermutation nat_eq nat_eq_equiv.symm (serials (elements nodes)) order is.all distinct
