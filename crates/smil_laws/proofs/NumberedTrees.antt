-- In a tree whose serials are distinct and above 0, parents stand before their children, and no parent is a number not yet given.
use Rattle.std.proofs.Common.{◌≡◌, refl, sym, ◌∙◌, ap, ℕ, ◌<◌, List, [], ◌∷◌, ◌++◌, Bool, true, false, arith, inl, inr, append_assoc}
use Rattle.std.specs.Prelude.{cond, ◌==◌, ◌⊎◌, reverse, All}
use Rattle.std.specs.List.{AllByRecursion, list_any}
use Rattle.std.proofs.lemmas.Bool.{or_parts, or_from, or_left, or_right, or_cases, eqb-true, eq-eqb, ne_eqb}
use Rattle.std.proofs.lemmas.List.{reverse-append}
use Rattle.std.proofs.lemmas.List.Elements.{All-head, All-tail}
use Rattle.smil_model.specs.declared.document.Node.{Node}
use Rattle.smil_model.specs.document.Document.{Document}
use Rattle.smil_model.specs.document.Valid.{IsNumberedTree, IsTree, IsTreeFrom, IsDistinct, open_from}
use Rattle.smil_laws.specs.Locality.{NoParent, ParentsBefore}
use Rattle.smil_laws.specs.Edited.{IsOrdered}
use Rattle.smil_laws.proofs.LineageParents.{swap_eqb}
use Rattle.smil_laws.proofs.Lists.{each_weaker}
use Rattle.smil_laws.proofs.ListMembers.{differ_each}

each_all : (P : Node → Type 0) (ns : List Node) → All P ns → AllByRecursion P ns
each_all P [] all = tt
each_all P (n ∷ ns) all = (All-head P n ns all, each_all P ns (All-tail P n ns all))

open_known : (P : ℕ → Type 0) (parent : ℕ) (xs : List ℕ) → AllByRecursion P xs → AllByRecursion P (open_from parent xs)
open_known P parent [] each = tt
open_known P parent (x ∷ xs) each = step (x == parent) (open_known P parent xs each.1)
  where
    step : (t : Bool) → AllByRecursion P (open_from parent xs) → AllByRecursion P (cond t (x ∷ xs) (open_from parent xs))
    step true r = each
    step false r = r

found : (P : ℕ → Type 0) (s : ℕ) (xs : List ℕ) → AllByRecursion P xs → list_any (λ x. x == s) xs ≡ true → P s
found P s [] each q = cc
found P s (x ∷ xs) each q = by_case (or_cases (x == s) (list_any (λ x. x == s) xs) q) (found P s xs each.1)
  where
    by_case : (x == s ≡ true) ⊎ (list_any (λ x. x == s) xs ≡ true) → (list_any (λ x. x == s) xs ≡ true → P s) → P s
    by_case (inl d) later = rw (← eqb-true x s d) each.0
    by_case (inr d) later = later d

-- ---- parents are below the next number

parents_low : (next : ℕ) (opened : List ℕ) (ns : List Node) → AllByRecursion (λ (s : ℕ). s < next) opened → AllByRecursion (λ (n : Node). (0 < n.serial) × (n.serial < next)) ns → IsTreeFrom opened ns → AllByRecursion (λ (n : Node). (n.serial < next) × (n.parent < next)) ns
parents_low next opened [] low each tree = tt
parents_low next opened (n ∷ ns) low each tree = (
  ((each.0).1, found (λ s. s < next) n.parent opened low tree.0),
  parents_low next (n.serial ∷ open_from n.parent opened) ns ((each.0).1, open_known (λ s. s < next) n.parent opened low) each.1 tree.1,
)

pub all_low : (d : Document) → IsNumberedTree d → AllByRecursion (λ (n : Node). (n.serial < d.next) × (n.parent < d.next)) d.nodes
all_low d numbered = by_nodes d.nodes (each_all (λ (n : Node). (0 < n.serial) × (n.serial < d.next)) d.nodes numbered.below) numbered.tree
  where
    by_nodes : (ns : List Node) → AllByRecursion (λ (n : Node). (0 < n.serial) × (n.serial < d.next)) ns → IsTree ns → AllByRecursion (λ (n : Node). (n.serial < d.next) × (n.parent < d.next)) ns
    by_nodes [] each tree = tt
    by_nodes (root ∷ ns) each tree =
        (((each.0).1, omega (arith, (each.0).0, (each.0).1, tree.0)), parents_low d.next (root.serial ∷ []) ns ((each.0).1, tt) each.1 tree.1)

-- ---- parents stand before

abbrev Holds : List Node → ℕ → Type 0
Holds rs s = list_any (λ (m : Node). m.serial == s) rs ≡ true

abbrev HoldsParent : List Node → Node → Type 0
HoldsParent rs m = (m.parent ≡ 0) ⊎ (list_any (λ (x : Node). x.serial == m.parent) rs ≡ true)

no_parent : (s : ℕ) (rs ms : List Node) → 0 < s → list_any (λ (m : Node). m.serial == s) rs ≡ false → AllByRecursion (HoldsParent rs) ms → NoParent s ms
no_parent s rs [] above absent each = tt
no_parent s rs (m ∷ ms) above absent each = (by_case each.0, no_parent s rs ms above absent each.1)
  where
    by_case : HoldsParent rs m → m.parent == s ≡ false
    by_case (inl z) = ne_eqb m.parent s (λ e. absurd (omega (arith, z, e, above)))
    by_case (inr t) = by_test (m.parent == s) refl
      where
        by_test : (b : Bool) → m.parent == s ≡ b → m.parent == s ≡ false
        by_test true e = let never : true ≡ false = sym t ∙ ap (λ r. list_any (λ (x : Node). x.serial == r) rs) (eqb-true m.parent s e) ∙ absent in cc
        by_test false e = e

still_absent : (n : Node) (rs ns : List Node) → list_any (λ (m : Node). m.serial == n.serial) ns ≡ false → AllByRecursion (λ (m : Node). list_any (λ (x : Node). x.serial == m.serial) rs ≡ false) ns → AllByRecursion (λ (m : Node). list_any (λ (x : Node). x.serial == m.serial) (n ∷ rs) ≡ false) ns
still_absent n rs [] d each = tt
still_absent n rs (m ∷ ms) d each =
    let parts = or_parts (m.serial == n.serial) (list_any (λ (x : Node). x.serial == n.serial) ms) d in
    (or_from _ _ (swap_eqb m.serial n.serial parts.0) each.0, still_absent n rs ms parts.1 each.1)

go : (ns : List Node) (opened : List ℕ) (rs : List Node) → IsTreeFrom opened ns → IsDistinct ns → AllByRecursion (λ (n : Node). 0 < n.serial) ns → AllByRecursion (λ (n : Node). list_any (λ (x : Node). x.serial == n.serial) rs ≡ false) ns → AllByRecursion (Holds rs) opened → ParentsBefore rs → AllByRecursion (HoldsParent rs) rs → ParentsBefore (reverse ns ++ rs)
go [] opened rs tree distinct above absent known first held = first
go (n ∷ ns) opened rs tree distinct above absent known first held =
    along (reverse ns ++ n ∷ rs) (reverse (n ∷ ns) ++ rs)
    (sym (append_assoc (reverse ns) (n ∷ []) rs) ∙ ap (λ xs. xs ++ rs) (sym (reverse-append (n ∷ []) ns)))
    (go ns (n.serial ∷ open_from n.parent opened) (n ∷ rs) tree.1 distinct.1 above.1
    (still_absent n rs ns distinct.0 absent.1)
    (or_left _ _ (eq-eqb n.serial n.serial refl), each_weaker (Holds rs) (Holds (n ∷ rs)) (open_from n.parent opened) (open_known (Holds rs) n.parent opened known) (λ s h. or_right _ _ h))
    (not_own, no_parent n.serial rs rs above.0 absent.0 held, first)
    (inr (or_right _ _ parent_held), each_weaker (HoldsParent rs) (HoldsParent (n ∷ rs)) rs held more))
  where
    along : (xs ys : List Node) → xs ≡ ys → ParentsBefore xs → ParentsBefore ys
    along xs ys e p = rw (← e) p

    parent_held : Holds rs n.parent
    parent_held = found (Holds rs) n.parent opened known tree.0

    not_own : n.parent == n.serial ≡ false
    not_own = by_test (n.parent == n.serial) refl
      where
        by_test : (b : Bool) → n.parent == n.serial ≡ b → n.parent == n.serial ≡ false
        by_test true e = let never : true ≡ false = sym parent_held ∙ ap (λ r. list_any (λ (x : Node). x.serial == r) rs) (eqb-true n.parent n.serial e) ∙ absent.0 in cc
        by_test false e = e

    more : (m : Node) → HoldsParent rs m → HoldsParent (n ∷ rs) m
    more m (inl z) = inl z
    more m (inr t) = inr (or_right _ _ t)

pub ordered : (d : Document) → IsNumberedTree d → IsOrdered d.nodes
ordered d numbered = record { first = by_nodes d.nodes (each_all (λ (n : Node). (0 < n.serial) × (n.serial < d.next)) d.nodes numbered.below) numbered.tree numbered.distinct; distinct = numbered.distinct }
  where
    alone : (root : Node) (ns : List Node) → AllByRecursion (λ (m : Node). m.serial == root.serial ≡ false) ns → AllByRecursion (λ (n : Node). list_any (λ (x : Node). x.serial == n.serial) (root ∷ []) ≡ false) ns
    alone root [] each = tt
    alone root (n ∷ ns) each = (or_from _ _ (swap_eqb n.serial root.serial each.0) refl, alone root ns each.1)

    whole : (root : Node) (ns : List Node) → ParentsBefore (reverse ns ++ root ∷ []) → ParentsBefore (reverse (root ∷ ns))
    whole root ns p = rw (reverse-append (root ∷ []) ns) p

    by_nodes : (ns : List Node) → AllByRecursion (λ (n : Node). (0 < n.serial) × (n.serial < d.next)) ns → IsTree ns → IsDistinct ns → ParentsBefore (reverse ns)
    by_nodes [] each tree distinct = tt
    by_nodes (root ∷ ns) each tree distinct =
        whole root ns
        (go ns (root.serial ∷ []) (root ∷ []) tree.1 distinct.1
        (each_weaker (λ (n : Node). (0 < n.serial) × (n.serial < d.next)) (λ (n : Node). 0 < n.serial) ns each.1 (λ n l. l.0))
        (alone root ns (differ_each root.serial ns distinct.0))
        (or_left _ _ (eq-eqb root.serial root.serial refl), tt)
        (ne_eqb root.parent root.serial (λ e. absurd (omega (arith, e, tree.0, (each.0).0))), tt, tt)
        (inl tree.0, tt))
