-- What the callers of a kin know: a new node takes the next serial, and no node has it as its parent.
use Rattle.std.proofs.Common.{refl, zero, suc, ◌≤◌, length, insert, add-one, ◌≡◌, sym, ◌∙◌, ap, subst, ℕ, ◌+◌, ◌<◌, List, [], ◌∷◌, ◌++◌, false, take, drop, arith}
use Rattle.std.specs.Prelude.{◌==◌, reverse}
use Rattle.std.specs.List.{AllByRecursion, list_any}
use Rattle.std.proofs.lemmas.Bool.{or_parts, ne_eqb}
use Rattle.std.proofs.lemmas.List.{take-append-drop, reverse-append}
use Rattle.std.proofs.lemmas.List.Folds.{list_any-append}
use Rattle.smil_model.specs.declared.document.Node.{Node}
use Rattle.smil_model.specs.document.Document.{Document}
use Rattle.smil_model.specs.document.Edits.{children}
use Rattle.smil_model.specs.document.Valid.{IsDistinct, IsNumberedTree}
use Rattle.smil_laws.specs.Locality.{NoParent, ParentsBefore}
use Rattle.smil_laws.specs.Edited.{IsOrdered}
use Rattle.smil_laws.proofs.NumberedTrees.{all_low}
use Rattle.smil_laws.proofs.Lists.{each_weaker}
use Rattle.smil_tree.specs.Places.{cut}
use Rattle.smil_tree.proofs.KinLists.{filter_none}

-- no node has the next serial as its parent
pub next_leaf : (d : Document) → IsNumberedTree d → children d.nodes d.next ≡ []
next_leaf d numbered =
    filter_none (λ (m : Node). m.parent == d.next) d.nodes
    (each_weaker (λ (m : Node). (m.serial < d.next) × (m.parent < d.next)) (λ (m : Node). m.parent == d.next ≡ false) d.nodes (all_low d numbered)
    (λ m low. ne_eqb m.parent d.next (λ e. absurd (omega (arith, low.1, e)))))

pub parents_right : (xs ys : List Node) → ParentsBefore (xs ++ ys) → ParentsBefore ys
parents_right [] ys first = first
parents_right (x ∷ xs) ys first = parents_right xs ys first.2

distinct_left : (xs ys : List Node) → IsDistinct (xs ++ ys) → IsDistinct xs
distinct_left [] ys d = tt
distinct_left (x ∷ xs) ys d =
    ((or_parts (list_any (λ (m : Node). m.serial == x.serial) xs) (list_any (λ (m : Node). m.serial == x.serial) ys) (sym (list_any-append (λ (m : Node). m.serial == x.serial) xs ys) ∙ d.0)).0, distinct_left xs ys d.1)

turned : (nodes : List Node) (i : ℕ) → reverse nodes ≡ reverse (drop i nodes) ++ reverse (take i nodes)
turned nodes i = ap reverse (sym (take-append-drop i nodes)) ∙ reverse-append (take i nodes) (drop i nodes)

-- the first nodes of a document in order are in order
pub ordered_take : (nodes : List Node) (i : ℕ) → IsOrdered nodes → IsOrdered (take i nodes)
ordered_take nodes i o = record {
  first = parents_right (reverse (drop i nodes)) (reverse (take i nodes)) (subst ParentsBefore (turned nodes i) o.first);
  distinct = distinct_left (take i nodes) (drop i nodes) (subst IsDistinct (sym (take-append-drop i nodes)) o.distinct);
}

pub none_of : (s : ℕ) (ms : List Node) → NoParent s ms → AllByRecursion (λ (m : Node). m.parent == s ≡ false) ms
none_of s [] free = tt
none_of s (m ∷ ms) free = (free.0, none_of s ms free.1)

-- the nodes without the one that was put in
pub cut-insert : (nodes : List Node) (at : ℕ) (n : Node) → at ≤ length nodes → cut at (at + 1) (insert nodes at n) ≡ nodes
cut-insert nodes at n le = ap (λ k. cut at k (insert nodes at n)) (add-one at) ∙ without nodes at le
  where
    without : (ns : List Node) (i : ℕ) → i ≤ length ns → cut i (suc i) (insert ns i n) ≡ ns
    without [] zero le = refl
    without [] (suc i) le = absurd (omega (arith, le))
    without (m ∷ ns) zero le = refl
    without (m ∷ ns) (suc i) le = ap (λ ms. m ∷ ms) (without ns i (omega (arith, le)))
