-- What stands above and below a node, in a document whose parents stand before their children.
use Rattle.std.proofs.Common.{◌≡◌, refl, sym, ◌∙◌, ap, subst, ℕ, zero, suc, ◌+◌, List, [], ◌∷◌, Option, Some, None, Bool, true, false, cond, length, drop, filter, add-one}
use Rattle.std.specs.Prelude.{◌==◌, ◌||◌, ◌&&◌, find, slice_get, reverse}
use Rattle.std.specs.List.{list_any, list_all, AllByRecursion}
use Rattle.std.specs.Option.{option_copied}
use Rattle.std.specs.Borrow.{Bor}
use Rattle.std.proofs.lemmas.Bool.{or_parts, or_right, eqb-true, eq-eqb}
use Rattle.std.proofs.lemmas.List.{reverse-reverse}
use Rattle.smil_model.specs.declared.document.Node.{Node}
use Rattle.smil_model.specs.document.Document.{node_at, lineage, upwards, ancestors, is_element}
use Rattle.smil_model.specs.document.Valid.{IsDistinct}
use Rattle.smil_laws.specs.Edited.{IsOrdered}
use Rattle.smil_laws.proofs.LineageParents.{skip}
use Rattle.smil_laws.proofs.AsideDocuments.{find_each, find_true, each_reverse}
use Rattle.smil_laws.proofs.DescendantChains.{IsChain, ordered_chains}
use Rattle.smil_laws.proofs.ListMembers.{holds, held_reverse}

-- the lineage of a node is the node, then the lineage of its parent
pub chain_of : (nodes : List Node) → IsOrdered nodes → (s : ℕ) (n : Node) → node_at nodes s ≡ Some n → lineage nodes s ≡ n ∷ lineage nodes n.parent
chain_of nodes o s n at =
    let each = subst (λ (ns : List Node). AllByRecursion (IsChain (reverse nodes)) ns) (reverse-reverse nodes) (each_reverse (IsChain (reverse nodes)) (reverse nodes) (ordered_chains nodes o)) in
    ap (upwards (reverse nodes)) (sym (eqb-true n.serial s (find_true (λ (m : Node). m.serial == s) nodes n at)))
    ∙ find_each (IsChain (reverse nodes)) (λ (m : Node). m.serial == s) nodes n each at

pub chain_longer : (nodes : List Node) → IsOrdered nodes → (s : ℕ) (n : Node) → node_at nodes s ≡ Some n → length (lineage nodes s) ≡ suc (length (lineage nodes n.parent))
chain_longer nodes o s n at = ap length (chain_of nodes o s n at)

pub none_up : (s : ℕ) (rs : List Node) → holds s rs ≡ false → upwards rs s ≡ []
none_up s [] none = refl
none_up s (n ∷ before) none =
    let parts = or_parts (n.serial == s) (holds s before) none in
    skip n before s parts.0 ∙ none_up s before parts.1

pub none_held : (s : ℕ) (ns : List Node) → node_at ns s ≡ None → holds s ns ≡ false
none_held s [] q = refl
none_held s (n ∷ ns) q = step (n.serial == s) q (none_held s ns)
  where
    step : (t : Bool) → cond t (Some n) (node_at ns s) ≡ None → (node_at ns s ≡ None → holds s ns ≡ false) → (t || holds s ns) ≡ false
    step true r rest = cc
    step false r rest = rest r

-- what is no node has no lineage
pub no_chain : (nodes : List Node) (s : ℕ) → node_at nodes s ≡ None → lineage nodes s ≡ []
no_chain nodes s q = none_up s (reverse nodes) (held_reverse s nodes ∙ none_held s nodes q)

-- what stands above a node is the lineage of its parent
pub above_of : (nodes : List Node) → IsOrdered nodes → (s : ℕ) (n : Node) → node_at nodes s ≡ Some n → ancestors nodes s ≡ lineage nodes n.parent
above_of nodes o s n at = ap (drop 1) (chain_of nodes o s n at)

-- the node at a place is the node with its serial
pub node_of_place : (ns : List Node) (i : ℕ) (n : Node) → IsDistinct ns → slice_get ns i ≡ Some n → node_at ns n.serial ≡ Some n
node_of_place [] i n d at = cc
node_of_place (m ∷ ns) zero n d at =
    let one : m ≡ n = cc in
    ap (λ (x : Node). cond (m.serial == x.serial) (Some m) (node_at ns x.serial)) (sym one) ∙ ap (λ t. cond t (Some m) (node_at ns m.serial)) (eq-eqb m.serial m.serial refl) ∙ ap Some one
node_of_place (m ∷ ns) (suc i) n d at =
    ap (λ t. cond t (Some m) (node_at ns n.serial)) (apart (m.serial == n.serial) refl) ∙ node_of_place ns i n d.1 at
  where
    among : (xs : List Node) (k : ℕ) → slice_get xs k ≡ Some n → list_any (λ (x : Node). x.serial == n.serial) xs ≡ true
    among [] k here = cc
    among (x ∷ xs) zero here = let one : x ≡ n = cc in ap (λ (y : Node). (y.serial == n.serial) || list_any (λ (z : Node). z.serial == n.serial) xs) one ∙ ap (λ t. t || list_any (λ (z : Node). z.serial == n.serial) xs) (eq-eqb n.serial n.serial refl)
    among (x ∷ xs) (suc k) here = or_right (x.serial == n.serial) _ (among xs k here)

    apart : (t : Bool) → m.serial == n.serial ≡ t → t ≡ false
    apart false q = refl
    apart true q = let never : true ≡ false = sym (among ns i at) ∙ ap (λ x. list_any (λ (y : Node). y.serial == x) ns) (sym (eqb-true m.serial n.serial q)) ∙ d.0 in cc

-- ---- what passes, by its place

pub drop-suc_at : {A : Type 0} (xs : List A) (i : ℕ) (x : A) → slice_get xs i ≡ Some x → drop i xs ≡ x ∷ drop (suc i) xs
drop-suc_at [] i x at = cc
drop-suc_at (y ∷ ys) zero x at = let one : y ≡ x = cc in ap (λ z. z ∷ ys) one
drop-suc_at (y ∷ ys) (suc i) x at = drop-suc_at ys i x at

pub drop_at : {A : Type 0} (xs : List A) (i : ℕ) (x : A) → slice_get xs i ≡ Some x → drop i xs ≡ x ∷ drop (i + 1) xs
drop_at xs i x at = drop-suc_at xs i x at ∙ ap (λ k. x ∷ drop k xs) (sym (add-one i))

-- of those that pass, from a place on
pub passes_first : (t : Node → Bool) (ns : List Node) (i : ℕ) (n : Node) → slice_get ns i ≡ Some n → t n ≡ true → slice_get (filter t (drop i ns)) 0 ≡ Some n
passes_first t ns i n at e = ap (λ ms. slice_get (filter t ms) 0) (drop_at ns i n at) ∙ ap (λ b. slice_get (cond b (n ∷ filter t (drop (i + 1) ns)) (filter t (drop (i + 1) ns))) 0) e

pub passes_later : (t : Node → Bool) (ns : List Node) (i left : ℕ) (n : Node) → slice_get ns i ≡ Some n → t n ≡ true → slice_get (filter t (drop i ns)) (suc left) ≡ slice_get (filter t (drop (i + 1) ns)) left
passes_later t ns i left n at e = ap (λ ms. slice_get (filter t ms) (suc left)) (drop_at ns i n at) ∙ ap (λ b. slice_get (cond b (n ∷ filter t (drop (i + 1) ns)) (filter t (drop (i + 1) ns))) (suc left)) e

pub fails_here : (t : Node → Bool) (ns : List Node) (i left : ℕ) (n : Node) → slice_get ns i ≡ Some n → t n ≡ false → slice_get (filter t (drop i ns)) left ≡ slice_get (filter t (drop (i + 1) ns)) left
fails_here t ns i left n at e = ap (λ ms. slice_get (filter t ms) left) (drop_at ns i n at) ∙ ap (λ b. slice_get (cond b (n ∷ filter t (drop (i + 1) ns)) (filter t (drop (i + 1) ns))) left) e

-- ---- elements in a lineage

pub none_lent : (r : Option (Bor Node)) → ((x : Bor Node) → r ≡ Some x → ⊥) → option_copied r ≡ None
none_lent None never = refl
none_lent (Some x) never = absurd (never x refl)

-- the nearest element of a lineage that begins with an element, and with a priorityClass
pub nearest_here : (nodes : List Node) → IsOrdered nodes → (s : ℕ) (n : Node) → node_at nodes s ≡ Some n → is_element n ≡ true → find is_element (lineage nodes s) ≡ Some n
nearest_here nodes o s n at e =
    ap (find is_element) (chain_of nodes o s n at) ∙ ap (λ t. cond t (Some n) (find is_element (lineage nodes n.parent))) e

pub nearest_above : (nodes : List Node) → IsOrdered nodes → (s : ℕ) (n : Node) → node_at nodes s ≡ Some n → is_element n ≡ false → find is_element (lineage nodes s) ≡ find is_element (lineage nodes n.parent)
nearest_above nodes o s n at e =
    ap (find is_element) (chain_of nodes o s n at) ∙ ap (λ t. cond t (Some n) (find is_element (lineage nodes n.parent))) e

-- ---- all that pass

pub all_here : (t : Node → Bool) (ns : List Node) (i : ℕ) (n : Node) (b : Bool) → slice_get ns i ≡ Some n → t n ≡ b → list_all t (drop i ns) ≡ (b && list_all t (drop (i + 1) ns))
all_here t ns i n b at e = ap (list_all t) (drop_at ns i n at) ∙ ap (λ x. x && list_all t (drop (i + 1) ns)) e
