-- What stands above a node of a tree in document order, and that what is below an element stands directly behind it.
use Rattle.std.proofs.Common.{◌≡◌, refl, sym, ◌∙◌, ap, subst, ℕ, zero, suc, ◌<◌, List, [], ◌∷◌, ◌++◌, Option, Some, None, Bool, true, false, arith, inl, inr}
use Rattle.std.specs.Prelude.{cond, ◌==◌, ◌&&◌, ◌||◌, ◌⊎◌, take, drop, reverse, filter, find, slice_get, is_some}
use Rattle.std.specs.List.{AllByRecursion, list_any}
use Rattle.std.proofs.lemmas.Bool.{and_right, or_parts, or_from, or_cases, eqb-true, eq-eqb}
use Rattle.std.proofs.lemmas.List.{reverse-append, append_assoc, reverse-reverse}
use Rattle.smil_model.specs.declared.document.Node.{Node}
use Rattle.smil_model.specs.document.Document.{node_at, is_element, upwards, lineage, time_parent}
use Rattle.smil_model.specs.document.Valid.{IsDistinct, IsTree, IsTreeFrom, open_from}
use Rattle.smil_laws.specs.Edited.{IsOrdered}
use Rattle.smil_laws.proofs.LineageParents.{swap_eqb, skip, take_it, upwards-rest, upwards-head}
use Rattle.smil_laws.proofs.AsideDocuments.{find_each, each_reverse}
use Rattle.smil_laws.proofs.ListMembers.{found_held, differ_each}
use Rattle.smil_laws.proofs.DescendantChains.{IsChain, ordered_chains, each_upwards}
use Rattle.smil_laws.proofs.Lists.{each_at}

-- whether an element that passes is in a lineage
abbrev pub any_in : (Node → Bool) → List Node → Bool
any_in test chain = list_any (λ (n : Node). is_element n && test n) chain

-- whether one is the time parent or stands above it
abbrev pub any_under : List Node → (Node → Bool) → Option Node → Bool
any_under nodes test None = false
any_under nodes test (Some p) = any_in test (lineage nodes p.serial)

pub none_in : (x : ℕ) (chain : List Node) → AllByRecursion (λ (n : Node). n.serial == x ≡ false) chain → any_in (λ (n : Node). n.serial == x) chain ≡ false
none_in x [] each = refl
none_in x (n ∷ ns) each = or_from _ _ (and_right (is_element n) (n.serial == x) each.0) (none_in x ns each.1)

-- ---- nodes by their places

-- no other node has the serial
pub others_before : (ns : List Node) (i : ℕ) (n : Node) → IsDistinct ns → slice_get ns i ≡ Some n → AllByRecursion (λ (m : Node). m.serial == n.serial ≡ false) (take i ns)
others_before [] i n d at = cc
others_before (m ∷ ns) zero n d at = tt
others_before (m ∷ ns) (suc i) n d at =
    (swap_eqb n.serial m.serial (each_at (λ (x : Node). x.serial == m.serial ≡ false) ns i n (differ_each m.serial ns d.0) at), others_before ns i n d.1 at)

pub others_after : (ns : List Node) (i : ℕ) (n : Node) → IsDistinct ns → slice_get ns i ≡ Some n → AllByRecursion (λ (m : Node). m.serial == n.serial ≡ false) (drop (suc i) ns)
others_after [] i n d at = cc
others_after (m ∷ ns) zero n d at = let one : m ≡ n = cc in subst (λ (x : Node). AllByRecursion (λ (y : Node). y.serial == x.serial ≡ false) ns) one (differ_each m.serial ns d.0)
others_after (m ∷ ns) (suc i) n d at = others_after ns i n d.1 at

-- a node with the serial of an element is this element
pub known_element : (ns : List Node) (i : ℕ) (n : Node) → IsDistinct ns → slice_get ns i ≡ Some n → is_some (node_at (filter is_element ns) n.serial) ≡ true → is_element n ≡ true
known_element [] i n d at q = cc
known_element (m ∷ ns) zero n d at q =
    let one : m ≡ n = cc in
    subst (λ (k : Node). is_element k ≡ true) one (step (is_element m) (subst (λ (k : Node). is_some (node_at (filter is_element (m ∷ ns)) k.serial) ≡ true) (sym one) q))
  where
    step : (t : Bool) → is_some (node_at (cond t (m ∷ filter is_element ns) (filter is_element ns)) m.serial) ≡ true → t ≡ true
    step true r = refl
    step false r = let never : false ≡ true = sym d.0 ∙ found_held is_element m.serial ns r in cc
known_element (m ∷ ns) (suc i) n d at q = known_element ns i n d.1 at (step (is_element m) q)
  where
    step : (t : Bool) → is_some (node_at (cond t (m ∷ filter is_element ns) (filter is_element ns)) n.serial) ≡ true → is_some (node_at (filter is_element ns) n.serial) ≡ true
    step true r = sym (ap (λ b. is_some (cond b (Some m) (node_at (filter is_element ns) n.serial))) (others_before (m ∷ ns) (suc i) n d at).0) ∙ r
    step false r = r

-- ---- the lineage of a node

split_at : (ns : List Node) (i : ℕ) (n : Node) → slice_get ns i ≡ Some n → take i ns ++ n ∷ drop (suc i) ns ≡ ns
split_at [] i n at = cc
split_at (m ∷ ns) zero n at = let one : m ≡ n = cc in ap (λ x. x ∷ ns) (sym one)
split_at (m ∷ ns) (suc i) n at = ap (λ xs. m ∷ xs) (split_at ns i n at)

skip_all : (rs ts : List Node) (s : ℕ) → AllByRecursion (λ (m : Node). m.serial == s ≡ false) rs → upwards (rs ++ ts) s ≡ upwards ts s
skip_all [] ts s each = refl
skip_all (r ∷ rs) ts s each = skip r (rs ++ ts) s each.0 ∙ skip_all rs ts s each.1

-- it is the node, and nodes before it
pub lineage_before : (ns : List Node) (i : ℕ) (n : Node) → IsDistinct ns → slice_get ns i ≡ Some n → lineage ns n.serial ≡ n ∷ upwards (reverse (take i ns)) n.parent
lineage_before ns i n d at =
    ap (λ xs. upwards (reverse xs) n.serial) (sym (split_at ns i n at))
    ∙ ap (λ rs. upwards rs n.serial) (reverse-append (take i ns) (n ∷ drop (suc i) ns) ∙ ap (λ xs. xs ++ reverse (take i ns)) (reverse-append (n ∷ []) (drop (suc i) ns)) ∙ append_assoc (reverse (drop (suc i) ns)) (n ∷ []) (reverse (take i ns)))
    ∙ skip_all (reverse (drop (suc i) ns)) (n ∷ reverse (take i ns)) n.serial (each_reverse (λ (m : Node). m.serial == n.serial ≡ false) (drop (suc i) ns) (others_after ns i n d at))
    ∙ take_it n (reverse (take i ns)) n.serial (eq-eqb n.serial n.serial refl)

-- what each node before it has, each node above it has
pub each_above : (P : Node → Type 0) (ns : List Node) (i : ℕ) (n : Node) → IsDistinct ns → slice_get ns i ≡ Some n → AllByRecursion P (take i ns) → AllByRecursion P (drop 1 (lineage ns n.serial))
each_above P ns i n d at each =
    subst (λ chain. AllByRecursion P (drop 1 chain)) (sym (lineage_before ns i n d at))
    (each_upwards P (reverse (take i ns)) n.parent (each_reverse P (take i ns) each))

-- the time parent of a node stands before it
pub parent_before : (P : Node → Type 0) (ns : List Node) (i : ℕ) (n p : Node) → IsDistinct ns → slice_get ns i ≡ Some n → AllByRecursion P (take i ns) → time_parent ns n.serial ≡ Some p → P p
parent_before P ns i n p d at each found = find_each P is_element (drop 1 (lineage ns n.serial)) p (each_above P ns i n d at each) found

module _ (nodes : List Node) (o : IsOrdered nodes) where
  pub chain_of : (n : Node) → node_at nodes n.serial ≡ Some n → lineage nodes n.serial ≡ n ∷ lineage nodes n.parent
  chain_of n at =
      let each = subst (λ (ns : List Node). AllByRecursion (IsChain (reverse nodes)) ns) (reverse-reverse nodes) (each_reverse (IsChain (reverse nodes)) (reverse nodes) (ordered_chains nodes o)) in
      find_each (IsChain (reverse nodes)) (λ (m : Node). m.serial == n.serial) nodes n each at

  any_above : (test : Node → Bool) (s : ℕ) (chain : List Node) → lineage nodes s ≡ chain → any_in test chain ≡ any_under nodes test (find is_element chain)
  any_above test s [] q = refl
  any_above test s (m ∷ rest) q = step (is_element m) refl (any_above test m.parent rest (upwards-rest (reverse nodes) s m rest o.first q))
    where
      step : (t : Bool) → is_element m ≡ t → any_in test rest ≡ any_under nodes test (find is_element rest) → ((t && test m) || any_in test rest) ≡ any_under nodes test (cond t (Some m) (find is_element rest))
      step true t later =
          let chain : lineage nodes m.serial ≡ m ∷ rest = ap (lineage nodes) (upwards-head (reverse nodes) s m rest q) ∙ q in
          ap (λ b. (b && test m) || any_in test rest) (sym t) ∙ sym (ap (any_in test) chain)
      step false t later = later

  -- whether an element that passes is in the lineage of a node: the node itself, or in that of the time parent
  pub any_node : (test : Node → Bool) (n : Node) → node_at nodes n.serial ≡ Some n → any_in test (lineage nodes n.serial) ≡ ((is_element n && test n) || any_under nodes test (time_parent nodes n.serial))
  any_node test n at =
      ap (any_in test) (chain_of n at)
      ∙ ap (λ b. (is_element n && test n) || b) (any_above test n.parent (lineage nodes n.parent) refl ∙ ap (λ c. any_under nodes test (find is_element (drop 1 c))) (sym (chain_of n at)))

  -- ---- nodes without the element x in their lineage

  module _ (x : ℕ) where
    abbrev pub Clear : ℕ → Type 0
    Clear s = any_in (λ (n : Node). n.serial == x) (lineage nodes s) ≡ false

    abbrev pub Known : List Node → Type 0
    Known ns = AllByRecursion (λ (n : Node). node_at nodes n.serial ≡ Some n) ns

    -- open nodes from the innermost to the root: where one is clear, those above it are
    abbrev Falls : List ℕ → Type 0
    Falls [] = Unit {0}
    Falls (s ∷ above) = (Clear s → AllByRecursion Clear above) × Falls above

    parent_clear : (n : Node) → node_at nodes n.serial ≡ Some n → Clear n.serial → Clear n.parent
    parent_clear n at clear = (or_parts _ _ (sym (ap (any_in (λ (m : Node). m.serial == x)) (chain_of n at)) ∙ clear)).1

    child_clear : (n : Node) → node_at nodes n.serial ≡ Some n → n.serial == x ≡ false → Clear n.parent → Clear n.serial
    child_clear n at other clear = ap (any_in (λ (m : Node). m.serial == x)) (chain_of n at) ∙ or_from _ _ (and_right (is_element n) (n.serial == x) other) clear

    opened_clear : (p : ℕ) (opened : List ℕ) → list_any (λ s. s == p) opened ≡ true → Falls opened → Clear p → AllByRecursion Clear (open_from p opened)
    opened_clear p [] held falls clear = tt
    opened_clear p (s ∷ above) held falls clear = step (s == p) refl held (λ q. opened_clear p above q falls.1 clear)
      where
        step : (t : Bool) → s == p ≡ t → (t || list_any (λ r. r == p) above) ≡ true → (list_any (λ r. r == p) above ≡ true → AllByRecursion Clear (open_from p above)) → AllByRecursion Clear (cond t (s ∷ above) (open_from p above))
        step true e q later = let here : Clear s = subst Clear (sym (eqb-true s p e)) clear in (here, falls.0 here)
        step false e q later = later q

    falls_from : (p : ℕ) (opened : List ℕ) → Falls opened → Falls (open_from p opened)
    falls_from p [] falls = tt
    falls_from p (s ∷ above) falls = step (s == p) (falls_from p above falls.1)
      where
        step : (t : Bool) → Falls (open_from p above) → Falls (cond t (s ∷ above) (open_from p above))
        step true later = falls
        step false later = later

    each_open : (p : ℕ) (opened : List ℕ) → AllByRecursion Clear opened → AllByRecursion Clear (open_from p opened)
    each_open p [] each = tt
    each_open p (s ∷ above) each = step (s == p) (each_open p above each.1)
      where
        step : (t : Bool) → AllByRecursion Clear (open_from p above) → AllByRecursion Clear (cond t (s ∷ above) (open_from p above))
        step true later = each
        step false later = later

    open_clear : (p : ℕ) (opened : List ℕ) → list_any (λ s. s == p) opened ≡ true → AllByRecursion Clear opened → Clear p
    open_clear p [] held each = cc
    open_clear p (s ∷ above) held each = by_case (or_cases (s == p) (list_any (λ r. r == p) above) held) (λ q. open_clear p above q each.1)
      where
        by_case : (s == p ≡ true) ⊎ (list_any (λ r. r == p) above ≡ true) → (list_any (λ r. r == p) above ≡ true → Clear p) → Clear p
        by_case (inl e) later = subst Clear (eqb-true s p e) each.0
        by_case (inr q) later = later q

    -- where all that is open is clear, all that follows is
    all_clear : (opened : List ℕ) (ns : List Node) → IsTreeFrom opened ns → Known ns → AllByRecursion (λ (n : Node). n.serial == x ≡ false) ns → AllByRecursion Clear opened → AllByRecursion (λ (n : Node). Clear n.serial) ns
    all_clear opened [] tree known others each = tt
    all_clear opened (n ∷ ns) tree known others each =
        let here : Clear n.serial = child_clear n known.0 others.0 (open_clear n.parent opened tree.0 each) in
        (here, all_clear (n.serial ∷ open_from n.parent opened) ns tree.1 known.1 others.1 (here, each_open n.parent opened each))

    clear_from : (opened : List ℕ) (ns : List Node) (i : ℕ) (n : Node) → IsTreeFrom opened ns → Known ns → AllByRecursion (λ (m : Node). m.serial == x ≡ false) (drop (suc i) ns) → Falls opened → slice_get ns i ≡ Some n → Clear n.serial → AllByRecursion (λ (m : Node). Clear m.serial) (drop i ns)
    clear_from opened [] i n tree known others falls at clear = cc
    clear_from opened (m ∷ ns) zero n tree known others falls at clear =
        let one : m ≡ n = cc in
        let here : Clear m.serial = subst (λ (k : Node). Clear k.serial) (sym one) clear in
        (here, all_clear (m.serial ∷ open_from m.parent opened) ns tree.1 known.1 others (here, opened_clear m.parent opened tree.0 falls (parent_clear m known.0 here)))
    clear_from opened (m ∷ ns) (suc i) n tree known others falls at clear =
        clear_from (m.serial ∷ open_from m.parent opened) ns i n tree.1 known.1 others
        ((λ here. opened_clear m.parent opened tree.0 falls (parent_clear m known.0 here)), falls_from m.parent opened falls) at clear

  -- from a node behind the element that is clear of it, all are
  pub clear_after : (x i : ℕ) (n : Node) → IsTree nodes → Known x nodes → AllByRecursion (λ (m : Node). m.serial == x ≡ false) (drop (suc i) nodes) → 0 < i → slice_get nodes i ≡ Some n → Clear x n.serial → AllByRecursion (λ (m : Node). Clear x m.serial) (drop i nodes)
  clear_after x i n tree known others behind at clear = by_nodes nodes i tree known others behind at
    where
      by_nodes : (ns : List Node) (k : ℕ) → IsTree ns → Known x ns → AllByRecursion (λ (m : Node). m.serial == x ≡ false) (drop (suc k) ns) → 0 < k → slice_get ns k ≡ Some n → AllByRecursion (λ (m : Node). Clear x m.serial) (drop k ns)
      by_nodes [] k t each rest l q = cc
      by_nodes (root ∷ ns) zero t each rest l q = absurd (omega (arith, l))
      by_nodes (root ∷ ns) (suc k) t each rest l q = clear_from x (root.serial ∷ []) ns k n t.1 each.1 rest ((λ c. tt), tt) q clear
