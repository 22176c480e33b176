-- Nodes that are found: above another, by a name, and with an id.
use Rattle.std.proofs.Common.{◌≡◌, refl, sym, ◌∙◌, ap, ℕ, ◌+◌, ◌≤◌, List, [], ◌∷◌, Option, Some, None, Bool, true, false, cond, arith}
use mathlib.Core.Bool.{and-false}
use Rattle.std.specs.Prelude.{◌&&◌, ◌==◌, not, find, count_by, drop, reverse, is_some}
use Rattle.std.proofs.lemmas.List.Sums.{sum_by-cons}
use Rattle.smil_model.specs.declared.document.Node.{Node}
use Rattle.smil_model.specs.declared.document.Kind.{Kind}
use Rattle.smil_model.specs.declared.order.Who.{Who}
use Rattle.smil_model.specs.declared.order.Who.TheVariants.{Id, Serial}
use Rattle.smil_model.specs.document.Document.{Document, ancestors, element_named, has_id, is_class_kind, is_element, lineage, node_at, time_parent, serial_of}
use Rattle.smil_model.specs.document.Valid.{IsNumberedTree, IsValid, kind_of}
use Rattle.smil_model.specs.shown.Orders.{node_of}
use Rattle.smil_laws.proofs.AsideDocuments.{each_drop, each_reverse, find_each}
use Rattle.smil_laws.proofs.DescendantChains.{each_upwards}
use Rattle.smil_tree.specs.TreeFields.{bears}
use Rattle.smil_tree.proofs.NodeFamilies.{no_chain}
use Rattle.smil_tree.proofs.TreeMade.{once_of}
use Rattle.smil_tree.proofs.NodeSpans.{all_known}
use Rattle.smil_instances.specs.Spread.{element_of, only_element}

-- what is no node has no time parent
pub no_parent : (nodes : List Node) (s : ℕ) → None ≡ serial_of (node_at nodes s) → None ≡ serial_of (time_parent nodes s)
no_parent nodes s q = by_node (node_at nodes s) refl q
  where
    by_node : (o : Option Node) → node_at nodes s ≡ o → None ≡ serial_of o → None ≡ serial_of (time_parent nodes s)
    by_node None none r = sym (ap (λ chain. serial_of (find is_element (drop 1 chain))) (no_chain nodes s none))
    by_node (Some n) at r = cc

pub some_serial : (o : Option Node) (p : ℕ) → Some p ≡ serial_of o → is_some o ≡ true
some_serial None p q = cc
some_serial (Some n) p q = refl

-- by its serial and its kind
pub only_of : (o : Option Node) (p : ℕ) (k : Kind) (t : Bool) → Some p ≡ serial_of o → Some k ≡ kind_of o → t ≡ not (is_class_kind k) → cond t (Some p) None ≡ serial_of (only_element o)
only_of None p k t q r e = cc
only_of (Some n) p k t q r e =
    let kind : k ≡ n.kind = cc in
    ap (λ u. cond u (Some p) None) (e ∙ ap (λ x. not (is_class_kind x)) kind) ∙ by_kind (is_element n)
  where
    by_kind : (u : Bool) → cond u (Some p) None ≡ serial_of (cond u (Some n) None)
    by_kind true = q
    by_kind false = refl

module _ (document : Document) (numbered : IsNumberedTree document) where
  by_serial : (o : Option Node) (p : ℕ) → ((n : Node) → o ≡ Some n → node_at document.nodes n.serial ≡ Some n) → Some p ≡ serial_of o → node_at document.nodes p ≡ o
  by_serial None p known q = cc
  by_serial (Some n) p known q = let same : p ≡ n.serial = cc in ap (node_at document.nodes) same ∙ known n refl

  pub parent_found : (s p : ℕ) → Some p ≡ serial_of (time_parent document.nodes s) → node_at document.nodes p ≡ time_parent document.nodes s
  parent_found s p q = by_serial (time_parent document.nodes s) p known q
    where
      known : (n : Node) → time_parent document.nodes s ≡ Some n → node_at document.nodes n.serial ≡ Some n
      known n is =
          find_each (λ (m : Node). node_at document.nodes m.serial ≡ Some m) is_element (ancestors document.nodes s) n
          (each_drop (λ (m : Node). node_at document.nodes m.serial ≡ Some m) 1 (lineage document.nodes s)
          (each_upwards (λ (m : Node). node_at document.nodes m.serial ≡ Some m) (reverse document.nodes) s
          (each_reverse (λ (m : Node). node_at document.nodes m.serial ≡ Some m) document.nodes (all_known document.nodes document.next numbered)))) is

  pub name_found : (who : Who) (p : ℕ) → Some p ≡ serial_of (node_of document.nodes who) → node_at document.nodes p ≡ node_of document.nodes who
  name_found who p q = by_serial (node_of document.nodes who) p (known who) q
    where
      known : (w : Who) (n : Node) → node_of document.nodes w ≡ Some n → node_at document.nodes n.serial ≡ Some n
      known (Id id) n is = find_each (λ (m : Node). node_at document.nodes m.serial ≡ Some m) (λ (m : Node). has_id id m.attrs.id) document.nodes n (all_known document.nodes document.next numbered) is
      known (Serial s) n is = find_each (λ (m : Node). node_at document.nodes m.serial ≡ Some m) (λ (m : Node). m.serial == s) document.nodes n (all_known document.nodes document.next numbered) is

-- ---- ids

module _ (q : List ℕ) where
  at_most : (n : Node) (ns : List Node) (t : Bool) (k : ℕ) → bears q n ≡ t → count_by (bears q) (n ∷ ns) ≤ k → cond t 1 0 + count_by (bears q) ns ≤ k
  at_most n ns t k e h = let c = sum_by-cons (λ (m : Node). cond (bears q m) 1 0) n ns in let f : ◌≡◌ {A = ℕ} (cond (bears q n) 1 0) (cond t 1 0) = ap (λ u. cond u 1 0) e in omega (arith, h, c, f)

  none_named : (ns : List Node) → count_by (bears q) ns ≤ 0 → element_named ns q ≡ None
  none_named [] h = refl
  none_named (n ∷ ns) h = step (bears q n) refl (none_named ns)
    where
      step : (t : Bool) → bears q n ≡ t → (count_by (bears q) ns ≤ 0 → element_named ns q ≡ None) → element_named (n ∷ ns) q ≡ None
      step true e rest = absurd (let m = at_most n ns true 0 e h in omega (arith, m))
      step false e rest = ap (λ t. cond (is_element n && t) (Some n) (element_named ns q)) e ∙ ap (λ t. cond t (Some n) (element_named ns q)) (and-false (is_element n)) ∙ rest (let m = at_most n ns false 0 e h in omega (arith, m))

  once_named : (ns : List Node) → count_by (bears q) ns ≤ 1 → element_named ns q ≡ only_element (find (bears q) ns)
  once_named [] h = refl
  once_named (n ∷ ns) h = step (bears q n) refl (once_named ns)
    where
      by_kind : (u : Bool) → element_named ns q ≡ None → cond (u && true) (Some n) (element_named ns q) ≡ cond u (Some n) None
      by_kind true none = refl
      by_kind false none = none

      step : (t : Bool) → bears q n ≡ t → (count_by (bears q) ns ≤ 1 → element_named ns q ≡ only_element (find (bears q) ns)) → element_named (n ∷ ns) q ≡ only_element (find (bears q) (n ∷ ns))
      step true e rest =
          ap (λ t. cond (is_element n && t) (Some n) (element_named ns q)) e
          ∙ by_kind (is_element n) (none_named ns (let m = at_most n ns true 1 e h in omega (arith, m)))
          ∙ ap (λ t. only_element (cond t (Some n) (find (bears q) ns))) (sym e)
      step false e rest =
          ap (λ t. cond (is_element n && t) (Some n) (element_named ns q)) e
          ∙ ap (λ t. cond t (Some n) (element_named ns q)) (and-false (is_element n))
          ∙ rest (let m = at_most n ns false 1 e h in omega (arith, m))
          ∙ ap (λ t. only_element (cond t (Some n) (find (bears q) ns))) (sym e)

-- as no two nodes have an id, the element with an id is the node with it, if that is an element
pub named_is : (document : Document) → IsValid document → (id : List ℕ) → element_of document.nodes (Id id) ≡ element_named document.nodes id
named_is document valid id = sym (once_named id document.nodes (once_of document valid id))
