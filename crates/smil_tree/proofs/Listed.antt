-- Nodes in document order, read and changed by their serials.
use Rattle.std.proofs.Common.{◌≡◌, refl, sym, ◌∙◌, ap, ℕ, zero, suc, List, [], ◌∷◌, Option, Some, None, Bool, true, false, cond, length, set, arith}
use Rattle.std.specs.Prelude.{◌==◌, ◌||◌, slice_get, option_map, is_some, IsSome}
use Rattle.std.specs.FinMap.{FinMap, get as place_of}
use Rattle.std.specs.List.{list_any, position}
use Rattle.std.specs.Ordering.{nat_cmp}
use Rattle.std.proofs.lemmas.Bool.{or_parts, eq-eqb}
use Rattle.smil_model.specs.declared.document.Node.{Node}
use Rattle.smil_model.specs.declared.document.Attrs.{Attrs}
use Rattle.smil_model.specs.document.Document.{node_at}
use Rattle.smil_model.specs.document.Edits.{changed_at}
use Rattle.smil_model.specs.document.Valid.{IsDistinct}
use Rattle.smil_laws.proofs.LineageParents.{swap_eqb}
use Rattle.smil_model.proofs.FirstPlaces.{position_cons}
use Rattle.smil_tree.specs.Places.{IsIndexed, place_among, with_attrs}
use Rattle.smil_tree.proofs.Counted.{At, none_at, node_at_place}

-- the node with a serial, by its place
abbrev pub at_place : List Node → Option ℕ → Option Node
at_place nodes None = None
at_place nodes (Some place) = slice_get nodes place

pub node_placed : (s : ℕ) (ns : List Node) → node_at ns s ≡ at_place ns (position (λ (n : Node). n.serial == s) ns)
node_placed s [] = refl
node_placed s (n ∷ ns) =
    ap (cond (n.serial == s) (Some n)) (node_placed s ns) ∙ by (n.serial == s) (position (λ (m : Node). m.serial == s) ns)
    ∙ ap (at_place (n ∷ ns)) (sym (position_cons (λ (m : Node). m.serial == s) n ns))
  where
    by : (t : Bool) (o : Option ℕ) → cond t (Some n) (at_place ns o) ≡ at_place (n ∷ ns) (cond t (Some 0) (option_map suc o))
    by true o = refl
    by false None = refl
    by false (Some k) = refl

-- where no node has the serial, none is found by it
pub none_there : (s : ℕ) (ns : List Node) → node_at ns s ≡ None → list_any (λ (n : Node). n.serial == s) ns ≡ false
none_there s [] q = refl
none_there s (n ∷ ns) q = by (n.serial == s) refl (none_there s ns)
  where
    by : (t : Bool) → (n.serial == s) ≡ t → (node_at ns s ≡ None → list_any (λ (m : Node). m.serial == s) ns ≡ false) → ((n.serial == s) || list_any (λ (m : Node). m.serial == s) ns) ≡ false
    by true is rest = let never : Some n ≡ None = sym (ap (λ t. cond t (Some n) (node_at ns s)) is) ∙ q in cc
    by false is rest = ap (λ t. t || list_any (λ (m : Node). m.serial == s) ns) is ∙ rest (sym (ap (λ t. cond t (Some n) (node_at ns s)) is) ∙ q)

-- ---- a node changed in place

-- where no node has the serial, nothing changes
none_changed : (change : Attrs → Attrs) (s : ℕ) (ns : List Node) → list_any (λ (n : Node). n.serial == s) ns ≡ false → changed_at change s ns ≡ ns
none_changed change s [] free = refl
none_changed change s (n ∷ ns) free =
    let parts = or_parts (n.serial == s) (list_any (λ (m : Node). m.serial == s) ns) free in
    ap (λ t. cond t (with_attrs change n) n ∷ changed_at change s ns) parts.0 ∙ ap (λ ms. n ∷ ms) (none_changed change s ns parts.1)

module _ (change : Attrs → Attrs) (x : Node) where
  pub changed_there : (ns : List Node) (k : ℕ) → IsDistinct ns → slice_get ns k ≡ Some x → set ns k (with_attrs change x) ≡ changed_at change x.serial ns
  changed_there [] k apart at = let never : None ≡ Some x = at in cc
  changed_there (n ∷ ns) zero apart at =
      let one : n ≡ x = cc in
      let first : (n.serial == x.serial) ≡ true = eq-eqb n.serial x.serial (ap (λ (m : Node). m.serial) one) in
      ap (λ (m : Node). with_attrs change m ∷ ns) (sym one)
      ∙ ap (λ ms. with_attrs change n ∷ ms) (sym (none_changed change x.serial ns (ap (λ (m : Node). list_any (λ (y : Node). y.serial == m.serial) ns) (sym one) ∙ apart.0)))
      ∙ ap (λ t. cond t (with_attrs change n) n ∷ changed_at change x.serial ns) (sym first)
  changed_there (n ∷ ns) (suc k) apart at =
      let differ : (n.serial == x.serial) ≡ false = swap_eqb x.serial n.serial (none_at (λ (y : Node). y.serial == n.serial) ns k x at apart.0) in
      ap (λ ms. n ∷ ms) (changed_there ns k apart.1 at) ∙ ap (λ t. cond t (with_attrs change n) n ∷ changed_at change x.serial ns) (sym differ)

-- ---- what is found by a serial

module _ (nodes : List Node) (places : FinMap nat_cmp ℕ) (indexed : IsIndexed nodes places) where
  -- the node at the place that the table tells
  pub node-told : (s : ℕ) → node_at nodes s ≡ at_place nodes (place_of places s)
  node-told s = node_placed s nodes ∙ ap (at_place nodes) (sym (indexed.placed s))

  pub place-known : (s : ℕ) → IsSome (node_at nodes s) → IsSome (place_of places s)
  place-known s known = by (place_of places s) (node-told s)
    where
      by : (o : Option ℕ) → node_at nodes s ≡ at_place nodes o → IsSome o
      by None is = sym (ap is_some is) ∙ known
      by (Some place) is = refl

  pub found : (s place : ℕ) → place_of places s ≡ Some place → At nodes s place
  found s place is = node_at_place nodes s place (sym (indexed.placed s) ∙ is)

-- ---- the table of places after a change

module _ (change : Attrs → Attrs) (s : ℕ) where
  same_serial : (n : Node) (t : Bool) → (cond t (with_attrs change n) n).serial ≡ n.serial
  same_serial n true = refl
  same_serial n false = refl

  pub long_changed : (ns : List Node) → length (changed_at change s ns) ≡ length ns
  long_changed [] = refl
  long_changed (n ∷ ns) = ap suc (long_changed ns)

  any_changed : (v : ℕ) (ns : List Node) → list_any (λ (n : Node). n.serial == v) (changed_at change s ns) ≡ list_any (λ (n : Node). n.serial == v) ns
  any_changed v [] = refl
  any_changed v (n ∷ ns) =
      ap (λ k. (k == v) || list_any (λ (m : Node). m.serial == v) (changed_at change s ns)) (same_serial n (n.serial == s))
      ∙ ap (λ t. (n.serial == v) || t) (any_changed v ns)

  distinct_changed : (ns : List Node) → IsDistinct ns → IsDistinct (changed_at change s ns)
  distinct_changed [] apart = tt
  distinct_changed (n ∷ ns) apart =
      (ap (λ k. list_any (λ (m : Node). m.serial == k) (changed_at change s ns)) (same_serial n (n.serial == s)) ∙ any_changed n.serial ns ∙ apart.0, distinct_changed ns apart.1)

  pub place_changed : (v : ℕ) (ns : List Node) → place_among (changed_at change s ns) v ≡ place_among ns v
  place_changed v [] = refl
  place_changed v (n ∷ ns) =
      position_cons (λ (m : Node). m.serial == v) (cond (n.serial == s) (with_attrs change n) n) (changed_at change s ns)
      ∙ ap (λ k. cond (k == v) (Some 0) (option_map suc (place_among (changed_at change s ns) v))) (same_serial n (n.serial == s))
      ∙ ap (λ o. cond (n.serial == v) (Some 0) (option_map suc o)) (place_changed v ns)
      ∙ sym (position_cons (λ (m : Node). m.serial == v) n ns)

  pub indexed_changed : (ns : List Node) (places : FinMap nat_cmp ℕ) → IsIndexed ns places → IsIndexed (changed_at change s ns) places
  indexed_changed ns places indexed = record {
    few = omega (arith, long_changed ns, indexed.few);
    apart = distinct_changed ns indexed.apart;
    placed = λ v. indexed.placed v ∙ sym (place_changed v ns);
  }

-- a node with other attributes at the place of a serial: the nodes then
pub replaced_there : (change : Attrs → Attrs) (nodes : List Node) (places : FinMap nat_cmp ℕ) (s place : ℕ) (old new : Node) → IsIndexed nodes places → place_of places s ≡ Some place → node_at nodes s ≡ Some old → new ≡ with_attrs change old → set nodes place new ≡ changed_at change s nodes
replaced_there change nodes places s place old new indexed is at changed =
    let there = found nodes places indexed s place is in
    let here : slice_get nodes place ≡ Some old = sym (ap (at_place nodes) is) ∙ sym (node-told nodes places indexed s) ∙ at in
    let both : Some there.node ≡ Some old = sym there.at ∙ here in
    let same : there.node ≡ old = cc in
    ap (set nodes place) changed
    ∙ changed_there change old nodes place indexed.apart here
    ∙ ap (λ v. changed_at change v nodes) (ap (λ (n : Node). n.serial) (sym same) ∙ there.its)
