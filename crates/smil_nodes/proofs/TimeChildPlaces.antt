-- The time children of an element, by their places, and the ranks of elements.
use Rattle.std.proofs.Common.{◌≡◌, refl, sym, ◌∙◌, ap, ℕ, zero, suc, ◌<◌, List, [], ◌∷◌, length, get_or, Some, Bool, true, false}
use Rattle.std.specs.Prelude.{◌&&◌, ◌==◌, cond, filter, slice_get}
use Rattle.std.specs.List.{list_any}
use Rattle.std.proofs.lemmas.Bool.{and_from, and_parts, eq-eqb, or_left, or_right}
use Rattle.std.proofs.lemmas.List.Sorted.{list_any-IsPermutation}
use Rattle.smil_model.specs.declared.document.Node.{Node}
use Rattle.smil_model.specs.document.Document.{elements, has_serial, is_element, is_time_child, node_at, serial_of, serials, time_children, time_parent}
use Rattle.smil_model.specs.document.Dependencies.{has_implicit_duration}
use Rattle.smil_model.specs.document.Valid.{IsDistinct}
use Rattle.smil_model.specs.document.Closure.{has}
use Rattle.smil_laws.proofs.ListMembers.{differ_all, differ_kept}
use Rattle.smil_laws.proofs.ReachClosed.{own_is_all}
use Rattle.smil_graph.specs.Graph.{IsGraphOrder, follows_unlooped}
use Rattle.smil_rounds.proofs.RowsBesideElements.{apart_at, place_of_member, there_at}
use Rattle.smil_rounds.proofs.RowEvaluated.{elements_differ}
use Rattle.smil_nodes.specs.Work.{IsBelow}
use Rattle.smil_element.proofs.KnownElements.{passes, serial_is}

-- ---- members of a list by a test

member_any : (p : Node → Bool) (ns : List Node) (i : ℕ) (c : Node) → slice_get (filter p ns) i ≡ Some c → list_any (λ (n : Node). (n.serial == c.serial) && p n) ns ≡ true
member_any p [] i c at = absurd (cc)
member_any p (n ∷ ns) i c at = by_test (λ j a. member_any p ns j c a) (p n) refl i at
  where
    by_test : ((j : ℕ) → slice_get (filter p ns) j ≡ Some c → list_any (λ (m : Node). (m.serial == c.serial) && p m) ns ≡ true) → (t : Bool) → p n ≡ t → (j : ℕ) → slice_get (cond t (n ∷ filter p ns) (filter p ns)) j ≡ Some c → list_any (λ (m : Node). (m.serial == c.serial) && p m) (n ∷ ns) ≡ true
    by_test later true q zero a =
        let one : n ≡ c = cc in
        or_left _ _ (and_from _ _ (eq-eqb n.serial c.serial (ap (λ (m : Node). m.serial) one)) q)
    by_test later true q (suc j) a = or_right _ _ (later j a)
    by_test later false q j a = or_right _ _ (later j a)

-- what passes one test passes another that it implies
kept_in : (p q : Node → Bool) → ((n : Node) → p n ≡ true → q n ≡ true) → (ns : List Node) (i : ℕ) (c : Node) → slice_get (filter p ns) i ≡ Some c → (j : ℕ) × (slice_get (filter q ns) j ≡ Some c)
kept_in p q implies [] i c at = absurd (cc)
kept_in p q implies (n ∷ ns) i c at = by_test (λ j a. kept_in p q implies ns j c a) (p n) refl i at
  where
    behind : (t : Bool) → q n ≡ t → (j : ℕ) × (slice_get (filter q ns) j ≡ Some c) → (j : ℕ) × (slice_get (filter q (n ∷ ns)) j ≡ Some c)
    behind true e (j, a) = (suc j, ap (λ t. slice_get (cond t (n ∷ filter q ns) (filter q ns)) (suc j)) e ∙ a)
    behind false e (j, a) = (j, ap (λ t. slice_get (cond t (n ∷ filter q ns) (filter q ns)) j) e ∙ a)

    by_test : ((j : ℕ) → slice_get (filter p ns) j ≡ Some c → (k : ℕ) × (slice_get (filter q ns) k ≡ Some c)) → (t : Bool) → p n ≡ t → (j : ℕ) → slice_get (cond t (n ∷ filter p ns) (filter p ns)) j ≡ Some c → (k : ℕ) × (slice_get (filter q (n ∷ ns)) k ≡ Some c)
    by_test later true e zero a = (0, ap (λ t. slice_get (cond t (n ∷ filter q ns) (filter q ns)) 0) (implies n e) ∙ a)
    by_test later true e (suc j) a = behind (q n) refl (later j a)
    by_test later false e j a = behind (q n) refl (later j a)

-- ---- time children

-- a time child of the element with this serial
pub record IsFamily (nodes : List Node) (parent : ℕ) (c : Node) : Type 0 where
  pub known : node_at (elements nodes) c.serial ≡ Some c
  pub under : serial_of (time_parent nodes c.serial) ≡ Some parent
  pub fed : list_any (λ (n : Node). (n.serial == c.serial) && is_time_child nodes parent n) nodes ≡ true

pub family : (nodes : List Node) (parent k : ℕ) (c : Node) → IsDistinct nodes → slice_get (time_children nodes parent) k ≡ Some c → IsFamily nodes parent c
family nodes parent k c distinct at =
    let parts = and_parts (is_element c) (has_serial parent (time_parent nodes c.serial)) (passes (is_time_child nodes parent) nodes k c at) in
    let here = kept_in (is_time_child nodes parent) is_element (λ n q. (and_parts (is_element n) (has_serial parent (time_parent nodes n.serial)) q).0) nodes k c at in
    record {
      known = there_at (elements nodes) here.0 c (elements_differ nodes distinct) here.1;
      under = serial_is parent (time_parent nodes c.serial) parts.1;
      fed = member_any (is_time_child nodes parent) nodes k c at;
    }

-- each stands at one place
pub one_child : (nodes : List Node) (parent j k : ℕ) (c d : Node) → IsDistinct nodes → slice_get (time_children nodes parent) j ≡ Some c → slice_get (time_children nodes parent) k ≡ Some d → c.serial ≡ d.serial → j ≡ k
one_child nodes parent j k c d distinct p q same =
    apart_at (time_children nodes parent) j k c d (differ_kept (is_time_child nodes parent) nodes (differ_all nodes distinct)) p q same

-- ---- ranks

pub rank_of : (nodes : List Node) (order : List ℕ) (c : Node) → IsGraphOrder nodes order → node_at (elements nodes) c.serial ≡ Some c → (k : ℕ) × (k < length order) × (get_or order k 0 ≡ c.serial)
rank_of nodes order c is here =
    let among : has order c.serial ≡ true = sym (list_any-IsPermutation (λ y. y == c.serial) (serials (elements nodes)) order is.all) ∙ own_is_all nodes 0 c here in
    place_of_member c.serial order among

-- the time children of a container whose duration is implicit stand before it in an order
pub child_below : (nodes : List Node) (order : List ℕ) (rank k : ℕ) (e c : Node) → IsDistinct nodes → IsGraphOrder nodes order → rank < length order → get_or order rank 0 ≡ e.serial → node_at (elements nodes) e.serial ≡ Some e → has_implicit_duration e ≡ true → slice_get (time_children nodes e.serial) k ≡ Some c → IsBelow order rank c.serial
child_below nodes order rank k e c distinct is lt at here implicit child =
    let of = family nodes e.serial k c distinct child in
    let j = rank_of nodes order c is of.known in
    let fed : list_any (λ (n : Node). (n.serial == get_or order j.0 0) && is_time_child nodes e.serial n) nodes ≡ true =
    ap (λ s. list_any (λ (n : Node). (n.serial == s) && is_time_child nodes e.serial n) nodes) j.2 ∙ of.fed in
    let follows : follows_unlooped nodes (get_or order j.0 0) e ≡ true = or_left _ _ (or_left _ _ (and_from _ _ implicit fed)) in
    record { rank = j.0; below = is.forward e j.0 rank here j.1 lt at follows; within = j.1; at = j.2 }
