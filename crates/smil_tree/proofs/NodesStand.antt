-- Nodes that stand where they may and have attributes that fit, after an edit.
use Rattle.std.proofs.Common.{◌≡◌, refl, sym, ◌∙◌, ap, subst, ℕ, suc, ◌≤◌, List, [], ◌∷◌, ◌++◌, Option, Some, None, Bool, true, false, cond, length, map, filter, drop, append_assoc}
use Rattle.std.specs.Prelude.{◌==◌, ◌&&◌, ◌||◌, not, reverse, count_by, nat_lt}
use Rattle.std.specs.List.{list_any, list_all, AllByRecursion}
use Rattle.std.proofs.lemmas.Bool.{and_parts, and_from, or_from, eqb-true, eq-eqb}
use Rattle.std.proofs.lemmas.List.Folds.{list_all-append}
use Rattle.std.specs.Cmp.Lexicographic.{bytes_decides}
use Rattle.indexmap.proofs.ReorderLemmas.{map-reverse}
use Rattle.smil_model.specs.declared.limits.TheConstants.{DEPTH}
use Rattle.smil_model.specs.declared.document.Node.{Node}
use Rattle.smil_model.specs.declared.document.Attrs.{Attrs}
use Rattle.smil_model.specs.declared.document.Kind.{Kind}
use Rattle.smil_model.specs.document.Document.{node_at, upwards, lineage, has_id, is_class_kind}
use Rattle.smil_model.specs.document.Values.{fit_kind}
use Rattle.smil_model.specs.document.Valid.{IsDistinct, depth_of, kind_of, may_stand, agree_with, same_test, is_well_placed, has_fitting_attrs, is_id_taken}
use Rattle.smil_model.specs.document.Edits.{changed_at}
use Rattle.smil_laws.proofs.KeptNodes.{upwards_kept, filter_reverse}
use Rattle.smil_laws.proofs.AsideDocuments.{find_within}
use Rattle.smil_laws.proofs.Lists.{each_chosen}
use Rattle.smil_laws.proofs.EditsBelow.{upwards_edit}
use Rattle.smil_tree.specs.TreeFields.{bears, owner, is_other}
use Rattle.smil_tree.proofs.AttributesChanged.{serial_stays, parent_stays}
use Rattle.smil_tree.specs.Places.{with_attrs}
use Rattle.smil_tree.proofs.KinTrees.{keeps_reversed}
use Rattle.smil_tree.proofs.IdOwners.{around, owner-between, taken}

-- ---- lists

pub each_of_all : {A : Type 0} (t : A → Bool) (xs : List A) → list_all t xs ≡ true → AllByRecursion (λ x. t x ≡ true) xs
each_of_all t [] all = tt
each_of_all t (x ∷ xs) all = let parts = and_parts (t x) (list_all t xs) all in (parts.0, each_of_all t xs parts.1)

pub all_of_each : {A : Type 0} (t : A → Bool) (xs : List A) → AllByRecursion (λ x. t x ≡ true) xs → list_all t xs ≡ true
all_of_each t [] each = refl
all_of_each t (x ∷ xs) each = and_from (t x) (list_all t xs) each.0 (all_of_each t xs each.1)

all_same : (t u : Node → Bool) (ns : List Node) → ((n : Node) → t n ≡ u n) → list_all t ns ≡ list_all u ns
all_same t u [] same = refl
all_same t u (n ∷ ns) same = ap (λ b. b && list_all t ns) (same n) ∙ ap (λ b. u n && b) (all_same t u ns same)

pub all_kept : (t keep : Node → Bool) (ns : List Node) → list_all t ns ≡ true → list_all t (filter keep ns) ≡ true
all_kept t keep ns all = all_of_each t (filter keep ns) (each_chosen (λ (n : Node). t n ≡ true) (λ (n : Node). t n ≡ true) keep ns (each_of_all t ns all) (λ n k h. h))

pub all_between : (t : Node → Bool) (front : List Node) (n : Node) (back : List Node) → list_all t (front ++ back) ≡ true → t n ≡ true → list_all t (front ++ n ∷ back) ≡ true
all_between t front n back all here =
    let parts = and_parts (list_all t front) (list_all t back) (sym (list_all-append t front back) ∙ all) in
    list_all-append t front (n ∷ back) ∙ and_from _ _ parts.0 (and_from _ _ here parts.1)

all_around : (t : Node → Bool) (front : List Node) (n : Node) (back : List Node) → list_all t (front ++ n ∷ back) ≡ true → (list_all t (front ++ back) ≡ true) × (t n ≡ true)
all_around t front n back all =
    let parts = and_parts (list_all t front) (list_all t (n ∷ back)) (sym (list_all-append t front (n ∷ back)) ∙ all) in
    let later = and_parts (t n) (list_all t back) parts.1 in
    (list_all-append t front back ∙ and_from _ _ parts.0 later.1, later.0)

-- ---- ids

-- where no id is given twice, none is taken
pub none_taken : (nodes : List Node) → ((q : List ℕ) → count_by (bears q) nodes ≤ 1) → list_any (λ (n : Node). is_id_taken nodes n.serial n.attrs.id) nodes ≡ false
none_taken nodes once = behind [] nodes once
  where
    by_id : (front : List Node) (n : Node) (ns : List Node) (id : Option (List ℕ)) → n.attrs.id ≡ id → ((q : List ℕ) → count_by (bears q) (front ++ n ∷ ns) ≤ 1) → is_id_taken (front ++ n ∷ ns) n.serial id ≡ false
    by_id front n ns None e once = refl
    by_id front n ns (Some q) e once =
        taken q n.serial (front ++ n ∷ ns) (once q)
        ∙ ap (is_other n.serial) (owner-between q front n ns (once q) ∙ ap (λ b. cond b (Some n.serial) (owner q (front ++ ns))) (ap (has_id q) e ∙ (bytes_decides q q).1 refl))
        ∙ ap not (eq-eqb n.serial n.serial refl)

    behind : (front ns : List Node) → ((q : List ℕ) → count_by (bears q) (front ++ ns) ≤ 1) → list_any (λ (n : Node). is_id_taken (front ++ ns) n.serial n.attrs.id) ns ≡ false
    behind front [] once = refl
    behind front (n ∷ ns) once =
        or_from _ _ (by_id front n ns n.attrs.id refl once)
        (subst (λ (whole : List Node). list_any (λ (m : Node). is_id_taken whole m.serial m.attrs.id) ns ≡ false) (append_assoc front (n ∷ []) ns)
        (behind (front ++ n ∷ []) ns (λ q. subst (λ (whole : List Node). count_by (bears q) whole ≤ 1) (sym (append_assoc front (n ∷ []) ns)) (once q))))

-- ---- attributes changed

module _ (change : Attrs → Attrs) (s : ℕ) where
  abbrev pub edit : Node → Node
  edit n = cond (n.serial == s) (with_attrs change n) n

  pub serial_same : (n : Node) → (edit n).serial ≡ n.serial
  serial_same n = serial_stays change s n (n.serial == s)

  pub parent_same : (n : Node) → (edit n).parent ≡ n.parent
  parent_same n = parent_stays change s n (n.serial == s)

  pub kind_same : (n : Node) → (edit n).kind ≡ n.kind
  kind_same n = by_test (n.serial == s)
    where
      by_test : (t : Bool) → (cond t (with_attrs change n) n).kind ≡ n.kind
      by_test true = refl
      by_test false = refl

  pub lineage_edited : (nodes : List Node) (x : ℕ) → lineage (changed_at change s nodes) x ≡ map edit (lineage nodes x)
  lineage_edited nodes x = ap (λ rs. upwards rs x) (sym (map-reverse edit nodes)) ∙ upwards_edit change s (reverse nodes) x

  long_rest : (ns : List Node) → length (drop 1 (map edit ns)) ≡ length (drop 1 ns)
  long_rest [] = refl
  long_rest (n ∷ ns) = long ns
    where
      long : (ms : List Node) → length (map edit ms) ≡ length ms
      long [] = refl
      long (m ∷ ms) = ap suc (long ms)

  depth_same : (nodes : List Node) (x : ℕ) → depth_of (changed_at change s nodes) x ≡ depth_of nodes x
  depth_same nodes x = ap (λ c. length (drop 1 c)) (lineage_edited nodes x) ∙ long_rest (lineage nodes x)

  kind_at_same : (nodes : List Node) (x : ℕ) → kind_of (node_at (changed_at change s nodes) x) ≡ kind_of (node_at nodes x)
  kind_at_same [] x = refl
  kind_at_same (n ∷ ns) x = ap (λ r. kind_of (cond (r == x) (Some (edit n)) (node_at (changed_at change s ns) x))) (serial_same n) ∙ step (n.serial == x) (kind_at_same ns x)
    where
      step : (t : Bool) → kind_of (node_at (changed_at change s ns) x) ≡ kind_of (node_at ns x) → kind_of (cond t (Some (edit n)) (node_at (changed_at change s ns) x)) ≡ kind_of (cond t (Some n) (node_at ns x))
      step true rest = ap Some (kind_same n)
      step false rest = rest

  agree_same : (nodes : List Node) (p : ℕ) (kind : Kind) → agree_with (changed_at change s nodes) p kind ≡ agree_with nodes p kind
  agree_same [] p kind = refl
  agree_same (n ∷ ns) p kind =
      ap (λ r. (not (r == p) || same_test (is_class_kind (edit n).kind) (is_class_kind kind)) && agree_with (changed_at change s ns) p kind) (parent_same n)
      ∙ ap (λ k. (not (n.parent == p) || same_test (is_class_kind k) (is_class_kind kind)) && agree_with (changed_at change s ns) p kind) (kind_same n)
      ∙ ap (λ b. (not (n.parent == p) || same_test (is_class_kind n.kind) (is_class_kind kind)) && b) (agree_same ns p kind)

  well_placed_same : (nodes : List Node) (n : Node) → is_well_placed (changed_at change s nodes) n ≡ is_well_placed nodes n
  well_placed_same nodes n =
      ap (λ k. nat_lt k DEPTH && may_stand (kind_of (node_at (changed_at change s nodes) n.parent)) n.kind && agree_with (changed_at change s nodes) n.parent n.kind) (depth_same nodes n.serial)
      ∙ ap (λ k. nat_lt (depth_of nodes n.serial) DEPTH && may_stand k n.kind && agree_with (changed_at change s nodes) n.parent n.kind) (kind_at_same nodes n.parent)
      ∙ ap (λ b. nat_lt (depth_of nodes n.serial) DEPTH && may_stand (kind_of (node_at nodes n.parent)) n.kind && b) (agree_same nodes n.parent n.kind)

  module _ (nodes : List Node) (old : Node) (distinct : IsDistinct nodes) (at : node_at nodes s ≡ Some old) where
    swapped : (t u : Node → Bool) → ((n : Node) → u n ≡ t n) → list_all t nodes ≡ true → t (with_attrs change old) ≡ true → list_all u (changed_at change s nodes) ≡ true
    swapped t u same all here =
        let a = around change s nodes old distinct at in
        let others = all_around t a.front old a.back (sym (ap (list_all t) a.before) ∙ all) in
        all_same u t (changed_at change s nodes) same ∙ ap (list_all t) a.after ∙ all_between t a.front (with_attrs change old) a.back others.0 here

    pub placed_edited : list_all (is_well_placed nodes) nodes ≡ true → list_all (is_well_placed (changed_at change s nodes)) (changed_at change s nodes) ≡ true
    placed_edited all =
        let a = around change s nodes old distinct at in
        let own : is_well_placed nodes old ≡ true = (all_around (is_well_placed nodes) a.front old a.back (sym (ap (list_all (is_well_placed nodes)) a.before) ∙ all)).1 in
        swapped (is_well_placed nodes) (is_well_placed (changed_at change s nodes)) (well_placed_same nodes) all own

    pub fitting_edited : list_all (has_fitting_attrs nodes) nodes ≡ true → fit_kind old.kind (kind_of (node_at nodes old.parent)) (change old.attrs) ≡ true → list_all (has_fitting_attrs (changed_at change s nodes)) (changed_at change s nodes) ≡ true
    fitting_edited all fits =
        swapped (has_fitting_attrs nodes) (has_fitting_attrs (changed_at change s nodes)) (λ n. ap (λ k. fit_kind n.kind k n.attrs) (kind_at_same nodes n.parent)) all fits

-- ---- nodes taken away, or one put in

-- the nodes that are kept with their parents
module _ (nodes : List Node) (kept : ℕ → Bool) (each : AllByRecursion (λ (n : Node). kept n.serial ≡ true → kept n.parent ≡ true) nodes) where
  abbrev chosen : List Node
  chosen = filter (λ (n : Node). kept n.serial) nodes

  pub lineage_chosen : (x : ℕ) → kept x ≡ true → lineage chosen x ≡ lineage nodes x
  lineage_chosen x k =
      sym (upwards_kept kept (reverse nodes) x k (keeps_reversed kept nodes each) ∙ ap (λ rs. upwards rs x) (filter_reverse (λ (n : Node). kept n.serial) nodes))

  pub node_chosen : (x : ℕ) → kept x ≡ true → node_at chosen x ≡ node_at nodes x
  node_chosen x k = sym (find_within (λ (n : Node). n.serial == x) (λ (n : Node). kept n.serial) nodes (λ n t. ap kept (eqb-true n.serial x t) ∙ k))
