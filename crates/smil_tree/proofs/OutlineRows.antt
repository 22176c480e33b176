-- The rows of an outline, each made from that of the parent.
use Rattle.std.proofs.Common.{◌≡◌, refl, sym, ◌∙◌, ap, subst, ℕ, zero, suc, ◌+◌, ◌-◌, ◌<◌, ◌≤◌, List, [], ◌∷◌, ◌++◌, Option, Some, None, Bool, true, false, cond, length, take, drop, filter, arith}
use Rattle.std.specs.Prelude.{◌==◌, ◌&&◌, find, not, slice_get, unwrap_or, sum_by, reverse, option_and_then, option_map, is_some, IsSome}
use Rattle.std.specs.List.{list_any, position, AllByRecursion}
use Rattle.std.specs.Option.{option_copied}
use Rattle.std.specs.Borrow.{Bor}
use Rattle.std.proofs.lemmas.Bool.{or_parts, eqb-true, eq-eqb}
use Rattle.std.proofs.lemmas.List.{length-append, length-map, take-append-le, drop-append-le, length-drop}
use Rattle.std.proofs.Math.Seq.{drop-append_seam}
use Rattle.std.proofs.lemmas.List.Sums.{sum_by-cons, sum_by-append}
use Rattle.std.proofs.lemmas.List.Elements.{filter-append}
use Rattle.std.proofs.lemmas.Option.{slice_get-map, slice_get_within}
use Rattle.smil_model.specs.declared.limits.TheConstants.{NODES}
use Rattle.smil_model.specs.declared.document.Node.{Node}
use Rattle.smil_model.specs.declared.document.Restart.TheVariants.{Always}
use Rattle.smil_model.specs.declared.document.Restart.TheVariants as restart
use Rattle.smil_model.specs.declared.document.Fill.TheVariants.{Auto}
use Rattle.smil_model.specs.declared.document.Fill.TheVariants as fill
use Rattle.smil_model.specs.document.Document.{node_at, lineage, is_element, is_class_kind, elements, serials, serial_of, time_parent, time_children, has_serial, is_time_child}
use Rattle.smil_model.specs.document.Defaults.{default_restart, default_fill, restart_of, fill_of}
use Rattle.smil_model.specs.document.Edits.{place_in, child_place}
use Rattle.smil_model.specs.document.Valid.{IsValid, IsDistinct, IsNumberedTree}
use Rattle.smil_model.proofs.FirstPlaces.{position_cons}
use Rattle.smil_laws.specs.Edited.{IsOrdered}
use Rattle.smil_laws.proofs.AsideDocuments.{find_each, each_drop, each_reverse}
use Rattle.smil_laws.proofs.DescendantChains.{each_upwards}
use Rattle.smil_laws.proofs.LineageParents.{swap_eqb}
use Rattle.smil_laws.proofs.Lists.{take-more_at}
use Rattle.smil_laws.proofs.NumberedTrees.{ordered}
use Rattle.smil_laws.proofs.RoundsRest.{find-serial}
use Rattle.smil_tree.specs.declared.outline.Placed.{Placed}
use Rattle.smil_tree.specs.declared.outline.OutlineRow.{OutlineRow}
use Rattle.smil_tree.specs.declared.outline.Above.{Above}
use Rattle.smil_tree.specs.declared.outline.Outline.{Outline}
use Rattle.std.specs.Vec.{vec_capacity}
use Rattle.smil_tree.specs.Outline.{HasRoomFor, IsOutlineOf, parent_place, placed, IsRowOf, HasChildren, children_before, IsAbove, parent_from, default_restart_from, default_fill_from, own, restart_by, fill_by}
use Rattle.smil_tree.specs.Inherited.{own_restart, own_fill}
use Rattle.smil_tree.proofs.NodeFamilies.{above_of, no_chain, none_held, chain_longer, nearest_here, nearest_above, node_of_place}
use Rattle.smil_tree.proofs.DefaultsInherited.{from_none, from_node, restart_inherits, restart_given, own_restart_given, fill_inherits, fill_given, own_fill_given}
use Rattle.smil_tree.proofs.ChildSpans.{no_child_before, has_place, place_known, place_told, place_within, end_within}
use Rattle.smil_tree.proofs.ChildSpans.{node_of_place as node_there}
use Rattle.smil_tree.proofs.NodeSpans.{all_known, place_is}
use Rattle.smil_tree.proofs.KinCallers.{ordered_take}
use Rattle.smil_tree.proofs.KinLists.{filter_none}
use Rattle.smil_tree.proofs.IdOwners.{around}

-- ---- how many time children there are

no_sum : {A : Type 0} (xs : List A) → sum_by (λ (x : A). 0) xs ≡ 0
no_sum [] = refl
no_sum (x ∷ xs) = omega (arith, sum_by-cons (λ y. 0) x xs, no_sum xs)

-- those of a list that have the serial
others_none : (s : ℕ) (ms : List Node) → list_any (λ (m : Node). m.serial == s) ms ≡ false → sum_by (λ (m : Node). cond (s == m.serial) 1 0) ms ≡ 0
others_none s [] none = refl
others_none s (m ∷ ms) none =
    let parts = or_parts (m.serial == s) (list_any (λ (x : Node). x.serial == s) ms) none in
    let here : ◌≡◌ {A = ℕ} (cond (s == m.serial) 1 0) 0 = ap (λ t. cond t 1 0) (swap_eqb m.serial s parts.0) in
    omega (arith, sum_by-cons (λ (x : Node). cond (s == x.serial) 1 0) m ms, here, others_none s ms parts.1)

one_has : (s : ℕ) (ms : List Node) → IsDistinct ms → sum_by (λ (m : Node). cond (s == m.serial) 1 0) ms ≤ 1
one_has s [] d = omega arith
one_has s (m ∷ ms) d = step (s == m.serial) refl (one_has s ms d.1)
  where
    step : (t : Bool) → s == m.serial ≡ t → sum_by (λ (x : Node). cond (s == x.serial) 1 0) ms ≤ 1 → sum_by (λ (x : Node). cond (s == x.serial) 1 0) (m ∷ ms) ≤ 1
    step true e rest =
        let same : s ≡ m.serial = eqb-true s m.serial e in
        let none : sum_by (λ (x : Node). cond (s == x.serial) 1 0) ms ≡ 0 = others_none s ms (ap (λ k. list_any (λ (x : Node). x.serial == k) ms) same ∙ d.0) in
        let here : ◌≡◌ {A = ℕ} (cond (s == m.serial) 1 0) 1 = ap (λ t. cond t 1 0) e in
        omega (arith, sum_by-cons (λ (x : Node). cond (s == x.serial) 1 0) m ms, here, none)
    step false e rest =
        let here : ◌≡◌ {A = ℕ} (cond (s == m.serial) 1 0) 0 = ap (λ t. cond t 1 0) e in
        omega (arith, sum_by-cons (λ (x : Node). cond (s == x.serial) 1 0) m ms, here, rest)

one_parent : (b : Bool) (o : Option Node) (ms : List Node) → IsDistinct ms → sum_by (λ (m : Node). cond (b && has_serial m.serial o) 1 0) ms ≤ 1
one_parent false o ms d = omega (arith, no_sum ms)
one_parent true None ms d = omega (arith, no_sum ms)
one_parent true (Some p) ms d = one_has p.serial ms d

module _ (t : Node → Node → Bool) where
  abbrev passing : List Node → Node → ℕ
  passing ns m = length (filter (t m) ns)

  sum_more : (n : Node) (ns ms : List Node) → sum_by (passing (n ∷ ns)) ms ≡ sum_by (λ (m : Node). cond (t m n) 1 0) ms + sum_by (passing ns) ms
  sum_more n ns [] = refl
  sum_more n ns (m ∷ ms) =
      omega (
        arith,
        sum_by-cons (passing (n ∷ ns)) m ms,
        sum_by-cons (λ (x : Node). cond (t x n) 1 0) m ms,
        sum_by-cons (passing ns) m ms,
        sum_more n ns ms,
        by_test (t m n),
      )
    where
      by_test : (b : Bool) → length (cond b (n ∷ filter (t m) ns) (filter (t m) ns)) ≡ cond b 1 0 + length (filter (t m) ns)
      by_test true = omega arith
      by_test false = omega arith

  -- where each passes for at most one of some, they have no more together than there are
  few_pass : (ms ns : List Node) → ((n : Node) → sum_by (λ (m : Node). cond (t m n) 1 0) ms ≤ 1) → sum_by (passing ns) ms ≤ length ns
  few_pass ms [] one = omega (arith, no_sum ms)
  few_pass ms (n ∷ ns) one = omega (arith, sum_more n ns ms, one n, few_pass ms ns one)

pub few_children : (nodes : List Node) (place : ℕ) → IsOrdered nodes → children_before nodes place ≤ length nodes
few_children nodes place o =
    few_pass (λ (m n : Node). is_time_child nodes m.serial n) (take place nodes) nodes
    (λ n. one_parent (is_element n) (time_parent nodes n.serial) (take place nodes) ((ordered_take nodes place o).distinct))

pub children_more : (nodes : List Node) (place : ℕ) (n : Node) → slice_get nodes place ≡ Some n → children_before nodes (place + 1) ≡ children_before nodes place + length (serials (time_children nodes n.serial))
children_more nodes place n at =
    let many : Node → ℕ = λ (m : Node). length (time_children nodes m.serial) in
    ap (sum_by (λ (m : Node). length (time_children nodes m.serial))) (take-more_at nodes place n at)
    ∙ omega (arith, sum_by-append (λ (m : Node). length (time_children nodes m.serial)) (take place nodes) (n ∷ []), sum_by-cons (λ (m : Node). length (time_children nodes m.serial)) n [], length-map (time_children nodes n.serial) (λ (m : Node). m.serial))

-- ---- the elements before a place

pub elements_more : (nodes : List Node) (place : ℕ) (n : Node) → slice_get nodes place ≡ Some n → elements (take (place + 1) nodes) ≡ elements (take place nodes) ++ cond (is_element n) (n ∷ []) []
elements_more nodes place n at =
    ap elements (take-more_at nodes place n at) ∙ filter-append is_element (take place nodes) (n ∷ [])

few_passing : (t : Node → Bool) (ns : List Node) → length (filter t ns) ≤ length ns
few_passing t [] = omega arith
few_passing t (n ∷ ns) = by_test (t n) (few_passing t ns)
  where
    by_test : (b : Bool) → length (filter t ns) ≤ length ns → length (cond b (n ∷ filter t ns) (filter t ns)) ≤ suc (length ns)
    by_test true rest = omega arith
    by_test false rest = omega arith

taken_short : {A : Type 0} (k : ℕ) (xs : List A) → length (take k xs) ≤ k
taken_short zero xs = omega arith
taken_short (suc k) [] = omega arith
taken_short (suc k) (x ∷ xs) = omega (arith, taken_short k xs)

-- fewer elements than nodes stand before a place
pub few_elements : (nodes : List Node) (place : ℕ) → length (serials (elements (take place nodes))) ≤ place
few_elements nodes place =
    omega (arith, length-map (elements (take place nodes)) (λ (n : Node). n.serial), few_passing is_element (take place nodes), taken_short place nodes)

pub serial_if : (b : Bool) (n : Node) → serials (cond b (n ∷ []) []) ≡ cond b (n.serial ∷ []) []
serial_if true n = refl
serial_if false n = refl

-- ---- rows

pub all_taken : {A : Type 0} (xs : List A) → take (length xs) xs ≡ xs
all_taken [] = refl
all_taken (x ∷ xs) = ap (λ l. x ∷ l) (all_taken xs)

-- a row stays that of its node where the list of time children grows
pub children_longer : (nodes : List Node) (xs ys : List ℕ) (n : Node) (row : OutlineRow) → HasChildren nodes xs n row → HasChildren nodes (xs ++ ys) n row
children_longer nodes xs ys n row has = record {
  in_order = has.in_order;
  within = omega (arith, has.within, length-append xs ys);
  listed =
      ap (take (row.children_end - row.children_start)) (drop-append-le row.children_start xs ys (omega (arith, has.in_order, has.within)))
      ∙ take-append-le (row.children_end - row.children_start) (drop row.children_start xs) ys (omega (arith, has.in_order, has.within, length-drop row.children_start xs))
      ∙ has.listed;
}

-- the row behind the others
pub children_last : (nodes : List Node) (xs : List ℕ) (n : Node) (row : OutlineRow) → row.children_start ≡ length xs → row.children_end ≡ length xs + length (serials (time_children nodes n.serial)) → HasChildren nodes (xs ++ serials (time_children nodes n.serial)) n row
children_last nodes xs n row start end =
    let ys = serials (time_children nodes n.serial) in
    record {
      in_order = omega (arith, start, end);
      within = omega (arith, end, length-append xs (serials (time_children nodes n.serial)));
      listed =
          ap (λ k. take (row.children_end - k) (drop k (xs ++ serials (time_children nodes n.serial)))) start
          ∙ ap (take (row.children_end - length xs)) (drop-append_seam xs (serials (time_children nodes n.serial)))
          ∙ ap (λ k. take k (serials (time_children nodes n.serial))) (omega (arith, end))
          ∙ all_taken (serials (time_children nodes n.serial));
    }

-- of one more, each that stands at a place is one of those before, or the last
pub data Either {A : Type 0} (xs : List A) (x : A) (k : ℕ) (y : A) : Type 0 where
  earlier : slice_get xs k ≡ Some y → Either xs x k y
  last : k ≡ length xs → y ≡ x → Either xs x k y

pub pushed_at : {A : Type 0} (xs : List A) (x : A) (k : ℕ) (y : A) → slice_get (xs ++ x ∷ []) k ≡ Some y → Either xs x k y
pushed_at [] x zero y at = let same : x ≡ y = cc in last refl (sym same)
pushed_at [] x (suc k) y at = cc
pushed_at (z ∷ xs) x zero y at = earlier at
pushed_at (z ∷ xs) x (suc k) y at = more (pushed_at xs x k y at)
  where
    more : Either xs x k y → Either (z ∷ xs) x (suc k) y
    more (earlier e) = earlier e
    more (last e f) = last (ap suc e) f

-- what stands at a place below the length
pub there : {A : Type 0} (xs : List A) (k : ℕ) → k < length xs → (x : A) × (slice_get xs k ≡ Some x)
there [] k within = absurd (omega arith)
there (x ∷ xs) zero within = (x, refl)
there (x ∷ xs) (suc k) within = there xs k (omega arith)

pub lent_there : {A : Type 0} (r : Option (Bor A)) (x : A) → option_copied r ≡ Some x → IsSome r
lent_there None x e = cc
lent_there (Some y) x e = refl

no_index_all : (s : ℕ) (ns : List Node) → list_any (λ (m : Node). m.serial == s) ns ≡ false → position (λ (m : Node). m.serial == s) ns ≡ None
no_index_all s [] none = refl
no_index_all s (n ∷ ns) none =
    let parts = or_parts (n.serial == s) (list_any (λ (m : Node). m.serial == s) ns) none in
    position_cons (λ (m : Node). m.serial == s) n ns ∙ ap (λ b. cond b (Some 0) (option_map suc (position (λ (m : Node). m.serial == s) ns))) parts.0 ∙ ap (option_map suc) (no_index_all s ns parts.1)

-- ---- by the row of the parent

module _ (nodes : List Node) (next : ℕ) (valid : IsValid (record { nodes = nodes; next = next })) where
  o : IsOrdered nodes
  o = ordered (record { nodes = nodes; next = next }) valid.numbered

  pub known_at : (place : ℕ) (n : Node) → slice_get nodes place ≡ Some n → node_at nodes n.serial ≡ Some n
  known_at place n at = node_of_place nodes place n o.distinct at

  -- the parent where it is an element, or else its time parent
  parent_by : (n p : Node) (above : Above) → node_at nodes n.serial ≡ Some n → node_at nodes n.parent ≡ Some p → above.place ≡ place_in nodes n.parent → IsRowOf nodes above.place p above.row → (t : Bool) → is_class_kind p.kind ≡ t → parent_from (Some above) n.parent ≡ placed nodes (time_parent nodes n.serial)
  parent_by n p above at found place row true e =
      ap (λ k. cond (is_class_kind k) above.row.parent (Some (record { place = above.place; serial = n.parent }))) row.kind
      ∙ ap (λ b. cond b above.row.parent (Some (record { place = above.place; serial = n.parent }))) e
      ∙ row.parent
      ∙ ap (λ c. placed nodes (find is_element c)) (above_of nodes o p.serial p (ap (node_at nodes) (find-serial n.parent nodes p found) ∙ found))
      ∙ ap (placed nodes) (sym (nearest_above nodes o n.parent p found (ap not e)))
      ∙ ap (λ c. placed nodes (find is_element c)) (sym (above_of nodes o n.serial n at))
  parent_by n p above at found place row false e =
      let own_serial : p.serial ≡ n.parent = find-serial n.parent nodes p found in
      ap (λ k. cond (is_class_kind k) above.row.parent (Some (record { place = above.place; serial = n.parent }))) row.kind
      ∙ ap (λ b. cond b above.row.parent (Some (record { place = above.place; serial = n.parent }))) e
      ∙ ap (λ k. Some (record { place = k; serial = n.parent })) place
      ∙ ap (λ k. Some (record { place = place_in nodes k; serial = k })) (sym own_serial)
      ∙ ap (placed nodes) (sym (nearest_here nodes o n.parent p found (ap not e)))
      ∙ ap (λ c. placed nodes (find is_element c)) (sym (above_of nodes o n.serial n at))

  pub parent_is : (n : Node) (above : Option Above) → node_at nodes n.serial ≡ Some n → IsAbove nodes n.parent above → parent_from above n.parent ≡ placed nodes (time_parent nodes n.serial)
  parent_is n None at is =
      ap (λ c. placed nodes (find is_element c)) (sym (above_of nodes o n.serial n at ∙ no_chain nodes n.parent is))
  parent_is n (Some above) at is = parent_by n is.0 above at is.1 is.2 is.3 (is_class_kind is.0.kind) refl

  pub default_restart_is : (n : Node) (above : Option Above) → node_at nodes n.serial ≡ Some n → IsAbove nodes n.parent above → unwrap_or (own restart_by n) (default_restart_from above) ≡ default_restart nodes n.serial
  default_restart_is n above at is =
      ap (unwrap_or (own restart_by n)) (upper above is) ∙ sym (from_node restart_by Always nodes o n.serial n at)
    where
      upper : (a : Option Above) → IsAbove nodes n.parent a → default_restart_from a ≡ default_restart nodes n.parent
      upper None none = sym (from_none restart_by Always nodes n.parent none)
      upper (Some a) found = found.3.default_restart ∙ ap (default_restart nodes) (find-serial n.parent nodes found.0 found.1)

  pub default_fill_is : (n : Node) (above : Option Above) → node_at nodes n.serial ≡ Some n → IsAbove nodes n.parent above → unwrap_or (own fill_by n) (default_fill_from above) ≡ default_fill nodes n.serial
  default_fill_is n above at is =
      ap (unwrap_or (own fill_by n)) (upper above is) ∙ sym (from_node fill_by Auto nodes o n.serial n at)
    where
      upper : (a : Option Above) → IsAbove nodes n.parent a → default_fill_from a ≡ default_fill nodes n.parent
      upper None none = sym (from_none fill_by Auto nodes n.parent none)
      upper (Some a) found = found.3.default_fill ∙ ap (default_fill nodes) (find-serial n.parent nodes found.0 found.1)

  -- a parent stands before its child
  pub parent_first : (place : ℕ) (n p : Node) → slice_get nodes place ≡ Some n → node_at nodes n.parent ≡ Some p → place_in nodes n.parent < place
  parent_first place n p at found =
      let a = around (λ attrs. attrs) n.parent nodes p o.distinct found in
      let own_serial : p.serial ≡ n.parent = find-serial n.parent nodes p found in
      let first : place_in nodes n.parent ≡ length a.front = ap (place_in nodes) (sym own_serial) ∙ place_is nodes next valid.numbered a.front p a.back a.before in
      let longer = chain_longer nodes o n.serial n (known_at place n at) in
      let apart : p ≡ n → ⊥ = λ q. let loop : n.serial ≡ n.parent = ap (λ (m : Node). m.serial) (sym q) ∙ own_serial in absurd (omega (arith, longer, ap (λ s. length (lineage nodes s)) loop)) in
      omega (arith, first, behind_all p.serial a.front p n a.back place (no_child_before nodes next valid.numbered a.front p a.back a.before) (ap (λ ns. slice_get ns place) (sym a.before) ∙ at) (sym own_serial) apart)
    where
      behind_all : (s : ℕ) (front : List Node) (p n : Node) (back : List Node) (k : ℕ) → AllByRecursion (λ (m : Node). m.parent == s ≡ false) front → slice_get (front ++ p ∷ back) k ≡ Some n → n.parent ≡ s → (p ≡ n → ⊥) → length front < k
      behind_all s [] p n back zero each here child apart = absurd (apart cc)
      behind_all s [] p n back (suc k) each here child apart = omega arith
      behind_all s (m ∷ front) p n back zero each here child apart =
          let same : m ≡ n = cc in
          let is_child : m.parent == s ≡ true = eq-eqb m.parent s (ap (λ (x : Node). x.parent) same ∙ child) in
          let none : m.parent == s ≡ false = each.0 in
          cc
      behind_all s (m ∷ front) p n back (suc k) each here child apart = omega (arith, behind_all s front p n back k each.1 here child apart)

  pub parent_last : (n p : Node) → node_at nodes n.parent ≡ Some p → slice_get nodes (place_in nodes n.parent) ≡ Some p
  parent_last n p found = node_there nodes next valid.numbered n.parent p found

  pub absent : (s : ℕ) → position (λ (m : Node). m.serial == s) nodes ≡ None → node_at nodes s ≡ None
  absent s none = by_node (node_at nodes s) refl
    where
      by_node : (q : Option Node) → node_at nodes s ≡ q → node_at nodes s ≡ None
      by_node None e = e
      by_node (Some p) e = let there : is_some (position (λ (m : Node). m.serial == s) nodes) ≡ true = has_place nodes next valid.numbered s (ap is_some e) in cc

  pub no_parent : (n : Node) (q : Option ℕ) → q ≡ position (λ (m : Node). m.serial == n.parent) nodes → q ≡ None → node_at nodes n.parent ≡ None
  no_parent n q is none = absent n.parent (sym is ∙ none)

  -- the parent of the node at a place
  pub record Parent (child at : ℕ) (n : Node) : Type 0 where
    pub node : Node
    pub known : node_at nodes n.parent ≡ Some node
    pub place : at ≡ place_in nodes n.parent
    pub before : at < child
    pub there : slice_get nodes at ≡ Some node

  pub parent_told : (place at : ℕ) (n : Node) → slice_get nodes place ≡ Some n → position (λ (m : Node). m.serial == n.parent) nodes ≡ Some at → Parent place at n
  parent_told place at n here found = by_node (node_at nodes n.parent) refl
    where
      by_node : (q : Option Node) → node_at nodes n.parent ≡ q → Parent place at n
      by_node None e = absurd (let none = no_index_all n.parent nodes (none_held n.parent nodes e) in cc)
      by_node (Some p) e =
          let is : at ≡ place_in nodes n.parent = place_told nodes next valid.numbered n.parent at (ap is_some e) (sym found) in
          record {
            node = p;
            known = e;
            place = is;
            before = omega (arith, is, parent_first place n p here e);
            there = ap (slice_get nodes) is ∙ parent_last n p e;
          }

  pub few_past : (place : ℕ) (n : Node) → slice_get nodes place ≡ Some n → child_place nodes n.serial None ≤ NODES
  few_past place n at = omega (arith, (end_within nodes next valid.numbered n.serial (ap is_some (known_at place n at))).1, valid.nodes)

  pub few_at : (place : ℕ) (n : Node) → slice_get nodes place ≡ Some n → length (serials (elements (take place nodes))) ≤ NODES
  few_at place n at = omega (arith, few_elements nodes place, slice_get_within nodes place n at, valid.nodes)

  pub few_before : (place : ℕ) → children_before nodes place ≤ NODES
  few_before place = omega (arith, few_children nodes place o, valid.nodes)

-- ---- the elements by their indices

none_each : (t : Node → Bool) (ns : List Node) → list_any t ns ≡ false → AllByRecursion (λ (n : Node). t n ≡ false) ns
none_each t [] none = tt
none_each t (n ∷ ns) none = let parts = or_parts (t n) (list_any t ns) none in (parts.0, none_each t ns parts.1)

-- what no node has is no element's
pub no_index : (s : ℕ) (ns : List Node) → list_any (λ (m : Node). m.serial == s) ns ≡ false → position (λ (m : Node). m.serial == s) (elements ns) ≡ None
no_index s [] none = refl
no_index s (n ∷ ns) none =
    let parts = or_parts (n.serial == s) (list_any (λ (m : Node). m.serial == s) ns) none in
    by_test parts.0 (no_index s ns parts.1) (is_element n)
  where
    by_test : n.serial == s ≡ false → position (λ (m : Node). m.serial == s) (elements ns) ≡ None → (t : Bool) → position (λ (m : Node). m.serial == s) (cond t (n ∷ elements ns) (elements ns)) ≡ None
    by_test other rest true = position_cons (λ (m : Node). m.serial == s) n (elements ns) ∙ ap (λ b. cond b (Some 0) (option_map suc (position (λ (m : Node). m.serial == s) (elements ns)))) other ∙ ap (option_map suc) rest
    by_test other rest false = rest

-- the node at a place further on is another
other_at : (m : Node) (ns : List Node) (k : ℕ) (n : Node) → list_any (λ (x : Node). x.serial == m.serial) ns ≡ false → slice_get ns k ≡ Some n → m.serial == n.serial ≡ false
other_at m [] k n none at = cc
other_at m (x ∷ xs) zero n none at = let one : x ≡ n = cc in swap_eqb n.serial m.serial (ap (λ (y : Node). y.serial == m.serial) (sym one) ∙ (or_parts _ _ none).0)
other_at m (x ∷ xs) (suc k) n none at = other_at m xs k n ((or_parts (x.serial == m.serial) (list_any (λ (y : Node). y.serial == m.serial) xs) none).1) at

-- how many elements stand before an element is its index
pub index_is : (ns : List Node) (k : ℕ) (n : Node) → IsDistinct ns → slice_get ns k ≡ Some n → is_element n ≡ true → position (λ (m : Node). m.serial == n.serial) (elements ns) ≡ Some (length (elements (take k ns)))
index_is [] k n d at e = cc
index_is (m ∷ ns) zero n d at e =
    let one : m ≡ n = cc in
    ap (λ b. position (λ (x : Node). x.serial == n.serial) (cond b (m ∷ elements ns) (elements ns))) (ap is_element one ∙ e)
    ∙ position_cons (λ (x : Node). x.serial == n.serial) m (elements ns)
    ∙ ap (λ b. cond b (Some 0) (option_map suc (position (λ (x : Node). x.serial == n.serial) (elements ns)))) (eq-eqb m.serial n.serial (ap (λ (x : Node). x.serial) one))
index_is (m ∷ ns) (suc k) n d at e = by_test (other_at m ns k n d.0 at) (index_is ns k n d.1 at e) (is_element m)
  where
    by_test : m.serial == n.serial ≡ false → position (λ (x : Node). x.serial == n.serial) (elements ns) ≡ Some (length (elements (take k ns))) → (t : Bool) → position (λ (x : Node). x.serial == n.serial) (cond t (m ∷ elements ns) (elements ns)) ≡ Some (length (cond t (m ∷ elements (take k ns)) (elements (take k ns))))
    by_test other rest true = position_cons (λ (x : Node). x.serial == n.serial) m (elements ns) ∙ ap (λ b. cond b (Some 0) (option_map suc (position (λ (x : Node). x.serial == n.serial) (elements ns)))) other ∙ ap (option_map suc) rest
    by_test other rest false = rest

pub class_has_none : (ns : List Node) (k : ℕ) (n : Node) → IsDistinct ns → slice_get ns k ≡ Some n → is_element n ≡ false → position (λ (m : Node). m.serial == n.serial) (elements ns) ≡ None
class_has_none [] k n d at e = cc
class_has_none (m ∷ ns) zero n d at e =
    let one : m ≡ n = cc in
    ap (λ b. position (λ (x : Node). x.serial == n.serial) (cond b (m ∷ elements ns) (elements ns))) (ap is_element one ∙ e)
    ∙ no_index n.serial ns (ap (λ (x : Node). list_any (λ (y : Node). y.serial == x.serial) ns) (sym one) ∙ d.0)
class_has_none (m ∷ ns) (suc k) n d at e = by_test (other_at m ns k n d.0 at) (class_has_none ns k n d.1 at e) (is_element m)
  where
    by_test : m.serial == n.serial ≡ false → position (λ (x : Node). x.serial == n.serial) (elements ns) ≡ None → (t : Bool) → position (λ (x : Node). x.serial == n.serial) (cond t (m ∷ elements ns) (elements ns)) ≡ None
    by_test other rest true = position_cons (λ (x : Node). x.serial == n.serial) m (elements ns) ∙ ap (λ b. cond b (Some 0) (option_map suc (position (λ (x : Node). x.serial == n.serial) (elements ns)))) other ∙ ap (option_map suc) rest
    by_test other rest false = rest

pub element_is : (nodes : List Node) (xs : List ℕ) (index : ℕ) → xs ≡ serials (elements (take (length nodes) nodes)) → slice_get xs index ≡ serial_of (slice_get (elements nodes) index)
element_is nodes xs index is =
    ap (λ ys. slice_get ys index) (is ∙ ap (λ ns. serials (elements ns)) (all_taken nodes)) ∙ slice_get-map (λ (n : Node). n.serial) (elements nodes) index

-- ---- what no node has has no time children

every : (P : Node → Type 0) (ns : List Node) → ((n : Node) → P n) → AllByRecursion P ns
every P [] all = tt
every P (n ∷ ns) all = (all n, every P ns all)

pub no_time_children : (nodes : List Node) (s : ℕ) → node_at nodes s ≡ None → serials (time_children nodes s) ≡ []
no_time_children nodes s none =
    ap serials (filter_none (is_time_child nodes s) nodes (every (λ (n : Node). is_time_child nodes s n ≡ false) nodes (λ n. no_child n (is_element n) (time_parent nodes n.serial) refl)))
  where
    others : AllByRecursion (λ (m : Node). m.serial == s ≡ false) nodes
    others = none_each (λ (m : Node). m.serial == s) nodes (none_held s nodes none)

    no_child : (n : Node) (t : Bool) (q : Option Node) → time_parent nodes n.serial ≡ q → (t && has_serial s q) ≡ false
    no_child n false q e = refl
    no_child n true None e = refl
    no_child n true (Some p) e =
        find_each (λ (m : Node). m.serial == s ≡ false) is_element (drop 1 (lineage nodes n.serial)) p
        (each_drop (λ (m : Node). m.serial == s ≡ false) 1 (lineage nodes n.serial) (each_upwards (λ (m : Node). m.serial == s ≡ false) (reverse nodes) n.serial (each_reverse (λ (m : Node). m.serial == s ≡ false) nodes others)))
        e

-- ---- no restart and no fill that holds is `default`

never_default : {A : Type 0} (bad : A) (r : Option A) (d : A) → (r ≡ Some bad → ⊥) → (d ≡ bad → ⊥) → unwrap_or r d ≡ bad → ⊥
never_default bad None d own default q = default q
never_default bad (Some x) d own default q = own (ap Some q)

pub restart_never : (nodes : List Node) (n : Node) → restart_of nodes n ≡ restart.ByDefault → ⊥
restart_never nodes n q =
    never_default restart.ByDefault (own_restart n.attrs.restart) (default_restart nodes n.serial) (own_restart_given n.attrs.restart) (restart_given nodes n.serial) (sym (restart_inherits.split nodes n) ∙ q)

pub fill_never : (nodes : List Node) (n : Node) → fill_of nodes n ≡ fill.ByDefault → ⊥
fill_never nodes n q =
    never_default fill.ByDefault (own_fill n.attrs.fill) (default_fill nodes n.serial) (own_fill_given n.attrs.fill) (fill_given nodes n.serial) (sym (fill_inherits.split nodes n) ∙ q)

-- ---- one row more

pub some_same : {x y : Node} → Some x ≡ Some y → x ≡ y
some_same e = cc

module _ (nodes : List Node) where
  abbrev pub RowsAre : List OutlineRow → List ℕ → Type 0
  RowsAre rows children =
      (k : ℕ) (n : Node) (row : OutlineRow) → slice_get nodes k ≡ Some n → slice_get rows k ≡ Some row → IsRowOf nodes k n row × HasChildren nodes children n row

  -- the rows so far, and that of the node behind them
  pub rows_more : (rows : List OutlineRow) (children news : List ℕ) (m : Node) (made : OutlineRow) → RowsAre rows children → slice_get nodes (length rows) ≡ Some m → IsRowOf nodes (length rows) m made → HasChildren nodes (children ++ news) m made → RowsAre (rows ++ made ∷ []) (children ++ news)
  rows_more rows children news m made so_far here is has = λ k n row at found. by_place k n row at (pushed_at rows made k row found)
    where
      by_place : (k : ℕ) (n : Node) (row : OutlineRow) → slice_get nodes k ≡ Some n → Either rows made k row → IsRowOf nodes k n row × HasChildren nodes (children ++ news) n row
      by_place k n row at (earlier found) = let both = so_far k n row at found in (both.0, children_longer nodes children news n row both.1)
      by_place k n row at (last place same) =
          let one : m ≡ n = some_same (sym here ∙ ap (slice_get nodes) (sym place) ∙ at) in
          subst (λ (r : OutlineRow). IsRowOf nodes k n r × HasChildren nodes (children ++ news) n r) (sym same)
          (subst (λ (x : Node). IsRowOf nodes k x made × HasChildren nodes (children ++ news) x made) one
          (subst (λ (j : ℕ). IsRowOf nodes j m made) (sym place) is, has))

-- with as much room the outline stays
pub outline_stays : (nodes : List Node) (old new : Outline) → new.rows.items ≡ old.rows.items → new.children.items ≡ old.children.items → new.elements.items ≡ old.elements.items → vec_capacity old.rows ≤ vec_capacity new.rows → vec_capacity old.children ≤ vec_capacity new.children → vec_capacity old.elements ≤ vec_capacity new.elements → IsOutlineOf nodes old → IsOutlineOf nodes new
outline_stays nodes old new rows children elements in_rows in_children in_elements begun = record {
  count = ap length rows ∙ begun.count;
  rows = subst (λ xs. RowsAre nodes xs new.children.items) (sym rows) (subst (λ ys. RowsAre nodes old.rows.items ys) (sym children) begun.rows);
  children = ap length children ∙ begun.children;
  elements = elements ∙ begun.elements;
  room = record {
    rows = omega (arith, begun.room.rows, in_rows);
    children = omega (arith, begun.room.children, in_children);
    elements = omega (arith, begun.room.elements, in_elements);
  };
}

-- another outline with the same items, and room for as many
pub outline_copied : (nodes : List Node) (old new : Outline) → new.rows.items ≡ old.rows.items → new.children.items ≡ old.children.items → new.elements.items ≡ old.elements.items → (count : ℕ) → count ≡ length old.rows.items → HasRoomFor new count → IsOutlineOf nodes old → IsOutlineOf nodes new
outline_copied nodes old new rows children elements count all room begun = record {
  count = ap length rows ∙ begun.count;
  rows = subst (λ xs. RowsAre nodes xs new.children.items) (sym rows) (subst (λ ys. RowsAre nodes old.rows.items ys) (sym children) begun.rows);
  children = ap length children ∙ begun.children;
  elements = elements ∙ begun.elements;
  room = subst (HasRoomFor new) (all ∙ begun.count) room;
}

-- ---- what a tree reads in its outline

module _ (nodes : List Node) (next : ℕ) (valid : IsValid (record { nodes = nodes; next = next })) (outline : Outline) (is : IsOutlineOf nodes outline) where
  -- the row of a node that was found
  pub record Found (s place : ℕ) : Type 0 where
    pub node : Node
    pub known : node_at nodes s ≡ Some node
    pub serial : node.serial ≡ s
    pub at : place ≡ place_in nodes s
    pub there : slice_get nodes place ≡ Some node
    pub within : place < length outline.rows.items
    pub row : OutlineRow
    pub read : slice_get outline.rows.items place ≡ Some row

  pub found_told : (s place : ℕ) → position (λ (m : Node). m.serial == s) nodes ≡ Some place → Found s place
  found_told s place found = by_node (node_at nodes s) refl
    where
      by_node : (q : Option Node) → node_at nodes s ≡ q → Found s place
      by_node None e = absurd (let none = no_index_all s nodes (none_held s nodes e) in cc)
      by_node (Some p) e =
          let at : place ≡ place_in nodes s = place_told nodes next valid.numbered s place (ap is_some e) (sym found) in
          let within : place < length outline.rows.items = omega (arith, at, place_within nodes next valid.numbered s (ap is_some e), is.count) in
          let row = there outline.rows.items place within in
          record {
            node = p;
            known = e;
            serial = find-serial s nodes p e;
            at = at;
            there = ap (slice_get nodes) at ∙ node_there nodes next valid.numbered s p e;
            within = within;
            row = row.0;
            read = row.1;
          }

  pub row_is : (s place : ℕ) (row : OutlineRow) (found : Found s place) → slice_get outline.rows.items place ≡ Some row → IsRowOf nodes (place_in nodes s) found.node row
  row_is s place row found read = subst (λ k. IsRowOf nodes k found.node row) found.at (is.rows place found.node row found.there read).0

  pub no_element : (s : ℕ) → position (λ (m : Node). m.serial == s) nodes ≡ None → position (λ (m : Node). m.serial == s) (elements nodes) ≡ None
  no_element s none = no_index s nodes (none_held s nodes (absent nodes next valid s none))

  pub element_told : (s place : ℕ) (row : OutlineRow) (found : Found s place) → slice_get outline.rows.items place ≡ Some row → not (is_class_kind row.kind) ≡ true → position (λ (m : Node). m.serial == s) (elements nodes) ≡ Some row.index
  element_told s place row found read e =
      let own = (is.rows place found.node row found.there read).0 in
      subst (λ k. position (λ (m : Node). m.serial == k) (elements nodes) ≡ Some row.index) found.serial
      (index_is nodes place found.node valid.numbered.distinct found.there (ap (λ k. not (is_class_kind k)) (sym own.kind) ∙ e) ∙ ap Some (sym own.index))

  pub class_told : (s place : ℕ) (row : OutlineRow) (found : Found s place) → slice_get outline.rows.items place ≡ Some row → not (is_class_kind row.kind) ≡ false → position (λ (m : Node). m.serial == s) (elements nodes) ≡ None
  class_told s place row found read e =
      let own = (is.rows place found.node row found.there read).0 in
      subst (λ k. position (λ (m : Node). m.serial == k) (elements nodes) ≡ None) found.serial
      (class_has_none nodes place found.node valid.numbered.distinct found.there (ap (λ k. not (is_class_kind k)) (sym own.kind) ∙ e))

-- the serial of a time parent that is kept with its place
pub parent_serial : (nodes : List Node) (q : Option Node) (p : Option Placed) → p ≡ placed nodes q → option_map (λ (x : Placed). x.serial) p ≡ serial_of q
parent_serial nodes None p e = ap (option_map (λ (x : Placed). x.serial)) e
parent_serial nodes (Some n) p e = ap (option_map (λ (x : Placed). x.serial)) e

-- the place of a time parent that is kept with its serial
pub parent_placed : (nodes : List Node) (next : ℕ) → IsNumberedTree (record { nodes = nodes; next = next }) → (s : ℕ) (p : Option Placed) → p ≡ placed nodes (time_parent nodes s) → option_map (λ (x : Placed). x.place) p ≡ parent_place nodes s
parent_placed nodes next numbered s p e = ap (option_map (λ (x : Placed). x.place)) e ∙ by_parent (time_parent nodes s) refl
  where
    each : AllByRecursion (λ (n : Node). node_at nodes n.serial ≡ Some n) (drop 1 (lineage nodes s))
    each =
        each_drop (λ (n : Node). node_at nodes n.serial ≡ Some n) 1 (lineage nodes s)
        (each_upwards (λ (n : Node). node_at nodes n.serial ≡ Some n) (reverse nodes) s
        (each_reverse (λ (n : Node). node_at nodes n.serial ≡ Some n) nodes (all_known nodes next numbered)))

    by_parent : (q : Option Node) → time_parent nodes s ≡ q → option_map (λ (x : Placed). x.place) (placed nodes q) ≡ option_and_then (λ (n : Node). position (λ (m : Node). m.serial == n.serial) nodes) q
    by_parent None is = refl
    by_parent (Some n) is =
        sym (place_known nodes next numbered n.serial n (find_each (λ (m : Node). node_at nodes m.serial ≡ Some m) is_element (drop 1 (lineage nodes s)) n each is))
