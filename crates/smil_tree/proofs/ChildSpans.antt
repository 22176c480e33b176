-- The children of a node stand behind it, and the span of a node ends with that of the last.
use Rattle.std.proofs.Common.{◌≡◌, refl, sym, ◌∙◌, ap, subst, ℕ, zero, suc, ◌+◌, ◌-◌, ◌<◌, ◌≤◌, List, [], ◌∷◌, ◌++◌, Some, None, Bool, true, false, cond, length, filter, arith, append_assoc}
use Rattle.std.specs.Prelude.{◌==◌, reverse, slice_get, slice_range, is_some, IsSome, nat_lt}
use Rattle.std.specs.List.{position, position_or_len, AllByRecursion}
use Rattle.std.proofs.lemmas.Bool.{eqb-true, lt-ltb}
use Rattle.std.proofs.lemmas.List.{length-append, reverse-reverse}
use Rattle.std.proofs.lemmas.List.Elements.{filter-append}
use Rattle.smil_model.specs.declared.document.Node.{Node}
use Rattle.smil_model.specs.document.Document.{Document, node_at, descendants, is_within, serials}
use Rattle.smil_model.specs.document.Valid.{IsNumberedTree}
use Rattle.smil_model.specs.document.Edits.{children, place_in, child_place}
use Rattle.smil_model.specs.ListTables.{list_in}
use Rattle.smil_laws.specs.Locality.{ParentsBefore}
use Rattle.smil_laws.specs.Edited.{IsOrdered}
use Rattle.smil_laws.proofs.NumberedTrees.{ordered}
use Rattle.smil_laws.proofs.AsideDocuments.{each_reverse, find_true}
use Rattle.smil_laws.proofs.Lists.{reverse-around}
use Rattle.smil_tree.specs.Kin.{Families, IsKinOf}
use Rattle.smil_tree.proofs.AttributesChanged.{some_node}
use Rattle.smil_tree.proofs.IdOwners.{around}
use Rattle.smil_tree.proofs.ListCuts.{get_seam}
use Rattle.smil_tree.proofs.KinLists.{none_pass, filter_none}
use Rattle.smil_tree.proofs.KinCallers.{parents_right, none_of}
use Rattle.smil_tree.proofs.OpenLineage.{spanned_within}
use Rattle.smil_tree.proofs.NodeSpans.{spot, first_place, place_is, end_is, span_is, below_span, stack_of, end_childless, end_of_last}

-- ---- those that pass

-- one that passes, and what stands before and behind it
pub record PassesTest (t : Node → Bool) (ns : List Node) (c : Node) : Type 0 where
  pub front : List Node
  pub back : List Node
  pub is : ns ≡ front ++ c ∷ back
  pub passes : t c ≡ true

pub passing_at : (t : Node → Bool) (ns : List Node) (k : ℕ) (c : Node) → slice_get (filter t ns) k ≡ Some c → PassesTest t ns c
passing_at t [] k c at = cc
passing_at t (n ∷ ns) k c at = step (t n) refl at (λ i. passing_at t ns i c)
  where
    later : PassesTest t ns c → PassesTest t (n ∷ ns) c
    later p = record { front = n ∷ p.front; back = p.back; is = ap (λ ms. n ∷ ms) p.is; passes = p.passes }

    here : (i : ℕ) → t n ≡ true → slice_get (n ∷ filter t ns) i ≡ Some c → ((j : ℕ) → slice_get (filter t ns) j ≡ Some c → PassesTest t ns c) → PassesTest t (n ∷ ns) c
    here zero e r rest = let one : n ≡ c = cc in record { front = []; back = ns; is = ap (λ m. m ∷ ns) one; passes = ap t (sym one) ∙ e }
    here (suc i) e r rest = later (rest i r)

    step : (b : Bool) → t n ≡ b → slice_get (cond b (n ∷ filter t ns) (filter t ns)) k ≡ Some c → ((j : ℕ) → slice_get (filter t ns) j ≡ Some c → PassesTest t ns c) → PassesTest t (n ∷ ns) c
    step true e r rest = here k e r rest
    step false e r rest = later (rest k r)

-- the last that passes
pub record LastPassing (t : Node → Bool) (ns : List Node) (c : Node) : Type 0 where
  pub front : List Node
  pub back : List Node
  pub is : ns ≡ front ++ c ∷ back
  pub passes : t c ≡ true
  pub others : AllByRecursion (λ (n : Node). t n ≡ false) back

pub passing_last : (t : Node → Bool) (ns cs : List Node) (c : Node) → filter t ns ≡ cs ++ c ∷ [] → LastPassing t ns c
passing_last t [] [] c is = cc
passing_last t [] (d ∷ cs) c is = cc
passing_last t (n ∷ ns) cs c is = step (t n) refl is (λ ds. passing_last t ns ds c)
  where
    later : LastPassing t ns c → LastPassing t (n ∷ ns) c
    later p = record { front = n ∷ p.front; back = p.back; is = ap (λ ms. n ∷ ms) p.is; passes = p.passes; others = p.others }

    here : (ds : List Node) → t n ≡ true → n ∷ filter t ns ≡ ds ++ c ∷ [] → ((es : List Node) → filter t ns ≡ es ++ c ∷ [] → LastPassing t ns c) → LastPassing t (n ∷ ns) c
    here [] e r before =
        let one : n ≡ c = cc in
        let none : filter t ns ≡ [] = cc in
        record { front = []; back = ns; is = ap (λ m. m ∷ ns) one; passes = ap t (sym one) ∙ e; others = none_pass t ns none }
    here (d ∷ ds) e r before = let rest : filter t ns ≡ ds ++ c ∷ [] = cc in later (before ds rest)

    step : (b : Bool) → t n ≡ b → cond b (n ∷ filter t ns) (filter t ns) ≡ cs ++ c ∷ [] → ((es : List Node) → filter t ns ≡ es ++ c ∷ [] → LastPassing t ns c) → LastPassing t (n ∷ ns) c
    step true e r before = here cs e r before
    step false e r before = later (before cs r)

-- a serial of the list is that of a node of it
pub serial_at : (ns : List Node) (k s : ℕ) → slice_get (serials ns) k ≡ Some s → (c : Node) × (slice_get ns k ≡ Some c) × (c.serial ≡ s)
serial_at [] k s at = cc
serial_at (n ∷ ns) zero s at = let one : n.serial ≡ s = cc in (n, refl, one)
serial_at (n ∷ ns) (suc k) s at = serial_at ns k s at

pub serial_none : (ns : List Node) (k : ℕ) → slice_get (serials ns) k ≡ None → slice_get ns k ≡ None
serial_none [] k at = refl
serial_none (n ∷ ns) zero at = cc
serial_none (n ∷ ns) (suc k) at = serial_none ns k at

-- ---- a numbered tree

module _ (nodes : List Node) (next : ℕ) (numbered : IsNumberedTree (record { nodes = nodes; next = next })) where
  behind : (front : List Node) (x : Node) (back : List Node) → nodes ≡ front ++ x ∷ back → ParentsBefore (x ∷ reverse front)
  behind front x back is =
      let o : IsOrdered nodes = ordered (record { nodes = nodes; next = next }) numbered in
      parents_right (reverse back) (x ∷ reverse front) (subst ParentsBefore (ap reverse is ∙ reverse-around front x back) o.first)

  pub no_child_before : (front : List Node) (x : Node) (back : List Node) → nodes ≡ front ++ x ∷ back → AllByRecursion (λ (n : Node). n.parent == x.serial ≡ false) front
  no_child_before front x back is =
      subst (λ (ns : List Node). AllByRecursion (λ (n : Node). n.parent == x.serial ≡ false) ns) (reverse-reverse front)
      (each_reverse (λ (n : Node). n.parent == x.serial ≡ false) (reverse front) (none_of x.serial (reverse front) ((behind front x back is).1)))

  pub children_are : (front : List Node) (x : Node) (back : List Node) → nodes ≡ front ++ x ∷ back → children nodes x.serial ≡ children back x.serial
  children_are front x back is =
      ap (λ ns. children ns x.serial) is
      ∙ filter-append (λ (n : Node). n.parent == x.serial) front (x ∷ back)
      ∙ ap (λ ms. ms ++ children (x ∷ back) x.serial) (filter_none (λ (n : Node). n.parent == x.serial) front (no_child_before front x back is))
      ∙ ap (λ b. cond b (x ∷ children back x.serial) (children back x.serial)) ((behind front x back is).0)

  -- where a node has no child, its span ends behind it
  pub ends_alone : (s : ℕ) (x : Node) → node_at nodes s ≡ Some x → children nodes s ≡ [] → child_place nodes s None ≡ place_in nodes s + 1
  ends_alone s x at none =
      let a = around (λ attrs. attrs) s nodes x numbered.distinct at in
      let own : x.serial ≡ s = eqb-true x.serial s (find_true (λ (n : Node). n.serial == s) nodes x at) in
      let empty : children a.back x.serial ≡ [] = sym (children_are a.front x a.back a.before) ∙ ap (children nodes) own ∙ none in
      let end = end_childless nodes next numbered a.front x a.back a.before (none_pass (λ (n : Node). n.parent == x.serial) a.back empty) in
      subst (λ k. child_place nodes k None ≡ place_in nodes k + 1) own (omega (arith, end, place_is nodes next numbered a.front x a.back a.before))

  -- the last child, its place and its span
  pub record Last (s : ℕ) (c : Node) : Type 0 where
    pub known : node_at nodes c.serial ≡ Some c
    pub later : place_in nodes s < place_in nodes c.serial
    pub within : place_in nodes c.serial < length nodes
    pub same : child_place nodes s None ≡ child_place nodes c.serial None

  pub last_child : (s : ℕ) (x c : Node) (cs : List Node) → node_at nodes s ≡ Some x → children nodes s ≡ cs ++ c ∷ [] → Last s c
  last_child s x c cs at is =
      let a = around (λ attrs. attrs) s nodes x numbered.distinct at in
      let own : x.serial ≡ s = eqb-true x.serial s (find_true (λ (n : Node). n.serial == s) nodes x at) in
      let p = passing_last (λ (n : Node). n.parent == x.serial) a.back cs c (sym (children_are a.front x a.back a.before) ∙ ap (children nodes) own ∙ is) in
      let whole : nodes ≡ a.front ++ x ∷ (p.front ++ c ∷ p.back) = a.before ∙ ap (λ ms. a.front ++ x ∷ ms) p.is in
      let whole_c : nodes ≡ (a.front ++ x ∷ p.front) ++ c ∷ p.back = whole ∙ sym (append_assoc a.front (x ∷ p.front) (c ∷ p.back)) in
      let place_x = place_is nodes next numbered a.front x a.back a.before in
      let place_c = place_is nodes next numbered (a.front ++ x ∷ p.front) c p.back whole_c in
      let long = length-append a.front (x ∷ p.front) in
      let all = ap length whole_c ∙ length-append (a.front ++ x ∷ p.front) (c ∷ p.back) in
      subst (λ k. Last k c) own
      (record {
        known = (spot nodes next numbered (a.front ++ x ∷ p.front) c p.back whole_c).known;
        later = omega (arith, place_x, place_c, long);
        within = omega (arith, place_c, all);
        same = end_of_last nodes next numbered a.front x p.front c p.back whole (eqb-true c.parent x.serial p.passes) p.others;
      })

  -- a node's place
  pub place_known : (s : ℕ) (x : Node) → node_at nodes s ≡ Some x → position (λ (n : Node). n.serial == s) nodes ≡ Some (place_in nodes s)
  place_known s x at =
      let a = around (λ attrs. attrs) s nodes x numbered.distinct at in
      let own : x.serial ≡ s = eqb-true x.serial s (find_true (λ (n : Node). n.serial == s) nodes x at) in
      let first : position_or_len (λ (n : Node). n.serial == x.serial) nodes ≡ length a.front = ap (position_or_len (λ (n : Node). n.serial == x.serial)) a.before ∙ first_place a.front x a.back ((spot nodes next numbered a.front x a.back a.before).before) in
      let all = ap length a.before ∙ length-append a.front (x ∷ a.back) in
      let short : nat_lt (length a.front) (length nodes) ≡ true = lt-ltb (length a.front) (length nodes) (omega (arith, all)) in
      subst (λ k. position (λ (n : Node). n.serial == k) nodes ≡ Some (place_in nodes k)) own
      (ap (λ k. cond (nat_lt k (length nodes)) (Some k) None) first ∙ ap (λ b. cond b (Some (length a.front)) None) short ∙ ap Some (sym (place_is nodes next numbered a.front x a.back a.before)))

  -- ---- told by the kin

  last_serial : (cs : List Node) (k last : ℕ) → length (serials cs) ≡ suc k → slice_get (serials cs) k ≡ Some last → (ds : List Node) × (c : Node) × (cs ≡ ds ++ c ∷ []) × (c.serial ≡ last)
  last_serial [] k last long at = cc
  last_serial (c ∷ []) zero last long at = let one : c.serial ≡ last = cc in ([], c, refl, one)
  last_serial (c ∷ []) (suc k) last long at = absurd (omega (arith, long))
  last_serial (c ∷ d ∷ ds) zero last long at = absurd (omega (arith, long))
  last_serial (c ∷ d ∷ ds) (suc k) last long at =
      let rest = last_serial (d ∷ ds) k last (omega (arith, long)) at in
      (c ∷ rest.0, rest.1, ap (λ ms. c ∷ ms) rest.2, rest.3)

  some_long : (xs : List ℕ) (k x : ℕ) → Some x ≡ slice_get xs k → 0 < length xs
  some_long [] k x at = cc
  some_long (y ∷ ys) k x at = omega arith

  pub record Told (s last : ℕ) : Type 0 where
    pub known : IsSome (node_at nodes last)
    pub later : place_in nodes s < place_in nodes last
    pub within : place_in nodes last < length nodes
    pub same : child_place nodes s None ≡ child_place nodes last None

  pub last_told : (families : Families) → IsKinOf families nodes → (s : ℕ) → IsSome (node_at nodes s) → (xs : List ℕ) → xs ≡ list_in families.children s → (last : ℕ) → Some last ≡ slice_get xs (length xs - 1) → Told s last
  last_told families kin s known xs list_is last at =
      let x = some_node (node_at nodes s) known in
      let is : xs ≡ serials (children nodes s) = list_is ∙ kin.children s in
      let long : length xs ≡ suc (length xs - 1) = let some = some_long xs (length xs - 1) last at in omega (arith, some) in
      let found = last_serial (children nodes s) (length xs - 1) last (sym (ap length is) ∙ long) (ap (λ ys. slice_get ys (length xs - 1)) (sym is) ∙ sym at) in
      let l = last_child s x.0 found.1 found.0 x.1 found.2 in
      subst (λ k. Told s k) found.3 (record { known = ap is_some l.known; later = l.later; within = l.within; same = l.same })

  pub alone_told : (families : Families) → IsKinOf families nodes → (s : ℕ) → IsSome (node_at nodes s) → (xs : List ℕ) → xs ≡ list_in families.children s → length xs ≤ 0 → child_place nodes s None ≡ place_in nodes s + 1
  alone_told families kin s known xs list_is none =
      let x = some_node (node_at nodes s) known in
      let long : length (serials (children nodes s)) ≡ length xs = ap length (sym (list_is ∙ kin.children s)) in
      ends_alone s x.0 x.1 (empty (children nodes s) (omega (arith, long, none)))
    where
      empty : (cs : List Node) → length (serials cs) ≤ 0 → cs ≡ []
      empty [] h = refl
      empty (c ∷ cs) h = absurd (omega (arith, h))

  pub place_told : (s place : ℕ) → IsSome (node_at nodes s) → Some place ≡ position (λ (n : Node). n.serial == s) nodes → place ≡ place_in nodes s
  place_told s place known at =
      let x = some_node (node_at nodes s) known in
      let both : Some place ≡ Some (place_in nodes s) = at ∙ place_known s x.0 x.1 in
      cc

  pub has_place : (s : ℕ) → IsSome (node_at nodes s) → IsSome (position (λ (n : Node). n.serial == s) nodes)
  has_place s known = let x = some_node (node_at nodes s) known in ap is_some (place_known s x.0 x.1)

  pub place_within : (s : ℕ) → IsSome (node_at nodes s) → place_in nodes s < length nodes
  place_within s known =
      let x = some_node (node_at nodes s) known in
      let a = around (λ attrs. attrs) s nodes x.0 numbered.distinct x.1 in
      let own : x.0.serial ≡ s = eqb-true x.0.serial s (find_true (λ (n : Node). n.serial == s) nodes x.0 x.1) in
      let all = ap length a.before ∙ length-append a.front (x.0 ∷ a.back) in
      subst (λ k. place_in nodes k < length nodes) own (omega (arith, all, place_is nodes next numbered a.front x.0 a.back a.before))

  -- a child at its place among the children
  pub record Child (s k child : ℕ) : Type 0 where
    pub node : Node
    pub at : slice_get (children nodes s) k ≡ Some node
    pub serial : node.serial ≡ child
    pub known : node_at nodes child ≡ Some node

  pub child_told : (families : Families) → IsKinOf families nodes → (s : ℕ) → (xs : List ℕ) → xs ≡ list_in families.children s → (k child : ℕ) → Some child ≡ slice_get xs k → Child s k child
  child_told families kin s xs list_is k child at =
      let found = serial_at (children nodes s) k child (ap (λ ys. slice_get ys k) (sym (list_is ∙ kin.children s)) ∙ sym at) in
      let p = passing_at (λ (n : Node). n.parent == s) nodes k found.0 found.1 in
      record { node = found.0; at = found.1; serial = found.2; known = ap (node_at nodes) (sym found.2) ∙ (spot nodes next numbered p.front found.0 p.back p.is).known }

  pub no_child_told : (families : Families) → IsKinOf families nodes → (s : ℕ) → (xs : List ℕ) → xs ≡ list_in families.children s → (k : ℕ) → None ≡ slice_get xs k → slice_get (children nodes s) k ≡ None
  no_child_told families kin s xs list_is k at = serial_none (children nodes s) k (ap (λ ys. slice_get ys k) (sym (list_is ∙ kin.children s)) ∙ sym at)

  pub end_within : (s : ℕ) → IsSome (node_at nodes s) → (place_in nodes s < child_place nodes s None) × (child_place nodes s None ≤ length nodes)
  end_within s known =
      let x = some_node (node_at nodes s) known in
      let a = around (λ attrs. attrs) s nodes x.0 numbered.distinct x.1 in
      let own : x.0.serial ≡ s = eqb-true x.0.serial s (find_true (λ (n : Node). n.serial == s) nodes x.0 x.1) in
      let all = ap length a.before ∙ length-append a.front (x.0 ∷ a.back) in
      let end = end_is nodes next numbered a.front x.0 a.back a.before in
      let few = spanned_within x.0.serial (stack_of nodes next numbered x.0) a.back in
      let place = place_is nodes next numbered a.front x.0 a.back a.before in
      subst (λ k. (place_in nodes k < child_place nodes k None) × (child_place nodes k None ≤ length nodes)) own (omega (arith, place, end), omega (arith, all, end, few))

  pub node_of_place : (s : ℕ) (x : Node) → node_at nodes s ≡ Some x → slice_get nodes (place_in nodes s) ≡ Some x
  node_of_place s x at =
      let a = around (λ attrs. attrs) s nodes x numbered.distinct at in
      let own : x.serial ≡ s = eqb-true x.serial s (find_true (λ (n : Node). n.serial == s) nodes x at) in
      subst (λ k. slice_get nodes (place_in nodes k) ≡ Some x) own
      (ap (slice_get nodes) (place_is nodes next numbered a.front x a.back a.before) ∙ ap (λ ns. slice_get ns (length a.front)) a.before ∙ get_seam a.front a.back x)

  -- from the place of a node up to the end of its span stand the node and its descendants
  pub span_told : (s : ℕ) → IsSome (node_at nodes s) → slice_range nodes (place_in nodes s) (child_place nodes s None) ≡ filter (λ (n : Node). is_within nodes s n.serial) nodes
  span_told s known =
      let x = some_node (node_at nodes s) known in
      let a = around (λ attrs. attrs) s nodes x.0 numbered.distinct x.1 in
      let own : x.0.serial ≡ s = eqb-true x.0.serial s (find_true (λ (n : Node). n.serial == s) nodes x.0 x.1) in
      subst (λ k. slice_range nodes (place_in nodes k) (child_place nodes k None) ≡ filter (λ (n : Node). is_within nodes k n.serial) nodes) own
      (span_is nodes next numbered a.front x.0 a.back a.before)

  pub below_told : (s : ℕ) → IsSome (node_at nodes s) → slice_range nodes (place_in nodes s + 1) (child_place nodes s None) ≡ descendants nodes s
  below_told s known =
      let x = some_node (node_at nodes s) known in
      let a = around (λ attrs. attrs) s nodes x.0 numbered.distinct x.1 in
      let own : x.0.serial ≡ s = eqb-true x.0.serial s (find_true (λ (n : Node). n.serial == s) nodes x.0 x.1) in
      subst (λ k. slice_range nodes (place_in nodes k + 1) (child_place nodes k None) ≡ descendants nodes k) own (below_span nodes next numbered a.front x.0 a.back a.before)

  -- a span that was found lies within the nodes
  pub span_fits : (d : Document) (s : ℕ) (span : ℕ × ℕ) → record { nodes = nodes; next = next } ≡ d → IsSome (node_at d.nodes s) → span ≡ (place_in d.nodes s, child_place d.nodes s None) → (span.0 < span.1) × (span.1 ≤ length nodes)
  span_fits d s span view =
      subst (λ (e : Document). IsSome (node_at e.nodes s) → span ≡ (place_in e.nodes s, child_place e.nodes s None) → (span.0 < span.1) × (span.1 ≤ length nodes)) view
      (λ known is.
      let fits = end_within s known in
      let first = ap (λ (p : ℕ × ℕ). p.0) is in
      let last = ap (λ (p : ℕ × ℕ). p.1) is in
      (omega (arith, fits.0, first, last), omega (arith, fits.1, last)))
