-- In a numbered tree: a node with what stands before and behind it, its place, the end of its span, and what an edit there
-- leaves of the tree.
use Rattle.std.proofs.Common.{◌≡◌, refl, sym, ◌∙◌, ap, subst, ℕ, suc, ◌+◌, ◌<◌, List, [], ◌∷◌, ◌++◌, Some, None, Bool, true, false, cond, length, filter, take, drop, arith, append_assoc}
use Rattle.std.specs.Prelude.{◌==◌, ◌||◌, ◌-◌, not, nat_lt, unwrap_or, slice_range}
use Rattle.std.specs.List.{list_any, position_or_len, AllByRecursion}
use Rattle.std.proofs.Math.Seq.{take-append_seam, drop-append_seam, drop-append-add}
use Rattle.std.proofs.lemmas.Bool.{or_parts, or_from, or_left, lt-ltb, eq-eqb, ne_eqb}
use Rattle.std.proofs.lemmas.List.{length-append}
use Rattle.std.proofs.lemmas.List.Elements.{recursion_from_All, filter-append}
use Rattle.std.proofs.lemmas.List.Folds.{list_any-append}
use Rattle.smil_model.specs.declared.document.Node.{Node}
use Rattle.smil_model.specs.document.Document.{node_at, lineage, is_below, is_within, descendants, serials}
use Rattle.smil_model.specs.document.Valid.{IsNumberedTree, IsTree, IsTreeFrom, IsDistinct, open_from}
use Rattle.smil_model.specs.document.Edits.{place_in, child_place}
use Rattle.smil_laws.specs.Edited.{IsOrdered}
use Rattle.smil_laws.proofs.DescendantOrder.{below_none}
use Rattle.smil_laws.proofs.NumberedTrees.{ordered}
use Rattle.smil_laws.proofs.ListMembers.{holds}
use Rattle.smil_laws.proofs.LineageParents.{swap_eqb}
use Rattle.smil_tree.specs.Places.{cut}
use Rattle.smil_tree.proofs.NodeFamilies.{chain_of, no_chain}
use Rattle.smil_tree.proofs.KinLists.{each_left, each_right}
use Rattle.smil_tree.proofs.OpenLineage.{opened_after, tree_parts, tree_joined, is_open, spanned, open_self, open_next, open_at, open_below, open_after, within_lineage, none_within, split, rest_whole, up_to_child, with_child, childless, span_left_out, put_before, put_behind}

-- ---- lists

pub each_parts : {A : Type 0} (P : A → Type 0) (xs ys : List A) → AllByRecursion P (xs ++ ys) → AllByRecursion P xs × AllByRecursion P ys
each_parts P xs ys each = (each_left P xs ys each, each_right P xs ys each)

-- a node of a list with distinct serials
record Apart (front : List Node) (x : Node) (back : List Node) : Type 0 where
  pub before : holds x.serial front ≡ false
  pub behind : holds x.serial back ≡ false

apart : (front : List Node) (x : Node) (back : List Node) → IsDistinct (front ++ x ∷ back) → Apart front x back
apart [] x back d = record { before = refl; behind = d.0 }
apart (n ∷ front) x back d =
    let rest = apart front x back d.1 in
    let none = or_parts _ _ (sym (list_any-append (λ (m : Node). m.serial == n.serial) front (x ∷ back)) ∙ d.0) in
    record { before = or_from _ _ (swap_eqb x.serial n.serial ((or_parts _ _ none.1).0)) rest.before; behind = rest.behind }

found : (front : List Node) (x : Node) (back : List Node) → holds x.serial front ≡ false → node_at (front ++ x ∷ back) x.serial ≡ Some x
found [] x back none = ap (λ t. cond t (Some x) (node_at back x.serial)) (eq-eqb x.serial x.serial refl)
found (n ∷ front) x back none =
    let parts = or_parts (n.serial == x.serial) (holds x.serial front) none in
    ap (λ t. cond t (Some n) (node_at (front ++ x ∷ back) x.serial)) parts.0 ∙ found front x back parts.1

known_behind : (front ns : List Node) → IsDistinct (front ++ ns) → AllByRecursion (λ (n : Node). node_at (front ++ ns) n.serial ≡ Some n) ns
known_behind front [] d = tt
known_behind front (n ∷ ns) d =
    (found front n ns ((apart front n ns d).before), subst (λ (whole : List Node). AllByRecursion (λ (m : Node). node_at whole m.serial ≡ Some m) ns) (append_assoc front (n ∷ []) ns) (known_behind (front ++ n ∷ []) ns (subst IsDistinct (sym (append_assoc front (n ∷ []) ns)) d)))

pub first_place : (front : List Node) (x : Node) (back : List Node) → holds x.serial front ≡ false → position_or_len (λ (n : Node). n.serial == x.serial) (front ++ x ∷ back) ≡ length front
first_place [] x back none = ap (λ t. cond (not t) (1 + position_or_len (λ (n : Node). n.serial == x.serial) back) 0) (eq-eqb x.serial x.serial refl)
first_place (n ∷ front) x back none =
    let parts = or_parts (n.serial == x.serial) (holds x.serial front) none in
    let rest = first_place front x back parts.1 in
    ap (λ t. cond (not t) (1 + position_or_len (λ (m : Node). m.serial == x.serial) (front ++ x ∷ back)) 0) parts.0 ∙ omega (arith, rest)

none_zero : (ns : List Node) → AllByRecursion (λ (n : Node). 0 < n.serial) ns → node_at ns 0 ≡ None
none_zero [] each = refl
none_zero (n ∷ ns) each = ap (λ t. cond t (Some n) (node_at ns 0)) (ne_eqb n.serial 0 (λ e. absurd (omega (arith, e, each.0)))) ∙ none_zero ns each.1

above_zero : (next : ℕ) (ns : List Node) → AllByRecursion (λ (n : Node). (0 < n.serial) × (n.serial < next)) ns → AllByRecursion (λ (n : Node). 0 < n.serial) ns
above_zero next [] each = tt
above_zero next (n ∷ ns) each = (each.0.0, above_zero next ns each.1)

-- ---- a numbered tree

module _ (nodes : List Node) (next : ℕ) (numbered : IsNumberedTree (record { nodes = nodes; next = next })) where
  o : IsOrdered nodes
  o = ordered (record { nodes = nodes; next = next }) numbered

  pub no_zero : node_at nodes 0 ≡ None
  no_zero = none_zero nodes (above_zero next nodes (recursion_from_All (λ (n : Node). (0 < n.serial) × (n.serial < next)) nodes numbered.below))

  pub all_known : AllByRecursion (λ (n : Node). node_at nodes n.serial ≡ Some n) nodes
  all_known = known_behind [] nodes numbered.distinct

  -- the root's lineage is the root
  root_line : (root : Node) (ns : List Node) → nodes ≡ root ∷ ns → serials (lineage nodes root.serial) ≡ root.serial ∷ []
  root_line root ns is =
      let known : AllByRecursion (λ (n : Node). node_at nodes n.serial ≡ Some n) (root ∷ ns) = subst (λ (xs : List Node). AllByRecursion (λ (n : Node). node_at nodes n.serial ≡ Some n) xs) is all_known in
      let tree : IsTree (root ∷ ns) = subst IsTree is numbered.tree in
      open_self nodes o root known.0
      ∙ ap (λ p. root.serial ∷ serials (lineage nodes p)) tree.0
      ∙ ap (λ c. root.serial ∷ serials c) (no_chain nodes 0 no_zero)

  known_parts : (front back : List Node) → nodes ≡ front ++ back → AllByRecursion (λ (n : Node). node_at nodes n.serial ≡ Some n) front × AllByRecursion (λ (n : Node). node_at nodes n.serial ≡ Some n) back
  known_parts front back is = each_parts (λ (n : Node). node_at nodes n.serial ≡ Some n) front back (subst (λ (xs : List Node). AllByRecursion (λ (n : Node). node_at nodes n.serial ≡ Some n) xs) is all_known)

  -- what is open before nodes of which none is the root
  record IsOpened (root : Node) (front back : List Node) : Type 0 where
    last : ℕ
    opened_is : opened_after (root.serial ∷ []) front ≡ serials (lineage nodes last)
    first : IsTreeFrom (root.serial ∷ []) front
    rest : IsTreeFrom (opened_after (root.serial ∷ []) front) back

  opened_at : (root : Node) (front back : List Node) → nodes ≡ root ∷ front ++ back → IsOpened root front back
  opened_at root front back is =
      let tree : IsTree (root ∷ front ++ back) = subst IsTree is numbered.tree in
      let parts = tree_parts (root.serial ∷ []) front back tree.1 in
      let known = (known_parts (root ∷ front) back is).0 in
      let after = open_after nodes o (root.serial ∷ []) root.serial front (sym (root_line root (front ++ back) is)) known.1 parts.0 in
      record { last = after.0; opened_is = after.1; first = parts.0; rest = parts.1 }

  -- where the nodes from a place on are others, the whole is still one tree
  rejoined : (root : Node) (front back other : List Node) → nodes ≡ root ∷ front ++ back → IsTreeFrom (opened_after (root.serial ∷ []) front) other → IsTree (root ∷ front ++ other)
  rejoined root front back other is tree =
      let whole : IsTree (root ∷ front ++ back) = subst IsTree is numbered.tree in
      (whole.0, tree_joined (root.serial ∷ []) front other ((opened_at root front back is).first) tree)

  -- a node, and what stands before and behind it
  pub record Spot (front : List Node) (x : Node) (back : List Node) : Type 0 where
    pub known : node_at nodes x.serial ≡ Some x
    pub before : holds x.serial front ≡ false
    pub behind : holds x.serial back ≡ false
    pub all_behind : AllByRecursion (λ (n : Node). node_at nodes n.serial ≡ Some n) back
    pub tree : IsTreeFrom (serials (lineage nodes x.serial)) back

  pub spot : (front : List Node) (x : Node) (back : List Node) → nodes ≡ front ++ x ∷ back → Spot front x back
  spot front x back is =
      let distinct = apart front x back (subst IsDistinct is numbered.distinct) in
      let known = (known_parts front (x ∷ back) is).1 in
      record { known = known.0; before = distinct.before; behind = distinct.behind; all_behind = known.1; tree = by_front front is known.0 }
    where
      by_front : (before : List Node) → nodes ≡ before ++ x ∷ back → node_at nodes x.serial ≡ Some x → IsTreeFrom (serials (lineage nodes x.serial)) back
      by_front [] e known =
          let whole : IsTree (x ∷ back) = subst IsTree e numbered.tree in
          subst (λ xs. IsTreeFrom xs back) (sym (root_line x back e)) whole.1
      by_front (root ∷ before) e known =
          let at = opened_at root before (x ∷ back) e in
          subst (λ xs. IsTreeFrom xs back) (open_next nodes o (opened_after (root.serial ∷ []) before) at.last x at.opened_is known at.rest.0) at.rest.1

  abbrev pub stack_of : Node → List ℕ
  stack_of x = serials (lineage nodes x.serial)

  -- how many behind a node are within it
  abbrev pub inner : Node → List Node → ℕ
  inner x back = spanned x.serial (stack_of x) back

  top_open : (x : Node) → node_at nodes x.serial ≡ Some x → is_open x.serial (stack_of x) ≡ true
  top_open x known = ap (is_open x.serial) (open_self nodes o x known) ∙ or_left _ _ (eq-eqb x.serial x.serial refl)

  own_within : (x : Node) → node_at nodes x.serial ≡ Some x → is_within nodes x.serial x.serial ≡ true
  own_within x known = within_lineage nodes o x.serial x.serial ∙ top_open x known

  none_before : (front : List Node) (x : Node) (back : List Node) → nodes ≡ front ++ x ∷ back → filter (λ (n : Node). is_within nodes x.serial n.serial) front ≡ []
  none_before [] x back is = refl
  none_before (root ∷ front) x back is =
      let s = spot (root ∷ front) x back is in
      let at = opened_at root front (x ∷ back) is in
      let parts = or_parts (root.serial == x.serial) (holds x.serial front) s.before in
      let shut : is_open x.serial (root.serial ∷ []) ≡ false = or_from _ _ parts.0 refl in
      let line = root_line root (front ++ x ∷ back) is in
      let outside : is_within nodes x.serial root.serial ≡ false = within_lineage nodes o x.serial root.serial ∙ ap (is_open x.serial) line ∙ shut in
      ap (λ b. cond b (root ∷ filter (λ (n : Node). is_within nodes x.serial n.serial) front) (filter (λ (n : Node). is_within nodes x.serial n.serial) front)) outside
      ∙ none_within nodes o x.serial (root.serial ∷ []) root.serial front (sym line) ((known_parts (root ∷ front) (x ∷ back) is).0.1) at.first shut parts.1

  -- ---- places

  pub place_is : (front : List Node) (x : Node) (back : List Node) → nodes ≡ front ++ x ∷ back → place_in nodes x.serial ≡ length front
  place_is front x back is =
      let first : position_or_len (λ (n : Node). n.serial == x.serial) nodes ≡ length front = ap (position_or_len (λ (n : Node). n.serial == x.serial)) is ∙ first_place front x back ((spot front x back is).before) in
      let long : length nodes ≡ length front + suc (length back) = ap length is ∙ length-append front (x ∷ back) in
      ap (λ k. unwrap_or (cond (nat_lt k (length nodes)) (Some k) None) (length nodes)) first
      ∙ ap (λ b. unwrap_or (cond b (Some (length front)) None) (length nodes)) (lt-ltb (length front) (length nodes) (omega (arith, long)))

  pub end_is : (front : List Node) (x : Node) (back : List Node) → nodes ≡ front ++ x ∷ back → child_place nodes x.serial None ≡ length front + suc (inner x back)
  end_is front x back is =
      let s = spot front x back is in
      let within : filter (λ (n : Node). is_within nodes x.serial n.serial) nodes ≡ x ∷ filter (λ (n : Node). is_within nodes x.serial n.serial) back =
      ap (filter (λ (n : Node). is_within nodes x.serial n.serial)) is
      ∙ filter-append (λ (n : Node). is_within nodes x.serial n.serial) front (x ∷ back)
      ∙ ap (λ ms. ms ++ filter (λ (n : Node). is_within nodes x.serial n.serial) (x ∷ back)) (none_before front x back is)
      ∙ ap (λ b. cond b (x ∷ filter (λ (n : Node). is_within nodes x.serial n.serial) back) (filter (λ (n : Node). is_within nodes x.serial n.serial) back)) (own_within x s.known) in
      let behind = (split nodes o x.serial (stack_of x) x.serial back refl s.all_behind s.tree s.behind).count in
      omega (arith, place_is front x back is, ap length within, behind)

  -- ---- what stands in a span

  within_is : (front : List Node) (x : Node) (back : List Node) → nodes ≡ front ++ x ∷ back → filter (λ (n : Node). is_within nodes x.serial n.serial) nodes ≡ x ∷ take (inner x back) back
  within_is front x back is =
      let s = spot front x back is in
      ap (filter (λ (n : Node). is_within nodes x.serial n.serial)) is
      ∙ filter-append (λ (n : Node). is_within nodes x.serial n.serial) front (x ∷ back)
      ∙ ap (λ ms. ms ++ filter (λ (n : Node). is_within nodes x.serial n.serial) (x ∷ back)) (none_before front x back is)
      ∙ ap (λ b. cond b (x ∷ filter (λ (n : Node). is_within nodes x.serial n.serial) back) (filter (λ (n : Node). is_within nodes x.serial n.serial) back)) (own_within x s.known)
      ∙ ap (λ ms. x ∷ ms) ((split nodes o x.serial (stack_of x) x.serial back refl s.all_behind s.tree s.behind).inner)

  pub span_is : (front : List Node) (x : Node) (back : List Node) → nodes ≡ front ++ x ∷ back → slice_range nodes (place_in nodes x.serial) (child_place nodes x.serial None) ≡ filter (λ (n : Node). is_within nodes x.serial n.serial) nodes
  span_is front x back is =
      let many : child_place nodes x.serial None - place_in nodes x.serial ≡ suc (inner x back) = omega (arith, place_is front x back is, end_is front x back is) in
      ap (λ k. take k (drop (place_in nodes x.serial) nodes)) many
      ∙ ap (λ k. take (suc (inner x back)) (drop k nodes)) (place_is front x back is)
      ∙ ap (λ ns. take (suc (inner x back)) (drop (length front) ns)) is
      ∙ ap (take (suc (inner x back))) (drop-append_seam front (x ∷ back))
      ∙ sym (within_is front x back is)

  below_within : (x : ℕ) (n : Node) → node_at nodes n.serial ≡ Some n → n.serial == x ≡ false → is_below nodes x n.serial ≡ is_within nodes x n.serial
  below_within x n known other =
      let chain = chain_of nodes o n.serial n known in
      ap (λ (c : List Node). list_any (λ (a : Node). a.serial == x) (drop 1 c)) chain
      ∙ sym (ap (list_any (λ (a : Node). a.serial == x)) chain ∙ ap (λ t. t || list_any (λ (a : Node). a.serial == x) (lineage nodes n.parent)) other)

  below_same : (x : ℕ) (ns : List Node) → AllByRecursion (λ (n : Node). node_at nodes n.serial ≡ Some n) ns → holds x ns ≡ false → filter (λ (n : Node). is_below nodes x n.serial) ns ≡ filter (λ (n : Node). is_within nodes x n.serial) ns
  below_same x [] known none = refl
  below_same x (n ∷ ns) known none =
      let parts = or_parts (n.serial == x) (holds x ns) none in
      let rest = filter (λ (m : Node). is_below nodes x m.serial) ns in
      ap (λ b. cond b (n ∷ rest) rest) (below_within x n known.0 parts.0) ∙ ap (λ ms. cond (is_within nodes x n.serial) (n ∷ ms) ms) (below_same x ns known.1 parts.1)

  below_is : (front : List Node) (x : Node) (back : List Node) → nodes ≡ front ++ x ∷ back → descendants nodes x.serial ≡ take (inner x back) back
  below_is front x back is =
      let s = spot front x back is in
      let below : Node → Bool = λ (n : Node). is_below nodes x.serial n.serial in
      ap (filter below) is
      ∙ filter-append below front (x ∷ back)
      ∙ ap (λ ms. ms ++ filter below (x ∷ back)) (below_same x.serial front (known_parts front (x ∷ back) is).0 s.before ∙ none_before front x back is)
      ∙ ap (λ b. cond b (x ∷ filter below back) (filter below back)) (below_none nodes o x.serial)
      ∙ below_same x.serial back s.all_behind s.behind
      ∙ (split nodes o x.serial (stack_of x) x.serial back refl s.all_behind s.tree s.behind).inner

  pub below_span : (front : List Node) (x : Node) (back : List Node) → nodes ≡ front ++ x ∷ back → slice_range nodes (place_in nodes x.serial + 1) (child_place nodes x.serial None) ≡ descendants nodes x.serial
  below_span front x back is =
      let many : child_place nodes x.serial None - (place_in nodes x.serial + 1) ≡ inner x back = omega (arith, place_is front x back is, end_is front x back is) in
      ap (λ k. take k (drop (place_in nodes x.serial + 1) nodes)) many
      ∙ ap (λ k. take (inner x back) (drop (k + 1) nodes)) (place_is front x back is)
      ∙ ap (λ ns. take (inner x back) (drop (length front + 1) ns)) is
      ∙ ap (take (inner x back)) (drop-append-add front (x ∷ back) 1)
      ∙ sym (below_is front x back is)

  -- ---- a node taken away with its descendants

  pub others_are : (front : List Node) (x : Node) (back : List Node) → nodes ≡ front ++ x ∷ back → filter (λ (n : Node). not (is_within nodes x.serial n.serial)) nodes ≡ front ++ drop (inner x back) back
  others_are front x back is =
      let s = spot front x back is in
      ap (filter (λ (n : Node). not (is_within nodes x.serial n.serial))) is
      ∙ filter-append (λ (n : Node). not (is_within nodes x.serial n.serial)) front (x ∷ back)
      ∙ ap (λ ms. ms ++ filter (λ (n : Node). not (is_within nodes x.serial n.serial)) (x ∷ back)) (rest_whole (λ (n : Node). is_within nodes x.serial n.serial) front (none_before front x back is))
      ∙ ap (λ b. front ++ cond (not b) (x ∷ filter (λ (n : Node). not (is_within nodes x.serial n.serial)) back) (filter (λ (n : Node). not (is_within nodes x.serial n.serial)) back)) (own_within x s.known)
      ∙ ap (λ ms. front ++ ms) ((split nodes o x.serial (stack_of x) x.serial back refl s.all_behind s.tree s.behind).others)

  pub cut_is : (front : List Node) (x : Node) (back : List Node) → nodes ≡ front ++ x ∷ back → cut (place_in nodes x.serial) (child_place nodes x.serial None) nodes ≡ front ++ drop (inner x back) back
  cut_is front x back is =
      ap (λ k. cut k (child_place nodes x.serial None) nodes) (place_is front x back is)
      ∙ ap (λ k. cut (length front) k nodes) (end_is front x back is)
      ∙ ap (cut (length front) (length front + suc (inner x back))) is
      ∙ ap (λ ms. ms ++ drop (length front + suc (inner x back)) (front ++ x ∷ back)) (take-append_seam front (x ∷ back))
      ∙ ap (λ ms. front ++ ms) (drop-append-add front (x ∷ back) (suc (inner x back)))

  pub tree_without : (root : Node) (front : List Node) (x : Node) (back : List Node) → nodes ≡ root ∷ front ++ x ∷ back → IsTree (root ∷ front ++ drop (inner x back) back)
  tree_without root front x back is =
      let s = spot (root ∷ front) x back is in
      let at = opened_at root front (x ∷ back) is in
      let opened = opened_after (root.serial ∷ []) front in
      rejoined root front (x ∷ back) (drop (inner x back) back) is
      (span_left_out nodes o x.serial opened at.last (stack_of x) x.serial back at.opened_is
      (λ p h apart. open_below p x.parent opened
      (ap (is_open p) (open_at nodes o opened at.last x.parent at.opened_is at.rest.0)
      ∙ sym (ap (λ u. u || is_open p (serials (lineage nodes x.parent))) (swap_eqb p x.serial apart))
      ∙ sym (ap (is_open p) (open_self nodes o x s.known)) ∙ h))
      refl (top_open x s.known) s.all_behind s.tree)

  -- ---- a new node

  pub tree_before : (root : Node) (front : List Node) (m x : Node) (back : List Node) → nodes ≡ root ∷ front ++ x ∷ back → x.parent ≡ m.parent → m.serial == x.parent ≡ false → IsTree (root ∷ front ++ m ∷ x ∷ back)
  tree_before root front m x back is child fresh =
      let at = opened_at root front (x ∷ back) is in
      rejoined root front (x ∷ back) (m ∷ x ∷ back) is
      (put_before nodes o (opened_after (root.serial ∷ []) front) at.last m x back at.opened_is at.rest child fresh)

  pub tree_behind : (front : List Node) (m x : Node) (back : List Node) → nodes ≡ front ++ x ∷ back → m.parent ≡ x.serial → AllByRecursion (λ (n : Node). m.serial == n.parent ≡ false) back → IsTree (front ++ x ∷ (take (inner x back) back ++ m ∷ drop (inner x back) back))
  tree_behind front m x back is child fresh = by_front front is
    where
      put : Spot front x back → IsTreeFrom (stack_of x) (take (inner x back) back ++ m ∷ drop (inner x back) back)
      put s =
          subst (λ k. IsTreeFrom (stack_of x) (take (spanned k (stack_of x) back) back ++ m ∷ drop (spanned k (stack_of x) back) back)) child
          (put_behind nodes o m (stack_of x) x.serial back refl s.all_behind s.tree (ap (λ p. is_open p (stack_of x)) child ∙ top_open x s.known) fresh)

      by_front : (before : List Node) → nodes ≡ before ++ x ∷ back → IsTree (before ++ x ∷ (take (inner x back) back ++ m ∷ drop (inner x back) back))
      by_front [] e =
          let whole : IsTree (x ∷ back) = subst IsTree e numbered.tree in
          (whole.0, subst (λ xs. IsTreeFrom xs (take (inner x back) back ++ m ∷ drop (inner x back) back)) (root_line x back e) (put (spot front x back is)))
      by_front (root ∷ before) e =
          let at = opened_at root before (x ∷ back) e in
          let s = spot front x back is in
          rejoined root before (x ∷ back) (x ∷ (take (inner x back) back ++ m ∷ drop (inner x back) back)) e
          (at.rest.0, subst (λ xs. IsTreeFrom xs (take (inner x back) back ++ m ∷ drop (inner x back) back)) (sym (open_next nodes o (opened_after (root.serial ∷ []) before) at.last x at.opened_is s.known at.rest.0)) (put s))

  -- ---- the end of a span, by the last child

  pub end_childless : (front : List Node) (x : Node) (back : List Node) → nodes ≡ front ++ x ∷ back → AllByRecursion (λ (n : Node). n.parent == x.serial ≡ false) back → child_place nodes x.serial None ≡ suc (length front)
  end_childless front x back is none =
      let s = spot front x back is in
      omega (arith, end_is front x back is, childless nodes o x s.known back s.tree s.behind none)

  pub end_of_last : (front : List Node) (x : Node) (between : List Node) (c : Node) (back : List Node) → nodes ≡ front ++ x ∷ (between ++ c ∷ back) → c.parent ≡ x.serial → AllByRecursion (λ (n : Node). n.parent == x.serial ≡ false) back → child_place nodes x.serial None ≡ child_place nodes c.serial None
  end_of_last front x between c back is child none =
      let s = spot front x (between ++ c ∷ back) is in
      let is_c : nodes ≡ (front ++ x ∷ between) ++ c ∷ back = is ∙ sym (append_assoc front (x ∷ between) (c ∷ back)) in
      let sc = spot (front ++ x ∷ between) c back is_c in
      let parts = tree_parts (stack_of x) between (c ∷ back) s.tree in
      let known = each_parts (λ (n : Node). node_at nodes n.serial ≡ Some n) between (c ∷ back) s.all_behind in
      let after = open_after nodes o (stack_of x) x.serial between refl known.0 parts.0 in
      let away = or_parts (holds x.serial between) (holds x.serial (c ∷ back)) (sym (list_any-append (λ (n : Node). n.serial == x.serial) between (c ∷ back)) ∙ s.behind) in
      let away_c = or_parts (c.serial == x.serial) (holds x.serial back) away.1 in
      let reach = up_to_child nodes o x.serial (stack_of x) between c back s.tree child away.0 in
      let stack : c.serial ∷ open_from c.parent (opened_after (stack_of x) between) ≡ stack_of c = open_next nodes o (opened_after (stack_of x) between) after.0 c after.1 sc.known parts.1.0 in
      let same = with_child nodes o x c s.known sc.known child (stack_of c) c.serial back refl sc.all_behind sc.tree (top_open c sc.known) away_c.1 sc.behind none in
      let long : length (front ++ x ∷ between) ≡ length front + suc (length between) = length-append front (x ∷ between) in
      omega (arith, end_is front x (between ++ c ∷ back) is, end_is (front ++ x ∷ between) c back is_c, long, reach, ap (λ xs. spanned x.serial xs back) stack, same)
