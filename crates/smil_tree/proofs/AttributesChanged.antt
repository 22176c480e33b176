-- A tree of which one node's attributes are changed.
use Rattle.std.proofs.Common.{◌≡◌, refl, sym, ◌∙◌, ap, ℕ, ◌+◌, ◌-◌, ◌<◌, ◌≤◌, List, [], ◌∷◌, ◌++◌, Option, Some, None, Bool, true, false, cond, length, arith, inl, inr}
use Rattle.std.specs.Prelude.{◌==◌, ◌&&◌, ◌||◌, ◌⊎◌, not, find, count_by, option_map, is_some, IsSome, nat_le, ◌*◌}
use Rattle.std.specs.List.{list_any, list_all, AllByRecursion}
use Rattle.std.specs.Str.{bytes_eq}
use Rattle.std.specs.Map.{lookup}
use Rattle.std.proofs.lemmas.List.Elements.{recursion_from_All, All-from_recursion}
use Rattle.std.proofs.lemmas.Bool.{and_parts, leb-true, or_parts, or_right, eqb-true, eq-eqb, not-true}
use Rattle.smil_model.specs.declared.document.Node.{Node}
use Rattle.smil_model.specs.declared.document.Attrs.{Attrs}
use Rattle.smil_model.specs.declared.document.Attr.{Attr}
use Rattle.smil_model.specs.declared.document.Attr.TheVariants as attr
use Rattle.smil_model.specs.declared.document.AttrName.{AttrName}
use Rattle.smil_model.specs.declared.document.AttrName.TheVariants as name
use Rattle.smil_model.specs.declared.document.Kind.{Kind}
use Rattle.smil_model.specs.declared.document.Item.{Item}
use Rattle.smil_model.specs.declared.limits.TheConstants.{ITEMS}
use Rattle.smil_model.specs.document.Words.{is_id}
use Rattle.smil_model.specs.document.Values.{absent_or, is_list, is_item, is_begin, is_plain_begin, is_dur, is_higher, is_lower, has_endsync, has_class_attrs, has_element_attrs, are_element_values, fits_text, is_seq_parent, fit_kind}
use Rattle.smil_model.specs.document.Texts.{text_names}
use Rattle.smil_model.specs.shown.Orders.{id_in}
use Rattle.smil_laws.proofs.AsideDocuments.{find_true}
use Rattle.smil_laws.proofs.Lists.{filter_shorter}
use Rattle.smil_tree.specs.Outcomes.{passes, may_take}
use Rattle.std.specs.Cmp.Lexicographic.{bytes_decides}
use Rattle.smil_model.specs.document.Document.{node_at, is_class_kind}
use Rattle.smil_model.specs.document.Valid.{IsNumberedTree, IsTree, IsTreeFrom, IsDistinct, open_from, is_id_taken, is_reference, kind_of, listed_references, references, references_among, references_of}
use Rattle.smil_model.specs.document.Edits.{changed_at, with_attr, without_attr}
use Rattle.smil_tree.specs.TreeFields.{bears, owner, is_other, IsTableOf}
use Rattle.smil_tree.specs.Places.{with_attrs}
use Rattle.smil_tree.proofs.IdOwners.{Around, around, count-append, count-one, count-cons, sum-one, owner-between, owner-without, taken}

references_split : (nodes front back : List Node) (n : Node) → nodes ≡ front ++ n ∷ back → references nodes ≡ references front + (references_among n.attrs + references back)
references_split nodes front back n is = ap references is ∙ sum-one references_of front n back

module _ (change : Attrs → Attrs) (s : ℕ) where
  -- ---- serials and parents stay

  abbrev edit : Node → Node
  edit n = cond (n.serial == s) (with_attrs change n) n

  pub serial_stays : (n : Node) (t : Bool) → (cond t (with_attrs change n) n).serial ≡ n.serial
  serial_stays n true = refl
  serial_stays n false = refl

  pub parent_stays : (n : Node) (t : Bool) → (cond t (with_attrs change n) n).parent ≡ n.parent
  parent_stays n true = refl
  parent_stays n false = refl

  pub any_stays : (x : ℕ) (ns : List Node) → list_any (λ (m : Node). m.serial == x) (changed_at change s ns) ≡ list_any (λ (m : Node). m.serial == x) ns
  any_stays x [] = refl
  any_stays x (n ∷ ns) =
      ap (λ y. (y == x) || list_any (λ (m : Node). m.serial == x) (changed_at change s ns)) (serial_stays n (n.serial == s))
      ∙ ap (λ t. (n.serial == x) || t) (any_stays x ns)

  distinct_stays : (ns : List Node) → IsDistinct ns → IsDistinct (changed_at change s ns)
  distinct_stays [] d = tt
  distinct_stays (n ∷ ns) d =
      (ap (λ y. list_any (λ (m : Node). m.serial == y) (changed_at change s ns)) (serial_stays n (n.serial == s)) ∙ any_stays n.serial ns ∙ d.0, distinct_stays ns d.1)

  below_stays : (next : ℕ) (ns : List Node) → AllByRecursion (λ (n : Node). (0 < n.serial) × (n.serial < next)) ns → AllByRecursion (λ (n : Node). (0 < n.serial) × (n.serial < next)) (changed_at change s ns)
  below_stays next [] each = tt
  below_stays next (n ∷ ns) each = (step (n.serial == s), below_stays next ns each.1)
    where
      step : (t : Bool) → (0 < (cond t (with_attrs change n) n).serial) × ((cond t (with_attrs change n) n).serial < next)
      step true = each.0
      step false = each.0

  tree_from_stays : (opened : List ℕ) (ns : List Node) → IsTreeFrom opened ns → IsTreeFrom opened (changed_at change s ns)
  tree_from_stays opened [] tree = tt
  tree_from_stays opened (n ∷ ns) tree = step (n.serial == s) (tree_from_stays (n.serial ∷ open_from n.parent opened) ns tree.1)
    where
      step : (t : Bool) → IsTreeFrom (n.serial ∷ open_from n.parent opened) (changed_at change s ns) → IsTreeFrom opened (cond t (with_attrs change n) n ∷ changed_at change s ns)
      step true rest = (tree.0, rest)
      step false rest = (tree.0, rest)

  tree_stays : (ns : List Node) → IsTree ns → IsTree (changed_at change s ns)
  tree_stays [] tree = tree
  tree_stays (n ∷ ns) tree = step (n.serial == s) (tree_from_stays (n.serial ∷ []) ns tree.1)
    where
      step : (t : Bool) → IsTreeFrom (n.serial ∷ []) (changed_at change s ns) → IsTree (cond t (with_attrs change n) n ∷ changed_at change s ns)
      step true rest = (tree.0, rest)
      step false rest = (tree.0, rest)

  pub numbered_stays : (nodes : List Node) (next : ℕ) → IsNumberedTree (record { nodes = nodes; next = next }) → IsNumberedTree (record { nodes = changed_at change s nodes; next = next })
  numbered_stays nodes next numbered = record {
    distinct = distinct_stays nodes numbered.distinct;
    below = All-from_recursion (λ (n : Node). (0 < n.serial) × (n.serial < next)) (changed_at change s nodes) (below_stays next nodes (recursion_from_All (λ (n : Node). (0 < n.serial) × (n.serial < next)) nodes numbered.below));
    next = numbered.next;
    tree = tree_stays nodes numbered.tree;
  }

  -- ---- references

  pub references_change : (nodes : List Node) (old : Node) → IsDistinct nodes → node_at nodes s ≡ Some old → references (changed_at change s nodes) + references_among old.attrs ≡ references nodes + references_among (change old.attrs)
  references_change nodes old d at =
      let a = around change s nodes old d at in
      omega (arith, references_split nodes a.front a.back old a.before, references_split (changed_at change s nodes) a.front a.back (with_attrs change old) a.after)

  pub references_own : (nodes : List Node) (old : Node) → IsDistinct nodes → node_at nodes s ≡ Some old → references_among old.attrs ≤ references nodes
  references_own nodes old d at =
      let a = around change s nodes old d at in
      omega (arith, references_split nodes a.front a.back old a.before)

  -- what is counted once the node is changed
  pub references_then : (nodes : List Node) (old : Node) (total own new : ℕ) → IsDistinct nodes → node_at nodes s ≡ Some old → total ≡ references nodes → own ≡ references_among old.attrs → new ≡ references_among (change old.attrs) → total - own + new ≡ references (changed_at change s nodes)
  references_then nodes old total own new d at all before after = omega (arith, references_change nodes old d at, references_own nodes old d at)

  -- ---- ids

  -- an owner that is None leaves nobody
  some_owner : (q : List ℕ) (ns : List Node) → owner q ns ≡ None → count_by (bears q) ns ≤ 0
  some_owner q [] none = omega arith
  some_owner q (n ∷ ns) none = step (bears q n) refl none (some_owner q ns)
    where
      step : (t : Bool) → bears q n ≡ t → option_map (λ (m : Node). m.serial) (cond t (Some n) (find (bears q) ns)) ≡ None → (owner q ns ≡ None → count_by (bears q) ns ≤ 0) → count_by (bears q) (n ∷ ns) ≤ 0
      step true e r rest = cc
      step false e r rest =
          let first : ◌≡◌ {A = ℕ} (cond (bears q n) 1 0) 0 = ap (λ t. cond t 1 0) e in
          omega (arith, count-cons q n ns, first, rest r)

  -- the owner is one of the nodes
  owner_among : (q : List ℕ) (ns : List Node) (x : ℕ) → owner q ns ≡ Some x → list_any (λ (m : Node). m.serial == x) ns ≡ true
  owner_among q [] x q1 = cc
  owner_among q (n ∷ ns) x q1 = step (bears q n) q1 (owner_among q ns x)
    where
      step : (t : Bool) → option_map (λ (m : Node). m.serial) (cond t (Some n) (find (bears q) ns)) ≡ Some x → (owner q ns ≡ Some x → list_any (λ (m : Node). m.serial == x) ns ≡ true) → ((n.serial == x) || list_any (λ (m : Node). m.serial == x) ns) ≡ true
      step true r rest = let one : n.serial ≡ x = cc in ap (λ t. t || list_any (λ (m : Node). m.serial == x) ns) (eq-eqb n.serial x one)
      step false r rest = or_right (n.serial == x) _ (rest r)

  -- nobody else has an id that is not taken
  free_others : (q : List ℕ) (front back : List Node) (old : Node) → count_by (bears q) (front ++ old ∷ back) ≤ 1 → is_id_taken (front ++ old ∷ back) s (Some q) ≡ false → list_any (λ (m : Node). m.serial == s) (front ++ back) ≡ false → count_by (bears q) (front ++ back) ≤ 0
  free_others q front back old once free others = by_own (bears q old) refl
    where
      by_owner : (o : Option ℕ) → bears q old ≡ false → owner q (front ++ back) ≡ o → count_by (bears q) (front ++ back) ≤ 0
      by_owner None e w = some_owner q (front ++ back) w
      by_owner (Some x) e w =
          let whole : owner q (front ++ old ∷ back) ≡ Some x = owner-between q front old back once ∙ ap (λ t. cond t (Some old.serial) (owner q (front ++ back))) e ∙ w in
          let same : not (x == s) ≡ false = sym (ap (is_other s) whole) ∙ sym (taken q s (front ++ old ∷ back) once) ∙ free in
          absurd (clash (x == s) refl same)
        where
          clash : (t : Bool) → x == s ≡ t → not t ≡ false → ⊥
          clash true t h =
              let there : true ≡ false = sym (owner_among q (front ++ back) x w) ∙ ap (λ y. list_any (λ (m : Node). m.serial == y) (front ++ back)) (eqb-true x s t) ∙ others in
              cc
          clash false t h = cc

      by_own : (t : Bool) → bears q old ≡ t → count_by (bears q) (front ++ back) ≤ 0
      by_own true e =
          let own : ◌≡◌ {A = ℕ} (cond (bears q old) 1 0) 1 = ap (λ t. cond t 1 0) e in
          omega (arith, once, own, count-append q front back, count-one q front old back)
      by_own false e = by_owner (owner q (front ++ back)) e refl

  -- where the new id is the old one or is not taken, ids stay distinct
  pub once_stays : (nodes : List Node) (old : Node) → IsDistinct nodes → node_at nodes s ≡ Some old → ((q : List ℕ) → count_by (bears q) nodes ≤ 1) → ((q : List ℕ) → bears q (with_attrs change old) ≡ true → (bears q old ≡ true) ⊎ (is_id_taken nodes s (Some q) ≡ false)) → (q : List ℕ) → count_by (bears q) (changed_at change s nodes) ≤ 1
  once_stays nodes old d at once new q = by_new (bears q (with_attrs change old)) refl
    where
      a : Around change s nodes old
      a = around change s nodes old d at

      once_here : count_by (bears q) (a.front ++ old ∷ a.back) ≤ 1
      once_here = omega (arith, once q, ap (count_by (bears q)) a.before)

      total : count_by (bears q) (changed_at change s nodes) ≡ count_by (bears q) a.front + (cond (bears q (with_attrs change old)) 1 0 + count_by (bears q) a.back)
      total = ap (count_by (bears q)) a.after ∙ count-one q a.front (with_attrs change old) a.back

      by_case : bears q (with_attrs change old) ≡ true → (bears q old ≡ true) ⊎ (is_id_taken nodes s (Some q) ≡ false) → count_by (bears q) (changed_at change s nodes) ≤ 1
      by_case e (inl own) =
          let one : ◌≡◌ {A = ℕ} (cond (bears q old) 1 0) 1 = ap (λ t. cond t 1 0) own in
          let next : ◌≡◌ {A = ℕ} (cond (bears q (with_attrs change old)) 1 0) 1 = ap (λ t. cond t 1 0) e in
          omega (arith, total, one, next, once_here, count-one q a.front old a.back)
      by_case e (inr free) =
          let next : ◌≡◌ {A = ℕ} (cond (bears q (with_attrs change old)) 1 0) 1 = ap (λ t. cond t 1 0) e in
          let none = free_others q a.front a.back old once_here (ap (λ ns. is_id_taken ns s (Some q)) (sym a.before) ∙ free) a.others in
          omega (arith, total, next, none, count-append q a.front a.back)

      by_new : (t : Bool) → bears q (with_attrs change old) ≡ t → count_by (bears q) (changed_at change s nodes) ≤ 1
      by_new true e = by_case e (new q e)
      by_new false e =
          let next : ◌≡◌ {A = ℕ} (cond (bears q (with_attrs change old)) 1 0) 0 = ap (λ t. cond t 1 0) e in
          omega (arith, total, next, once_here, count-one q a.front old a.back)

  -- ---- the table

  -- what the table leads to once the node has other attributes
  pub owner_change : (nodes : List Node) (old : Node) → IsDistinct nodes → node_at nodes s ≡ Some old → ((q : List ℕ) → count_by (bears q) nodes ≤ 1) → ((q : List ℕ) → count_by (bears q) (changed_at change s nodes) ≤ 1) → (q : List ℕ) → owner q (changed_at change s nodes) ≡ cond (bears q (with_attrs change old)) (Some old.serial) (cond (bears q old) None (owner q nodes))
  owner_change nodes old d at once still q =
      let a = around change s nodes old d at in
      let before : count_by (bears q) (a.front ++ old ∷ a.back) ≤ 1 = omega (arith, once q, ap (count_by (bears q)) a.before) in
      let after : count_by (bears q) (a.front ++ with_attrs change old ∷ a.back) ≤ 1 = omega (arith, still q, ap (count_by (bears q)) a.after) in
      ap (owner q) a.after
      ∙ owner-between q a.front (with_attrs change old) a.back after
      ∙ ap (cond (bears q (with_attrs change old)) (Some old.serial)) (owner-without q a.front old a.back before ∙ ap (λ ns. cond (bears q old) None (owner q ns)) (sym a.before))

  -- the table once another node stands in the place of a node
  pub renamed : (nodes : List Node) (old new : Node) (table after : List (List ℕ × ℕ)) → IsDistinct nodes → node_at nodes s ≡ Some old → new ≡ with_attrs change old → ((q : List ℕ) → count_by (bears q) nodes ≤ 1) → ((q : List ℕ) → count_by (bears q) (changed_at change s nodes) ≤ 1) → IsTableOf table nodes → ((q : List ℕ) → lookup (bytes_eq q) after ≡ cond (bears q new) (Some old.serial) (cond (bears q old) None (lookup (bytes_eq q) table))) → IsTableOf after (changed_at change s nodes)
  renamed nodes old new table after d at is once still tabled gives q =
      gives q
      ∙ ap (λ (n : Node). cond (bears q n) (Some old.serial) (cond (bears q old) None (lookup (bytes_eq q) table))) is
      ∙ ap (λ o. cond (bears q (with_attrs change old)) (Some old.serial) (cond (bears q old) None o)) (tabled q)
      ∙ sym (owner_change nodes old d at once still q)

-- ---- few references in fitting attributes

list_few : (o : Option (List Item)) → absent_or is_list o ≡ true → listed_references o ≤ ITEMS
list_few None h = omega arith
list_few (Some items) h =
    let within : length items ≤ ITEMS = leb-true (length items) ITEMS ((and_parts (nat_le 1 (length items)) (nat_le (length items) ITEMS) ((and_parts (nat_le 1 (length items) && nat_le (length items) ITEMS) (list_all is_item items) h).0)).1) in
    omega (arith, within, filter_shorter is_reference items)

begin_few : (in_seq : Bool) (o : Option (List Item)) → absent_or (is_begin in_seq) o ≡ true → listed_references o ≤ ITEMS
begin_few in_seq None h = omega arith
begin_few in_seq (Some items) h = list_few (Some items) ((and_parts (is_list items) (not in_seq || is_plain_begin items) h).0)

absent_few : (o : Option (List Item)) → is_some o ≡ false → listed_references o ≤ ITEMS
absent_few None h = omega arith
absent_few (Some items) h = cc

pub fit_few : (kind : Kind) (parent : Option Kind) (attrs : Attrs) → fit_kind kind parent attrs ≡ true → references_among attrs ≤ 2 * ITEMS
fit_few kind parent attrs h = by_class (is_class_kind kind) ((and_parts (absent_or is_id attrs.id && list_all (fits_text kind attrs.texts) text_names) _ h).1)
  where
    with_both : listed_references attrs.begin ≤ ITEMS → listed_references attrs.«end» ≤ ITEMS → references_among attrs ≤ 2 * ITEMS
    with_both a b = omega (arith, a, b)

    without_any : has_element_attrs attrs ≡ false → references_among attrs ≤ 2 * ITEMS
    without_any none =
        let first = or_parts _ _ ((or_parts _ _ ((or_parts _ _ ((or_parts _ _ ((or_parts _ _ ((or_parts _ _ ((or_parts _ _ ((or_parts _ _ ((or_parts _ _ ((or_parts _ _ none).0)).0)).0)).0)).0)).0)).0)).0)).0) in
        with_both (absent_few attrs.begin ((or_parts (is_some attrs.begin) (is_some attrs.dur) first.0).0)) (absent_few attrs.«end» first.1)

    with_values : are_element_values (is_seq_parent parent) attrs ≡ true → references_among attrs ≤ 2 * ITEMS
    with_values all =
        let first = and_parts _ _ ((and_parts _ _ ((and_parts _ _ ((and_parts _ _ ((and_parts _ _ ((and_parts _ _ all).0)).0)).0)).0)).0) in
        with_both (begin_few (is_seq_parent parent) attrs.begin ((and_parts (absent_or (is_begin (is_seq_parent parent)) attrs.begin) (absent_or is_dur attrs.dur) first.0).0)) (list_few attrs.«end» first.1)

    by_class : (t : Bool) → cond t (not (has_element_attrs attrs) && absent_or is_higher attrs.higher && absent_or is_lower attrs.lower) (not (has_class_attrs attrs) && are_element_values (is_seq_parent parent) attrs && (has_endsync kind || not (is_some attrs.endsync))) ≡ true → references_among attrs ≤ 2 * ITEMS
    by_class true r = without_any (not-true _ ((and_parts _ _ ((and_parts _ _ r).0)).0))
    by_class false r = with_values ((and_parts _ _ ((and_parts _ _ r).0)).1)

pub taken_few : (nodes : List Node) (s : ℕ) (given : Attr) (old : Node) → node_at nodes s ≡ Some old → may_take nodes s given ≡ true → references_among (with_attr old.attrs given) ≤ 2 * ITEMS
taken_few nodes s given old at h =
    fit_few old.kind (kind_of (node_at nodes old.parent)) (with_attr old.attrs given)
    (ap (passes (λ (n : Node). fit_kind n.kind (kind_of (node_at nodes n.parent)) (with_attr n.attrs given))) (sym at) ∙ h)

-- ---- setting and taking away

pub some_node : (o : Option Node) → IsSome o → (n : Node) × (o ≡ Some n)
some_node None h = cc
some_node (Some n) h = (n, refl)

pub serial_of : (nodes : List Node) (s : ℕ) (old : Node) → node_at nodes s ≡ Some old → old.serial ≡ s
serial_of nodes s old at = eqb-true old.serial s (find_true (λ (n : Node). n.serial == s) nodes old at)

no_id : (t : Bool) → false ≡ true → t ≡ true
no_id t h = cc

new_id : (nodes : List Node) (s : ℕ) (old : Node) (given : Attr) → is_id_taken nodes s (id_in given) ≡ false → (q : List ℕ) → bears q (with_attrs (λ attrs. with_attr attrs given) old) ≡ true → (bears q old ≡ true) ⊎ (is_id_taken nodes s (Some q) ≡ false)
new_id nodes s old (attr.Id id) free q h = inr (ap (λ p. is_id_taken nodes s (Some p)) (sym ((bytes_decides id q).0 h)) ∙ free)
new_id nodes s old (attr.Begin v) free q h = inl h
new_id nodes s old (attr.Dur v) free q h = inl h
new_id nodes s old (attr.End v) free q h = inl h
new_id nodes s old (attr.Min v) free q h = inl h
new_id nodes s old (attr.Max v) free q h = inl h
new_id nodes s old (attr.RepeatCount v) free q h = inl h
new_id nodes s old (attr.RepeatDur v) free q h = inl h
new_id nodes s old (attr.Restart v) free q h = inl h
new_id nodes s old (attr.Fill v) free q h = inl h
new_id nodes s old (attr.RestartDefault v) free q h = inl h
new_id nodes s old (attr.FillDefault v) free q h = inl h
new_id nodes s old (attr.Endsync v) free q h = inl h
new_id nodes s old (attr.Peers v) free q h = inl h
new_id nodes s old (attr.Higher v) free q h = inl h
new_id nodes s old (attr.Lower v) free q h = inl h
new_id nodes s old (attr.Text n v) free q h = inl h

pub once_set : (nodes : List Node) (s : ℕ) (given : Attr) → IsDistinct nodes → IsSome (node_at nodes s) → ((q : List ℕ) → count_by (bears q) nodes ≤ 1) → is_id_taken nodes s (id_in given) ≡ false → (q : List ℕ) → count_by (bears q) (changed_at (λ attrs. with_attr attrs given) s nodes) ≤ 1
once_set nodes s given d known once free =
    let n = some_node (node_at nodes s) known in
    once_stays (λ attrs. with_attr attrs given) s nodes n.0 d n.1 once (new_id nodes s n.0 given free)

pub fewer_ids : (old : Node) (given : AttrName) (q : List ℕ) → bears q (with_attrs (λ attrs. without_attr attrs given) old) ≡ true → bears q old ≡ true
fewer_ids old name.Id q h = no_id (bears q old) h
fewer_ids old name.Begin q h = h
fewer_ids old name.Dur q h = h
fewer_ids old name.End q h = h
fewer_ids old name.Min q h = h
fewer_ids old name.Max q h = h
fewer_ids old name.RepeatCount q h = h
fewer_ids old name.RepeatDur q h = h
fewer_ids old name.Restart q h = h
fewer_ids old name.Fill q h = h
fewer_ids old name.RestartDefault q h = h
fewer_ids old name.FillDefault q h = h
fewer_ids old name.Endsync q h = h
fewer_ids old name.Peers q h = h
fewer_ids old name.Higher q h = h
fewer_ids old name.Lower q h = h
fewer_ids old (name.Text n) q h = h

pub fewer_references : (attrs : Attrs) (given : AttrName) → references_among (without_attr attrs given) ≤ references_among attrs
fewer_references attrs name.Id = omega arith
fewer_references attrs name.Begin = omega arith
fewer_references attrs name.Dur = omega arith
fewer_references attrs name.End = omega arith
fewer_references attrs name.Min = omega arith
fewer_references attrs name.Max = omega arith
fewer_references attrs name.RepeatCount = omega arith
fewer_references attrs name.RepeatDur = omega arith
fewer_references attrs name.Restart = omega arith
fewer_references attrs name.Fill = omega arith
fewer_references attrs name.RestartDefault = omega arith
fewer_references attrs name.FillDefault = omega arith
fewer_references attrs name.Endsync = omega arith
fewer_references attrs name.Peers = omega arith
fewer_references attrs name.Higher = omega arith
fewer_references attrs name.Lower = omega arith
fewer_references attrs (name.Text n) = omega arith

-- what may take an attribute is a node
pub taker_known : (nodes : List Node) (s : ℕ) (given : Attr) → may_take nodes s given ≡ true → IsSome (node_at nodes s)
taker_known nodes s given h = by_node (node_at nodes s) h
  where
    by_node : (o : Option Node) → passes (λ (n : Node). fit_kind n.kind (kind_of (node_at nodes n.parent)) (with_attr n.attrs given)) o ≡ true → IsSome o
    by_node None r = cc
    by_node (Some n) r = refl
