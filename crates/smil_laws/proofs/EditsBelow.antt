-- What an edit changes lies below the time parent of what it edits.
use Rattle.std.proofs.Common.{◌≡◌, refl, sym, ◌∙◌, ap, ℕ, suc, zero, List, [], ◌∷◌, ◌++◌, Some, Bool, true, false, inl, inr}
use Rattle.std.specs.Prelude.{cond, not, ◌==◌, ◌||◌, ◌⊎◌, reverse, take, drop, find, filter, map, insert}
use Rattle.std.specs.List.{AllByRecursion, list_any}
use Rattle.std.proofs.lemmas.Bool.{or_parts, or_from, or_left, or_right, or_cases, eqb-true, eq-eqb}
use Rattle.std.proofs.lemmas.List.Elements.{filter-append}
use Rattle.std.proofs.lemmas.List.{reverse-append, reverse-reverse}
use Rattle.smil_model.specs.declared.document.Attrs.{Attrs}
use Rattle.smil_model.specs.declared.document.Node.{Node}
use Rattle.smil_model.specs.document.Document.{is_element, elements, node_at, upwards, lineage, time_parent, is_below}
use Rattle.smil_laws.specs.Locality.{NoParent, ParentsBefore}
use Rattle.smil_model.specs.document.Edits.{changed_at}
use Rattle.smil_laws.specs.Agreement.{IsPlaced, IsAside, DifferBelow, without_aside}
use Rattle.smil_laws.specs.Edited.{KeepsReferences, IsOrdered}
use Rattle.smil_laws.proofs.KeptNodes.{KeepsParents, upwards_kept, filter_reverse}
use Rattle.smil_laws.proofs.LineageParents.{skip, take_it, upwards-rest, upwards-head}
use Rattle.smil_laws.proofs.AsideDocuments.{find_each, each_append, each_reverse, each_drop, each_filter, find_within, filter_swap, not_aside, other_who}
use Rattle.smil_laws.proofs.DescendantChains.{IsChain, ordered_chains, under_some, edited_below, all_placed}
use Rattle.smil_laws.proofs.Lists.{each_weaker, each_kept, each_take}

-- ---- from the parts of an edit

module _ (aside : ℕ → Bool) (p x : ℕ) (n1 n2 : List Node) (same : without_aside aside n1 ≡ without_aside aside n2) where
  still_there : (s : ℕ) → aside s ≡ false → node_at (elements n1) s ≡ node_at (elements n2) s
  still_there s a =
      find_within (λ (n : Node). n.serial == s) (λ (n : Node). not (aside n.serial)) (elements n1) (λ n t. ap not (ap aside (eqb-true n.serial s t) ∙ a))
      ∙ ap (find (λ (n : Node). n.serial == s)) elements_same
      ∙ sym (find_within (λ (n : Node). n.serial == s) (λ (n : Node). not (aside n.serial)) (elements n2) (λ n t. ap not (ap aside (eqb-true n.serial s t) ∙ a)))
    where
      elements_same : filter (λ (n : Node). not (aside n.serial)) (elements n1) ≡ filter (λ (n : Node). not (aside n.serial)) (elements n2)
      elements_same = filter_swap (λ (n : Node). not (aside n.serial)) is_element n1 ∙ ap (filter is_element) same ∙ sym (filter_swap (λ (n : Node). not (aside n.serial)) is_element n2)

  pub differ_from : IsAside aside p n1 → IsAside aside p n2 → aside x ≡ true → KeepsReferences x n1 n2 → DifferBelow aside p n1 n2
  differ_from b1 b2 edited keeps = record {
    same = same;
    in_old = b1;
    in_new = b2;
    ids = keeps.ids;
    loops = λ e y here a t. keeps.loops e y here (sym (still_there e.serial a) ∙ here) (other_who aside p e.serial x a edited) t;
  }

-- ---- attributes

parents_along : (xs ys : List Node) → xs ≡ ys → ParentsBefore xs → ParentsBefore ys
parents_along xs ys e first = rw (← e) first

elements_only : (aside : ℕ → Bool) (p : ℕ) (ns : List Node) → AllByRecursion (IsPlaced aside p) ns → AllByRecursion (λ (n : Node). n.serial == p ≡ true → is_element n ≡ true) ns
elements_only aside p ns each = each_weaker (IsPlaced aside p) (λ (n : Node). n.serial == p ≡ true → is_element n ≡ true) ns each (λ n i. i.1)

any_map : (f : Node → Node) (p : ℕ) → ((n : Node) → (f n).serial ≡ n.serial) → (ns : List Node) → list_any (λ (a : Node). a.serial == p) (map f ns) ≡ list_any (λ (a : Node). a.serial == p) ns
any_map f p keep [] = refl
any_map f p keep (n ∷ ns) = ap (λ s. (s == p) || list_any (λ (a : Node). a.serial == p) (map f ns)) (keep n) ∙ ap (λ t. (n.serial == p) || t) (any_map f p keep ns)

map_push : (f : Node → Node) (ns ms : List Node) → map f (ns ++ ms) ≡ map f ns ++ map f ms
map_push f [] ms = refl
map_push f (n ∷ ns) ms = ap (λ xs. f n ∷ xs) (map_push f ns ms)

map_reverse : (f : Node → Node) (ns : List Node) → reverse (map f ns) ≡ map f (reverse ns)
map_reverse f [] = refl
map_reverse f (n ∷ ns) =
    reverse-append (f n ∷ []) (map f ns) ∙ ap (λ xs. xs ++ f n ∷ []) (map_reverse f ns) ∙ sym (map_push f (reverse ns) (n ∷ [])) ∙ sym (ap (map f) (reverse-append (n ∷ []) ns))

drop_map : (f : Node → Node) (ns : List Node) → drop 1 (map f ns) ≡ map f (drop 1 ns)
drop_map f [] = refl
drop_map f (n ∷ ns) = refl

module _ (change : Attrs → Attrs) (x : ℕ) where
  abbrev pub edit : Node → Node
  edit = λ (n : Node). cond (n.serial == x) (record n { attrs = change n.attrs }) n

  pub serial_stays : (n : Node) → (edit n).serial ≡ n.serial
  serial_stays n = by_test (n.serial == x)
    where
      by_test : (t : Bool) → (cond t (record n { attrs = change n.attrs }) n).serial ≡ n.serial
      by_test true = refl
      by_test false = refl

  pub parent_stays : (n : Node) → (edit n).parent ≡ n.parent
  parent_stays n = by_test (n.serial == x)
    where
      by_test : (t : Bool) → (cond t (record n { attrs = change n.attrs }) n).parent ≡ n.parent
      by_test true = refl
      by_test false = refl

  element_stays : (n : Node) → is_element (edit n) ≡ is_element n
  element_stays n = by_test (n.serial == x)
    where
      by_test : (t : Bool) → is_element (cond t (record n { attrs = change n.attrs }) n) ≡ is_element n
      by_test true = refl
      by_test false = refl

  pub upwards_edit : (rs : List Node) (s : ℕ) → upwards (map edit rs) s ≡ map edit (upwards rs s)
  upwards_edit [] s = refl
  upwards_edit (n ∷ before) s = step (n.serial == s) refl (upwards_edit before n.parent) (upwards_edit before s)
    where
      step : (t : Bool) → n.serial == s ≡ t → upwards (map edit before) n.parent ≡ map edit (upwards before n.parent) → upwards (map edit before) s ≡ map edit (upwards before s) → upwards (edit n ∷ map edit before) s ≡ map edit (upwards (n ∷ before) s)
      step true d above here =
          take_it (edit n) (map edit before) s (ap (λ r. r == s) (serial_stays n) ∙ d)
          ∙ ap (λ r. edit n ∷ upwards (map edit before) r) (parent_stays n)
          ∙ ap (λ c. edit n ∷ c) above
          ∙ sym (ap (map edit) (take_it n before s d))
      step false d above here = skip (edit n) (map edit before) s (ap (λ r. r == s) (serial_stays n) ∙ d) ∙ here ∙ sym (ap (map edit) (skip n before s d))

  no_parent_edit : (s : ℕ) (ms : List Node) → NoParent s ms → NoParent s (map edit ms)
  no_parent_edit s [] free = tt
  no_parent_edit s (m ∷ ms) free = (ap (λ r. r == s) (parent_stays m) ∙ free.0, no_parent_edit s ms free.1)

  parents_edit : (ms : List Node) → ParentsBefore ms → ParentsBefore (map edit ms)
  parents_edit [] first = tt
  parents_edit (m ∷ ms) first = (
    ap (λ r. r == (edit m).serial) (parent_stays m) ∙ ap (λ r. m.parent == r) (serial_stays m) ∙ first.0,
    at_serial m.serial (edit m).serial (sym (serial_stays m)) (no_parent_edit m.serial ms first.1),
    parents_edit ms first.2,
  )
    where
      at_serial : (a b : ℕ) → a ≡ b → NoParent a (map edit ms) → NoParent b (map edit ms)
      at_serial a b e free = rw (← e) free

  placed_edit : (aside : ℕ → Bool) (p : ℕ) (ns : List Node) → AllByRecursion (IsPlaced aside p) ns → AllByRecursion (IsPlaced aside p) (map edit ns)
  placed_edit aside p [] each = tt
  placed_edit aside p (n ∷ ns) each = (
    (
      ap aside (serial_stays n) ∙ each.0.0 ∙ sym (ap (λ r. (r == p) || aside r) (parent_stays n)),
      λ t. element_stays n ∙ each.0.1 (sym (ap (λ r. r == p) (serial_stays n)) ∙ t),
    ),
    placed_edit aside p ns each.1,
  )

  same_edit : (aside : ℕ → Bool) → aside x ≡ true → (ns : List Node) → without_aside aside ns ≡ without_aside aside (map edit ns)
  same_edit aside a [] = refl
  same_edit aside a (n ∷ ns) = step (n.serial == x) refl (same_edit aside a ns)
    where
      step : (t : Bool) → n.serial == x ≡ t → without_aside aside ns ≡ without_aside aside (map edit ns) → without_aside aside (n ∷ ns) ≡ without_aside aside (cond t (record n { attrs = change n.attrs }) n ∷ map edit ns)
      step true d q =
          let gone : not (aside n.serial) ≡ false = ap not (ap aside (eqb-true n.serial x d) ∙ a) in
          ap (λ t. cond t (n ∷ without_aside aside ns) (without_aside aside ns)) gone
          ∙ q
          ∙ sym (ap (λ t. cond t (record n { attrs = change n.attrs } ∷ without_aside aside (map edit ns)) (without_aside aside (map edit ns))) gone)
      step false d q = ap (λ xs. cond (not (aside n.serial)) (n ∷ xs) xs) q

  below_edit : (nodes : List Node) (p s : ℕ) → is_below (map edit nodes) p s ≡ is_below nodes p s
  below_edit nodes p s =
      ap (λ rs. list_any (λ (a : Node). a.serial == p) (drop 1 (upwards rs s))) (map_reverse edit nodes)
      ∙ ap (λ c. list_any (λ (a : Node). a.serial == p) (drop 1 c)) (upwards_edit (reverse nodes) s)
      ∙ ap (λ c. list_any (λ (a : Node). a.serial == p) c) (drop_map edit (upwards (reverse nodes) s))
      ∙ any_map edit p serial_stays (drop 1 (upwards (reverse nodes) s))

  pub attrs_differ : (nodes : List Node) (parent : Node) → IsOrdered nodes → time_parent nodes x ≡ Some parent → KeepsReferences x nodes (changed_at change x nodes) → DifferBelow (is_below nodes parent.serial) parent.serial nodes (changed_at change x nodes)
  attrs_differ nodes parent o under keeps =
      let placed = all_placed nodes o x parent under in
      let edited = edited_below nodes o x parent under in
      differ_from (is_below nodes parent.serial) parent.serial x nodes (map edit nodes) (same_edit (is_below nodes parent.serial) edited nodes)
      (record {
        first = o.first;
        placed = placed;
        under = λ e here a. under_some nodes parent.serial e.serial (elements_only (is_below nodes parent.serial) parent.serial nodes placed) a;
      })
      (record {
        first = parents_along (map edit (reverse nodes)) (reverse (map edit nodes)) (sym (map_reverse edit nodes)) (parents_edit (reverse nodes) o.first);
        placed = placed_edit (is_below nodes parent.serial) parent.serial nodes placed;
        under = λ e here a. under_some (map edit nodes) parent.serial e.serial (elements_only (is_below nodes parent.serial) parent.serial (map edit nodes) (placed_edit (is_below nodes parent.serial) parent.serial nodes placed)) (below_edit nodes parent.serial e.serial ∙ a);
      })
      edited keeps

-- ---- a removal

within : (t u : Node → Bool) (ns : List Node) → ((n : Node) → t n ≡ true → u n ≡ true) → filter t ns ≡ filter t (filter u ns)
within t u [] f = refl
within t u (n ∷ ns) f = step (t n) (u n) refl (f n) (within t u ns f)
  where
    step : (a b : Bool) → t n ≡ a → (t n ≡ true → b ≡ true) → filter t ns ≡ filter t (filter u ns) → cond a (n ∷ filter t ns) (filter t ns) ≡ filter t (cond b (n ∷ filter u ns) (filter u ns))
    step true true e g q = ap (λ xs. n ∷ xs) q ∙ sym (ap (λ b. cond b (n ∷ filter t (filter u ns)) (filter t (filter u ns))) e)
    step true false e g q = let never : false ≡ true = g e in cc
    step false true e g q = q ∙ sym (ap (λ b. cond b (n ∷ filter t (filter u ns)) (filter t (filter u ns))) e)
    step false false e g q = q

pub keeps_list : (kept : ℕ → Bool) (ms : List Node) → AllByRecursion (λ (n : Node). kept n.serial ≡ true → kept n.parent ≡ true) ms → KeepsParents kept ms
keeps_list kept [] each = tt
keeps_list kept (m ∷ ms) each = (each.0, keeps_list kept ms each.1)

no_parent_sub : (t : Node → Bool) (s : ℕ) (ms : List Node) → NoParent s ms → NoParent s (filter t ms)
no_parent_sub t s [] free = tt
no_parent_sub t s (m ∷ ms) free = step (t m) (no_parent_sub t s ms free.1)
  where
    step : (b : Bool) → NoParent s (filter t ms) → NoParent s (cond b (m ∷ filter t ms) (filter t ms))
    step true r = (free.0, r)
    step false r = r

parents_sub : (t : Node → Bool) (ms : List Node) → ParentsBefore ms → ParentsBefore (filter t ms)
parents_sub t [] first = tt
parents_sub t (m ∷ ms) first = step (t m) (parents_sub t ms first.2)
  where
    step : (b : Bool) → ParentsBefore (filter t ms) → ParentsBefore (cond b (m ∷ filter t ms) (filter t ms))
    step true r = (first.0, no_parent_sub t m.serial ms first.1, r)
    step false r = r

any_drop : (p : ℕ) (ns : List Node) → list_any (λ (a : Node). a.serial == p) (drop 1 ns) ≡ true → list_any (λ (a : Node). a.serial == p) ns ≡ true
any_drop p [] q = q
any_drop p (n ∷ ns) q = or_right _ _ q

module _ (nodes : List Node) (x : ℕ) (parent : Node) (o : IsOrdered nodes) (under : time_parent nodes x ≡ Some parent) where
  abbrev p : ℕ
  p = parent.serial

  -- whether a serial stays, as it is neither x nor below it
  abbrev stays : ℕ → Bool
  stays s = not (list_any (λ (a : Node). a.serial == x) (lineage nodes s))

  abbrev rest : List Node
  rest = filter (λ (n : Node). stays n.serial) nodes

  below_too : (c : List Node) (s : ℕ) → lineage nodes s ≡ c → list_any (λ (a : Node). a.serial == x) c ≡ true → is_below nodes p s ≡ true
  below_too [] s e q = cc
  below_too (m ∷ ms) s e q =
      by_case (or_cases (m.serial == x) (list_any (λ (a : Node). a.serial == x) ms) q) (below_too ms m.parent (upwards-rest (reverse nodes) s m ms o.first e))
    where
      by_case : (m.serial == x ≡ true) ⊎ (list_any (λ (a : Node). a.serial == x) ms ≡ true) → (list_any (λ (a : Node). a.serial == x) ms ≡ true → is_below nodes p m.parent ≡ true) → is_below nodes p s ≡ true
      by_case (inl d) later =
          ap (is_below nodes p) (sym (upwards-head (reverse nodes) s m ms e) ∙ eqb-true m.serial x d) ∙ edited_below nodes o x parent under
      by_case (inr d) later =
          ap (λ c. list_any (λ (a : Node). a.serial == p) (drop 1 c)) e
          ∙ any_drop p ms (sym (ap (λ c. list_any (λ (a : Node). a.serial == p) (drop 1 c)) (upwards-rest (reverse nodes) s m ms o.first e)) ∙ later d)

  kept_stays : (s : ℕ) → not (is_below nodes p s) ≡ true → stays s ≡ true
  kept_stays s k = by_case (list_any (λ (a : Node). a.serial == x) (lineage nodes s)) refl
    where
      by_case : (t : Bool) → list_any (λ (a : Node). a.serial == x) (lineage nodes s) ≡ t → not t ≡ true
      by_case true q = let never : false ≡ true = sym (ap not (below_too (lineage nodes s) s refl q)) ∙ k in cc
      by_case false q = refl

  stays_closed : KeepsParents stays (reverse nodes)
  stays_closed =
      keeps_list stays (reverse nodes)
      (each_weaker (IsChain (reverse nodes)) (λ (n : Node). stays n.serial ≡ true → stays n.parent ≡ true) (reverse nodes) (ordered_chains nodes o)
      (λ n chain k. ap not ((or_parts (n.serial == x) (list_any (λ (a : Node). a.serial == x) (upwards (reverse nodes) n.parent))
      (sym (ap (list_any (λ (a : Node). a.serial == x)) chain) ∙ not_aside (λ s. list_any (λ (a : Node). a.serial == x) (lineage nodes s)) p n.serial k)).1)))

  below_rest : (s : ℕ) → stays s ≡ true → is_below rest p s ≡ is_below nodes p s
  below_rest s k =
      ap (λ c. list_any (λ (a : Node). a.serial == p) (drop 1 c))
      (ap (λ rs. upwards rs s) (sym (filter_reverse_back)) ∙ sym (upwards_kept stays (reverse nodes) s k stays_closed))
    where
      filter_reverse_back : filter (λ (n : Node). stays n.serial) (reverse nodes) ≡ reverse rest
      filter_reverse_back = filter_reverse (λ (n : Node). stays n.serial) nodes

  pub removal_same : without_aside (is_below nodes p) nodes ≡ without_aside (is_below nodes p) rest
  removal_same = within (λ (n : Node). not (is_below nodes p n.serial)) (λ (n : Node). stays n.serial) nodes (λ n t. kept_stays n.serial t)

  pub removal_before : IsAside (is_below nodes p) p nodes
  removal_before = record {
    first = o.first;
    placed = all_placed nodes o x parent under;
    under = λ e here a. under_some nodes p e.serial (elements_only (is_below nodes p) p nodes (all_placed nodes o x parent under)) a;
  }

  pub removal_after : IsAside (is_below nodes p) p rest
  removal_after = record {
    first = parents_along (filter (λ (n : Node). stays n.serial) (reverse nodes)) (reverse rest) (filter_reverse (λ (n : Node). stays n.serial) nodes) (parents_sub (λ (n : Node). stays n.serial) (reverse nodes) o.first);
    placed = placed;
    under = λ e here a.
        under_some rest p e.serial (elements_only (is_below nodes p) p rest placed)
        (below_rest e.serial (find_each (λ (n : Node). stays n.serial ≡ true) (λ (n : Node). n.serial == e.serial) (elements rest) e
        (each_kept (λ (n : Node). stays n.serial ≡ true) is_element rest (each_filter (λ (n : Node). stays n.serial ≡ true) (λ (n : Node). stays n.serial) nodes (λ n t. t))) here) ∙ a);
  }
    where
      placed : AllByRecursion (IsPlaced (is_below nodes p) p) rest
      placed = each_kept (IsPlaced (is_below nodes p) p) (λ (n : Node). stays n.serial) nodes (all_placed nodes o x parent under)

  pub removal_differs : KeepsReferences x nodes rest → DifferBelow (is_below nodes p) p nodes rest
  removal_differs keeps =
      differ_from (is_below nodes p) p x nodes rest removal_same removal_before removal_after (edited_below nodes o x parent under) keeps

-- ---- an insertion: taking the new node away leaves the old document

take_drop : (i : ℕ) (ns : List Node) → take i ns ++ drop i ns ≡ ns
take_drop zero ns = refl
take_drop (suc i) [] = refl
take_drop (suc i) (n ∷ ns) = ap (λ xs. n ∷ xs) (take_drop i ns)

filter_whole : (t : Node → Bool) (ns : List Node) → AllByRecursion (λ (n : Node). t n ≡ true) ns → filter t ns ≡ ns
filter_whole t [] each = refl
filter_whole t (n ∷ ns) each = ap (λ b. cond b (n ∷ filter t ns) (filter t ns)) each.0 ∙ ap (λ xs. n ∷ xs) (filter_whole t ns each.1)

none_above : (s x : ℕ) (rs : List Node) → s == x ≡ false → AllByRecursion (λ (m : Node). m.parent == x ≡ false) rs → list_any (λ (a : Node). a.serial == x) (upwards rs s) ≡ false
none_above s x [] d each = refl
none_above s x (n ∷ before) d each = step (n.serial == s) refl (none_above n.parent x before each.0 each.1) (none_above s x before d each.1)
  where
    step : (t : Bool) → n.serial == s ≡ t → list_any (λ (a : Node). a.serial == x) (upwards before n.parent) ≡ false → list_any (λ (a : Node). a.serial == x) (upwards before s) ≡ false → list_any (λ (a : Node). a.serial == x) (cond t (n ∷ upwards before (cond t n.parent s)) (upwards before (cond t n.parent s))) ≡ false
    step true e above here = or_from _ _ (ap (λ r. r == x) (eqb-true n.serial s e) ∙ d) above
    step false e above here = here

pub own_parents : (rs : List Node) → ParentsBefore rs → AllByRecursion (λ (m : Node). m.parent == m.serial ≡ false) rs
own_parents [] first = tt
own_parents (m ∷ ms) first = (first.0, own_parents ms first.2)

middle : (P : Node → Type 0) (xs : List Node) (n : Node) (ys : List Node) → AllByRecursion P (xs ++ n ∷ ys) → P n
middle P [] n ys each = each.0
middle P (x ∷ xs) n ys each = middle P xs n ys each.1

pub along_each : (P : Node → Type 0) (xs ys : List Node) → xs ≡ ys → AllByRecursion P xs → AllByRecursion P ys
along_each P xs ys e each = rw (← e) each

module _ (ns : List Node) (i : ℕ) (fresh : Node) (parent : Node) (unused : AllByRecursion (λ (n : Node). (n.serial == fresh.serial ≡ false) × (n.parent == fresh.serial ≡ false)) ns) (o : IsOrdered (insert ns i fresh)) (under : time_parent (insert ns i fresh) fresh.serial ≡ Some parent) where
  abbrev grown : List Node
  grown = insert ns i fresh

  abbrev remains : ℕ → Bool
  remains s = not (list_any (λ (a : Node). a.serial == fresh.serial) (lineage grown s))

  of_grown : (P : Node → Type 0) → AllByRecursion P (reverse grown) → P fresh
  of_grown P each = middle P (take i ns) fresh (drop i ns) (along_each P (reverse (reverse grown)) grown (reverse-reverse grown) (each_reverse P (reverse grown) each))

  parents_free : AllByRecursion (λ (m : Node). m.parent == fresh.serial ≡ false) grown
  parents_free =
      each_append (λ (m : Node). m.parent == fresh.serial ≡ false) (take i ns) (fresh ∷ drop i ns)
      (each_take (λ (m : Node). m.parent == fresh.serial ≡ false) i ns free)
      (of_grown (λ (m : Node). m.parent == m.serial ≡ false) (own_parents (reverse grown) o.first), each_drop (λ (m : Node). m.parent == fresh.serial ≡ false) i ns free)
    where
      free : AllByRecursion (λ (m : Node). m.parent == fresh.serial ≡ false) ns
      free = each_weaker (λ (n : Node). (n.serial == fresh.serial ≡ false) × (n.parent == fresh.serial ≡ false)) (λ (m : Node). m.parent == fresh.serial ≡ false) ns unused (λ n u. u.1)

  old_remain : AllByRecursion (λ (n : Node). remains n.serial ≡ true) ns
  old_remain =
      each_weaker (λ (n : Node). (n.serial == fresh.serial ≡ false) × (n.parent == fresh.serial ≡ false)) (λ (n : Node). remains n.serial ≡ true) ns unused
      (λ n u. ap not (none_above n.serial fresh.serial (reverse grown) u.0 (each_reverse (λ (m : Node). m.parent == fresh.serial ≡ false) grown parents_free)))

  gone : remains fresh.serial ≡ false
  gone =
      ap not (ap (list_any (λ (a : Node). a.serial == fresh.serial)) (of_grown (IsChain (reverse grown)) (ordered_chains grown o)) ∙ or_left _ _ (eq-eqb fresh.serial fresh.serial refl))

  left_over : filter (λ (n : Node). remains n.serial) grown ≡ ns
  left_over =
      filter-append (λ (n : Node). remains n.serial) (take i ns) (fresh ∷ drop i ns)
      ∙ ap (λ b. filter (λ (n : Node). remains n.serial) (take i ns) ++ cond b (fresh ∷ filter (λ (n : Node). remains n.serial) (drop i ns)) (filter (λ (n : Node). remains n.serial) (drop i ns))) gone
      ∙ ap (λ xs. xs ++ filter (λ (n : Node). remains n.serial) (drop i ns)) (filter_whole (λ (n : Node). remains n.serial) (take i ns) (each_take (λ (n : Node). remains n.serial ≡ true) i ns old_remain))
      ∙ ap (λ xs. take i ns ++ xs) (filter_whole (λ (n : Node). remains n.serial) (drop i ns) (each_drop (λ (n : Node). remains n.serial ≡ true) i ns old_remain))
      ∙ take_drop i ns

  pub insertion_differs : KeepsReferences fresh.serial ns grown → DifferBelow (is_below grown parent.serial) parent.serial ns grown
  insertion_differs keeps =
      differ_from (is_below grown parent.serial) parent.serial fresh.serial ns grown
      (ap (without_aside (is_below grown parent.serial)) (sym left_over) ∙ sym (removal_same grown fresh.serial parent o under))
      (aside_along (filter (λ (n : Node). remains n.serial) grown) ns left_over (removal_after grown fresh.serial parent o under))
      (removal_before grown fresh.serial parent o under)
      (edited_below grown o fresh.serial parent under) keeps
    where
      aside_along : (xs ys : List Node) → xs ≡ ys → IsAside (is_below grown parent.serial) parent.serial xs → IsAside (is_below grown parent.serial) parent.serial ys
      aside_along xs ys e b = rw (← e) b
