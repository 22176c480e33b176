-- The places of nodes, and layers of different sets at different places.
use Rattle.std.proofs.Common.{◌≡◌, refl, sym, ◌∙◌, ap, subst, ℕ, ℤ, ◌<◌, List, [], ◌∷◌, ◌++◌, length, get_or, take, drop, map, cond, Bool, true, false, Option, Some, None, ltb, eq-eqb, arith}
use Rattle.std.specs.Prelude.{◌==◌, ◌&&◌, if◌then◌else◌, IsSome, is_some, find, option_and_then, position, unwrap_or}
use Rattle.std.specs.List.{AllByRecursion, cons_option, position_or_len}
use Rattle.std.proofs.lemmas.Bool.{lt-ltb, eqb-true}
use Rattle.std.proofs.lemmas.List.{map-append, take-append-drop}
use Rattle.std.proofs.lemmas.List.Sums.{passes_at_first}
use Rattle.smil_model.specs.declared.document.Node.{Node}
use Rattle.smil_model.specs.declared.document.Attrs.{Attrs}
use Rattle.smil_model.specs.declared.view.Layer.{Layer}
use Rattle.smil_model.specs.declared.view.View.{View}
use Rattle.smil_model.specs.document.Document.{elements, is_element, is_set_kind, node_at, serials}
use Rattle.smil_model.specs.document.Edits.{place_in}
use Rattle.smil_model.specs.document.Valid.{IsDistinct}
use Rattle.smil_model.specs.shown.Sandwich.{begin_shown, contributes, layer_by, layer_in, layer_of, layers, target_by, with_setter}
use Rattle.smil_laws.proofs.LineageParents.{swap_eqb}
use Rattle.smil_laws.proofs.ListMembers.{Differ, differ_all, differ_kept}
use Rattle.smil_laws.proofs.Lists.{each_weaker, each_kept}
use Rattle.smil_tree.proofs.KinLists.{each_left, each_serial}
use Rattle.smil_tree.proofs.AttributesChanged.{serial_of as own_serial, some_node}
use Rattle.smil_sandwich.specs.Stacks.{AreApart, IsApart}
use Rattle.smil_shown.specs.Sets.{AreOfElements, AreSettersOf}

-- what is found stands at a place
pub found_below : {X : Type 0} (test : X → Bool) (xs : List X) → IsSome (find test xs) → position_or_len test xs < length xs
found_below test [] h = cc
found_below test (x ∷ xs) h = step (test x) refl h (found_below test xs)
  where
    step : (b : Bool) → test x ≡ b → IsSome (cond b (Some x) (find test xs)) → (IsSome (find test xs) → position_or_len test xs < length xs) → position_or_len test (x ∷ xs) < length (x ∷ xs)
    step true e g rest = rw e (omega arith)
    step false e g rest = let r = rest g in rw e (omega arith)

pub found_place : {X : Type 0} (test : X → Bool) (xs : List X) → IsSome (find test xs) → position test xs ≡ Some (position_or_len test xs)
found_place test xs h = let t : ltb (position_or_len test xs) (length xs) ≡ true = lt-ltb _ _ (found_below test xs h) in rw t refl

-- ---- layers

pub layer_made : (nodes : List Node) (view : View) (n : Node) (attrs : Attrs) → node_at nodes view.serial ≡ Some n → attrs ≡ n.attrs
    → is_set_kind n.kind ≡ true → contributes view.state ≡ true → is_some attrs.texts.to ≡ true
    → layer_by (place_in nodes view.serial) (target_by nodes view.serial attrs.texts.target_element) attrs.texts.attribute_name (begin_shown view.begin)
    ≡ layer_of nodes view n
layer_made nodes view n attrs here same set plays to =
    let own : n.serial ≡ view.serial = own_serial nodes view.serial n here in
    let given : is_some n.attrs.texts.to ≡ true = ap (λ (a : Attrs). is_some a.texts.to) (sym same) ∙ to in
    ap (λ (a : Attrs). layer_by (place_in nodes view.serial) (target_by nodes view.serial a.texts.target_element) a.texts.attribute_name (begin_shown view.begin)) same
    ∙ rw (set, plays, given) (ap (λ s. layer_by (place_in nodes s) (target_by nodes s n.attrs.texts.target_element) n.attrs.texts.attribute_name (begin_shown view.begin)) (sym own))

-- ---- the places of different nodes differ

place_is : (nodes : List Node) (s : ℕ) → IsSome (node_at nodes s) → place_in nodes s ≡ position_or_len (λ (n : Node). n.serial == s) nodes
place_is nodes s known = ap (λ (o : Option ℕ). unwrap_or o (length nodes)) (found_place (λ (n : Node). n.serial == s) nodes known)

-- the node at the place of a serial has this serial
there : (nodes : List Node) (s : ℕ) (d : Node) → IsSome (node_at nodes s) → (get_or nodes (place_in nodes s) d).serial ≡ s
there nodes s d known =
    ap (λ (k : ℕ). (get_or nodes k d).serial) (place_is nodes s known)
    ∙ eqb-true _ s (passes_at_first (λ (n : Node). n.serial == s) nodes d (found_below (λ (n : Node). n.serial == s) nodes known))

pub places_apart : (nodes : List Node) (a b : ℕ) → IsSome (node_at nodes a) → IsSome (node_at nodes b) → (a == b) ≡ false → (place_in nodes a == place_in nodes b) ≡ false
places_apart nodes a b here other apart = by (place_in nodes a == place_in nodes b) refl
  where
    by : (t : Bool) → (place_in nodes a == place_in nodes b) ≡ t → t ≡ false
    by false e = refl
    by true e =
        let d = (some_node (node_at nodes a) here).0 in
        let same : a ≡ b = sym (there nodes a d here) ∙ ap (λ (k : ℕ). (get_or nodes k d).serial) (eqb-true _ _ e) ∙ there nodes b d other in
        let never : true ≡ false = sym (eq-eqb a b same) ∙ apart in cc

-- ---- layers of different sets

-- the layer of a set, which is a node
record IsRowOf (nodes : List Node) (v : View) (r : ℕ × Layer) : Type 0 where
  serial : r.0 ≡ v.serial
  place : (r.1).position ≡ place_in nodes v.serial
  known : IsSome (node_at nodes v.serial)

placed : (p : ℕ) (t : Option Node) (a : Option (List ℕ)) (b : Option ℤ) (l : Layer) → layer_by p t a b ≡ Some l → l.position ≡ p
placed p None a b l q = cc
placed p (Some t) None b l q = cc
placed p (Some t) (Some a) None l q = cc
placed p (Some t) (Some a) (Some b) l q = let is : record { target = t.serial; attr = a; begin = b; position = p } ≡ l = cc in ap (λ (m : Layer). m.position) (sym is)

placed_of : (nodes : List Node) (v : View) (n : Node) (l : Layer) → layer_of nodes v n ≡ Some l → l.position ≡ place_in nodes n.serial
placed_of nodes v n l q = by (is_set_kind n.kind && contributes v.state && is_some n.attrs.texts.to) q
  where
    by : (t : Bool) → (if t then layer_by (place_in nodes n.serial) (target_by nodes n.serial n.attrs.texts.target_element) n.attrs.texts.attribute_name (begin_shown v.begin) else None) ≡ Some l → l.position ≡ place_in nodes n.serial
    by true e = placed (place_in nodes n.serial) (target_by nodes n.serial n.attrs.texts.target_element) n.attrs.texts.attribute_name (begin_shown v.begin) l e
    by false e = cc

row_of : (nodes : List Node) (v : View) (r : ℕ × Layer) → layer_in nodes v ≡ Some r → IsRowOf nodes v r
row_of nodes v r q = by (node_at nodes v.serial) refl q
  where
    made : (n : Node) (o : Option Layer) → node_at nodes v.serial ≡ Some n → layer_of nodes v n ≡ o → with_setter v.serial o ≡ Some r → IsRowOf nodes v r
    made n None here e w = cc
    made n (Some l) here e w =
        let is : (v.serial, l) ≡ r = cc in
        let P : ℕ × Layer → Type 0 = λ x. IsRowOf nodes v x in
        let Q : Option Node → Type 0 = λ x. IsSome x in
        subst P is (record {
          serial = refl;
          place = placed_of nodes v n l e ∙ ap (place_in nodes) (own_serial nodes v.serial n here);
          known = subst Q (sym here) refl;
        })

    by : (o : Option Node) → node_at nodes v.serial ≡ o → with_setter v.serial (option_and_then (layer_of nodes v) o) ≡ Some r → IsRowOf nodes v r
    by None e w = cc
    by (Some n) e w = made n (layer_of nodes v n) e refl w

rows_apart : (nodes : List Node) (v w : View) (r m : ℕ × Layer) → IsRowOf nodes v r → IsRowOf nodes w m → (v.serial == w.serial) ≡ false → IsApart r m
rows_apart nodes v w r m one two apart = (
  let e : (r.0 == m.0) ≡ (v.serial == w.serial) = let a = one.serial in let b = two.serial in cc in e ∙ apart,
  let e : ((r.1).position == (m.1).position) ≡ (place_in nodes v.serial == place_in nodes w.serial) = let a = one.place in let b = two.place in cc in
      e ∙ places_apart nodes v.serial w.serial one.known two.known apart,
)

-- serials of which no two are the same
abbrev pub Different : List ℕ → Type 0
Different [] = Unit {0}
Different (s ∷ ss) = AllByRecursion (λ t. (s == t) ≡ false) ss × Different ss

beside : (nodes : List Node) (v : View) (r : ℕ × Layer) (vs : List View) → IsRowOf nodes v r → AllByRecursion (λ t. (v.serial == t) ≡ false) (map (λ (w : View). w.serial) vs) → AllByRecursion (IsApart r) (layers nodes vs)
beside nodes v r [] one apart = tt
beside nodes v r (w ∷ ws) one apart = by (layer_in nodes w) refl (beside nodes v r ws one apart.1)
  where
    by : (o : Option (ℕ × Layer)) → layer_in nodes w ≡ o → AllByRecursion (IsApart r) (layers nodes ws) → AllByRecursion (IsApart r) (cons_option o (layers nodes ws))
    by None e rest = rest
    by (Some m) e rest = (rows_apart nodes v w r m one (row_of nodes w m e) apart.0, rest)

-- the layers of different views are of different sets at different places
pub layers_apart : (nodes : List Node) (vs : List View) → Different (map (λ (v : View). v.serial) vs) → AreApart (layers nodes vs)
layers_apart nodes [] d = tt
layers_apart nodes (v ∷ vs) d = by (layer_in nodes v) refl (layers_apart nodes vs d.1)
  where
    by : (o : Option (ℕ × Layer)) → layer_in nodes v ≡ o → AreApart (layers nodes vs) → AreApart (cons_option o (layers nodes vs))
    by None e rest = rest
    by (Some r) e rest = (beside nodes v r vs (row_of nodes v r e) d.0, rest)

-- each set is a node
pub layers_known : (nodes : List Node) (vs : List View) → AreSettersOf nodes (layers nodes vs)
layers_known nodes [] = tt
layers_known nodes (v ∷ vs) = by (layer_in nodes v) refl (layers_known nodes vs)
  where
    by : (o : Option (ℕ × Layer)) → layer_in nodes v ≡ o → AreSettersOf nodes (layers nodes vs) → AreSettersOf nodes (cons_option o (layers nodes vs))
    by None e rest = rest
    by (Some r) e rest = let row = row_of nodes v r e in let P : ℕ → Type 0 = λ s. IsSome (node_at nodes s) in (subst P (sym row.serial) row.known, rest)

-- ---- the views of all elements

different_each : (s : ℕ) (ns : List Node) → AllByRecursion (λ (m : Node). m.serial == s ≡ false) ns → AllByRecursion (λ t. (s == t) ≡ false) (serials ns)
different_each s [] each = tt
different_each s (n ∷ ns) each = (swap_eqb n.serial s each.0, different_each s ns each.1)

different_of : (ns : List Node) → Differ ns → Different (serials ns)
different_of [] d = tt
different_of (n ∷ ns) d = (different_each n.serial ns d.0, different_of ns d.1)

pub elements_different : (nodes : List Node) → IsDistinct nodes → Different (serials (elements nodes))
elements_different nodes d = different_of (elements nodes) (differ_kept is_element nodes (differ_all nodes d))

different_front : (xs ys : List ℕ) → Different (xs ++ ys) → Different xs
different_front [] ys d = tt
different_front (x ∷ xs) ys d = (each_left (λ t. (x == t) ≡ false) xs ys d.0, different_front xs ys d.1)

-- what stands in front of a place
pub front_different : (k : ℕ) (vs : List View) → Different (map (λ (v : View). v.serial) vs) → Different (map (λ (v : View). v.serial) (take k vs))
front_different k vs d =
    let whole : map (λ (v : View). v.serial) vs ≡ map (λ (v : View). v.serial) (take k vs) ++ map (λ (v : View). v.serial) (drop k vs) =
    ap (map (λ (v : View). v.serial)) (sym (take-append-drop k vs)) ∙ map-append (λ (v : View). v.serial) (take k vs) (drop k vs) in
    different_front (map (λ (v : View). v.serial) (take k vs)) (map (λ (v : View). v.serial) (drop k vs)) (subst Different whole d)

find_more : (n : Node) (ns : List Node) (s : ℕ) → IsSome (node_at ns s) → IsSome (node_at (n ∷ ns) s)
find_more n ns s h = by (n.serial == s)
  where
    by : (t : Bool) → IsSome (cond t (Some n) (node_at ns s))
    by true = refl
    by false = h

pub found_each : (ns : List Node) → AllByRecursion (λ (n : Node). IsSome (node_at ns n.serial)) ns
found_each [] = tt
found_each (n ∷ ns) = (
  let P : Bool → Type 0 = λ t. IsSome (cond t (Some n) (node_at ns n.serial)) in subst P (sym (eq-eqb n.serial n.serial refl)) refl,
  each_weaker (λ (m : Node). IsSome (node_at ns m.serial)) (λ (m : Node). IsSome (node_at (n ∷ ns) m.serial)) ns (found_each ns) (λ m h. find_more n ns m.serial h),
)

each_view : (P : ℕ → Type 0) (vs : List View) → AllByRecursion P (map (λ (v : View). v.serial) vs) → AllByRecursion (λ (v : View). P v.serial) vs
each_view P [] each = tt
each_view P (v ∷ vs) each = (each.0, each_view P vs each.1)

-- each view is of a node
pub views_known : (nodes : List Node) (vs : List View) → AreOfElements nodes vs → AllByRecursion (λ (v : View). IsSome (node_at nodes v.serial)) vs
views_known nodes vs of =
    let all = each_serial (λ s. IsSome (node_at nodes s)) (elements nodes) (each_kept (λ (n : Node). IsSome (node_at nodes n.serial)) is_element nodes (found_each nodes)) in
    let P : List ℕ → Type 0 = λ ss. AllByRecursion (λ s. IsSome (node_at nodes s)) ss in
    each_view (λ s. IsSome (node_at nodes s)) vs (subst P (sym of) all)
