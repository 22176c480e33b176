-- Which element an id means, where no two nodes have one id, and what a document has of an element.
use Rattle.std.proofs.Common.{◌≡◌, refl, sym, ◌∙◌, ap, ℕ, ◌≤◌, List, [], ◌∷◌, Option, Some, None, Bool, true, false, arith}
use Rattle.std.specs.Prelude.{cond, ◌==◌, ◌&&◌, find, count_by, is_some, option_map}
use Rattle.std.specs.List.{AllByRecursion}
use Rattle.std.proofs.lemmas.Bool.{eqb-true, eq-eqb, and_parts}
use Rattle.smil_model.specs.declared.document.Node.{Node}
use Rattle.smil_model.specs.declared.document.Attrs.{Attrs}
use Rattle.smil_model.specs.declared.document.Item.{Item}
use Rattle.smil_model.specs.declared.document.Item.TheVariants.{Event, Repeat}
use Rattle.smil_model.specs.document.Document.{Document, is_element, elements, node_at, has_id, element_named, target}
use Rattle.smil_model.specs.document.Valid.{IsDistinct, IsValid}
use Rattle.smil_model.specs.diary.Lawful.{has_element}
use Rattle.smil_model.specs.interval.Instances.{same_target}
use Rattle.smil_model.specs.declared.document.Restart.{Restart}
use Rattle.smil_model.specs.document.Defaults.{restart_of}
use Rattle.smil_laws.proofs.LineageParents.{swap_eqb}
use Rattle.smil_laws.proofs.AsideDocuments.{find_each, find_true, find_within}
use Rattle.smil_laws.proofs.Lists.{each_weaker, each_kept}
use Rattle.smil_laws.proofs.ListMembers.{differ_each}
use Rattle.smil_tree.specs.TreeFields.{bears}
use Rattle.smil_tree.proofs.IdOwners.{count-cons}
use Rattle.smil_tree.proofs.TreeMade.{once_of}
use Rattle.smil_instances.specs.Occurrence.{target_of}

-- ---- elements

-- an element is the node with its serial
pub element_in : (ns : List Node) (s : ℕ) (e : Node) → IsDistinct ns → node_at (elements ns) s ≡ Some e → node_at ns s ≡ Some e
element_in [] s e d q = q
element_in (n ∷ ns) s e d q = step (is_element n) (n.serial == s) refl q (element_in ns s e d.1)
  where
    step : (t b : Bool) → n.serial == s ≡ b → node_at (cond t (n ∷ elements ns) (elements ns)) s ≡ Some e → (node_at (elements ns) s ≡ Some e → node_at ns s ≡ Some e) → cond b (Some n) (node_at ns s) ≡ Some e
    step true true k r later = sym (ap (λ b. cond b (Some n) (node_at (elements ns) s)) k) ∙ r
    step true false k r later = later (sym (ap (λ b. cond b (Some n) (node_at (elements ns) s)) k) ∙ r)
    step false true k r later =
        let other : e.serial == n.serial ≡ false = find_each (λ (m : Node). m.serial == n.serial ≡ false) (λ (m : Node). m.serial == s) ns e (differ_each n.serial ns d.0) (later r) in
        let never : false ≡ true = sym other ∙ ap (λ x. e.serial == x) (eqb-true n.serial s k) ∙ find_true (λ (m : Node). m.serial == s) ns e (later r) in
        cc
    step false false k r later = later r

pub some_of : (o : Option Node) → is_some o ≡ true → (n : Node) × (o ≡ Some n)
some_of None q = cc
some_of (Some n) q = (n, refl)

-- an element of a document
pub element_of : (ns : List Node) (s : ℕ) → has_element ns s ≡ true → (n : Node) × (node_at (elements ns) s ≡ Some n)
element_of ns s known = some_of (node_at (elements ns) s) known

-- an element is a node
pub known_node : (ns : List Node) (s : ℕ) → has_element ns s ≡ true → is_some (node_at ns s) ≡ true
known_node [] s q = cc
known_node (n ∷ ns) s q = step (is_element n) (n.serial == s) refl q (known_node ns s)
  where
    step : (t b : Bool) → n.serial == s ≡ b → is_some (node_at (cond t (n ∷ elements ns) (elements ns)) s) ≡ true → (has_element ns s ≡ true → is_some (node_at ns s) ≡ true) → is_some (cond b (Some n) (node_at ns s)) ≡ true
    step t true k r later = refl
    step true false k r later = later (sym (ap (λ b. is_some (cond b (Some n) (node_at (elements ns) s))) k) ∙ r)
    step false false k r later = later r

-- the restart that the tree tells is the element's
pub restart_told : (ns : List Node) (s : ℕ) (e : Node) (r : Restart) → IsDistinct ns → node_at (elements ns) s ≡ Some e → Some r ≡ option_map (restart_of ns) (node_at ns s) → r ≡ restart_of ns e
restart_told ns s e r d at is =
    let same : Some r ≡ Some (restart_of ns e) = is ∙ ap (option_map (restart_of ns)) (element_in ns s e d at) in
    cc

-- the attributes of an element
pub attrs_of : (ns : List Node) (s : ℕ) (e : Node) (a : Attrs) → IsDistinct ns → node_at (elements ns) s ≡ Some e → Some a ≡ option_map (λ (n : Node). n.attrs) (node_at ns s) → a ≡ e.attrs
attrs_of ns s e a d at is =
    let same : Some a ≡ Some e.attrs = is ∙ ap (option_map (λ (n : Node). n.attrs)) (element_in ns s e d at) in
    cc

-- ---- ids

unborne : (q : List ℕ) (ns : List Node) → count_by (bears q) ns ≤ 0 → AllByRecursion (λ (n : Node). bears q n ≡ false) ns
unborne q [] none = tt
unborne q (n ∷ ns) none = step (bears q n) refl (unborne q ns)
  where
    step : (t : Bool) → bears q n ≡ t → (count_by (bears q) ns ≤ 0 → AllByRecursion (λ (m : Node). bears q m ≡ false) ns) → (bears q n ≡ false) × AllByRecursion (λ (m : Node). bears q m ≡ false) ns
    step true e later =
        let one : ◌≡◌ {A = ℕ} (cond (bears q n) 1 0) 1 = ap (λ t. cond t 1 0) e in
        absurd (omega (arith, count-cons q n ns, one, none))
    step false e later =
        let zero : ◌≡◌ {A = ℕ} (cond (bears q n) 1 0) 0 = ap (λ t. cond t 1 0) e in
        (e, later (omega (arith, count-cons q n ns, zero, none)))

abbrev is_target : ℕ → Option Node → Bool
is_target s o = same_target (Some s) (option_map (λ (n : Node). n.serial) o)

abbrev is_named : List ℕ → Node → Bool
is_named q n = is_element n && has_id q n.attrs.id

-- nobody among nodes with other serials is the target
not_among : (q : List ℕ) (s : ℕ) (ns : List Node) → AllByRecursion (λ (m : Node). m.serial == s ≡ false) ns → is_target s (element_named ns q) ≡ false
not_among q s ns each = by_found (element_named ns q) refl
  where
    by_found : (o : Option Node) → element_named ns q ≡ o → is_target s o ≡ false
    by_found None e = refl
    by_found (Some m) e = swap_eqb m.serial s (find_each (λ (x : Node). x.serial == s ≡ false) (is_named q) ns m each e)

-- an id means an element exactly where the element has it
pub named_is : (q : List ℕ) (ns : List Node) (s : ℕ) (e : Node) → IsDistinct ns → count_by (bears q) ns ≤ 1 → node_at (elements ns) s ≡ Some e → is_target s (element_named ns q) ≡ bears q e
named_is q [] s e d once at = cc
named_is q (n ∷ ns) s e d once at = step (is_element n) refl (bears q n) refl (n.serial == s) refl at (named_is q ns s e d.1 fewer)
  where
    fewer : count_by (bears q) ns ≤ 1
    fewer = omega (arith, count-cons q n ns, once)

    none_left : bears q n ≡ true → count_by (bears q) ns ≤ 0
    none_left b =
        let one : ◌≡◌ {A = ℕ} (cond (bears q n) 1 0) 1 = ap (λ t. cond t 1 0) b in
        omega (arith, count-cons q n ns, one, once)

    skipped : is_named q n ≡ false → is_target s (element_named (n ∷ ns) q) ≡ is_target s (element_named ns q)
    skipped k = ap (λ t. is_target s (cond t (Some n) (element_named ns q))) k

    found_here : is_named q n ≡ true → is_target s (element_named (n ∷ ns) q) ≡ (s == n.serial)
    found_here k = ap (λ t. is_target s (cond t (Some n) (element_named ns q))) k

    step : (t : Bool) → is_element n ≡ t → (b : Bool) → bears q n ≡ b → (c : Bool) → n.serial == s ≡ c → node_at (cond t (n ∷ elements ns) (elements ns)) s ≡ Some e → (node_at (elements ns) s ≡ Some e → is_target s (element_named ns q) ≡ bears q e) → is_target s (element_named (n ∷ ns) q) ≡ bears q e
    step false k b f c g r later = skipped (ap (λ t. t && bears q n) k) ∙ later r
    step true k true f true g r later =
        let one : Some n ≡ Some e = sym (ap (λ u. cond u (Some n) (node_at (elements ns) s)) g) ∙ r in
        let same : n ≡ e = cc in
        found_here (ap (λ t. t && bears q n) k ∙ f) ∙ eq-eqb s n.serial (sym (eqb-true n.serial s g)) ∙ sym f ∙ ap (bears q) same
    step true k true f false g r later =
        let rest : node_at (elements ns) s ≡ Some e = sym (ap (λ u. cond u (Some n) (node_at (elements ns) s)) g) ∙ r in
        let bare : bears q e ≡ false = find_each (λ (m : Node). bears q m ≡ false) (λ (m : Node). m.serial == s) (elements ns) e (each_kept (λ (m : Node). bears q m ≡ false) is_element ns (unborne q ns (none_left f))) rest in
        found_here (ap (λ t. t && bears q n) k ∙ f) ∙ swap_eqb n.serial s g ∙ sym bare
    step true k false f true g r later =
        let one : Some n ≡ Some e = sym (ap (λ u. cond u (Some n) (node_at (elements ns) s)) g) ∙ r in
        let same : n ≡ e = cc in
        let apart : AllByRecursion (λ (m : Node). m.serial == s ≡ false) ns = each_weaker (λ (m : Node). m.serial == n.serial ≡ false) (λ (m : Node). m.serial == s ≡ false) ns (differ_each n.serial ns d.0) (λ m u. ap (λ x. m.serial == x) (sym (eqb-true n.serial s g)) ∙ u) in
        skipped (ap (λ t. t && bears q n) k ∙ f) ∙ not_among q s ns apart ∙ sym f ∙ ap (bears q) same
    step true k false f false g r later =
        skipped (ap (λ t. t && bears q n) k ∙ f) ∙ later (sym (ap (λ u. cond u (Some n) (node_at (elements ns) s)) g) ∙ r)

-- the same in a valid document, by the element's attributes
pub means_own : (d : Document) (q : List ℕ) (s : ℕ) (a : Attrs) → IsValid d → has_element d.nodes s ≡ true → Some a ≡ option_map (λ (n : Node). n.attrs) (node_at d.nodes s) → has_id q a.id ≡ is_target s (element_named d.nodes q)
means_own d q s a v known is =
    let e = element_of d.nodes s known in
    ap (λ (b : Attrs). has_id q b.id) (attrs_of d.nodes s e.0 a v.numbered.distinct e.1 is)
    ∙ sym (named_is q d.nodes s e.0 v.numbered.distinct (once_of d v q) e.1)

-- ---- what an item means

found_serial : (p : Node → Bool) (ns : List Node) (n : Node) → find p ns ≡ Some n → is_some (node_at ns n.serial) ≡ true
found_serial p [] n q = cc
found_serial p (m ∷ ms) n q = step (p m) q (found_serial p ms n) (m.serial == n.serial) refl
  where
    step : (t : Bool) → cond t (Some m) (find p ms) ≡ Some n → (find p ms ≡ Some n → is_some (node_at ms n.serial) ≡ true) → (b : Bool) → m.serial == n.serial ≡ b → is_some (node_at (m ∷ ms) n.serial) ≡ true
    step t r later true k = ap (λ b. is_some (cond b (Some m) (node_at ms n.serial))) k
    step true r later false k =
        let one : m ≡ n = cc in
        let never : false ≡ true = sym k ∙ eq-eqb m.serial n.serial (ap (λ (x : Node). x.serial) one) in cc
    step false r later false k = ap (λ b. is_some (cond b (Some m) (node_at ms n.serial))) k ∙ later r

-- what an id or an absent one means is an element
target_known : (ns : List Node) (s of : ℕ) (who : Option (List ℕ)) → has_element ns s ≡ true → target ns s who ≡ Some of → has_element ns of ≡ true
target_known ns s of None known means =
    let one : s ≡ of = cc in
    ap (has_element ns) (sym one) ∙ known
target_known ns s of (Some q) known means = by_found (element_named ns q) refl means
  where
    by_found : (o : Option Node) → element_named ns q ≡ o → option_map (λ (n : Node). n.serial) o ≡ Some of → has_element ns of ≡ true
    by_found None e r = cc
    by_found (Some n) e r =
        let one : n.serial ≡ of = cc in
        ap (has_element ns) (sym one)
        ∙ found_serial (is_named q) (elements ns) n (sym (find_within (is_named q) is_element ns (λ m u. (and_parts (is_element m) (has_id q m.attrs.id) u).0)) ∙ e)

pub means_known : (ns : List Node) (s of : ℕ) (item : Item) → has_element ns s ≡ true → target_of ns s item ≡ Some of → has_element ns of ≡ true
means_known ns s of (Event who name offset) known means = target_known ns s of who known means
means_known ns s of (Repeat who n offset) known means = target_known ns s of who known means
means_known ns s of _ known means = cc
