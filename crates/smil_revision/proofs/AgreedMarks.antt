-- Marks of looped references, item by item.
use Rattle.std.proofs.Common.{◌≡◌, refl, sym, ◌∙◌, ap, ℕ, suc, zero, ◌<◌, ◌+◌, List, [], ◌∷◌, ◌++◌, Option, Some, None, Bool, true, false, arith, length, take, append_assoc, add-one}
use Rattle.std.specs.Prelude.{cond, map, option_map, pos, slice_get, IsSome}
use Rattle.std.proofs.lemmas.List.{map-append}
use Rattle.smil_model.specs.declared.document.Attrs.{Attrs}
use Rattle.smil_model.specs.declared.document.Edge.{Edge}
use Rattle.smil_model.specs.declared.document.Edge.TheVariants.{Begin, End}
use Rattle.smil_model.specs.declared.document.Item.{Item}
use Rattle.smil_model.specs.declared.document.Item.TheVariants.{Offset, Indefinite}
use Rattle.smil_model.specs.declared.document.Node.{Node}
use Rattle.smil_model.specs.document.Defaults.{begin_list, end_list, items_of, items_or}
use Rattle.smil_model.specs.document.Dependencies.{is_looped}
use Rattle.smil_model.specs.document.Document.{elements, is_element, is_in_excl, node_at, serial_of}
use Rattle.smil_model.specs.document.Valid.{IsDistinct}
use Rattle.smil_tree.proofs.AttributesChanged.{serial_of as own_serial}
use Rattle.smil_graph.specs.Graph.{is_looped_item, looped_at, looped_of}
use Rattle.smil_graph.proofs.GraphAnswers.{element_at}
use Rattle.smil_instances.specs.Spread.{only_element}
use Rattle.smil_revision.specs.ItemCounts.{counts_at, item_counts}
use Rattle.smil_revision.specs.References.{loops}

-- ---- how many items

one_item : (t : Bool) → length (cond t (Indefinite ∷ []) (Offset (pos 0) ∷ [])) ≡ 1
one_item true = refl
one_item false = refl

pub none_counted : (ns : List Node) (s : ℕ) → IsDistinct ns → None ≡ serial_of (only_element (node_at ns s)) → None ≡ counts_at ns s
none_counted ns s distinct e = by_node (only_element (node_at ns s)) (element_at ns s distinct) e
  where
    by_node : (o : Option Node) → node_at (elements ns) s ≡ o → None ≡ serial_of o → None ≡ counts_at ns s
    by_node None is e = sym (ap (option_map (item_counts ns)) is)
    by_node (Some n) is e = cc

-- an element, with its serial
record IsFound (ns : List Node) (s p : ℕ) : Type 0 where
  node : Node
  known : node_at ns p ≡ Some node
  element : node_at (elements ns) s ≡ Some node

found : (ns : List Node) (s p : ℕ) → IsDistinct ns → Some p ≡ serial_of (only_element (node_at ns s)) → IsFound ns s p
found ns s p distinct e = by_node (node_at ns s) refl e
  where
    by_node : (o : Option Node) → node_at ns s ≡ o → Some p ≡ serial_of (only_element o) → IsFound ns s p
    by_node None is e = cc
    by_node (Some n) is e = by_kind (is_element n) refl e
      where
        by_kind : (t : Bool) → is_element n ≡ t → Some p ≡ serial_of (cond t (Some n) None) → IsFound ns s p
        by_kind true t e =
            let same : p ≡ n.serial = cc in
            record {
              node = n;
              known = ap (node_at ns) (same ∙ own_serial ns s n is) ∙ is;
              element = element_at ns s distinct ∙ (ap only_element is ∙ ap (λ (u : Bool). cond u (Some n) None) t);
            }
        by_kind false t e = cc

pub is_known : (ns : List Node) (s p : ℕ) → IsDistinct ns → Some p ≡ serial_of (only_element (node_at ns s)) → IsSome (node_at ns p)
is_known ns s p distinct e = let f = found ns s p distinct e in some (node_at ns p) f.node f.known
  where
    some : (o : Option Node) (n : Node) → o ≡ Some n → IsSome o
    some None n e = cc
    some (Some m) n e = refl

pub counted : (ns : List Node) (s p : ℕ) (a : Attrs) (x y : ℕ) → IsDistinct ns → Some p ≡ serial_of (only_element (node_at ns s)) → Some a ≡ option_map (λ (n : Node). n.attrs) (node_at ns p)
    → ((others : List Item) → length others ≡ 1 → x ≡ length (items_or others a.begin)) → ((others : List Item) → length others ≡ 0 → y ≡ length (items_or others a.«end»))
    → Some (x, y) ≡ counts_at ns s
counted ns s p a x y distinct e attrs begins ends =
    let f = found ns s p distinct e in
    by_attrs f.node (by_same a f.node (attrs ∙ ap (option_map (λ (n : Node). n.attrs)) f.known)) f.element
  where
    by_same : (a : Attrs) (n : Node) → Some a ≡ Some n.attrs → a ≡ n.attrs
    by_same a n e = cc

    by_counts : (n : Node) → x ≡ length (begin_list ns n) → y ≡ length (end_list n) → Some (x, y) ≡ Some (item_counts ns n)
    by_counts n e f = cc

    by_attrs : (n : Node) → a ≡ n.attrs → node_at (elements ns) s ≡ Some n → Some (x, y) ≡ counts_at ns s
    by_attrs n one is =
        by_counts n
        (begins (cond (is_in_excl ns n.serial) (Indefinite ∷ []) (Offset (pos 0) ∷ [])) (one_item (is_in_excl ns n.serial))
        ∙ ap (λ (b : Attrs). length (items_or (cond (is_in_excl ns n.serial) (Indefinite ∷ []) (Offset (pos 0) ∷ [])) b.begin)) one)
        (ends [] refl ∙ ap (λ (b : Attrs). length (items_or [] b.«end»)) one)
        ∙ sym (ap (option_map (item_counts ns)) is)

-- ---- the marks of the first items

pub one_more : (nodes : List Node) (serial k : ℕ) (side : Edge) (e : Node) (before start : List Bool) → node_at (elements nodes) serial ≡ Some e → k < length (items_of nodes side e)
    → before ≡ start ++ map (is_looped nodes e.serial) (take k (items_of nodes side e))
    → before ++ looped_at nodes serial side k ∷ [] ≡ start ++ map (is_looped nodes e.serial) (take (k + 1) (items_of nodes side e))
one_more nodes serial k side e before start is below so_far =
    ap (λ (l : List Bool). l ++ looped_at nodes serial side k ∷ []) so_far
    ∙ (append_assoc start (map (is_looped nodes e.serial) (take k (items_of nodes side e))) (looped_at nodes serial side k ∷ [])
    ∙ ap (λ (l : List Bool). start ++ l) (ap (λ (o : Option Node). map (is_looped nodes e.serial) (take k (items_of nodes side e)) ++ looped_of nodes side k o ∷ []) is ∙ (along (items_of nodes side e) k below ∙ ap (λ (n : ℕ). map (is_looped nodes e.serial) (take n (items_of nodes side e))) (sym (add-one k)))))
  where
    along : (items : List Item) (k : ℕ) → k < length items → map (is_looped nodes e.serial) (take k items) ++ is_looped_item nodes e.serial (slice_get items k) ∷ [] ≡ map (is_looped nodes e.serial) (take (suc k) items)
    along [] k l = absurd (omega (arith, l))
    along (i ∷ is) zero l = refl
    along (i ∷ is) (suc k) l = ap (λ (l : List Bool). is_looped nodes e.serial i ∷ l) (along is k (omega (arith, l)))

-- ---- both sides

-- an element with so many items
pub record IsCounted (ns : List Node) (s x y : ℕ) : Type 0 where
  pub node : Node
  pub is : node_at (elements ns) s ≡ Some node
  pub begins : x ≡ length (items_of ns Begin node)
  pub ends : y ≡ length (items_of ns End node)

pub is_counted : (ns : List Node) (s x y : ℕ) → Some (x, y) ≡ counts_at ns s → IsCounted ns s x y
is_counted ns s x y e = by_node (node_at (elements ns) s) refl e
  where
    by_node : (o : Option Node) → node_at (elements ns) s ≡ o → Some (x, y) ≡ option_map (item_counts ns) o → IsCounted ns s x y
    by_node None is e = cc
    by_node (Some n) is e =
        let both : (x, y) ≡ item_counts ns n = cc in
        record { node = n; is = is; begins = ap (λ (p : ℕ × ℕ). p.0) both; ends = ap (λ (p : ℕ × ℕ). p.1) both }

pub both_sides : (ns : List Node) (s x y : ℕ) (start one two : List Bool) → IsCounted ns s x y → start ≡ []
    → ((e : Node) → node_at (elements ns) s ≡ Some e → one ≡ start ++ map (is_looped ns e.serial) (items_of ns Begin e))
    → ((e : Node) → node_at (elements ns) s ≡ Some e → two ≡ one ++ map (is_looped ns e.serial) (items_of ns End e))
    → two ≡ loops ns (node_at (elements ns) s)
both_sides ns s x y start one two counted none first second =
    let e = counted.node in
    second e counted.is
    ∙ (ap (λ (l : List Bool). l ++ map (is_looped ns e.serial) (items_of ns End e)) (first e counted.is ∙ ap (λ (l : List Bool). l ++ map (is_looped ns e.serial) (items_of ns Begin e)) none)
    ∙ (sym (map-append (is_looped ns e.serial) (items_of ns Begin e) (items_of ns End e))
    ∙ ap (loops ns) (sym counted.is)))
