-- A tree made of a document, node by node.
use Rattle.std.proofs.Common.{◌≡◌, refl, sym, ◌∙◌, ap, ℕ, zero, suc, ◌+◌, ◌<◌, ◌≤◌, List, [], ◌∷◌, ◌++◌, Option, Some, None, Bool, true, false, cond, length, get_or, take, arith, append_assoc}
use Rattle.std.specs.Prelude.{◌==◌, ◌&&◌, not, count_by, is_some, slice_get}
use Rattle.std.specs.List.{list_any}
use Rattle.std.specs.Option.{option_or}
use Rattle.std.specs.Str.{bytes_eq}
use Rattle.std.specs.Cmp.Lexicographic.{bytes_decides}
use Rattle.std.proofs.lemmas.List.Sums.{sum_by-cons, sum_by-append, sum_by-take-le}
use Rattle.std.proofs.lemmas.Bool.{eqb-true, or_parts}
use Rattle.std.proofs.lemmas.Option.{slice_get-get_or, slice_get_within}
use Rattle.std.proofs.lemmas.List.{append-nil, length-take-le}
use Rattle.smil_model.specs.declared.document.Node.{Node}
use Rattle.smil_model.specs.document.Document.{Document, has_id, node_at, with_node}
use Rattle.smil_model.specs.document.Valid.{IsValid, IsDistinct, is_id_taken, is_other_with, references, references_of}
use Rattle.smil_model.proofs.FirstPlaces.{position_push}
use Rattle.smil_laws.proofs.LineageParents.{swap_eqb}
use Rattle.smil_laws.proofs.Lists.{take-more_at}
use Rattle.smil_tree.specs.TreeFields.{bears, owner}
use Rattle.smil_tree.specs.Places.{place_among}
use Rattle.smil_tree.proofs.Counted.{some_place}
use Rattle.smil_tree.proofs.IdOwners.{owner-between, count-cons}
use Rattle.smil_tree.proofs.Listed.{none_there}

-- the item of a walk is the node at its place
pub item_at : (nodes items : List Node) (i : ℕ) (n : Node) → items ≡ nodes → i < length items → n ≡ get_or items i n → slice_get nodes i ≡ Some n
item_at nodes items i n same within is = ap (λ ns. slice_get ns i) (sym same) ∙ slice_get-get_or items i n within ∙ ap Some (sym is)

-- a document that is copied node by node
abbrev document : List Node → ℕ → Document
document nodes next = record { nodes = nodes; next = next }

pub copied_more : (all left rest : List Node) (old new : Document) (n copy : Node) → left ≡ n ∷ rest → copy ≡ n → new ≡ with_node old copy → old.nodes ++ left ≡ all → new.nodes ++ rest ≡ all
copied_more all left rest old new n copy at same put so =
    ap (λ (d : Document). d.nodes ++ rest) put
    ∙ ap (λ m. (old.nodes ++ m ∷ []) ++ rest) same
    ∙ append_assoc old.nodes (n ∷ []) rest
    ∙ ap (λ ms. old.nodes ++ ms) (sym at)
    ∙ so

pub copied_all : (all left : List Node) (next : ℕ) (d : Document) → left ≡ [] → d.nodes ++ left ≡ all → d.next ≡ next → d ≡ document all next
copied_all all left next d none so same =
    ap (λ ns. document ns d.next) (sym (append-nil d.nodes) ∙ ap (λ ms. d.nodes ++ ms) (sym none) ∙ so)
    ∙ ap (document all) same

-- no earlier node has the serial of the node at a place
pub fresh_at : (ns : List Node) (i : ℕ) (n : Node) → IsDistinct ns → slice_get ns i ≡ Some n → node_at (take i ns) n.serial ≡ None
fresh_at [] i n d at = cc
fresh_at (m ∷ ns) zero n d at = refl
fresh_at (m ∷ ns) (suc i) n d at = ap (λ t. cond t (Some m) (node_at (take i ns) n.serial)) (swap_eqb n.serial m.serial (apart ns i d.0 at)) ∙ fresh_at ns i n d.1 at
  where
    apart : (xs : List Node) (k : ℕ) → list_any (λ (x : Node). x.serial == m.serial) xs ≡ false → slice_get xs k ≡ Some n → n.serial == m.serial ≡ false
    apart [] k none here = cc
    apart (x ∷ xs) zero none here = let one : x ≡ n = cc in ap (λ (y : Node). y.serial == m.serial) (sym one) ∙ (or_parts _ _ none).0
    apart (x ∷ xs) (suc k) none here = apart xs k ((or_parts (x.serial == m.serial) (list_any (λ (y : Node). y.serial == m.serial) xs) none).1) here

-- the place of a serial among one more
pub place-more_at : (ns : List Node) (i : ℕ) (n : Node) (s : ℕ) → IsDistinct ns → slice_get ns i ≡ Some n → place_among (take (i + 1) ns) s ≡ cond (n.serial == s) (Some i) (place_among (take i ns) s)
place-more_at ns i n s d at =
    let long : length (take i ns) ≡ i = omega (arith, length-take-le i ns (omega (arith, slice_get_within ns i n at))) in
    ap (λ ms. place_among ms s) (take-more_at ns i n at)
    ∙ position_push (λ (m : Node). m.serial == s) (take i ns) n
    ∙ ap (λ k. option_or (place_among (take i ns) s) (cond (n.serial == s) (Some k) None)) long
    ∙ by (n.serial == s) refl (place_among (take i ns) s) refl
  where
    none : (o : Option ℕ) → is_some o ≡ false → o ≡ None
    none None is = refl
    none (Some k) is = let never : true ≡ false = is in cc

    by : (t : Bool) → (n.serial == s) ≡ t → (o : Option ℕ) → place_among (take i ns) s ≡ o → option_or o (cond t (Some i) None) ≡ cond t (Some i) o
    by false differ None is = refl
    by false differ (Some k) is = refl
    by true same o is =
        let free : list_any (λ (m : Node). m.serial == s) (take i ns) ≡ false =
        ap (λ v. list_any (λ (m : Node). m.serial == v) (take i ns)) (sym (eqb-true n.serial s same)) ∙ none_there n.serial (take i ns) (fresh_at ns i n d at) in
        ap (λ p. option_or p (Some i)) (none o (ap is_some (sym is) ∙ some_place (take i ns) s ∙ free))

-- the owner among one more
pub owner-more_at : (q : List ℕ) (ns : List Node) (i : ℕ) (n : Node) → count_by (bears q) ns ≤ 1 → slice_get ns i ≡ Some n → owner q (take (i + 1) ns) ≡ cond (bears q n) (Some n.serial) (owner q (take i ns))
owner-more_at q ns i n once at =
    let more = take-more_at ns i n at in
    let few : count_by (bears q) (take i ns ++ n ∷ []) ≤ 1 = omega (arith, once, sum_by-take-le (λ (m : Node). cond (bears q m) 1 0) ns (i + 1), ap (count_by (bears q)) more) in
    ap (owner q) more ∙ owner-between q (take i ns) n [] few ∙ ap (λ ms. cond (bears q n) (Some n.serial) (owner q ms)) (append-nil (take i ns))

-- the references among one more
pub references-more_at : (ns : List Node) (i : ℕ) (n : Node) → slice_get ns i ≡ Some n → references (take (i + 1) ns) ≡ references (take i ns) + references_of n
references-more_at ns i n at =
    ap references (take-more_at ns i n at) ∙ omega (arith, sum_by-append references_of (take i ns) (n ∷ []), sum_by-cons references_of n [])

pub references-take : (ns : List Node) (i : ℕ) → references (take i ns) ≤ references ns
references-take ns i = sum_by-take-le references_of ns i

pub references-of_one : (ns : List Node) (i : ℕ) (n : Node) → slice_get ns i ≡ Some n → references (take i ns) + references_of n ≤ references ns
references-of_one ns i n at = omega (arith, references-more_at ns i n at, references-take ns (i + 1))

-- ---- a valid document

pub bare : (q : List ℕ) (s : ℕ) (ns : List Node) → list_any (λ (m : Node). m.serial == s) ns ≡ false → list_any (is_other_with s q) ns ≡ false → count_by (bears q) ns ≤ 0
bare q s [] none free = omega arith
bare q s (m ∷ ns) none free =
    let apart = or_parts (m.serial == s) (list_any (λ (x : Node). x.serial == s) ns) none in
    let parts = or_parts (not (m.serial == s) && bears q m) (list_any (is_other_with s q) ns) free in
    let first : bears q m ≡ false = ap (λ b. not b && bears q m) (sym apart.0) ∙ parts.0 in
    let zero_first : ◌≡◌ {A = ℕ} (cond (bears q m) 1 0) 0 = ap (λ t. cond t 1 0) first in
    omega (arith, count-cons q m ns, zero_first, bare q s ns apart.1 parts.1)

any_right : (t : Node → Bool) (a b : List Node) → list_any t (a ++ b) ≡ false → list_any t b ≡ false
any_right t [] b none = none
any_right t (x ∷ a) b none = any_right t a b ((or_parts (t x) (list_any t (a ++ b)) none).1)

once_from : (q : List ℕ) (front ns : List Node) → IsDistinct ns → list_any (λ (n : Node). is_id_taken (front ++ ns) n.serial n.attrs.id) ns ≡ false → count_by (bears q) ns ≤ 1
once_from q front [] d free = omega arith
once_from q front (n ∷ ns) d free =
    let parts = or_parts (is_id_taken (front ++ n ∷ ns) n.serial n.attrs.id) (list_any (λ (m : Node). is_id_taken (front ++ n ∷ ns) m.serial m.attrs.id) ns) free in
    let rest = once_from q (front ++ n ∷ []) ns d.1 (ap (λ whole. list_any (λ (m : Node). is_id_taken whole m.serial m.attrs.id) ns) (append_assoc front (n ∷ []) ns) ∙ parts.1) in
    by_id n.attrs.id refl parts.0 rest
  where
    by_test : (own : List ℕ) (t : Bool) → n.attrs.id ≡ Some own → bytes_eq own q ≡ t → list_any (is_other_with n.serial own) (front ++ n ∷ ns) ≡ false → count_by (bears q) ns ≤ 1 → count_by (bears q) (n ∷ ns) ≤ 1
    by_test own true e same none rest =
        let own_is : own ≡ q = (bytes_decides own q).0 same in
        let others = any_right (is_other_with n.serial own) (n ∷ []) ns (any_right (is_other_with n.serial own) front (n ∷ ns) none) in
        let none_left = bare q n.serial ns d.0 (ap (λ p. list_any (is_other_with n.serial p) ns) (sym own_is) ∙ others) in
        let first : ◌≡◌ {A = ℕ} (cond (bears q n) 1 0) 1 = ap (λ o. cond (has_id q o) 1 0) e ∙ ap (λ t. cond t 1 0) same in
        omega (arith, count-cons q n ns, first, none_left)
    by_test own false e other none rest =
        let first : ◌≡◌ {A = ℕ} (cond (bears q n) 1 0) 0 = ap (λ o. cond (has_id q o) 1 0) e ∙ ap (λ t. cond t 1 0) other in
        omega (arith, count-cons q n ns, first, rest)

    by_id : (o : Option (List ℕ)) → n.attrs.id ≡ o → is_id_taken (front ++ n ∷ ns) n.serial o ≡ false → count_by (bears q) ns ≤ 1 → count_by (bears q) (n ∷ ns) ≤ 1
    by_id None e none rest =
        let first : ◌≡◌ {A = ℕ} (cond (bears q n) 1 0) 0 = ap (λ o. cond (has_id q o) 1 0) e in
        omega (arith, count-cons q n ns, first, rest)
    by_id (Some own) e none rest = by_test own (bytes_eq own q) e refl none rest

-- no two nodes have one id
pub once_of : (d : Document) → IsValid d → (q : List ℕ) → count_by (bears q) d.nodes ≤ 1
once_of d v q = once_from q [] d.nodes v.numbered.distinct v.ids
