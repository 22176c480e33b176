-- A valid document's canonical outline is read as the same nodes, each with its position as its serial.
use Rattle.std.proofs.Common.{◌≡◌, ℕ, zero, suc, ◌+◌, ◌<◌, ◌≤◌, Bool, true, false, not, cond, eqb, ltb, ◌&&◌, ◌||◌, List, [], ◌∷◌, ◌++◌, ◌-◌, length, take, map, reverse, Option, Some, None, option_map, Result, Ok, refl, sym, ap, subst, ◌∙◌, arith, length-append, append_assoc, add-one}
use Rattle.std.specs.Prelude.{decimal, unwrap_or, bytes_eq, All, slice_get}
use Rattle.std.specs.List.{list_any, list_all, AllByRecursion}
use Rattle.std.proofs.lemmas.Bool.{and_parts, or_parts, not_from_true, eqb-true, eq-eqb, ltb-true, lt-ltb, le-ltb, ne_eqb, cond_both}
use Rattle.std.proofs.lemmas.List.{reverse-append, reverse-reverse, length-reverse, take_all, take-append-le, append-nil, map-append, length-map}
use Rattle.std.proofs.lemmas.List.Sums.{sum_by-cons}
use Rattle.std.proofs.lemmas.List.Folds.{list_any-append}
use Rattle.std.proofs.lemmas.List.Elements.{recursion_from_All}
use Rattle.std.proofs.lemmas.Option.{slice_get-get_or}
use Rattle.smil_model.specs.declared.document.Kind.{Kind}
use Rattle.smil_model.specs.declared.document.Kind.TheVariants as kind
use Rattle.smil_model.specs.declared.document.Node.{Node}
use Rattle.smil_model.specs.declared.document.Attrs.{Attrs}
use Rattle.smil_model.specs.declared.order.Refusal.{Refusal}
use Rattle.smil_model.specs.document.Document.{Document, is_class_kind, has_id, node_at as node_with}
use Rattle.smil_model.specs.document.Words.{is_id}
use Rattle.smil_model.specs.document.Texts.{text_names}
use Rattle.smil_model.specs.document.Values.{absent_or, fits_text, is_seq_parent}
use Rattle.smil_model.specs.document.Valid.{open_from, IsDistinct, IsTree, IsValid, depth_of, kind_of, may_stand, same_test, agree_with, is_well_placed, has_fitting_attrs, is_other_with, is_id_taken, references_among, references_of, references as all_references}
use Rattle.smil_grammar.specs.Results.{◌>>=◌}
use Rattle.smil_grammar.specs.Spellings.{node_text, saved_node_text, header_text}
use Rattle.smil_grammar.specs.Allowed.{IsAttrs}
use Rattle.smil_grammar.specs.Attributes.{kind_text}
use Rattle.smil_grammar.specs.Items.{count_of}
use Rattle.smil_grammar.specs.Nodes.{Shape, shape_of, saved_shape_of}
use Rattle.smil_model.specs.declared.limits.TheConstants.{LINE_BYTES}
use Rattle.smil_grammar.specs.Outlines.{Outline, mixes, has_id as has_id_among, last_of, depth_among, lines_from, saved_lines_from, no_lines, with_header, with_line, with_lines, ended, outline_of}
use Rattle.smil_laws.proofs.ReachClosed.{any_reverse}
use Rattle.smil_outline.specs.Numbered.{number_of, renumbered}
use Rattle.smil_outline.specs.Written.{saved_lines}
use Rattle.smil_outline.proofs.OpenBranch.{get_or_behind}
use Rattle.smil_outline.proofs.DepthWalk.{depths_back, all_at, IsWalked, next_depth, walk_on, walk_starts, depth_is}
use Rattle.smil_outline.proofs.FittingAttributes.{fits}
use Rattle.smil_attrs.proofs.LineRoundTrip.{shape_from, shape_is, plain_shape, saved_shape}
use Rattle.smil_outline.proofs.NodeRoundTrip.{IsRoom, made, IsShaped, line_spaces, line_text, saved_spaces, saved_line_text, plain_opens_none, line_read}
use Rattle.smil_outline.proofs.LineParts.{as_header}
use Rattle.smil_time_list.proofs.ItemRoundTrip.{count_read}
use Rattle.smil_outline.proofs.PositionSerials.{place_of, counted as counted_at, number_is, number_none, number_once, differ_before}

-- ---- lists of nodes

none_front : (p : Node → Bool) (front back : List Node) → list_any p (front ++ back) ≡ false → list_any p front ≡ false
none_front p [] back e = refl
none_front p (m ∷ front) back e = let parts = or_parts (p m) (list_any p (front ++ back)) e in rw (parts.0, none_front p front back parts.1) refl

none_at : (p : Node → Bool) (front : List Node) (n : Node) (rest : List Node) → list_any p (front ++ n ∷ rest) ≡ false → p n ≡ false
none_at p [] n rest e = (or_parts (p n) (list_any p rest) e).0
none_at p (m ∷ front) n rest e = none_at p front n rest (or_parts (p m) (list_any p (front ++ n ∷ rest)) e).1

pub all_front : (p : Node → Bool) (front back : List Node) → list_all p (front ++ back) ≡ true → list_all p front ≡ true
all_front p [] back e = refl
all_front p (m ∷ front) back e = let parts = and_parts (p m) (list_all p (front ++ back)) e in rw (parts.0, all_front p front back parts.1) refl

some_front : (p : Node → Bool) (front back : List Node) → list_any p front ≡ true → list_any p (front ++ back) ≡ true
some_front p front back e = list_any-append p front back ∙ rw e refl

abbrev has_serial : ℕ → Node → Bool
has_serial serial n = eqb n.serial serial

-- the node that stands behind others with other serials is found
pub found : (front : List Node) (n : Node) (rest : List Node) → list_any (has_serial n.serial) front ≡ false → node_with (front ++ n ∷ rest) n.serial ≡ Some n
found [] n rest e = let own : eqb n.serial n.serial ≡ true = eq-eqb _ _ refl in rw own refl
found (m ∷ front) n rest e = let parts = or_parts (has_serial n.serial m) (list_any (has_serial n.serial) front) e in rw parts.0 (found front n rest parts.1)

none_found : (nodes : List Node) (serial : ℕ) → list_any (has_serial serial) nodes ≡ false → node_with nodes serial ≡ None
none_found [] serial e = refl
none_found (m ∷ nodes) serial e = let parts = or_parts (has_serial serial m) (list_any (has_serial serial) nodes) e in rw parts.0 (none_found nodes serial parts.1)

abbrev IsFound : Option Node → Type 0
IsFound o = (n : Node) × (o ≡ Some n)

some_found : (nodes : List Node) (serial : ℕ) → list_any (has_serial serial) nodes ≡ true → IsFound (node_with nodes serial)
some_found [] serial e = absurd cc
some_found (m ∷ nodes) serial e = first_or m (has_serial serial m) (list_any (has_serial serial) nodes) (node_with nodes serial) e (some_found nodes serial)
  where
    first_or : (m : Node) (t others : Bool) (found : Option Node) → (t || others) ≡ true → (others ≡ true → IsFound found) → IsFound (cond t (Some m) found)
    first_or m true others found e other = (m, refl)
    first_or m false others found e other = other e

-- a serial that a node has is numbered
placed_first : (m : Node) (nodes : List Node) (serial : ℕ) (t : Bool) → has_serial serial m ≡ t → list_any (has_serial serial) (m ∷ nodes) ≡ true → (list_any (has_serial serial) nodes ≡ true → place_of nodes serial < length nodes) → place_of (m ∷ nodes) serial < length (m ∷ nodes)
placed_first m nodes serial true s e other = let first : place_of (m ∷ nodes) serial ≡ 0 = rw s refl in omega arith
placed_first m nodes serial false s e other =
    let first : place_of (m ∷ nodes) serial ≡ 1 + place_of nodes serial = rw s refl in
    let rest : list_any (has_serial serial) nodes ≡ true = rw s at e in
    omega (arith, other rest)

placed : (nodes : List Node) (serial : ℕ) → list_any (has_serial serial) nodes ≡ true → place_of nodes serial < length nodes
placed [] serial e = absurd cc
placed (m ∷ nodes) serial e = placed_first m nodes serial (has_serial serial m) refl e (placed nodes serial)

number_some : (nodes : List Node) (serial : ℕ) → list_any (has_serial serial) nodes ≡ true → 0 < number_of nodes serial
number_some nodes serial e = omega (arith, counted_at nodes serial (place_of nodes serial) refl (placed nodes serial e))

-- ---- the nodes with the serials that the lines give them

abbrev new : (ℕ → ℕ) → Node → Node
new number n = record n { serial = number n.serial; parent = number n.parent }

-- different nodes have different numbers, none of them 0, which stands for no node
record IsNumbering (number : ℕ → ℕ) (nodes : List Node) : Type 0 where
  once : (a b : ℕ) → number a ≡ number b → 0 < number b → a ≡ b
  some : (serial : ℕ) → list_any (has_serial serial) nodes ≡ true → 0 < number serial
  none : number 0 ≡ 0

light : (number : ℕ → ℕ) (front : List Node) (n : Node) (rest : List Node) → all_references (map (new number) front) + references_among n.attrs ≤ all_references (front ++ n ∷ rest)
light number [] n rest =
    let own : references_of n ≡ references_among n.attrs = refl in
    omega (arith, sum_by-cons references_of n rest, own)
light number (m ∷ front) n rest =
    let same : references_of (new number m) ≡ references_of m = refl in
    omega (arith, sum_by-cons references_of (new number m) (map (new number) front), sum_by-cons references_of m (front ++ n ∷ rest), same, light number front n rest)

-- ids

no_id : (id : List ℕ) (m : Node) → is_id id ≡ true → has_id id m.attrs.id ≡ false → bytes_eq (unwrap_or m.attrs.id []) id ≡ false
no_id id m h e = by id m.attrs.id h e
  where
    by : (id : List ℕ) (own : Option (List ℕ)) → is_id id ≡ true → has_id id own ≡ false → bytes_eq (unwrap_or own []) id ≡ false
    by [] None h e = absurd cc
    by (b ∷ bytes) None h e = refl
    by id (Some own) h e = e

other_ids : (number : ℕ → ℕ) (front : List Node) (serial : ℕ) (id : List ℕ) → is_id id ≡ true → list_any (has_serial serial) front ≡ false → list_any (is_other_with serial id) front ≡ false
    → list_any (λ (m : Node). bytes_eq (unwrap_or m.attrs.id []) id) (map (new number) front) ≡ false
other_ids number [] serial id h e k = refl
other_ids number (m ∷ front) serial id h e k =
    let serials = or_parts (has_serial serial m) (list_any (has_serial serial) front) e in
    let ids = or_parts (is_other_with serial id m) (list_any (is_other_with serial id) front) k in
    let own : has_id id m.attrs.id ≡ false = rw serials.0 at ids.0 in
    rw (no_id id m h own, other_ids number front serial id h serials.1 ids.1) refl

free_id : (number : ℕ → ℕ) (front : List Node) (n : Node) (rest : List Node) → absent_or is_id n.attrs.id ≡ true → list_any (has_serial n.serial) front ≡ false → is_id_taken (front ++ n ∷ rest) n.serial n.attrs.id ≡ false
    → has_id_among (map (new number) front) n.attrs.id ≡ false
free_id number front n rest h e k = by number front n.serial (n ∷ rest) n.attrs.id h e k
  where
    by : (number : ℕ → ℕ) (front : List Node) (serial : ℕ) (back : List Node) (own : Option (List ℕ)) → absent_or is_id own ≡ true → list_any (has_serial serial) front ≡ false → is_id_taken (front ++ back) serial own ≡ false → has_id_among (map (new number) front) own ≡ false
    by number front serial back None h e k = refl
    by number front serial back (Some id) h e k = other_ids number front serial id h e (none_front (is_other_with serial id) front back k)

-- children of one kind or the other

unmixed : (number : ℕ → ℕ) (nodes : List Node) → IsNumbering number nodes → (front : List Node) (parent : ℕ) (k : Kind) → 0 < number parent
    → list_all (λ (m : Node). not (eqb m.parent parent) || same_test (is_class_kind m.kind) (is_class_kind k)) front ≡ true
    → list_any (λ (m : Node). eqb m.parent (number parent) && not (same_test (is_class_kind m.kind) (is_class_kind k))) (map (new number) front) ≡ false
unmixed number nodes is [] parent k some h = refl
unmixed number nodes is (m ∷ front) parent k some h =
    let parts = and_parts (not (eqb m.parent parent) || same_test (is_class_kind m.kind) (is_class_kind k)) (list_all (λ (m : Node). not (eqb m.parent parent) || same_test (is_class_kind m.kind) (is_class_kind k)) front) h in
    rw (one number nodes is m parent k (eqb (number m.parent) (number parent)) refl some parts.0, unmixed number nodes is front parent k some parts.1) refl
  where
    one : (number : ℕ → ℕ) (nodes : List Node) → IsNumbering number nodes → (m : Node) (parent : ℕ) (k : Kind) (t : Bool) → eqb (number m.parent) (number parent) ≡ t → 0 < number parent
        → (not (eqb m.parent parent) || same_test (is_class_kind m.kind) (is_class_kind k)) ≡ true → (eqb (number m.parent) (number parent) && not (same_test (is_class_kind m.kind) (is_class_kind k))) ≡ false
    one number nodes is m parent k false t some h = rw t refl
    one number nodes is m parent k true t some h =
        let same : m.parent ≡ parent = is.once m.parent parent (eqb-true _ _ t) some in
        let here : eqb m.parent parent ≡ true = eq-eqb _ _ same in
        let both : same_test (is_class_kind m.kind) (is_class_kind k) ≡ true = rw here at h in
        rw t (not_from_true (same_test (is_class_kind m.kind) (is_class_kind k)) both)

-- ---- the branch

abbrev kind_with : List Node → ℕ → Kind
kind_with nodes serial = unwrap_or (kind_of (node_with nodes serial)) kind.Par

abbrev level : (ℕ → ℕ) → List Node → ℕ → ℕ × Kind
level number nodes serial = (number serial, kind_with nodes serial)

abbrev branch_of : (ℕ → ℕ) → List Node → List ℕ → List (ℕ × Kind)
branch_of number nodes opened = reverse (map (level number nodes) opened)

branch_on : (number : ℕ → ℕ) (nodes : List Node) (serial : ℕ) (opened : List ℕ) → branch_of number nodes (serial ∷ opened) ≡ branch_of number nodes opened ++ level number nodes serial ∷ []
branch_on number nodes serial opened = reverse-append (level number nodes serial ∷ []) (map (level number nodes) opened)

length_branch : (number : ℕ → ℕ) (nodes : List Node) (opened : List ℕ) → length (branch_of number nodes opened) ≡ length opened
length_branch number nodes opened = length-reverse (map (level number nodes) opened) ∙ length-map opened (level number nodes)

fewer : (opened : List ℕ) (parent : ℕ) → length (open_from parent opened) ≤ length opened
fewer [] parent = omega arith
fewer (s ∷ above) parent = cond_both (eqb s parent) (s ∷ above) (open_from parent above) (λ kept. length kept ≤ length (s ∷ above)) (λ e. omega arith) (λ e. omega (arith, fewer above parent))

-- what is closed stands at the end of the branch
kept_front : (number : ℕ → ℕ) (nodes : List Node) (opened : List ℕ) (parent : ℕ) → take (length (open_from parent opened)) (branch_of number nodes opened) ≡ branch_of number nodes (open_from parent opened)
kept_front number nodes [] parent = refl
kept_front number nodes (s ∷ above) parent = cond_both (eqb s parent) (s ∷ above) (open_from parent above) (λ kept. take (length kept) (branch_of number nodes (s ∷ above)) ≡ branch_of number nodes kept)
    (λ e. take_all (length (s ∷ above)) (branch_of number nodes (s ∷ above)) (omega (arith, length_branch number nodes (s ∷ above))))
    (λ e. ap (take (length (open_from parent above))) (branch_on number nodes s above) ∙ take_on (length (open_from parent above)) (branch_of number nodes above) (level number nodes s) (omega (arith, length_branch number nodes above, fewer above parent)) ∙ kept_front number nodes above parent)
  where
    take_on : (count : ℕ) (xs : List (ℕ × Kind)) (x : ℕ × Kind) → count ≤ length xs → take count (xs ++ x ∷ []) ≡ take count xs
    take_on count xs x le = take-append-le count xs (x ∷ []) le

-- ---- the parent

last_behind : {A : Type 0} (xs : List A) (x : A) → last_of (xs ++ x ∷ []) ≡ Some x
last_behind xs x =
    let place : length (xs ++ x ∷ []) - 1 ≡ length xs = omega (arith, length-append xs (x ∷ [])) in
    ap (slice_get (xs ++ x ∷ [])) place ∙ slice_get-get_or (xs ++ x ∷ []) (length xs) x (omega (arith, length-append xs (x ∷ []))) ∙ ap (λ y. Some y) (get_or_behind xs (x ∷ []) x)

-- what stands above a node is its parent, as the definitions know it
record IsBelow (number : ℕ → ℕ) (nodes : List Node) (read : List Node) (n : Node) (above : List (ℕ × Kind)) : Type 0 where
  kind : option_map (λ (m : ℕ × Kind). m.1) (last_of above) ≡ kind_of (node_with nodes n.parent)
  serial : unwrap_or (option_map (λ (m : ℕ × Kind). m.0) (last_of above)) 0 ≡ number n.parent
  single_root : (eqb (length above) 0 && ltb 0 (length read)) ≡ false
  unmixed : mixes read (last_of above) n.kind ≡ false

root_below : (number : ℕ → ℕ) (nodes : List Node) → IsNumbering number nodes → (n : Node) → n.parent ≡ 0 → list_any (has_serial 0) nodes ≡ false → IsBelow number nodes [] n []
root_below number nodes is n root none =
    let no_parent : list_any (has_serial n.parent) nodes ≡ false = subst (λ (s : ℕ). list_any (has_serial s) nodes ≡ false) (sym root) none in
    record {
      kind = sym (ap kind_of (none_found nodes n.parent no_parent));
      serial = sym (ap number root ∙ is.none);
      single_root = refl;
      unmixed = refl;
    }

child_below : (number : ℕ → ℕ) (nodes : List Node) → IsNumbering number nodes → (front : List Node) (n : Node) (above : List ℕ) → list_any (has_serial n.parent) nodes ≡ true
    → list_all (λ (m : Node). not (eqb m.parent n.parent) || same_test (is_class_kind m.kind) (is_class_kind n.kind)) front ≡ true
    → IsBelow number nodes (map (new number) front) n (branch_of number nodes (n.parent ∷ above))
child_below number nodes is front n above there agree =
    let last : last_of (branch_of number nodes (n.parent ∷ above)) ≡ Some (level number nodes n.parent) = ap (λ (xs : List (ℕ × Kind)). last_of xs) (branch_on number nodes n.parent above) ∙ last_behind (branch_of number nodes above) (level number nodes n.parent) in
    let parent = some_found nodes n.parent there in
    let kinds : Some (kind_with nodes n.parent) ≡ kind_of (node_with nodes n.parent) = rw (parent.1) refl in
    let deep : eqb (length (branch_of number nodes (n.parent ∷ above))) 0 ≡ false = ne_eqb _ _ (λ e. omega (arith, length_branch number nodes (n.parent ∷ above))) in
    record {
      kind = ap (option_map (λ (m : ℕ × Kind). m.1)) last ∙ kinds;
      serial = ap (λ (o : Option (ℕ × Kind)). unwrap_or (option_map (λ (m : ℕ × Kind). m.0) o) 0) last;
      single_root = rw deep refl;
      unmixed = ap (λ (o : Option (ℕ × Kind)). mixes (map (new number) front) o n.kind) last ∙ unmixed number nodes is front n.parent n.kind (is.some n.parent there) agree;
    }

opens : (opened : List ℕ) (parent : ℕ) → list_any (λ s. eqb s parent) opened ≡ true → (above : List ℕ) × (open_from parent opened ≡ parent ∷ above)
opens [] parent e = absurd cc
opens (s ∷ above) parent e = by s above parent (eqb s parent) refl e (opens above parent)
  where
    by : (s : ℕ) (above : List ℕ) (parent : ℕ) (t : Bool) → eqb s parent ≡ t → list_any (λ s. eqb s parent) (s ∷ above) ≡ true → (list_any (λ s. eqb s parent) above ≡ true → (kept : List ℕ) × (open_from parent above ≡ parent ∷ kept))
        → (kept : List ℕ) × (open_from parent (s ∷ above) ≡ parent ∷ kept)
    by s above parent true t e other = (above, rw t (ap (λ (p : ℕ). p ∷ above) (eqb-true _ _ t)))
    by s above parent false t e other = let rest : list_any (λ s. eqb s parent) above ≡ true = rw t at e in let kept = other rest in (kept.0, rw t (kept.1))

-- a node with a depth stands before
among_some : (before : List Node) (serial depth : ℕ) → depth_among (depths_back before) serial ≡ suc depth → list_any (has_serial serial) before ≡ true
among_some [] serial depth e = absurd (omega arith)
among_some (m ∷ before) serial depth e = by m before serial depth (has_serial serial m) refl e (among_some before serial depth)
  where
    by : (m : Node) (before : List Node) (serial depth : ℕ) (t : Bool) → has_serial serial m ≡ t → depth_among (depths_back (m ∷ before)) serial ≡ suc depth → (depth_among (depths_back before) serial ≡ suc depth → list_any (has_serial serial) before ≡ true)
        → list_any (has_serial serial) (m ∷ before) ≡ true
    by m before serial depth true t e other = rw t refl
    by m before serial depth false t e other = let rest : depth_among (depths_back before) serial ≡ suc depth = rw t at e in rw t (other rest)

no_zero : (nodes : List Node) (next : ℕ) → AllByRecursion (λ (n : Node). (0 < n.serial) × (n.serial < next)) nodes → list_any (has_serial 0) nodes ≡ false
no_zero [] next h = refl
no_zero (n ∷ nodes) next h = let some : eqb n.serial 0 ≡ false = ne_eqb _ _ (λ e. omega (arith, h.0.0)) in rw (some, no_zero nodes next h.1) refl

below : (number : ℕ → ℕ) (nodes : List Node) → IsNumbering number nodes → (before : List Node) (opened : List ℕ) (n : Node) (rest : List Node) → IsWalked before opened (n ∷ rest) → nodes ≡ reverse before ++ n ∷ rest → list_any (has_serial 0) nodes ≡ false → agree_with nodes n.parent n.kind ≡ true
    → IsBelow number nodes (map (new number) (reverse before)) n (branch_of number nodes (open_from n.parent opened))
below number nodes is before [] n rest walked all none agree =
    subst (λ (before : List Node). IsBelow number nodes (map (new number) (reverse before)) n []) (sym walked.tree.0) (root_below number nodes is n walked.tree.1.0 none)
below number nodes is before (s ∷ above) n rest walked all none agree =
    let kept = opens (s ∷ above) n.parent walked.tree.0 in
    let depth : depth_among (depths_back before) n.parent ≡ suc (length kept.0) = next_depth before (s ∷ above) n rest walked ∙ ap (λ (xs : List ℕ). length xs) kept.1 in
    let there : list_any (has_serial n.parent) nodes ≡ true =
    subst (λ (xs : List Node). list_any (has_serial n.parent) xs ≡ true) (sym all) (some_front (has_serial n.parent) (reverse before) (n ∷ rest) (any_reverse (has_serial n.parent) before (among_some before n.parent (length kept.0) depth))) in
    let front = all_front (λ (m : Node). not (eqb m.parent n.parent) || same_test (is_class_kind m.kind) (is_class_kind n.kind)) (reverse before) (n ∷ rest)
    (subst (λ (xs : List Node). list_all (λ (m : Node). not (eqb m.parent n.parent) || same_test (is_class_kind m.kind) (is_class_kind n.kind)) xs ≡ true) all agree) in
    subst (λ (opened : List ℕ). IsBelow number nodes (map (new number) (reverse before)) n (branch_of number nodes opened)) (sym kept.1) (child_below number nodes is (reverse before) n kept.0 there front)

-- ---- one line

abbrev so_far : (ℕ → ℕ) → Option ℕ → List Node → List Node → List ℕ → Outline
so_far number next nodes before opened = record { nodes = map (new number) (reverse before); branch = branch_of number nodes opened; next = next }

-- an outline with one more node below these
abbrev outline_on : Outline → List (ℕ × Kind) → Node → Outline
outline_on outline above node = record outline { nodes = outline.nodes ++ node ∷ []; branch = above ++ (node.serial, node.kind) ∷ [] }

abbrev read : Outline → Result Outline Refusal
read outline = Ok outline

abbrev in_seq : List (ℕ × Kind) → Bool
in_seq above = is_seq_parent (option_map (λ (n : ℕ × Kind). n.1) (last_of above))

-- a node of this depth may stand below these
record IsReady (outline : Outline) (depth : ℕ) (above : List (ℕ × Kind)) (k : Kind) (attrs : Attrs) : Type 0 where
  taken : take depth outline.branch ≡ above
  flat : depth < 32
  near : depth ≤ length outline.branch
  room : IsRoom outline.nodes above k attrs
  own : IsAttrs (in_seq above) k attrs

line_at : (outline : Outline) (depth serial : ℕ) (above : List (ℕ × Kind)) (k : Kind) (attrs : Attrs) (line : List ℕ) (shape : Shape) → IsReady outline depth above k attrs
    → (IsAttrs (in_seq (take depth outline.branch)) k attrs → IsShaped outline depth serial k attrs line shape) → with_line outline line ≡ Ok (outline_on outline above (made serial above k attrs))
line_at outline depth serial above k attrs line shape ready shaped =
    let own : IsAttrs (in_seq (take depth outline.branch)) k attrs = subst (λ (xs : List (ℕ × Kind)). IsAttrs (in_seq xs) k attrs) (sym ready.taken) ready.own in
    let room : IsRoom outline.nodes (take depth outline.branch) k attrs = subst (λ (xs : List (ℕ × Kind)). IsRoom outline.nodes xs k attrs) (sym ready.taken) ready.room in
    line_read outline depth serial k attrs line shape (shaped own) ready.flat ready.near room
    ∙ ap (λ (xs : List (ℕ × Kind)). read (outline_on outline xs (made serial xs k attrs))) ready.taken

-- a line without a serial
plain_shaped : (nodes : List Node) (branch : List (ℕ × Kind)) (depth : ℕ) (k : Kind) (attrs : Attrs) → length (node_text depth k attrs) ≤ LINE_BYTES → IsAttrs (in_seq (take depth branch)) k attrs
    → IsShaped (record { nodes = nodes; branch = branch; next = None }) depth (length nodes + 1) k attrs (node_text depth k attrs) (shape_from (length (kind_text k)) k attrs)
plain_shaped nodes branch depth k attrs short h =
    let seq = in_seq (take depth branch) in
    record {
      short = short;
      later = plain_opens_none (record { nodes = nodes; branch = branch; next = None }) depth k attrs;
      spaces = line_spaces depth k attrs;
      shaped = ap (λ (text : List ℕ). option_map (λ shape. (length nodes + 1, shape)) (shape_of text)) (line_text depth k attrs) ∙ ap (option_map (λ shape. (length nodes + 1, shape))) (plain_shape seq k attrs h);
      is = shape_is seq k attrs (length (kind_text k)) h;
      fresh = refl;
    }

-- a line with its serial, which no node before has
saved_shaped : (nodes : List Node) (branch : List (ℕ × Kind)) (next depth serial : ℕ) (k : Kind) (attrs : Attrs) → length (saved_node_text depth k serial attrs) ≤ LINE_BYTES
    → 0 < serial → serial < next → next ≤ 999_999_999 → list_any (has_serial serial) nodes ≡ false → IsAttrs (in_seq (take depth branch)) k attrs
    → IsShaped (record { nodes = nodes; branch = branch; next = Some next }) depth serial k attrs (saved_node_text depth k serial attrs) (shape_from (length (kind_text k) + 2 + length (decimal serial)) k attrs)
saved_shaped nodes branch next depth serial k attrs short some under few new h =
    let seq = in_seq (take depth branch) in
    let below : ltb serial next ≡ true = lt-ltb _ _ under in
    record {
      short = short;
      later = refl;
      spaces = saved_spaces depth k serial attrs;
      shaped = ap saved_shape_of (saved_line_text depth k serial attrs) ∙ saved_shape seq k serial attrs h some (omega arith);
      is = shape_is seq k attrs (length (kind_text k) + 2 + length (decimal serial)) h;
      fresh = rw (below, new) refl;
    }

-- what a valid document says of a node behind others
record IsSound (nodes before : List Node) (n : Node) : Type 0 where
  flat : depth_among (depths_back before) n.parent < 32
  stand : may_stand (kind_of (node_with nodes n.parent)) n.kind ≡ true
  agree : agree_with nodes n.parent n.kind ≡ true
  fit : has_fitting_attrs nodes n ≡ true
  first : list_any (has_serial n.serial) (reverse before) ≡ false
  free : is_id_taken nodes n.serial n.attrs.id ≡ false

sound : (document : Document) → IsValid document → (before : List Node) (n : Node) (rest : List Node) → document.nodes ≡ reverse before ++ n ∷ rest → IsDistinct (n ∷ rest) → IsSound document.nodes before n
sound document valid before n rest all distinct =
    let nodes = document.nodes in
    let placed : is_well_placed nodes n ≡ true = all_at (is_well_placed nodes) (reverse before) n rest (subst (λ (xs : List Node). list_all (is_well_placed nodes) xs ≡ true) all valid.placed) in
    let last = and_parts (ltb (depth_of nodes n.serial) 32 && may_stand (kind_of (node_with nodes n.parent)) n.kind) (agree_with nodes n.parent n.kind) placed in
    let deep = and_parts (ltb (depth_of nodes n.serial) 32) (may_stand (kind_of (node_with nodes n.parent)) n.kind) last.0 in
    let low : depth_of nodes n.serial < 32 = ltb-true _ _ deep.0 in
    let depth : depth_of nodes n.serial ≡ depth_among (depths_back before) n.parent =
    ap (λ (xs : List Node). depth_of xs n.serial) all ∙ depth_is (reverse before) n rest distinct ∙ ap (λ (xs : List Node). depth_among (depths_back xs) n.parent) (reverse-reverse before) in
    record {
      flat = omega arith;
      stand = deep.1;
      agree = last.1;
      fit = all_at (has_fitting_attrs nodes) (reverse before) n rest (subst (λ (xs : List Node). list_all (has_fitting_attrs nodes) xs ≡ true) all valid.fitting);
      first = differ_before (reverse before) n rest (subst IsDistinct all valid.numbered.distinct);
      free = none_at (λ (m : Node). is_id_taken nodes m.serial m.attrs.id) (reverse before) n rest (subst (λ (xs : List Node). list_any (λ (m : Node). is_id_taken nodes m.serial m.attrs.id) xs ≡ false) all valid.ids);
    }

few_before : (number : ℕ → ℕ) (nodes before : List Node) (n : Node) (rest : List Node) → nodes ≡ reverse before ++ n ∷ rest → length nodes ≤ 8000 → length (map (new number) (reverse before)) < 8000
few_before number nodes before n rest all le =
    let len : length nodes ≡ length (reverse before) + length (n ∷ rest) = ap (λ (xs : List Node). length xs) all ∙ length-append (reverse before) (n ∷ rest) in
    omega (arith, length-map (reverse before) (new number))

room : (number : ℕ → ℕ) (document : Document) → IsValid document → (before : List Node) (n : Node) (rest : List Node) (above : List (ℕ × Kind)) → document.nodes ≡ reverse before ++ n ∷ rest → IsSound document.nodes before n
    → IsBelow number document.nodes (map (new number) (reverse before)) n above → IsRoom (map (new number) (reverse before)) above n.kind n.attrs
room number document valid before n rest above all is under =
    let nodes = document.nodes in
    let named = absent_or is_id n.attrs.id in
    let texts = list_all (fits_text n.kind n.attrs.texts) text_names in
    let id : absent_or is_id n.attrs.id ≡ true = (and_parts named texts (and_parts (named && texts) _ is.fit).0).0 in
    let free : is_id_taken (reverse before ++ n ∷ rest) n.serial n.attrs.id ≡ false = subst (λ (xs : List Node). is_id_taken xs n.serial n.attrs.id ≡ false) all is.free in
    let few : all_references nodes ≤ 32000 = valid.references in
    let sum : all_references nodes ≡ all_references (reverse before ++ n ∷ rest) = ap all_references all in
    record {
      fits = ap (λ (parent : Option Kind). may_stand parent n.kind) under.kind ∙ is.stand;
      single_root = under.single_root;
      unmixed = under.unmixed;
      own_id = free_id number (reverse before) n rest id is.first free;
      few = few_before number nodes before n rest all valid.nodes;
      light = omega (arith, light number (reverse before) n rest);
    }

-- the node that is made is the node with its number as its serial
made_is : (number : ℕ → ℕ) (nodes read : List Node) (serial : ℕ) (n : Node) (above : List (ℕ × Kind)) → serial ≡ number n.serial → IsBelow number nodes read n above → made serial above n.kind n.attrs ≡ new number n
made_is number nodes read serial n above same under =
    ap (λ (s : ℕ). record { serial = s; kind = n.kind; parent = unwrap_or (option_map (λ (m : ℕ × Kind). m.0) (last_of above)) 0; attrs = n.attrs }) same
    ∙ ap (λ (p : ℕ). record { serial = number n.serial; kind = n.kind; parent = p; attrs = n.attrs }) under.serial

-- its position is its number
place_is : (nodes before : List Node) (n : Node) (rest : List Node) → nodes ≡ reverse before ++ n ∷ rest → list_any (has_serial n.serial) (reverse before) ≡ false
    → length (map (new (number_of nodes)) (reverse before)) + 1 ≡ number_of nodes n.serial
place_is nodes before n rest all first =
    ap (λ (len : ℕ). len + 1) (length-map (reverse before) (new (number_of nodes))) ∙ add-one (length (reverse before)) ∙ sym (ap (λ (xs : List Node). number_of xs n.serial) all ∙ number_is (reverse before) n rest first)

grown : (number : ℕ → ℕ) (next : Option ℕ) (nodes before : List Node) (n : Node) (rest : List Node) (kept opened : List ℕ) → nodes ≡ reverse before ++ n ∷ rest → list_any (has_serial n.serial) (reverse before) ≡ false
    → outline_on (so_far number next nodes before opened) (branch_of number nodes kept) (new number n) ≡ so_far number next nodes (n ∷ before) (n.serial ∷ kept)
grown number next nodes before n rest kept opened all first =
    let more : map (new number) (reverse before) ++ new number n ∷ [] ≡ map (new number) (reverse (n ∷ before)) =
    sym (ap (map (new number)) (reverse-append (n ∷ []) before) ∙ map-append (new number) (reverse before) (n ∷ [])) in
    let here : node_with nodes n.serial ≡ Some n = ap (λ (xs : List Node). node_with xs n.serial) all ∙ found (reverse before) n rest first in
    let kinds : n.kind ≡ kind_with nodes n.serial = sym (ap (λ (o : Option Node). unwrap_or (kind_of o) kind.Par) here) in
    let longer : branch_of number nodes kept ++ (number n.serial, n.kind) ∷ [] ≡ branch_of number nodes (n.serial ∷ kept) =
    ap (λ (k : Kind). branch_of number nodes kept ++ (number n.serial, k) ∷ []) kinds ∙ sym (branch_on number nodes n.serial kept) in
    ap (λ (xs : List Node). record { nodes = xs; branch = branch_of number nodes kept ++ (number n.serial, n.kind) ∷ []; next = next }) more
    ∙ ap (λ (branch : List (ℕ × Kind)). record { nodes = map (new number) (reverse (n ∷ before)); branch = branch; next = next }) longer

-- what stands before a node of a valid document
record IsWithin (number : ℕ → ℕ) (document : Document) (before : List Node) (opened : List ℕ) (n : Node) (rest : List Node) : Type 0 where
  valid : IsValid document
  numbering : IsNumbering number document.nodes
  walked : IsWalked before opened (n ∷ rest)
  all : document.nodes ≡ reverse before ++ n ∷ rest

module _ (number : ℕ → ℕ) (next : Option ℕ) (document : Document) (before : List Node) (opened : List ℕ) (n : Node) (rest : List Node) (within : IsWithin number document before opened n rest) where
  abbrev outline : Outline
  outline = so_far number next document.nodes before opened

  abbrev depth : ℕ
  depth = depth_among (depths_back before) n.parent

  abbrev kept : List ℕ
  kept = open_from n.parent opened

  abbrev above : List (ℕ × Kind)
  above = branch_of number document.nodes kept

  is_sound : IsSound document.nodes before n
  is_sound = sound document within.valid before n rest within.all within.walked.distinct

  under : IsBelow number document.nodes (map (new number) (reverse before)) n above
  under =
      below number document.nodes within.numbering before opened n rest within.walked within.all
      (no_zero document.nodes document.next (recursion_from_All _ document.nodes within.valid.numbered.below)) is_sound.agree

  ready : IsReady outline depth above n.kind n.attrs
  ready =
      let deep : depth ≡ length kept = next_depth before opened n rest within.walked in
      record {
        taken = ap (λ (d : ℕ). take d outline.branch) deep ∙ kept_front number document.nodes opened n.parent;
        flat = is_sound.flat;
        near = omega (arith, length_branch number document.nodes opened, fewer opened n.parent);
        room = room number document within.valid before n rest above within.all is_sound under;
        own = subst (λ (parent : Option Kind). IsAttrs (is_seq_parent parent) n.kind n.attrs) (sym under.kind) (fits n.kind (kind_of (node_with document.nodes n.parent)) n.attrs is_sound.fit);
      }

  -- a line that is shaped as this node's is read as one more node
  node_read : (serial : ℕ) (line : List ℕ) (shape : Shape) → serial ≡ number n.serial → (IsAttrs (in_seq (take depth outline.branch)) n.kind n.attrs → IsShaped outline depth serial n.kind n.attrs line shape)
      → with_line outline line ≡ Ok (so_far number next document.nodes (n ∷ before) (n.serial ∷ kept))
  node_read serial line shape same shaped =
      line_at outline depth serial above n.kind n.attrs line shape ready shaped
      ∙ ap (λ (node : Node). read (outline_on outline above node)) (made_is number document.nodes (map (new number) (reverse before)) serial n above same under)
      ∙ ap read (grown number next document.nodes before n rest kept opened within.all is_sound.first)

-- ---- all lines

some_node : (nodes : List Node) → IsTree nodes → 0 < length nodes
some_node [] h = absurd h
some_node (n ∷ nodes) h = omega arith

one_more : (nodes before : List Node) (n : Node) (rest : List Node) → nodes ≡ reverse before ++ n ∷ rest → nodes ≡ reverse (n ∷ before) ++ rest
one_more nodes before n rest all = all ∙ sym (append_assoc (reverse before) (n ∷ []) rest) ∙ ap (λ (xs : List Node). xs ++ rest) (sym (reverse-append (n ∷ []) before))

-- without serials

by_places : (document : Document) → IsValid document → IsNumbering (number_of document.nodes) document.nodes
by_places document valid = record {
  once = number_once document.nodes;
  some = number_some document.nodes;
  none = number_none document.nodes 0 (no_zero document.nodes document.next (recursion_from_All _ document.nodes valid.numbered.below));
}

ended_is : (nodes read : List Node) (branch : List (ℕ × Kind)) → read ≡ nodes → 0 < length nodes → ended (record { nodes = map (new (number_of nodes)) read; branch = branch; next = None }) ≡ Ok (renumbered nodes)
ended_is nodes read branch e some =
    let same : length (map (new (number_of nodes)) nodes) ≡ length nodes = length-map nodes (new (number_of nodes)) in
    let not_empty : eqb (length (map (new (number_of nodes)) nodes)) 0 ≡ false = ne_eqb _ _ (λ z. omega arith) in
    ap (λ (xs : List Node). ended (record { nodes = map (new (number_of nodes)) xs; branch = branch; next = None })) e ∙ rw (not_empty, same) refl

step : (document : Document) → IsValid document → (before : List Node) (opened : List ℕ) (n : Node) (rest : List Node) → IsWalked before opened (n ∷ rest) → document.nodes ≡ reverse before ++ n ∷ rest
    → length (node_text (depth_among (depths_back before) n.parent) n.kind n.attrs) ≤ LINE_BYTES
    → with_line (so_far (number_of document.nodes) None document.nodes before opened) (node_text (depth_among (depths_back before) n.parent) n.kind n.attrs)
    ≡ Ok (so_far (number_of document.nodes) None document.nodes (n ∷ before) (n.serial ∷ open_from n.parent opened))
step document valid before opened n rest walked all short =
    let number = number_of document.nodes in
    let within : IsWithin number document before opened n rest = record { valid = valid; numbering = by_places document valid; walked = walked; all = all } in
    let is = sound document valid before n rest all walked.distinct in
    let depth = depth_among (depths_back before) n.parent in
    node_read number None document before opened n rest within (length (map (new number) (reverse before)) + 1) (node_text depth n.kind n.attrs) (shape_from (length (kind_text n.kind)) n.kind n.attrs)
    (place_is document.nodes before n rest all is.first)
    (plain_shaped (map (new number) (reverse before)) (branch_of number document.nodes opened) depth n.kind n.attrs short)

read_on : (document : Document) → IsValid document → (before : List Node) (opened : List ℕ) (rest : List Node) → IsWalked before opened rest → document.nodes ≡ reverse before ++ rest
    → AllByRecursion (λ (line : List ℕ). length line ≤ LINE_BYTES) (lines_from (depths_back before) rest)
    → (with_lines (so_far (number_of document.nodes) None document.nodes before opened) (lines_from (depths_back before) rest) >>= ended) ≡ Ok (renumbered document.nodes)
read_on document valid before opened [] walked all short =
    ended_is document.nodes (reverse before) (branch_of (number_of document.nodes) document.nodes opened) (sym (all ∙ append-nil (reverse before))) (some_node document.nodes valid.numbered.tree)
read_on document valid before opened (n ∷ rest) walked all short =
    ap (λ (r : Result Outline Refusal). (r >>= λ more. with_lines more (lines_from (depths_back (n ∷ before)) rest)) >>= ended) (step document valid before opened n rest walked all short.0)
    ∙ read_on document valid (n ∷ before) (n.serial ∷ open_from n.parent opened) rest (walk_on before opened n rest walked) (one_more document.nodes before n rest all) short.1

pub outline_read : (document : Document) → IsValid document → All (λ (line : List ℕ). length line ≤ LINE_BYTES) (lines_from [] document.nodes) → outline_of (lines_from [] document.nodes) ≡ Ok (renumbered document.nodes)
outline_read document valid short = read_on document valid [] [] document.nodes (walk_starts document valid) refl (recursion_from_All (λ (line : List ℕ). length line ≤ LINE_BYTES) (lines_from [] document.nodes) short)

-- with serials

abbrev own_number : ℕ → ℕ
own_number serial = serial

same_nodes : (nodes : List Node) → map (new own_number) nodes ≡ nodes
same_nodes [] = refl
same_nodes (n ∷ nodes) = ap (λ (ms : List Node). n ∷ ms) (same_nodes nodes)

above_zero : (nodes : List Node) → list_any (has_serial 0) nodes ≡ false → (serial : ℕ) → list_any (has_serial serial) nodes ≡ true → 0 < serial
above_zero nodes none zero there = absurd cc
above_zero nodes none (suc serial) there = omega arith

by_serials : (document : Document) → IsValid document → IsNumbering own_number document.nodes
by_serials document valid = record {
  once = λ a b e some. e;
  some = above_zero document.nodes (no_zero document.nodes document.next (recursion_from_All _ document.nodes valid.numbered.below));
  none = refl;
}

serial_at : (next : ℕ) (front : List Node) (n : Node) (rest : List Node) → AllByRecursion (λ (m : Node). (0 < m.serial) × (m.serial < next)) (front ++ n ∷ rest) → (0 < n.serial) × (n.serial < next)
serial_at next [] n rest h = h.0
serial_at next (m ∷ front) n rest h = serial_at next front n rest h.1

header_read : (next : ℕ) → 0 < next → next ≤ 999_999_999 → length (header_text next) ≤ LINE_BYTES → with_line no_lines (header_text next) ≡ Ok (record { nodes = []; branch = []; next = Some next })
header_read next some few short =
    let not_long : ltb LINE_BYTES (length (header_text next)) ≡ false = le-ltb _ _ short in
    let number : count_of (decimal next) ≡ Some next = count_read next some (omega arith) in
    as_header no_lines (header_text next) not_long refl ∙ ap (with_header no_lines) number

saved_ended : (nodes read : List Node) (branch : List (ℕ × Kind)) (next : ℕ) → read ≡ nodes → 0 < length nodes
    → ended (record { nodes = map (new own_number) read; branch = branch; next = Some next }) ≡ Ok (record { nodes = nodes; next = next })
saved_ended nodes read branch next e some =
    let not_empty : eqb (length nodes) 0 ≡ false = ne_eqb _ _ (λ z. omega arith) in
    ap (λ (xs : List Node). ended (record { nodes = xs; branch = branch; next = Some next })) (same_nodes read ∙ e) ∙ rw not_empty refl

saved_step : (document : Document) → IsValid document → (before : List Node) (opened : List ℕ) (n : Node) (rest : List Node) → IsWalked before opened (n ∷ rest) → document.nodes ≡ reverse before ++ n ∷ rest
    → length (saved_node_text (depth_among (depths_back before) n.parent) n.kind n.serial n.attrs) ≤ LINE_BYTES
    → with_line (so_far own_number (Some document.next) document.nodes before opened) (saved_node_text (depth_among (depths_back before) n.parent) n.kind n.serial n.attrs)
    ≡ Ok (so_far own_number (Some document.next) document.nodes (n ∷ before) (n.serial ∷ open_from n.parent opened))
saved_step document valid before opened n rest walked all short =
    let within : IsWithin own_number document before opened n rest = record { valid = valid; numbering = by_serials document valid; walked = walked; all = all } in
    let is = sound document valid before n rest all walked.distinct in
    let depth = depth_among (depths_back before) n.parent in
    let bounds = serial_at document.next (reverse before) n rest
    (subst (AllByRecursion (λ (m : Node). (0 < m.serial) × (m.serial < document.next))) all (recursion_from_All _ document.nodes valid.numbered.below)) in
    let new_serial : list_any (has_serial n.serial) (map (new own_number) (reverse before)) ≡ false = ap (list_any (has_serial n.serial)) (same_nodes (reverse before)) ∙ is.first in
    node_read own_number (Some document.next) document before opened n rest within n.serial (saved_node_text depth n.kind n.serial n.attrs)
    (shape_from (length (kind_text n.kind) + 2 + length (decimal n.serial)) n.kind n.attrs) refl
    (saved_shaped (map (new own_number) (reverse before)) (branch_of own_number document.nodes opened) document.next depth n.serial n.kind n.attrs short bounds.0 bounds.1 valid.numbered.next new_serial)

saved_on : (document : Document) → IsValid document → (before : List Node) (opened : List ℕ) (rest : List Node) → IsWalked before opened rest → document.nodes ≡ reverse before ++ rest
    → AllByRecursion (λ (line : List ℕ). length line ≤ LINE_BYTES) (saved_lines_from (depths_back before) rest)
    → (with_lines (so_far own_number (Some document.next) document.nodes before opened) (saved_lines_from (depths_back before) rest) >>= ended) ≡ Ok document
saved_on document valid before opened [] walked all short =
    saved_ended document.nodes (reverse before) (branch_of own_number document.nodes opened) document.next (sym (all ∙ append-nil (reverse before))) (some_node document.nodes valid.numbered.tree)
saved_on document valid before opened (n ∷ rest) walked all short =
    ap (λ (r : Result Outline Refusal). (r >>= λ more. with_lines more (saved_lines_from (depths_back (n ∷ before)) rest)) >>= ended) (saved_step document valid before opened n rest walked all short.0)
    ∙ saved_on document valid (n ∷ before) (n.serial ∷ open_from n.parent opened) rest (walk_on before opened n rest walked) (one_more document.nodes before n rest all) short.1

first_serial : (next : ℕ) (nodes : List Node) → IsTree nodes → AllByRecursion (λ (m : Node). (0 < m.serial) × (m.serial < next)) nodes → 0 < next
first_serial next [] tree h = absurd tree
first_serial next (n ∷ nodes) tree h = omega (arith, h.0.0, h.0.1)

pub saved_outline_read : (document : Document) → IsValid document → All (λ (line : List ℕ). length line ≤ LINE_BYTES) (saved_lines document) → outline_of (saved_lines document) ≡ Ok document
saved_outline_read document valid short =
    let lines = recursion_from_All (λ (line : List ℕ). length line ≤ LINE_BYTES) (saved_lines document) short in
    let some = first_serial document.next document.nodes valid.numbered.tree (recursion_from_All _ document.nodes valid.numbered.below) in
    ap (λ (r : Result Outline Refusal). (r >>= λ more. with_lines more (saved_lines_from [] document.nodes)) >>= ended) (header_read document.next some valid.numbered.next lines.0)
    ∙ saved_on document valid [] [] document.nodes (walk_starts document valid) refl lines.1
