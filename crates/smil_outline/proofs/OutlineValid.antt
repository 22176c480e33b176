-- What an outline is read as is a valid document.
use Rattle.std.proofs.Common.{◌≡◌, ℕ, zero, suc, ◌+◌, ◌-◌, ◌<◌, ◌≤◌, Bool, true, false, not, cond, eqb, ltb, leb, ◌&&◌, ◌||◌, List, [], ◌∷◌, ◌++◌, length, take, drop, map, reverse, Option, Some, None, option_map, is_some, Result, Ok, Err, refl, sym, ap, subst, ◌∙◌, arith, length-append, length-take, inl, inr, ◌⊎◌}
use Rattle.std.specs.Prelude.{◌/◌, ◌%◌, unwrap_or, option_and_then, sum_by, bytes_eq, codes, IfSome}
use Rattle.std.specs.Bool.{nat_eq}
use Rattle.std.specs.Char.{is_ascii_digit}
use Rattle.std.specs.List.{prefix_len, list_any, list_all, starts_with, AllByRecursion}
use Rattle.std.proofs.lemmas.Bool.{and_parts, and_right, or_parts, or_right, eq-eqb, eqb-true, lt-ltb, ltb-true, leb-false, ltb-false, not-false, ne_eqb, cond_both}
use Rattle.std.proofs.lemmas.Bool.Decides.{nat_tests}
use Rattle.std.proofs.lemmas.List.{reverse-append, take-append-drop, map-append}
use Rattle.std.proofs.lemmas.List.Elements.{All-from_recursion}
use Rattle.std.proofs.lemmas.List.Folds.{list_all-append, list_any-append}
use Rattle.std.proofs.lemmas.List.Sums.{sum_by-append, sum_by-cons}
use Rattle.smil_model.specs.declared.document.Kind.{Kind}
use Rattle.smil_model.specs.declared.document.Node.{Node}
use Rattle.smil_model.specs.declared.document.Attrs.{Attrs}
use Rattle.smil_model.specs.declared.order.Refusal.{Refusal}
use Rattle.smil_model.specs.declared.order.Refusal.TheVariants as refusal
use Rattle.smil_model.specs.document.Document.{Document, is_class_kind, has_id, node_at as node_with}
use Rattle.smil_model.specs.document.Document.{upwards as lineage_up}
use Rattle.smil_model.specs.document.Values.{fit_kind, is_seq_parent}
use Rattle.smil_model.specs.document.Valid.{open_from, IsDistinct, IsTreeFrom, IsTree, IsValid, depth_of, kind_of, may_stand, same_test, agree_with, is_well_placed, has_fitting_attrs, is_other_with, is_id_taken, references_of, references_among}
use Rattle.smil_grammar.specs.declared.fault.NodeFault.{NodeFault}
use Rattle.smil_grammar.specs.Results.{◌>>=◌}
use Rattle.smil_grammar.specs.Allowed.{IsAttrs}
use Rattle.smil_grammar.specs.Texts.{behind}
use Rattle.smil_grammar.specs.Items.{count_of}
use Rattle.smil_grammar.specs.Nodes.{Shape, is_space, is_of_kind, shape_of, with_serial, shape_behind, saved_shape_of, kind_of_shape}
use Rattle.smil_model.specs.declared.limits.TheConstants.{NODES, DEPTH, REFERENCES, SERIALS, LINE_BYTES}
use Rattle.smil_model.specs.document.Limits.{limits}
use Rattle.smil_time_list.proofs.PrintableItems.{IsCounted, count_small}
use Rattle.smil_laws.proofs.LineageParents.{swap_eqb}
use Rattle.smil_laws.proofs.Lists.{each_at, each_push, each_take, each_weaker, bytes_swap}
use Rattle.smil_outline.specs.Branches.{is_known, IsRead}
use Rattle.smil_outline.proofs.ChildrenAlike.{other_serial, known_on, known_self}
use Rattle.smil_grammar.specs.Outlines.{Outline, refuse_if, in_line, mixes, has_id as has_id_among, attrs_in, last_of, no_lines, shape_in, is_bad_serial, is_misplaced, opens_saved, header_of, with_header, node_within, shape_within, read_within, with_line, with_lines, ended, outline_of}
use Rattle.smil_grammar.specs.Outlines.{with_node as outline_with}
use Rattle.smil_attrs.proofs.LineRoundTrip.{attrs_had_from}
use Rattle.smil_outline.specs.Open.{upwards}
use Rattle.smil_outline.proofs.OpenBranch.{level, upwards_on, length_upwards}
use Rattle.smil_outline.proofs.DepthWalk.{Levels, AreFresh, IsRest, IsWalked, next_depth, walk_on, depth_is}
use Rattle.smil_outline.proofs.NodeRoundTrip.{IsRoom, made}
use Rattle.smil_outline.proofs.ReadValuesFit.{ranges}
use Rattle.smil_outline.proofs.OutlineRoundTrip.{found}

-- ---- a line that is read

goes : {A : Type 0} (t : Bool) (e : Refusal) (r : Result A Refusal) (x : A) → (refuse_if t e >>= λ _. r) ≡ Ok x → (t ≡ false) × (r ≡ Ok x)
goes true e r x h = absurd cc
goes false e r x h = (refl, h)

record GivesOk {A : Type 0} (B : Type 0) (r : Result B NodeFault) (f : B → Result A Refusal) (x : A) : Type 0 where
  value : B
  is : r ≡ Ok value
  rest : f value ≡ Ok x

given : {A B : Type 0} (spaces : ℕ) (r : Result B NodeFault) (f : B → Result A Refusal) (x : A) → (in_line spaces r >>= f) ≡ Ok x → GivesOk B r f x
given spaces (Ok y) f x h = record { value = y; is = refl; rest = h }
given spaces (Err e) f x h = absurd cc

record MakesOk {A B : Type 0} (r : Result B Refusal) (f : B → Result A Refusal) (x : A) : Type 0 where
  value : B
  is : r ≡ Ok value
  rest : f value ≡ Ok x

ok_of : {A B : Type 0} (r : Result B Refusal) (f : B → Result A Refusal) (x : A) → (r >>= f) ≡ Ok x → MakesOk r f x
ok_of (Ok y) f x h = record { value = y; is = refl; rest = h }
ok_of (Err e) f x h = absurd cc

-- a serial that a line of this outline can have
abbrev pub IsGiven : Option ℕ → List Node → ℕ → Type 0
IsGiven None nodes serial = serial ≡ length nodes + 1
IsGiven (Some next) nodes serial = (0 < serial) × (serial < next) × (list_any (λ (n : Node). eqb n.serial serial) nodes ≡ false)

-- what a node line adds
pub record IsAdded (old new : Outline) : Type 0 where
  pub serial : ℕ
  pub depth : ℕ
  pub kind : Kind
  pub attrs : Attrs
  pub given : IsGiven old.next old.nodes serial
  pub near : depth ≤ length old.branch
  pub flat : depth < 32
  pub room : IsRoom old.nodes (take depth old.branch) kind attrs
  pub allowed : IsAttrs (is_seq_parent (option_map (λ (n : ℕ × Kind). n.1) (last_of (take depth old.branch)))) kind attrs
  pub is : new ≡ outline_with old depth (made serial (take depth old.branch) kind attrs)

-- what a header adds
pub record IsHeaded (old new : Outline) : Type 0 where
  pub next : ℕ
  pub few : next < 1_000_000_000
  pub none : length old.nodes ≡ 0
  pub is : new ≡ record old { next = Some next }

serial_given : (outline : Outline) (next : Option ℕ) (text : List ℕ) (serial : ℕ) (shape : Shape) → shape_in outline next text ≡ Some (serial, shape) → is_bad_serial outline next serial ≡ false → IsGiven next outline.nodes serial
serial_given outline None text serial shape e fresh = by (shape_of text) e
  where
    by : (o : Option Shape) → option_map {U = ℕ × Shape} (λ shape. (length outline.nodes + 1, shape)) o ≡ Some (serial, shape) → serial ≡ length outline.nodes + 1
    by None e = absurd cc
    by (Some other) e = let pair : (length outline.nodes + 1, other) ≡ (serial, shape) = cc in sym (ap (λ (p : ℕ × Shape). p.0) pair)
serial_given outline (Some next) text serial shape e fresh =
    let parts = or_parts (not (ltb serial next)) (list_any (λ (n : Node). eqb n.serial serial) outline.nodes) fresh in
    (subst (λ (o : Option (ℕ × Shape)). IfSome o (λ s. 0 < s.0)) e (positive text), ltb-true _ _ (not-false _ parts.0), parts.1)
  where
    numbered : (count : Option ℕ) (shape : Option Shape) → IfSome count IsCounted → IfSome (with_serial count shape) (λ (s : ℕ × Shape). 0 < s.0)
    numbered None None h = tt
    numbered None (Some shape) h = tt
    numbered (Some n) None h = tt
    numbered (Some n) (Some shape) h = h.0

    behind_kind : (word : List ℕ) (o : Option (List ℕ)) → IfSome (shape_behind word o) (λ (s : ℕ × Shape). 0 < s.0)
    behind_kind word None = tt
    behind_kind word (Some text) = numbered (count_of (take (prefix_len is_ascii_digit text) text)) _ (count_small (take (prefix_len is_ascii_digit text) text))

    positive : (text : List ℕ) → IfSome (saved_shape_of text) (λ (s : ℕ × Shape). 0 < s.0)
    positive text = behind_kind (take (prefix_len is_of_kind text) text) (option_and_then (behind 35) (behind 32 (drop (prefix_len is_of_kind text) text)))

node_added : (outline new : Outline) (spaces serial : ℕ) (k : Kind) (shape : Shape) → IsGiven outline.next outline.nodes serial → spaces / 2 ≤ length outline.branch → spaces / 2 < 32
    → (node_within limits outline spaces (take (spaces / 2) outline.branch) k serial shape >>= λ node. Ok (outline_with outline (spaces / 2) node)) ≡ Ok new → IsAdded outline new
node_added outline new spaces serial k shape given_serial near flat h =
    let above = take (spaces / 2) outline.branch in
    let whole = ok_of (node_within limits outline spaces above k serial shape) (λ node. Ok (outline_with outline (spaces / 2) node)) new h in
    let placed = goes (is_misplaced outline above k) refusal.BadPlace _ whole.value whole.is in
    let attrs = given spaces (attrs_in (last_of above) k shape) _ whole.value placed.1 in
    let own = goes (has_id_among outline.nodes attrs.value.id) refusal.DuplicateId _ whole.value attrs.rest in
    let few = goes (leb NODES (length outline.nodes)) refusal.TooManyElements _ whole.value own.1 in
    let light = goes (ltb REFERENCES (sum_by references_of outline.nodes + references_among attrs.value)) refusal.TooManyReferences _ whole.value few.1 in
    let last = or_parts (not (may_stand (option_map (λ (n : ℕ × Kind). n.1) (last_of above)) k) || (eqb (length above) 0 && ltb 0 (length outline.nodes))) (mixes outline.nodes (last_of above) k) placed.0 in
    let first = or_parts (not (may_stand (option_map (λ (n : ℕ × Kind). n.1) (last_of above)) k)) (eqb (length above) 0 && ltb 0 (length outline.nodes)) last.0 in
    let fits : may_stand (option_map (λ (n : ℕ × Kind). n.1) (last_of above)) k ≡ true = not-false _ first.0 in
    let node : made serial above k attrs.value ≡ whole.value = cc (light.1) in
    let all : outline_with outline (spaces / 2) whole.value ≡ new = cc (whole.rest) in
    record {
      serial = serial;
      depth = spaces / 2;
      kind = k;
      attrs = attrs.value;
      given = given_serial;
      near = near;
      flat = flat;
      room = record { fits = fits; single_root = first.1; unmixed = last.1; own_id = own.0; few = leb-false _ _ few.0; light = ltb-false _ _ light.0 };
      allowed = attrs_had_from (is_seq_parent (option_map (λ (n : ℕ × Kind). n.1) (last_of above))) k shape.attributes attrs.value attrs.is;
      is = sym (ap (outline_with outline (spaces / 2)) node ∙ all);
    }

shape_added : (outline new : Outline) (spaces : ℕ) (text : List ℕ) (s : Option (ℕ × Shape)) → shape_in outline outline.next text ≡ s → shape_within limits outline spaces s ≡ Ok new → IsAdded outline new
shape_added outline new spaces text None e h = absurd cc
shape_added outline new spaces text (Some (serial, shape)) e h =
    let even = goes (eqb (spaces % 2) 1) refusal.BadOutline _ new h in
    let kind = given spaces (kind_of_shape (Some shape)) _ new even.1 in
    let fresh = goes (is_bad_serial outline outline.next serial) refusal.BadSerial _ new kind.rest in
    let near = goes (ltb (length outline.branch) (spaces / 2)) refusal.DepthJump _ new fresh.1 in
    let flat = goes (leb DEPTH (spaces / 2)) refusal.TooDeep _ new near.1 in
    node_added outline new spaces serial kind.value shape (serial_given outline outline.next text serial shape e fresh.0) (ltb-false _ _ near.0) (leb-false _ _ flat.0) flat.1

header_adds : (outline new : Outline) (o : Option ℕ) → IfSome o IsCounted → length outline.nodes ≡ 0 → with_header outline o ≡ Ok new → IsHeaded outline new
header_adds outline new None small none h = absurd cc
header_adds outline new (Some next) small none h = let is : record outline { next = Some next } ≡ new = cc in record { next = next; few = small.1; none = none; is = sym is }

header_small : (line : List ℕ) → IfSome (header_of line) IsCounted
header_small line = cond_both (starts_with nat_eq line (codes "outline 2 next ")) (count_of (drop 15 line)) None (λ o. IfSome o IsCounted) (λ e. count_small (drop 15 line)) (λ e. tt)

pub line_adds : (outline new : Outline) (line : List ℕ) → with_line outline line ≡ Ok new → IsHeaded outline new ⊎ IsAdded outline new
line_adds outline new line h =
    let short = goes (ltb LINE_BYTES (length line)) refusal.LongLine _ new h in
    by (opens_saved outline line) refl short.1
  where
    spaces : ℕ
    spaces = prefix_len is_space line

    by : (t : Bool) → opens_saved outline line ≡ t → read_within limits outline line ≡ Ok new → IsHeaded outline new ⊎ IsAdded outline new
    by true e k =
        let front = and_parts (not (is_some outline.next) && eqb (length outline.nodes) 0) _ e in
        let none : length outline.nodes ≡ 0 = eqb-true _ _ (and_parts (not (is_some outline.next)) (eqb (length outline.nodes) 0) front.0).1 in
        inl (header_adds outline new (header_of line) (header_small line) none (rw e at k))
    by false e k = inr (shape_added outline new spaces (drop spaces line) (shape_in outline outline.next (drop spaces line)) refl (rw e at k))

-- ---- nodes with one more behind them

find_on : (nodes : List Node) (x : Node) (serial : ℕ) → eqb x.serial serial ≡ false → node_with (nodes ++ x ∷ []) serial ≡ node_with nodes serial
find_on [] x serial e = rw e refl
find_on (m ∷ nodes) x serial e = ap (cond (eqb m.serial serial) (Some m)) (find_on nodes x serial e)

depth_on : (nodes : List Node) (x : Node) (serial : ℕ) → eqb x.serial serial ≡ false → depth_of (nodes ++ x ∷ []) serial ≡ depth_of nodes serial
depth_on nodes x serial e =
    let skipped : lineage_up (x ∷ reverse nodes) serial ≡ lineage_up (reverse nodes) serial = rw e refl in
    ap (λ (back : List Node). length (drop 1 (lineage_up back serial))) (reverse-append nodes (x ∷ [])) ∙ ap (λ (line : List Node). length (drop 1 line)) skipped

all_on : (p : Node → Bool) (nodes : List Node) (x : Node) → list_all p nodes ≡ true → p x ≡ true → list_all p (nodes ++ x ∷ []) ≡ true
all_on p nodes x h k = rw (list_all-append p nodes (x ∷ []), h, k) refl

none_on : (p : Node → Bool) (nodes : List Node) (x : Node) → list_any p nodes ≡ false → p x ≡ false → list_any p (nodes ++ x ∷ []) ≡ false
none_on p nodes x h k = rw (list_any-append p nodes (x ∷ []), h, k) refl

-- serials are distinct, and below the next one

distinct_on : (nodes : List Node) (x : Node) → IsDistinct nodes → list_any (λ (m : Node). eqb m.serial x.serial) nodes ≡ false → IsDistinct (nodes ++ x ∷ [])
distinct_on [] x h e = (refl, tt)
distinct_on (n ∷ nodes) x h e =
    let parts = or_parts (eqb n.serial x.serial) (list_any (λ (m : Node). eqb m.serial x.serial) nodes) e in
    (none_on (λ (m : Node). eqb m.serial n.serial) nodes x h.0 (swap_eqb n.serial x.serial parts.0), distinct_on nodes x h.1 parts.1)

abbrev pub next_of : Outline → ℕ
next_of outline = unwrap_or outline.next (length outline.nodes + 1)

abbrev AreBelow : ℕ → List Node → Type 0
AreBelow next nodes = AllByRecursion (λ (n : Node). (0 < n.serial) × (n.serial < next)) nodes

past_all : (nodes : List Node) (next serial : ℕ) → AreBelow next nodes → next ≤ serial → list_any (λ (m : Node). eqb m.serial serial) nodes ≡ false
past_all [] next serial h le = refl
past_all (n ∷ nodes) next serial h le = let other : eqb n.serial serial ≡ false = ne_eqb _ _ (λ e. omega (arith, h.0.1)) in rw (other, past_all nodes next serial h.1 le) refl

unknown : (nodes : List Node) (serial : ℕ) → 0 < serial → list_any (λ (m : Node). eqb m.serial serial) nodes ≡ false → is_known nodes serial ≡ false
unknown nodes serial some e = let other : eqb serial 0 ≡ false = ne_eqb _ _ (λ z. omega arith) in rw (other, e) refl

given_new : (nodes : List Node) (next : Option ℕ) (serial : ℕ) → AreBelow (unwrap_or next (length nodes + 1)) nodes → IsGiven next nodes serial → is_known nodes serial ≡ false
given_new nodes None serial h is = unknown nodes serial (omega arith) (past_all nodes (length nodes + 1) serial h (omega arith))
given_new nodes (Some next) serial h is = unknown nodes serial is.0 is.2

below_on : (nodes : List Node) (x : Node) (next : Option ℕ) → AreBelow (unwrap_or next (length nodes + 1)) nodes → IsGiven next nodes x.serial → AreBelow (unwrap_or next (length (nodes ++ x ∷ []) + 1)) (nodes ++ x ∷ [])
below_on nodes x None h is =
    let len : length (nodes ++ x ∷ []) ≡ length nodes + 1 = length-append nodes (x ∷ []) in
    each_push (λ (n : Node). (0 < n.serial) × (n.serial < length (nodes ++ x ∷ []) + 1)) nodes x
    (each_weaker (λ (n : Node). (0 < n.serial) × (n.serial < length nodes + 1)) (λ (n : Node). (0 < n.serial) × (n.serial < length (nodes ++ x ∷ []) + 1)) nodes h (λ n h. (h.0, omega (arith, h.1)))) (omega arith, omega arith)
below_on nodes x (Some next) h is = each_push (λ (n : Node). (0 < n.serial) × (n.serial < next)) nodes x h (is.0, is.1)

-- the tree

abbrev after : List ℕ → List Node → List ℕ
after open_nodes [] = open_nodes
after open_nodes (n ∷ nodes) = after (n.serial ∷ open_from n.parent open_nodes) nodes

after_on : (open_nodes : List ℕ) (nodes : List Node) (x : Node) → after open_nodes (nodes ++ x ∷ []) ≡ x.serial ∷ open_from x.parent (after open_nodes nodes)
after_on open_nodes [] x = refl
after_on open_nodes (n ∷ nodes) x = after_on (n.serial ∷ open_from n.parent open_nodes) nodes x

tree_on : (open_nodes : List ℕ) (nodes : List Node) (x : Node) → IsTreeFrom open_nodes nodes → list_any (λ s. eqb s x.parent) (after open_nodes nodes) ≡ true → IsTreeFrom open_nodes (nodes ++ x ∷ [])
tree_on open_nodes [] x h e = (e, tt)
tree_on open_nodes (n ∷ nodes) x h e = (h.0, tree_on (n.serial ∷ open_from n.parent open_nodes) nodes x h.1 e)

abbrev IsTreeTo : List Node → List ℕ → Type 0
IsTreeTo [] open_nodes = open_nodes ≡ []
IsTreeTo (root ∷ nodes) open_nodes = (root.parent ≡ 0) × (IsTreeFrom (root.serial ∷ []) nodes) × (open_nodes ≡ after (root.serial ∷ []) nodes)

-- open nodes are known, each once

abbrev AreOnce : List Node → List ℕ → Type 0
AreOnce nodes [] = Unit {0}
AreOnce nodes (s ∷ above) = (is_known nodes s ≡ true) × (list_any (λ t. eqb t s) above ≡ false) × AreOnce nodes above

-- ---- what is kept of each node

record IsSettled (nodes : List Node) (m : Node) : Type 0 where
  early : is_known nodes m.serial ≡ true
  parent : is_known nodes m.parent ≡ true
  flat : ltb (depth_of nodes m.serial) 32 ≡ true
  stand : may_stand (kind_of (node_with nodes m.parent)) m.kind ≡ true
  agree : agree_with nodes m.parent m.kind ≡ true
  fit : has_fitting_attrs nodes m ≡ true
  free : is_id_taken nodes m.serial m.attrs.id ≡ false

same_turned : (a b : Bool) → not (same_test a b) ≡ false → same_test b a ≡ true
same_turned true true h = refl
same_turned true false h = absurd cc
same_turned false true h = absurd cc
same_turned false false h = refl

pub bytes_turned : (xs ys : List ℕ) → bytes_eq xs ys ≡ false → bytes_eq ys xs ≡ false
bytes_turned xs ys e = bytes_swap ys xs ∙ e

no_id_of : (own : List ℕ) (m : Node) → bytes_eq (unwrap_or m.attrs.id []) own ≡ false → has_id own m.attrs.id ≡ false
no_id_of own m e = by own m.attrs.id e
  where
    by : (own : List ℕ) (id : Option (List ℕ)) → bytes_eq (unwrap_or id []) own ≡ false → has_id own id ≡ false
    by own None e = refl
    by own (Some id) e = e

other_id : (id : List ℕ) (own : Option (List ℕ)) → ((x : List ℕ) → own ≡ Some x → bytes_eq id x ≡ false) → has_id id own ≡ false
other_id id None h = refl
other_id id (Some own) h = bytes_turned id own (h own refl)

-- the id of a new node is none of the others'
abbrev IsFree : List Node → Option (List ℕ) → Type 0
IsFree nodes own = has_id_among nodes own ≡ false

free_at : (nodes : List Node) (own : List ℕ) (m : Node) (rest : List Node) → IsFree (m ∷ rest) (Some own) → bytes_eq (unwrap_or m.attrs.id []) own ≡ false
free_at nodes own m rest h = (or_parts (bytes_eq (unwrap_or m.attrs.id []) own) _ h).0

new_free : (nodes : List Node) (serial : ℕ) (own : Option (List ℕ)) → IsFree nodes own → is_id_taken nodes serial own ≡ false
new_free nodes serial None h = refl
new_free nodes serial (Some own) h = each nodes serial own h
  where
    each : (nodes : List Node) (serial : ℕ) (own : List ℕ) → IsFree nodes (Some own) → list_any (is_other_with serial own) nodes ≡ false
    each [] serial own h = refl
    each (m ∷ nodes) serial own h =
        let parts = or_parts (bytes_eq (unwrap_or m.attrs.id []) own) (list_any (λ (n : Node). bytes_eq (unwrap_or n.attrs.id []) own) nodes) h in
        rw (and_right (not (eqb m.serial serial)) (has_id own m.attrs.id) (no_id_of own m parts.0), each nodes serial own parts.1) refl

taken_on : (nodes : List Node) (x : Node) (serial : ℕ) (own : Option (List ℕ)) → is_id_taken nodes serial own ≡ false → ((id : List ℕ) → own ≡ Some id → is_other_with serial id x ≡ false) → is_id_taken (nodes ++ x ∷ []) serial own ≡ false
taken_on nodes x serial None h k = refl
taken_on nodes x serial (Some id) h k = none_on (is_other_with serial id) nodes x h (k id refl)

-- an old node keeps its place where a node comes behind all

record IsNext (nodes : List Node) (x : Node) (m : Node) : Type 0 where
  serial : is_known nodes x.serial ≡ false
  agree : (not (eqb x.parent m.parent) || same_test (is_class_kind x.kind) (is_class_kind m.kind)) ≡ true
  free : (own : List ℕ) → x.attrs.id ≡ Some own → bytes_eq (unwrap_or m.attrs.id []) own ≡ false

id_apart : (nodes : List Node) (x m : Node) → IsNext nodes x m → (id : List ℕ) → m.attrs.id ≡ Some id → is_other_with m.serial id x ≡ false
id_apart nodes x m next id e =
    and_right (not (eqb x.serial m.serial)) (has_id id x.attrs.id)
    (other_id id x.attrs.id (λ own k. subst (λ (o : Option (List ℕ)). bytes_eq (unwrap_or o []) own ≡ false) e (next.free own k)))

stays : (nodes : List Node) (x m : Node) → IsNext nodes x m → IsSettled nodes m → IsSettled (nodes ++ x ∷ []) m
stays nodes x m next h =
    let other : eqb x.serial m.serial ≡ false = other_serial nodes x.serial m.serial next.serial h.early in
    let no_child : eqb x.serial m.parent ≡ false = other_serial nodes x.serial m.parent next.serial h.parent in
    let same : node_with (nodes ++ x ∷ []) m.parent ≡ node_with nodes m.parent = find_on nodes x m.parent no_child in
    record {
      early = known_on nodes x m.serial h.early;
      parent = known_on nodes x m.parent h.parent;
      flat = ap (λ (d : ℕ). ltb d 32) (depth_on nodes x m.serial other) ∙ h.flat;
      stand = ap (λ (o : Option Node). may_stand (kind_of o) m.kind) same ∙ h.stand;
      agree = all_on (λ (n : Node). not (eqb n.parent m.parent) || same_test (is_class_kind n.kind) (is_class_kind m.kind)) nodes x h.agree next.agree;
      fit = ap (λ (o : Option Node). fit_kind m.kind (kind_of o) m.attrs) same ∙ h.fit;
      free = taken_on nodes x m.serial m.attrs.id h.free (id_apart nodes x m next);
    }

-- a node that a line adds, and where it stands

record IsPut (nodes : List Node) (branch above : List (ℕ × Kind)) (x : Node) : Type 0 where
  serial : is_known nodes x.serial ≡ false
  parent : is_known nodes x.parent ≡ true
  kept : upwards above ≡ open_from x.parent (upwards branch)
  rest : IsRest (reverse nodes) (upwards branch) (x ∷ [])
  tree : IsTreeTo (nodes ++ x ∷ []) (x.serial ∷ upwards above)
  kind : option_map (λ (n : ℕ × Kind). n.1) (last_of above) ≡ kind_of (node_with nodes x.parent)
  alike_before : list_all (λ (m : Node). not (eqb m.parent x.parent) || same_test (is_class_kind m.kind) (is_class_kind x.kind)) nodes ≡ true
  alike_behind : list_all (λ (m : Node). not (eqb x.parent m.parent) || same_test (is_class_kind x.kind) (is_class_kind m.kind)) nodes ≡ true

-- an outline whose nodes are those of a valid document
pub record IsReadable (outline : Outline) : Type 0 where
  distinct : IsDistinct outline.nodes
  below : AreBelow (next_of outline) outline.nodes
  limit : next_of outline ≤ SERIALS
  tree : IsTreeTo outline.nodes (upwards outline.branch)
  levels : Levels (reverse outline.nodes) (upwards outline.branch)
  once : AreOnce outline.nodes (upwards outline.branch)
  kinds : AllByRecursion (λ (b : ℕ × Kind). kind_of (node_with outline.nodes b.0) ≡ Some b.1) outline.branch
  settled : AllByRecursion (IsSettled outline.nodes) outline.nodes
  few : length outline.nodes ≤ NODES
  light : sum_by references_of outline.nodes ≤ REFERENCES

once_on : (nodes : List Node) (x : Node) (xs : List ℕ) → AreOnce nodes xs → AreOnce (nodes ++ x ∷ []) xs
once_on nodes x [] h = tt
once_on nodes x (s ∷ above) h = (known_on nodes x s h.0, h.1, once_on nodes x above h.2)

once_from : (nodes : List Node) (parent : ℕ) (xs : List ℕ) → AreOnce nodes xs → AreOnce nodes (open_from parent xs)
once_from nodes parent [] h = tt
once_from nodes parent (s ∷ above) h = cond_both (eqb s parent) (s ∷ above) (open_from parent above) (AreOnce nodes) (λ e. h) (λ e. once_from nodes parent above h.2)

once_to : (nodes : List Node) (s : ℕ) (closed_nodes above : List ℕ) → AreOnce nodes (closed_nodes ++ s ∷ above) → is_known nodes s ≡ true
once_to nodes s [] above h = h.0
once_to nodes s (c ∷ closed_nodes) above h = once_to nodes s closed_nodes above h.2

not_among : (s c : ℕ) (closed_nodes above : List ℕ) → list_any (λ t. eqb t c) (closed_nodes ++ s ∷ above) ≡ false → eqb s c ≡ false
not_among s c [] above e = (or_parts (eqb s c) (list_any (λ t. eqb t c) above) e).0
not_among s c (d ∷ closed_nodes) above e = not_among s c closed_nodes above (or_parts (eqb d c) (list_any (λ t. eqb t c) (closed_nodes ++ s ∷ above)) e).1

opens_at : (nodes : List Node) (s : ℕ) (closed_nodes above : List ℕ) → AreOnce nodes (closed_nodes ++ s ∷ above) → open_from s (closed_nodes ++ s ∷ above) ≡ s ∷ above
opens_at nodes s [] above h = let own : eqb s s ≡ true = eq-eqb _ _ refl in rw own refl
opens_at nodes s (c ∷ closed_nodes) above h =
    let other : eqb c s ≡ false = swap_eqb s c (not_among s c closed_nodes above h.1) in
    rw other (opens_at nodes s closed_nodes above h.2)

stands_in : (s : ℕ) (closed_nodes above : List ℕ) → list_any (λ t. eqb t s) (closed_nodes ++ s ∷ above) ≡ true
stands_in s [] above = let own : eqb s s ≡ true = eq-eqb _ _ refl in rw own refl
stands_in s (c ∷ closed_nodes) above = or_right (eqb c s) (list_any (λ t. eqb t s) (closed_nodes ++ s ∷ above)) (stands_in s closed_nodes above)

fresh_for : (nodes : List Node) (x : Node) (xs : List ℕ) → is_known nodes x.serial ≡ false → AreOnce nodes xs → AreFresh xs (x ∷ [])
fresh_for nodes x [] new h = tt
fresh_for nodes x (s ∷ above) new h = let other : eqb x.serial s ≡ false = other_serial nodes x.serial s new h.0 in (rw other refl, fresh_for nodes x above new h.2)

none_open : (nodes : List Node) (serial : ℕ) (xs : List ℕ) → is_known nodes serial ≡ false → AreOnce nodes xs → list_any (λ t. eqb t serial) xs ≡ false
none_open nodes serial [] new h = refl
none_open nodes serial (s ∷ above) new h = let other : eqb s serial ≡ false = swap_eqb serial s (other_serial nodes serial s new h.0) in rw (other, none_open nodes serial above new h.2) refl

none_yet : (nodes : List Node) (serial : ℕ) → is_known nodes serial ≡ false → list_any (λ (m : Node). eqb m.serial serial) nodes ≡ false
none_yet nodes serial h = (or_parts (eqb serial 0) (list_any (λ (m : Node). eqb m.serial serial) nodes) h).1

kind_kept : (nodes : List Node) (x : Node) (serial : ℕ) (k : Kind) → kind_of (node_with nodes serial) ≡ Some k → kind_of (node_with (nodes ++ x ∷ []) serial) ≡ Some k
kind_kept [] x serial k h = absurd cc
kind_kept (m ∷ nodes) x serial k h = by m nodes x serial k (eqb m.serial serial) refl h (kind_kept nodes x serial k)
  where
    by : (m : Node) (nodes : List Node) (x : Node) (serial : ℕ) (k : Kind) (t : Bool) → eqb m.serial serial ≡ t → kind_of (node_with (m ∷ nodes) serial) ≡ Some k → (kind_of (node_with nodes serial) ≡ Some k → kind_of (node_with (nodes ++ x ∷ []) serial) ≡ Some k)
        → kind_of (node_with (m ∷ (nodes ++ x ∷ [])) serial) ≡ Some k
    by m nodes x serial k true t h other = let here : kind_of (Some m) ≡ Some k = rw t at h in rw t here
    by m nodes x serial k false t h other = let rest : kind_of (node_with nodes serial) ≡ Some k = rw t at h in rw t (other rest)

-- ---- where a node is put

same_self : (a : Bool) → same_test a a ≡ true
same_self true = refl
same_self false = refl

record AreAlike (nodes : List Node) (parent : ℕ) (k : Kind) : Type 0 where
  before : list_all (λ (m : Node). not (eqb m.parent parent) || same_test (is_class_kind m.kind) (is_class_kind k)) nodes ≡ true
  behind : list_all (λ (m : Node). not (eqb parent m.parent) || same_test (is_class_kind k) (is_class_kind m.kind)) nodes ≡ true

all_alike : (nodes : List Node) (parent : ℕ) (k : Kind) → list_any (λ (m : Node). eqb m.parent parent && not (same_test (is_class_kind m.kind) (is_class_kind k))) nodes ≡ false → AreAlike nodes parent k
all_alike [] parent k h = record { before = refl; behind = refl }
all_alike (m ∷ nodes) parent k h =
    let parts = or_parts (eqb m.parent parent && not (same_test (is_class_kind m.kind) (is_class_kind k))) (list_any (λ (m : Node). eqb m.parent parent && not (same_test (is_class_kind m.kind) (is_class_kind k))) nodes) h in
    let one = each m parent k (eqb m.parent parent) refl parts.0 in
    let others = all_alike nodes parent k parts.1 in
    record { before = rw (one.0, others.before) refl; behind = rw (one.1, others.behind) refl }
  where
    each : (m : Node) (parent : ℕ) (k : Kind) (t : Bool) → eqb m.parent parent ≡ t → (eqb m.parent parent && not (same_test (is_class_kind m.kind) (is_class_kind k))) ≡ false
        → ((not (eqb m.parent parent) || same_test (is_class_kind m.kind) (is_class_kind k)) ≡ true) × ((not (eqb parent m.parent) || same_test (is_class_kind k) (is_class_kind m.kind)) ≡ true)
    each m parent k true t h =
        let same : not (same_test (is_class_kind m.kind) (is_class_kind k)) ≡ false = rw t at h in
        (or_right (not (eqb m.parent parent)) _ (not-false (same_test (is_class_kind m.kind) (is_class_kind k)) same), or_right (not (eqb parent m.parent)) _ (same_turned (is_class_kind m.kind) (is_class_kind k) same))
    each m parent k false t h = let back : eqb parent m.parent ≡ false = swap_eqb m.parent parent t in (rw t refl, rw back refl)

rest_of : (before : List Node) (open_nodes : List ℕ) (x : Node) → list_any (λ s. eqb s x.parent) open_nodes ≡ true → IsRest before open_nodes (x ∷ [])
rest_of before [] x e = absurd cc
rest_of before (s ∷ above) x e = (e, tt)

limit_on : (nodes : List Node) (x : Node) (next : Option ℕ) → unwrap_or next (length nodes + 1) ≤ SERIALS → length nodes < NODES → unwrap_or next (length (nodes ++ x ∷ []) + 1) ≤ SERIALS
limit_on nodes x None h few = omega (arith, length-append nodes (x ∷ []))
limit_on nodes x (Some next) h few = h

tree_grows : (nodes : List Node) (open_nodes kept : List ℕ) (x : Node) → IsTreeTo nodes open_nodes → list_any (λ s. eqb s x.parent) open_nodes ≡ true → kept ≡ open_from x.parent open_nodes → IsTreeTo (nodes ++ x ∷ []) (x.serial ∷ kept)
tree_grows [] open_nodes kept x h e k = let none : list_any (λ s. eqb s x.parent) [] ≡ true = subst (λ (xs : List ℕ). list_any (λ s. eqb s x.parent) xs ≡ true) h e in absurd cc
tree_grows (root ∷ nodes) open_nodes kept x h e k =
    let there : list_any (λ s. eqb s x.parent) (after (root.serial ∷ []) nodes) ≡ true = subst (λ (xs : List ℕ). list_any (λ s. eqb s x.parent) xs ≡ true) h.2 e in
    (h.0, tree_on (root.serial ∷ []) nodes x h.1 there, ap (λ (xs : List ℕ). x.serial ∷ xs) (k ∙ ap (open_from x.parent) h.2) ∙ sym (after_on (root.serial ∷ []) nodes x))

apart : (branch : List (ℕ × Kind)) (depth : ℕ) → upwards branch ≡ upwards (drop depth branch) ++ upwards (take depth branch)
apart branch depth =
    ap upwards (sym (take-append-drop depth branch)) ∙ ap (λ (xs : List ℕ). reverse xs) (map-append (λ (m : ℕ × Kind). m.0) (take depth branch) (drop depth branch)) ∙ reverse-append (map (λ (m : ℕ × Kind). m.0) (take depth branch)) (map (λ (m : ℕ × Kind). m.0) (drop depth branch))

put_at : (nodes : List Node) (branch : List (ℕ × Kind)) (next : Option ℕ) (depth serial : ℕ) (k : Kind) (attrs : Attrs) → IsReadable (record { nodes = nodes; branch = branch; next = next }) → is_known nodes serial ≡ false → depth ≤ length branch → IsRoom nodes (take depth branch) k attrs
    → IsPut nodes branch (take depth branch) (made serial (take depth branch) k attrs)
put_at [] branch next zero serial k attrs r new near room = record {
  serial = new;
  parent = refl;
  kept = sym (ap (open_from 0) r.tree);
  rest = subst (λ (xs : List ℕ). IsRest [] xs (made serial [] k attrs ∷ [])) (sym r.tree) (refl, (refl, tt));
  tree = (refl, tt, refl);
  kind = refl;
  alike_before = refl;
  alike_behind = refl;
}
put_at (n ∷ nodes) branch next zero serial k attrs r new near room = let few : length (n ∷ nodes) ≤ 0 = ltb-false _ _ room.single_root in absurd (omega arith)
put_at nodes branch next (suc d) serial k attrs r new near room =
    let above = take (suc d) branch in
    let here = level branch (suc d) (omega arith) near in
    let p : ℕ × Kind = here.node in
    let tail = upwards (take (suc d - 1) branch) in
    let x = made serial above k attrs in
    let parent : x.parent ≡ p.0 = ap (λ (o : Option (ℕ × Kind)). unwrap_or (option_map (λ (n : ℕ × Kind). n.0) o) 0) here.last in
    let all : upwards branch ≡ upwards (drop (suc d) branch) ++ p.0 ∷ tail = apart branch (suc d) ∙ ap (λ (xs : List ℕ). upwards (drop (suc d) branch) ++ xs) here.up in
    let once = subst (AreOnce nodes) all r.once in
    let there : list_any (λ s. eqb s x.parent) (upwards branch) ≡ true = subst (λ (q : ℕ). list_any (λ s. eqb s q) (upwards branch) ≡ true) (sym parent) (subst (λ (xs : List ℕ). list_any (λ s. eqb s p.0) xs ≡ true) (sym all) (stands_in p.0 (upwards (drop (suc d) branch)) tail)) in
    let kept : upwards above ≡ open_from x.parent (upwards branch) =
    here.up ∙ sym (opens_at nodes p.0 (upwards (drop (suc d) branch)) tail once) ∙ ap (open_from p.0) (sym all) ∙ ap (λ (q : ℕ). open_from q (upwards branch)) (sym parent) in
    let known : kind_of (node_with nodes p.0) ≡ Some p.1 =
    each_at (λ (b : ℕ × Kind). kind_of (node_with nodes b.0) ≡ Some b.1) above (length above - 1) p (each_take (λ (b : ℕ × Kind). kind_of (node_with nodes b.0) ≡ Some b.1) (suc d) branch r.kinds) here.last in
    let unmixed : mixes nodes (Some p) k ≡ false = subst (λ (o : Option (ℕ × Kind)). mixes nodes o k ≡ false) here.last room.unmixed in
    let alike_all = subst (λ (q : ℕ). AreAlike nodes q k) (sym parent) (all_alike nodes p.0 k unmixed) in
    record {
      serial = new;
      parent = ap (is_known nodes) parent ∙ once_to nodes p.0 (upwards (drop (suc d) branch)) tail once;
      kept = kept;
      rest = rest_of (reverse nodes) (upwards branch) x there;
      tree = tree_grows nodes (upwards branch) (upwards above) x r.tree there kept;
      kind = ap (option_map (λ (n : ℕ × Kind). n.1)) here.last ∙ sym known ∙ ap (λ (q : ℕ). kind_of (node_with nodes q)) (sym parent);
      alike_before = alike_all.before;
      alike_behind = alike_all.behind;
    }

-- ---- one line more

all_stay : (nodes : List Node) (x : Node) → is_known nodes x.serial ≡ false → (own : List Node) → AllByRecursion (IsSettled nodes) own
    → list_all (λ (m : Node). not (eqb x.parent m.parent) || same_test (is_class_kind x.kind) (is_class_kind m.kind)) own ≡ true
    → ((id : List ℕ) → x.attrs.id ≡ Some id → list_any (λ (n : Node). bytes_eq (unwrap_or n.attrs.id []) id) own ≡ false) → AllByRecursion (IsSettled (nodes ++ x ∷ [])) own
all_stay nodes x serial [] h agree free = tt
all_stay nodes x serial (m ∷ own) h agree free =
    let parts = and_parts (not (eqb x.parent m.parent) || same_test (is_class_kind x.kind) (is_class_kind m.kind)) (list_all (λ (m : Node). not (eqb x.parent m.parent) || same_test (is_class_kind x.kind) (is_class_kind m.kind)) own) agree in (
      stays nodes x m (record { serial = serial; agree = parts.0; free = λ id e. (or_parts (bytes_eq (unwrap_or m.attrs.id []) id) (list_any (λ (n : Node). bytes_eq (unwrap_or n.attrs.id []) id) own) (free id e)).0 }) h.0,
      all_stay nodes x serial own h.1 parts.1 (λ id e. (or_parts (bytes_eq (unwrap_or m.attrs.id []) id) (list_any (λ (n : Node). bytes_eq (unwrap_or n.attrs.id []) id) own) (free id e)).1),
    )

-- what a line asks of the node it adds
record IsFit (nodes : List Node) (above : List (ℕ × Kind)) (x : Node) : Type 0 where
  flat : length above < 32
  fits : may_stand (option_map (λ (n : ℕ × Kind). n.1) (last_of above)) x.kind ≡ true
  allowed : IsAttrs (is_seq_parent (option_map (λ (n : ℕ × Kind). n.1) (last_of above))) x.kind x.attrs
  free : has_id_among nodes x.attrs.id ≡ false
  few : length nodes < NODES
  light : sum_by references_of nodes + references_among x.attrs ≤ REFERENCES

new_settled : (nodes : List Node) (branch above : List (ℕ × Kind)) (x : Node) → IsWalked (reverse nodes) (upwards branch) (x ∷ []) → IsPut nodes branch above x → IsFit nodes above x → IsSettled (nodes ++ x ∷ []) x
new_settled nodes branch above x walked put fit =
    let no_parent : eqb x.serial x.parent ≡ false = other_serial nodes x.serial x.parent put.serial put.parent in
    let same : kind_of (node_with (nodes ++ x ∷ []) x.parent) ≡ option_map (λ (n : ℕ × Kind). n.1) (last_of above) = ap kind_of (find_on nodes x x.parent no_parent) ∙ sym put.kind in
    let depth : depth_of (nodes ++ x ∷ []) x.serial ≡ length above =
    depth_is nodes x [] (refl, tt) ∙ next_depth (reverse nodes) (upwards branch) x [] walked ∙ ap (λ (xs : List ℕ). length xs) (sym put.kept) ∙ length_upwards above in
    let own : eqb x.serial x.serial ≡ true = eq-eqb _ _ refl in
    record {
      early = known_self nodes x;
      parent = known_on nodes x x.parent put.parent;
      flat = lt-ltb _ _ (omega (arith, fit.flat));
      stand = ap (λ (parent : Option Kind). may_stand parent x.kind) same ∙ fit.fits;
      agree = all_on (λ (m : Node). not (eqb m.parent x.parent) || same_test (is_class_kind m.kind) (is_class_kind x.kind)) nodes x put.alike_before (or_right (not (eqb x.parent x.parent)) _ (same_self (is_class_kind x.kind)));
      fit = ranges x.kind (kind_of (node_with (nodes ++ x ∷ []) x.parent)) x.attrs (subst (λ (parent : Option Kind). IsAttrs (is_seq_parent parent) x.kind x.attrs) (sym same) fit.allowed);
      free = taken_on nodes x x.serial x.attrs.id (new_free nodes x.serial x.attrs.id fit.free) (λ id e. rw own refl);
    }

grows : (nodes : List Node) (branch : List (ℕ × Kind)) (next : Option ℕ) (depth : ℕ) (x : Node) → IsReadable (record { nodes = nodes; branch = branch; next = next }) → IsGiven next nodes x.serial → IsPut nodes branch (take depth branch) x → IsFit nodes (take depth branch) x
    → IsReadable (record { nodes = nodes ++ x ∷ []; branch = take depth branch ++ (x.serial, x.kind) ∷ []; next = next })
grows nodes branch next depth x r is put fit =
    let above = take depth branch in
    let walked : IsWalked (reverse nodes) (upwards branch) (x ∷ []) = record {
      levels = r.levels;
      fresh = fresh_for nodes x (upwards branch) put.serial r.once;
      distinct = (refl, tt);
      tree = put.rest;
    } in
    let up : upwards (above ++ (x.serial, x.kind) ∷ []) ≡ x.serial ∷ upwards above = upwards_on above (x.serial, x.kind) in
    let open_now : x.serial ∷ open_from x.parent (upwards branch) ≡ upwards (above ++ (x.serial, x.kind) ∷ []) = ap (λ (xs : List ℕ). x.serial ∷ xs) (sym put.kept) ∙ sym up in
    let levels : Levels (x ∷ reverse nodes) (x.serial ∷ open_from x.parent (upwards branch)) = (walk_on (reverse nodes) (upwards branch) x [] walked).levels in
    let len : length (nodes ++ x ∷ []) ≡ length nodes + 1 = length-append nodes (x ∷ []) in
    let kept : AreOnce nodes (upwards above) = subst (AreOnce nodes) (sym put.kept) (once_from nodes x.parent (upwards branch) r.once) in
    let once : AreOnce (nodes ++ x ∷ []) (x.serial ∷ upwards above) = (known_self nodes x, none_open nodes x.serial (upwards above) put.serial kept, once_on nodes x (upwards above) kept) in
    let last : kind_of (node_with (nodes ++ x ∷ []) x.serial) ≡ Some x.kind = ap kind_of (found nodes x [] (none_yet nodes x.serial put.serial)) in
    let nodes_now = nodes ++ x ∷ [] in
    let own : references_of x ≡ references_among x.attrs = refl in
    record {
      distinct = distinct_on nodes x r.distinct (none_yet nodes x.serial put.serial);
      below = below_on nodes x next r.below is;
      limit = limit_on nodes x next r.limit fit.few;
      tree = subst (IsTreeTo nodes_now) (sym up) put.tree;
      levels = subst (λ (back : List Node). Levels back (upwards (above ++ (x.serial, x.kind) ∷ []))) (sym (reverse-append nodes (x ∷ []))) (subst (Levels (x ∷ reverse nodes)) open_now levels);
      once = subst (AreOnce nodes_now) (sym up) once;
      kinds = each_push (λ (b : ℕ × Kind). kind_of (node_with nodes_now b.0) ≡ Some b.1) above (x.serial, x.kind)
          (each_weaker (λ (b : ℕ × Kind). kind_of (node_with nodes b.0) ≡ Some b.1) (λ (b : ℕ × Kind). kind_of (node_with nodes_now b.0) ≡ Some b.1) above
          (each_take (λ (b : ℕ × Kind). kind_of (node_with nodes b.0) ≡ Some b.1) depth branch r.kinds) (λ b. kind_kept nodes x b.0 b.1)) last;
      settled = each_push (IsSettled nodes_now) nodes x (all_stay nodes x put.serial nodes r.settled put.alike_behind (λ id e. subst (λ (o : Option (List ℕ)). has_id_among nodes o ≡ false) e fit.free)) (new_settled nodes branch above x walked put fit);
      few = omega (arith, fit.few);
      light = omega (arith, sum_by-append references_of nodes (x ∷ []), sum_by-cons references_of x [], own, fit.light);
    }

step : (old new : Outline) → IsReadable old → IsAdded old new → IsReadable new
step old new r added =
    let above = take added.depth old.branch in
    let short : length above ≤ added.depth = omega (arith, length-take added.depth old.branch) in
    let unused : is_known old.nodes added.serial ≡ false = given_new old.nodes old.next added.serial r.below added.given in
    subst IsReadable (sym added.is)
    (grows old.nodes old.branch old.next added.depth (made added.serial above added.kind added.attrs) r added.given (put_at old.nodes old.branch old.next added.depth added.serial added.kind added.attrs r unused added.near added.room)
    (record { flat = omega (arith, added.flat); fits = added.room.fits; allowed = added.allowed; free = added.room.own_id; few = added.room.few; light = added.room.light }))

below_none : (nodes : List Node) (next : ℕ) → length nodes ≡ 0 → AreBelow next nodes
below_none [] next e = tt
below_none (n ∷ nodes) next e = absurd (omega arith)

headed : (old new : Outline) → IsReadable old → IsHeaded old new → IsReadable new
headed old new r h = subst IsReadable (sym h.is) (record {
  distinct = r.distinct;
  below = below_none old.nodes h.next h.none;
  limit = omega (arith, h.few);
  tree = r.tree;
  levels = r.levels;
  once = r.once;
  kinds = r.kinds;
  settled = r.settled;
  few = r.few;
  light = r.light;
})

pub read_on : (old new : Outline) (line : List ℕ) → IsReadable old → with_line old line ≡ Ok new → IsReadable new
read_on old new line r h = elim (line_adds old new line h) [
  | inl header ↦ headed old new r header
  | inr node ↦ step old new r node
]

-- ---- the document

pub starts : IsReadable no_lines
starts = record { distinct = tt; below = tt; limit = omega arith; tree = refl; levels = tt; once = tt; kinds = tt; settled = tt; few = omega arith; light = omega arith }

all_lines : (lines : List (List ℕ)) (old new : Outline) → IsReadable old → with_lines old lines ≡ Ok new → IsReadable new
all_lines [] old new r h = let same : old ≡ new = cc in subst IsReadable same r
all_lines (line ∷ lines) old new r h =
    let first = ok_of (with_line old line) (λ more. with_lines more lines) new h in
    all_lines lines first.value new (read_on old first.value line r first.is) first.rest

tested : (p : Node → Bool) (P : Node → Type 0) → ((m : Node) → P m → p m ≡ true) → (own : List Node) → AllByRecursion P own → list_all p own ≡ true
tested p P f [] h = refl
tested p P f (m ∷ own) h = rw (f m h.0, tested p P f own h.1) refl

untested : (p : Node → Bool) (P : Node → Type 0) → ((m : Node) → P m → p m ≡ false) → (own : List Node) → AllByRecursion P own → list_any p own ≡ false
untested p P f [] h = refl
untested p P f (m ∷ own) h = rw (f m h.0, untested p P f own h.1) refl

tree_of : (nodes : List Node) (open_nodes : List ℕ) → IsTreeTo nodes open_nodes → 0 < length nodes → IsTree nodes
tree_of [] open_nodes h lt = absurd (omega arith)
tree_of (root ∷ nodes) open_nodes h lt = (h.0, h.1)

well_placed : (nodes : List Node) (m : Node) → IsSettled nodes m → is_well_placed nodes m ≡ true
well_placed nodes m h = rw (h.flat, h.stand, h.agree) refl

valid : (outline : Outline) → IsReadable outline → 0 < length outline.nodes → IsValid (record { nodes = outline.nodes; next = next_of outline })
valid outline r some =
    let nodes = outline.nodes in
    record {
      numbered = record {
        distinct = r.distinct;
        below = All-from_recursion (λ (n : Node). (0 < n.serial) × (n.serial < next_of outline)) nodes r.below;
        next = r.limit;
        tree = tree_of nodes (upwards outline.branch) r.tree some;
      };
      placed = tested (is_well_placed nodes) (IsSettled nodes) (well_placed nodes) nodes r.settled;
      fitting = tested (has_fitting_attrs nodes) (IsSettled nodes) (λ m h. h.fit) nodes r.settled;
      ids = untested (λ (n : Node). is_id_taken nodes n.serial n.attrs.id) (IsSettled nodes) (λ m h. h.free) nodes r.settled;
      nodes = r.few;
      references = r.light;
    }

pub ends : (outline : Outline) (document : Document) → IsReadable outline → ended outline ≡ Ok document → IsValid document
ends outline document r h = by (eqb (length outline.nodes) 0) refl h
  where
    positive : (n : ℕ) → eqb n 0 ≡ false → 0 < n
    positive n e = grind (arith, nat_tests)

    by : (t : Bool) → eqb (length outline.nodes) 0 ≡ t → cond t (Err refusal.BadOutline) (Ok (record { nodes = outline.nodes; next = next_of outline })) ≡ Ok document → IsValid document
    by true e h = absurd cc
    by false e h = let same : record { nodes = outline.nodes; next = next_of outline } ≡ document = cc in subst IsValid same (valid outline r (positive (length outline.nodes) e))

pub outline_is_valid : (lines : List (List ℕ)) (document : Document) → outline_of lines ≡ Ok document → IsValid document
outline_is_valid lines document h =
    let read = ok_of (with_lines no_lines lines) ended document h in
    ends read.value document (all_lines lines no_lines read.value starts read.is) read.rest

pub readable : (outline : Outline) → IsRead outline → IsReadable outline
readable outline read = all_lines read.0 no_lines outline starts read.1

-- what a builder holds is a valid document
pub read_is_valid : (outline : Outline) (document : Document) → IsRead outline → 0 < length outline.nodes → document.nodes ≡ outline.nodes → document.next ≡ next_of outline → IsValid document
read_is_valid outline document read some same next =
    let whole : record { nodes = outline.nodes; next = next_of outline } ≡ document = ap (λ k. record { nodes = outline.nodes; next = k }) (sym next) ∙ ap (λ (ns : List Node). record { nodes = ns; next = document.next }) (sym same) in
    subst IsValid whole (valid outline (readable outline read) some)

-- a serial that a line can have is new
pub serial_is_new : (outline : Outline) (text : List ℕ) (serial : ℕ) (shape : Shape) → IsRead outline → Some (serial, shape) ≡ shape_in outline outline.next text → is_bad_serial outline outline.next serial ≡ false → is_known outline.nodes serial ≡ false
serial_is_new outline text serial shape read e fresh = given_new outline.nodes outline.next serial (readable outline read).below (serial_given outline outline.next text serial shape (sym e) fresh)
