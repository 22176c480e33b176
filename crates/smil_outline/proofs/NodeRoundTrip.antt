-- A printed node line is read as its node, where the node may stand.
use Rattle.std.proofs.Common.{◌≡◌, ℕ, zero, suc, ◌+◌, ◌*◌, ◌<◌, ◌≤◌, Bool, true, false, not, eqb, ltb, leb, ◌&&◌, List, [], ◌∷◌, ◌++◌, length, take, drop, replicate, flat_map, Some, option_map, is_some, Result, Ok, refl, ap, ◌∙◌, arith, append_assoc}
use Rattle.std.specs.Prelude.{◌/◌, ◌%◌, unwrap_or, sum_by, codes, bytes_eq}
use Rattle.std.specs.List.{prefix_len}
use Rattle.std.proofs.lemmas.Bool.{and_parts, and_right, not-true, le-ltb, lt-leb, ne_eqb}
use Rattle.smil_model.specs.declared.limits.TheConstants.{NODES, DEPTH, REFERENCES, LINE_BYTES}
use Rattle.smil_model.specs.declared.document.Kind.{Kind}
use Rattle.smil_model.specs.declared.document.Node.{Node}
use Rattle.smil_model.specs.declared.document.Attrs.{Attrs}
use Rattle.smil_model.specs.declared.order.Refusal.{Refusal}
use Rattle.smil_model.specs.declared.order.Refusal.TheVariants as refusal
use Rattle.smil_model.specs.document.Limits.{limits}
use Rattle.smil_model.specs.document.Values.{is_seq_parent}
use Rattle.smil_model.specs.document.Valid.{may_stand, references_of, references_among}
use Rattle.smil_grammar.specs.Results.{◌>>=◌}
use Rattle.smil_grammar.specs.Attributes.{kind_text, names}
use Rattle.smil_grammar.specs.Spellings.{value_text, attribute_text, node_text, saved_node_text}
use Rattle.smil_grammar.specs.Nodes.{Shape, is_space, is_no_space, kind_of_shape}
use Rattle.smil_grammar.specs.Outlines.{Outline, refuse_if, in_line, mixes, has_id, attrs_in, last_of, is_bad_serial, opens_saved, shape_in, node_within, shape_within, with_node, with_line}
use Rattle.smil_attrs.proofs.WordTables.{each_kind}
use Rattle.smil_attrs.proofs.LineRoundTrip.{IsShape}
use Rattle.smil_attrs.proofs.PrintedShape.{behind_kind, saved_parts}
use Rattle.smil_outline.proofs.LineParts.{as_node}

-- ---- spaces

spaces_before : (count : ℕ) (text : List ℕ) → prefix_len is_space text ≡ 0 → prefix_len is_space (replicate count 32 ++ text) ≡ count
spaces_before zero text none = none
spaces_before (suc count) text none = omega (arith, spaces_before count text none)

behind_spaces : (count : ℕ) (text : List ℕ) → drop count (replicate count 32 ++ text) ≡ text
behind_spaces zero text = refl
behind_spaces (suc count) text = behind_spaces count text

-- the first byte passes
abbrev opens : (ℕ → Bool) → List ℕ → Bool
opens p [] = false
opens p (b ∷ text) = p b

no_space : (k : Kind) (text : List ℕ) → prefix_len is_space (kind_text k ++ text) ≡ 0
no_space k text = by (kind_text k) (each_kind (λ k. opens (λ b. not (is_space b)) (kind_text k)) refl k)
  where
    by : (word : List ℕ) → opens (λ b. not (is_space b)) word ≡ true → prefix_len is_space (word ++ text) ≡ 0
    by [] h = absurd cc
    by (b ∷ word) h = rw (not-true (is_space b) h) refl

apart : (depth : ℕ) (k : Kind) (attrs : Attrs) → node_text depth k attrs ≡ replicate (2 * depth) 32 ++ node_text 0 k attrs
apart depth k attrs = append_assoc (replicate (2 * depth) 32) (kind_text k) (flat_map (λ n. attribute_text n (value_text attrs n)) names)

pub line_spaces : (depth : ℕ) (k : Kind) (attrs : Attrs) → prefix_len is_space (node_text depth k attrs) ≡ 2 * depth
line_spaces depth k attrs = ap (prefix_len is_space) (apart depth k attrs) ∙ spaces_before (2 * depth) (node_text 0 k attrs) (no_space k (flat_map (λ n. attribute_text n (value_text attrs n)) names))

pub line_text : (depth : ℕ) (k : Kind) (attrs : Attrs) → drop (2 * depth) (node_text depth k attrs) ≡ node_text 0 k attrs
line_text depth k attrs = ap (drop (2 * depth)) (apart depth k attrs) ∙ behind_spaces (2 * depth) (node_text 0 k attrs)

-- the same where the serial stands behind the kind

saved_apart : (depth : ℕ) (k : Kind) (serial : ℕ) (attrs : Attrs) → saved_node_text depth k serial attrs ≡ replicate (2 * depth) 32 ++ saved_node_text 0 k serial attrs
saved_apart depth k serial attrs = simp append_assoc

pub saved_spaces : (depth : ℕ) (k : Kind) (serial : ℕ) (attrs : Attrs) → prefix_len is_space (saved_node_text depth k serial attrs) ≡ 2 * depth
saved_spaces depth k serial attrs =
    ap (prefix_len is_space) (saved_apart depth k serial attrs)
    ∙ spaces_before (2 * depth) (saved_node_text 0 k serial attrs) (ap (prefix_len is_space) (saved_parts k serial (value_text attrs)) ∙ no_space k (behind_kind serial (value_text attrs)))

pub saved_line_text : (depth : ℕ) (k : Kind) (serial : ℕ) (attrs : Attrs) → drop (2 * depth) (saved_node_text depth k serial attrs) ≡ saved_node_text 0 k serial attrs
saved_line_text depth k serial attrs = ap (drop (2 * depth)) (saved_apart depth k serial attrs) ∙ behind_spaces (2 * depth) (saved_node_text 0 k serial attrs)

-- ---- the first word

word_first : (b : ℕ) (text : List ℕ) → is_no_space b ≡ true → take (prefix_len is_no_space (b ∷ text)) (b ∷ text) ≡ b ∷ take (prefix_len is_no_space text) text
word_first b text h =
    let len : prefix_len is_no_space (b ∷ text) ≡ suc (prefix_len is_no_space text) = rw h (omega arith) in
    ap (λ n. take n (b ∷ text)) len

other_word : (b : ℕ) (text : List ℕ) → is_no_space b ≡ true → eqb b 111 ≡ false → bytes_eq (take (prefix_len is_no_space (b ∷ text)) (b ∷ text)) (codes "outline") ≡ false
other_word b text h other = ap (λ word. bytes_eq word (codes "outline")) (word_first b text h) ∙ rw other refl

-- no kind is `outline`
pub no_header : (k : Kind) (text : List ℕ) → bytes_eq (take (prefix_len is_no_space (kind_text k ++ text)) (kind_text k ++ text)) (codes "outline") ≡ false
no_header k text = by (kind_text k) (each_kind (λ k. opens (λ b. is_no_space b && not (eqb b 111)) (kind_text k)) refl k)
  where
    by : (word : List ℕ) → opens (λ b. is_no_space b && not (eqb b 111)) word ≡ true → bytes_eq (take (prefix_len is_no_space (word ++ text)) (word ++ text)) (codes "outline") ≡ false
    by [] h = absurd cc
    by (b ∷ word) h = let parts = and_parts (is_no_space b) (not (eqb b 111)) h in other_word b (word ++ text) parts.0 (not-true (eqb b 111) parts.1)

pub plain_opens_none : (outline : Outline) (depth : ℕ) (k : Kind) (attrs : Attrs) → opens_saved outline (node_text depth k attrs) ≡ false
plain_opens_none outline depth k attrs =
    let text : List ℕ = flat_map (λ n. attribute_text n (value_text attrs n)) names in
    and_right (not (is_some outline.next) && eqb (length outline.nodes) 0) _
    (ap (λ (n : ℕ). bytes_eq (take (prefix_len is_no_space (drop n (node_text depth k attrs))) (drop n (node_text depth k attrs))) (codes "outline")) (line_spaces depth k attrs)
    ∙ ap (λ (rest : List ℕ). bytes_eq (take (prefix_len is_no_space rest) rest) (codes "outline")) (line_text depth k attrs) ∙ no_header k text)

-- ---- the node, and the line

abbrev pub made : ℕ → List (ℕ × Kind) → Kind → Attrs → Node
made serial above k attrs = record { serial = serial; kind = k; parent = unwrap_or (option_map (λ (n : ℕ × Kind). n.0) (last_of above)) 0; attrs = attrs }

-- where a node may stand below these, and what a document can hold
pub record IsRoom (nodes : List Node) (above : List (ℕ × Kind)) (k : Kind) (attrs : Attrs) : Type 0 where
  pub fits : may_stand (option_map (λ (n : ℕ × Kind). n.1) (last_of above)) k ≡ true
  pub single_root : (eqb (length above) 0 && ltb 0 (length nodes)) ≡ false
  pub unmixed : mixes nodes (last_of above) k ≡ false
  pub own_id : has_id nodes attrs.id ≡ false
  pub few : length nodes < NODES
  pub light : sum_by references_of nodes + references_among attrs ≤ REFERENCES

node_is : (outline : Outline) (spaces serial : ℕ) (above : List (ℕ × Kind)) (k : Kind) (attrs : Attrs) (shape : Shape) → IsRoom outline.nodes above k attrs → attrs_in (last_of above) k shape ≡ Ok attrs
    → node_within limits outline spaces above k serial shape ≡ Ok (made serial above k attrs)
node_is outline spaces serial above k attrs shape room read =
    let few : leb NODES (length outline.nodes) ≡ false = lt-leb _ _ room.few in
    let light : ltb REFERENCES (sum_by references_of outline.nodes + references_among attrs) ≡ false = le-ltb _ _ room.light in
    rw (room.fits, room.single_root, room.unmixed, read, room.own_id, few, light) refl

-- the steps of a line
abbrev steps : Outline → ℕ → ℕ → Shape → ℕ → Result Outline Refusal
steps outline spaces serial shape depth = do
  even ← refuse_if (eqb (spaces % 2) 1) refusal.BadOutline
  kind ← in_line spaces (kind_of_shape (Some shape))
  fresh ← refuse_if (is_bad_serial outline outline.next serial) refusal.BadSerial
  near ← refuse_if (ltb (length outline.branch) depth) refusal.DepthJump
  flat ← refuse_if (leb DEPTH depth) refusal.TooDeep
  node ← node_within limits outline spaces (take depth outline.branch) kind serial shape
  Ok (with_node outline depth node)

-- a node line of this depth and shape, where its serial is in order
pub record IsShaped (outline : Outline) (depth serial : ℕ) (k : Kind) (attrs : Attrs) (line : List ℕ) (shape : Shape) : Type 0 where
  pub short : length line ≤ LINE_BYTES
  pub later : opens_saved outline line ≡ false
  pub spaces : prefix_len is_space line ≡ 2 * depth
  pub shaped : shape_in outline outline.next (drop (2 * depth) line) ≡ Some (serial, shape)
  pub is : IsShape (is_seq_parent (option_map (λ (n : ℕ × Kind). n.1) (last_of (take depth outline.branch)))) k attrs shape
  pub fresh : is_bad_serial outline outline.next serial ≡ false

pub line_read : (outline : Outline) (depth serial : ℕ) (k : Kind) (attrs : Attrs) (line : List ℕ) (shape : Shape) → IsShaped outline depth serial k attrs line shape → depth < 32 → depth ≤ length outline.branch
    → IsRoom outline.nodes (take depth outline.branch) k attrs → with_line outline line ≡ Ok (with_node outline depth (made serial (take depth outline.branch) k attrs))
line_read outline depth serial k attrs line shape s flat near room =
    let above = take depth outline.branch in
    let half : 2 * depth / 2 ≡ depth = omega arith in
    let even : eqb (2 * depth % 2) 1 ≡ false = ne_eqb _ _ (λ e. omega arith) in
    let not_long : ltb LINE_BYTES (length line) ≡ false = le-ltb _ _ s.short in
    let no_jump : ltb (length outline.branch) depth ≡ false = le-ltb _ _ near in
    let not_deep : leb DEPTH depth ≡ false = lt-leb _ _ flat in
    let node = node_is outline (2 * depth) serial above k attrs shape room s.is.read in
    let all : steps outline (2 * depth) serial shape depth ≡ Ok (with_node outline depth (made serial above k attrs)) = rw (even, s.is.kind, s.fresh, no_jump, not_deep, node) refl in
    as_node outline line not_long s.later
    ∙ ap (λ (spaces : ℕ). shape_within limits outline spaces (shape_in outline outline.next (drop spaces line))) s.spaces
    ∙ ap (shape_within limits outline (2 * depth)) s.shaped
    ∙ ap (steps outline (2 * depth) serial shape) half ∙ all
