-- The lines of a saved outline: all their bytes are shown, none is passed over, and none ends the
-- outline.
use Rattle.std.proofs.Common.{◌≡◌, refl, ◌∙◌, ap, ℕ, zero, suc, ◌+◌, ◌*◌, ◌<◌, ◌≤◌, ◌^◌, Bool, true, false, not, eqb, ◌&&◌, List, [], ◌∷◌, ◌++◌, take, drop, replicate, arith, decimal, append_assoc}
use Rattle.std.specs.Prelude.{All, codes, bytes_eq}
use Rattle.std.specs.List.{AllByRecursion, list_all, prefix_len}
use Rattle.std.proofs.lemmas.Bool.{and_parts, and_left, not-true, le-ltb}
use Rattle.std.proofs.lemmas.List.Elements.{recursion_from_All}
use Rattle.smil_model.specs.declared.document.Attrs.{Attrs}
use Rattle.smil_model.specs.declared.document.Kind.{Kind}
use Rattle.smil_model.specs.declared.document.Node.{Node}
use Rattle.smil_model.specs.document.Document.{Document}
use Rattle.smil_model.specs.document.Valid.{IsValid}
use Rattle.smil_grammar.specs.Attributes.{kind_text}
use Rattle.smil_grammar.specs.Nodes.{is_no_space}
use Rattle.smil_grammar.specs.Outlines.{depth_among, lines_from, saved_lines_from}
use Rattle.smil_grammar.specs.Scripts.{is_blank}
use Rattle.smil_grammar.specs.Spellings.{attributes_text, node_text, saved_node_text}
use Rattle.smil_grammar.specs.Texts.{is_white}
use Rattle.smil_lexis.proofs.TestedFronts.{passes_on, tested}
use Rattle.smil_attrs.proofs.WordTables.{each_kind}
use Rattle.smil_outline.specs.Written.{saved_lines}
use Rattle.smil_outline.proofs.PrintedBytes.{is_shown, IsShown, outline_shown}
use Rattle.smil_outline.proofs.NodeRoundTrip.{saved_spaces, saved_line_text}
use Rattle.smil_script.specs.Loads.{ends_load}
use Rattle.smil_audit_laws.proofs.EntryRoundTrip.{decimal_shown}

-- ---- shown bytes

shown_byte : (b : ℕ) → 32 ≤ b → is_shown b ≡ true
shown_byte b h = ap not (le-ltb b 32 h)

shown_text : (line : List ℕ) → AllByRecursion (λ (b : ℕ). 32 ≤ b) line → IsShown line
shown_text [] h = tt
shown_text (b ∷ line) h = (shown_byte b h.0, shown_text line h.1)

shown_lines : (ls : List (List ℕ)) → AllByRecursion (All (λ (b : ℕ). 32 ≤ b)) ls → AllByRecursion IsShown ls
shown_lines [] h = tt
shown_lines (line ∷ ls) h = (shown_text line (recursion_from_All (λ (b : ℕ). 32 ≤ b) line h.0), shown_lines ls h.1)

shown_front : (front back : List ℕ) → IsShown (front ++ back) → IsShown front
shown_front [] back h = tt
shown_front (b ∷ front) back h = (h.0, shown_front front back h.1)

shown_back : (front back : List ℕ) → IsShown (front ++ back) → IsShown back
shown_back [] back h = h
shown_back (b ∷ front) back h = shown_back front back h.1

-- with its serial, a line that is shown without it
saved_shown : (depth : ℕ) (k : Kind) (serial : ℕ) (attrs : Attrs) → serial < 2 ^ 64 → IsShown (node_text depth k attrs) → IsShown (saved_node_text depth k serial attrs)
saved_shown depth k serial attrs small h =
    let before : List ℕ = replicate (2 * depth) 32 ++ kind_text k in
    passes_on is_shown (before ++ codes " #" ++ decimal serial) (attributes_text attrs)
    (passes_on is_shown (before ++ codes " #") (decimal serial)
    (passes_on is_shown before (codes " #") (shown_front before (attributes_text attrs) h) (refl, (refl, tt)))
    (decimal_shown serial small))
    (shown_back before (attributes_text attrs) h)

nodes_shown : (depths : List (ℕ × ℕ)) (nodes : List Node) → AllByRecursion (λ (n : Node). n.serial < 2 ^ 64) nodes → AllByRecursion IsShown (lines_from depths nodes) → AllByRecursion IsShown (saved_lines_from depths nodes)
nodes_shown depths [] small h = tt
nodes_shown depths (n ∷ nodes) small h =
    let depth : ℕ = depth_among depths n.parent in
    (saved_shown depth n.kind n.serial n.attrs small.0 h.0, nodes_shown ((n.serial, depth) ∷ depths) nodes small.1 h.1)

-- ---- lines that say something, and end no outline

-- the first byte of a kind
abbrev is_first : ℕ → Bool
is_first b = is_no_space b && not (is_white b) && not (eqb b 35) && not (eqb b 37)

abbrev opens : List ℕ → Bool
opens [] = false
opens (b ∷ bytes) = is_first b

opens_kind : (k : Kind) → opens (kind_text k) ≡ true
opens_kind k = each_kind (λ k. opens (kind_text k)) refl k

opens_more : (word text : List ℕ) → opens word ≡ true → opens (word ++ text) ≡ true
opens_more [] text h = absurd cc
opens_more (b ∷ word) text h = h

abbrev behind_kind : ℕ → Attrs → List ℕ
behind_kind serial attrs = codes " #" ++ (decimal serial ++ attributes_text attrs)

parts_of : (depth : ℕ) (k : Kind) (serial : ℕ) (attrs : Attrs) → saved_node_text depth k serial attrs ≡ replicate (2 * depth) 32 ++ (kind_text k ++ behind_kind serial attrs)
parts_of depth k serial attrs = simp append_assoc

-- what begins so, behind spaces
white_behind : (count : ℕ) (text : List ℕ) → list_all is_white (replicate count 32 ++ text) ≡ list_all is_white text
white_behind zero text = refl
white_behind (suc count) text = white_behind count text

not_blank : (count : ℕ) (text : List ℕ) → opens text ≡ true → is_blank (replicate count 32 ++ text) ≡ false
not_blank count [] h = absurd cc
not_blank zero (b ∷ text) h =
    let parts = and_parts (is_no_space b && not (is_white b) && not (eqb b 35)) (not (eqb b 37)) h in
    let more = and_parts (is_no_space b && not (is_white b)) (not (eqb b 35)) parts.0 in
    let white : is_white b ≡ false = not-true (is_white b) (and_parts (is_no_space b) (not (is_white b)) more.0).1 in
    let sign : eqb b 35 ≡ false = not-true (eqb b 35) more.1 in
    rw (white, sign) refl
not_blank (suc count) (b ∷ text) h =
    let parts = and_parts (is_no_space b && not (is_white b) && not (eqb b 35)) (not (eqb b 37)) h in
    let more = and_parts (is_no_space b && not (is_white b)) (not (eqb b 35)) parts.0 in
    let white : is_white b ≡ false = not-true (is_white b) (and_parts (is_no_space b) (not (is_white b)) more.0).1 in
    let none : list_all is_white (replicate count 32 ++ b ∷ text) ≡ false = white_behind count (b ∷ text) ∙ rw white refl in
    rw none refl

other_word : (b : ℕ) (text : List ℕ) → is_first b ≡ true → bytes_eq (take (prefix_len is_no_space (b ∷ text)) (b ∷ text)) (codes "%%") ≡ false
other_word b text h =
    let parts = and_parts (is_no_space b && not (is_white b) && not (eqb b 35)) (not (eqb b 37)) h in
    let one : is_no_space b ≡ true = (and_parts (is_no_space b) (not (is_white b)) (and_parts (is_no_space b && not (is_white b)) (not (eqb b 35)) parts.0).0).0 in
    let other : eqb b 37 ≡ false = not-true (eqb b 37) parts.1 in
    let len : prefix_len is_no_space (b ∷ text) ≡ suc (prefix_len is_no_space text) = rw one (omega arith) in
    ap (λ n. bytes_eq (take n (b ∷ text)) (codes "%%")) len ∙ rw other refl

no_end : (text : List ℕ) → opens text ≡ true → bytes_eq (take (prefix_len is_no_space text) text) (codes "%%") ≡ false
no_end [] h = absurd cc
no_end (b ∷ text) h = other_word b text h

-- a node line
pub node_not_blank : (depth : ℕ) (k : Kind) (serial : ℕ) (attrs : Attrs) → is_blank (saved_node_text depth k serial attrs) ≡ false
node_not_blank depth k serial attrs =
    ap is_blank (parts_of depth k serial attrs) ∙ not_blank (2 * depth) (kind_text k ++ behind_kind serial attrs) (opens_more (kind_text k) (behind_kind serial attrs) (opens_kind k))

pub node_ends_none : (depth : ℕ) (k : Kind) (serial : ℕ) (attrs : Attrs) → ends_load (saved_node_text depth k serial attrs) ≡ false
node_ends_none depth k serial attrs =
    let line : List ℕ = saved_node_text depth k serial attrs in
    and_left _ _
    (ap (λ (n : ℕ). bytes_eq (take (prefix_len is_no_space (drop n line)) (drop n line)) (codes "%%")) (saved_spaces depth k serial attrs)
    ∙ ap (λ (rest : List ℕ). bytes_eq (take (prefix_len is_no_space rest) rest) (codes "%%")) (saved_line_text depth k serial attrs ∙ parts_of 0 k serial attrs)
    ∙ no_end (kind_text k ++ behind_kind serial attrs) (opens_more (kind_text k) (behind_kind serial attrs) (opens_kind k)))

-- a line of an outline behind its header
pub record IsNodeLine (line : List ℕ) : Type 0 where
  pub said : is_blank line ≡ false
  pub goes_on : ends_load line ≡ false

pub node_lines : (depths : List (ℕ × ℕ)) (nodes : List Node) → AllByRecursion IsNodeLine (saved_lines_from depths nodes)
node_lines depths [] = tt
node_lines depths (n ∷ nodes) =
    let depth : ℕ = depth_among depths n.parent in
    (record { said = node_not_blank depth n.kind n.serial n.attrs; goes_on = node_ends_none depth n.kind n.serial n.attrs }, node_lines ((n.serial, depth) ∷ depths) nodes)

-- ---- all lines

serials_small : (nodes : List Node) (next : ℕ) → next ≤ 999_999_999 → AllByRecursion (λ (n : Node). (0 < n.serial) × (n.serial < next)) nodes → AllByRecursion (λ (n : Node). n.serial < 2 ^ 64) nodes
serials_small [] next few h = tt
serials_small (n ∷ nodes) next few h = let below = h.0.1 in (omega (arith, few, below), serials_small nodes next few h.1)

pub saved_all_shown : (document : Document) → IsValid document → AllByRecursion IsShown (saved_lines document)
saved_all_shown document valid =
    let few = valid.numbered.next in (
      passes_on is_shown (codes "outline 2 next ") (decimal document.next) (tested is_shown (codes "outline 2 next ") refl) (decimal_shown document.next (omega (arith, few))),
      nodes_shown [] document.nodes
          (serials_small document.nodes document.next few (recursion_from_All (λ (n : Node). (0 < n.serial) × (n.serial < document.next)) document.nodes valid.numbered.below))
          (shown_lines (lines_from [] document.nodes) (recursion_from_All (All (λ (b : ℕ). 32 ≤ b)) (lines_from [] document.nodes) (outline_shown document valid))),
    )
