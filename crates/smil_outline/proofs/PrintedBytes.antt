-- A node line that is written has no byte below the space.
use Rattle.std.proofs.Common.{◌≡◌, ℕ, zero, suc, ◌*◌, ◌≤◌, Bool, true, false, not, eqb, ltb, List, [], ◌∷◌, ◌++◌, replicate, flat_map, Option, Some, None, option_map, refl, ap, ◌∙◌, arith, append_assoc}
use Rattle.std.specs.Prelude.{codes, IfSome, All}
use Rattle.std.specs.List.{AllByRecursion, list_all, slice_split}
use Rattle.std.proofs.lemmas.Bool.{and_parts}
use Rattle.std.proofs.lemmas.Bool.Decides.{nat_tests}
use Rattle.std.proofs.lemmas.List.Elements.{All-from_recursion}
use Rattle.std.proofs.lemmas.List.Splits.{slice_split_at}
use Rattle.smil_model.specs.declared.document.Kind.{Kind}
use Rattle.smil_model.specs.declared.document.Attr.{Attr}
use Rattle.smil_model.specs.declared.document.Attrs.{Attrs}
use Rattle.smil_model.specs.declared.document.AttrName.{AttrName}
use Rattle.smil_model.specs.document.Words.{is_kept}
use Rattle.smil_model.specs.document.Values.{is_seq_parent}
use Rattle.smil_grammar.specs.Attributes.{kind_text, name_text, names, has}
use Rattle.smil_model.specs.declared.document.Node.{Node}
use Rattle.smil_model.specs.document.Document.{Document, node_at}
use Rattle.smil_model.specs.document.Valid.{IsValid, kind_of, has_fitting_attrs}
use Rattle.smil_grammar.specs.Outlines.{depth_among, lines_from, outline_text}
use Rattle.smil_grammar.specs.Spellings.{attr_text, attr_at, value_text, attribute_text, node_text}
use Rattle.smil_lexis.proofs.TestedFronts.{Passes, tested, passes_weaker, passes_on}
use Rattle.smil_attrs.proofs.WordTables.{each_kind, each_name}
use Rattle.smil_attrs.proofs.ValueBytes.{attr_kept}
use Rattle.smil_outline.proofs.FittingAttributes.{IsInRange, AreInRange, is_attr, in_range}

-- a byte that is not below the space
abbrev pub is_shown : ℕ → Bool
is_shown b = not (ltb b 32)

abbrev pub IsShown : List ℕ → Type 0
IsShown text = Passes is_shown text

kept_byte : (b : ℕ) → is_kept b ≡ true → is_shown b ≡ true
kept_byte b h = (and_parts _ _ (and_parts _ _ h).0).0

value_shown : (in_seq : Bool) (given : Attr) → IsInRange in_seq given → IsShown (attr_text given)
value_shown in_seq given h = passes_weaker is_kept is_shown kept_byte (attr_text given) (attr_kept in_seq given (is_attr in_seq given h))

-- lines

name_shown : (n : AttrName) → IsShown (32 ∷ (name_text n ++ codes "=\""))
name_shown n = tested is_shown (32 ∷ (name_text n ++ codes "=\"")) (each_name (λ n. list_all is_shown (32 ∷ (name_text n ++ codes "=\""))) refl n)

kind_shown : (k : Kind) → IsShown (kind_text k)
kind_shown k = tested is_shown (kind_text k) (each_kind (λ k. list_all is_shown (kind_text k)) refl k)

attribute_shown : (in_seq had : Bool) (n : AttrName) (o : Option Attr) → IfSome o (λ given. (had ≡ true) × IsInRange in_seq given) → IsShown (attribute_text n (option_map attr_text o))
attribute_shown in_seq had n None h = tt
attribute_shown in_seq had n (Some given) h =
    let name = name_shown n in
    (refl, passes_on is_shown (name_text n ++ codes "=\"" ++ attr_text given) (34 ∷ []) (passes_on is_shown (name_text n ++ codes "=\"") (attr_text given) name.1 (value_shown in_seq given h.1)) (refl, tt))

attributes_shown : (in_seq : Bool) (k : Kind) (attrs : Attrs) → AreInRange in_seq k attrs → (ns : List AttrName) → IsShown (flat_map (λ n. attribute_text n (value_text attrs n)) ns)
attributes_shown in_seq k attrs h [] = tt
attributes_shown in_seq k attrs h (n ∷ ns) =
    passes_on is_shown (attribute_text n (value_text attrs n)) (flat_map (λ n. attribute_text n (value_text attrs n)) ns) (attribute_shown in_seq (has k n) n (attr_at attrs n) (h n)) (attributes_shown in_seq k attrs h ns)

spaces_shown : (count : ℕ) → IsShown (replicate count 32)
spaces_shown zero = tt
spaces_shown (suc count) = (refl, spaces_shown count)

line_shown : (in_seq : Bool) (depth : ℕ) (k : Kind) (attrs : Attrs) → AreInRange in_seq k attrs → IsShown (node_text depth k attrs)
line_shown in_seq depth k attrs h =
    passes_on is_shown (replicate (2 * depth) 32 ++ kind_text k) (flat_map (λ n. attribute_text n (value_text attrs n)) names) (passes_on is_shown (replicate (2 * depth) 32) (kind_text k) (spaces_shown (2 * depth)) (kind_shown k)) (attributes_shown in_seq k attrs h names)

lines_shown : (nodes : List Node) (depths : List (ℕ × ℕ)) (rest : List Node) → list_all (has_fitting_attrs nodes) rest ≡ true → AllByRecursion IsShown (lines_from depths rest)
lines_shown nodes depths [] h = tt
lines_shown nodes depths (n ∷ rest) h =
    let parts = and_parts (has_fitting_attrs nodes n) (list_all (has_fitting_attrs nodes) rest) h in
    let parent : Option Kind = kind_of (node_at nodes n.parent) in
    (line_shown (is_seq_parent parent) (depth_among depths n.parent) n.kind n.attrs (in_range n.kind parent n.attrs parts.0), lines_shown nodes ((n.serial, depth_among depths n.parent) ∷ depths) rest parts.1)

-- a byte that is shown is no line feed
no_feed : (b : ℕ) → is_shown b ≡ true → eqb b 10 ≡ false
no_feed b h = grind (arith, nat_tests)

is_high : (b : ℕ) → is_shown b ≡ true → 32 ≤ b
is_high b h = grind (arith, nat_tests)

none : (line : List ℕ) → IsShown line → AllByRecursion (λ b. eqb b 10 ≡ false) line
none [] h = tt
none (b ∷ line) h = (no_feed b h.0, none line h.1)

cut : (lines : List (List ℕ)) → AllByRecursion IsShown lines → slice_split (λ b. eqb b 10) (flat_map (λ line. line ++ 10 ∷ []) lines) ≡ lines ++ [] ∷ []
cut [] h = refl
cut (line ∷ lines) h =
    ap (slice_split (λ b. eqb b 10)) (append_assoc line (10 ∷ []) (flat_map (λ line. line ++ 10 ∷ []) lines))
    ∙ slice_split_at (λ b. eqb b 10) line 10 (flat_map (λ line. line ++ 10 ∷ []) lines) (All-from_recursion (λ b. eqb b 10 ≡ false) line (none line h.0)) refl
    ∙ ap (λ (pieces : List (List ℕ)). line ∷ pieces) (cut lines h.1)

high : (line : List ℕ) → IsShown line → AllByRecursion (λ b. 32 ≤ b) line
high [] h = tt
high (b ∷ line) h = (is_high b h.0, high line h.1)

all_high : (lines : List (List ℕ)) → AllByRecursion IsShown lines → AllByRecursion (All (λ (b : ℕ). 32 ≤ b)) lines
all_high [] h = tt
all_high (line ∷ lines) h = (All-from_recursion (λ (b : ℕ). 32 ≤ b) line (high line h.0), all_high lines h.1)

pub outline_cut : (document : Document) → IsValid document → slice_split (λ b. eqb b 10) (outline_text document.nodes) ≡ lines_from [] document.nodes ++ [] ∷ []
outline_cut document valid = cut (lines_from [] document.nodes) (lines_shown document.nodes [] document.nodes valid.fitting)

pub outline_shown : (document : Document) → IsValid document → All (All (λ (b : ℕ). 32 ≤ b)) (lines_from [] document.nodes)
outline_shown document valid = All-from_recursion (All (λ (b : ℕ). 32 ≤ b)) (lines_from [] document.nodes) (all_high (lines_from [] document.nodes) (lines_shown document.nodes [] document.nodes valid.fitting))
