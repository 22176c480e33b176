-- The attributes of a line stand in it.
use Rattle.std.proofs.Common.{◌≡◌, ℕ, ◌+◌, ◌-◌, ◌≤◌, ◌&&◌, eqb, ltb, List, [], ◌∷◌, length, take, drop, Option, Some, None, arith, length-drop}
use Rattle.std.specs.Prelude.{IfSome}
use Rattle.std.specs.List.{prefix_len, list_all, slice_split}
use Rattle.std.proofs.lemmas.Bool.{cond_both}
use Rattle.std.proofs.lemmas.List.Sums.{prefix_len-le-length}
use Rattle.smil_grammar.specs.Nodes.{is_space, is_of_kind, is_named, WrittenAttr, attribute_at, attributes_at, with_written, Shape, shaped, shape_of}
use Rattle.smil_lexis.proofs.CutPieces.{joined_len, split_len}
use Rattle.smil_attrs.specs.Within.{StandsWithin, AllWithin}

written_near : (n place : ℕ) (lead value : List ℕ) → place + length lead + 1 + length value ≤ n → IfSome (attribute_at place lead value) (StandsWithin n)
written_near n place lead value le =
    let spaces : prefix_len is_space lead ≤ length lead = prefix_len-le-length is_space lead in
    cond_both (ltb 0 (prefix_len is_space lead) && is_named (drop (prefix_len is_space lead) lead)) (Some (record { name = take (length (drop (prefix_len is_space lead) lead) - 1) (drop (prefix_len is_space lead) lead); name_place = place + prefix_len is_space lead; value = value; value_place = place + length lead + 1 })) None (λ r. IfSome r (StandsWithin n)) (λ e. record { name = omega arith; value = omega arith }) (λ e. tt)

with_near : (n : ℕ) (w : Option WrittenAttr) (ws : Option (List WrittenAttr)) → IfSome w (StandsWithin n) → IfSome ws (AllWithin n) → IfSome (with_written w ws) (AllWithin n)
with_near n None None h k = tt
with_near n None (Some ws) h k = tt
with_near n (Some w) None h k = tt
with_near n (Some w) (Some ws) h k = (h, k)

attributes_near : (n place : ℕ) (pieces : List (List ℕ)) → place + joined_len pieces ≤ n → IfSome (attributes_at place pieces) (AllWithin n)
attributes_near n place [] le = tt
attributes_near n place (last ∷ []) le = cond_both (list_all is_space last) (Some []) None (λ r. IfSome r (AllWithin n)) (λ e. tt) (λ e. tt)
attributes_near n place (lead ∷ value ∷ pieces) le =
    with_near n (attribute_at place lead value) (attributes_at (place + length lead + length value + 2) pieces)
    (written_near n place lead value (omega arith))
    (attributes_near n (place + length lead + length value + 2) pieces (omega arith))

-- a shape whose attributes stand within so many bytes
abbrev pub ShapeWithin : ℕ → Shape → Type 0
ShapeWithin n shape = AllWithin n shape.attributes

shaped_near : (n : ℕ) (word : List ℕ) (attributes : Option (List WrittenAttr)) → IfSome attributes (AllWithin n) → IfSome (shaped word attributes) (ShapeWithin n)
shaped_near n word None h = tt
shaped_near n word (Some attributes) h = cond_both _ (Some (record { kind = word; attributes = attributes })) None (λ r. IfSome r (ShapeWithin n)) (λ e. h) (λ e. tt)

pub pieces_near : (n place : ℕ) (word text : List ℕ) → place + length text + 1 ≤ n → IfSome (shaped word (attributes_at place (slice_split (λ b. eqb b 34) text))) (ShapeWithin n)
pieces_near n place word text le =
    let len : joined_len (slice_split (λ b. eqb b 34) text) ≡ length text + 1 = split_len 34 text in
    shaped_near n word (attributes_at place (slice_split (λ b. eqb b 34) text)) (attributes_near n place (slice_split (λ b. eqb b 34) text) (omega arith))

pub shape_near : (n : ℕ) (line : List ℕ) → length line + 1 ≤ n → IfSome (shape_of line) (ShapeWithin n)
shape_near n line le =
    let kind : prefix_len is_of_kind line ≤ length line = prefix_len-le-length is_of_kind line in
    pieces_near n (prefix_len is_of_kind line) (take (prefix_len is_of_kind line) line) (drop (prefix_len is_of_kind line) line) (omega (arith, length-drop (prefix_len is_of_kind line) line))
