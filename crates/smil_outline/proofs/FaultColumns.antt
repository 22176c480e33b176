-- The faults of values and node lines stand in their texts: a column is that of a byte of the line, or at most two more.
use Rattle.std.proofs.Common.{◌≡◌, ℕ, ◌+◌, ◌-◌, ◌≤◌, Bool, true, false, eqb, ltb, List, [], ◌∷◌, length, take, drop, Option, Some, None, Result, Ok, Err, arith, length-drop, length-take}
use Rattle.std.specs.Prelude.{IfSome, IfErr, unwrap_or, option_and_then}
use Rattle.std.specs.Char.{is_ascii_digit}
use Rattle.smil_model.specs.declared.limits.TheConstants.{LINE_BYTES}
use Rattle.std.specs.List.{prefix_len, slice_split}
use Rattle.std.proofs.lemmas.Bool.{cond_both}
use Rattle.std.proofs.lemmas.List.Sums.{prefix_len-le-length}
use Rattle.smil_model.specs.declared.document.Kind.{Kind}
use Rattle.smil_model.specs.declared.document.Attr.{Attr}
use Rattle.smil_model.specs.declared.document.Attr.TheVariants as attr
use Rattle.smil_model.specs.declared.document.AttrName.{AttrName}
use Rattle.smil_model.specs.declared.document.AttrName.TheVariants as name
use Rattle.smil_model.specs.declared.document.Attrs.{Attrs}
use Rattle.smil_model.specs.declared.document.Item.{Item}
use Rattle.smil_model.specs.document.Edits.{with_attr, no_attrs}
use Rattle.smil_grammar.specs.declared.fault.ItemFault.{ItemFault}
use Rattle.smil_grammar.specs.declared.fault.ItemFault.TheVariants as item_fault
use Rattle.smil_grammar.specs.declared.fault.ListFault.{ListFault}
use Rattle.smil_grammar.specs.declared.fault.ListFault.TheVariants as list_fault
use Rattle.smil_grammar.specs.declared.fault.AttrFault.{AttrFault}
use Rattle.smil_grammar.specs.declared.fault.AttrFault.TheVariants as attr_fault
use Rattle.smil_grammar.specs.declared.fault.NodeFault.{NodeFault}
use Rattle.smil_grammar.specs.declared.fault.NodeFault.TheVariants as fault
use Rattle.smil_grammar.specs.Results.{◌>>=◌}
use Rattle.smil_grammar.specs.Texts.{is_white, trim, behind}
use Rattle.smil_grammar.specs.Items.{item_of}
use Rattle.smil_grammar.specs.Items.{count_of as count_in}
use Rattle.smil_grammar.specs.Lists.{item_at, piece_at, items_from, few_items, item_pieces, is_plain, plain_at, list_of}
use Rattle.smil_grammar.specs.Values.{id_of, restart_default_of, fill_default_of, dur_of, time_of, repeat_count_of, repeat_dur_of, restart_of, fill_of, endsync_of, peers_of, higher_of, lower_of, text_of, is_other_value, of_list, of_value, plain_value_of, value_of}
use Rattle.smil_grammar.specs.Clock.{clock_within}
use Rattle.smil_grammar.specs.Attributes.{attr_name_of, name_called, name_or, unnamed, is_other_name, has, kind_called, is_other_kind}
use Rattle.smil_grammar.specs.Nodes.{is_of_kind, WrittenAttr, attributes_at, Shape, shaped, shape_of, with_serial, shape_behind, saved_shape_of, repeats, kind_or, kind_of_shape, column_at, at_column, attribute_of, attr_of, attrs_from}
use Rattle.smil_grammar.proofs.ResultFaults.{after}
use Rattle.smil_lexis.proofs.CutPieces.{joined_len, split_len}
use Rattle.smil_attrs.specs.Within.{StandsWithin, AllWithin}
use Rattle.smil_attrs.proofs.AttributeColumns.{pieces_near, shape_near}
use Rattle.smil_outline.specs.Steps.{IsInLine, IsNear}

-- ---- lists

abbrev ListPlace : ℕ → ListFault → Type 0
ListPlace m (list_fault.Bad place) = place ≤ m
ListPlace m (list_fault.Unsupported place) = place ≤ m
ListPlace m _ = Unit {0}

first_near : (m place : ℕ) (first : Option ℕ) → place ≤ m → IfSome first (λ p. p ≤ m) → unwrap_or first place ≤ m
first_near m place None le h = le
first_near m place (Some p) le h = h

item_near : (m : ℕ) (first : Option ℕ) (place : ℕ) (r : Result Item ItemFault) → place ≤ m → IfSome first (λ p. p ≤ m) → IfErr (item_at first place r) (ListPlace m)
item_near m first place (Ok x) le h = tt
item_near m first place (Err item_fault.Bad) le h = first_near m place first le h
item_near m first place (Err item_fault.Unsupported) le h = le
item_near m first place (Err item_fault.Memory) le h = tt

items_near : (m : ℕ) (first : Option ℕ) (place : ℕ) (pieces : List (List ℕ)) → place + joined_len pieces ≤ m + 1 → IfSome first (λ p. p ≤ m) → IfErr (items_from first place pieces) (ListPlace m)
items_near m first place [] le h = tt
items_near m first place (piece ∷ pieces) le h =
    let white : prefix_len is_white piece ≤ length piece = prefix_len-le-length is_white piece in
    after (ListPlace m) (piece_at first place piece) (λ item. items_from first (place + length piece + 1) pieces >>= λ items. Ok (item ∷ items))
    (item_near m first (place + prefix_len is_white piece) (item_of (trim piece)) (omega arith) h)
    (λ item. after (ListPlace m) (items_from first (place + length piece + 1) pieces) (λ items. Ok (item ∷ items)) (items_near m first (place + length piece + 1) pieces (omega arith) h) (λ items. tt))

few_near : (first : Option ℕ) (text : List ℕ) → IfSome first (λ p. p ≤ length text) → IfErr (few_items first text) (ListPlace (length text))
few_near first text h =
    let len : joined_len (item_pieces text) ≡ length text + 1 = split_len 59 text in
    cond_both (ltb 32 (length (item_pieces text))) (Err list_fault.TooManyItems) (items_from first 0 (item_pieces text)) (λ r. IfErr r (ListPlace (length text)))
    (λ e. tt) (λ e. items_near (length text) first 0 (item_pieces text) (omega arith) h)

list_near : (in_seq : Bool) (text : List ℕ) → IfErr (list_of in_seq text) (ListPlace (length text))
list_near false text = few_near None text tt
list_near true text =
    let white : prefix_len is_white text ≤ length text = prefix_len-le-length is_white text in
    after (ListPlace (length text)) (few_items (Some (prefix_len is_white text)) text) (plain_at (prefix_len is_white text)) (few_near (Some (prefix_len is_white text)) text white)
    (λ items. cond_both (is_plain items) (Ok items) (Err (list_fault.Bad (prefix_len is_white text))) (λ r. IfErr r (ListPlace (length text))) (λ e. tt) (λ e. white))

-- ---- values

abbrev pub AttrPlace : ℕ → AttrFault → Type 0
AttrPlace m (attr_fault.UnsupportedValue place) = place ≤ m
AttrPlace m (attr_fault.BadValue place) = place ≤ m
AttrPlace m _ = Unit {0}

of_list_near : (m : ℕ) (made : List Item → Attr) (r : Result (List Item) ListFault) → IfErr r (ListPlace m) → IfErr (of_list made r) (AttrPlace m)
of_list_near m made (Ok items) h = tt
of_list_near m made (Err (list_fault.Bad place)) h = h
of_list_near m made (Err (list_fault.Unsupported place)) h = h
of_list_near m made (Err list_fault.TooManyItems) h = tt
of_list_near m made (Err list_fault.Memory) h = tt

of_value_near : {A : Type 0} (m : ℕ) (made : A → Attr) (value : Option A) → IfErr (of_value made value) (AttrPlace m)
of_value_near m made None = omega arith
of_value_near m made (Some x) = tt

plain_near : (in_seq : Bool) (n : AttrName) (text : List ℕ) → IfErr (plain_value_of in_seq n text) (AttrPlace (length text))
plain_near in_seq name.Id text = of_value_near _ attr.Id (id_of text)
plain_near in_seq name.Begin text = of_list_near _ attr.Begin (list_of in_seq text) (list_near in_seq text)
plain_near in_seq name.Dur text = of_value_near _ attr.Dur (dur_of (trim text))
plain_near in_seq name.End text = of_list_near _ attr.End (list_of false text) (list_near false text)
plain_near in_seq name.Min text = of_value_near _ _ (clock_within (trim text))
plain_near in_seq name.Max text = of_value_near _ attr.Max (time_of (trim text))
plain_near in_seq name.RepeatCount text = of_value_near _ attr.RepeatCount (repeat_count_of (trim text))
plain_near in_seq name.RepeatDur text = of_value_near _ attr.RepeatDur (repeat_dur_of (trim text))
plain_near in_seq name.Restart text = of_value_near _ attr.Restart (restart_of (trim text))
plain_near in_seq name.Fill text = of_value_near _ attr.Fill (fill_of (trim text))
plain_near in_seq name.RestartDefault text = of_value_near _ attr.RestartDefault (restart_default_of (trim text))
plain_near in_seq name.FillDefault text = of_value_near _ attr.FillDefault (fill_default_of (trim text))
plain_near in_seq name.Endsync text = of_value_near _ attr.Endsync (endsync_of (trim text))
plain_near in_seq name.Peers text = of_value_near _ attr.Peers (peers_of (trim text))
plain_near in_seq name.Higher text = of_value_near _ attr.Higher (higher_of (trim text))
plain_near in_seq name.Lower text = of_value_near _ attr.Lower (lower_of (trim text))
plain_near in_seq (name.Text n) text = of_value_near _ (attr.Text n) (text_of n text)

value_near : (in_seq : Bool) (n : AttrName) (text : List ℕ) → IfErr (value_of in_seq n text) (AttrPlace (length text))
value_near in_seq n text = cond_both (is_other_value n (trim text)) (Err (attr_fault.UnsupportedValue 0)) (plain_value_of in_seq n text) (λ r. IfErr r (AttrPlace (length text))) (λ e. omega arith) (λ e. plain_near in_seq n text)

unnamed_near : (m : ℕ) (word : List ℕ) → AttrPlace m (unnamed word)
unnamed_near m word = cond_both (is_other_name word) attr_fault.UnsupportedName attr_fault.UnknownAttribute (AttrPlace m) (λ e. tt) (λ e. tt)

called_near : (m : ℕ) (k : Kind) (word : List ℕ) (called : Option AttrName) → IfErr (name_or k word called) (AttrPlace m)
called_near m k word None = unnamed_near m word
called_near m k word (Some n) = cond_both (has k n) (Ok n) (Err attr_fault.UnknownAttribute) (λ r. IfErr r (AttrPlace m)) (λ e. tt) (λ e. tt)

pub name_near : (m : ℕ) (k : Kind) (word : List ℕ) → IfErr (attr_name_of k word) (AttrPlace m)
name_near m k word = called_near m k word (name_called word)

pub attribute_near : (in_seq : Bool) (k : Kind) (word value : List ℕ) → IfErr (attribute_of in_seq k word value) (AttrPlace (length value))
attribute_near in_seq k word value = after (AttrPlace (length value)) (attr_name_of k word) (λ n. value_of in_seq n value) (name_near (length value) k word) (λ n. value_near in_seq n value)

-- ---- attributes of a line

abbrev pub FaultWithin : ℕ → NodeFault → Type 0
FaultWithin n (fault.Unsupported column) = column ≤ n
FaultWithin n (fault.UnknownAttribute column) = column ≤ n
FaultWithin n (fault.BadValue column) = column ≤ n
FaultWithin n (fault.TooManyItems column) = column ≤ n
FaultWithin n _ = Unit {0}

column_near : (n place : ℕ) → place ≤ n → column_at place ≤ n + 1
column_near n place le = omega arith

at_near : (n : ℕ) (w : WrittenAttr) (r : Result Attr AttrFault) → StandsWithin n w → IfErr r (AttrPlace (length w.value)) → IfErr (at_column w r) (FaultWithin (n + 1))
at_near n w (Ok x) s h = tt
at_near n w (Err attr_fault.UnknownAttribute) s h = column_near n w.name_place s.name
at_near n w (Err attr_fault.UnsupportedName) s h = column_near n w.name_place s.name
at_near n w (Err (attr_fault.UnsupportedValue place)) s h = column_near n (w.value_place + place) (omega (arith, s.value))
at_near n w (Err (attr_fault.BadValue place)) s h = column_near n (w.value_place + place) (omega (arith, s.value))
at_near n w (Err attr_fault.TooManyItems) s h = column_near n w.value_place (omega (arith, s.value))
at_near n w (Err attr_fault.Memory) s h = tt

pub attrs_near : (n : ℕ) (in_seq : Bool) (k : Kind) (attrs : Attrs) (ws : List WrittenAttr) → AllWithin n ws → IfErr (attrs_from in_seq k attrs ws) (FaultWithin (n + 1))
attrs_near n in_seq k attrs [] h = tt
attrs_near n in_seq k attrs (w ∷ ws) h =
    after (FaultWithin (n + 1)) (attr_of in_seq k w) (λ given. attrs_from in_seq k (with_attr attrs given) ws)
    (at_near n w (attribute_of in_seq k w.name w.value) h.0 (attribute_near in_seq k w.name w.value))
    (λ given. attrs_near n in_seq k (with_attr attrs given) ws h.1)

pub plain_in_line : (line : List ℕ) → length line ≤ LINE_BYTES → IfSome (shape_of line) IsInLine
plain_in_line line le = shape_near (LINE_BYTES + 1) line (omega arith)

behind_len : (wanted : ℕ) (text : List ℕ) → IfSome (behind wanted text) (λ rest. length rest + 1 ≡ length text)
behind_len wanted [] = tt
behind_len wanted (b ∷ text) = cond_both (eqb b wanted) (Some text) None (λ o. IfSome o (λ rest. length rest + 1 ≡ length (b ∷ text))) (λ e. omega arith) (λ e. tt)

behind_both : (first : Option (List ℕ)) (n : ℕ) → IfSome first (λ rest. length rest + 1 ≡ n) → IfSome (option_and_then (behind 35) first) (λ rest. length rest + 2 ≡ n)
behind_both None n h = tt
behind_both (Some rest) n h = by (behind 35 rest) (behind_len 35 rest)
  where
    by : (o : Option (List ℕ)) → IfSome o (λ text. length text + 1 ≡ length rest) → IfSome o (λ text. length text + 2 ≡ n)
    by None k = tt
    by (Some text) k = omega (arith, h)

numbered_near : (serial : Option ℕ) (shape : Option Shape) → IfSome shape IsInLine → IfSome (with_serial serial shape) (λ (s : ℕ × Shape). IsInLine s.1)
numbered_near None None h = tt
numbered_near None (Some shape) h = tt
numbered_near (Some serial) None h = tt
numbered_near (Some serial) (Some shape) h = h

behind_near : (word : List ℕ) (text : Option (List ℕ)) → IfSome text (λ rest. length word + 2 + length rest ≤ LINE_BYTES) → IfSome (shape_behind word text) (λ (s : ℕ × Shape). IsInLine s.1)
behind_near word None h = tt
behind_near word (Some text) h =
    let digits : prefix_len is_ascii_digit text ≤ length text = prefix_len-le-length is_ascii_digit text in
    numbered_near (count_in (take (prefix_len is_ascii_digit text) text)) (shaped word (attributes_at (length word + 2 + prefix_len is_ascii_digit text) (slice_split (λ b. eqb b 34) (drop (prefix_len is_ascii_digit text) text))))
    (pieces_near (LINE_BYTES + 1) (length word + 2 + prefix_len is_ascii_digit text) word (drop (prefix_len is_ascii_digit text) text) (omega (arith, h, length-drop (prefix_len is_ascii_digit text) text)))

pub saved_in_line : (line : List ℕ) → length line ≤ LINE_BYTES → IfSome (saved_shape_of line) (λ (s : ℕ × Shape). IsInLine s.1)
saved_in_line line le =
    let kind : prefix_len is_of_kind line ≤ length line = prefix_len-le-length is_of_kind line in
    let rest : List ℕ = drop (prefix_len is_of_kind line) line in
    behind_near (take (prefix_len is_of_kind line) line) (option_and_then (behind 35) (behind 32 rest))
    (fits (option_and_then (behind 35) (behind 32 rest)) (behind_both (behind 32 rest) (length rest) (behind_len 32 rest)))
  where
    fits : (o : Option (List ℕ)) → IfSome o (λ text. length text + 2 ≡ length (drop (prefix_len is_of_kind line) line)) → IfSome o (λ text. length (take (prefix_len is_of_kind line) line) + 2 + length text ≤ LINE_BYTES)
    fits None h = tt
    fits (Some text) h = omega (arith, h, le, length-drop (prefix_len is_of_kind line) line, length-take (prefix_len is_of_kind line) line)

kind_or_near : (n : ℕ) (word : List ℕ) (called : Option Kind) → 1 ≤ n → IfErr (kind_or word called) (FaultWithin n)
kind_or_near n word (Some k) le = tt
kind_or_near n word None le = cond_both (is_other_kind word) (Err (fault.Unsupported 1)) (Err fault.BadOutline) (λ r. IfErr r (FaultWithin n)) (λ e. le) (λ e. tt)

pub kind_shape_near : (n : ℕ) (shape : Option Shape) → 1 ≤ n → IfErr (kind_of_shape shape) (FaultWithin n)
kind_shape_near n None le = tt
kind_shape_near n (Some shape) le = cond_both (repeats shape.attributes) (Err fault.BadOutline) (kind_or shape.kind (kind_called shape.kind)) (λ r. IfErr r (FaultWithin n)) (λ e. tt) (λ e. kind_or_near n shape.kind (kind_called shape.kind) le)

near_of : (given : NodeFault) → FaultWithin (LINE_BYTES + 2) given → IsNear given
near_of fault.BadOutline h = tt
near_of (fault.Unsupported column) h = omega arith
near_of fault.BadPlace h = tt
near_of (fault.UnknownAttribute column) h = omega arith
near_of (fault.BadValue column) h = omega arith
near_of (fault.TooManyItems column) h = omega arith
near_of fault.Memory h = tt

all_near : {A : Type 0} (r : Result A NodeFault) → IfErr r (FaultWithin (LINE_BYTES + 2)) → IfErr r IsNear
all_near (Ok x) h = tt
all_near (Err given) h = near_of given h

pub kind_is_near : (shape : Shape) → IfErr (kind_of_shape (Some shape)) IsNear
kind_is_near shape = all_near (kind_of_shape (Some shape)) (kind_shape_near (LINE_BYTES + 2) (Some shape) (omega arith))

pub attrs_are_near : (in_seq : Bool) (k : Kind) (shape : Shape) → IsInLine shape → IfErr (attrs_from in_seq k no_attrs shape.attributes) IsNear
attrs_are_near in_seq k shape h = all_near (attrs_from in_seq k no_attrs shape.attributes) (attrs_near (LINE_BYTES + 1) in_seq k no_attrs shape.attributes h)
