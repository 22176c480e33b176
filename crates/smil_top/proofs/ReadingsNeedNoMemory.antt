-- No definition refuses anything since memory ran out: the readings.
use Rattle.std.proofs.Common.{◌≡◌, ◌∷◌, Bool, true, false, List, [], length, Option, Some, None, Result, Ok, Err, refl}
use Rattle.std.specs.Prelude.{ℕ, ◌+◌, if◌then◌else◌, ◌==◌, nat_lt, bytes_eq, codes, drop}
use Rattle.std.specs.Option.{ok_or}
use Rattle.smil_model.specs.declared.limits.TheConstants.{ITEMS}
use Rattle.smil_model.specs.declared.document.Item.{Item}
use Rattle.smil_model.specs.declared.document.Item.TheVariants.{Indefinite}
use Rattle.smil_model.specs.declared.document.Kind.{Kind}
use Rattle.smil_model.specs.declared.document.Attrs.{Attrs}
use Rattle.smil_model.specs.declared.document.AttrName.{AttrName}
use Rattle.smil_model.specs.declared.document.AttrName.TheVariants as name
use Rattle.smil_grammar.specs.declared.fault.ItemFault.{ItemFault}
use Rattle.smil_grammar.specs.declared.fault.ItemFault.TheVariants as item
use Rattle.smil_grammar.specs.declared.fault.ListFault.{ListFault}
use Rattle.smil_grammar.specs.declared.fault.ListFault.TheVariants as list
use Rattle.smil_grammar.specs.declared.fault.AttrFault.{AttrFault}
use Rattle.smil_grammar.specs.declared.fault.AttrFault.TheVariants as attr
use Rattle.smil_grammar.specs.declared.fault.NodeFault.{NodeFault}
use Rattle.smil_grammar.specs.declared.fault.NodeFault.TheVariants as node
use Rattle.smil_grammar.specs.Results.{◌>>=◌}
use Rattle.smil_grammar.specs.Texts.{trim, behind, point}
use Rattle.smil_grammar.specs.Items.{of_element, subject_of, is_left_out, is_keyed, key_of, named_of, item_of}
use Rattle.smil_grammar.specs.Words.{id_len}
use Rattle.smil_grammar.specs.Lists.{item_at, piece_at, items_from, item_pieces, few_items, list_of}
use Rattle.smil_grammar.specs.Values.{of_list, of_value, plain_value_of, value_of}
use Rattle.smil_grammar.specs.Attributes.{attr_name_of, name_or, is_other_name}
use Rattle.smil_grammar.specs.Nodes.{WrittenAttr, Shape, at_column, attribute_of, attr_of, attrs_from, attrs_of, kind_or, kind_of_shape, kind_of, node_of, shape_of}
use Rattle.smil_model.specs.document.Edits.{no_attrs, with_attr}
use Rattle.smil_model.specs.document.Values.{is_seq_parent}

-- ---- results that are not refused for a cause

abbrev pub is_lack : {A E : Type 0} → (E → Bool) → Result A E → Bool
is_lack lacks (Ok x) = false
is_lack lacks (Err e) = lacks e

pub record Sure {A E : Type 0} (lacks : E → Bool) (r : Result A E) : Type 0 where
  pub never : is_lack lacks r ≡ false

module _ {A E : Type 0} (lacks : E → Bool) where
  pub made : (x : A) → Sure lacks (Ok x)
  made x = record { never = refl }

  pub refused : (e : E) → lacks e ≡ false → Sure {A = A} lacks (Err e)
  refused e h = record { never = h }

  pub either : (b : Bool) (x y : Result A E) → Sure lacks x → Sure lacks y → Sure lacks (if b then x else y)
  either true x y h k = h
  either false x y h k = k

  pub found : (o : Option A) (e : E) → lacks e ≡ false → Sure lacks (ok_or o e)
  found (Some x) e h = made x
  found None e h = refused e h

pub onward : {A B E : Type 0} (lacks : E → Bool) (r : Result A E) (f : A → Result B E) → Sure lacks r → ((x : A) → Sure lacks (f x)) → Sure lacks (r >>= f)
onward lacks (Ok x) f h k = k x
onward lacks (Err e) f h k = record { never = h.never }

-- ---- items

abbrev pub item_lacks : ItemFault → Bool
item_lacks item.Memory = true
item_lacks _ = false

element_sure : (who text : List ℕ) → Sure item_lacks (of_element who text)
element_sure who text = either item_lacks _ _ _ (refused item_lacks item.Unsupported refl) (found item_lacks _ item.Bad refl)

subject_sure : (text : List ℕ) (rest : Option (List ℕ)) → Sure item_lacks (subject_of text rest)
subject_sure text None = found item_lacks _ item.Bad refl
subject_sure text (Some rest) = element_sure _ rest

named_sure : (text : List ℕ) → Sure item_lacks (named_of text)
named_sure text =
    either item_lacks (is_left_out text) _ _ (refused item_lacks item.Unsupported refl)
    (either item_lacks (is_keyed text) _ _ (found item_lacks (key_of (drop 10 text)) item.Bad refl)
    (either item_lacks (bytes_eq text (codes "indefinite")) _ _ (made item_lacks Indefinite)
    (either item_lacks (id_len true text == 0) _ _ (refused item_lacks item.Bad refl) (subject_sure text (behind point (drop (id_len true text) text))))))

item_sure : (text : List ℕ) → Sure item_lacks (item_of text)
item_sure [] = refused item_lacks item.Bad refl
item_sure (b ∷ bytes) = either item_lacks _ _ _ (found item_lacks _ item.Bad refl) (named_sure (b ∷ bytes))

-- ---- lists

abbrev pub list_lacks : ListFault → Bool
list_lacks list.Memory = true
list_lacks _ = false

at_sure : (first : Option ℕ) (place : ℕ) (r : Result Item ItemFault) → Sure item_lacks r → Sure list_lacks (item_at first place r)
at_sure first place (Ok x) h = made list_lacks x
at_sure first place (Err item.Bad) h = refused list_lacks _ refl
at_sure first place (Err item.Unsupported) h = refused list_lacks _ refl
at_sure first place (Err item.Memory) h = let never : true ≡ false = h.never in absurd cc

items_sure : (first : Option ℕ) (place : ℕ) (pieces : List (List ℕ)) → Sure list_lacks (items_from first place pieces)
items_sure first place [] = made list_lacks []
items_sure first place (piece ∷ pieces) =
    onward list_lacks (piece_at first place piece) _ (at_sure first _ (item_of (trim piece)) (item_sure (trim piece)))
    (λ item. onward list_lacks (items_from first (place + length piece + 1) pieces) _ (items_sure first (place + length piece + 1) pieces) (λ items. made list_lacks (item ∷ items)))

few_sure : (first : Option ℕ) (text : List ℕ) → Sure list_lacks (few_items first text)
few_sure first text = either list_lacks (nat_lt ITEMS (length (item_pieces text))) _ _ (refused list_lacks list.TooManyItems refl) (items_sure first 0 (item_pieces text))

list_sure : (in_seq : Bool) (text : List ℕ) → Sure list_lacks (list_of in_seq text)
list_sure false text = few_sure None text
list_sure true text = onward list_lacks (few_items (Some _) text) _ (few_sure (Some _) text) (λ items. either list_lacks _ _ _ (made list_lacks items) (refused list_lacks _ refl))

-- ---- values

abbrev pub attr_lacks : AttrFault → Bool
attr_lacks attr.Memory = true
attr_lacks _ = false

module _ {A : Type 0} where
  of_list_sure : (made : List Item → A) (r : Result (List Item) ListFault) → Sure list_lacks r → Sure attr_lacks (of_list made r)
  of_list_sure mk (Ok items) h = made attr_lacks (mk items)
  of_list_sure mk (Err (list.Bad place)) h = refused attr_lacks _ refl
  of_list_sure mk (Err (list.Unsupported place)) h = refused attr_lacks _ refl
  of_list_sure mk (Err list.TooManyItems) h = refused attr_lacks _ refl
  of_list_sure mk (Err list.Memory) h = let never : true ≡ false = h.never in absurd cc

of_value_sure : {A B : Type 0} (mk : A → B) (o : Option A) → Sure attr_lacks (of_value mk o)
of_value_sure mk o = found attr_lacks _ (attr.BadValue 0) refl

plain_sure : (in_seq : Bool) (called : AttrName) (text : List ℕ) → Sure attr_lacks (plain_value_of in_seq called text)
plain_sure in_seq name.Begin text = of_list_sure _ (list_of in_seq text) (list_sure in_seq text)
plain_sure in_seq name.End text = of_list_sure _ (list_of false text) (list_sure false text)
plain_sure in_seq name.Id text = of_value_sure _ _
plain_sure in_seq name.Dur text = of_value_sure _ _
plain_sure in_seq name.Min text = of_value_sure _ _
plain_sure in_seq name.Max text = of_value_sure _ _
plain_sure in_seq name.RepeatCount text = of_value_sure _ _
plain_sure in_seq name.RepeatDur text = of_value_sure _ _
plain_sure in_seq name.Restart text = of_value_sure _ _
plain_sure in_seq name.Fill text = of_value_sure _ _
plain_sure in_seq name.RestartDefault text = of_value_sure _ _
plain_sure in_seq name.FillDefault text = of_value_sure _ _
plain_sure in_seq name.Endsync text = of_value_sure _ _
plain_sure in_seq name.Peers text = of_value_sure _ _
plain_sure in_seq name.Higher text = of_value_sure _ _
plain_sure in_seq name.Lower text = of_value_sure _ _
plain_sure in_seq (name.Text n) text = of_value_sure _ _

value_sure : (in_seq : Bool) (called : AttrName) (text : List ℕ) → Sure attr_lacks (value_of in_seq called text)
value_sure in_seq called text = either attr_lacks _ _ _ (refused attr_lacks (attr.UnsupportedValue 0) refl) (plain_sure in_seq called text)

unnamed_sure : (b : Bool) → attr_lacks (if b then attr.UnsupportedName else attr.UnknownAttribute) ≡ false
unnamed_sure true = refl
unnamed_sure false = refl

name_or_sure : (kind : Kind) (text : List ℕ) (o : Option AttrName) → Sure attr_lacks (name_or kind text o)
name_or_sure kind text None = refused attr_lacks _ (unnamed_sure (is_other_name text))
name_or_sure kind text (Some called) = either attr_lacks _ _ _ (made attr_lacks called) (refused attr_lacks attr.UnknownAttribute refl)

pub name_sure : (kind : Kind) (text : List ℕ) → Sure attr_lacks (attr_name_of kind text)
name_sure kind text = name_or_sure kind text _

-- ---- node lines

abbrev pub node_lacks : NodeFault → Bool
node_lacks node.Memory = true
node_lacks _ = false

pub column_sure : {A : Type 0} (written : WrittenAttr) (r : Result A AttrFault) → Sure attr_lacks r → Sure node_lacks (at_column written r)
column_sure written (Ok x) h = made node_lacks x
column_sure written (Err attr.UnknownAttribute) h = refused node_lacks _ refl
column_sure written (Err attr.UnsupportedName) h = refused node_lacks _ refl
column_sure written (Err (attr.UnsupportedValue place)) h = refused node_lacks _ refl
column_sure written (Err (attr.BadValue place)) h = refused node_lacks _ refl
column_sure written (Err attr.TooManyItems) h = refused node_lacks _ refl
column_sure written (Err attr.Memory) h = let never : true ≡ false = h.never in absurd cc

pub attr_sure : (in_seq : Bool) (kind : Kind) (written : WrittenAttr) → Sure node_lacks (attr_of in_seq kind written)
attr_sure in_seq kind written =
    column_sure written (attribute_of in_seq kind written.name written.value)
    (onward attr_lacks (attr_name_of kind written.name) (λ called. value_of in_seq called written.value) (name_sure kind written.name) (λ called. value_sure in_seq called written.value))

pub attrs_sure : (in_seq : Bool) (kind : Kind) (attrs : Attrs) (all : List WrittenAttr) → Sure node_lacks (attrs_from in_seq kind attrs all)
attrs_sure in_seq kind attrs [] = made node_lacks attrs
attrs_sure in_seq kind attrs (written ∷ others) =
    onward node_lacks (attr_of in_seq kind written) (λ given. attrs_from in_seq kind (with_attr attrs given) others) (attr_sure in_seq kind written) (λ given. attrs_sure in_seq kind (with_attr attrs given) others)

attrs_of_sure : (parent : Option Kind) (kind : Kind) (shape : Option Shape) → Sure node_lacks (attrs_of parent kind shape)
attrs_of_sure parent kind None = refused node_lacks node.BadOutline refl
attrs_of_sure parent kind (Some shape) =
    either node_lacks _ _ _
    (onward node_lacks (attrs_from (is_seq_parent parent) kind no_attrs shape.attributes) (λ attrs. Ok (kind, attrs)) (attrs_sure (is_seq_parent parent) kind no_attrs shape.attributes) (λ attrs. made node_lacks (kind, attrs)))
    (refused node_lacks node.BadPlace refl)

kind_or_sure : (word : List ℕ) (o : Option Kind) → Sure node_lacks (kind_or word o)
kind_or_sure word (Some kind) = made node_lacks kind
kind_or_sure word None = either node_lacks _ _ _ (refused node_lacks (node.Unsupported 1) refl) (refused node_lacks node.BadOutline refl)

pub kind_shape_sure : (shape : Option Shape) → Sure node_lacks (kind_of_shape shape)
kind_shape_sure None = refused node_lacks node.BadOutline refl
kind_shape_sure (Some shape) = either node_lacks _ _ _ (refused node_lacks node.BadOutline refl) (kind_or_sure shape.kind _)

pub node_sure : (parent : Option Kind) (line : List ℕ) → Sure node_lacks (node_of parent line)
node_sure parent line = onward node_lacks (kind_of line) (λ kind. attrs_of parent kind (shape_of line)) (kind_shape_sure (shape_of line)) (λ kind. attrs_of_sure parent kind (shape_of line))
