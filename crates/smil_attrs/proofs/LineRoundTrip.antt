-- A printed line is read as the same kind and attributes.
use Rattle.std.proofs.Common.{◌≡◌, ℕ, ◌+◌, ◌<◌, Bool, true, false, List, [], ◌∷◌, length, Option, Some, None, option_map, Result, Ok, Err, refl, sym, ap, subst, ◌∙◌}
use Rattle.std.specs.Prelude.{pos, decimal, IfOk, IfSome, IsTrue}
use Rattle.std.proofs.lemmas.Bool.{cond_both}
use Rattle.smil_model.specs.declared.document.Kind.{Kind}
use Rattle.smil_model.specs.declared.document.Attr.{Attr}
use Rattle.smil_model.specs.declared.document.Attr.TheVariants as attr
use Rattle.smil_model.specs.declared.document.Attrs.{Attrs}
use Rattle.smil_model.specs.declared.document.AttrName.{AttrName}
use Rattle.smil_model.specs.declared.document.AttrName.TheVariants as name
use Rattle.smil_model.specs.declared.texts.TextName.{TextName}
use Rattle.smil_model.specs.declared.texts.TextName.TheVariants as text
use Rattle.smil_model.specs.document.Edits.{with_attr, no_attrs}
use Rattle.smil_model.specs.document.Values.{is_seq_parent}
use Rattle.smil_model.specs.document.Valid.{may_stand}
use Rattle.smil_grammar.specs.declared.fault.AttrFault.{AttrFault}
use Rattle.smil_grammar.specs.declared.fault.AttrFault.TheVariants as fault
use Rattle.smil_grammar.specs.declared.fault.NodeFault.{NodeFault}
use Rattle.smil_grammar.specs.Results.{◌>>=◌}
use Rattle.smil_grammar.specs.Attributes.{kind_text, name_text, name_called, name_or, attr_name_of, has, names}
use Rattle.smil_grammar.specs.Values.{plain_value_of, value_of}
use Rattle.smil_grammar.specs.Nodes.{WrittenAttr, Shape, shape_of, saved_shape_of, kind_of, kind_of_shape, at_column, attribute_of, attr_of, attrs_from, attrs_of, node_of}
use Rattle.smil_grammar.specs.Spellings.{attr_at, attr_text, value_text, node_text, saved_node_text}
use Rattle.smil_grammar.specs.Allowed.{name_of, IsAttr, IsAttrs}
use Rattle.smil_attrs.proofs.ReadParts.{any_value, listed, all_read}
use Rattle.smil_attrs.proofs.ValueRoundTrip.{attr_again}
use Rattle.smil_attrs.proofs.ValueBytes.{Unquoted, attr_unquoted}
use Rattle.smil_attrs.proofs.EditedAttributes.{IsHad, with_stays, attrs_anywhere}
use Rattle.smil_attrs.proofs.WordTables.{kind_known, name_known}
use Rattle.smil_attrs.proofs.PrintedShape.{written_at, written_from, names_once, shape_read, saved_parts, saved_read, lead}
use Rattle.smil_attrs.proofs.PrintedAttributes.{named, put, filled, filled_all}

-- what was printed

name_read : (k : Kind) (n : AttrName) → has k n ≡ true → attr_name_of k (name_text n) ≡ Ok n
name_read k n h = rw (name_known n, h) refl

pub attribute_read : (in_seq : Bool) (k : Kind) (given : Attr) → has k (name_of given) ≡ true → IsAttr in_seq given → attribute_of in_seq k (name_text (name_of given)) (attr_text given) ≡ Ok given
attribute_read in_seq k given had is = rw (name_read k (name_of given) had) (attr_again in_seq given is)

attr_read : (in_seq : Bool) (k : Kind) (place : ℕ) (n : AttrName) (given : Attr) → name_of given ≡ n → has k n ≡ true → IsAttr in_seq given → attr_of in_seq k (written_at place n (attr_text given)) ≡ Ok given
attr_read in_seq k place n given e had is =
    let one : attribute_of in_seq k (name_text n) (attr_text given) ≡ Ok given = subst (λ (m : AttrName). attribute_of in_seq k (name_text m) (attr_text given) ≡ Ok given) e (attribute_read in_seq k given (subst (λ (m : AttrName). has k m ≡ true) (sym e) had) is) in
    ap (at_column (written_at place n (attr_text given))) one

attrs_read : (in_seq : Bool) (k : Kind) (attrs : Attrs) → IsAttrs in_seq k attrs → (place : ℕ) (before : Attrs) (ns : List AttrName)
    → attrs_from in_seq k before (written_from place (value_text attrs) ns) ≡ Ok (filled before attrs ns)
attrs_read in_seq k attrs h place before [] = refl
attrs_read in_seq k attrs h place before (n ∷ ns) = one in_seq k attrs place before n ns (attr_at attrs n) (named attrs n) (h n) (λ place before. attrs_read in_seq k attrs h place before ns)
  where
    one : (in_seq : Bool) (k : Kind) (attrs : Attrs) (place : ℕ) (before : Attrs) (n : AttrName) (ns : List AttrName) (o : Option Attr) → IfSome o (λ given. name_of given ≡ n) → IsHad in_seq k n o
        → ((place : ℕ) (before : Attrs) → attrs_from in_seq k before (written_from place (value_text attrs) ns) ≡ Ok (filled before attrs ns))
        → attrs_from in_seq k before (elim (option_map attr_text o) as (λ o. List WrittenAttr) [ None ↦ written_from place (value_text attrs) ns | Some value ↦ written_at place n value ∷ written_from (place + length (lead n) + length value + 2) (value_text attrs) ns ]) ≡ Ok (filled (put before o) attrs ns)
    one in_seq k attrs place before n ns None e had others = others place before
    one in_seq k attrs place before n ns (Some given) e had others = rw (attr_read in_seq k place n given e had.0 had.1) (others (place + length (lead n) + length (attr_text given) + 2) (with_attr before given))

unquoted : (in_seq : Bool) (k : Kind) (n : AttrName) (o : Option Attr) → IsHad in_seq k n o → IfSome (option_map attr_text o) Unquoted
unquoted in_seq k n None h = tt
unquoted in_seq k n (Some given) h = attr_unquoted in_seq given h.1

-- a shape that is read as this kind and these attributes
pub record IsShape (in_seq : Bool) (k : Kind) (attrs : Attrs) (shape : Shape) : Type 0 where
  pub kind : kind_of_shape (Some shape) ≡ Ok k
  pub read : attrs_from in_seq k no_attrs shape.attributes ≡ Ok attrs

-- the shape of a printed line whose attributes begin at this place
abbrev pub shape_from : ℕ → Kind → Attrs → Shape
shape_from place k attrs = record { kind = kind_text k; attributes = written_from place (value_text attrs) names }

pub shape_is : (in_seq : Bool) (k : Kind) (attrs : Attrs) (place : ℕ) → IsAttrs in_seq k attrs → IsShape in_seq k attrs (shape_from place k attrs)
shape_is in_seq k attrs place h = record {
  kind = rw (names_once (value_text attrs) place, kind_known k) refl;
  read = attrs_read in_seq k attrs h place no_attrs names ∙ ap (λ (a : Attrs). Ok a) (filled_all attrs);
}

pub plain_shape : (in_seq : Bool) (k : Kind) (attrs : Attrs) → IsAttrs in_seq k attrs → shape_of (node_text 0 k attrs) ≡ Some (shape_from (length (kind_text k)) k attrs)
plain_shape in_seq k attrs h = shape_read k (value_text attrs) (λ n. unquoted in_seq k n (attr_at attrs n) (h n))

pub saved_shape : (in_seq : Bool) (k : Kind) (serial : ℕ) (attrs : Attrs) → IsAttrs in_seq k attrs → 0 < serial → serial < 1_000_000_000
    → saved_shape_of (saved_node_text 0 k serial attrs) ≡ Some (serial, shape_from (length (kind_text k) + 2 + length (decimal serial)) k attrs)
saved_shape in_seq k serial attrs h some few = ap saved_shape_of (saved_parts k serial (value_text attrs)) ∙ saved_read k serial (value_text attrs) (λ n. unquoted in_seq k n (attr_at attrs n) (h n)) some few

pub node_read : (parent : Option Kind) (k : Kind) (attrs : Attrs) → may_stand parent k ≡ true → IsAttrs (is_seq_parent parent) k attrs → node_of parent (node_text 0 k attrs) ≡ Ok (k, attrs)
node_read parent k attrs fits h =
    let shape : Shape = shape_from (length (kind_text k)) k attrs in
    let is = shape_is (is_seq_parent parent) k attrs (length (kind_text k)) h in
    let all : attrs_of parent k (Some shape) ≡ Ok (k, attrs) = rw (fits, is.read) refl in
    ap (λ (s : Option Shape). kind_of_shape s >>= λ k. attrs_of parent k s) (plain_shape (is_seq_parent parent) k attrs h) ∙ rw (is.kind) all

-- what is read

any : {A E : Type 0} (r : Result A E) → IfOk r (λ x. Unit {0})
any (Ok x) = tt
any (Err e) = tt

abbrev IsNamed : AttrName → Attr → Type 0
IsNamed n given = name_of given ≡ n

plain_named : (in_seq : Bool) (n : AttrName) (text : List ℕ) → IfOk (plain_value_of in_seq n text) (IsNamed n)
plain_named in_seq name.Id text = any_value attr.Id (IsNamed name.Id) (λ x. refl) _
plain_named in_seq name.Begin text = listed attr.Begin (λ items. Unit {0}) (IsNamed name.Begin) (λ items h. refl) _ (any _)
plain_named in_seq name.Dur text = any_value attr.Dur (IsNamed name.Dur) (λ x. refl) _
plain_named in_seq name.End text = listed attr.End (λ items. Unit {0}) (IsNamed name.End) (λ items h. refl) _ (any _)
plain_named in_seq name.Min text = any_value (λ n. attr.Min (pos n)) (IsNamed name.Min) (λ x. refl) _
plain_named in_seq name.Max text = any_value attr.Max (IsNamed name.Max) (λ x. refl) _
plain_named in_seq name.RepeatCount text = any_value attr.RepeatCount (IsNamed name.RepeatCount) (λ x. refl) _
plain_named in_seq name.RepeatDur text = any_value attr.RepeatDur (IsNamed name.RepeatDur) (λ x. refl) _
plain_named in_seq name.Restart text = any_value attr.Restart (IsNamed name.Restart) (λ x. refl) _
plain_named in_seq name.Fill text = any_value attr.Fill (IsNamed name.Fill) (λ x. refl) _
plain_named in_seq name.RestartDefault text = any_value attr.RestartDefault (IsNamed name.RestartDefault) (λ x. refl) _
plain_named in_seq name.FillDefault text = any_value attr.FillDefault (IsNamed name.FillDefault) (λ x. refl) _
plain_named in_seq name.Endsync text = any_value attr.Endsync (IsNamed name.Endsync) (λ x. refl) _
plain_named in_seq name.Peers text = any_value attr.Peers (IsNamed name.Peers) (λ x. refl) _
plain_named in_seq name.Higher text = any_value attr.Higher (IsNamed name.Higher) (λ x. refl) _
plain_named in_seq name.Lower text = any_value attr.Lower (IsNamed name.Lower) (λ x. refl) _
plain_named in_seq (name.Text n) text = any_value (attr.Text n) (IsNamed (name.Text n)) (λ x. refl) _

value_named : (in_seq : Bool) (n : AttrName) (text : List ℕ) → IfOk (value_of in_seq n text) (IsNamed n)
value_named in_seq n text = all_read in_seq (IsNamed n) n text (λ e. plain_named in_seq n text)

-- an attribute that the kind can have
abbrev Had : Bool → Kind → Attr → Type 0
Had in_seq k given = IsTrue (has k (name_of given)) × IsAttr in_seq given

value_had : (in_seq : Bool) (k : Kind) (n : AttrName) (text : List ℕ) → has k n ≡ true → (r : Result Attr AttrFault) → value_of in_seq n text ≡ r → IfOk r (IsNamed n) → IfOk r (Had in_seq k)
value_had in_seq k n text h (Err e) is named = tt
value_had in_seq k n text h (Ok given) is named =
    (subst (λ (m : AttrName). has k m ≡ true) (sym named) h, (text, subst (λ (m : AttrName). value_of in_seq m text ≡ Ok given) (sym named) is))

attribute_had : (in_seq : Bool) (k : Kind) (text value : List ℕ) → IfOk (attribute_of in_seq k text value) (Had in_seq k)
attribute_had in_seq k text value = called in_seq k text value (name_called text)
  where
    called : (in_seq : Bool) (k : Kind) (text value : List ℕ) (o : Option AttrName) → IfOk (name_or k text o >>= λ n. value_of in_seq n value) (Had in_seq k)
    called in_seq k text value None = tt
    called in_seq k text value (Some n) = cond_both (has k n) (Ok n) (Err fault.UnknownAttribute) (λ r. IfOk (r >>= λ n. value_of in_seq n value) (Had in_seq k)) (λ e. value_had in_seq k n value e (value_of in_seq n value) refl (value_named in_seq n value)) (λ e. tt)

pub attribute_is : (in_seq : Bool) (k : Kind) (text value : List ℕ) (given : Attr) → attribute_of in_seq k text value ≡ Ok given → Had in_seq k given
attribute_is in_seq k text value given e = subst (λ (r : Result Attr AttrFault). IfOk r (Had in_seq k)) e (attribute_had in_seq k text value)

column : {A : Type 0} (P : A → Type 0) (written : WrittenAttr) (r : Result A AttrFault) → IfOk r P → IfOk (at_column written r) P
column P written (Ok x) h = h
column P written (Err fault.UnknownAttribute) h = tt
column P written (Err fault.UnsupportedName) h = tt
column P written (Err (fault.UnsupportedValue place)) h = tt
column P written (Err (fault.BadValue place)) h = tt
column P written (Err fault.TooManyItems) h = tt
column P written (Err fault.Memory) h = tt

attrs_had : (in_seq : Bool) (k : Kind) (before : Attrs) (ws : List WrittenAttr) → IsAttrs in_seq k before → IfOk (attrs_from in_seq k before ws) (IsAttrs in_seq k)
attrs_had in_seq k before [] h = h
attrs_had in_seq k before (w ∷ ws) h = one in_seq k before ws h (attr_of in_seq k w) (column (Had in_seq k) w (attribute_of in_seq k w.name w.value) (attribute_had in_seq k w.name w.value)) (λ next is. attrs_had in_seq k next ws is)
  where
    one : (in_seq : Bool) (k : Kind) (before : Attrs) (ws : List WrittenAttr) → IsAttrs in_seq k before → (r : Result Attr NodeFault) → IfOk r (Had in_seq k) → ((next : Attrs) → IsAttrs in_seq k next → IfOk (attrs_from in_seq k next ws) (IsAttrs in_seq k))
        → IfOk (r >>= λ given. attrs_from in_seq k (with_attr before given) ws) (IsAttrs in_seq k)
    one in_seq k before ws h (Err e) had others = tt
    one in_seq k before ws h (Ok given) had others = others (with_attr before given) (with_stays in_seq k before given h had.0 had.1)

no_text : (in_seq : Bool) (k : Kind) (n : TextName) → IsHad in_seq k (name.Text n) (attr_at no_attrs (name.Text n))
no_text in_seq k text.Src = tt
no_text in_seq k _ = tt

none : (in_seq : Bool) (k : Kind) (n : AttrName) → IsHad in_seq k n (attr_at no_attrs n)
none in_seq k name.Id = tt
none in_seq k (name.Text n) = no_text in_seq k n
none in_seq k _ = tt

-- a kind that the parent can have, with attributes of the kind
abbrev IsChild : Option Kind → Kind × Attrs → Type 0
IsChild parent node = (may_stand parent node.0 ≡ true) × IsAttrs (is_seq_parent parent) node.0 node.1

attrs_are : (parent : Option Kind) (k : Kind) (s : Option Shape) → IfOk (attrs_of parent k s) (IsChild parent)
attrs_are parent k None = tt
attrs_are parent k (Some shape) = cond_both (may_stand parent k) _ _ (λ r. IfOk r (IsChild parent)) (λ fits. pair parent k fits (attrs_from (is_seq_parent parent) k no_attrs shape.attributes) (attrs_had (is_seq_parent parent) k no_attrs shape.attributes (none (is_seq_parent parent) k))) (λ e. tt)
  where
    pair : (parent : Option Kind) (k : Kind) → may_stand parent k ≡ true → (r : Result Attrs NodeFault) → IfOk r (IsAttrs (is_seq_parent parent) k) → IfOk (r >>= λ attrs. Ok (k, attrs)) (IsChild parent)
    pair parent k fits (Ok attrs) h = (fits, h)
    pair parent k fits (Err e) h = tt

node_had : (parent : Option Kind) (s : Option Shape) (r : Result Kind NodeFault) → IfOk (r >>= λ k. attrs_of parent k s) (IsChild parent)
node_had parent s (Err e) = tt
node_had parent s (Ok k) = attrs_are parent k s

pub node_is : (parent : Option Kind) (line : List ℕ) (k : Kind) (attrs : Attrs) → node_of parent line ≡ Ok (k, attrs) → IsChild parent (k, attrs)
node_is parent line k attrs e = subst (λ (r : Result (Kind × Attrs) NodeFault). IfOk r (IsChild parent)) e (node_had parent (shape_of line) (kind_of line))

pub attrs_had_from : (in_seq : Bool) (k : Kind) (ws : List WrittenAttr) (attrs : Attrs) → attrs_from in_seq k no_attrs ws ≡ Ok attrs → IsAttrs in_seq k attrs
attrs_had_from in_seq k ws attrs e = subst (λ (r : Result Attrs NodeFault). IfOk r (IsAttrs in_seq k)) e (attrs_had in_seq k no_attrs ws (none in_seq k))

pub attrs_allowed : (in_seq : Bool) (k : Kind) (ws : List WrittenAttr) (attrs : Attrs) → attrs_from in_seq k no_attrs ws ≡ Ok attrs → IsAttrs false k attrs
attrs_allowed in_seq k ws attrs e = attrs_anywhere in_seq k attrs (attrs_had_from in_seq k ws attrs e)
