-- Attributes that a node can have stay so under edits.
use Rattle.std.proofs.Common.{◌≡◌, ℕ, Bool, false, List, Option, Some, None, Result, Ok, Err, option_map, refl, sym, subst, inl, inr}
use Rattle.std.specs.Prelude.{◌⊎◌, IfOk, IfSome, IsTrue}
use Rattle.std.proofs.lemmas.Bool.{false≢true}
use Rattle.std.proofs.lemmas.Option.{IfSome_then}
use Rattle.smil_model.specs.declared.document.Kind.{Kind}
use Rattle.smil_model.specs.declared.document.Attr.{Attr}
use Rattle.smil_model.specs.declared.document.Attr.TheVariants as attr
use Rattle.smil_model.specs.declared.document.Attrs.{Attrs}
use Rattle.smil_model.specs.declared.document.AttrName.{AttrName}
use Rattle.smil_model.specs.declared.document.AttrName.TheVariants as name
use Rattle.smil_model.specs.declared.texts.Texts.{Texts}
use Rattle.smil_model.specs.declared.texts.TextName.{TextName}
use Rattle.smil_model.specs.declared.document.Item.{Item}
use Rattle.smil_model.specs.document.Texts.{text_at, with_text}
use Rattle.smil_model.specs.document.Edits.{with_attr, without_attr}
use Rattle.smil_model.proofs.TextTables.{changed_text}
use Rattle.smil_grammar.specs.declared.fault.AttrFault.{AttrFault}
use Rattle.smil_grammar.specs.declared.fault.ListFault.{ListFault}
use Rattle.smil_grammar.specs.Attributes.{has}
use Rattle.smil_grammar.specs.Lists.{list_of, IsList}
use Rattle.smil_grammar.specs.Values.{value_of}
use Rattle.smil_grammar.specs.Spellings.{attr_at, list_text}
use Rattle.smil_grammar.specs.Allowed.{name_of, IsAttr, IsAttrs}
use Rattle.smil_time_list.proofs.ListRoundTrip.{list_is, list_read}
use Rattle.smil_attrs.proofs.ReadParts.{listed}

-- one that is there
abbrev pub IsHad : Bool → Kind → AttrName → Option Attr → Type 0
IsHad in_seq kind n o = IfSome o (λ given. IsTrue (has kind n) × IsAttr in_seq given)

-- a text that is given, or is absent, beside the others
text_kept : (in_seq : Bool) (kind : Kind) (texts : Texts) (m n : TextName) (given : Option (List ℕ)) → (m ≡ n → IsHad in_seq kind (name.Text n) (option_map (attr.Text n) given)) → IsHad in_seq kind (name.Text n) (option_map (attr.Text n) (text_at texts n))
    → IsHad in_seq kind (name.Text n) (option_map (attr.Text n) (text_at (with_text texts m given) n))
text_kept in_seq kind texts m n given h k = by (changed_text texts m n given)
  where
    IsOne : Option (List ℕ) → Type 0
    IsOne o = IsHad in_seq kind (name.Text n) (option_map (attr.Text n) o)

    by : ((m ≡ n) × (text_at (with_text texts m given) n ≡ given)) ⊎ (text_at (with_text texts m given) n ≡ text_at texts n) → IsOne (text_at (with_text texts m given) n)
    by (inl e) = subst IsOne (sym e.1) (h e.0)
    by (inr e) = subst IsOne (sym e) k

with_kept : (in_seq : Bool) (kind : Kind) (attrs : Attrs) (given : Attr) (n : AttrName) → IsHad in_seq kind (name_of given) (Some given) → IsHad in_seq kind n (attr_at attrs n) → IsHad in_seq kind n (attr_at (with_attr attrs given) n)
with_kept in_seq kind attrs (attr.Id x) name.Id h k = h
with_kept in_seq kind attrs (attr.Id x) _ h k = k
with_kept in_seq kind attrs (attr.Begin x) name.Begin h k = h
with_kept in_seq kind attrs (attr.Begin x) _ h k = k
with_kept in_seq kind attrs (attr.Dur x) name.Dur h k = h
with_kept in_seq kind attrs (attr.Dur x) _ h k = k
with_kept in_seq kind attrs (attr.End x) name.End h k = h
with_kept in_seq kind attrs (attr.End x) _ h k = k
with_kept in_seq kind attrs (attr.Min x) name.Min h k = h
with_kept in_seq kind attrs (attr.Min x) _ h k = k
with_kept in_seq kind attrs (attr.Max x) name.Max h k = h
with_kept in_seq kind attrs (attr.Max x) _ h k = k
with_kept in_seq kind attrs (attr.RepeatCount x) name.RepeatCount h k = h
with_kept in_seq kind attrs (attr.RepeatCount x) _ h k = k
with_kept in_seq kind attrs (attr.RepeatDur x) name.RepeatDur h k = h
with_kept in_seq kind attrs (attr.RepeatDur x) _ h k = k
with_kept in_seq kind attrs (attr.Restart x) name.Restart h k = h
with_kept in_seq kind attrs (attr.Restart x) _ h k = k
with_kept in_seq kind attrs (attr.Fill x) name.Fill h k = h
with_kept in_seq kind attrs (attr.Fill x) _ h k = k
with_kept in_seq kind attrs (attr.RestartDefault x) name.RestartDefault h k = h
with_kept in_seq kind attrs (attr.RestartDefault x) _ h k = k
with_kept in_seq kind attrs (attr.FillDefault x) name.FillDefault h k = h
with_kept in_seq kind attrs (attr.FillDefault x) _ h k = k
with_kept in_seq kind attrs (attr.Endsync x) name.Endsync h k = h
with_kept in_seq kind attrs (attr.Endsync x) _ h k = k
with_kept in_seq kind attrs (attr.Peers x) name.Peers h k = h
with_kept in_seq kind attrs (attr.Peers x) _ h k = k
with_kept in_seq kind attrs (attr.Higher x) name.Higher h k = h
with_kept in_seq kind attrs (attr.Higher x) _ h k = k
with_kept in_seq kind attrs (attr.Lower x) name.Lower h k = h
with_kept in_seq kind attrs (attr.Lower x) _ h k = k
with_kept in_seq kind attrs (attr.Text m x) (name.Text n) h k = text_kept in_seq kind attrs.texts m n (Some x) (λ same. subst (λ (n : TextName). IsHad in_seq kind (name.Text n) (Some (attr.Text n x))) same h) k
with_kept in_seq kind attrs (attr.Text m x) _ h k = k

pub with_stays : (in_seq : Bool) (kind : Kind) (attrs : Attrs) (given : Attr) → IsAttrs in_seq kind attrs → IsTrue (has kind (name_of given)) → IsAttr in_seq given → IsAttrs in_seq kind (with_attr attrs given)
with_stays in_seq kind attrs given h had is = λ n. with_kept in_seq kind attrs given n (had, is) (h n)

without_kept : (in_seq : Bool) (kind : Kind) (attrs : Attrs) (gone n : AttrName) → IsHad in_seq kind n (attr_at attrs n) → IsHad in_seq kind n (attr_at (without_attr attrs gone) n)
without_kept in_seq kind attrs name.Id name.Id k = tt
without_kept in_seq kind attrs name.Id _ k = k
without_kept in_seq kind attrs name.Begin name.Begin k = tt
without_kept in_seq kind attrs name.Begin _ k = k
without_kept in_seq kind attrs name.Dur name.Dur k = tt
without_kept in_seq kind attrs name.Dur _ k = k
without_kept in_seq kind attrs name.End name.End k = tt
without_kept in_seq kind attrs name.End _ k = k
without_kept in_seq kind attrs name.Min name.Min k = tt
without_kept in_seq kind attrs name.Min _ k = k
without_kept in_seq kind attrs name.Max name.Max k = tt
without_kept in_seq kind attrs name.Max _ k = k
without_kept in_seq kind attrs name.RepeatCount name.RepeatCount k = tt
without_kept in_seq kind attrs name.RepeatCount _ k = k
without_kept in_seq kind attrs name.RepeatDur name.RepeatDur k = tt
without_kept in_seq kind attrs name.RepeatDur _ k = k
without_kept in_seq kind attrs name.Restart name.Restart k = tt
without_kept in_seq kind attrs name.Restart _ k = k
without_kept in_seq kind attrs name.Fill name.Fill k = tt
without_kept in_seq kind attrs name.Fill _ k = k
without_kept in_seq kind attrs name.RestartDefault name.RestartDefault k = tt
without_kept in_seq kind attrs name.RestartDefault _ k = k
without_kept in_seq kind attrs name.FillDefault name.FillDefault k = tt
without_kept in_seq kind attrs name.FillDefault _ k = k
without_kept in_seq kind attrs name.Endsync name.Endsync k = tt
without_kept in_seq kind attrs name.Endsync _ k = k
without_kept in_seq kind attrs name.Peers name.Peers k = tt
without_kept in_seq kind attrs name.Peers _ k = k
without_kept in_seq kind attrs name.Higher name.Higher k = tt
without_kept in_seq kind attrs name.Higher _ k = k
without_kept in_seq kind attrs name.Lower name.Lower k = tt
without_kept in_seq kind attrs name.Lower _ k = k
without_kept in_seq kind attrs (name.Text m) (name.Text n) k = text_kept in_seq kind attrs.texts m n None (λ same. tt) k
without_kept in_seq kind attrs (name.Text m) _ k = k

pub without_stays : (in_seq : Bool) (kind : Kind) (attrs : Attrs) (gone : AttrName) → IsAttrs in_seq kind attrs → IsAttrs in_seq kind (without_attr attrs gone)
without_stays in_seq kind attrs gone h = λ n. without_kept in_seq kind attrs gone n (h n)

-- what a child of a seq can have, any node can

any_list : (in_seq : Bool) (items : List Item) → IsList in_seq items → IsList false items
any_list in_seq items h = record { each = h.each; some = h.some; few = h.few; plain = λ f. absurd (false≢true f) }

pub lists : (in_seq : Bool) (text : List ℕ) (r : Result (List Item) ListFault) → list_of in_seq text ≡ r → IfOk r (IsList in_seq)
lists in_seq text (Ok items) e = list_is in_seq text items e
lists in_seq text (Err fault) e = tt

begin_anywhere : (in_seq : Bool) (text : List ℕ) → IfOk (value_of in_seq name.Begin text) (IsAttr false)
begin_anywhere in_seq text = listed attr.Begin (IsList in_seq) (IsAttr false) (λ items h. (list_text items, rw (list_read false items (any_list in_seq items h)) refl)) (list_of in_seq text) (lists in_seq text _ refl)

pub attr_anywhere : (in_seq : Bool) (given : Attr) → IsAttr in_seq given → IsAttr false given
attr_anywhere in_seq (attr.Begin items) h = subst (λ (r : Result Attr AttrFault). IfOk r (IsAttr false)) h.1 (begin_anywhere in_seq h.0)
attr_anywhere in_seq _ h = h

pub attrs_anywhere : (in_seq : Bool) (kind : Kind) (attrs : Attrs) → IsAttrs in_seq kind attrs → IsAttrs false kind attrs
attrs_anywhere in_seq kind attrs h = λ n. IfSome_then (attr_at attrs n) (h n) (λ given had. (had.0, attr_anywhere in_seq given had.1))
