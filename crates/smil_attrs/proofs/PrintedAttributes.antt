-- The attributes of a printed line, set one after the other, are those that were printed.
use Rattle.std.proofs.Common.{◌≡◌, List, [], ◌∷◌, Option, Some, None, option_map, refl, ap, ◌∙◌}
use Rattle.std.specs.Prelude.{IfSome}
use Rattle.smil_model.specs.declared.document.Attr.{Attr}
use Rattle.smil_model.specs.declared.document.Attr.TheVariants as attr
use Rattle.smil_model.specs.declared.document.Attrs.{Attrs}
use Rattle.smil_model.specs.declared.document.AttrName.{AttrName}
use Rattle.smil_model.specs.declared.document.AttrName.TheVariants as name
use Rattle.smil_model.specs.declared.texts.TextName.TheVariants as text
use Rattle.smil_model.specs.document.Texts.{text_at, with_text}
use Rattle.smil_model.specs.document.Edits.{with_attr}
use Rattle.smil_grammar.specs.Attributes.{names}
use Rattle.smil_model.specs.document.Edits.{no_attrs}
use Rattle.smil_grammar.specs.Spellings.{attr_at}
use Rattle.smil_grammar.specs.Allowed.{name_of}

-- an attribute that is there is of its name

made : {A : Type 0} (make : A → Attr) (n : AttrName) → ((x : A) → name_of (make x) ≡ n) → (o : Option A) → IfSome (option_map make o) (λ given. name_of given ≡ n)
made make n each None = tt
made make n each (Some x) = each x

pub named : (attrs : Attrs) (n : AttrName) → IfSome (attr_at attrs n) (λ given. name_of given ≡ n)
named attrs name.Id = made attr.Id name.Id (λ x. refl) attrs.id
named attrs name.Begin = made attr.Begin name.Begin (λ x. refl) attrs.begin
named attrs name.Dur = made attr.Dur name.Dur (λ x. refl) attrs.dur
named attrs name.End = made attr.End name.End (λ x. refl) attrs.«end»
named attrs name.Min = made attr.Min name.Min (λ x. refl) attrs.min
named attrs name.Max = made attr.Max name.Max (λ x. refl) attrs.max
named attrs name.RepeatCount = made attr.RepeatCount name.RepeatCount (λ x. refl) attrs.repeat_count
named attrs name.RepeatDur = made attr.RepeatDur name.RepeatDur (λ x. refl) attrs.repeat_dur
named attrs name.Restart = made attr.Restart name.Restart (λ x. refl) attrs.restart
named attrs name.Fill = made attr.Fill name.Fill (λ x. refl) attrs.fill
named attrs name.RestartDefault = made attr.RestartDefault name.RestartDefault (λ x. refl) attrs.restart_default
named attrs name.FillDefault = made attr.FillDefault name.FillDefault (λ x. refl) attrs.fill_default
named attrs name.Endsync = made attr.Endsync name.Endsync (λ x. refl) attrs.endsync
named attrs name.Peers = made attr.Peers name.Peers (λ x. refl) attrs.peers
named attrs name.Higher = made attr.Higher name.Higher (λ x. refl) attrs.higher
named attrs name.Lower = made attr.Lower name.Lower (λ x. refl) attrs.lower
named attrs (name.Text n) = made (attr.Text n) (name.Text n) (λ x. refl) (text_at attrs.texts n)

-- attributes, and one more where it is there
abbrev pub put : Attrs → Option Attr → Attrs
put attrs None = attrs
put attrs (Some given) = with_attr attrs given

abbrev pub filled : Attrs → Attrs → List AttrName → Attrs
filled before attrs [] = before
filled before attrs (n ∷ ns) = filled (put before (attr_at attrs n)) attrs ns

-- one attribute more, which was absent
put_next : {A : Type 0} {before now : Attrs} (make : A → Attr) (with : Attrs → Option A → Attrs) (o : Option A)
    → ((attrs : Attrs) (x : A) → with_attr attrs (make x) ≡ with attrs (Some x)) → before ≡ now → now ≡ with now None
    → put before (option_map make o) ≡ with now o
put_next make with None each e absent = e ∙ absent
put_next {now = now} make with (Some x) each e absent = ap (λ (attrs : Attrs). with_attr attrs (make x)) e ∙ each now x

pub filled_all : (attrs : Attrs) → filled no_attrs attrs names ≡ attrs
filled_all attrs =
    let e0 : no_attrs ≡ no_attrs = refl in
    let e1 = put_next attr.Id (λ before o. record before { id = o }) attrs.id (λ _ _. refl) e0 refl in
    let e2 = put_next attr.Begin (λ before o. record before { begin = o }) attrs.begin (λ _ _. refl) e1 refl in
    let e3 = put_next attr.Dur (λ before o. record before { dur = o }) attrs.dur (λ _ _. refl) e2 refl in
    let e4 = put_next attr.End (λ before o. record before { «end» = o }) attrs.«end» (λ _ _. refl) e3 refl in
    let e5 = put_next attr.Min (λ before o. record before { min = o }) attrs.min (λ _ _. refl) e4 refl in
    let e6 = put_next attr.Max (λ before o. record before { max = o }) attrs.max (λ _ _. refl) e5 refl in
    let e7 = put_next attr.RepeatCount (λ before o. record before { repeat_count = o }) attrs.repeat_count (λ _ _. refl) e6 refl in
    let e8 = put_next attr.RepeatDur (λ before o. record before { repeat_dur = o }) attrs.repeat_dur (λ _ _. refl) e7 refl in
    let e9 = put_next attr.Restart (λ before o. record before { restart = o }) attrs.restart (λ _ _. refl) e8 refl in
    let e10 = put_next attr.Fill (λ before o. record before { fill = o }) attrs.fill (λ _ _. refl) e9 refl in
    let e11 = put_next attr.RestartDefault (λ before o. record before { restart_default = o }) attrs.restart_default (λ _ _. refl) e10 refl in
    let e12 = put_next attr.FillDefault (λ before o. record before { fill_default = o }) attrs.fill_default (λ _ _. refl) e11 refl in
    let e13 = put_next attr.Endsync (λ before o. record before { endsync = o }) attrs.endsync (λ _ _. refl) e12 refl in
    let e14 = put_next attr.Peers (λ before o. record before { peers = o }) attrs.peers (λ _ _. refl) e13 refl in
    let e15 = put_next attr.Higher (λ before o. record before { higher = o }) attrs.higher (λ _ _. refl) e14 refl in
    let e16 = put_next attr.Lower (λ before o. record before { lower = o }) attrs.lower (λ _ _. refl) e15 refl in
    let e17 = put_next (attr.Text text.Src) (λ before o. record before { texts = with_text before.texts text.Src o }) attrs.texts.src (λ _ _. refl) e16 refl in
    let e18 = put_next (attr.Text text.Region) (λ before o. record before { texts = with_text before.texts text.Region o }) attrs.texts.region (λ _ _. refl) e17 refl in
    let e19 = put_next (attr.Text text.Alt) (λ before o. record before { texts = with_text before.texts text.Alt o }) attrs.texts.alt (λ _ _. refl) e18 refl in
    let e20 = put_next (attr.Text text.Title) (λ before o. record before { texts = with_text before.texts text.Title o }) attrs.texts.title (λ _ _. refl) e19 refl in
    let e21 = put_next (attr.Text text.TargetElement) (λ before o. record before { texts = with_text before.texts text.TargetElement o }) attrs.texts.target_element (λ _ _. refl) e20 refl in
    let e22 = put_next (attr.Text text.AttributeName) (λ before o. record before { texts = with_text before.texts text.AttributeName o }) attrs.texts.attribute_name (λ _ _. refl) e21 refl in
    let e23 = put_next (attr.Text text.To) (λ before o. record before { texts = with_text before.texts text.To o }) attrs.texts.to (λ _ _. refl) e22 refl in
    e23
