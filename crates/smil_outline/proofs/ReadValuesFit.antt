-- What some text is read as fits the kinds of a node and its parent.
use Rattle.std.proofs.Common.{◌≡◌, ℕ, suc, ◌<◌, ◌≤◌, Bool, true, false, not, eqb, ltb, leb, ◌&&◌, ◌||◌, List, [], ◌∷◌, length, Option, Some, None, option_map, is_some, Ok, refl, subst, arith}
use Rattle.std.specs.Prelude.{ℤ, pos, negsuc, codes, bytes_eq, IfOk, IfSome, IsTrue}
use Rattle.std.specs.List.{AllByRecursion, list_all}
use Rattle.std.proofs.lemmas.Bool.{and_from, not_from_true, not-true, le-leb, lt-ltb, cond_both}
use Rattle.std.proofs.lemmas.Bool.Decides.{nat_tests}
use Rattle.std.proofs.lemmas.List.Elements.{recursion_from_All}
use Rattle.smil_model.specs.declared.document.Kind.{Kind}
use Rattle.smil_model.specs.declared.document.Attr.{Attr}
use Rattle.smil_model.specs.declared.document.Attr.TheVariants as attr
use Rattle.smil_model.specs.declared.document.Attrs.{Attrs}
use Rattle.smil_model.specs.declared.document.AttrName.{AttrName}
use Rattle.smil_model.specs.declared.document.AttrName.TheVariants as name
use Rattle.smil_model.specs.declared.texts.TextName.{TextName}
use Rattle.smil_model.specs.declared.texts.TextName.TheVariants as text
use Rattle.smil_model.specs.declared.document.Item.{Item}
use Rattle.smil_model.specs.declared.document.Item.TheVariants.{Offset, Sync, Event, Repeat, Key, Indefinite}
use Rattle.smil_model.specs.declared.document.Dur.{Dur}
use Rattle.smil_model.specs.declared.document.Count.{Count}
use Rattle.smil_model.specs.declared.document.Count.TheVariants as count
use Rattle.smil_model.specs.declared.document.Endsync.{Endsync}
use Rattle.smil_model.specs.declared.document.Endsync.TheVariants as endsync
use Rattle.smil_model.specs.declared.document.Act.{Act}
use Rattle.smil_model.specs.declared.times.Time.{Time}
use Rattle.smil_model.specs.declared.times.Time.TheVariants as time
use Rattle.smil_model.specs.document.Document.{is_class_kind}
use Rattle.smil_model.specs.document.Edits.{with_attr}
use Rattle.smil_model.specs.document.Words.{is_of_name, is_of_id, is_word, is_id, is_event_name, is_attribute_name, is_kept_text}
use Rattle.smil_model.specs.document.Values.{absent_or, is_clock, is_offset, is_item, is_list, is_plain_begin, is_begin, is_dur, is_bound, is_positive_bound, is_count, is_endsync, is_higher, is_lower, has_endsync, has_class_attrs, has_element_attrs, are_element_values, fits_text, is_seq_parent, fit_kind}
use Rattle.smil_model.specs.document.Texts.{has_text, is_text, text_at, text_names}
use Rattle.smil_model.proofs.TextTables.{all_texts}
use Rattle.smil_grammar.specs.Texts.{trim}
use Rattle.smil_grammar.specs.Clock.{clock_within}
use Rattle.smil_grammar.specs.Items.{IsItem}
use Rattle.smil_grammar.specs.Lists.{is_plain, list_of, IsList}
use Rattle.smil_grammar.specs.Values.{above_zero, id_of, attribute_name_of, restart_default_of, fill_default_of, kept_of, dur_of, time_of, repeat_dur_of, repeat_count_of, restart_of, fill_of, endsync_of, peers_of, higher_of, lower_of, text_of, is_other_value, plain_value_of}
use Rattle.smil_grammar.specs.Allowed.{IsAttr, IsAttrs}
use Rattle.smil_grammar.specs.Nodes.{attribute_of}
use Rattle.smil_lexis.proofs.TestedFronts.{tests_pass}
use Rattle.smil_lexis.proofs.WordFronts.{IsWord}
use Rattle.smil_model.specs.Times.{IsNear}
use Rattle.smil_time_list.proofs.PrintableItems.{IsEventName, IsWho, Printable, item_printable, clock_small, size}
use Rattle.smil_attrs.proofs.ReadParts.{IsSmall, IsLength, value, any_value, listed, own_where, all_attrs}
use Rattle.smil_attrs.proofs.AttributeCases.{dur_reads, time_reads, repeat_reads, count_reads, higher_reads, lower_reads, endsync_reads}
use Rattle.smil_attrs.proofs.CountRoundTrip.{IsCount}
use Rattle.smil_attrs.proofs.WordTables.{each_kind}
use Rattle.smil_attrs.proofs.EditedAttributes.{lists, with_stays}
use Rattle.smil_attrs.proofs.LineRoundTrip.{attribute_is}
use Rattle.smil_attrs.proofs.WordRoundTrip.{whole_id}
use Rattle.smil_outline.proofs.FittingAttributes.{IsInRange, fits}

-- words

word_ranged : (p : ℕ → Bool) (text : List ℕ) → IsWord p text → (is_word p text && leb (length text) 64) ≡ true
word_ranged p [] h = absurd h
word_ranged p (b ∷ bytes) h = let short : leb (length (b ∷ bytes)) 64 ≡ true = le-leb _ _ (omega arith) in rw (h.0, tests_pass p bytes h.1, short) refl

event_ranged : (text : List ℕ) → IsEventName text → is_event_name text ≡ true
event_ranged text h = rw (word_ranged is_of_name text h.word, h.not_begin, h.not_end, h.not_repeat, h.not_indefinite) refl

abbrev IsId : List ℕ → Type 0
IsId text = is_id text ≡ true

id_ranged : (text : List ℕ) → IfSome (id_of text) IsId
id_ranged text = own_where IsId _ text (λ e. word_ranged is_of_id text (whole_id text e))

abbrev IsKept : List ℕ → Type 0
IsKept text = is_kept_text text ≡ true

kept_ranged : (text : List ℕ) → IfSome (kept_of text) IsKept
kept_ranged text = own_where IsKept _ text (λ e. e)

abbrev IsName : List ℕ → Type 0
IsName text = is_attribute_name text ≡ true

attribute_name_ranged : (text : List ℕ) → IfSome (attribute_name_of text) IsName
attribute_name_ranged text = own_where IsName _ text (λ e. e)

text_ranged : (n : TextName) (text : List ℕ) → IfSome (text_of n text) (λ t. is_text n t ≡ true)
text_ranged text.TargetElement text = id_ranged (trim text)
text_ranged text.AttributeName text = attribute_name_ranged (trim text)
text_ranged _ text = kept_ranged text

-- lists

offset_ranged : (offset : ℤ) → IsNear offset → is_offset offset ≡ true
offset_ranged (pos n) h = le-leb _ _ (size (pos n) h)
offset_ranged (negsuc n) h =
    let near : suc n ≤ 1_000_000_000_000 = size (negsuc n) h in
    let low : leb n 999_999_999_999 ≡ true = le-leb _ _ (omega arith) in
    rw low refl

who_ranged : (who : Option (List ℕ)) → IsWho who → absent_or is_id who ≡ true
who_ranged None h = refl
who_ranged (Some who) h = word_ranged is_of_id who h

item_ranged : (item : Item) → Printable item → is_item item ≡ true
item_ranged (Offset offset) h = offset_ranged offset h
item_ranged (Sync who edge offset) h = rw (word_ranged is_of_id who h.0, offset_ranged offset h.1) refl
item_ranged (Event who name offset) h = rw (who_ranged who h.0, event_ranged name h.1, offset_ranged offset h.2) refl
item_ranged (Repeat who n offset) h =
    let some : leb 1 n ≡ true = le-leb _ _ (omega arith) in
    let few : leb n 999_999_999 ≡ true = le-leb _ _ (omega arith) in
    rw (who_ranged who h.0, some, few, offset_ranged offset h.3) refl
item_ranged (Key key offset) h = rw (h.0, offset_ranged offset h.1) refl
item_ranged Indefinite h = refl

items_ranged : (items : List Item) → AllByRecursion IsItem items → list_all is_item items ≡ true
items_ranged [] h = refl
items_ranged (item ∷ items) h = rw (item_ranged item (item_printable item h.0), items_ranged items h.1) refl

list_ranged : (in_seq : Bool) (items : List Item) → IsList in_seq items → is_list items ≡ true
list_ranged in_seq items h =
    let some : leb 1 (length items) ≡ true = le-leb _ _ h.some in
    let few : leb (length items) 32 ≡ true = le-leb _ _ h.few in
    rw (some, few, items_ranged items (recursion_from_All IsItem items h.each)) refl

plain_ranged : (items : List Item) → is_plain items ≡ true → is_plain_begin items ≡ true
plain_ranged [] h = absurd cc
plain_ranged (Offset (pos n) ∷ []) h = le-leb 0 n (omega arith)
plain_ranged (Offset (negsuc n) ∷ []) h = absurd cc
plain_ranged (Offset offset ∷ item ∷ items) h = absurd cc
plain_ranged (Sync who edge offset ∷ items) h = absurd cc
plain_ranged (Event who name offset ∷ items) h = absurd cc
plain_ranged (Repeat who n offset ∷ items) h = absurd cc
plain_ranged (Key key offset ∷ items) h = absurd cc
plain_ranged (Indefinite ∷ items) h = absurd cc

begin_ranged : (in_seq : Bool) (items : List Item) → IsList in_seq items → is_begin in_seq items ≡ true
begin_ranged false items h = rw (list_ranged false items h) refl
begin_ranged true items h = rw (list_ranged true items h, plain_ranged items (h.plain refl)) refl

-- clock values and times

clock_ranged : (n : ℕ) → IsSmall n → is_clock (pos n) ≡ true
clock_ranged n le =
    let low : leb 0 n ≡ true = le-leb _ _ (omega arith) in
    let high : leb n 1_000_000_000_000 ≡ true = le-leb _ _ le in
    rw (low, high) refl

abbrev DurIs : Dur → Type 0
DurIs d = is_dur d ≡ true

dur_ranged : (text : List ℕ) → IfSome (dur_of text) DurIs
dur_ranged text = dur_reads DurIs refl refl clock_ranged text

abbrev TimeIs : Time → Type 0
TimeIs t = is_bound t ≡ true

time_ranged : (text : List ℕ) → IfSome (time_of text) TimeIs
time_ranged text = time_reads TimeIs refl clock_ranged text

positive : (n : ℕ) → above_zero n ≡ Some n → 0 < n
positive n e = cond_both (eqb n 0) None (Some n) (λ o. o ≡ Some n → 0 < n) (λ z e. absurd cc) (λ z e. some n z) e
  where
    some : (n : ℕ) → eqb n 0 ≡ false → 0 < n
    some n z = grind (arith, nat_tests)

abbrev LengthIs : Time → Type 0
LengthIs t = is_positive_bound t ≡ true

repeat_ranged : (text : List ℕ) → IfSome (repeat_dur_of text) LengthIs
repeat_ranged text = repeat_reads LengthIs refl one text
  where
    one : (n : ℕ) → IsLength n → is_positive_bound (time.At (pos n)) ≡ true
    one n h = let some : ltb 0 n ≡ true = lt-ltb _ _ (positive n h.some) in rw (some, clock_ranged n h.small) refl

abbrev CountIs : Count → Type 0
CountIs c = is_count c ≡ true

count_ranged : (text : List ℕ) → IfSome (repeat_count_of text) CountIs
count_ranged text = count_reads CountIs refl counted text
  where
    counted : (n : ℕ) → IsCount n → CountIs (count.Thousandths n)
    counted n h =
        let some : ltb 0 n ≡ true = lt-ltb _ _ (positive n h.some) in
        let few : leb n 999_999_999_999 ≡ true = le-leb _ _ (omega (arith, h.few)) in
        rw (some, few) refl

-- keywords

abbrev HigherIs : Act → Type 0
HigherIs a = is_higher a ≡ true

higher_ranged : (text : List ℕ) → IfSome (higher_of text) HigherIs
higher_ranged text = higher_reads HigherIs refl refl text

abbrev LowerIs : Act → Type 0
LowerIs a = is_lower a ≡ true

lower_ranged : (text : List ℕ) → IfSome (lower_of text) LowerIs
lower_ranged text = lower_reads LowerIs refl refl text

abbrev EndsyncIs : Endsync → Type 0
EndsyncIs e = is_endsync e ≡ true

endsync_ranged : (text : List ℕ) → bytes_eq text (codes "media") ≡ false → IfSome (endsync_of text) EndsyncIs
endsync_ranged text media = endsync_reads EndsyncIs refl refl refl text (child text media)
  where
    child : (text : List ℕ) → bytes_eq text (codes "media") ≡ false → bytes_eq text (codes "last") ≡ false → bytes_eq text (codes "first") ≡ false → bytes_eq text (codes "all") ≡ false → id_of text ≡ Some text → EndsyncIs (endsync.Child text)
    child text media last first all id =
        let own : IsId text = subst (λ (o : Option (List ℕ)). IfSome o IsId) id (id_ranged text) in
        rw (own, last, first, all, media) refl

-- attributes

any : (in_seq : Bool) (n : AttrName) (text : List ℕ) → is_other_value n (trim text) ≡ false → IfOk (plain_value_of in_seq n text) (IsInRange in_seq)
any in_seq name.Id text e = value attr.Id IsId (IsInRange in_seq) (λ x h. h) (id_of text) (id_ranged text)
any in_seq name.Begin text e = listed attr.Begin (IsList in_seq) (IsInRange in_seq) (begin_ranged in_seq) (list_of in_seq text) (lists in_seq text _ refl)
any in_seq name.Dur text e = value attr.Dur DurIs (IsInRange in_seq) (λ x h. h) (dur_of (trim text)) (dur_ranged (trim text))
any in_seq name.End text e = listed attr.End (IsList false) (IsInRange in_seq) (list_ranged false) (list_of false text) (lists false text _ refl)
any in_seq name.Min text e = value (λ n. attr.Min (pos n)) IsSmall (IsInRange in_seq) clock_ranged (clock_within (trim text)) (clock_small (trim text))
any in_seq name.Max text e = value attr.Max TimeIs (IsInRange in_seq) (λ x h. h) (time_of (trim text)) (time_ranged (trim text))
any in_seq name.RepeatCount text e = value attr.RepeatCount CountIs (IsInRange in_seq) (λ x h. h) (repeat_count_of (trim text)) (count_ranged (trim text))
any in_seq name.RepeatDur text e = value attr.RepeatDur LengthIs (IsInRange in_seq) (λ x h. h) (repeat_dur_of (trim text)) (repeat_ranged (trim text))
any in_seq name.Restart text e = any_value attr.Restart (IsInRange in_seq) (λ x. tt) (restart_of (trim text))
any in_seq name.Fill text e = any_value attr.Fill (IsInRange in_seq) (λ x. tt) (fill_of (trim text))
any in_seq name.RestartDefault text e = any_value attr.RestartDefault (IsInRange in_seq) (λ x. tt) (restart_default_of (trim text))
any in_seq name.FillDefault text e = any_value attr.FillDefault (IsInRange in_seq) (λ x. tt) (fill_default_of (trim text))
any in_seq name.Endsync text e = value attr.Endsync EndsyncIs (IsInRange in_seq) (λ x h. h) (endsync_of (trim text)) (endsync_ranged (trim text) e)
any in_seq name.Peers text e = any_value attr.Peers (IsInRange in_seq) (λ x. tt) (peers_of (trim text))
any in_seq name.Higher text e = value attr.Higher HigherIs (IsInRange in_seq) (λ x h. h) (higher_of (trim text)) (higher_ranged (trim text))
any in_seq name.Lower text e = value attr.Lower LowerIs (IsInRange in_seq) (λ x h. h) (lower_of (trim text)) (lower_ranged (trim text))
any in_seq (name.Text n) text e = value (attr.Text n) (λ t. is_text n t ≡ true) (IsInRange in_seq) (λ x h. h) (text_of n text) (text_ranged n text)

pub attr_ranged : (in_seq : Bool) (given : Attr) → IsAttr in_seq given → IsInRange in_seq given
attr_ranged in_seq given h = all_attrs in_seq (IsInRange in_seq) (any in_seq) given h

-- attributes of a node

abbrev IsHad : Bool → Bool → Option Attr → Type 0
IsHad in_seq had o = IfSome o (λ given. IsTrue had × IsAttr in_seq given)

in_range : {A : Type 0} (made : A → Attr) (test : A → Bool) (in_seq had : Bool) → ((x : A) → IsInRange in_seq (made x) → test x ≡ true) → (o : Option A) → IsHad in_seq had (option_map made o) → absent_or test o ≡ true
in_range made test in_seq had each None h = refl
in_range made test in_seq had each (Some x) h = each x (attr_ranged in_seq (made x) h.1)

gone : {A : Type 0} (made : A → Attr) (in_seq had : Bool) (o : Option A) → IsHad in_seq had (option_map made o) → had ≡ false → is_some o ≡ false
gone made in_seq had None h e = refl
gone made in_seq had (Some x) h e = let there : had ≡ true = h.0 in absurd cc

left_out : {A : Type 0} (made : A → Attr) (in_seq had : Bool) (o : Option A) → IsHad in_seq had (option_map made o) → (had || not (is_some o)) ≡ true
left_out made in_seq true o h = refl
left_out made in_seq false None h = refl
left_out made in_seq false (Some x) h = let there : false ≡ true = h.0 in absurd cc

no_endsync : (k : Kind) → is_class_kind k ≡ true → has_endsync k ≡ false
no_endsync k e =
    let both = not-true (is_class_kind k && has_endsync k) (each_kind (λ k. not (is_class_kind k && has_endsync k)) refl k) in
    rw e at both

text_in_range : (in_seq : Bool) (k : Kind) (n : TextName) (o : Option (List ℕ)) → IsHad in_seq (has_text k n) (option_map (attr.Text n) o) → absent_or (λ text. has_text k n && is_text n text) o ≡ true
text_in_range in_seq k n None h = refl
text_in_range in_seq k n (Some text) h = and_from (has_text k n) (is_text n text) h.0 (attr_ranged in_seq (attr.Text n text) h.1)

texts_ranged : (in_seq : Bool) (k : Kind) (attrs : Attrs) → IsAttrs in_seq k attrs → list_all (fits_text k attrs.texts) text_names ≡ true
texts_ranged in_seq k attrs h = all_texts (fits_text k attrs.texts) (λ n. text_in_range in_seq k n (text_at attrs.texts n) (h (name.Text n)))

class_ranged : (in_seq : Bool) (k : Kind) (attrs : Attrs) → is_class_kind k ≡ true → IsAttrs in_seq k attrs
    → (not (has_element_attrs attrs) && absent_or is_higher attrs.higher && absent_or is_lower attrs.lower) ≡ true
class_ranged in_seq k attrs class h =
    let other : not (is_class_kind k) ≡ false = not_from_true _ class in
    let p_begin = gone attr.Begin in_seq (not (is_class_kind k)) attrs.begin (h name.Begin) other in
    let p_dur = gone attr.Dur in_seq (not (is_class_kind k)) attrs.dur (h name.Dur) other in
    let p_end = gone attr.End in_seq (not (is_class_kind k)) attrs.«end» (h name.End) other in
    let p_min = gone attr.Min in_seq (not (is_class_kind k)) attrs.min (h name.Min) other in
    let p_max = gone attr.Max in_seq (not (is_class_kind k)) attrs.max (h name.Max) other in
    let p_repeat_count = gone attr.RepeatCount in_seq (not (is_class_kind k)) attrs.repeat_count (h name.RepeatCount) other in
    let p_repeat_dur = gone attr.RepeatDur in_seq (not (is_class_kind k)) attrs.repeat_dur (h name.RepeatDur) other in
    let p_restart = gone attr.Restart in_seq (not (is_class_kind k)) attrs.restart (h name.Restart) other in
    let p_fill = gone attr.Fill in_seq (not (is_class_kind k)) attrs.fill (h name.Fill) other in
    let p_restart_default = gone attr.RestartDefault in_seq (not (is_class_kind k)) attrs.restart_default (h name.RestartDefault) other in
    let p_fill_default = gone attr.FillDefault in_seq (not (is_class_kind k)) attrs.fill_default (h name.FillDefault) other in
    let p_endsync = gone attr.Endsync in_seq (has_endsync k) attrs.endsync (h name.Endsync) (no_endsync k class) in
    let higher = in_range attr.Higher is_higher in_seq (is_class_kind k) (λ x r. r) attrs.higher (h name.Higher) in
    let lower = in_range attr.Lower is_lower in_seq (is_class_kind k) (λ x r. r) attrs.lower (h name.Lower) in
    rw (p_begin, p_dur, p_end, p_min, p_max, p_repeat_count, p_repeat_dur, p_restart, p_fill, p_restart_default, p_fill_default, p_endsync, higher, lower) refl

element_ranged : (in_seq : Bool) (k : Kind) (attrs : Attrs) → is_class_kind k ≡ false → IsAttrs in_seq k attrs
    → (not (has_class_attrs attrs) && are_element_values in_seq attrs && (has_endsync k || not (is_some attrs.endsync))) ≡ true
element_ranged in_seq k attrs class h =
    let g_peers = gone attr.Peers in_seq (is_class_kind k) attrs.peers (h name.Peers) class in
    let g_higher = gone attr.Higher in_seq (is_class_kind k) attrs.higher (h name.Higher) class in
    let g_lower = gone attr.Lower in_seq (is_class_kind k) attrs.lower (h name.Lower) class in
    let p_begin = in_range attr.Begin (is_begin in_seq) in_seq (not (is_class_kind k)) (λ x r. r) attrs.begin (h name.Begin) in
    let p_dur = in_range attr.Dur is_dur in_seq (not (is_class_kind k)) (λ x r. r) attrs.dur (h name.Dur) in
    let p_end = in_range attr.End is_list in_seq (not (is_class_kind k)) (λ x r. r) attrs.«end» (h name.End) in
    let p_min = in_range attr.Min is_clock in_seq (not (is_class_kind k)) (λ x r. r) attrs.min (h name.Min) in
    let p_max = in_range attr.Max is_bound in_seq (not (is_class_kind k)) (λ x r. r) attrs.max (h name.Max) in
    let p_repeat_count = in_range attr.RepeatCount is_count in_seq (not (is_class_kind k)) (λ x r. r) attrs.repeat_count (h name.RepeatCount) in
    let p_repeat_dur = in_range attr.RepeatDur is_positive_bound in_seq (not (is_class_kind k)) (λ x r. r) attrs.repeat_dur (h name.RepeatDur) in
    let p_endsync = in_range attr.Endsync is_endsync in_seq (has_endsync k) (λ x r. r) attrs.endsync (h name.Endsync) in
    let last = left_out attr.Endsync in_seq (has_endsync k) attrs.endsync (h name.Endsync) in
    rw (g_peers, g_higher, g_lower, p_begin, p_dur, p_end, p_min, p_max, p_repeat_count, p_repeat_dur, p_endsync, last) refl

pub ranges : (k : Kind) (parent : Option Kind) (attrs : Attrs) → IsAttrs (is_seq_parent parent) k attrs → fit_kind k parent attrs ≡ true
ranges k parent attrs h =
    let id = in_range attr.Id is_id (is_seq_parent parent) true (λ x r. r) attrs.id (h name.Id) in
    let rest =
    cond_both (is_class_kind k) (not (has_element_attrs attrs) && absent_or is_higher attrs.higher && absent_or is_lower attrs.lower) (not (has_class_attrs attrs) && are_element_values (is_seq_parent parent) attrs && (has_endsync k || not (is_some attrs.endsync)))
    (λ t. t ≡ true) (λ class. class_ranged (is_seq_parent parent) k attrs class h) (λ class. element_ranged (is_seq_parent parent) k attrs class h) in
    rw (id, texts_ranged (is_seq_parent parent) k attrs h, rest) refl

-- an attribute that is read for a node, among those that the node has
pub given_fits : (k : Kind) (parent : Option Kind) (attrs : Attrs) (name value : List ℕ) (given : Attr) → fit_kind k parent attrs ≡ true → attribute_of (is_seq_parent parent) k name value ≡ Ok given → fit_kind k parent (with_attr attrs given) ≡ true
given_fits k parent attrs name value given fit read =
    let had = attribute_is (is_seq_parent parent) k name value given read in
    ranges k parent (with_attr attrs given) (with_stays (is_seq_parent parent) k attrs given (fits k parent attrs fit) had.0 had.1)
