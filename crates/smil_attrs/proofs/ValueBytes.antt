-- Each byte of a printed value is one of a text that is kept: neither a quote nor a control character.
use Rattle.std.proofs.Common.{◌≡◌, ℕ, ◌+◌, ◌/◌, ◌%◌, ◌<◌, ◌≤◌, Bool, true, false, not, eqb, List, [], ◌∷◌, Option, refl, subst, arith, decimal}
use Rattle.std.specs.Prelude.{pos, codes, IfOk, IfSome, All}
use Rattle.std.specs.List.{AllByRecursion}
use Rattle.std.specs.Str.{is_utf8}
use Rattle.std.proofs.lemmas.Bool.{cond_both, and_parts}
use Rattle.std.proofs.lemmas.Bool.Decides.{nat_tests}
use Rattle.std.proofs.lemmas.List.Elements.{All-weaker, recursion_from_All}
use Rattle.std.proofs.lemmas.Option.{IfSome_then}
use Rattle.smil_model.specs.declared.document.Attr.{Attr}
use Rattle.smil_model.specs.declared.document.Attr.TheVariants as attr
use Rattle.smil_model.specs.declared.document.AttrName.{AttrName}
use Rattle.smil_model.specs.declared.document.AttrName.TheVariants as name
use Rattle.smil_model.specs.declared.texts.TextName.{TextName}
use Rattle.smil_model.specs.declared.texts.TextName.TheVariants as text
use Rattle.smil_model.specs.declared.document.Dur.{Dur}
use Rattle.smil_model.specs.declared.document.Count.{Count}
use Rattle.smil_model.specs.declared.document.Count.TheVariants as count
use Rattle.smil_model.specs.declared.document.Endsync.{Endsync}
use Rattle.smil_model.specs.declared.document.Item.{Item}
use Rattle.smil_model.specs.declared.times.Time.{Time}
use Rattle.smil_grammar.specs.Texts.{trim, quote}
use Rattle.smil_model.specs.document.Words.{is_of_attribute}
use Rattle.smil_grammar.specs.Words.{is_of_id}
use Rattle.smil_grammar.specs.Clock.{clock_text}
use Rattle.smil_grammar.specs.Clock.{clock_within}
use Rattle.smil_grammar.specs.Items.{IsItem}
use Rattle.smil_grammar.specs.Lists.{list_of, IsList}
use Rattle.smil_grammar.specs.Values.{id_of, attribute_name_of, restart_default_of, fill_default_of, is_kept, kept_of, text_of, dur_of, time_of, repeat_dur_of, repeat_count_of, restart_of, fill_of, endsync_of, peers_of, higher_of, lower_of, plain_value_of}
use Rattle.smil_grammar.specs.Spellings.{item_text, list_text, attr_text, dur_text, time_text, decimals, count_text, endsync_text}
use Rattle.smil_grammar.specs.Allowed.{IsAttr}
use Rattle.smil_lexis.proofs.TestedFronts.{Passes, tested, passes_weaker, passes_on}
use Rattle.smil_time_list.proofs.PrintableItems.{Printable, item_printable, clock_small}
use Rattle.smil_time_list.proofs.ListRoundTrip.{is_ink, id_ink, digit_ink, number_ink, clock_ink, item_ink}
use Rattle.smil_attrs.proofs.ReadParts.{IsSmall, value, any_value, listed, own_where, all_attrs}
use Rattle.smil_attrs.proofs.AttributeCases.{dur_reads, time_reads, repeat_reads, count_reads, endsync_reads}
use Rattle.smil_attrs.proofs.CountRoundTrip.{IsCount, digit_printed}
use Rattle.smil_attrs.proofs.EditedAttributes.{lists}
use Rattle.smil_attrs.proofs.WordRoundTrip.{id_passes, attribute_name_passes}
use Rattle.smil_attrs.proofs.ValueRoundTrip.{IsSpelled, restart_spelled, fill_spelled, restart_default_spelled, fill_default_spelled, act_spelled}

abbrev pub AreKept : List ℕ → Type 0
AreKept text = Passes is_kept text

-- items

ink_kept : (b : ℕ) → is_ink b ≡ true → is_kept b ≡ true
ink_kept b h = grind (arith, nat_tests)

id_byte : (b : ℕ) → is_of_id b ≡ true → is_kept b ≡ true
id_byte b h = ink_kept b (id_ink b h)

number_kept : (n : ℕ) → IsSmall n → AreKept (decimal n)
number_kept n le = passes_weaker is_ink is_kept ink_kept (decimal n) (number_ink n le)

clock_kept : (n : ℕ) → IsSmall n → AreKept (clock_text n)
clock_kept n le = passes_weaker is_ink is_kept ink_kept (clock_text n) (clock_ink n le)

item_kept : (item : Item) → Printable item → AreKept (item_text item)
item_kept item h = passes_weaker is_ink is_kept ink_kept (item_text item) (item_ink item h)

list_kept : (items : List Item) → All Printable items → AreKept (list_text items)
list_kept items h = all items (recursion_from_All Printable items h)
  where
    all : (items : List Item) → AllByRecursion Printable items → AreKept (list_text items)
    all [] h = tt
    all (x ∷ []) h = item_kept x h.0
    all (x ∷ y ∷ items) h = passes_on is_kept (item_text x) (59 ∷ list_text (y ∷ items)) (item_kept x h.0) (refl, all (y ∷ items) h.1)

read_kept : (in_seq : Bool) (items : List Item) → IsList in_seq items → AreKept (list_text items)
read_kept in_seq items h = list_kept items (All-weaker IsItem Printable item_printable items h.each)

-- clock values and times

abbrev DurKept : Dur → Type 0
DurKept d = AreKept (dur_text d)

dur_kept : (text : List ℕ) → IfSome (dur_of text) DurKept
dur_kept text = dur_reads DurKept (tested is_kept (codes "media") refl) (tested is_kept (codes "indefinite") refl) clock_kept text

abbrev TimeKept : Time → Type 0
TimeKept t = AreKept (time_text t)

time_kept : (text : List ℕ) → IfSome (time_of text) TimeKept
time_kept text = time_reads TimeKept (tested is_kept (codes "indefinite") refl) clock_kept text

repeat_kept : (text : List ℕ) → IfSome (repeat_dur_of text) TimeKept
repeat_kept text = repeat_reads TimeKept (tested is_kept (codes "indefinite") refl) (λ n h. clock_kept n h.small) text

digit_kept : (a : ℕ) → a ≤ 9 → is_kept (48 + a) ≡ true
digit_kept a le = ink_kept (48 + a) (digit_ink (48 + a) (digit_printed a le))

decimals_kept : (r : ℕ) → r < 1000 → AreKept (decimals r)
decimals_kept r small =
    let a = digit_kept (r / 100) (omega arith) in
    let b = digit_kept (r / 10 % 10) (omega arith) in
    let c = digit_kept (r % 10) (omega arith) in
    cond_both (eqb r 0) [] _ AreKept (λ z. tt) (λ nz.
    cond_both (eqb (r % 100) 0) _ _ AreKept (λ z. (refl, (a, tt))) (λ nz.
    cond_both (eqb (r % 10) 0) _ _ AreKept (λ z. (refl, (a, (b, tt)))) (λ nz. (refl, (a, (b, (c, tt)))))))

abbrev CountKept : Count → Type 0
CountKept c = AreKept (count_text c)

count_kept : (text : List ℕ) → IfSome (repeat_count_of text) CountKept
count_kept text = count_reads CountKept (tested is_kept (codes "indefinite") refl) counted text
  where
    counted : (n : ℕ) → IsCount n → CountKept (count.Thousandths n)
    counted n h = passes_on is_kept (decimal (n / 1000)) (decimals (n % 1000)) (number_kept (n / 1000) (omega (arith, h.few))) (decimals_kept (n % 1000) (omega arith))

-- words

id_kept : (text : List ℕ) → IfSome (id_of text) AreKept
id_kept text = IfSome_then (id_of text) (id_passes text) (passes_weaker is_of_id is_kept id_byte)

attribute_byte : (b : ℕ) → is_of_attribute b ≡ true → is_kept b ≡ true
attribute_byte b h = grind (arith, nat_tests)

attribute_name_kept : (text : List ℕ) → IfSome (attribute_name_of text) AreKept
attribute_name_kept text = IfSome_then (attribute_name_of text) (attribute_name_passes text) (passes_weaker is_of_attribute is_kept attribute_byte)

abbrev EndsyncKept : Endsync → Type 0
EndsyncKept e = AreKept (endsync_text e)

endsync_kept : (text : List ℕ) → IfSome (endsync_of text) EndsyncKept
endsync_kept text = endsync_reads EndsyncKept (tested is_kept (codes "last") refl) (tested is_kept (codes "first") refl) (tested is_kept (codes "all") refl) text
    (λ last first all id. subst (λ (o : Option (List ℕ)). IfSome o AreKept) id (id_kept text))

text_kept : (text : List ℕ) → IfSome (kept_of text) AreKept
text_kept text = own_where AreKept _ text (λ e. tested is_kept text (and_parts (is_utf8 text) _ e).1)

named_kept : (n : TextName) (text : List ℕ) → IfSome (text_of n text) AreKept
named_kept text.TargetElement text = id_kept (trim text)
named_kept text.AttributeName text = attribute_name_kept (trim text)
named_kept _ text = text_kept text

-- attributes

abbrev Q : Attr → Type 0
Q given = AreKept (attr_text given)

spelled_kept : (in_seq : Bool) (given : Attr) → IsSpelled in_seq given → Q given
spelled_kept in_seq given h = tested is_kept (attr_text given) h.1

plain_kept : (in_seq : Bool) (n : AttrName) (text : List ℕ) → IfOk (plain_value_of in_seq n text) Q
plain_kept in_seq name.Id text = value attr.Id AreKept Q (λ id h. h) (id_of text) (id_kept text)
plain_kept in_seq name.Begin text = listed attr.Begin (IsList in_seq) Q (read_kept in_seq) (list_of in_seq text) (lists in_seq text _ refl)
plain_kept in_seq name.Dur text = value attr.Dur DurKept Q (λ d h. h) (dur_of (trim text)) (dur_kept (trim text))
plain_kept in_seq name.End text = listed attr.End (IsList false) Q (read_kept false) (list_of false text) (lists false text _ refl)
plain_kept in_seq name.Min text = value (λ n. attr.Min (pos n)) IsSmall Q clock_kept (clock_within (trim text)) (clock_small (trim text))
plain_kept in_seq name.Max text = value attr.Max TimeKept Q (λ t h. h) (time_of (trim text)) (time_kept (trim text))
plain_kept in_seq name.RepeatCount text = value attr.RepeatCount CountKept Q (λ c h. h) (repeat_count_of (trim text)) (count_kept (trim text))
plain_kept in_seq name.RepeatDur text = value attr.RepeatDur TimeKept Q (λ t h. h) (repeat_dur_of (trim text)) (repeat_kept (trim text))
plain_kept in_seq name.Restart text = any_value attr.Restart Q (λ r. spelled_kept in_seq (attr.Restart r) (restart_spelled in_seq r)) (restart_of (trim text))
plain_kept in_seq name.Fill text = any_value attr.Fill Q (λ f. spelled_kept in_seq (attr.Fill f) (fill_spelled in_seq f)) (fill_of (trim text))
plain_kept in_seq name.RestartDefault text = any_value attr.RestartDefault Q (λ d. spelled_kept in_seq (attr.RestartDefault d) (restart_default_spelled in_seq d)) (restart_default_of (trim text))
plain_kept in_seq name.FillDefault text = any_value attr.FillDefault Q (λ d. spelled_kept in_seq (attr.FillDefault d) (fill_default_spelled in_seq d)) (fill_default_of (trim text))
plain_kept in_seq name.Endsync text = value attr.Endsync EndsyncKept Q (λ x h. h) (endsync_of (trim text)) (endsync_kept (trim text))
plain_kept in_seq name.Peers text = any_value attr.Peers Q (λ a. spelled_kept in_seq (attr.Peers a) (act_spelled in_seq a)) (peers_of (trim text))
plain_kept in_seq name.Higher text = any_value attr.Higher Q (λ a. spelled_kept in_seq (attr.Peers a) (act_spelled in_seq a)) (higher_of (trim text))
plain_kept in_seq name.Lower text = any_value attr.Lower Q (λ a. spelled_kept in_seq (attr.Peers a) (act_spelled in_seq a)) (lower_of (trim text))
plain_kept in_seq (name.Text n) text = value (attr.Text n) AreKept Q (λ kept h. h) (text_of n text) (named_kept n text)

pub attr_kept : (in_seq : Bool) (given : Attr) → IsAttr in_seq given → AreKept (attr_text given)
attr_kept in_seq given h = all_attrs in_seq Q (λ n text e. plain_kept in_seq n text) given h

-- so it has no quote

abbrev pub is_unquoted : ℕ → Bool
is_unquoted b = not (eqb b quote)

abbrev pub Unquoted : List ℕ → Type 0
Unquoted text = Passes is_unquoted text

no_quote : (b : ℕ) → is_kept b ≡ true → is_unquoted b ≡ true
no_quote b h = (and_parts _ _ h).1

pub attr_unquoted : (in_seq : Bool) (given : Attr) → IsAttr in_seq given → Unquoted (attr_text given)
attr_unquoted in_seq given h = passes_weaker is_kept is_unquoted no_quote (attr_text given) (attr_kept in_seq given h)
