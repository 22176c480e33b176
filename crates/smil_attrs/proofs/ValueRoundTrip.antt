-- The printed spelling of a value is read as the same value.
use Rattle.std.proofs.Common.{◌≡◌, ℕ, Bool, true, false, List, Option, Some, Ok, refl, subst}
use Rattle.std.specs.Prelude.{pos, codes, bytes_eq, IfOk, IfSome}
use Rattle.std.specs.List.{list_all}
use Rattle.std.proofs.lemmas.Option.{IfSome_then}
use Rattle.smil_model.specs.declared.document.Attr.{Attr}
use Rattle.smil_model.specs.declared.document.Attr.TheVariants as attr
use Rattle.smil_model.specs.declared.document.AttrName.{AttrName}
use Rattle.smil_model.specs.declared.document.AttrName.TheVariants as name
use Rattle.smil_model.specs.declared.texts.TextName.{TextName}
use Rattle.smil_model.specs.declared.texts.TextName.TheVariants as text
use Rattle.smil_model.specs.declared.document.Dur.{Dur}
use Rattle.smil_model.specs.declared.document.Count.{Count}
use Rattle.smil_model.specs.declared.document.Restart.{Restart}
use Rattle.smil_model.specs.declared.document.Restart.TheVariants as restart
use Rattle.smil_model.specs.declared.document.Fill.{Fill}
use Rattle.smil_model.specs.declared.document.Fill.TheVariants as fill
use Rattle.smil_model.specs.declared.document.RestartDefault.{RestartDefault}
use Rattle.smil_model.specs.declared.document.RestartDefault.TheVariants as restart_default
use Rattle.smil_model.specs.declared.document.FillDefault.{FillDefault}
use Rattle.smil_model.specs.declared.document.FillDefault.TheVariants as fill_default
use Rattle.smil_model.specs.declared.document.Endsync.{Endsync}
use Rattle.smil_model.specs.declared.document.Endsync.TheVariants as endsync
use Rattle.smil_model.specs.declared.document.Act.{Act}
use Rattle.smil_model.specs.declared.document.Act.TheVariants as act
use Rattle.smil_model.specs.declared.times.Time.{Time}
use Rattle.smil_model.specs.declared.times.Time.TheVariants as time
use Rattle.smil_grammar.specs.Texts.{trim}
use Rattle.smil_grammar.specs.Clock.{clock_within}
use Rattle.smil_grammar.specs.Lists.{list_of, IsList}
use Rattle.smil_grammar.specs.Values.{id_of, attribute_name_of, restart_default_of, fill_default_of, is_kept, dur_of, time_of, repeat_dur_of, repeat_count_of, restart_of, fill_of, endsync_of, peers_of, higher_of, lower_of, is_other_value, text_of, plain_value_of, value_of}
use Rattle.smil_grammar.specs.Spellings.{attr_text, dur_text, time_text, count_text, act_text}
use Rattle.smil_grammar.specs.Allowed.{name_of, IsAttr}
use Rattle.smil_time_list.proofs.PrintableItems.{clock_small}
use Rattle.smil_time_list.proofs.ItemRoundTrip.{clock_read}
use Rattle.smil_time_list.proofs.ListRoundTrip.{list_read}
use Rattle.smil_attrs.proofs.ReadParts.{IsSmall, value, any_value, listed, all_attrs}
use Rattle.smil_attrs.proofs.AttributeCases.{dur_reads, time_reads, repeat_reads, count_reads, higher_reads, lower_reads, endsync_reads}
use Rattle.smil_attrs.proofs.ClockRoundTrip.{trimmed, no_keyword, dur_read, time_read, repeat_read}
use Rattle.smil_attrs.proofs.CountRoundTrip.{count_read}
use Rattle.smil_attrs.proofs.EditedAttributes.{lists}
use Rattle.smil_attrs.proofs.WordRoundTrip.{IsWholeId, id_whole, attribute_name_whole, kept_whole}

-- a value is read again
abbrev pub Again : Bool → Attr → Type 0
Again in_seq given = value_of in_seq (name_of given) (attr_text given) ≡ Ok given

-- clock values and times

abbrev DurAgain : Dur → Type 0
DurAgain d = dur_of (trim (dur_text d)) ≡ Some d

dur_again : (text : List ℕ) → IfSome (dur_of text) DurAgain
dur_again text = dur_reads DurAgain refl refl (λ n le. rw (trimmed n le) (dur_read n le)) text

pub min_again : (in_seq : Bool) (n : ℕ) → IsSmall n → Again in_seq (attr.Min (pos n))
min_again in_seq n le = rw (trimmed n le, no_keyword n 109 (codes "edia") le refl, clock_read n le) refl

pub max_again : (in_seq : Bool) (n : ℕ) → IsSmall n → Again in_seq (attr.Max (time.At (pos n)))
max_again in_seq n le = rw (trimmed n le, no_keyword n 109 (codes "edia") le refl, time_read n le) refl

abbrev MaxAgain : Bool → Time → Type 0
MaxAgain in_seq t = Again in_seq (attr.Max t)

bound_again : (in_seq : Bool) (text : List ℕ) → IfSome (time_of text) (MaxAgain in_seq)
bound_again in_seq text = time_reads (MaxAgain in_seq) refl (max_again in_seq) text

abbrev RepeatAgain : Time → Type 0
RepeatAgain t = repeat_dur_of (trim (time_text t)) ≡ Some t

repeat_again : (text : List ℕ) → IfSome (repeat_dur_of text) RepeatAgain
repeat_again text = repeat_reads RepeatAgain refl (λ n h. rw (trimmed n h.small) (repeat_read n h.small h.some)) text

abbrev CountAgain : Count → Type 0
CountAgain c = repeat_count_of (trim (count_text c)) ≡ Some c

count_again : (text : List ℕ) → IfSome (repeat_count_of text) CountAgain
count_again text = count_reads CountAgain refl count_read text

-- words

-- a word is read again, and its bytes are kept
abbrev pub IsSpelled : Bool → Attr → Type 0
IsSpelled in_seq given = Again in_seq given × (list_all is_kept (attr_text given) ≡ true)

pub restart_spelled : (in_seq : Bool) (r : Restart) → IsSpelled in_seq (attr.Restart r)
restart_spelled in_seq restart.Always = (refl, refl)
restart_spelled in_seq restart.WhenNotActive = (refl, refl)
restart_spelled in_seq restart.Never = (refl, refl)
restart_spelled in_seq restart.ByDefault = (refl, refl)

pub fill_spelled : (in_seq : Bool) (f : Fill) → IsSpelled in_seq (attr.Fill f)
fill_spelled in_seq fill.Remove = (refl, refl)
fill_spelled in_seq fill.Freeze = (refl, refl)
fill_spelled in_seq fill.Hold = (refl, refl)
fill_spelled in_seq fill.Auto = (refl, refl)
fill_spelled in_seq fill.ByDefault = (refl, refl)

pub restart_default_spelled : (in_seq : Bool) (d : RestartDefault) → IsSpelled in_seq (attr.RestartDefault d)
restart_default_spelled in_seq restart_default.Always = (refl, refl)
restart_default_spelled in_seq restart_default.WhenNotActive = (refl, refl)
restart_default_spelled in_seq restart_default.Never = (refl, refl)
restart_default_spelled in_seq restart_default.Inherit = (refl, refl)

pub fill_default_spelled : (in_seq : Bool) (d : FillDefault) → IsSpelled in_seq (attr.FillDefault d)
fill_default_spelled in_seq fill_default.Remove = (refl, refl)
fill_default_spelled in_seq fill_default.Freeze = (refl, refl)
fill_default_spelled in_seq fill_default.Hold = (refl, refl)
fill_default_spelled in_seq fill_default.Auto = (refl, refl)
fill_default_spelled in_seq fill_default.Inherit = (refl, refl)

pub act_spelled : (in_seq : Bool) (a : Act) → IsSpelled in_seq (attr.Peers a)
act_spelled in_seq act.Stop = (refl, refl)
act_spelled in_seq act.Pause = (refl, refl)
act_spelled in_seq act.Defer = (refl, refl)
act_spelled in_seq act.Never = (refl, refl)

abbrev HigherAgain : Act → Type 0
HigherAgain a = higher_of (trim (act_text a)) ≡ Some a

higher_again : (text : List ℕ) → IfSome (higher_of text) HigherAgain
higher_again text = higher_reads HigherAgain refl refl text

abbrev LowerAgain : Act → Type 0
LowerAgain a = lower_of (trim (act_text a)) ≡ Some a

lower_again : (text : List ℕ) → IfSome (lower_of text) LowerAgain
lower_again text = lower_reads LowerAgain refl refl text

-- an id that is no keyword stays one
abbrev EndsyncAgain : Bool → Endsync → Type 0
EndsyncAgain in_seq e = Again in_seq (attr.Endsync e)

endsync_again : (in_seq : Bool) (text : List ℕ) → bytes_eq text (codes "media") ≡ false → IfSome (endsync_of text) (EndsyncAgain in_seq)
endsync_again in_seq text media = endsync_reads (EndsyncAgain in_seq) refl refl refl text (child in_seq text media)
  where
    child : (in_seq : Bool) (text : List ℕ) → bytes_eq text (codes "media") ≡ false → bytes_eq text (codes "last") ≡ false → bytes_eq text (codes "first") ≡ false → bytes_eq text (codes "all") ≡ false → id_of text ≡ Some text → EndsyncAgain in_seq (endsync.Child text)
    child in_seq text media last first all id =
        let whole : IsWholeId text = subst (λ (o : Option (List ℕ)). IfSome o IsWholeId) id (id_whole text) in
        rw (whole.1, media, last, first, all, id) refl

-- plain texts

abbrev TextAgain : TextName → List ℕ → Type 0
TextAgain n text = text_of n text ≡ Some text

text_again : (n : TextName) (text : List ℕ) → IfSome (text_of n text) (TextAgain n)
text_again text.TargetElement text = IfSome_then (id_of (trim text)) (id_whole (trim text)) (λ id h. rw (h.1, h.0) refl)
text_again text.AttributeName text = IfSome_then (attribute_name_of (trim text)) (attribute_name_whole (trim text)) (λ name h. rw (h.1, h.0) refl)
text_again _ text = kept_whole text

-- attributes

plain_again : (in_seq : Bool) (n : AttrName) (text : List ℕ) → is_other_value n (trim text) ≡ false → IfOk (plain_value_of in_seq n text) (Again in_seq)
plain_again in_seq name.Id text e = value attr.Id IsWholeId (Again in_seq) (λ id h. rw (h.0) refl) (id_of text) (id_whole text)
plain_again in_seq name.Begin text e = listed attr.Begin (IsList in_seq) (Again in_seq) (λ items h. rw (list_read in_seq items h) refl) (list_of in_seq text) (lists in_seq text _ refl)
plain_again in_seq name.Dur text e = value attr.Dur DurAgain (Again in_seq) (λ d h. rw h refl) (dur_of (trim text)) (dur_again (trim text))
plain_again in_seq name.End text e = listed attr.End (IsList false) (Again in_seq) (λ items h. rw (list_read false items h) refl) (list_of false text) (lists false text _ refl)
plain_again in_seq name.Min text e = value (λ n. attr.Min (pos n)) IsSmall (Again in_seq) (min_again in_seq) (clock_within (trim text)) (clock_small (trim text))
plain_again in_seq name.Max text e = value attr.Max (MaxAgain in_seq) (Again in_seq) (λ t h. h) (time_of (trim text)) (bound_again in_seq (trim text))
plain_again in_seq name.RepeatCount text e = value attr.RepeatCount CountAgain (Again in_seq) (λ c h. rw h refl) (repeat_count_of (trim text)) (count_again (trim text))
plain_again in_seq name.RepeatDur text e = value attr.RepeatDur RepeatAgain (Again in_seq) (λ t h. rw h refl) (repeat_dur_of (trim text)) (repeat_again (trim text))
plain_again in_seq name.Restart text e = any_value attr.Restart (Again in_seq) (λ r. (restart_spelled in_seq r).0) (restart_of (trim text))
plain_again in_seq name.Fill text e = any_value attr.Fill (Again in_seq) (λ f. (fill_spelled in_seq f).0) (fill_of (trim text))
plain_again in_seq name.RestartDefault text e = any_value attr.RestartDefault (Again in_seq) (λ d. (restart_default_spelled in_seq d).0) (restart_default_of (trim text))
plain_again in_seq name.FillDefault text e = any_value attr.FillDefault (Again in_seq) (λ d. (fill_default_spelled in_seq d).0) (fill_default_of (trim text))
plain_again in_seq name.Endsync text e = value attr.Endsync (EndsyncAgain in_seq) (Again in_seq) (λ x h. h) (endsync_of (trim text)) (endsync_again in_seq (trim text) e)
plain_again in_seq name.Peers text e = any_value attr.Peers (Again in_seq) (λ a. (act_spelled in_seq a).0) (peers_of (trim text))
plain_again in_seq name.Higher text e = value attr.Higher HigherAgain (Again in_seq) (λ a h. rw h refl) (higher_of (trim text)) (higher_again (trim text))
plain_again in_seq name.Lower text e = value attr.Lower LowerAgain (Again in_seq) (λ a h. rw h refl) (lower_of (trim text)) (lower_again (trim text))
plain_again in_seq (name.Text n) text e = value (attr.Text n) (TextAgain n) (Again in_seq) (λ kept h. rw h refl) (text_of n text) (text_again n text)

pub attr_again : (in_seq : Bool) (given : Attr) → IsAttr in_seq given → value_of in_seq (name_of given) (attr_text given) ≡ Ok given
attr_again in_seq given h = all_attrs in_seq (Again in_seq) (plain_again in_seq) given h
