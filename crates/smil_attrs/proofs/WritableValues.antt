-- What a text can be read as: values that can be written.
use Rattle.std.proofs.Common.{ℕ, Bool, false, List, refl, arith}
use Rattle.std.specs.Prelude.{pos, IfOk, IfSome}
use Rattle.std.proofs.lemmas.Int.{ints}
use Rattle.std.proofs.lemmas.Option.{IfSome_then}
use Rattle.smil_model.specs.declared.document.Kind.{Kind}
use Rattle.smil_model.specs.declared.document.Attr.{Attr}
use Rattle.smil_model.specs.declared.document.Attr.TheVariants as attr
use Rattle.smil_model.specs.declared.document.Attrs.{Attrs}
use Rattle.smil_model.specs.declared.document.AttrName.{AttrName}
use Rattle.smil_model.specs.declared.document.AttrName.TheVariants as name
use Rattle.smil_model.specs.Times.{IsMoment}
use Rattle.smil_grammar.specs.Texts.{trim}
use Rattle.smil_grammar.specs.Clock.{clock_within}
use Rattle.smil_grammar.specs.Lists.{list_of, IsList}
use Rattle.smil_grammar.specs.Values.{dur_of, time_of, repeat_dur_of, plain_value_of}
use Rattle.smil_grammar.specs.Spellings.{attr_at}
use Rattle.smil_grammar.specs.Allowed.{IsAttr, IsAttrs}
use Rattle.smil_time_list.proofs.PrintableItems.{clock_small}
use Rattle.smil_time_list.proofs.ListRoundTrip.{read_can_write}
use Rattle.smil_attrs.specs.Writable.{CanWriteDur, CanWriteTime, CanWriteAttr}
use Rattle.smil_attrs.proofs.ReadParts.{IsSmall, value, any_value, listed, all_attrs}
use Rattle.smil_attrs.proofs.AttributeCases.{dur_reads, time_reads, repeat_reads}
use Rattle.smil_attrs.proofs.EditedAttributes.{lists}

is_clock : (n : ℕ) → IsSmall n → IsMoment (pos n)
is_clock n h = record { low = omega (arith, ints); high = omega (arith, ints) }

dur_fits : (text : List ℕ) → IfSome (dur_of text) CanWriteDur
dur_fits text = dur_reads CanWriteDur tt tt is_clock text

time_fits : (text : List ℕ) → IfSome (time_of text) CanWriteTime
time_fits text = time_reads CanWriteTime tt is_clock text

repeat_fits : (text : List ℕ) → IfSome (repeat_dur_of text) CanWriteTime
repeat_fits text = repeat_reads CanWriteTime tt (λ n h. is_clock n h.small) text

plain_fits : (in_seq : Bool) (n : AttrName) (text : List ℕ) → IfOk (plain_value_of in_seq n text) CanWriteAttr
plain_fits in_seq name.Id text = any_value attr.Id CanWriteAttr (λ x. tt) _
plain_fits in_seq name.Begin text = listed attr.Begin (IsList in_seq) CanWriteAttr (read_can_write in_seq) (list_of in_seq text) (lists in_seq text _ refl)
plain_fits in_seq name.Dur text = value attr.Dur CanWriteDur CanWriteAttr (λ x h. h) (dur_of (trim text)) (dur_fits (trim text))
plain_fits in_seq name.End text = listed attr.End (IsList false) CanWriteAttr (read_can_write false) (list_of false text) (lists false text _ refl)
plain_fits in_seq name.Min text = value (λ n. attr.Min (pos n)) IsSmall CanWriteAttr is_clock (clock_within (trim text)) (clock_small (trim text))
plain_fits in_seq name.Max text = value attr.Max CanWriteTime CanWriteAttr (λ x h. h) (time_of (trim text)) (time_fits (trim text))
plain_fits in_seq name.RepeatCount text = any_value attr.RepeatCount CanWriteAttr (λ x. tt) _
plain_fits in_seq name.RepeatDur text = value attr.RepeatDur CanWriteTime CanWriteAttr (λ x h. h) (repeat_dur_of (trim text)) (repeat_fits (trim text))
plain_fits in_seq name.Restart text = any_value attr.Restart CanWriteAttr (λ x. tt) _
plain_fits in_seq name.Fill text = any_value attr.Fill CanWriteAttr (λ x. tt) _
plain_fits in_seq name.RestartDefault text = any_value attr.RestartDefault CanWriteAttr (λ x. tt) _
plain_fits in_seq name.FillDefault text = any_value attr.FillDefault CanWriteAttr (λ x. tt) _
plain_fits in_seq name.Endsync text = any_value attr.Endsync CanWriteAttr (λ x. tt) _
plain_fits in_seq name.Peers text = any_value attr.Peers CanWriteAttr (λ x. tt) _
plain_fits in_seq name.Higher text = any_value attr.Higher CanWriteAttr (λ x. tt) _
plain_fits in_seq name.Lower text = any_value attr.Lower CanWriteAttr (λ x. tt) _
plain_fits in_seq (name.Text n) text = any_value (attr.Text n) CanWriteAttr (λ x. tt) _

pub attr_fits : (in_seq : Bool) (given : Attr) → IsAttr in_seq given → CanWriteAttr given
attr_fits in_seq given h = all_attrs in_seq CanWriteAttr (λ n text e. plain_fits in_seq n text) given h

pub fits_at : (in_seq : Bool) (kind : Kind) (attrs : Attrs) (n : AttrName) → IsAttrs in_seq kind attrs → IfSome (attr_at attrs n) CanWriteAttr
fits_at in_seq kind attrs n h = IfSome_then (attr_at attrs n) (h n) (λ given had. attr_fits in_seq given had.1)
