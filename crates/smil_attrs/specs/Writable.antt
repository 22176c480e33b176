-- Values that can be written.
use Rattle.std.specs.Prelude.{ℕ, nat_abs, List, All}
use Rattle.smil_model.specs.declared.document.Attr.{Attr}
use Rattle.smil_model.specs.declared.document.Attr.TheVariants as attr
use Rattle.smil_model.specs.declared.document.Dur.{Dur}
use Rattle.smil_model.specs.declared.document.Dur.TheVariants as dur
use Rattle.smil_model.specs.declared.times.Time.{Time}
use Rattle.smil_model.specs.declared.times.Time.TheVariants as time
use Rattle.smil_model.specs.Times.{IsMoment}
use Rattle.smil_grammar.specs.Clock.{clock_text}
use Rattle.smil_grammar.specs.Spellings.{CanWrite, list_text, dur_text, time_text, count_text}
use Rattle.smil_attrs.specs.declared.spellings.Value.{Value}
use Rattle.smil_attrs.specs.declared.spellings.Value.TheVariants as value

-- a `dur` that can be written: a clock value from 0 to the horizon, `media` or `indefinite`
abbrev pub CanWriteDur : Dur → Type 0
CanWriteDur (dur.Clock value) = IsMoment value
CanWriteDur dur.Media = Unit {0}
CanWriteDur dur.Indefinite = Unit {0}

-- a time that can be written: one that is at a moment is from 0 to the horizon
abbrev pub CanWriteTime : Time → Type 0
CanWriteTime (time.At value) = IsMoment value
CanWriteTime time.Indefinite = Unit {0}
CanWriteTime time.Unresolved = Unit {0}

-- an attribute that can be written
abbrev pub CanWriteAttr : Attr → Type 0
CanWriteAttr (attr.Begin items) = All CanWrite items
CanWriteAttr (attr.End items) = All CanWrite items
CanWriteAttr (attr.Dur value) = CanWriteDur value
CanWriteAttr (attr.Min value) = IsMoment value
CanWriteAttr (attr.Max value) = CanWriteTime value
CanWriteAttr (attr.RepeatDur value) = CanWriteTime value
CanWriteAttr _ = Unit {0}

-- a value that can be written
abbrev pub CanWriteValue : Value → Type 0
CanWriteValue (value.List items) = All CanWrite items.now
CanWriteValue (value.Clock n) = IsMoment n
CanWriteValue (value.Dur d) = CanWriteDur d
CanWriteValue (value.Time t) = CanWriteTime t
CanWriteValue _ = Unit {0}

-- the printed spelling of a value
abbrev pub spelled : Value → List ℕ
spelled (value.Text text) = text.now
spelled (value.List items) = list_text items.now
spelled (value.Clock n) = clock_text (nat_abs n)
spelled (value.Dur d) = dur_text d
spelled (value.Time t) = time_text t
spelled (value.Count c) = count_text c
