-- Node lines, outlines and script lines as they are read.
use Rattle.std.proofs.Common.{◌≡◌, ℕ, List, [], ◌∷◌, Some, Result, Ok, Err, refl}
use Rattle.std.specs.Prelude.{codes, pos}
use Rattle.std.specs.Str.{is_utf8, chars}
use Rattle.std.specs.Fmt.{digits}
use lib.Utf8.{encode}
use Rattle.smil_model.specs.declared.document.Kind.TheVariants as kind
use Rattle.smil_model.specs.declared.document.Dur.TheVariants as dur
use Rattle.smil_model.specs.declared.order.Order.TheVariants as order
use Rattle.smil_model.specs.declared.order.Who.TheVariants.{Id, Serial}
use Rattle.smil_model.specs.declared.order.Refusal.{Refusal}
use Rattle.smil_model.specs.declared.order.Refusal.TheVariants as refusal
use Rattle.smil_model.specs.document.Document.{Document}
use Rattle.smil_grammar.specs.declared.fault.NodeFault.TheVariants.{BadOutline, Unsupported, UnknownAttribute, BadValue}
use Rattle.smil_grammar.specs.declared.read.Read.TheVariants.{Blank, Load, To}
use Rattle.smil_grammar.specs.Nodes.{node_of}
use Rattle.smil_model.specs.document.Edits.{no_attrs}
use Rattle.smil_grammar.specs.Scripts.{line_of}
use Rattle.smil_grammar.specs.Outlines.{outline_of, outline_text, saved_text}

line : node_of (Some kind.Par) (codes "img id=\"b\"  dur=\"2s\" ") ≡ Ok (kind.Img, record no_attrs { id = Some (codes "b"); dur = Some (dur.Clock (pos 2000)) })
unfolding is_utf8 chars encode
line = refl

unknown : node_of (Some kind.Par) (codes "img colour=\"b\" dur=\"x\"") ≡ Err (UnknownAttribute 5)
unfolding is_utf8 chars encode
unknown = refl

value : node_of (Some kind.Par) (codes "img dur=\"x\"") ≡ Err (BadValue 10)
unfolding is_utf8 chars encode
value = refl

item : node_of (Some kind.Par) (codes "img begin=\"0s; y!\"") ≡ Err (BadValue 16)
unfolding is_utf8 chars encode
item = refl

left_out : node_of (Some kind.Par) (codes "switch id=\"x\"") ≡ Err (Unsupported 1)
unfolding is_utf8 chars encode
left_out = refl

twice : node_of (Some kind.Par) (codes "switch id=\"x\" id=\"y\"") ≡ Err BadOutline
unfolding is_utf8 chars encode
twice = refl

advance : line_of (codes "u advance  1s ") ≡ Ok (To (codes "u") (order.Advance (pos 1000)))
advance = refl

seek : line_of (codes "u seek 20000000000s") ≡ Err (refusal.BadValue 8)
seek = refl

event : line_of (codes "u event #12 click") ≡ Ok (To (codes "u") (order.Event (Serial 12) (codes "click")))
event = refl

set_order : line_of (codes "u set a dur \"x\"") ≡ Ok (To (codes "u") (order.Set (Id (codes "a")) (codes "dur") (codes "x") 9 14))
unfolding is_utf8 chars encode
set_order = refl

unset_order : line_of (codes "u unset a colour") ≡ Ok (To (codes "u") (order.Unset (Id (codes "a")) (codes "colour") 11))
unfolding is_utf8 chars encode
unset_order = refl

insert_order : line_of (codes "u insert p 2 img id=\"b\"") ≡ Ok (To (codes "u") (order.Insert (Id (codes "p")) 2 (codes "img id=\"b\"") 14))
insert_order = refl

late : line_of (codes "u media a 1x 2") ≡ Err refusal.NotACommand
late = refl

comment : line_of (codes "# u") ≡ Ok Blank
comment = refl

opened : line_of (codes "load u") ≡ Ok (Load (codes "u"))
opened = refl

written : Result Document Refusal → List ℕ
written (Ok document) = outline_text document.nodes
written (Err e) = []

canonical : written (outline_of (codes "par  id=\"p\" dur=\"9s\"" ∷ codes "  img begin=\"a.end ; 1s\" id=\"b\" repeatCount=\"2.50\"" ∷ [])) ≡ codes "par id=\"p\" dur=\"9000ms\"\n  img id=\"b\" begin=\"a.end;1000ms\" repeatCount=\"2.5\"\n"
unfolding is_utf8 chars encode digits written
canonical = refl

jump : outline_of (codes "par" ∷ codes "    img" ∷ []) ≡ Err refusal.DepthJump
unfolding is_utf8 chars encode
jump = refl

column : outline_of (codes "par" ∷ codes "  img dur=\"x\"" ∷ []) ≡ Err (refusal.BadValue 12)
unfolding is_utf8 chars encode
column = refl

mixed : outline_of (codes "excl" ∷ codes "  priorityClass" ∷ codes "    img" ∷ codes "  img" ∷ []) ≡ Err refusal.BadPlace
unfolding is_utf8 chars encode
mixed = refl

saved : Result Document Refusal → List ℕ
saved (Ok document) = saved_text document
saved (Err e) = []

numbered : saved (outline_of (codes "outline 2 next 4" ∷ codes "par #1" ∷ codes "  img #3 id=\"b\" dur=\"1s\"" ∷ codes "  img #2" ∷ [])) ≡ codes "outline 2 next 4\npar #1\n  img #3 id=\"b\" dur=\"1000ms\"\n  img #2\n"
unfolding is_utf8 chars encode digits saved
numbered = refl

past_the_header : outline_of (codes "outline 2 next 3" ∷ codes "par #1" ∷ codes "  img #3" ∷ []) ≡ Err refusal.BadSerial
unfolding is_utf8 chars encode
past_the_header = refl

given_twice : outline_of (codes "outline 2 next 3" ∷ codes "par #1" ∷ codes "    img #1" ∷ []) ≡ Err refusal.BadSerial
unfolding is_utf8 chars encode
given_twice = refl

kind_first : outline_of (codes "outline 2 next 3" ∷ codes "par #1" ∷ codes "  switch #1" ∷ []) ≡ Err (refusal.Unsupported 3)
unfolding is_utf8 chars encode
kind_first = refl

no_serial : outline_of (codes "outline 2 next 3" ∷ codes "par" ∷ []) ≡ Err refusal.BadOutline
unfolding is_utf8 chars encode
no_serial = refl

serial_of_version_1 : outline_of (codes "par #1" ∷ []) ≡ Err refusal.BadOutline
unfolding is_utf8 chars encode
serial_of_version_1 = refl

other_header : outline_of (codes "outline 2 next 04" ∷ codes "par #1" ∷ []) ≡ Err refusal.BadOutline
unfolding is_utf8 chars encode
other_header = refl

second_header : outline_of (codes "outline 2 next 4" ∷ codes "outline 2 next 4" ∷ []) ≡ Err refusal.BadOutline
unfolding is_utf8 chars encode
second_header = refl
