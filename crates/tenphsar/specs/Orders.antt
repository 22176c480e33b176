-- Orders that are given by calls: which order the arguments make, and what its call answers.
use Rattle.std.specs.Prelude.{◌≡◌, ◌⊎◌, ℕ, ℤ, pos, negsuc, List, true, false, Option, None, Some, option_map, Result, Ok, Err, if◌then◌else◌}
use Rattle.smil_model.specs.declared.order.Order.{Order}
use Rattle.smil_model.specs.declared.order.Order.TheVariants as order
use Rattle.smil_model.specs.declared.order.Refusal.TheVariants.{Memory}
use Rattle.smil_model.specs.declared.order.Who.TheVariants.{Serial}
use Rattle.smil_model.specs.document.Values.{is_clock}
use Rattle.smil_model.specs.document.Words.{is_key}
use Rattle.smil_model.specs.shown.Answers.{IsGiven}
use Rattle.smil_model.specs.shown.Lines.{refusal_number}
use Rattle.smil_grammar.specs.Scripts.{event_of}
use Rattle.smil_report.specs.Tellings.{is_telling}
use Rattle.smil_top.specs.declared.held.CallRefusal.{CallRefusal}
use Rattle.smil_top.specs.declared.held.CallRefusal.TheVariants.{OpenLoad, Refused, TooManyCalls}
use Rattle.smil_top.specs.declared.held.Held.{Held}
use Rattle.smil_top.specs.Cut.{CutLines}
use Rattle.smil_top.specs.Held.{IsHeld}
use Rattle.smil_top.specs.Recorded.{CarriesOut, HasPresentations, IsLikeLine, Says, SaysWhetherTaken}
use Rattle.smil_top.specs.Session.{Session}
use Rattle.smil_top.specs.Transcript.{TranscriptState}
use Rattle.tenphsar.specs.Edits.{is_attribute_word}
use Rattle.tenphsar.specs.declared.orders.NoOrder.{NoOrder}
use Rattle.tenphsar.specs.declared.orders.NoOrder.TheVariants as no

-- ---- the order; none where no line could say it

abbrev pub where_clock : ℤ → Order → Option Order
where_clock value given = if is_clock value then Some given else None

abbrev pub advance_of : ℤ → Option Order
advance_of by = where_clock by (order.Advance by)

abbrev pub seek_of : ℤ → Option Order
seek_of to = where_clock to (order.Seek to)

abbrev pub event_by : ℕ → List ℕ → Option Order
event_by element name = option_map (λ n. order.Event (Serial element) n) (event_of name)

abbrev pub media_of : ℕ → ℤ → Option Order
media_of element length = where_clock length (order.Media (Serial element) length)

abbrev pub key_of : ℕ → Option Order
key_of key = if is_key key then Some (order.Key key) else None

-- an order that was made may be given by a call
abbrev pub IsFit : Result Order NoOrder → Type 0
IsFit (Ok made) = IsGiven made × (is_telling made ≡ false)
IsFit (Err e) = Unit {0}

-- what was made of the arguments is that order; or there is none, or memory ran out
abbrev pub MakesOrder : Result Order NoOrder → Option Order → Type 0
MakesOrder (Ok made) wanted = wanted ≡ Some made
MakesOrder (Err no.BadArgument) wanted = wanted ≡ None
MakesOrder (Err no.Memory) wanted = Unit {0}

-- a text was copied, or memory ran out
abbrev pub GivesText : Result (List ℕ) NoOrder → List ℕ → Type 0
GivesText (Ok bytes) text = bytes ≡ text
GivesText (Err no.Memory) text = Unit {0}
GivesText (Err no.BadArgument) text = ⊥

-- the same of a text that is to be an attribute's name
abbrev pub GivesWord : Result (List ℕ) NoOrder → List ℕ → Type 0
GivesWord (Ok bytes) text = (bytes ≡ text) × (is_attribute_word text ≡ true)
GivesWord (Err no.Memory) text = Unit {0}
GivesWord (Err no.BadArgument) text = is_attribute_word text ≡ false

-- ---- what its call answers

-- the number of the refusal, or a number below 0 where nothing was taken in
abbrev pub refused_code : CallRefusal → ℤ
refused_code (Refused refusal) = pos (refusal_number refusal)
refused_code TooManyCalls = negsuc 1
refused_code OpenLoad = negsuc 3

-- 0, or why not
abbrev pub code_given : {A : Type 0} → Result A CallRefusal → ℤ
code_given (Ok given) = pos 0
code_given (Err refusal) = refused_code refusal

-- the order was given to the presentation of this name
pub record IsAnswered (code : ℤ) (name : List ℕ) (given : Order) (before after : Held)
    : Type 0 where
  pub answered : Result ℤ CallRefusal
  pub code_is : code ≡ code_given answered
  pub carried : (session : Session) → HasPresentations before session
      → CarriesOut answered before after session name given
  pub like : (cut : CutLines) (told : TranscriptState) (line : List ℕ) → IsHeld before cut told
      → Says line name given → IsLikeLine answered before after cut told line
  pub taken : SaysWhetherTaken answered before after

-- nothing was taken in, since memory ran out before
abbrev pub RunsOut : ℤ → Held → Held → Type 0
RunsOut code before after = (code ≡ pos (refusal_number Memory)) × (after ≡ before)

-- the order was given, or there is none that a line could say; unless memory ran out before
abbrev pub Calls : ℤ → List ℕ → Option Order → Held → Held → Type 0
Calls code name None before after =
    ((code ≡ negsuc 2) × (after ≡ before)) ⊎ RunsOut code before after
Calls code name (Some given) before after =
    IsAnswered code name given before after ⊎ RunsOut code before after
