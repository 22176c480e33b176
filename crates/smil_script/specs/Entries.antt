-- The lines behind the outline of a diary, as they are read: what the order `diary` writes, and no
-- other.
use Rattle.std.specs.Prelude.{ℕ, ℤ, pos, neg_ℤ, ◌≡◌, Bool, true, false, ◌||◌, List, ◌∷◌, length, Option, None, Some, option_map, Result, Ok, Err, nat_lt, codes, bytes_eq, ◌==◌, if◌then◌else◌}
use Rattle.std.specs.Option.{ok_or}
use Rattle.smil_model.specs.declared.diary.Step.{Step}
use Rattle.smil_model.specs.declared.diary.Step.TheVariants as step
use Rattle.smil_model.specs.declared.diary.Happening.{Happening}
use Rattle.smil_model.specs.declared.diary.Happening.TheVariants as happening
use Rattle.smil_model.specs.declared.order.Refusal.{Refusal}
use Rattle.smil_model.specs.declared.order.Refusal.TheVariants.{NotACommand}
use Rattle.smil_model.specs.document.Words.{minus, number_sign, space}
use Rattle.smil_model.specs.document.Values.{is_clock}
use Rattle.smil_model.specs.diary.Logs.{may_happen}
use Rattle.smil_grammar.specs.Texts.{◌>>=◌, behind, cut_at, zero_digit}
use Rattle.smil_grammar.specs.Items.{count_of}
use Rattle.smil_grammar.specs.Numbers.{number_of}
use Rattle.smil_grammar.specs.Scripts.{event_of, key_in}
use Rattle.smil_grammar.specs.Values.{above_zero}
use Rattle.smil_script.specs.declared.entries.DiaryLine.{DiaryLine}
use Rattle.smil_script.specs.declared.entries.DiaryLine.TheVariants.{Happened, Heard, Now}
use Rattle.smil_script.specs.declared.entries.TheConstants.{VALUE_DIGITS}

-- a zero with a digit behind it
abbrev pub is_padded : List ℕ → Bool
is_padded (b ∷ c ∷ bytes) = b == zero_digit
is_padded _ = false

-- the number that at most so many digits write, without a leading zero
abbrev pub plain_of : List ℕ → Option ℕ
plain_of digits =
    if is_padded digits || nat_lt VALUE_DIGITS (length digits) then None else number_of digits

-- a number with `-` before it where it is negative
abbrev pub value_or : List ℕ → Option (List ℕ) → Option ℤ
value_or text None = option_map pos (plain_of text)
value_or text (Some digits) = option_map (λ n. neg_ℤ (pos n)) (plain_of digits >>= above_zero)

-- a value on an element's clock, in milliseconds
abbrev pub value_of : List ℕ → Option ℤ
value_of text = value_or text (behind minus text)

-- a number from 0 to the horizon
abbrev pub in_clock : ℤ → Option ℤ
in_clock v = if is_clock v then Some v else None

-- a moment or a length, in milliseconds
abbrev pub moment_of : List ℕ → Option ℤ
moment_of text = option_map pos (plain_of text) >>= in_clock

-- an element by its serial, behind `#`
abbrev pub serial_of : List ℕ → Option ℕ
serial_of text = behind number_sign text >>= count_of

-- an element with its value on its clock
abbrev pub valued_of : List ℕ → Option (ℕ × ℤ)
valued_of rest =
    cut_at space rest >>= λ cut. serial_of cut.0 >>= λ who.
    option_map (λ value. (who, value)) (value_of cut.1)

-- what happened to an element at its value
abbrev pub valued : (ℕ → ℤ → Step) → List ℕ → Option Step
valued made rest = option_map (λ (v : ℕ × ℤ). made v.0 v.1) (valued_of rest)

-- an event on an element
abbrev pub named : List ℕ → Option Happening
named rest =
    cut_at space rest >>= λ cut. serial_of cut.0 >>= λ who.
    option_map (happening.Event who) (event_of cut.1)

-- the length of an element's media
abbrev pub measured : List ℕ → Option Happening
measured rest =
    cut_at space rest >>= λ cut. serial_of cut.0 >>= λ who.
    option_map (happening.Media who) (moment_of cut.1)

-- what happened to an element, by its word
abbrev pub step_of : List ℕ → List ℕ → Option Step
step_of word rest =
    if bytes_eq word (codes "began") then valued step.Began rest
    else (if bytes_eq word (codes "repeated") then valued step.Repeated rest
    else (if bytes_eq word (codes "ended") then valued step.Ended rest
    else (if bytes_eq word (codes "cut") then option_map step.Cut (serial_of rest)
    else (if bytes_eq word (codes "paused") then option_map step.Paused (serial_of rest)
    else (if bytes_eq word (codes "resumed") then option_map step.Resumed (serial_of rest)
    else (if bytes_eq word (codes "deferred") then valued step.Deferred rest
    else (if bytes_eq word (codes "passed") then valued step.Passed rest
    else None)))))))

-- what came from outside, by its word
abbrev pub happening_of : List ℕ → List ℕ → Option Happening
happening_of word rest =
    if bytes_eq word (codes "event") then named rest
    else (if bytes_eq word (codes "media") then measured rest
    else (if bytes_eq word (codes "key") then option_map happening.Key (key_in rest)
    else None))

-- the line of an entry
abbrev pub happened : ℤ → Step → DiaryLine
happened moment step = Happened (record { moment = moment; step = step })

-- the line of what came from outside
abbrev pub heard : ℤ → Happening → DiaryLine
heard moment what = Heard (record { moment = moment; what = what })

-- the same, where it has a reading
abbrev pub with_heard : ℤ → Result Happening Refusal → Result DiaryLine Refusal
with_heard moment (Ok what) = Ok (heard moment what)
with_heard moment (Err refusal) = Err refusal

-- a step, or else what came from outside
abbrev pub entry_or : ℤ → List ℕ → List ℕ → Option Step → Result DiaryLine Refusal
entry_or moment word rest (Some step) = Ok (happened moment step)
entry_or moment word rest None =
    with_heard moment (ok_or (happening_of word rest) NotACommand)

-- an entry behind its moment
abbrev pub entry_of : ℤ → List ℕ → List ℕ → Result DiaryLine Refusal
entry_of moment word rest = entry_or moment word rest (step_of word rest)

-- a moment, and behind it a word and what belongs to it
abbrev pub timed : Option ℤ → Option (List ℕ × List ℕ) → Result DiaryLine Refusal
timed (Some moment) (Some cut) = entry_of moment cut.0 cut.1
timed _ _ = Err NotACommand

-- an entry, as a log and a diary may have it
abbrev pub IsRecorded : DiaryLine → Type 0
IsRecorded (Happened entry) = is_clock entry.moment ≡ true
IsRecorded (Heard entry) = (is_clock entry.moment ≡ true) × (may_happen entry.what ≡ true)
IsRecorded (Now moment) = is_clock moment ≡ true

-- `now` and the present moment, or a moment and an entry
abbrev pub line_by : Option (List ℕ × List ℕ) → Result DiaryLine Refusal
line_by None = Err NotACommand
line_by (Some cut) =
    if bytes_eq cut.0 (codes "now") then ok_or (option_map Now (moment_of cut.1)) NotACommand
    else timed (moment_of cut.0) (cut_at space cut.1)

-- what a line behind the outline of a diary says, or that it has no reading
abbrev pub diary_line_of : List ℕ → Result DiaryLine Refusal
diary_line_of line = line_by (cut_at space line)
