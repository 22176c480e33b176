-- Clock values: `02:30:03.5`, `02:33`, `3.2h`, `45min`, `30s`, `5ms` and `12.467`, in milliseconds.
use Rattle.std.specs.Prelude.{ℕ, ◌+◌, ◌*◌, ◌/◌, ℤ, pos, nat_abs, ◌||◌, List, ◌++◌, take, drop, Option, Some, None, Result, Ok, Err, Bool, nat_lt, ◌==◌, if◌then◌else◌, codes, decimal, bytes_eq}
use Rattle.std.specs.List.{prefix_len}
use Rattle.std.specs.Char.{is_ascii_digit}
use Rattle.smil_model.specs.declared.times.TheConstants.{HORIZON}
use Rattle.smil_grammar.specs.declared.units.TheConstants.{SECOND, MINUTE, HOUR, BILLION, TENTH}
use Rattle.smil_grammar.specs.Texts.{◌>>=◌, cut_at, point, colon}
use Rattle.smil_grammar.specs.Numbers.{number_of, sixty_of, with_fraction}
use Rattle.smil_grammar.specs.declared.fault.ClockFault.{ClockFault}
use Rattle.smil_grammar.specs.declared.fault.ClockFault.TheVariants.{Bad, TooLong}

-- a number with its billionths, of a unit of so many milliseconds,
-- rounded down to whole milliseconds
abbrev pub milliseconds : ℕ → ℕ × ℕ → ℕ
milliseconds unit n = n.0 * unit + n.1 * unit / BILLION

-- a full clock value: hours of one digit or more, minutes, and seconds with an optional fraction
abbrev pub full : List ℕ → List ℕ → List ℕ → Option ℕ
full hours minutes seconds = do
  h ← number_of hours
  m ← sixty_of minutes
  s ← with_fraction sixty_of TENTH seconds
  Some (h * HOUR + m * MINUTE + milliseconds SECOND s)

-- a partial clock value: minutes, and seconds with an optional fraction
abbrev pub partial : List ℕ → List ℕ → Option ℕ
partial minutes seconds = do
  m ← sixty_of minutes
  s ← with_fraction sixty_of TENTH seconds
  Some (m * MINUTE + milliseconds SECOND s)

-- how many milliseconds a metric has; seconds where it is left out
abbrev pub unit_of : List ℕ → Option ℕ
unit_of metric =
    if bytes_eq metric (codes "") then Some SECOND
    else (if bytes_eq metric (codes "h") then Some HOUR
    else (if bytes_eq metric (codes "min") then Some MINUTE
    else (if bytes_eq metric (codes "s") then Some SECOND
    else (if bytes_eq metric (codes "ms") then Some 1 else None))))

-- a byte of a number with a fraction
abbrev pub is_of_number : ℕ → Bool
is_of_number b = is_ascii_digit b || (b == point)

-- a time count: a number with an optional fraction, and an optional metric
abbrev pub time_count : List ℕ → Option ℕ
time_count text = do
  unit ← unit_of (drop (prefix_len is_of_number text) text)
  n ← with_fraction number_of TENTH (take (prefix_len is_of_number text) text)
  Some (milliseconds unit n)

-- a second colon makes a full clock value, none a partial one
abbrev pub after_colon : List ℕ → List ℕ → Option (List ℕ × List ℕ) → Option ℕ
after_colon first rest None = partial first rest
after_colon first rest (Some cut) = full first cut.0 cut.1

-- a text without a colon is a time count
abbrev pub colon_or_count : List ℕ → Option (List ℕ × List ℕ) → Option ℕ
colon_or_count text None = time_count text
colon_or_count text (Some cut) = after_colon cut.0 cut.1 (cut_at colon cut.1)

-- the milliseconds of a clock value; none where the text is outside the grammar
abbrev pub clock_of : List ℕ → Option ℕ
clock_of text = colon_or_count text (cut_at colon text)

-- what reading gives: values go up to the horizon
abbrev pub clock_answer : Option ℕ → Result ℤ ClockFault
clock_answer None = Err Bad
clock_answer (Some n) = if nat_lt (nat_abs HORIZON) n then Err TooLong else Ok (pos n)

-- a number that isn't above the horizon
abbrev pub within : ℕ → Option ℕ
within n = if nat_lt (nat_abs HORIZON) n then None else Some n

-- a clock value inside other values and orders: one above the horizon is as one outside the grammar
abbrev pub clock_within : List ℕ → Option ℕ
clock_within text = clock_of text >>= within

-- the printed spelling: the decimal number of milliseconds and `ms`
abbrev pub clock_text : ℕ → List ℕ
clock_text n = decimal n ++ codes "ms"
