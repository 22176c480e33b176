-- Instants of the wall clock: `2008-12-01T13:00:10.5+01:00`, in milliseconds from the midnight that
-- began 1970 in UTC.
use Rattle.std.specs.Prelude.{ℕ, ◌+◌, ◌*◌, ℤ, pos, ◌+ℤ◌, ◌-ℤ◌, ◌*ℤ◌, Bool, true, false, ◌&&◌, ◌||◌, List, [], ◌∷◌, length, take, drop, Option, Some, None, is_some, Result, Ok, Err, nat_lt, nat_le, ◌==◌, if◌then◌else◌}
use Rattle.std.specs.List.{prefix_len}
use Rattle.std.specs.Option.{ok_or}
use Rattle.std.specs.Char.{is_ascii_digit}
use Rattle.jiff_core.specs.Calendar.{days_in_month, days_from_civil}
use Rattle.smil_grammar.specs.declared.units.TheConstants.{SECOND, MINUTE, HOUR, DAY, TENTH}
use Rattle.smil_grammar.specs.declared.fault.ItemFault.{ItemFault}
use Rattle.smil_grammar.specs.declared.fault.ItemFault.TheVariants.{Bad, Unsupported}
use Rattle.smil_grammar.specs.Texts.{◌>>=◌, cut_at, colon, point, minus}
use Rattle.smil_grammar.specs.Numbers.{number_of, sixty_of, with_fraction}
use Rattle.smil_grammar.specs.Clock.{milliseconds}
use Rattle.smil_grammar.specs.Items.{is_sign, with_sign}

-- `T`, between a date and a time
abbrev pub letter_t : ℕ
letter_t = 84

-- `Z`, for UTC
abbrev pub letter_z : ℕ
letter_z = 90

-- a number of so many digits
abbrev pub digits_of : ℕ → List ℕ → Option ℕ
digits_of count text = if length text == count then number_of text else None

-- whether the calendar has the day, in a year from 1 on
abbrev pub has_day : ℕ → ℕ → ℕ → Bool
has_day year month day =
    nat_lt 0 year && nat_lt 0 month && nat_le month 12 && nat_lt 0 day
    && nat_le day (days_in_month (pos year) month)

-- the number of a day that the calendar has, from 1 January 1970
abbrev pub day_of : ℕ → ℕ → ℕ → Option ℤ
day_of year month day =
    if has_day year month day then Some (days_from_civil (pos year) month day) else None

-- a year of four digits, a month and a day of two
abbrev pub date_in : List ℕ → List ℕ → List ℕ → Option ℤ
date_in year month day = do
  y ← digits_of 4 year
  m ← digits_of 2 month
  d ← digits_of 2 day
  day_of y m d

-- a date: these with `-` between them
abbrev pub date_of : List ℕ → Option ℤ
date_of text = do
  first ← cut_at minus text
  second ← cut_at minus first.1
  date_in first.0 second.0 second.1

-- a number below 24
abbrev pub below_24 : ℕ → Option ℕ
below_24 n = if nat_lt n 24 then Some n else None

-- hours, 00 to 23, and minutes, in milliseconds
abbrev pub hours_minutes : List ℕ → List ℕ → Option ℕ
hours_minutes hours minutes = do
  h ← digits_of 2 hours >>= below_24
  m ← sixty_of minutes
  Some (h * HOUR + m * MINUTE)

-- hours and minutes, and seconds with an optional fraction
abbrev pub with_seconds : List ℕ → List ℕ → List ℕ → Option ℕ
with_seconds hours minutes seconds = do
  front ← hours_minutes hours minutes
  s ← with_fraction sixty_of TENTH seconds
  Some (front + milliseconds SECOND s)

-- what stands behind the hours: minutes and seconds; a short time may leave the seconds out
abbrev pub behind_hours : Bool → List ℕ → List ℕ → Option (List ℕ × List ℕ) → Option ℕ
behind_hours short hours rest (Some cut) = with_seconds hours cut.0 cut.1
behind_hours true hours rest None = hours_minutes hours rest
behind_hours false hours rest None = None

-- a time of the day, short or with its seconds
abbrev pub time_of : Bool → List ℕ → Option ℕ
time_of short text = do
  cut ← cut_at colon text
  behind_hours short cut.0 cut.1 (cut_at colon cut.1)

-- how far the zone of a sign, hours and minutes is ahead of UTC
abbrev pub signed_zone : ℕ → List ℕ → Option ℤ
signed_zone sign text = do
  cut ← cut_at colon text
  n ← hours_minutes cut.0 cut.1
  Some (with_sign sign n)

-- how far a zone is ahead of UTC: `Z`, or a sign, hours and minutes;
-- a short time may leave it out, and UTC is meant
abbrev pub zone_of : Bool → List ℕ → Option ℤ
zone_of short [] = if short then Some (pos 0) else None
zone_of short (b ∷ text) =
    if b == letter_z then (if length text == 0 then Some (pos 0) else None)
    else (if is_sign b then signed_zone b text else None)

-- a byte of a time without its zone
abbrev pub is_of_time : ℕ → Bool
is_of_time b = is_ascii_digit b || (b == colon) || (b == point)

-- a time of the day and its zone: how long after midnight in UTC
abbrev pub zoned_time_of : Bool → List ℕ → Option ℤ
zoned_time_of short text = do
  time ← time_of short (take (prefix_len is_of_time text) text)
  zone ← zone_of short (drop (prefix_len is_of_time text) text)
  Some (pos time -ℤ zone)

-- the instant of a date and a time
abbrev pub dated : Bool → List ℕ → List ℕ → Option ℤ
dated short date time = do
  day ← date_of date
  ms ← zoned_time_of short time
  Some (day *ℤ pos DAY +ℤ ms)

-- an instant: a date, `T`, a time with seconds, and a zone
abbrev pub instant_of : List ℕ → Option ℤ
instant_of text = cut_at letter_t text >>= λ cut. dated false cut.0 cut.1

-- a date alone is its midnight; a time without a date is a form that is left out
abbrev pub midnight_or : List ℕ → Option ℤ → Result ℤ ItemFault
midnight_or text (Some day) = Ok (day *ℤ pos DAY)
midnight_or text None = if is_some (zoned_time_of true text) then Err Unsupported else Err Bad

-- where a `T` stands, a date and a time are its two sides
abbrev pub wall_clock_or : List ℕ → Option (List ℕ × List ℕ) → Result ℤ ItemFault
wall_clock_or text None = midnight_or text (date_of text)
wall_clock_or text (Some cut) = ok_or (dated true cut.0 cut.1) Bad

-- the instant that a wall clock item says: a date, or a date, `T` and a time, which may be short
abbrev pub wall_clock_of : List ℕ → Result ℤ ItemFault
wall_clock_of text = wall_clock_or text (cut_at letter_t text)
