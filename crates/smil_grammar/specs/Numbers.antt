-- Decimal numbers.
use Rattle.std.specs.Prelude.{ℕ, ◌+◌, ◌-◌, ◌*◌, ◌/◌, List, [], ◌∷◌, length, Option, Some, None, nat_lt, ◌==◌, if◌then◌else◌}
use Rattle.std.specs.Char.{is_ascii_digit}
use Rattle.smil_grammar.specs.Texts.{◌>>=◌, cut_at, point, zero_digit}

-- the number that digits write, going on from the number before them; none where a byte is no digit
abbrev pub number_after : ℕ → List ℕ → Option ℕ
number_after n [] = Some n
number_after n (b ∷ bytes) =
    if is_ascii_digit b then number_after (n * 10 + (b - zero_digit)) bytes else None

-- the number that one digit or more write
abbrev pub number_of : List ℕ → Option ℕ
number_of [] = None
number_of (b ∷ bytes) = number_after 0 (b ∷ bytes)

-- a number below 60
abbrev pub below_60 : ℕ → Option ℕ
below_60 n = if nat_lt n 60 then Some n else None

-- minutes and seconds have two digits, 00 to 59
abbrev pub sixty_of : List ℕ → Option ℕ
sixty_of text = if length text == 2 then number_of text >>= below_60 else None

-- what digits behind a point weigh: a one at the first place weighs so much,
-- and at each later place a tenth of what it weighs at the place before, rounded down
abbrev pub weight : ℕ → List ℕ → ℕ
weight first [] = 0
weight first (b ∷ bytes) = (b - zero_digit) * first + weight (first / 10) bytes

-- one digit or more behind a point
abbrev pub fraction_of : ℕ → List ℕ → Option ℕ
fraction_of first digits = do
  n ← number_of digits
  Some (weight first digits)

-- the number before the point and what is behind it, or the number alone
abbrev pub parts_of : (List ℕ → Option ℕ) → ℕ → List ℕ → Option (List ℕ × List ℕ)
    → Option (ℕ × ℕ)
parts_of whole first text None = do
  n ← whole text
  Some (n, 0)
parts_of whole first text (Some cut) = do
  n ← whole cut.0
  fraction ← fraction_of first cut.1
  Some (n, fraction)

-- a number with an optional fraction, its whole part read by whole
abbrev pub with_fraction : (List ℕ → Option ℕ) → ℕ → List ℕ → Option (ℕ × ℕ)
with_fraction whole first text = parts_of whole first text (cut_at point text)
