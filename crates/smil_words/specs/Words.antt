-- What the words that the program is called with ask for.
use Rattle.std.specs.Prelude.{ℕ, List, [], ◌∷◌, length, Option, Some, None, nat_le, ◌&&◌, ◌==◌, codes, bytes_eq, if◌then◌else◌}
use Rattle.smil_grammar.specs.Numbers.{number_of}
use Rattle.smil_grammar.specs.Texts.{◌>>=◌, zero_digit}
use Rattle.smil_words.specs.declared.mode.Mode.{Mode}
use Rattle.smil_words.specs.declared.mode.Mode.TheVariants.{Run, Check, Gen, Audit}
use Rattle.smil_words.specs.declared.mode.TheConstants.{SESSIONS, SESSION_DIGITS}

-- a number of a session
abbrev pub in_range : ℕ → Option ℕ
in_range n = if nat_le 1 n && nat_le n SESSIONS then Some n else None

-- one to so many digits, the first not 0
abbrev pub session_number : List ℕ → Option ℕ
session_number [] = None
session_number (b ∷ bytes) =
    if b == zero_digit then None else (if nat_le (length (b ∷ bytes)) SESSION_DIGITS
    then number_of (b ∷ bytes) >>= in_range else None)

-- `run`, `check` or `audit`
abbrev pub of_one : List ℕ → Option Mode
of_one word = if bytes_eq word (codes "run") then Some Run
    else (if bytes_eq word (codes "check") then Some Check
    else (if bytes_eq word (codes "audit") then Some Audit else None))

-- `gen` and a number
abbrev pub of_two : List ℕ → List ℕ → Option Mode
of_two word digits =
    if bytes_eq word (codes "gen") then session_number digits >>= (λ n. Some (Gen n)) else None

-- what the words ask for
abbrev pub mode_of : List (List ℕ) → Option Mode
mode_of (word ∷ []) = of_one word
mode_of (word ∷ digits ∷ []) = of_two word digits
mode_of _ = None
