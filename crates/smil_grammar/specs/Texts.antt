-- Bytes, and how a text is cut.
use Rattle.std.specs.Prelude.{ℕ, ◌+◌, ◌-◌, Bool, ◌||◌, List, [], ◌∷◌, length, take, drop, Option, Some, None, option_map, position, ◌==◌, if◌then◌else◌}
use Rattle.std.specs.List.{prefix_len, suffix_len}
pub use Rattle.smil_model.specs.document.Words.{space, quote, minus, point, semicolon, backslash}

-- a step of a reading goes on with what the step before it read, and stops where that read nothing
infixl 10 ◌>>=◌
abbrev pub ◌>>=◌ : {A B : Type 0} → Option A → (A → Option B) → Option B
None >>= f = None
(Some x) >>= f = f x

-- bytes that the formats give a meaning: a tab
abbrev pub tab : ℕ
tab = 9

-- `(`
abbrev pub open_parenthesis : ℕ
open_parenthesis = 40

-- `)`
abbrev pub close_parenthesis : ℕ
close_parenthesis = 41

-- `+`
abbrev pub plus : ℕ
plus = 43

-- `0`
abbrev pub zero_digit : ℕ
zero_digit = 48

-- `:`
abbrev pub colon : ℕ
colon = 58

-- white space is space and tab
abbrev pub is_white : ℕ → Bool
is_white b = (b == space) || (b == tab)

-- what stands before the first such byte, and what stands behind it
abbrev pub cut_at : ℕ → List ℕ → Option (List ℕ × List ℕ)
cut_at b text = option_map (λ n. (take n text, drop (n + 1) text)) (position (λ c. c == b) text)

-- a text without the white space at its start
abbrev pub trim_front : List ℕ → List ℕ
trim_front text = drop (prefix_len is_white text) text

-- a text without the white space at its end
abbrev pub trim_back : List ℕ → List ℕ
trim_back text = take (length text - suffix_len is_white text) text

-- a text without the white space at both ends
abbrev pub trim : List ℕ → List ℕ
trim text = trim_back (trim_front text)

-- what stands behind a byte, where it stands first
abbrev pub behind : ℕ → List ℕ → Option (List ℕ)
behind wanted [] = None
behind wanted (b ∷ bytes) = if b == wanted then Some bytes else None
