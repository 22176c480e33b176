-- Ids and names at the front of a text: `slide_1`, `a.b-c`, and in a reference `a\.b\-c`.
use Rattle.std.specs.Prelude.{ℕ, ◌+◌, Bool, true, false, not, List, [], ◌∷◌, take, filter, count_by, nat_lt, ◌==◌, if◌then◌else◌}
use Rattle.std.specs.List.{prefix_len}
use Rattle.smil_model.specs.declared.limits.TheConstants.{ID_BYTES, EVENT_BYTES}
pub use Rattle.smil_model.specs.document.Words.{underscore, is_initial, is_of_name, is_dash, is_of_id}
use Rattle.smil_grammar.specs.Texts.{backslash}

-- how many bytes the longest word has that begins with an initial and goes on with bytes that pass
abbrev pub word_len : (ℕ → Bool) → List ℕ → ℕ
word_len passes [] = 0
word_len passes (b ∷ bytes) = if is_initial b then 1 + prefix_len passes bytes else 0

-- how many bytes go on an id in a reference, where each `.` and `-` has a backslash before it and
-- no other byte has one; the first argument says whether a backslash stands before these bytes
abbrev pub escaped_len : Bool → List ℕ → ℕ
escaped_len true [] = 0
escaped_len false [] = 0
escaped_len true (b ∷ bytes) = let n = escaped_len false bytes in if is_dash b then 2 + n else 0
escaped_len false (b ∷ bytes) =
    let n = escaped_len (b == backslash) bytes in
    if is_of_name b then 1 + n else (if b == backslash then n else 0)

-- how many bytes the longest id in a reference has
abbrev pub reference_len : List ℕ → ℕ
reference_len [] = 0
reference_len (b ∷ bytes) = if is_initial b then 1 + escaped_len false bytes else 0

-- a word without its backslashes
abbrev pub unescaped : List ℕ → List ℕ
unescaped text = filter (λ b. not (b == backslash)) text

-- ids and names have at most so many bytes: a longer one is none
abbrev pub short_len : ℕ → ℕ → ℕ → ℕ
short_len most own n = if nat_lt most own then 0 else n

-- how many bytes the longest name at the front has, 0 where none stands there
abbrev pub name_len : List ℕ → ℕ
name_len text = short_len EVENT_BYTES (word_len is_of_name text) (word_len is_of_name text)

-- how many bytes the longest id at the front has, written plainly or as in a reference,
-- whose backslashes don't count for its own length
abbrev pub id_len : Bool → List ℕ → ℕ
id_len true text =
    short_len ID_BYTES (count_by (λ b. not (b == backslash)) (take (reference_len text) text))
    (reference_len text)
id_len false text = short_len ID_BYTES (word_len is_of_id text) (word_len is_of_id text)
