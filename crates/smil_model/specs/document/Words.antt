-- The bytes of ids, of names, of access keys and of texts that are kept.
use Rattle.std.specs.Prelude.{◌≡◌, ℕ, List, [], ◌∷◌, length, take, Bool, false, not, ◌&&◌, ◌||◌, ◌==◌, nat_le, nat_lt, codes, bytes_eq}
use Rattle.std.specs.List.{list_all, list_any}
use Rattle.std.specs.Str.{is_utf8}
use Rattle.std.specs.Char.{is_ascii_digit}
use Rattle.std.specs.Int.{is_in_range}
use Rattle.smil_model.specs.declared.limits.TheConstants.{ID_BYTES, EVENT_BYTES, ATTRIBUTE_BYTES}

abbrev pub line_feed : ℕ
line_feed = 10

abbrev pub space : ℕ
space = 32

abbrev pub quote : ℕ
quote = 34

abbrev pub number_sign : ℕ
number_sign = 35

abbrev pub minus : ℕ
minus = 45

abbrev pub point : ℕ
point = 46

abbrev pub semicolon : ℕ
semicolon = 59

abbrev pub backslash : ℕ
backslash = 92

abbrev pub underscore : ℕ
underscore = 95

-- the first byte of an id or a name: a letter or `_`
abbrev pub is_initial : ℕ → Bool
is_initial b = is_in_range 65 90 b || is_in_range 97 122 b || (b == underscore)

-- a later byte of a name: a letter, a digit or `_`
abbrev pub is_of_name : ℕ → Bool
is_of_name b = is_initial b || is_ascii_digit b

-- the bytes of an id that a reference writes with a backslash
abbrev pub is_dash : ℕ → Bool
is_dash b = (b == minus) || (b == point)

-- a later byte of an id: one of a name, `-` or `.`
abbrev pub is_of_id : ℕ → Bool
is_of_id b = is_of_name b || is_dash b

-- a word: an initial, then bytes that pass
abbrev pub is_word : (ℕ → Bool) → List ℕ → Bool
is_word passes [] = false
is_word passes (b ∷ bytes) = is_initial b && list_all passes bytes

-- an id, of at most 64 bytes
abbrev pub is_id : List ℕ → Bool
is_id text = is_word is_of_id text && nat_le (length text) ID_BYTES

-- the words of begin and end lists that name no event
abbrev pub is_list_word : List ℕ → Bool
is_list_word text =
    list_any (bytes_eq text) (codes "begin" ∷ codes "end" ∷ codes "repeat" ∷ codes "indefinite"
    ∷ [])

-- the name of an event, of at most 64 bytes
abbrev pub is_event_name : List ℕ → Bool
is_event_name text =
    is_word is_of_name text && nat_le (length text) EVENT_BYTES && not (is_list_word text)

-- the events that begins, ends and repeats raise by themselves
abbrev pub is_raised_name : List ℕ → Bool
is_raised_name text =
    list_any (bytes_eq text) (codes "beginEvent" ∷ codes "endEvent" ∷ codes "repeatEvent" ∷ [])

-- an access key: a byte that is printed, other than `"`, `;` and `\`
abbrev pub is_key : ℕ → Bool
is_key b = is_in_range 33 126 b && not (b == quote) && not (b == semicolon) && not (b == backslash)

-- a later byte of the name of an attribute: one of a name or `-`
abbrev pub is_of_attribute : ℕ → Bool
is_of_attribute b = is_of_name b || (b == minus)

-- the name of an attribute that a set names, of at most 64 bytes
abbrev pub is_attribute_name : List ℕ → Bool
is_attribute_name text = is_word is_of_attribute text && nat_le (length text) ATTRIBUTE_BYTES

-- a byte of `src`, `region`, `alt`, `title` and `to`
abbrev pub is_kept : ℕ → Bool
is_kept b = not (nat_lt b 32) && not (b == 127) && not (b == quote)

-- a value of `src`, `region`, `alt`, `title` or `to`
abbrev pub is_kept_text : List ℕ → Bool
is_kept_text text = is_utf8 text && list_all is_kept text

-- where memory runs out, what was written before stays at the front of a text
abbrev pub Begins : List ℕ → List ℕ → Type 0
Begins front text = take (length front) text ≡ front
