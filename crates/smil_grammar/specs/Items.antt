-- Items of begin and end lists: `3s`, `-1s`, `a.begin`, `a\.b.end+2s`, `click`, `a.click`,
-- `a.repeat(2)`, `accesskey(x)` and `indefinite`. The name of the element of an item is None where
-- the item names none.
use Rattle.std.specs.Prelude.{◌≡◌, ℕ, ℤ, pos, neg_ℤ, Bool, true, false, not, ◌||◌, ◌&&◌, List, [], ◌∷◌, length, take, drop, Option, Some, None, option_map, Result, Ok, Err, nat_lt, ◌==◌, if◌then◌else◌, codes, bytes_eq}
use Rattle.std.specs.List.{starts_with}
use Rattle.std.specs.Bool.{nat_eq}
use Rattle.std.specs.Option.{ok_or}
use Rattle.std.specs.Char.{is_ascii_digit}
use Rattle.smil_model.specs.declared.document.Item.{Item}
use Rattle.smil_model.specs.declared.document.Item.TheVariants.{Offset, Sync, Event, Repeat, Key, Indefinite}
use Rattle.smil_model.specs.declared.document.Edge.{Edge}
use Rattle.smil_model.specs.declared.document.Edge.TheVariants.{Begin, End}
use Rattle.smil_grammar.specs.declared.fault.ItemFault.{ItemFault}
use Rattle.smil_grammar.specs.declared.fault.ItemFault.TheVariants.{Bad, Unsupported, Memory}
use Rattle.smil_grammar.specs.declared.words.TheConstants.{ACCESS_KEY}
use Rattle.smil_grammar.specs.Texts.{◌>>=◌, cut_at, trim_front, behind, open_parenthesis, close_parenthesis, plus, minus, point, zero_digit}
use Rattle.smil_grammar.specs.Words.{id_len, name_len, unescaped}
use Rattle.smil_grammar.specs.Numbers.{number_of}
pub use Rattle.smil_grammar.specs.Clock.{within, clock_within}
use Rattle.smil_model.specs.document.Words.{is_key}
use Rattle.smil_model.specs.declared.limits.TheConstants.{DIGITS}

-- a sign is `+` or `-`
abbrev pub is_sign : ℕ → Bool
is_sign b = (b == plus) || (b == minus)

-- a number behind its sign
abbrev pub with_sign : ℕ → ℕ → ℤ
with_sign sign n = if sign == minus then neg_ℤ (pos n) else pos n

-- a sign and a clock value, between which white space may stand
abbrev pub signed_of : List ℕ → Option ℤ
signed_of [] = None
signed_of (b ∷ bytes) =
    if is_sign b then option_map (with_sign b) (clock_within (trim_front bytes)) else None

-- an offset: a clock value with an optional sign before it
abbrev pub offset_of : List ℕ → Option ℤ
offset_of [] = None
offset_of (b ∷ bytes) =
    if is_sign b then signed_of (b ∷ bytes) else option_map pos (clock_within (b ∷ bytes))

-- a tail: nothing, or a sign and a clock value behind a word; white space may stand before each
abbrev pub tail_of : List ℕ → Option ℤ
tail_of [] = Some (pos 0)
tail_of (b ∷ bytes) = signed_of (trim_front (b ∷ bytes))

-- an item and its tail
abbrev pub with_tail : (ℤ → Item) → List ℕ → Option Item
with_tail item tail = option_map item (tail_of tail)

-- a count has a digit, at most so many, and no zero at its start
abbrev pub is_count : List ℕ → Bool
is_count [] = false
is_count (b ∷ bytes) = not (b == zero_digit) && nat_lt (length bytes) DIGITS

-- the number of a count
abbrev pub count_of : List ℕ → Option ℕ
count_of digits = if is_count digits then number_of digits else None

-- what stands behind `repeat`: a count in parentheses, and a tail
abbrev pub repeat_of : Option (List ℕ) → List ℕ → Option Item
repeat_of who text = do
  inner ← behind open_parenthesis text
  cut ← cut_at close_parenthesis inner
  n ← count_of cut.0
  with_tail (Repeat who n) cut.1

-- `begin` and `end` are those of a named element
abbrev pub sync_of : Option (List ℕ) → Edge → List ℕ → Option Item
sync_of who edge tail = do
  id ← who
  with_tail (Sync id edge) tail

-- a word, which is the name of an event where it is no other, and what stands behind it
abbrev pub word_of : Option (List ℕ) → List ℕ → List ℕ → Option Item
word_of who word tail =
    if length word == 0 then None
    else (if bytes_eq word (codes "begin") then sync_of who Begin tail
    else (if bytes_eq word (codes "end") then sync_of who End tail
    else (if bytes_eq word (codes "repeat") then repeat_of who tail
    else (if bytes_eq word (codes "indefinite") then None
    else with_tail (Event who word) tail))))

-- the longest name at the front is the word
abbrev pub what_of : Option (List ℕ) → List ℕ → Option Item
what_of who text = word_of who (take (name_len text) text) (drop (name_len text) text)

-- an item of an element that a reference names: media markers are left out
abbrev pub of_element : List ℕ → List ℕ → Result Item ItemFault
of_element who text =
    if starts_with nat_eq text (codes "marker(") then Err Unsupported
    else ok_or (what_of (Some who) text) Bad

-- where a point stands behind the longest id at the front, the id names the element
abbrev pub subject_of : List ℕ → Option (List ℕ) → Result Item ItemFault
subject_of text None = ok_or (what_of None text) Bad
subject_of text (Some rest) = of_element (unescaped (take (id_len true text) text)) rest

-- forms of SMIL that are left out, whatever stands behind these words
abbrev pub is_left_out : List ℕ → Bool
is_left_out text =
    starts_with nat_eq text (codes "wallclock(") || starts_with nat_eq text (codes "id(")

-- an access key, in two spellings
abbrev pub is_keyed : List ℕ → Bool
is_keyed text =
    starts_with nat_eq text ACCESS_KEY.now || starts_with nat_eq text (codes "accessKey(")

-- what stands behind these words: the key, a parenthesis, and a tail
abbrev pub key_of : List ℕ → Option Item
key_of [] = None
key_of (b ∷ text) = if is_key b then (behind close_parenthesis text >>= with_tail (Key b)) else None

-- an item that begins with neither a digit nor a sign
abbrev pub named_of : List ℕ → Result Item ItemFault
named_of text =
    if is_left_out text then Err Unsupported
    else (if is_keyed text then ok_or (key_of (drop (length ACCESS_KEY.now) text)) Bad
    else (if bytes_eq text (codes "indefinite") then Ok Indefinite
    else (if id_len true text == 0 then Err Bad
    else subject_of text (behind point (drop (id_len true text) text)))))

-- an item without white space at its ends; offsets begin with a digit or a sign
abbrev pub item_of : List ℕ → Result Item ItemFault
item_of [] = Err Bad
item_of (b ∷ bytes) =
    if is_ascii_digit b || is_sign b then ok_or (option_map Offset (offset_of (b ∷ bytes))) Bad
    else named_of (b ∷ bytes)

-- an item that some text is read as
abbrev pub IsItem : Item → Type 0
IsItem item = (text : List ℕ) × (item_of text ≡ Ok item)

-- what a call gave is the reading, unless memory ran out
abbrev pub GivesItem : Result Item ItemFault → Result Item ItemFault → Type 0
GivesItem (Ok x) reading = reading ≡ Ok x
GivesItem (Err Memory) reading = Unit {0}
GivesItem (Err Bad) reading = reading ≡ Err Bad
GivesItem (Err Unsupported) reading = reading ≡ Err Unsupported
