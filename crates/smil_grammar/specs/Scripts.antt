-- Script lines.
use Rattle.std.specs.Prelude.{ℕ, ◌+◌, ℤ, pos, Bool, false, not, ◌&&◌, ◌||◌, List, [], ◌∷◌, length, take, drop, Option, Some, None, option_map, Result, Ok, Err, nat_lt, ◌==◌, if◌then◌else◌, codes, bytes_eq, is_some}
use Rattle.std.specs.List.{prefix_len, list_all, list_any}
use Rattle.std.specs.Str.{is_utf8}
use Rattle.smil_model.specs.declared.order.Order.{Order}
use Rattle.smil_model.specs.declared.order.Order.TheVariants as order
use Rattle.smil_model.specs.declared.order.Who.{Who}
use Rattle.smil_model.specs.declared.order.Who.TheVariants.{Id, Serial}
use Rattle.smil_model.specs.declared.order.Refusal.{Refusal}
use Rattle.smil_model.specs.declared.order.Refusal.TheVariants.{NotACommand, BadValue}
use Rattle.smil_model.specs.declared.limits.TheConstants.{NAME_BYTES}
use Rattle.smil_model.specs.document.Words.{underscore, number_sign, is_key, is_of_attribute}
use Rattle.smil_grammar.specs.declared.read.Read.{Read}
use Rattle.smil_grammar.specs.declared.read.Read.TheVariants.{Blank, Load, LoadAt, Prefer, Close, To}
use Rattle.smil_grammar.specs.Texts.{◌>>=◌, is_white, cut_at, behind, quote}
use Rattle.smil_grammar.specs.Positions.{Piece}
use Rattle.smil_grammar.specs.Words.{word_len, name_len}
use Rattle.smil_grammar.specs.Clock.{clock_within}
use Rattle.smil_grammar.specs.Instants.{instant_of}
use Rattle.smil_grammar.specs.Items.{count_of}
use Rattle.smil_grammar.specs.Values.{id_of, short_number_of}
use Rattle.smil_grammar.specs.Nodes.{is_space, is_no_space}

-- the line from its next word on, and its place
abbrev pub skipped : Piece → Piece
skipped line = record {
  text = drop (prefix_len is_space line.text) line.text;
  place = line.place + prefix_len is_space line.text;
}

-- the first word of a line, and what stands behind it
abbrev pub first_of : Piece → Piece × Piece
first_of line =
    let from : Piece = skipped line in
    let n : ℕ = prefix_len is_no_space from.text in (
      record { text = take n from.text; place = from.place },
      record {
        text = drop n from.text;
        place = from.place + n;
      },
    )

-- nothing but spaces
abbrev pub is_ended : Piece → Bool
is_ended line = list_all is_space line.text

-- a presentation's name: a letter, then letters, digits, `_` and `-`, at most so many bytes,
-- and neither `load` nor `close`
abbrev pub is_presentation_name : List ℕ → Bool
is_presentation_name [] = false
is_presentation_name (b ∷ bytes) =
    not (b == underscore) && (word_len is_of_attribute (b ∷ bytes) == length (b ∷ bytes))
    && nat_lt (length bytes) NAME_BYTES
    && not (list_any (bytes_eq (b ∷ bytes)) (codes "load" ∷ codes "close" ∷ []))

-- a serial behind `#`, or an id
abbrev pub who_or : List ℕ → Option (List ℕ) → Option Who
who_or text None = option_map Id (id_of text)
who_or text (Some digits) = option_map Serial (count_of digits)

-- the element that a word names
abbrev pub who_of : List ℕ → Option Who
who_of text = who_or text (behind number_sign text)

-- the name of an event that comes from outside: none of those that the engine raises itself
abbrev pub event_of : List ℕ → Option (List ℕ)
event_of text =
    if not (length text == 0) && (name_len text == length text)
    && not (list_any (bytes_eq text)
    (codes "begin" ∷ codes "end" ∷ codes "repeat" ∷ codes "indefinite" ∷ codes "beginEvent"
    ∷ codes "endEvent" ∷ codes "repeatEvent" ∷ []))
    then Some text else None

-- A reading gives an order, and a clock value that is its last word is looked at after all else.
pub data OrderReading : Type 0 where
  given : Order → OrderReading
  timed : Piece → (ℤ → Order) → OrderReading

-- a clock value that has no reading is at fault at its first byte
abbrev pub end_timed : Piece → (ℤ → Order) → Option ℤ → Result Order Refusal
end_timed word order (Some n) = Ok (order n)
end_timed word order None = Err (BadValue (word.place + 1))

-- the order of a reading
abbrev pub finish : Option OrderReading → Result Order Refusal
finish None = Err NotACommand
finish (Some (given order)) = Ok order
finish (Some (timed word order)) = end_timed word order (option_map pos (clock_within word.text))

-- only where the line ends here
abbrev pub at_end : {A : Type 0} → Piece → A → Option A
at_end rest x = if is_ended rest then Some x else None

-- one word, the clock value, to the end
abbrev pub with_clock : (ℤ → Order) → Piece → Option OrderReading
with_clock order line =
    let cut : Piece × Piece = first_of line in
    if length cut.0.text == 0 then None else at_end cut.1 (timed cut.0 order)

-- a word that names an element, and what goes on behind it
abbrev pub with_who : (Who → Piece → Option OrderReading) → Piece → Option OrderReading
with_who goes_on line =
    let cut : Piece × Piece = first_of line in
    who_of cut.0.text >>= λ who. goes_on who cut.1

-- `event`: the event's name
abbrev pub event_line : Who → Piece → Option OrderReading
event_line who line =
    let cut : Piece × Piece = first_of line in
    event_of cut.0.text >>= λ name. at_end cut.1 (given (order.Event who name))

-- an attribute's name: any word without a quote
abbrev pub attribute_word_of : List ℕ → Option (List ℕ)
attribute_word_of text =
    if not (length text == 0) && is_utf8 text && not (list_any (λ b. b == quote) text)
    then Some text
    else None

-- `unset`: the attribute's name
abbrev pub unset_line : Who → Piece → Option OrderReading
unset_line who line =
    let cut : Piece × Piece = first_of line in
    attribute_word_of cut.0.text
    >>= λ name. at_end cut.1 (given (order.Unset who name (cut.0.place + 1)))

-- a value between quotes, and nothing but spaces behind it
abbrev pub quoted : Piece → Option (List ℕ × Piece)
quoted line =
    let from : Piece = skipped line in
    behind quote from.text >>= λ inner. cut_at quote inner >>= λ cut.
    if nat_lt line.place from.place && list_all is_space cut.1
    then Some (cut.0, record { text = cut.0; place = from.place + 1 })
    else None

-- `set`: the attribute's name and the value between quotes
abbrev pub set_line : Who → Piece → Option OrderReading
set_line who line =
    let cut : Piece × Piece = first_of line in
    attribute_word_of cut.0.text >>= λ name. quoted cut.1 >>= λ value.
    Some (given (order.Set who name value.0 (cut.0.place + 1) (value.1.place + 1)))

-- `insert`: a place of 1 to 9 digits, and the node line to the end of the line
abbrev pub insert_line : Who → Piece → Option OrderReading
insert_line who line =
    let cut : Piece × Piece = first_of line in
    let node : Piece = skipped cut.1 in
    short_number_of cut.0.text >>= λ place.
    if length node.text == 0 then None
    else Some (given (order.Insert who place node.text (node.place + 1)))

-- one byte, which is an access key
abbrev pub key_in : List ℕ → Option ℕ
key_in (b ∷ []) = if is_key b then Some b else None
key_in _ = None

-- `key`: the access key
abbrev pub key_line : Piece → Option OrderReading
key_line line =
    let cut : Piece × Piece = first_of line in
    key_in cut.0.text >>= λ key. at_end cut.1 (given (order.Key key))

-- `stack`: the attribute's name
abbrev pub stack_line : Who → Piece → Option OrderReading
stack_line who line =
    let cut : Piece × Piece = first_of line in
    attribute_word_of cut.0.text >>= λ name. at_end cut.1 (given (order.Stack who name))

-- the order behind a presentation's name, by its first word
abbrev pub order_line : List ℕ → Piece → Option OrderReading
order_line verb line =
    if bytes_eq verb (codes "advance") then with_clock order.Advance line
    else (if bytes_eq verb (codes "seek") then with_clock order.Seek line
    else (if bytes_eq verb (codes "event") then with_who event_line line
    else (if bytes_eq verb (codes "media") then with_who (λ who. with_clock (order.Media who)) line
    else (if bytes_eq verb (codes "set") then with_who set_line line
    else (if bytes_eq verb (codes "unset") then with_who unset_line line
    else (if bytes_eq verb (codes "insert") then with_who insert_line line
    else (if bytes_eq verb (codes "remove")
    then with_who (λ who rest. at_end rest (given (order.Remove who))) line
    else (if bytes_eq verb (codes "show") then at_end line (given order.Show)
    else (if bytes_eq verb (codes "history")
    then with_who (λ who rest. at_end rest (given (order.History who))) line
    else (if bytes_eq verb (codes "text") then at_end line (given order.Text)
    else (if bytes_eq verb (codes "key") then key_line line
    else (if bytes_eq verb (codes "save") then at_end line (given order.Save)
    else (if bytes_eq verb (codes "values") then at_end line (given order.Values)
    else (if bytes_eq verb (codes "stack") then with_who stack_line line
    else (if bytes_eq verb (codes "diary") then at_end line (given order.Diary)
    else None)))))))))))))))

-- a line without a reading is no command
abbrev pub or_refused : Option Read → Result Read Refusal
or_refused None = Err NotACommand
or_refused (Some read) = Ok read

-- the order that a line gives to a presentation
abbrev pub to : List ℕ → Result Order Refusal → Result Read Refusal
to name (Ok order) = Ok (To name order)
to name (Err refusal) = Err refusal

-- `close`: a name
abbrev pub close_line : Piece → Option Read
close_line line =
    let cut : Piece × Piece = first_of line in
    if is_presentation_name cut.0.text then at_end cut.1 (Close cut.0.text) else None

-- the instant of moment 0, behind `at`
abbrev pub start_line : List ℕ → Piece → Option Read
start_line name line =
    let cut : Piece × Piece = first_of line in
    instant_of cut.0.text >>= λ start. at_end cut.1 (LoadAt name start)

-- what stands behind the name of a load: nothing, or `at` and an instant
abbrev pub load_behind : List ℕ → Piece → Option Read
load_behind name line =
    let cut : Piece × Piece = first_of line in
    if is_ended line then Some (Load name)
    else (if bytes_eq cut.0.text (codes "at") then start_line name cut.1 else None)

-- `load`: a name, and the instant of moment 0 where one is given
abbrev pub load_line : Piece → Option Read
load_line line =
    let cut : Piece × Piece = first_of line in
    if is_presentation_name cut.0.text then load_behind cut.0.text cut.1 else None

-- what a value can be preferred for
abbrev pub preference_words : List (List ℕ)
preference_words =
    codes "bitrate" ∷ codes "captions" ∷ codes "audiodesc" ∷ codes "language" ∷ codes "screen"
    ∷ codes "depth" ∷ []

-- whether a line prefers a value: its second word says for what
abbrev pub is_preference : List ℕ → List ℕ → Bool
is_preference first second =
    bytes_eq first (codes "prefer") && list_any (bytes_eq second) preference_words

-- the value that is preferred: one word, which may have no reading
abbrev pub prefer_line : List ℕ → Piece → Option Read
prefer_line word line =
    let cut : Piece × Piece = first_of line in
    if length cut.0.text == 0 then None else at_end cut.1 (Prefer word cut.0.text)

-- a line behind its first word, which is a presentation's name unless the line prefers a value
abbrev pub behind_name : List ℕ → Piece × Piece → Result Read Refusal
behind_name name verb =
    if is_preference name verb.0.text then or_refused (prefer_line verb.0.text verb.1)
    else to name (finish (order_line verb.0.text verb.1))

-- a line by its first word
abbrev pub command : Piece × Piece → Result Read Refusal
command cut =
    if bytes_eq cut.0.text (codes "load") then or_refused (load_line cut.1)
    else (if bytes_eq cut.0.text (codes "close") then or_refused (close_line cut.1)
    else (if is_presentation_name cut.0.text then behind_name cut.0.text (first_of cut.1)
    else Err NotACommand))

-- a line that has no answer: white space alone, or one whose first byte is `#`
abbrev pub is_blank : List ℕ → Bool
is_blank line = list_all is_white line || is_some (behind number_sign line)

-- what a script line says, or why it has no reading
abbrev pub line_of : List ℕ → Result Read Refusal
line_of line =
    if is_blank line then Ok Blank else command (first_of (record { text = line; place = 0 }))

-- a line whose first word is `load` opens a load, however it goes on
abbrev pub opens_load : List ℕ → Bool
opens_load line = bytes_eq (first_of (record { text = line; place = 0 })).0.text (codes "load")
