-- What is told of the session that a number makes.
use Rattle.std.specs.Prelude.{ℕ, List, [], ◌∷◌, ◌++◌, length, codes, decimal, ◌==◌}
use Rattle.std.specs.List.{count_by}
use Rattle.std.specs.Option.{option_map_or}
use Rattle.std.specs.Str.Lines.{lines}
use Rattle.smil_model.specs.shown.Orders.{Presentation}
use Rattle.smil_model.specs.shown.Lines.{line_of}
use Rattle.smil_model.specs.document.Words.{line_feed}
use Rattle.smil_gen.specs.Session.{session_text}
use Rattle.smil_top.specs.Cut.{OrderLines, orders}
use Rattle.smil_top.specs.Session.{Session, presentation_of}
use Rattle.smil_top.specs.Answers.{answer_of}
use Rattle.smil_top.specs.Transcript.{TranscriptState, transcript_by}

-- the orders of the session that a number makes
abbrev pub session_orders : ℕ → List OrderLines
session_orders number = orders (lines (session_text number))

-- and its transcript without a memory answer
abbrev pub session_told : ℕ → TranscriptState
session_told number = transcript_by answer_of (session_orders number)

-- how many lines a transcript has
abbrev pub line_count : List ℕ → ℕ
line_count text = count_by (λ byte. byte == line_feed) text

-- the moment of the presentation of this name, 0 where there is none
abbrev pub moment_in : List ℕ → Session → ℕ
moment_in name session =
    option_map_or (λ (p : Presentation). p.now) (presentation_of name session) 0

-- a word and a number
abbrev pub count_line : List ℕ → ℕ → List ℕ
count_line word number = line_of (word ∷ decimal number ∷ [])

-- the number of a session, and how many orders, refused orders and lines it has, with a moment
abbrev pub count_lines : ℕ → ℕ → ℕ → ℕ → ℕ → List ℕ
count_lines number orders refused lines moment =
    count_line (codes "session") number
    ++ count_line (codes "orders") orders
    ++ count_line (codes "refused") refused
    ++ count_line (codes "lines") lines
    ++ count_line (codes "moment") moment

-- of these orders, told so: their number, those that were refused, the lines of the transcript,
-- and the moment of `g`
abbrev pub told_of : ℕ → List OrderLines → TranscriptState → List ℕ
told_of number orders told =
    count_lines number (length orders) told.refused (line_count told.text)
    (moment_in (codes "g") told.session)

-- what `gen` writes
abbrev pub summary : ℕ → List ℕ
summary number = told_of number (session_orders number) (session_told number)
