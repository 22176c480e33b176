-- The words of a line.
use Rattle.std.specs.Prelude.{ℕ, List, [], ◌∷◌, ◌++◌, codes, decimal}
use Rattle.std.specs.Fmt.{signed_decimal}
use Rattle.smil_model.specs.shown.Lines.{line_of, quoted, reference_text, serial_text, shown_text, state_text, refusal_text, refusal_column, column_words}
use Rattle.smil_model.specs.declared.order.Refusal.{Refusal}
use Rattle.smil_model.specs.declared.view.View.{View}
use Rattle.smil_model.specs.document.Words.{space}
use Rattle.smil_model.specs.declared.order.Who.{Who}
use Rattle.smil_model.specs.declared.order.Who.TheVariants as who
use Rattle.smil_report.specs.declared.words.Name.{Name}
use Rattle.smil_report.specs.declared.words.Name.TheVariants as name
use Rattle.smil_report.specs.declared.words.Word.{Word}
use Rattle.smil_report.specs.declared.words.Word.TheVariants as word

-- whom a name names
abbrev pub who_of : Name → Who
who_of (name.Id id) = who.Id id.now
who_of (name.Serial serial) = who.Serial serial

-- what a word is in the line
abbrev pub word_text : Word → List ℕ
word_text (word.Text text) = text.now
word_text (word.Name name) = reference_text (who_of name)
word_text (word.Serial serial) = serial_text serial
word_text (word.Quoted text) = quoted text.now
word_text (word.Time time) = shown_text time
word_text (word.Moment moment) = signed_decimal moment
word_text (word.Number number) = decimal number

-- a refusal's word, and its column if it has one
abbrev pub cause_words : Refusal → List (List ℕ)
cause_words refusal = refusal_text refusal ∷ column_words (refusal_column refusal)

-- what the line of a change shows of a view, behind the name
abbrev pub view_text : View → List ℕ
view_text view =
    state_text view.state ++ space ∷ shown_text view.begin ++ space ∷ shown_text view.«end»
    ++ space ∷ decimal view.iteration ++ space ∷ decimal view.finished

-- the last line of the answer to a load that is only read
abbrev pub checked_line : ℕ → List ℕ → List ℕ
checked_line line name = line_of (codes "ok" ∷ decimal line ∷ name ∷ [])
