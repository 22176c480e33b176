-- An order that prefers a value is of no name, and leaves all that is held.
use Rattle.std.proofs.Common.{◌≡◌, ℕ, Bool, true, false, List, Option, Some, None, Result, Ok, Err, refl, ap, subst, ◌∙◌}
use Rattle.std.specs.Prelude.{◌&&◌, not, bytes_eq, if◌then◌else◌}
use Rattle.std.specs.Option.{ok_or}
use Rattle.std.proofs.lemmas.Bool.{or_from}
use Rattle.smil_model.specs.declared.order.Refusal.{Refusal}
use Rattle.smil_model.specs.declared.order.Refusal.TheVariants.{LongLine, NotACommand}
use Rattle.smil_model.specs.document.Limits.{Limits}
use Rattle.smil_grammar.specs.declared.read.Read.{Read}
use Rattle.smil_grammar.specs.declared.read.Read.TheVariants.{Blank, Load, LoadAt, Prefer, Close, To}
use Rattle.smil_grammar.specs.Results.{◌>>=◌}
use Rattle.smil_grammar.specs.Scripts.{line_of}
use Rattle.smil_switch.specs.Preferences.{Wanted, with_preference}
use Rattle.smil_top.specs.Cut.{OrderLines, single, load, is_short}
use Rattle.smil_top.specs.Session.{Session}
use Rattle.smil_top.specs.Answers.{Answer, at_line, preferred_line, said_within, answer_within}
use Rattle.smil_top.specs.Laws.{first_word, prefers, closes, is_of, is_preferring, session_after}
use Rattle.smil_top.proofs.NamesIsolated.{Said, said}

-- a reading that is no order to a presentation
abbrev IsApart : Result Read Refusal → Type 0
IsApart (Ok (To name order)) = ⊥
IsApart (Ok (Close name)) = ⊥
IsApart _ = Unit {0}

apart_by : (word : List ℕ) (r : Result Read Refusal) → ((read : Read) → r ≡ Ok read → Said word true read) → IsApart r
apart_by word (Err refusal) h = tt
apart_by word (Ok Blank) h = tt
apart_by word (Ok (Load name)) h = tt
apart_by word (Ok (LoadAt name start)) h = tt
apart_by word (Ok (Prefer other value)) h = tt
apart_by word (Ok (To name order)) h = let never : true ≡ false = (h (To name order) refl).1 in cc
apart_by word (Ok (Close name)) h = let never : true ≡ false = (h (Close name) refl).1 in cc

apart_line : (text : List ℕ) → prefers text ≡ true → IsApart (line_of text)
apart_line text e =
    apart_by (first_word text) (line_of text)
    (subst (λ (b : Bool). (read : Read) → line_of text ≡ Ok read → Said (first_word text) b read) e (said text))

closes_none : (name : List ℕ) (r : Result Read Refusal) → IsApart r → closes name r ≡ false
closes_none name (Err refusal) apart = refl
closes_none name (Ok Blank) apart = refl
closes_none name (Ok (Load other)) apart = refl
closes_none name (Ok (LoadAt other start)) apart = refl
closes_none name (Ok (Prefer word value)) apart = refl
closes_none name (Ok (To other order)) apart = refl
closes_none name (Ok (Close other)) apart = absurd apart

not_first : (b : Bool) → (b && not true) ≡ false
not_first true = refl
not_first false = refl

pub of_none : (name : List ℕ) (order : OrderLines) → is_preferring order ≡ true → is_of name order ≡ false
of_none name (single line) e =
    or_from (bytes_eq (first_word line.text) name && not (prefers line.text)) (closes name (line_of line.text))
    (ap (λ b. bytes_eq (first_word line.text) name && not b) e ∙ not_first (bytes_eq (first_word line.text) name))
    (closes_none name (line_of line.text) (apart_line line.text e))
of_none name (load lines ended) e = absurd cc

module _ (allowed : Limits) (session : Session) where
  abbrev Holds_on : Answer → Type 0
  Holds_on answer = (session_after session answer).held ≡ session.held

  preferred_on : (line : ℕ) (o : Option Wanted) →
      Holds_on (at_line line ((ok_or o NotACommand >>= λ (w : Wanted). Ok (record session { wanted = w })) >>= λ (after : Session). Ok (record { text = preferred_line line; session = after })))
  preferred_on line (Some w) = refl
  preferred_on line None = refl

  read_on : (line : ℕ) (r : Result Read Refusal) → IsApart r → Holds_on (at_line line (r >>= said_within allowed session line))
  read_on line (Ok (To name order)) apart = absurd apart
  read_on line (Ok (Close name)) apart = absurd apart
  read_on line (Ok (Prefer word value)) apart = preferred_on line (with_preference session.wanted word value)
  read_on line (Ok (Load name)) apart = refl
  read_on line (Ok (LoadAt name start)) apart = refl
  read_on line (Ok Blank) apart = refl
  read_on line (Err refusal) apart = refl

  single_on : (line : ℕ) (short : Bool) (r : Result Read Refusal) → IsApart r → Holds_on (at_line line ((if short then r else Err LongLine) >>= said_within allowed session line))
  single_on line true r apart = read_on line r apart
  single_on line false r apart = refl

  pub holds_on : (order : OrderLines) → is_preferring order ≡ true → Holds_on (answer_within allowed session order)
  holds_on (single line) e = single_on line.number (is_short line.text) (line_of line.text) (apart_line line.text e)
  holds_on (load lines ended) e = absurd cc
