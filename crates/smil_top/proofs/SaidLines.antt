-- A line that says an order or closes a presentation opens no load, and isn't blank.
use Rattle.std.proofs.Common.{◌≡◌, ℕ, ℤ, Bool, true, false, List, Option, Some, None, Result, Ok, refl, ap, sym, ◌∙◌}
use Rattle.std.specs.Prelude.{codes, bytes_eq, if◌then◌else◌}
use Rattle.smil_model.specs.declared.order.Order.{Order}
use Rattle.smil_model.specs.declared.order.Refusal.{Refusal}
use Rattle.smil_grammar.specs.declared.read.Read.{Read}
use Rattle.smil_grammar.specs.declared.read.Read.TheVariants.{Blank, Close, Load, LoadAt, To}
use Rattle.smil_grammar.specs.Instants.{instant_of}
use Rattle.smil_grammar.specs.Positions.{Piece}
use Rattle.smil_grammar.specs.Texts.{◌>>=◌}
use Rattle.smil_grammar.specs.Scripts.{at_end, close_line, behind_name, command, first_of, is_blank, is_ended, is_presentation_name, line_of, load_behind, load_line, opens_load, or_refused, start_line}

abbrev read_as : Read → Result Read Refusal
read_as said = Ok said

-- what is said is no load and no blank line
pub record IsApart (said : Read) : Type 0 where
  pub load : (name : List ℕ) → read_as (Load name) ≡ Ok said → ⊥
  pub load_at : (name : List ℕ) (start : ℤ) → read_as (LoadAt name start) ≡ Ok said → ⊥
  pub blank : read_as Blank ≡ Ok said → ⊥

pub apart-to : (name : List ℕ) (order : Order) → IsApart (To name order)
apart-to name order = record { load = λ n is. cc; load_at = λ n start is. cc; blank = λ is. cc }

pub apart-close : (name : List ℕ) → IsApart (Close name)
apart-close name = record { load = λ n is. cc; load_at = λ n start is. cc; blank = λ is. cc }

module _ (said : Read) (apart : IsApart said) where
  -- a reading that gives something else
  abbrev IsOther : Option Read → Type 0
  IsOther read = or_refused read ≡ Ok said → ⊥

  other-choice : (b : Bool) (read other : Option Read) → IsOther read → IsOther other → IsOther (if b then read else other)
  other-choice true read other one two = one
  other-choice false read other one two = two

  other-none : IsOther None
  other-none is = cc

  other-load : (n : List ℕ) → IsOther (Some (Load n))
  other-load n is = apart.load n is

  other-load_at : (n : List ℕ) (start : ℤ) → IsOther (Some (LoadAt n start))
  other-load_at n start is = apart.load_at n start is

  other-instant : (n : List ℕ) (rest : Piece) (start : Option ℤ) → IsOther (start >>= λ (at : ℤ). at_end rest (LoadAt n at))
  other-instant n rest None = other-none
  other-instant n rest (Some at) = other-choice (is_ended rest) (Some (LoadAt n at)) None (other-load_at n at) other-none

  other-behind : (n : List ℕ) (line : Piece) → IsOther (load_behind n line)
  other-behind n line =
      let cut : Piece × Piece = first_of line in
      let start : Piece × Piece = first_of cut.1 in
      other-choice (is_ended line) (Some (Load n)) (if bytes_eq cut.0.text (codes "at") then start_line n cut.1 else None) (other-load n)
      (other-choice (bytes_eq cut.0.text (codes "at")) (start_line n cut.1) None (other-instant n start.1 (instant_of start.0.text)) other-none)

  load-no_order : (line : Piece) → IsOther (load_line line)
  load-no_order line =
      let cut : Piece × Piece = first_of line in
      other-choice (is_presentation_name cut.0.text) (load_behind cut.0.text cut.1) None (other-behind cut.0.text cut.1) other-none

  not_load : (b : Bool) (read : Option Read) (other : Result Read Refusal) → IsOther read → (if b then or_refused read else other) ≡ Ok said → b ≡ false
  not_load true read other none is = absurd (none is)
  not_load false read other none is = refl

  not_blank : (b : Bool) (other : Result Read Refusal) → (if b then Ok Blank else other) ≡ Ok said → b ≡ false
  not_blank true other is = absurd (apart.blank is)
  not_blank false other is = refl

  module _ (line : List ℕ) (reading : line_of line ≡ Ok said) where
    abbrev cut : Piece × Piece
    cut = first_of (record { text = line; place = 0 })

    pub said-no_blank : is_blank line ≡ false
    said-no_blank = not_blank (is_blank line) (command cut) reading

    said-command : command cut ≡ Ok said
    said-command = sym (ap (λ b. if b then Ok Blank else command cut) said-no_blank) ∙ reading

    pub said-no_load : opens_load line ≡ false
    said-no_load =
        not_load (bytes_eq cut.0.text (codes "load")) (load_line cut.1)
        (if bytes_eq cut.0.text (codes "close") then or_refused (close_line cut.1)
        else (if is_presentation_name cut.0.text then behind_name cut.0.text (first_of cut.1)
        else or_refused None))
        (load-no_order cut.1) said-command
