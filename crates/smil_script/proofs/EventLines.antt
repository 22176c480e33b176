-- The line of an event, by its words.
use Rattle.std.proofs.Common.{◌≡◌, ◌∙◌, ℕ, Bool, true, false, List, Option, Some, None, Result, Ok, Err, ap, refl, sym}
use Rattle.std.specs.Option.{ok_or}
use Rattle.smil_model.specs.declared.order.Order.{Order}
use Rattle.smil_model.specs.declared.order.Order.TheVariants as order
use Rattle.smil_model.specs.declared.order.Refusal.{Refusal}
use Rattle.smil_model.specs.declared.order.Refusal.TheVariants.{Memory, NotACommand}
use Rattle.smil_model.specs.declared.order.Who.{Who}
use Rattle.smil_grammar.specs.Gives.{GivesReading}
use Rattle.smil_grammar.specs.Positions.{Piece}
use Rattle.smil_grammar.specs.Scripts.{event_line, event_of, finish, first_of, is_ended, who_of, with_who}
use Rattle.smil_script.specs.Gives.{GivesName}

found : {A E : Type 0} (x : Option A) (e : E) (v : A) → ok_or x e ≡ Ok v → x ≡ Some v
found None e v is = absurd cc
found (Some w) e v is = cc

-- a line, its first word and its second
module _ (line : Piece) (element word : Piece × Piece) (text said : List ℕ) (who : Who) (element_is : element ≡ first_of line)
    (word_is : word ≡ first_of element.1) (text_is : text ≡ element.0.text) (said_is : said ≡ word.0.text) (named : ok_or (who_of text) NotACommand ≡ Ok who) where
  who_is : who_of (first_of line).0.text ≡ Some who
  who_is = ap (λ (p : Piece × Piece). who_of p.0.text) (sym element_is) ∙ ap who_of (sym text_is) ∙ found (who_of text) NotACommand who named

  second : word ≡ first_of (first_of line).1
  second = word_is ∙ ap (λ (p : Piece × Piece). first_of p.1) element_is

  name_is : event_of (first_of (first_of line).1).0.text ≡ event_of said
  name_is = ap (λ (p : Piece × Piece). event_of p.0.text) (sym second) ∙ ap event_of (sym said_is)

  end_is : is_ended (first_of (first_of line).1).1 ≡ is_ended word.1
  end_is = ap (λ (p : Piece × Piece). is_ended p.1) (sym second)

  pub event_read : (name : List ℕ) → event_of said ≡ Some name → is_ended word.1 ≡ true → finish (with_who event_line line) ≡ Ok (order.Event who name)
  event_read name known ended = rw who_is (rw (name_is ∙ known) (rw (end_is ∙ ended) refl))

  pub event_unended : (name : List ℕ) → event_of said ≡ Some name → is_ended word.1 ≡ false → finish (with_who event_line line) ≡ Err NotACommand
  event_unended name known ended = rw who_is (rw (name_is ∙ known) (rw (end_is ∙ ended) refl))

  unnamed : event_of said ≡ None → finish (with_who event_line line) ≡ Err NotACommand
  unnamed none = rw who_is (rw (name_is ∙ none) refl)

  pub event_unnamed : (e : Refusal) → GivesName {A = List ℕ} (Err e) (event_of said) → GivesReading {A = Order} (Err e) (finish (with_who event_line line))
  event_unnamed Memory gives = tt
  event_unnamed e gives = unnamed gives.0 ∙ ap Err (sym gives.1)
