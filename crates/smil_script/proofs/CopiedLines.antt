-- What of a line is copied, and what is read, by what stands behind its first word.
use Rattle.std.proofs.Common.{◌≡◌, ◌∙◌, ℕ, Bool, true, false, List, [], ◌∷◌, Option, Some, None, Result, Ok, Err, ap, refl, sym}
use Rattle.std.specs.Prelude.{◌||◌, ◌&&◌, ◌==◌, not, length, nat_lt, bytes_eq, codes, if◌then◌else◌, is_ok, is_some}
use Rattle.std.specs.List.{list_any}
use Rattle.std.proofs.lemmas.Bool.{not-true, or_parts}
use Rattle.smil_model.specs.declared.limits.TheConstants.{NAME_BYTES}
use Rattle.smil_model.specs.declared.order.Order.{Order}
use Rattle.smil_model.specs.declared.order.Refusal.{Refusal}
use Rattle.smil_model.specs.declared.order.Refusal.TheVariants.{Memory}
use Rattle.smil_model.specs.document.Words.{is_of_attribute, underscore}
use Rattle.smil_grammar.specs.declared.read.Read.{Read}
use Rattle.smil_grammar.specs.Gives.{GivesReading}
use Rattle.smil_grammar.specs.Positions.{Piece}
use Rattle.smil_grammar.specs.Scripts.{behind_name, command, finish, first_of, is_blank, is_preference, is_presentation_name, line_of, load_line, or_refused, order_line, to}
use Rattle.smil_grammar.specs.Words.{word_len}
use Rattle.smil_script.specs.Copies.{IsForCopy, behind_name_copies, line_copies, names_element, order_copies}

-- a line has a reading where its order has one
pub named_ok : (name : List ℕ) (order : Result Order Refusal) → is_ok (to name order) ≡ is_ok order
named_ok name (Ok order) = refl
named_ok name (Err refusal) = refl

-- a line has a reading where what it says is there
pub said_ok : (said : Option Read) → is_ok (or_refused said) ≡ is_some said
said_ok None = refl
said_ok (Some read) = refl

chosen : (test : Bool) (x y : Result Read Refusal) → test ≡ true → is_ok (if test then x else y) ≡ is_ok x
chosen test x y e = ap (λ b. is_ok (if b then x else y)) e

-- the last of four that hold
last_of_four : (a b c d : Bool) → (a && b && c && d) ≡ true → d ≡ true
last_of_four true true true d h = h
last_of_four true true false d h = absurd cc
last_of_four true false c d h = absurd cc
last_of_four false b c d h = absurd cc

-- a presentation's name is neither of the words that stand before one
no_word : (name : List ℕ) → is_presentation_name name ≡ true → (bytes_eq name (codes "load") ≡ false) × (bytes_eq name (codes "close") ≡ false)
no_word [] is = absurd cc
no_word (b ∷ bytes) is =
    let known = last_of_four (not (b == underscore)) (word_len is_of_attribute (b ∷ bytes) == length (b ∷ bytes)) (nat_lt (length bytes) NAME_BYTES)
    (not (list_any (bytes_eq (b ∷ bytes)) (codes "load" ∷ codes "close" ∷ []))) is
    in
    let words = or_parts (bytes_eq (b ∷ bytes) (codes "load")) (bytes_eq (b ∷ bytes) (codes "close") || false)
    (not-true (list_any (bytes_eq (b ∷ bytes)) (codes "load" ∷ codes "close" ∷ [])) known)
    in
    (words.0, (or_parts (bytes_eq (b ∷ bytes) (codes "close")) false words.1).0)

-- a line whose first word is a presentation's name
by_name : (cut : Piece × Piece) → is_presentation_name cut.0.text ≡ true → command cut ≡ behind_name cut.0.text (first_of cut.1)
by_name cut is =
    let words = no_word cut.0.text is in
    rw words.0 (rw words.1 (rw is refl))

-- what stops an order stops its line
pub stopped : (e : Refusal) (order : Result Order Refusal) (line : Result Read Refusal) → (order ≡ Err e → line ≡ Err e) → GivesReading (Err e) order → GivesReading (Err e) line
stopped Memory order line stops gives = tt
stopped e order line stops gives = stops gives

-- a line with an order, by its first word, which is a name, and by its second, which is a verb
module _ (line : List ℕ) (word verb : Piece × Piece) (name said : List ℕ) (word_is : word ≡ first_of (record { text = line; place = 0 }))
    (verb_is : verb ≡ first_of word.1) (name_is : name ≡ word.0.text) (said_is : said ≡ verb.0.text) (lively : is_blank line ≡ false)
    (known : is_presentation_name name ≡ true) (other : is_preference name said ≡ false) where
  abbrev start : Piece × Piece
  start = first_of (record { text = line; place = 0 })

  first_is : name ≡ start.0.text
  first_is = name_is ∙ ap (λ (p : Piece × Piece). p.0.text) word_is

  cut_is : verb ≡ first_of start.1
  cut_is = verb_is ∙ ap (λ (p : Piece × Piece). first_of p.1) word_is

  second_is : said ≡ (first_of start.1).0.text
  second_is = said_is ∙ ap (λ (p : Piece × Piece). p.0.text) cut_is

  named : is_presentation_name start.0.text ≡ true
  named = ap is_presentation_name (sym first_is) ∙ known

  unpreferred : is_preference start.0.text (first_of start.1).0.text ≡ false
  unpreferred = ap (λ n. is_preference n (first_of start.1).0.text) (sym first_is) ∙ ap (is_preference name) (sym second_is) ∙ other

  whole : line_of line ≡ to start.0.text (finish (order_line (first_of start.1).0.text (first_of start.1).1))
  whole = rw lively (by_name start named ∙ rw unpreferred refl)

  pub line_to : line_of line ≡ to name (finish (order_line said verb.1))
  line_to =
      whole
      ∙ ap (λ n. to n (finish (order_line (first_of start.1).0.text (first_of start.1).1))) (sym first_is)
      ∙ ap (λ t. to name (finish (order_line t (first_of start.1).1))) (sym second_is)
      ∙ ap (λ (p : Piece × Piece). to name (finish (order_line said p.1))) (sym cut_is)

  pub copies_is : line_copies line ≡ order_copies said verb.1
  copies_is =
      ap (λ b. b || behind_name_copies start.0.text (first_of start.1)) (ap (λ (r : Result Read Refusal). is_ok r) line_to ∙ named_ok name (finish (order_line said verb.1)))
      ∙ ap (λ b. is_ok (finish (order_line said verb.1)) || (b && names_element (first_of start.1).0.text (first_of start.1).1)) named
      ∙ ap (λ t. is_ok (finish (order_line said verb.1)) || names_element t (first_of start.1).1) (sym second_is)
      ∙ ap (λ (p : Piece × Piece). is_ok (finish (order_line said verb.1)) || names_element said p.1) (sym cut_is)

-- a load copies the name that it has
pub load_copied : {A : Type 0} (cut : Piece × Piece) (given : Result A Refusal) → bytes_eq cut.0.text (codes "load") ≡ true
    → IsForCopy (is_some (load_line cut.1)) given → IsForCopy (is_ok (command cut) || behind_name_copies cut.0.text (first_of cut.1)) given
load_copied cut (Ok read) e copied = tt
load_copied cut (Err refusal) e copied = λ memory.
    ap (λ b. b || behind_name_copies cut.0.text (first_of cut.1)) (chosen (bytes_eq cut.0.text (codes "load")) (or_refused (load_line cut.1)) _ e ∙ said_ok (load_line cut.1) ∙ copied memory)
