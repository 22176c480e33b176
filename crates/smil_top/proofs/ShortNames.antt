-- The name that a line gives is short.
use Rattle.std.proofs.Common.{◌≡◌, ℕ, ℤ, ◌≤◌, Bool, true, false, List, [], ◌∷◌, length, Option, Some, None, Result, Ok, Err, refl, subst, arith}
use Rattle.std.specs.Prelude.{not, ◌&&◌, ◌==◌, nat_lt, codes, bytes_eq, if◌then◌else◌}
use Rattle.std.specs.List.{list_any}
use Rattle.std.proofs.lemmas.Bool.{ltb-true}
use Rattle.smil_model.specs.declared.limits.TheConstants.{NAME_BYTES}
use Rattle.smil_model.specs.declared.order.Order.{Order}
use Rattle.smil_model.specs.declared.order.Refusal.{Refusal}
use Rattle.smil_model.specs.declared.order.Refusal.TheVariants.{NotACommand}
use Rattle.smil_model.specs.document.Words.{is_of_attribute}
use Rattle.smil_grammar.specs.declared.read.Read.{Read}
use Rattle.smil_grammar.specs.declared.read.Read.TheVariants.{Blank, Load, LoadAt, Prefer, Close}
use Rattle.smil_grammar.specs.Texts.{◌>>=◌}
use Rattle.smil_grammar.specs.Words.{word_len}
use Rattle.smil_grammar.specs.Positions.{Piece}
use Rattle.smil_grammar.specs.Instants.{instant_of}
use Rattle.smil_grammar.specs.Scripts.{first_of, is_ended, at_end, close_line, start_line, load_behind, load_line, prefer_line, is_preference, behind_name, or_refused, to, finish, order_line, command, is_blank, is_presentation_name, line_of}
use Rattle.smil_top.specs.Running.{HasShortName}

abbrev pub OkShortName : Result Read Refusal → Type 0
OkShortName (Ok read) = HasShortName read
OkShortName (Err refusal) = Unit {0}

abbrev SomeShortName : Option Read → Type 0
SomeShortName (Some read) = HasShortName read
SomeShortName None = Unit {0}

by-if : {A : Type 0} (P : A → Type 0) (b : Bool) (x y : A) → (b ≡ true → P x) → P y → P (if b then x else y)
by-if P true x y h k = h refl
by-if P false x y h k = k

all-of-four : (a b c d : Bool) → (a && b && c && d) ≡ true → c ≡ true
all-of-four true true c d h = go c h
  where
    go : (c : Bool) → (c && d) ≡ true → c ≡ true
    go true h = refl
    go false h = h
all-of-four true false c d h = absurd cc
all-of-four false b c d h = absurd cc

pub name-short : (name : List ℕ) → is_presentation_name name ≡ true → length name ≤ NAME_BYTES
name-short [] h = absurd cc
name-short (b ∷ bytes) h =
    let lt = ltb-true (length bytes) NAME_BYTES (all-of-four (not (b == 95)) (word_len is_of_attribute (b ∷ bytes) == length (b ∷ bytes)) (nat_lt (length bytes) NAME_BYTES) (not (list_any (bytes_eq (b ∷ bytes)) (codes "load" ∷ codes "close" ∷ []))) h) in
    omega (arith, lt)

at_end-short : (line : Piece) (read : Read) → HasShortName read → SomeShortName (at_end line read)
at_end-short line read h = by-if SomeShortName (is_ended line) (Some read) None (λ ended. h) tt

close-short : (line : Piece) → SomeShortName (close_line line)
close-short line =
    by-if SomeShortName (is_presentation_name (first_of line).0.text) (at_end (first_of line).1 (Close (first_of line).0.text)) None
    (λ is. at_end-short (first_of line).1 (Close (first_of line).0.text) (name-short (first_of line).0.text is)) tt

started-short : (name : List ℕ) (line : Piece) (start : Option ℤ) → length name ≤ NAME_BYTES → SomeShortName (start >>= λ at. at_end line (LoadAt name at))
started-short name line None h = tt
started-short name line (Some at) h = at_end-short line (LoadAt name at) h

behind-short : (name : List ℕ) (line : Piece) → length name ≤ NAME_BYTES → SomeShortName (load_behind name line)
behind-short name line h =
    by-if SomeShortName (is_ended line) (Some (Load name)) _ (λ ended. h)
    (by-if SomeShortName (bytes_eq (first_of line).0.text (codes "at")) (start_line name (first_of line).1) None
    (λ at. started-short name (first_of (first_of line).1).1 (instant_of (first_of (first_of line).1).0.text) h) tt)

load-short : (line : Piece) → SomeShortName (load_line line)
load-short line =
    by-if SomeShortName (is_presentation_name (first_of line).0.text) (load_behind (first_of line).0.text (first_of line).1) None
    (λ is. behind-short (first_of line).0.text (first_of line).1 (name-short (first_of line).0.text is)) tt

some-if : (P : Option Read → Type 0) (b : Bool) (x y : Option Read) → P x → P y → P (if b then x else y)
some-if P true x y h k = h
some-if P false x y h k = k

prefer-short : (word : List ℕ) (line : Piece) → SomeShortName (prefer_line word line)
prefer-short word line =
    some-if SomeShortName (length (first_of line).0.text == 0) None (at_end (first_of line).1 (Prefer word (first_of line).0.text)) tt
    (at_end-short (first_of line).1 (Prefer word (first_of line).0.text) tt)

or_refused-short : (read : Option Read) → SomeShortName read → OkShortName (or_refused read)
or_refused-short None h = tt
or_refused-short (Some read) h = h

to-short : (name : List ℕ) (order : Result Order Refusal) → length name ≤ NAME_BYTES → OkShortName (to name order)
to-short name (Ok order) h = h
to-short name (Err refusal) h = tt

named-short : (name : List ℕ) (verb : Piece × Piece) → length name ≤ NAME_BYTES → OkShortName (behind_name name verb)
named-short name verb h =
    by-if OkShortName (is_preference name verb.0.text) (or_refused (prefer_line verb.0.text verb.1)) (to name (finish (order_line verb.0.text verb.1)))
    (λ is. or_refused-short (prefer_line verb.0.text verb.1) (prefer-short verb.0.text verb.1))
    (to-short name (finish (order_line verb.0.text verb.1)) h)

command-short : (cut : Piece × Piece) → OkShortName (command cut)
command-short cut =
    by-if OkShortName (bytes_eq cut.0.text (codes "load")) (or_refused (load_line cut.1)) _ (λ is. or_refused-short (load_line cut.1) (load-short cut.1))
    (by-if OkShortName (bytes_eq cut.0.text (codes "close")) (or_refused (close_line cut.1)) _ (λ is. or_refused-short (close_line cut.1) (close-short cut.1))
    (by-if OkShortName (is_presentation_name cut.0.text) (behind_name cut.0.text (first_of cut.1)) (Err NotACommand) (λ is. named-short cut.0.text (first_of cut.1) (name-short cut.0.text is)) tt))

pub line-short : (line : List ℕ) → OkShortName (line_of line)
line-short line = by-if OkShortName (is_blank line) (Ok Blank) (command (first_of (record { text = line; place = 0 }))) (λ is. tt) (command-short (first_of (record { text = line; place = 0 })))

pub read-short : (line : List ℕ) (read : Read) → line_of line ≡ Ok read → HasShortName read
read-short line read is = subst OkShortName is (line-short line)
