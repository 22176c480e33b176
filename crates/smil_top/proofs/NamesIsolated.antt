-- Orders of a name, and of other names.
use Rattle.std.proofs.Common.{◌≡◌, ◌⊎◌, Bool, true, false, List, Option, Some, None, Result, Ok, Err, inl, inr, refl, ap, sym, subst, ◌∙◌}
use Rattle.std.specs.Prelude.{ℕ, ℤ, ◌&&◌, ◌||◌, ◌==◌, not, length, bytes_eq, codes, IfSome, IfOk, if◌then◌else◌}
use Rattle.std.proofs.lemmas.Bool.{or_parts, or_cases}
use Rattle.smil_model.specs.declared.order.Order.{Order}
use Rattle.smil_model.specs.declared.order.Refusal.{Refusal}
use Rattle.smil_model.specs.declared.order.Refusal.TheVariants.{NotACommand}
use Rattle.smil_grammar.specs.declared.read.Read.{Read}
use Rattle.smil_grammar.specs.declared.read.Read.TheVariants.{Blank, Load, LoadAt, Prefer, Close, To}
use Rattle.smil_grammar.specs.Positions.{Piece}
use Rattle.smil_grammar.specs.Texts.{◌>>=◌}
use Rattle.smil_grammar.specs.Instants.{instant_of}
use Rattle.smil_grammar.specs.Scripts.{first_of, is_ended, at_end, close_line, start_line, load_behind, load_line, prefer_line, is_preference, behind_name, is_presentation_name, is_blank, to, or_refused, order_line, finish, command, line_of}
use Rattle.smil_live.proofs.AgreedReferences.{bytes_same}
use Rattle.smil_top.specs.Cut.{OrderLines, single, load}
use Rattle.smil_top.specs.Laws.{first_word, prefers, closes, loads, is_of}

-- ---- what a line says, by its first word

-- the first word of a line, and what stands behind it
abbrev pub cut_in : List ℕ → Piece × Piece
cut_in text = first_of (record { text = text; place = 0 })

-- by the first word, and by whether the first two say that the line prefers a value
abbrev pub Said : List ℕ → Bool → Read → Type 0
Said word preferring (To name order) = (word ≡ name) × (preferring ≡ false)
Said word preferring (Close name) = (word ≡ codes "close") × (preferring ≡ false)
Said word preferring (Prefer other value) = preferring ≡ true
Said word preferring _ = Unit {0}

by-if : {A : Type 0} (P : A → Type 0) (b : Bool) (x y : A) → (b ≡ true → P x) → (b ≡ false → P y) → P (if b then x else y)
by-if P true x y h k = h refl
by-if P false x y h k = k refl

module _ (word : List ℕ) (preferring : Bool) where
  abbrev SaysSome : Option Read → Type 0
  SaysSome o = IfSome o (Said word preferring)

  abbrev SaysOk : Result Read Refusal → Type 0
  SaysOk r = IfOk r (Said word preferring)

  refused_says : (o : Option Read) → SaysSome o → SaysOk (or_refused o)
  refused_says None h = tt
  refused_says (Some read) h = h

  end_says : (line : Piece) (read : Read) → Said word preferring read → SaysSome (at_end line read)
  end_says line read h = by-if SaysSome (is_ended line) (Some read) None (λ e. h) (λ e. tt)

  close_says : (line : Piece) → word ≡ codes "close" → preferring ≡ false → SaysSome (close_line line)
  close_says line is plain =
      by-if SaysSome (is_presentation_name (first_of line).0.text) (at_end (first_of line).1 (Close (first_of line).0.text)) None
      (λ e. end_says (first_of line).1 (Close (first_of line).0.text) (is, plain)) (λ e. tt)

  start_says : (name : List ℕ) (line : Piece) (start : Option ℤ) → SaysSome (start >>= λ at. at_end line (LoadAt name at))
  start_says name line None = tt
  start_says name line (Some at) = end_says line (LoadAt name at) tt

  behind_says : (name : List ℕ) (line : Piece) → SaysSome (load_behind name line)
  behind_says name line =
      by-if SaysSome (is_ended line) (Some (Load name)) _ (λ e. tt)
      (λ e. by-if SaysSome (bytes_eq (first_of line).0.text (codes "at")) (start_line name (first_of line).1) None
      (λ d. start_says name (first_of (first_of line).1).1 (instant_of (first_of (first_of line).1).0.text)) (λ d. tt))

  load_says : (line : Piece) → SaysSome (load_line line)
  load_says line =
      by-if SaysSome (is_presentation_name (first_of line).0.text) (load_behind (first_of line).0.text (first_of line).1) None
      (λ e. behind_says (first_of line).0.text (first_of line).1) (λ e. tt)

  prefer_says : (second : List ℕ) (line : Piece) → preferring ≡ true → SaysSome (prefer_line second line)
  prefer_says second line is =
      by-if SaysSome (length (first_of line).0.text == 0) None (at_end (first_of line).1 (Prefer second (first_of line).0.text))
      (λ e. tt) (λ e. end_says (first_of line).1 (Prefer second (first_of line).0.text) is)

  to_says : (r : Result Order Refusal) → preferring ≡ false → SaysOk (to word r)
  to_says (Ok order) plain = (refl, plain)
  to_says (Err refusal) plain = tt

-- a line whose first word is `close` prefers nothing
closing : (first second : List ℕ) → bytes_eq first (codes "close") ≡ true → is_preference first second ≡ false
closing first second e =
    let is : first ≡ codes "close" = bytes_same first (codes "close") e in
    ap (λ (word : List ℕ). is_preference word second) is

command_says : (cut : Piece × Piece) → SaysOk cut.0.text (is_preference cut.0.text (first_of cut.1).0.text) (command cut)
command_says cut =
    let word : List ℕ = cut.0.text in
    let verb : Piece × Piece = first_of cut.1 in
    let preferring : Bool = is_preference word verb.0.text in
    by-if (SaysOk word preferring) (bytes_eq word (codes "load")) (or_refused (load_line cut.1)) _ (λ e. refused_says word preferring (load_line cut.1) (load_says word preferring cut.1))
    (λ n. by-if (SaysOk word preferring) (bytes_eq word (codes "close")) (or_refused (close_line cut.1)) _
    (λ e. refused_says word preferring (close_line cut.1) (close_says word preferring cut.1 (bytes_same word (codes "close") e) (closing word verb.0.text e)))
    (λ m. by-if (SaysOk word preferring) (is_presentation_name word) (behind_name word verb) (Err NotACommand)
    (λ e. by-if (SaysOk word preferring) preferring (or_refused (prefer_line verb.0.text verb.1)) (to word (finish (order_line verb.0.text verb.1)))
    (λ d. refused_says word preferring (prefer_line verb.0.text verb.1) (prefer_says word preferring verb.0.text verb.1 d))
    (λ d. to_says word preferring (finish (order_line verb.0.text verb.1)) d))
    (λ e. tt)))

line_says : (text : List ℕ) → SaysOk (first_word text) (prefers text) (line_of text)
line_says text = by-if (SaysOk (first_word text) (prefers text)) (is_blank text) (Ok Blank) (command (cut_in text)) (λ e. tt) (λ e. command_says (cut_in text))

pub said : (text : List ℕ) (read : Read) → line_of text ≡ Ok read → Said (first_word text) (prefers text) read
said text read e = subst (λ (r : Result Read Refusal). IfOk r (Said (first_word text) (prefers text))) e (line_says text)

-- `close` is no name
no_title : (name : List ℕ) → name ≡ codes "close" → is_presentation_name name ≡ true → ⊥
no_title name e t = let never : false ≡ true = subst (λ (word : List ℕ). is_presentation_name word ≡ true) e t in absurd cc

-- ---- orders of one name

module _ (name : List ℕ) where
  -- the name that a reading has is this one, or not
  abbrev pub IsOwn : Result Read Refusal → Type 0
  IsOwn (Ok (To other order)) = other ≡ name
  IsOwn (Ok (Close other)) = other ≡ name
  IsOwn _ = Unit {0}

  abbrev pub IsOther : Result Read Refusal → Type 0
  IsOther (Ok (To other order)) = bytes_eq other name ≡ false
  IsOther (Ok (Close other)) = bytes_eq other name ≡ false
  IsOther _ = Unit {0}

  -- whether a line with this first word is of the name, where it prefers a value or doesn't
  abbrev of_line : List ℕ → Bool → Result Read Refusal → Bool
  of_line word preferring r = (bytes_eq word name && not preferring) || closes name r

  first_is : (b preferring : Bool) → (b && not preferring) ≡ true → b ≡ true
  first_is true preferring e = refl
  first_is false preferring e = e

  first_not : (b preferring : Bool) → preferring ≡ false → (b && not preferring) ≡ false → b ≡ false
  first_not true false plain e = e
  first_not true true plain e = let never : true ≡ false = plain in absurd cc
  first_not false preferring plain e = refl

  own_by : (word : List ℕ) (preferring : Bool) (r : Result Read Refusal) → ((read : Read) → r ≡ Ok read → Said word preferring read) → is_presentation_name name ≡ true → of_line word preferring r ≡ true → IsOwn r
  own_by word preferring (Err refusal) h t e = tt
  own_by word preferring (Ok Blank) h t e = tt
  own_by word preferring (Ok (Load other)) h t e = tt
  own_by word preferring (Ok (LoadAt other start)) h t e = tt
  own_by word preferring (Ok (Prefer other value)) h t e = tt
  own_by word preferring (Ok (To other order)) h t e = elim (or_cases (bytes_eq word name && not preferring) false e) as (λ _. other ≡ name) [
    | inl d ↦ sym (h (To other order) refl).0 ∙ bytes_same word name (first_is (bytes_eq word name) preferring d)
    | inr d ↦ absurd cc
  ]
  own_by word preferring (Ok (Close other)) h t e = elim (or_cases (bytes_eq word name && not preferring) (bytes_eq other name) e) as (λ _. other ≡ name) [
    | inl d ↦ absurd (no_title name (sym (bytes_same word name (first_is (bytes_eq word name) preferring d)) ∙ (h (Close other) refl).0) t)
    | inr d ↦ bytes_same other name d
  ]

  -- a line that prefers a value orders nothing of a presentation
  preferring_by : (word : List ℕ) (r : Result Read Refusal) → ((read : Read) → r ≡ Ok read → Said word true read) → IsOwn r
  preferring_by word (Err refusal) h = tt
  preferring_by word (Ok Blank) h = tt
  preferring_by word (Ok (Load other)) h = tt
  preferring_by word (Ok (LoadAt other start)) h = tt
  preferring_by word (Ok (Prefer other value)) h = tt
  preferring_by word (Ok (To other order)) h = let never : true ≡ false = (h (To other order) refl).1 in absurd cc
  preferring_by word (Ok (Close other)) h = let never : true ≡ false = (h (Close other) refl).1 in absurd cc

  other_by : (word : List ℕ) (preferring : Bool) (r : Result Read Refusal) → ((read : Read) → r ≡ Ok read → Said word preferring read) → of_line word preferring r ≡ false → IsOther r
  other_by word preferring (Err refusal) h e = tt
  other_by word preferring (Ok Blank) h e = tt
  other_by word preferring (Ok (Load other)) h e = tt
  other_by word preferring (Ok (LoadAt other start)) h e = tt
  other_by word preferring (Ok (Prefer other value)) h e = tt
  other_by word preferring (Ok (To other order)) h e =
      ap (λ (w : List ℕ). bytes_eq w name) (sym (h (To other order) refl).0)
      ∙ first_not (bytes_eq word name) preferring (h (To other order) refl).1 (or_parts (bytes_eq word name && not preferring) false e).0
  other_by word preferring (Ok (Close other)) h e = (or_parts (bytes_eq word name && not preferring) (bytes_eq other name) e).1

  pub own_line : (text : List ℕ) → is_presentation_name name ≡ true → of_line (first_word text) (prefers text) (line_of text) ≡ true → IsOwn (line_of text)
  own_line text t e = own_by (first_word text) (prefers text) (line_of text) (said text) t e

  pub preferring_line : (text : List ℕ) → prefers text ≡ true → IsOwn (line_of text)
  preferring_line text e = preferring_by (first_word text) (line_of text) (subst (λ (b : Bool). (read : Read) → line_of text ≡ Ok read → Said (first_word text) b read) e (said text))

  pub other_line : (text : List ℕ) → of_line (first_word text) (prefers text) (line_of text) ≡ false → IsOther (line_of text)
  other_line text e = other_by (first_word text) (prefers text) (line_of text) (said text) e

-- a reading that prefers no value
abbrev pub IsPlain : Result Read Refusal → Type 0
IsPlain (Ok (Prefer other value)) = ⊥
IsPlain _ = Unit {0}

plain_by : (word : List ℕ) (r : Result Read Refusal) → ((read : Read) → r ≡ Ok read → Said word false read) → IsPlain r
plain_by word (Err refusal) h = tt
plain_by word (Ok Blank) h = tt
plain_by word (Ok (Load other)) h = tt
plain_by word (Ok (LoadAt other start)) h = tt
plain_by word (Ok (To other order)) h = tt
plain_by word (Ok (Close other)) h = tt
plain_by word (Ok (Prefer other value)) h = let never : false ≡ true = h (Prefer other value) refl in absurd cc

pub plain_line : (text : List ℕ) → prefers text ≡ false → IsPlain (line_of text)
plain_line text e = plain_by (first_word text) (line_of text) (subst (λ (b : Bool). (read : Read) → line_of text ≡ Ok read → Said (first_word text) b read) e (said text))

-- ---- of one name at most

closes_is : (name : List ℕ) (r : Result Read Refusal) → closes name r ≡ true → r ≡ Ok (Close name)
closes_is name (Ok (Close other)) e = ap (λ (w : List ℕ). Ok (Close w)) (bytes_same other name e)
closes_is name (Ok (To other order)) e = absurd cc
closes_is name (Ok (Load other)) e = absurd cc
closes_is name (Ok (LoadAt other start)) e = absurd cc
closes_is name (Ok (Prefer other value)) e = absurd cc
closes_is name (Ok Blank) e = absurd cc
closes_is name (Err refusal) e = absurd cc

loads_one : (name other : List ℕ) (r : Result Read Refusal) → loads name r ≡ true → loads other r ≡ true → name ≡ other
loads_one name other (Ok (Load loaded)) e d = sym (bytes_same loaded name e) ∙ bytes_same loaded other d
loads_one name other (Ok (LoadAt loaded start)) e d = sym (bytes_same loaded name e) ∙ bytes_same loaded other d
loads_one name other (Ok (Prefer loaded value)) e d = absurd cc
loads_one name other (Ok (Close loaded)) e d = absurd cc
loads_one name other (Ok (To loaded order)) e d = absurd cc
loads_one name other (Ok Blank) e d = absurd cc
loads_one name other (Err refusal) e d = absurd cc

-- a line that closes something has no name as its first word
not_first : (text name other : List ℕ) → is_presentation_name name ≡ true → bytes_eq (first_word text) name ≡ true → closes other (line_of text) ≡ true → ⊥
not_first text name other t e d = no_title name (sym (bytes_same (first_word text) name e) ∙ (said text (Close other) (closes_is other (line_of text) d)).0) t

pub of_one : (name other : List ℕ) (order : OrderLines) → is_presentation_name name ≡ true → is_presentation_name other ≡ true → is_of name order ≡ true → is_of other order ≡ true → name ≡ other
of_one name other (single line) t u e d = by (or_cases _ _ e) (or_cases _ _ d)
  where
    first : (title : List ℕ) → (bytes_eq (first_word line.text) title && not (prefers line.text)) ≡ true → bytes_eq (first_word line.text) title ≡ true
    first title e = first_is title (bytes_eq (first_word line.text) title) (prefers line.text) e

    by : ((bytes_eq (first_word line.text) name && not (prefers line.text)) ≡ true) ⊎ (closes name (line_of line.text) ≡ true) → ((bytes_eq (first_word line.text) other && not (prefers line.text)) ≡ true) ⊎ (closes other (line_of line.text) ≡ true) → name ≡ other
    by (inl e) (inl d) = sym (bytes_same (first_word line.text) name (first name e)) ∙ bytes_same (first_word line.text) other (first other d)
    by (inl e) (inr d) = absurd (not_first line.text name other t (first name e) d)
    by (inr e) (inl d) = absurd (not_first line.text other name u (first other d) e)
    by (inr e) (inr d) = let both : Ok (Close name) ≡ Ok (Close other) = sym (closes_is name (line_of line.text) e) ∙ closes_is other (line_of line.text) d in cc
of_one name other (load lines ended) t u e d = loads_one name other (line_of lines.head.text) e d
