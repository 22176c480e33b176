-- Texts whose bytes all pass a test, at the front of longer ones.
use Rattle.std.proofs.Common.{◌≡◌, ℕ, ◌+◌, Bool, true, false, not, eqb, ltb, List, [], ◌∷◌, ◌++◌, length, drop, Some, None, refl, sym, ap, ◌∙◌, arith, length-append, append_assoc}
use Rattle.std.specs.List.{AllByRecursion, prefix_len, list_all}
use Rattle.std.specs.Char.{is_ascii_digit}
use Rattle.std.specs.Str.{all_ascii_digits}
use Rattle.std.proofs.lemmas.Bool.{le-ltb, lt-ltb, eq-eqb, not_from_true, and_parts}
use Rattle.std.proofs.lemmas.List.{take_at, drop_at}
use Rattle.smil_grammar.specs.Texts.{cut_at}

-- each byte passes
abbrev pub Passes : (ℕ → Bool) → List ℕ → Type 0
Passes p text = AllByRecursion (λ b. p b ≡ true) text

-- a text is tested byte by byte
pub tested : (p : ℕ → Bool) (text : List ℕ) → list_all p text ≡ true → Passes p text
tested p [] e = tt
tested p (b ∷ text) e = let parts = and_parts (p b) (list_all p text) e in (parts.0, tested p text parts.1)

pub tests_pass : (p : ℕ → Bool) (text : List ℕ) → Passes p text → list_all p text ≡ true
tests_pass p [] h = refl
tests_pass p (b ∷ text) h = rw (h.0, tests_pass p text h.1) refl

pub passes_weaker : (p q : ℕ → Bool) → ((b : ℕ) → p b ≡ true → q b ≡ true) → (text : List ℕ) → Passes p text → Passes q text
passes_weaker p q imply [] h = tt
passes_weaker p q imply (b ∷ text) h = (imply b h.0, passes_weaker p q imply text h.1)

pub passes_on : (p : ℕ → Bool) (front text : List ℕ) → Passes p front → Passes p text → Passes p (front ++ text)
passes_on p [] text h k = k
passes_on p (b ∷ front) text h k = (h.0, passes_on p front text h.1 k)

pub digits_pass : (text : List ℕ) → all_ascii_digits text ≡ true → Passes is_ascii_digit text
digits_pass [] h = tt
digits_pass (b ∷ text) h = let both = and_parts (is_ascii_digit b) (all_ascii_digits text) h in (both.0, digits_pass text both.1)

-- a front that passes is part of the longest one
pub passes_front : (p : ℕ → Bool) (front text : List ℕ) → Passes p front → prefix_len p (front ++ text) ≡ length front + prefix_len p text
passes_front p [] text h = omega arith
passes_front p (b ∷ front) text h = rw (h.0) (omega (arith, passes_front p front text h.1))

pub passes_all : (p : ℕ → Bool) (text : List ℕ) → Passes p text → prefix_len p text ≡ length text
passes_all p [] h = refl
passes_all p (b ∷ text) h = rw (h.0) (omega (arith, passes_all p text h.1))

-- a text without the byte isn't cut there
pub uncut : (k : ℕ) (text : List ℕ) → Passes (λ b. not (eqb b k)) text → cut_at k text ≡ None
uncut k text h = let late : ltb (prefix_len (λ b. not (eqb b k)) text) (length text) ≡ false = le-ltb _ _ (omega (arith, passes_all (λ b. not (eqb b k)) text h)) in rw late refl

-- a text is cut at the first such byte
pub cut_front : (k : ℕ) (front text : List ℕ) → Passes (λ b. not (eqb b k)) front → cut_at k (front ++ k ∷ text) ≡ Some (front, text)
cut_front k front text h =
    let here : not (eqb k k) ≡ false = not_from_true (eqb k k) (eq-eqb k k refl) in
    let none : prefix_len (λ b. not (eqb b k)) (k ∷ text) ≡ 0 = rw here refl in
    let len : prefix_len (λ b. not (eqb b k)) (front ++ k ∷ text) ≡ length front = omega (arith, passes_front (λ b. not (eqb b k)) front (k ∷ text) h, none) in
    let early : ltb (length front) (length (front ++ k ∷ text)) ≡ true = lt-ltb _ _ (omega (arith, length-append front (k ∷ text))) in
    let back : drop (length front + 1) (front ++ k ∷ text) ≡ text = ap (drop (length front + 1)) (sym (append_assoc front (k ∷ []) text)) ∙ drop_at (front ++ k ∷ []) text (length front + 1) (omega (arith, length-append front (k ∷ []))) in
    rw (len, early, take_at front (k ∷ text) (length front) refl, back) refl
