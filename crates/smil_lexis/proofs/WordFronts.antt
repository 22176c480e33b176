-- Ids and names: what stands at the front of a text is one, and a written one is found again.
use Rattle.std.proofs.Common.{◌≡◌, ℕ, suc, ◌+◌, ◌<◌, ◌≤◌, Bool, true, false, not, eqb, ltb, ◌||◌, List, [], ◌∷◌, ◌++◌, length, take, refl, sym, ap, ◌∙◌, arith, length-take}
use Rattle.std.specs.List.{prefix_len, count_by}
use Rattle.std.proofs.lemmas.Bool.{or_right, le-ltb, cond_both, ltb-false, eqb-true}
use Rattle.std.proofs.lemmas.Bool.Decides.{nat_tests}
use Rattle.std.proofs.lemmas.List.{take_at}
use Rattle.std.proofs.lemmas.List.Sums.{length-filter}
use Rattle.smil_grammar.specs.Words.{is_initial, is_of_name, is_dash, is_of_id, word_len, escaped_len, reference_len, unescaped, name_len, id_len}
use Rattle.smil_grammar.specs.Spellings.{escaped}
use Rattle.smil_lexis.proofs.TestedFronts.{Passes, passes_front}

-- an initial, and up to 63 bytes that pass
abbrev pub IsWord : (ℕ → Bool) → List ℕ → Type 0
IsWord p [] = ⊥
IsWord p (b ∷ bytes) = (is_initial b ≡ true) × (Passes p bytes) × (length bytes < 64)

pub or_first : (x y : Bool) → (x || y) ≡ true → y ≡ false → x ≡ true
or_first true y h e = refl
or_first false y h e = absurd cc

pub initial_no_dash : (b : ℕ) → is_initial b ≡ true → is_dash b ≡ false
initial_no_dash b h = grind (arith, nat_tests)

pub name_no_backslash : (b : ℕ) → is_of_name b ≡ true → eqb b 92 ≡ false
name_no_backslash b h = grind (arith, nat_tests)

dash_no_backslash : (b : ℕ) → is_dash b ≡ true → eqb b 92 ≡ false
dash_no_backslash b h = grind (arith, nat_tests)

backslash_no_name : (b : ℕ) → eqb b 92 ≡ true → is_of_name b ≡ false
backslash_no_name b h = grind (arith, nat_tests)

-- a name before a byte of no name
pub name_len_of : (name tail : List ℕ) → IsWord is_of_name name → prefix_len is_of_name tail ≡ 0 → name_len (name ++ tail) ≡ length name
name_len_of [] tail h stop = absurd h
name_len_of (b ∷ bytes) tail h stop =
    let len : word_len is_of_name (b ∷ (bytes ++ tail)) ≡ length (b ∷ bytes) = rw (h.0, passes_front is_of_name bytes tail h.1) (omega arith) in
    let short : ltb 64 (length (b ∷ bytes)) ≡ false = le-ltb _ _ (omega arith) in
    rw (len, short) refl

-- an id in a reference, before a byte that doesn't go on with it
abbrev GoesOn : List ℕ → List ℕ → Type 0
GoesOn id tail = escaped_len false (escaped id ++ tail) ≡ length (escaped id)

escaped_step : (c : ℕ) (id tail : List ℕ) (t : Bool) → is_dash c ≡ t → is_of_id c ≡ true → GoesOn id tail → GoesOn (c ∷ id) tail
escaped_step c id tail true e h k = rw (e, e, k) (omega arith)
escaped_step c id tail false e h k =
    let name : is_of_name c ≡ true = or_first (is_of_name c) (is_dash c) h e in
    rw (e, name_no_backslash c name, name, k) (omega arith)

escaped_goes_on : (id tail : List ℕ) → Passes is_of_id id → escaped_len false tail ≡ 0 → GoesOn id tail
escaped_goes_on [] tail h stop = stop
escaped_goes_on (c ∷ id) tail h stop = escaped_step c id tail (is_dash c) refl h.0 (escaped_goes_on id tail h.1 stop)

unescaped_step : (c : ℕ) (id : List ℕ) (t : Bool) → is_dash c ≡ t → is_of_id c ≡ true → unescaped (escaped id) ≡ id → unescaped (escaped (c ∷ id)) ≡ c ∷ id
unescaped_step c id true e h k = rw (e, dash_no_backslash c e, k) refl
unescaped_step c id false e h k = rw (e, name_no_backslash c (or_first (is_of_name c) (is_dash c) h e), k) refl

unescaped_escaped : (id : List ℕ) → Passes is_of_id id → unescaped (escaped id) ≡ id
unescaped_escaped [] h = refl
unescaped_escaped (c ∷ id) h = unescaped_step c id (is_dash c) refl h.0 (unescaped_escaped id h.1)

initial_of_id : (b : ℕ) → is_initial b ≡ true → is_of_id b ≡ true
initial_of_id b h = rw h refl

pub all_of_id : (id : List ℕ) → IsWord is_of_id id → Passes is_of_id id
all_of_id [] h = absurd h
all_of_id (b ∷ bytes) h = (initial_of_id b h.0, h.1)

pub read_again : (id : List ℕ) → IsWord is_of_id id → unescaped (escaped id) ≡ id
read_again id h = unescaped_escaped id (all_of_id id h)

reference_len_of : (id tail : List ℕ) → IsWord is_of_id id → escaped_len false tail ≡ 0 → reference_len (escaped id ++ tail) ≡ length (escaped id)
reference_len_of [] tail h stop = absurd h
reference_len_of (b ∷ bytes) tail h stop = rw (initial_no_dash b h.0, h.0, escaped_goes_on bytes tail h.1 stop) (omega arith)

pub word_short : (p : ℕ → Bool) (word : List ℕ) → IsWord p word → length word ≤ 64
word_short p [] h = absurd h
word_short p (b ∷ bytes) h = omega arith

id_at : (text tail : List ℕ) (own : ℕ) → reference_len (text ++ tail) ≡ length text → count_by (λ b. not (eqb b 92)) text ≡ own → own ≤ 64 → id_len true (text ++ tail) ≡ length text
id_at text tail own len count short = let t : ltb 64 own ≡ false = le-ltb _ _ short in rw (len, take_at text tail (length text) refl, count, t) refl

pub id_len_of : (id tail : List ℕ) → IsWord is_of_id id → escaped_len false tail ≡ 0 → id_len true (escaped id ++ tail) ≡ length (escaped id)
id_len_of id tail h stop =
    id_at (escaped id) tail (length id) (reference_len_of id tail h stop) (sym (length-filter (λ b. not (eqb b 92)) (escaped id)) ∙ ap length (read_again id h)) (word_short is_of_id id h)

-- the front that passes
pub passes_taken : (p : ℕ → Bool) (text : List ℕ) → Passes p (take (prefix_len p text) text)
passes_taken p [] = tt
passes_taken p (b ∷ text) = cond_both (p b) (1 + prefix_len p text) 0 (λ n. Passes p (take n (b ∷ text)))
    (λ e. let more : 1 + prefix_len p text ≡ suc (prefix_len p text) = omega arith in rw more (e, passes_taken p text)) (λ e. tt)

word_front : (p : ℕ → Bool) (b : ℕ) (bytes : List ℕ) (n : ℕ) → is_initial b ≡ true → Passes p (take n bytes) → n < 64 → IsWord p (take (suc n) (b ∷ bytes))
word_front p b bytes n i h lt = (i, h, omega (arith, length-take n bytes))

pub name_word : (text : List ℕ) → 0 < name_len text → IsWord is_of_name (take (name_len text) text)
name_word [] lt = absurd (omega arith)
name_word (b ∷ bytes) lt = by_initial b bytes (is_initial b) refl lt
  where
    by_len : (b : ℕ) (bytes : List ℕ) (t : Bool) → is_initial b ≡ true → ltb 64 (1 + prefix_len is_of_name bytes) ≡ t → 0 < name_len (b ∷ bytes) → IsWord is_of_name (take (name_len (b ∷ bytes)) (b ∷ bytes))
    by_len b bytes true i e lt = let none : name_len (b ∷ bytes) ≡ 0 = rw (i, e) refl in absurd (omega arith)
    by_len b bytes false i e lt =
        let len : name_len (b ∷ bytes) ≡ suc (prefix_len is_of_name bytes) = rw (i, e) (omega arith) in
        rw len (word_front is_of_name b bytes (prefix_len is_of_name bytes) i (passes_taken is_of_name bytes) (omega (arith, ltb-false _ _ e)))

    by_initial : (b : ℕ) (bytes : List ℕ) (t : Bool) → is_initial b ≡ t → 0 < name_len (b ∷ bytes) → IsWord is_of_name (take (name_len (b ∷ bytes)) (b ∷ bytes))
    by_initial b bytes true i lt = by_len b bytes (ltb 64 (1 + prefix_len is_of_name bytes)) i refl lt
    by_initial b bytes false i lt = let none : name_len (b ∷ bytes) ≡ 0 = rw i refl in absurd (omega arith)

-- the front that goes on an id in a reference, and the same behind a backslash
abbrev Taken : List ℕ → Type 0
Taken bytes = Passes is_of_id (unescaped (take (escaped_len false bytes) bytes)) × Passes is_of_id (unescaped (take (escaped_len true bytes) (92 ∷ bytes)))

taken_dash : (b : ℕ) (bytes : List ℕ) → is_dash b ≡ true → Passes is_of_id (unescaped (take (escaped_len false bytes) bytes)) → Passes is_of_id (unescaped (take (2 + escaped_len false bytes) (92 ∷ b ∷ bytes)))
taken_dash b bytes e k =
    let more : 2 + escaped_len false bytes ≡ suc (suc (escaped_len false bytes)) = omega arith in
    let id : is_of_id b ≡ true = or_right (is_of_name b) (is_dash b) e in
    rw (more, dash_no_backslash b e) (id, k)

taken_name : (b : ℕ) (bytes : List ℕ) → is_of_name b ≡ true → Passes is_of_id (unescaped (take (escaped_len false bytes) bytes)) → Passes is_of_id (unescaped (take (1 + escaped_len false bytes) (b ∷ bytes)))
taken_name b bytes e k =
    let more : 1 + escaped_len false bytes ≡ suc (escaped_len false bytes) = omega arith in
    let id : is_of_id b ≡ true = rw e refl in
    rw (more, name_no_backslash b e) (id, k)

taken_plain : (b : ℕ) (bytes : List ℕ) (t : Bool) → eqb b 92 ≡ t → Taken bytes → Passes is_of_id (unescaped (take (escaped_len false (b ∷ bytes)) (b ∷ bytes)))
taken_plain b bytes true e k =
    let is : b ≡ 92 = eqb-true b 92 e in
    rw is k.1
taken_plain b bytes false e k = rw e (cond_both (is_of_name b) (1 + escaped_len false bytes) 0 (λ n. Passes is_of_id (unescaped (take n (b ∷ bytes)))) (λ name. taken_name b bytes name k.0) (λ other. tt))

taken : (bytes : List ℕ) → Taken bytes
taken [] = (tt, tt)
taken (b ∷ bytes) = let k = taken bytes in
    (taken_plain b bytes (eqb b 92) refl k, cond_both (is_dash b) (2 + escaped_len false bytes) 0 (λ n. Passes is_of_id (unescaped (take n (92 ∷ b ∷ bytes)))) (λ e. taken_dash b bytes e k.0) (λ other. tt))

initial_no_backslash : (b : ℕ) → is_initial b ≡ true → eqb b 92 ≡ false
initial_no_backslash b h = grind (arith, nat_tests)

own_of : (b : ℕ) (bytes : List ℕ) → eqb b 92 ≡ false → 1 + length (unescaped (take (escaped_len false bytes) bytes)) ≡ count_by (λ b. not (eqb b 92)) (take (1 + escaped_len false bytes) (b ∷ bytes))
own_of b bytes e =
    let more : 1 + escaped_len false bytes ≡ suc (escaped_len false bytes) = omega arith in
    let front : length (unescaped (take (1 + escaped_len false bytes) (b ∷ bytes))) ≡ 1 + length (unescaped (take (escaped_len false bytes) bytes)) = rw (more, e) (omega arith) in
    sym front ∙ length-filter (λ b. not (eqb b 92)) (take (1 + escaped_len false bytes) (b ∷ bytes))

pub id_word : (text : List ℕ) → 0 < id_len true text → IsWord is_of_id (unescaped (take (id_len true text) text))
id_word [] lt = absurd (omega arith)
id_word (b ∷ bytes) lt = by_initial b bytes (is_initial b) refl lt
  where
    by_len : (b : ℕ) (bytes : List ℕ) (t : Bool) → is_initial b ≡ true → ltb 64 (count_by (λ b. not (eqb b 92)) (take (1 + escaped_len false bytes) (b ∷ bytes))) ≡ t → 0 < id_len true (b ∷ bytes) → IsWord is_of_id (unescaped (take (id_len true (b ∷ bytes)) (b ∷ bytes)))
    by_len b bytes true i e lt = let none : id_len true (b ∷ bytes) ≡ 0 = rw (i, e) refl in absurd (omega arith)
    by_len b bytes false i e lt =
        let more : 1 + escaped_len false bytes ≡ suc (escaped_len false bytes) = omega arith in
        let no-backslash : eqb b 92 ≡ false = initial_no_backslash b i in
        let len : id_len true (b ∷ bytes) ≡ suc (escaped_len false bytes) = rw (i, e) more in
        let own : 1 + length (unescaped (take (escaped_len false bytes) bytes)) ≡ count_by (λ b. not (eqb b 92)) (take (1 + escaped_len false bytes) (b ∷ bytes)) = own_of b bytes no-backslash in
        rw (len, no-backslash) (i, (taken bytes).0, omega (arith, ltb-false _ _ e))

    by_initial : (b : ℕ) (bytes : List ℕ) (t : Bool) → is_initial b ≡ t → 0 < id_len true (b ∷ bytes) → IsWord is_of_id (unescaped (take (id_len true (b ∷ bytes)) (b ∷ bytes)))
    by_initial b bytes true i lt = by_len b bytes (ltb 64 (count_by (λ b. not (eqb b 92)) (take (1 + escaped_len false bytes) (b ∷ bytes)))) i refl lt
    by_initial b bytes false i lt = let none : id_len true (b ∷ bytes) ≡ 0 = rw i refl in absurd (omega arith)
