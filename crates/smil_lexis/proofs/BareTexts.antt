-- Texts with few backslashes or none.
use Rattle.std.proofs.Common.{◌≡◌, ℕ, ◌≤◌, true, false, not, eqb, ltb, List, [], ◌∷◌, take, refl, ap, arith, length-take}
use Rattle.std.specs.List.{count_by, list_all}
use Rattle.std.proofs.lemmas.Bool.{and_parts, le-ltb}
use Rattle.std.proofs.lemmas.List.Sums.{count_by-le-length}
use Rattle.smil_model.specs.declared.limits.TheConstants.{ID_BYTES}
use Rattle.smil_model.specs.document.Words.{backslash}
use Rattle.smil_grammar.specs.Words.{short_len, unescaped}

-- it is as it is without them
pub bare_stays : (text : List ℕ) → list_all (λ b. not (eqb b backslash)) text ≡ true → unescaped text ≡ text
bare_stays [] e = refl
bare_stays (b ∷ text) e =
    let p = and_parts (not (eqb b backslash)) (list_all (λ b. not (eqb b backslash)) text) e in
    rw p.0 (ap (λ (l : List ℕ). b ∷ l) (bare_stays text p.1))

-- a word of so few bytes isn't too long, whatever its backslashes
pub short_id : (n : ℕ) (text : List ℕ) → n ≤ ID_BYTES → short_len ID_BYTES (count_by (λ b. not (eqb b backslash)) (take n text)) n ≡ n
short_id n text le =
    let own : ℕ = count_by (λ b. not (eqb b backslash)) (take n text) in
    let few : own ≤ ID_BYTES = omega (arith, count_by-le-length (λ b. not (eqb b backslash)) (take n text), length-take n text) in
    let test : ltb ID_BYTES own ≡ false = le-ltb _ _ few in
    rw test refl
