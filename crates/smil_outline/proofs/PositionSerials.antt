-- Positions of nodes as their serials.
use Rattle.std.proofs.Common.{◌≡◌, ℕ, suc, ◌+◌, ◌<◌, Bool, true, false, eqb, ltb, List, [], ◌∷◌, ◌++◌, length, refl, sym, ◌∙◌, arith, length-append}
use Rattle.std.specs.List.{list_any, position_or_len}
use Rattle.std.proofs.lemmas.Bool.{or_parts, eq-eqb, eqb-true, lt-ltb, le-ltb, ltb-true}
use Rattle.std.proofs.lemmas.Bool.Decides.{nat_tests}
use Rattle.smil_model.specs.declared.document.Node.{Node}
use Rattle.smil_model.specs.document.Valid.{IsDistinct}
use Rattle.smil_outline.specs.Numbered.{number_of}

abbrev pub place_of : List Node → ℕ → ℕ
place_of nodes serial = position_or_len (λ (n : Node). eqb n.serial serial) nodes

place_behind : (front : List Node) (n : Node) (rest : List Node) (serial : ℕ) → list_any (λ (m : Node). eqb m.serial serial) front ≡ false → eqb n.serial serial ≡ true → place_of (front ++ n ∷ rest) serial ≡ length front
place_behind [] n rest serial e here = rw here refl
place_behind (m ∷ front) n rest serial e here =
    let parts = or_parts (eqb m.serial serial) (list_any (λ (m : Node). eqb m.serial serial) front) e in
    let more : place_of (front ++ n ∷ rest) serial ≡ length front = place_behind front n rest serial parts.1 here in
    rw parts.0 (omega arith)

pub counted : (nodes : List Node) (serial place : ℕ) → place_of nodes serial ≡ place → place < length nodes → number_of nodes serial ≡ suc place
counted nodes serial place e lt = let t : ltb place (length nodes) ≡ true = lt-ltb _ _ lt in rw (e, t) refl

-- the number of a node is one more than those before it
pub number_is : (front : List Node) (n : Node) (rest : List Node) → list_any (λ (m : Node). eqb m.serial n.serial) front ≡ false → number_of (front ++ n ∷ rest) n.serial ≡ suc (length front)
number_is front n rest e = counted (front ++ n ∷ rest) n.serial (length front) (place_behind front n rest n.serial e (eq-eqb _ _ refl)) (omega (arith, length-append front (n ∷ rest)))

place_past : (nodes : List Node) (serial : ℕ) → list_any (λ (m : Node). eqb m.serial serial) nodes ≡ false → place_of nodes serial ≡ length nodes
place_past [] serial e = refl
place_past (m ∷ nodes) serial e =
    let parts = or_parts (eqb m.serial serial) (list_any (λ (m : Node). eqb m.serial serial) nodes) e in
    let more : place_of nodes serial ≡ length nodes = place_past nodes serial parts.1 in
    rw parts.0 (omega arith)

-- no node has the number 0
pub number_none : (nodes : List Node) (serial : ℕ) → list_any (λ (m : Node). eqb m.serial serial) nodes ≡ false → number_of nodes serial ≡ 0
number_none nodes serial e =
    let t : ltb (length nodes) (length nodes) ≡ false = le-ltb _ _ (omega arith) in
    rw (place_past nodes serial e, t) refl

-- numbers are those of one serial alone

same_place : (nodes : List Node) (a b : ℕ) → place_of nodes a ≡ place_of nodes b → place_of nodes b < length nodes → a ≡ b
same_place [] a b e lt = absurd (omega arith)
same_place (n ∷ nodes) a b e lt = by n nodes a b (eqb n.serial a) (eqb n.serial b) refl refl e lt (same_place nodes a b)
  where
    by : (n : Node) (nodes : List Node) (a b : ℕ) (s t : Bool) → eqb n.serial a ≡ s → eqb n.serial b ≡ t → place_of (n ∷ nodes) a ≡ place_of (n ∷ nodes) b → place_of (n ∷ nodes) b < length (n ∷ nodes)
        → (place_of nodes a ≡ place_of nodes b → place_of nodes b < length nodes → a ≡ b) → a ≡ b
    by n nodes a b true true s t e lt other = sym (eqb-true _ _ s) ∙ eqb-true _ _ t
    by n nodes a b true false s t e lt other =
        let first : place_of (n ∷ nodes) a ≡ 0 = rw s refl in
        let second : place_of (n ∷ nodes) b ≡ 1 + place_of nodes b = rw t refl in
        absurd (omega arith)
    by n nodes a b false true s t e lt other =
        let first : place_of (n ∷ nodes) a ≡ 1 + place_of nodes a = rw s refl in
        let second : place_of (n ∷ nodes) b ≡ 0 = rw t refl in
        absurd (omega arith)
    by n nodes a b false false s t e lt other =
        let first : place_of (n ∷ nodes) a ≡ 1 + place_of nodes a = rw s refl in
        let second : place_of (n ∷ nodes) b ≡ 1 + place_of nodes b = rw t refl in
        other (omega arith) (omega arith)

number_cases : (nodes : List Node) (serial : ℕ) → 0 < number_of nodes serial → (place_of nodes serial < length nodes) × (number_of nodes serial ≡ suc (place_of nodes serial))
number_cases nodes serial some = by nodes serial (ltb (place_of nodes serial) (length nodes)) refl some
  where
    by : (nodes : List Node) (serial : ℕ) (t : Bool) → ltb (place_of nodes serial) (length nodes) ≡ t → 0 < number_of nodes serial → (place_of nodes serial < length nodes) × (number_of nodes serial ≡ suc (place_of nodes serial))
    by nodes serial true t some = (ltb-true _ _ t, counted nodes serial (place_of nodes serial) refl (ltb-true _ _ t))
    by nodes serial false t some = let none : number_of nodes serial ≡ 0 = rw t refl in absurd (omega arith)

pub number_once : (nodes : List Node) (a b : ℕ) → number_of nodes a ≡ number_of nodes b → 0 < number_of nodes b → a ≡ b
number_once nodes a b e some =
    let first = number_cases nodes a (omega arith) in
    let second = number_cases nodes b some in
    same_place nodes a b (omega arith) second.0

-- serials before a node are others

pub differ_before : (front : List Node) (n : Node) (rest : List Node) → IsDistinct (front ++ n ∷ rest) → list_any (λ (m : Node). eqb m.serial n.serial) front ≡ false
differ_before [] n rest h = refl
differ_before (m ∷ front) n rest h = rw (turned m n (passed front n rest m.serial h.0)) (differ_before front n rest h.1)
  where
    turned : (m n : Node) → eqb n.serial m.serial ≡ false → eqb m.serial n.serial ≡ false
    turned m n e = grind (arith, nat_tests)

    passed : (front : List Node) (n : Node) (rest : List Node) (serial : ℕ) → list_any (λ (x : Node). eqb x.serial serial) (front ++ n ∷ rest) ≡ false → eqb n.serial serial ≡ false
    passed [] n rest serial e = (or_parts (eqb n.serial serial) (list_any (λ (x : Node). eqb x.serial serial) rest) e).0
    passed (m ∷ front) n rest serial e = passed front n rest serial (or_parts (eqb m.serial serial) (list_any (λ (x : Node). eqb x.serial serial) (front ++ n ∷ rest)) e).1
