-- The least of numbers that may each be absent, taken in groups and in any order.
use Rattle.std.proofs.Common.{◌≡◌, ◌∙◌, ap, sym, refl, ℕ, Bool, true, false, List, [], ◌∷◌, ◌++◌, arith}
use Rattle.std.specs.Prelude.{Option, None, Some, fold, if◌then◌else◌, nat_lt}
use Rattle.std.proofs.lemmas.List.Sums.{fold-append}
use Rattle.smil_nodes.specs.Slots.{earlier_of, least_number}

-- which of three is the least does not depend on which two are compared first
number_grouped : (a b c : ℕ) → earlier_of (earlier_of (Some a) (Some b)) (Some c) ≡ earlier_of (Some a) (earlier_of (Some b) (Some c))
number_grouped a b c =
    elim (nat_lt b a) as (λ (t : Bool). nat_lt b a ≡ t → earlier_of (if t then Some b else Some a) (Some c) ≡ earlier_of (Some a) (earlier_of (Some b) (Some c))) [
      | true ↦ λ ba.
          elim (nat_lt c b) as (λ (t : Bool). nat_lt c b ≡ t → (if t then Some c else Some b) ≡ earlier_of (Some a) (if t then Some c else Some b)) [
            | true ↦ λ cb. let ca : nat_lt c a ≡ true = grind (arith, ba, cb) in sym (ap (λ (t : Bool). if t then Some c else Some a) ca)
            | false ↦ λ cb. sym (ap (λ (t : Bool). if t then Some b else Some a) ba)
          ] refl
      | false ↦ λ ba.
          elim (nat_lt c b) as (λ (t : Bool). nat_lt c b ≡ t → earlier_of (Some a) (Some c) ≡ earlier_of (Some a) (if t then Some c else Some b)) [
            | true ↦ λ cb. refl
            | false ↦ λ cb.
                let ca : nat_lt c a ≡ false = grind (arith, ba, cb) in
                ap (λ (t : Bool). if t then Some c else Some a) ca
                ∙ sym (ap (λ (t : Bool). if t then Some b else Some a) ba)
          ] refl
    ] refl

pub grouped : (a b c : Option ℕ) → earlier_of (earlier_of a b) c ≡ earlier_of a (earlier_of b c)
grouped None b c = refl
grouped (Some a) None c = refl
grouped (Some a) (Some b) None =
    elim (nat_lt b a) as (λ (t : Bool). earlier_of (if t then Some b else Some a) None ≡ (if t then Some b else Some a)) [ true ↦ refl | false ↦ refl ]
grouped (Some a) (Some b) (Some c) = number_grouped a b c

swapped_numbers : (a b : ℕ) → earlier_of (Some a) (Some b) ≡ earlier_of (Some b) (Some a)
swapped_numbers a b =
    elim (nat_lt b a) as (λ (t : Bool). nat_lt b a ≡ t → (if t then Some b else Some a) ≡ earlier_of (Some b) (Some a)) [
      | true ↦ λ e. let other : nat_lt a b ≡ false = grind (arith, e) in sym (ap (λ (t : Bool). if t then Some a else Some b) other)
      | false ↦ λ e.
          elim (nat_lt a b) as (λ (t : Bool). nat_lt a b ≡ t → Some a ≡ (if t then Some a else Some b)) [
            | true ↦ λ f. refl
            | false ↦ λ f. let same : a ≡ b = grind (arith, e, f) in ap Some same
          ] refl
    ] refl

-- nor on their order
pub swapped : (a b : Option ℕ) → earlier_of a b ≡ earlier_of b a
swapped None None = refl
swapped None (Some b) = refl
swapped (Some a) None = refl
swapped (Some a) (Some b) = swapped_numbers a b

none_last : (sofar : Option ℕ) → sofar ≡ earlier_of sofar None
none_last None = refl
none_last (Some n) = refl

from_sofar : (sofar : Option ℕ) (ns : List (Option ℕ)) → fold earlier_of sofar ns ≡ earlier_of sofar (fold earlier_of None ns)
from_sofar sofar [] = none_last sofar
from_sofar sofar (n ∷ ns) =
    from_sofar (earlier_of sofar n) ns
    ∙ grouped sofar n (fold earlier_of None ns)
    ∙ ap (earlier_of sofar) (sym (from_sofar n ns))

-- the least number of a slot in front of others
pub least_beside : (slot : Option ℕ) (slots : List (Option ℕ)) → least_number (slot ∷ slots) ≡ earlier_of slot (least_number slots)
least_beside slot slots = from_sofar slot slots

pub least_of_both : (xs ys : List (Option ℕ)) → least_number (xs ++ ys) ≡ earlier_of (least_number xs) (least_number ys)
least_of_both xs ys = fold-append earlier_of None xs ys ∙ from_sofar (least_number xs) ys

same_twice : (a : Option ℕ) → earlier_of a a ≡ a
same_twice None = refl
same_twice (Some n) = elim (nat_lt n n) as (λ (t : Bool). (if t then Some n else Some n) ≡ Some n) [ true ↦ refl | false ↦ refl ]

-- what is less than the least of some is the least of them where it stands in the place of one
pub least_changed : (front back : List (Option ℕ)) (before changed : Option ℕ) → earlier_of (least_number (front ++ before ∷ back)) changed ≡ changed → least_number (front ++ changed ∷ back) ≡ changed
least_changed front back before changed less =
    spread changed
    ∙ ap (λ t. earlier_of (least_number front) t) (swapped changed (least_number back))
    ∙ sym (grouped (least_number front) (least_number back) changed)
    ∙ ap (earlier_of others) (sym whole)
    ∙ sym (grouped others (earlier_of others before) changed)
    ∙ ap (λ t. earlier_of t changed) (sym (grouped others others before) ∙ ap (λ t. earlier_of t before) (same_twice others))
    ∙ whole
  where
    others : Option ℕ
    others = earlier_of (least_number front) (least_number back)

    spread : (slot : Option ℕ) → least_number (front ++ slot ∷ back) ≡ earlier_of (least_number front) (earlier_of slot (least_number back))
    spread slot = least_of_both front (slot ∷ back) ∙ ap (earlier_of (least_number front)) (least_beside slot back)

    whole : earlier_of (earlier_of others before) changed ≡ changed
    whole =
        ap (λ t. earlier_of t changed)
        (grouped (least_number front) (least_number back) before
        ∙ ap (earlier_of (least_number front)) (swapped (least_number back) before)
        ∙ sym (spread before))
        ∙ less
