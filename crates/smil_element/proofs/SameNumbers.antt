-- What comes of two elements is the same where its numbers are.
use Rattle.std.proofs.Common.{◌≡◌, refl, sym, ◌∙◌, ap, subst, ℤ, Bool, true, false}
use Rattle.std.specs.Prelude.{◌&&◌, nat_eq}
use Rattle.std.specs.Bool.{beq}
use Rattle.std.proofs.lemmas.Bool.{and_from, and_parts, eq-eqb, eqb-true}
use mir.Syntax.{w64}
use mir.Val.{to_z, of_z}
use Rattle.smil_element.specs.declared.comings.DueChanges.TheInside.{Inside}
use Rattle.smil_element.specs.Packed.{AreCanonical, changes_in, numbers_of, same_numbers}

abbrev pub is_same_number : ℤ → ℤ → Bool
is_same_number x y = nat_eq (of_z w64 x) (of_z w64 y)

-- a number that is read as it is
abbrev pub IsRead : ℤ → Type 0
IsRead x = to_z w64 (of_z w64 x) ≡ x

same_number : (x y : ℤ) → IsRead x → IsRead y → is_same_number x y ≡ true → x ≡ y
same_number x y reads_x reads_y is = sym reads_x ∙ ap (to_z w64) (eqb-true _ _ is) ∙ reads_y

same_test : (x y : Bool) → beq x y ≡ true → x ≡ y
same_test true true is = refl
same_test true false is = cc
same_test false true is = cc
same_test false false is = refl

self_test : (x : Bool) → beq x x ≡ true
self_test true = refl
self_test false = refl

-- whether all numbers are the same
abbrev pub are_same : Inside → Inside → Bool
are_same a b =
    (((((((nat_eq a.place b.place && nat_eq a.serial b.serial) && nat_eq a.class b.class) && beq a.repeats b.repeats)
    && is_same_number a.moment b.moment) && is_same_number a.value b.value) && is_same_number a.repeat_moment b.repeat_moment)
    && is_same_number a.start b.start)

-- the numbers are read as they are
pub record AreRead (a : Inside) : Type 0 where
  pub moment : IsRead a.moment
  pub value : IsRead a.value
  pub repeat_moment : IsRead a.repeat_moment
  pub start : IsRead a.start

pub same_changes : (a b : Inside) → AreRead a → AreRead b → are_same a b ≡ true → changes_in a ≡ changes_in b
same_changes a b reads_a reads_b is =
    let start = and_parts _ _ is in
    let repeat_moment = and_parts _ _ start.0 in
    let value = and_parts _ _ repeat_moment.0 in
    let moment = and_parts _ _ value.0 in
    let repeats = and_parts _ _ moment.0 in
    let class = and_parts _ _ repeats.0 in
    let serial = and_parts _ _ class.0 in
    let one : a ≡ b =
    (λ i. record {
      place = eqb-true a.place b.place serial.0 i;
      serial = eqb-true a.serial b.serial serial.1 i;
      class = eqb-true a.class b.class class.1 i;
      repeats = same_test a.repeats b.repeats repeats.1 i;
      moment = same_number a.moment b.moment reads_a.moment reads_b.moment moment.1 i;
      value = same_number a.value b.value reads_a.value reads_b.value value.1 i;
      repeat_moment = same_number a.repeat_moment b.repeat_moment reads_a.repeat_moment reads_b.repeat_moment repeat_moment.1 i;
      start = same_number a.start b.start reads_a.start reads_b.start start.1 i;
    }) in
    ap changes_in one

self_same : (a : Inside) → are_same a a ≡ true
self_same a =
    and_from _ _
    (and_from _ _
    (and_from _ _
    (and_from _ _
    (and_from _ _
    (and_from _ _ (and_from _ _ (eq-eqb a.place a.place refl) (eq-eqb a.serial a.serial refl)) (eq-eqb a.class a.class refl))
    (self_test a.repeats))
    (eq-eqb (of_z w64 a.moment) (of_z w64 a.moment) refl))
    (eq-eqb (of_z w64 a.value) (of_z w64 a.value) refl))
    (eq-eqb (of_z w64 a.repeat_moment) (of_z w64 a.repeat_moment) refl))
    (eq-eqb (of_z w64 a.start) (of_z w64 a.start) refl)

pub told_same : (a b : Inside) → AreCanonical a → AreCanonical b → changes_in a ≡ changes_in b → are_same a b ≡ true
told_same a b zero_a zero_b same =
    let one : a ≡ b = sym (same_numbers a zero_a) ∙ ap numbers_of same ∙ same_numbers b zero_b in
    subst (λ (x : Inside). are_same a x ≡ true) one (self_same a)
