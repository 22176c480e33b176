-- The orders of numbers and of times.
use Rattle.std.proofs.Common.{◌≡◌, refl, ap, ℤ, true, false, arith}
use Rattle.std.specs.Prelude.{pos, negsuc, ◌≤ℤ◌, ◌<ℤ◌, int_le, int_lt, not}
use Rattle.std.proofs.Math.Nat.{le_antisymm}
use Rattle.std.proofs.lemmas.Bool.{leb-true}
use Rattle.std.proofs.lemmas.Int.{ints}
use Rattle.smil_model.specs.declared.times.Time.{Time}
use Rattle.smil_model.specs.declared.times.Time.TheVariants.{At, Indefinite, Unresolved}
use Rattle.smil_model.specs.Times.{time_le}
use Rattle.smil_model.specs.Rising.{IsOrder}

-- ---- numbers

pub is_le : (a b : ℤ) → a ≤ℤ b → int_le a b ≡ true
is_le a b q = grind (arith, ints, q)

pub le_from : (a b : ℤ) → int_le a b ≡ true → a ≤ℤ b
le_from a b q = grind (arith, ints, q)

pub lt_from : (a b : ℤ) → int_le a b ≡ false → b <ℤ a
lt_from a b q = grind (arith, ints, q)

pub le_self : (a : ℤ) → int_le a a ≡ true
le_self a = grind (arith, ints)

pub le_both : (a b c : ℤ) → int_le a b ≡ true → int_le b c ≡ true → int_le a c ≡ true
le_both a b c p q = grind (arith, ints)

pub le_total : (a b : ℤ) → int_le a b ≡ false → int_le b a ≡ true
le_total a b q = let s : b <ℤ a = lt_from a b q in is_le b a (omega (arith, ints, s))

pub le_exact : (a b : ℤ) → int_le a b ≡ true → int_le b a ≡ true → a ≡ b
le_exact (pos a) (pos b) q r = ap pos (le_antisymm (leb-true a b q) (leb-true b a r))
le_exact (pos a) (negsuc b) q r = cc
le_exact (negsuc a) (pos b) q r = cc
le_exact (negsuc a) (negsuc b) q r = ap negsuc (le_antisymm (leb-true a b r) (leb-true b a q))

pub not_le_is_lt : (v b : ℤ) → int_lt v b ≡ not (int_le b v)
not_le_is_lt v b = grind (arith, ints)

pub numbers_order : IsOrder int_le
numbers_order = record { total = le_total; transitive = le_both; exact = le_exact }

-- ---- times

pub time_self : (t : Time) → time_le t t ≡ true
time_self (At x) = le_self x
time_self Indefinite = refl
time_self Unresolved = refl

pub time_both : (s t u : Time) → time_le s t ≡ true → time_le t u ≡ true → time_le s u ≡ true
time_both (At x) (At y) (At z) q r = le_both x y z q r
time_both (At x) Indefinite (At z) q r = cc
time_both (At x) Unresolved (At z) q r = cc
time_both (At x) t Indefinite q r = refl
time_both (At x) t Unresolved q r = refl
time_both Indefinite (At y) u q r = cc
time_both Indefinite Indefinite u q r = r
time_both Indefinite Unresolved (At z) q r = r
time_both Indefinite Unresolved Indefinite q r = refl
time_both Indefinite Unresolved Unresolved q r = refl
time_both Unresolved (At y) u q r = cc
time_both Unresolved Indefinite u q r = cc
time_both Unresolved Unresolved u q r = r

pub time_total : (s t : Time) → time_le s t ≡ false → time_le t s ≡ true
time_total (At x) (At y) q = le_total x y q
time_total (At x) Indefinite q = cc
time_total (At x) Unresolved q = cc
time_total Indefinite (At y) q = refl
time_total Indefinite Indefinite q = refl
time_total Indefinite Unresolved q = cc
time_total Unresolved (At y) q = refl
time_total Unresolved Indefinite q = refl
time_total Unresolved Unresolved q = refl

pub time_exact : (s t : Time) → time_le s t ≡ true → time_le t s ≡ true → s ≡ t
time_exact (At x) (At y) q r = ap At (le_exact x y q r)
time_exact (At x) Indefinite q r = cc
time_exact (At x) Unresolved q r = cc
time_exact Indefinite (At y) q r = cc
time_exact Indefinite Indefinite q r = refl
time_exact Indefinite Unresolved q r = cc
time_exact Unresolved (At y) q r = cc
time_exact Unresolved Indefinite q r = cc
time_exact Unresolved Unresolved q r = refl

pub times_order : IsOrder time_le
times_order = record { total = time_total; transitive = time_both; exact = time_exact }
