-- Which layer is above: an order, total where no two stand at one place.
use Rattle.std.proofs.Common.{◌≡◌, ℕ, ℤ, Bool, true, false, arith}
use Rattle.std.specs.Prelude.{nat_lt, ◌==◌, ◌&&◌, ◌||◌, int_lt, int_le}
use Rattle.std.proofs.lemmas.Int.{ints}
use Rattle.std.proofs.lemmas.Bool.Decides.{nat_tests}
use Rattle.smil_model.specs.declared.view.Layer.{Layer}
use Rattle.smil_model.specs.shown.Sandwich.{is_above}

-- what is above by begin and place
abbrev above : ℤ → ℕ → ℤ → ℕ → Bool
above a i b j = int_lt b a || (int_le b a && nat_lt j i)

pub through : (a b c : ℤ) (i j k : ℕ) → above a i b j ≡ true → above b j c k ≡ true → above a i c k ≡ true
through a b c i j k h g = grind (arith, ints, nat_tests)

pub one_way : (a b : ℤ) (i j : ℕ) → above a i b j ≡ true → above b j a i ≡ false
one_way a b i j h = grind (arith, ints, nat_tests)

pub either : (a b : ℤ) (i j : ℕ) → (j == i) ≡ false → above a i b j ≡ false → above b j a i ≡ true
either a b i j apart h = grind (arith, ints, nat_tests)

pub stays : (a b c : ℤ) (i j k : ℕ) → above a i c k ≡ false → above b j c k ≡ true → above a i b j ≡ false
stays a b c i j k h g = grind (arith, ints, nat_tests)

pub is_above_through : (a b c : Layer) → is_above a b ≡ true → is_above b c ≡ true → is_above a c ≡ true
is_above_through a b c = through a.begin b.begin c.begin a.position b.position c.position

pub is_above_one_way : (a b : Layer) → is_above a b ≡ true → is_above b a ≡ false
is_above_one_way a b = one_way a.begin b.begin a.position b.position

pub is_above_either : (a b : Layer) → (b.position == a.position) ≡ false → is_above a b ≡ false → is_above b a ≡ true
is_above_either a b = either a.begin b.begin a.position b.position

pub is_above_stays : (a b c : Layer) → is_above a c ≡ false → is_above b c ≡ true → is_above a b ≡ false
is_above_stays a b c = stays a.begin b.begin c.begin a.position b.position c.position
