-- The comparison of keys orders them as the model does, and tells all keys apart.
use Rattle.std.proofs.Common.{◌≡◌, ◌≢◌, ◌∙◌, ap, sym, ℕ, refl, Bool, true, false, arith, Ordering}
use Rattle.std.specs.Prelude.{pos, neg_ℤ, ◌||◌, ◌==◌, if◌then◌else◌}
use Rattle.std.proofs.Common.{Less, Equal, Greater}
use Rattle.std.specs.Ordering.{nat_cmp, int_cmp, bool_cmp, is_lt, is_gt, ordering_then, ordering_reverse}
use Rattle.std.specs.Cmp.{tied_itself}
use Rattle.std.specs.FinSet.{IsAntisymmetric, nat_cmp-IsAntisymmetric, int_cmp-IsAntisymmetric}
use Rattle.std.proofs.lemmas.Bool.Decides.{nat_tests}
use Rattle.std.proofs.lemmas.Int.{ints}
use Rattle.smil_model.specs.declared.happening.TheConstants.{BEGIN_CLASS}
use Rattle.smil_model.specs.declared.happening.Key.{Key}
use Rattle.smil_model.specs.happening.Keys.{comes_before}
use Rattle.smil_due.specs.Order.{turn, happening_cmp, key_cmp, happening_cmp_total}
use Rattle.smil_due.specs.Laws.{IsIrreflexive, IsTransitive, IsTotal, HasSerial, KeepsOrder}

-- the model's order is that of the comparison
pub before_is_less : (a b : Key) → comes_before a b ≡ is_lt (happening_cmp a b)
before_is_less a b = grind (arith, nat_tests)

-- ---- what ties

tie_first : (x y : Ordering) → ordering_then x y ≡ Equal → x ≡ Equal
tie_first Less y e = e
tie_first Equal y e = refl
tie_first Greater y e = e

tie_second : (x y : Ordering) → ordering_then x y ≡ Equal → y ≡ Equal
tie_second Less y e = absurd (cc)
tie_second Equal y e = e
tie_second Greater y e = absurd (cc)

bool_tie : (x y : Bool) → bool_cmp x y ≡ Equal → x ≡ y
bool_tie false false e = refl
bool_tie false true e = absurd (cc)
bool_tie true false e = absurd (cc)
bool_tie true true e = refl

pos_same : (m n : ℕ) → pos m ≡ pos n → m ≡ n
pos_same m n e = cc

neg_same : (m n : ℕ) → neg_ℤ (pos m) ≡ neg_ℤ (pos n) → m ≡ n
neg_same m n e = omega (arith, ints)

turn_same : (t : Bool) (m n : ℕ) → (if t then pos m else neg_ℤ (pos m)) ≡ (if t then pos n else neg_ℤ (pos n)) → m ≡ n
turn_same true m n e = pos_same m n e
turn_same false m n e = neg_same m n e

-- keys that tie by when they happen are of one moment, class, place and kind
pub record AreAlike (a b : Key) : Type 0 where
  pub value : a.value ≡ b.value
  pub class : a.class ≡ b.class
  pub position : a.position ≡ b.position
  pub repeat : a.repeat ≡ b.repeat

pub alike_from_tie : (a b : Key) → happening_cmp a b ≡ Equal → AreAlike a b
alike_from_tie a b e =
    let moment_class_turn = tie_first _ (bool_cmp a.repeat b.repeat) e in
    let moment_class = tie_first _ (int_cmp (turn a) (turn b)) moment_class_turn in
    let class : a.class ≡ b.class = nat_cmp-IsAntisymmetric a.class b.class (tie_second _ _ moment_class) in
    let turns : turn a ≡ turn b = int_cmp-IsAntisymmetric (turn a) (turn b) (tie_second _ _ moment_class_turn) in
    let same_class : turn a ≡ (if b.class == BEGIN_CLASS then pos a.position else neg_ℤ (pos a.position)) = ap (λ (class : ℕ). if class == BEGIN_CLASS then pos a.position else neg_ℤ (pos a.position)) class in
    record {
      value = int_cmp-IsAntisymmetric a.value b.value (tie_first _ (nat_cmp a.class b.class) moment_class);
      class = class;
      position = turn_same (b.class == BEGIN_CLASS) a.position b.position (sym same_class ∙ turns);
      repeat = bool_tie a.repeat b.repeat (tie_second _ _ e);
    }

pub same_from_alike : (a b : Key) → AreAlike a b → a.serial ≡ b.serial → a ≡ b
same_from_alike a b h serial = λ i. record { value = h.value i; class = h.class i; position = h.position i; serial = serial i; repeat = h.repeat i }

-- no two keys tie in the whole order
pub key_cmp_antisymmetric : IsAntisymmetric key_cmp
key_cmp_antisymmetric a b e =
    same_from_alike a b (alike_from_tie a b (tie_first _ (nat_cmp a.serial b.serial) e)) (nat_cmp-IsAntisymmetric a.serial b.serial (tie_second (happening_cmp a b) _ e))

-- ---- the laws

pub less_from : (o : Ordering) → is_lt o ≡ true → o ≡ Less
less_from Less e = refl
less_from Equal e = absurd (cc)
less_from Greater e = absurd (cc)

pub irreflexive : IsIrreflexive
irreflexive a = before_is_less a a ∙ ap is_lt (tied_itself happening_cmp_total a)

pub transitive : IsTransitive
transitive a b c ab bc =
    before_is_less a c
    ∙ ap is_lt (happening_cmp_total.trans a b c (less_from _ (sym (before_is_less a b) ∙ ab)) (less_from _ (sym (before_is_less b c) ∙ bc)))

-- the queue's order keeps it
pub keeps_order : KeepsOrder
keeps_order a b e = ap (λ o. ordering_then o (nat_cmp a.serial b.serial)) (less_from _ (sym (before_is_less a b) ∙ e))

either : (o : Ordering) → o ≢ Equal → (is_lt o || is_lt (ordering_reverse o)) ≡ true
either Less differ = refl
either Equal differ = absurd (differ refl)
either Greater differ = refl

pub total : IsTotal
total serial_at a b has_a has_b differ =
    rw (before_is_less a b, before_is_less b a, happening_cmp_total.antisymm b a)
    (either (happening_cmp a b) (λ tie.
    let alike = alike_from_tie a b tie in
    differ (same_from_alike a b alike (has_a ∙ ap serial_at alike.position ∙ sym has_b))))

one_way : (o : Ordering) → is_lt o ≡ true → is_lt (ordering_reverse o) ≡ false
one_way Less e = refl
one_way Equal e = refl
one_way Greater e = absurd (cc)

pub asymmetric : (a b : Key) → comes_before a b ≡ true → comes_before b a ≡ false
asymmetric a b e = before_is_less b a ∙ ap is_lt (happening_cmp_total.antisymm b a) ∙ one_way _ (sym (before_is_less a b) ∙ e)

up_by : (x y : Ordering) → is_gt (ordering_then x y) ≡ false → x ≢ Equal → is_lt x ≡ true
up_by Less y up differ = refl
up_by Equal y up differ = absurd (differ refl)
up_by Greater y up differ = absurd (cc)

-- of keys of one document, one that is above none comes before each other one
pub before_others : (serial_at : ℕ → ℕ) (a b : Key) → HasSerial serial_at a → HasSerial serial_at b → is_gt (key_cmp a b) ≡ false → a ≢ b → comes_before a b ≡ true
before_others serial_at a b has_a has_b up differ =
    before_is_less a b
    ∙ up_by (happening_cmp a b) (nat_cmp a.serial b.serial) up (λ tie.
    let alike = alike_from_tie a b tie in
    differ (same_from_alike a b alike (has_a ∙ ap serial_at alike.position ∙ sym has_b)))
