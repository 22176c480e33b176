-- The numbers of near keys are in the order of the keys, and tell their places.
use Rattle.std.proofs.Common.{◌≡◌, ◌∙◌, ap, sym, refl, ℕ, ◌<◌, ◌≤◌, ◌+◌, ◌*◌, ◌-◌, ℤ, Bool, true, false, arith}
use Rattle.std.specs.Prelude.{pos, neg_ℤ, nat_abs, ◌+ℤ◌, ◌≤ℤ◌, ◌/◌, ◌%◌, ◌^◌, int_lt, int_le, nat_lt, not, ◌&&◌, ◌||◌, ◌==◌, if◌then◌else◌}
use Rattle.std.proofs.lemmas.Bool.{eq-eqb, eqb-true}
use Rattle.std.proofs.lemmas.Int.{ints}
use Rattle.smil_model.specs.declared.happening.Key.{Key}
use Rattle.smil_model.specs.happening.Keys.{comes_before}
use Rattle.smil_nodes.specs.Slots.{IsNearKey, moment_number, number_of, place_in, repeats, turned}

-- the number of a near moment
moment_of : (value : ℤ) → neg_ℤ (pos (2 ^ 44)) ≤ℤ value → value ≤ℤ pos (2 ^ 44 - 1) → pos (moment_number value) ≡ value +ℤ pos (2 ^ 44)
moment_of value low high =
    let first : int_lt value (neg_ℤ (pos (2 ^ 44))) ≡ false = grind (arith, ints, low) in
    let second : int_lt value (pos (2 ^ 44)) ≡ true = grind (arith, ints, high) in
    ap pos
    (ap (λ (t : Bool). if t then 0 else (if int_lt value (pos (2 ^ 44)) then nat_abs (value +ℤ pos (2 ^ 44)) else 2 ^ 45 - 1)) first
    ∙ ap (λ (t : Bool). if t then nat_abs (value +ℤ pos (2 ^ 44)) else 2 ^ 45 - 1) second)
    ∙ omega (arith, ints, low)

-- ---- the digits of a number

number_from : ℕ → ℕ → ℕ → Bool → ℕ
number_from moment class turn repeat = ((moment * 4 + class) * 2 ^ 13 + turn) * 2 + (if repeat then 1 else 0)

bit_below : (t : Bool) → (if t then 1 else 0) < 2
bit_below true = omega arith
bit_below false = omega arith

turn_below : (class place : ℕ) → place < 2 ^ 13 → turned class place < 2 ^ 13
turn_below class place few = by_class (class == 2)
  where
    by_class : (t : Bool) → (if t then place else 2 ^ 13 - 1 - place) < 2 ^ 13
    by_class true = few
    by_class false = omega arith

turned_back : (class place : ℕ) → place < 2 ^ 13 → turned class (turned class place) ≡ place
turned_back class place few = by_class (class == 2)
  where
    by_class : (t : Bool) → (if t then (if t then place else 2 ^ 13 - 1 - place) else 2 ^ 13 - 1 - (if t then place else 2 ^ 13 - 1 - place)) ≡ place
    by_class true = refl
    by_class false = omega (arith, few)

number_is : (key : Key) → IsNearKey key → number_of key ≡ number_from (moment_number key.value) key.class (turned key.class key.position) key.repeat
unfolding number_from
number_is key near =
    let class : key.class % 4 ≡ key.class = omega (arith, near.class) in
    let place : key.position % 2 ^ 13 ≡ key.position = omega (arith, near.place) in
    ap (λ (c : ℕ). ((moment_number key.value * 4 + c) * 2 ^ 13 + turned c (key.position % 2 ^ 13)) * 2 + (if key.repeat then 1 else 0)) class
    ∙ ap (λ (p : ℕ). ((moment_number key.value * 4 + key.class) * 2 ^ 13 + turned key.class p) * 2 + (if key.repeat then 1 else 0)) place

class_of : (moment class turn : ℕ) (repeat : Bool) → class < 4 → turn < 2 ^ 13 → number_from moment class turn repeat / 2 / 2 ^ 13 % 4 ≡ class
unfolding number_from
class_of moment class turn repeat few within = let bit = bit_below repeat in omega (arith, few, within, bit)

turn_of : (moment class turn : ℕ) (repeat : Bool) → turn < 2 ^ 13 → number_from moment class turn repeat / 2 % 2 ^ 13 ≡ turn
unfolding number_from
turn_of moment class turn repeat within = let bit = bit_below repeat in omega (arith, within, bit)

pub place_back : (key : Key) → IsNearKey key → place_in (number_of key) ≡ key.position
place_back key near =
    let moment = moment_number key.value in
    let turn = turned key.class key.position in
    let within = turn_below key.class key.position near.place in
    ap place_in (number_is key near)
    ∙ ap (λ (c : ℕ). turned c (number_from moment key.class turn key.repeat / 2 % 2 ^ 13)) (class_of moment key.class turn key.repeat near.class within)
    ∙ ap (turned key.class) (turn_of moment key.class turn key.repeat within)
    ∙ turned_back key.class key.position near.place

pub repeat_back : (key : Key) → key.repeat ≡ repeats (number_of key)
repeat_back key = by_bit_of key.repeat _
  where
    by_bit_of : (t : Bool) (m : ℕ) → t ≡ (m * 2 + (if t then 1 else 0)) % 2 == 1
    by_bit_of true m = sym (eq-eqb ((m * 2 + 1) % 2) 1 (omega arith))
    by_bit_of false m = let none : (m * 2 + 0) % 2 ≡ 0 = omega arith in sym (grind (arith, none))

-- ---- their order

below : (m n : ℕ) → m < n → nat_lt m n ≡ true
below m n less = grind (arith, less)

not_below : (m n : ℕ) → n ≤ m → nat_lt m n ≡ false
not_below m n least = grind (arith, least)

module _ (m n c d s t : ℕ) (p q : Bool) (c_few : c < 4) (d_few : d < 4) (s_few : s < 2 ^ 13) (t_few : t < 2 ^ 13) where
  by_moment : m < n → number_from m c s p < number_from n d t q
  unfolding number_from
  by_moment less = let one = bit_below p in omega (arith, c_few, s_few, one, less)

  by_class : m ≡ n → c < d → number_from m c s p < number_from n d t q
  unfolding number_from
  by_class same less = let one = bit_below p in omega (arith, s_few, one, less, same)

  by_turn : m ≡ n → c ≡ d → s < t → number_from m c s p < number_from n d t q
  unfolding number_from
  by_turn same alike less = let one = bit_below p in omega (arith, one, less, same, alike)

by_bit : (m n c d s t : ℕ) (p q : Bool) → m ≡ n → c ≡ d → s ≡ t → nat_lt (number_from m c s p) (number_from n d t q) ≡ (not p && q)
unfolding number_from
by_bit m n c d s t true true same alike turn = not_below _ _ (omega (arith, same, alike, turn))
by_bit m n c d s t true false same alike turn = not_below _ _ (omega (arith, same, alike, turn))
by_bit m n c d s t false true same alike turn = below _ _ (omega (arith, same, alike, turn))
by_bit m n c d s t false false same alike turn = not_below _ _ (omega (arith, same, alike, turn))

module _ (m n c d s t : ℕ) (p q : Bool) (c_few : c < 4) (d_few : d < 4) (s_few : s < 2 ^ 13) (t_few : t < 2 ^ 13) where
  moment_above : n < m → nat_lt (number_from m c s p) (number_from n d t q) ≡ false
  moment_above more = let less = by_moment n m d c t s q p d_few c_few t_few s_few more in not_below _ _ (omega (arith, less))

  class_above : m ≡ n → d < c → nat_lt (number_from m c s p) (number_from n d t q) ≡ false
  class_above same more = let less = by_class n m d c t s q p d_few c_few t_few s_few (sym same) more in not_below _ _ (omega (arith, less))

-- keys of one moment and class, at different places
module _ (m n c b a : ℕ) (p q : Bool) (same : m ≡ n) (c_few : c < 4) (b_few : b < 2 ^ 13) (a_few : a < 2 ^ 13) (differ : b == a ≡ false) where
  by_turns : (s t : ℕ) → s < 2 ^ 13 → t < 2 ^ 13 → (u : Bool) → (u ≡ true → s < t) → (u ≡ false → t < s) → nat_lt (number_from m c s p) (number_from n c t q) ≡ u
  by_turns s t s_few t_few true less more = below _ _ (by_turn m n c c s t p q c_few c_few s_few t_few same refl (less refl))
  by_turns s t s_few t_few false less more =
      let above = by_turn n m c c t s q p c_few c_few t_few s_few (sym same) refl (more refl) in
      not_below _ _ (omega (arith, above))

  by_kind : (t : Bool) → nat_lt (number_from m c (if t then b else 2 ^ 13 - 1 - b) p) (number_from n c (if t then a else 2 ^ 13 - 1 - a) q) ≡ (if t then nat_lt b a else nat_lt a b)
  by_kind true = by_turns b a b_few a_few (nat_lt b a) (λ e. grind (arith, e)) (λ e. grind (arith, e, differ))
  by_kind false =
      by_turns (2 ^ 13 - 1 - b) (2 ^ 13 - 1 - a) (omega arith) (omega arith) (nat_lt a b)
      (λ e. let less : a < b = grind (arith, e) in omega (arith, less, b_few))
      (λ e. let more : b < a = grind (arith, e, differ) in omega (arith, more, a_few))

  by_place : nat_lt (number_from m c (turned c b) p) (number_from n c (turned c a) q) ≡ (if c == 2 then nat_lt b a else nat_lt a b)
  by_place = by_kind (c == 2)

module _ (v w : ℤ) (m n c d b a : ℕ) (p q : Bool) (m_is : pos m ≡ v +ℤ pos (2 ^ 44)) (n_is : pos n ≡ w +ℤ pos (2 ^ 44)) (c_few : c < 4) (d_few : d < 4) (b_few : b < 2 ^ 13) (a_few : a < 2 ^ 13) where
  abbrev IsBefore : Bool → Type 0
  IsBefore t = nat_lt (number_from m c (turned c b) p) (number_from n d (turned d a) q) ≡ t

  turn_b : turned c b < 2 ^ 13
  turn_b = turn_below c b b_few

  turn_a : turned d a < 2 ^ 13
  turn_a = turn_below d a a_few

  in_class : m ≡ n → c ≡ d → IsBefore (if b == a then not p && q else (if c == 2 then nat_lt b a else nat_lt a b))
  in_class same alike =
      elim (b == a) as (λ (t : Bool). b == a ≡ t → IsBefore (if t then not p && q else (if c == 2 then nat_lt b a else nat_lt a b))) [
        | true ↦ λ e. by_bit m n c d (turned c b) (turned d a) p q same alike (ap (λ (k : ℕ). turned k b) alike ∙ ap (turned d) (eqb-true b a e))
        | false ↦ λ e.
            ap (λ (k : ℕ). nat_lt (number_from m c (turned c b) p) (number_from n k (turned k a) q)) (sym alike)
            ∙ by_place m n c b a p q same c_few b_few a_few e
      ] refl

  in_moment : m ≡ n → IsBefore (nat_lt c d || ((c == d) && (if b == a then not p && q else (if c == 2 then nat_lt b a else nat_lt a b))))
  in_moment same =
      elim (nat_lt c d) as (λ (t : Bool). nat_lt c d ≡ t → IsBefore (t || ((c == d) && (if b == a then not p && q else (if c == 2 then nat_lt b a else nat_lt a b))))) [
        | true ↦ λ e. below _ _ (by_class m n c d (turned c b) (turned d a) p q c_few d_few turn_b turn_a same (grind (arith, e)))
        | false ↦ λ e.
            elim (c == d) as (λ (t : Bool). c == d ≡ t → IsBefore (t && (if b == a then not p && q else (if c == 2 then nat_lt b a else nat_lt a b)))) [
              | true ↦ λ f. in_class same (eqb-true c d f)
              | false ↦ λ f. class_above m n c d (turned c b) (turned d a) p q c_few d_few turn_b turn_a same (grind (arith, e, f))
            ] refl
      ] refl

  in_order : IsBefore (int_lt v w || (int_le v w && (nat_lt c d || ((c == d) && (if b == a then not p && q else (if c == 2 then nat_lt b a else nat_lt a b))))))
  in_order =
      elim (int_lt v w) as (λ (t : Bool). int_lt v w ≡ t → IsBefore (t || (int_le v w && (nat_lt c d || ((c == d) && (if b == a then not p && q else (if c == 2 then nat_lt b a else nat_lt a b))))))) [
        | true ↦ λ e. below _ _ (by_moment m n c d (turned c b) (turned d a) p q c_few d_few turn_b turn_a (grind (arith, ints, e, m_is, n_is)))
        | false ↦ λ e.
            elim (int_le v w) as (λ (t : Bool). int_le v w ≡ t → IsBefore (t && (nat_lt c d || ((c == d) && (if b == a then not p && q else (if c == 2 then nat_lt b a else nat_lt a b)))))) [
              | true ↦ λ f. in_moment (grind (arith, ints, e, f, m_is, n_is))
              | false ↦ λ f. moment_above m n c d (turned c b) (turned d a) p q c_few d_few turn_b turn_a (grind (arith, ints, f, m_is, n_is))
            ] refl
      ] refl

-- a number is below another exactly where its key comes before that of the other
pub number_order : (a b : Key) → IsNearKey a → IsNearKey b → nat_lt (number_of b) (number_of a) ≡ comes_before b a
number_order a b na nb =
    ap (λ (n : ℕ). nat_lt n (number_of a)) (number_is b nb)
    ∙ ap (nat_lt (number_from (moment_number b.value) b.class (turned b.class b.position) b.repeat)) (number_is a na)
    ∙ in_order b.value a.value (moment_number b.value) (moment_number a.value) b.class a.class b.position a.position b.repeat a.repeat
    (moment_of b.value nb.low nb.high) (moment_of a.value na.low na.high) nb.class na.class nb.place na.place
