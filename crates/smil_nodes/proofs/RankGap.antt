-- How far the least listed rank is below the number of ranks.
use Rattle.std.proofs.Common.{◌≡◌, sym, ◌∙◌, ap, ℕ, zero, suc, ◌+◌, ◌-◌, ◌<◌, ◌≤◌, Bool, true, false, arith}
use Rattle.std.specs.Prelude.{cond}
use Rattle.smil_nodes.specs.Work.{gap_from}

gap_most : (listed : ℕ → Bool) (count rank : ℕ) → gap_from listed count rank ≤ count
gap_most listed zero rank = omega arith
gap_most listed (suc count) rank = by_test (listed rank) (gap_most listed count (suc rank))
  where
    by_test : (t : Bool) → gap_from listed count (suc rank) ≤ count → cond t (suc count) (gap_from listed count (suc rank)) ≤ suc count
    by_test true le = omega arith
    by_test false le = omega (arith, le)

-- where none of the first ranks is listed
gap_after : (listed : ℕ → Bool) (count some rank : ℕ) → ((r : ℕ) → rank ≤ r → r < rank + some → listed r ≡ false) → gap_from listed (some + count) rank ≤ count
gap_after listed count zero rank none =
    let whole : 0 + count ≡ count = omega arith in
    omega (arith, gap_most listed (0 + count) rank, whole)
gap_after listed count (suc some) rank none =
    let next : suc some + count ≡ suc (some + count) = omega arith in
    let here : gap_from listed (suc some + count) rank ≡ gap_from listed (some + count) (suc rank) =
    ap (λ n. gap_from listed n rank) next
    ∙ ap (λ t. cond t (suc (some + count)) (gap_from listed (some + count) (suc rank))) (none rank (omega arith) (omega arith)) in
    let later : gap_from listed (some + count) (suc rank) ≤ count =
    gap_after listed count some (suc rank) (λ r from below. none r (omega (arith, from)) (omega (arith, below))) in
    omega (arith, here, later)

-- where a rank is listed
gap_least : (listed : ℕ → Bool) (count some rank : ℕ) → listed (rank + some) ≡ true → suc count ≤ gap_from listed (some + suc count) rank
gap_least listed count zero rank at =
    let whole : 0 + suc count ≡ suc count = omega arith in
    let same : rank + 0 ≡ rank = omega arith in
    let here : gap_from listed (0 + suc count) rank ≡ suc count =
    ap (λ n. gap_from listed n rank) whole
    ∙ ap (λ t. cond t (suc count) (gap_from listed count (suc rank))) (ap listed (sym same) ∙ at) in
    omega (arith, here)
gap_least listed count (suc some) rank at =
    let next : suc some + suc count ≡ suc (some + suc count) = omega arith in
    let same : rank + suc some ≡ suc rank + some = omega arith in
    let later : suc count ≤ gap_from listed (some + suc count) (suc rank) = gap_least listed count some (suc rank) (ap listed (sym same) ∙ at) in
    let whole : gap_from listed (suc some + suc count) rank ≡ gap_from listed (suc (some + suc count)) rank = ap (λ n. gap_from listed n rank) next in
    let here : suc count ≤ gap_from listed (suc (some + suc count)) rank = by_test (listed rank) later in
    omega (arith, whole, here)
  where
    by_test : (t : Bool) → suc count ≤ gap_from listed (some + suc count) (suc rank) → suc count ≤ cond t (suc (some + suc count)) (gap_from listed (some + suc count) (suc rank))
    by_test true le = omega arith
    by_test false le = le

-- the gap falls where a rank was listed and only ranks above it are
pub gap_falls : (before after : ℕ → Bool) (count rank : ℕ) → rank < count → before rank ≡ true → ((r : ℕ) → r ≤ rank → after r ≡ false) → gap_from after count 0 < gap_from before count 0
gap_falls before after count rank lt at none =
    let split : count ≡ suc rank + (count - suc rank) = omega (arith, lt) in
    let other : count ≡ rank + suc (count - suc rank) = omega (arith, lt) in
    let most : gap_from after (suc rank + (count - suc rank)) 0 ≤ count - suc rank =
    gap_after after (count - suc rank) (suc rank) 0 (λ r from below. none r (omega (arith, below))) in
    let least : suc (count - suc rank) ≤ gap_from before (rank + suc (count - suc rank)) 0 =
    gap_least before (count - suc rank) rank 0 (ap before zero_add ∙ at) in
    let first : gap_from after count 0 ≡ gap_from after (suc rank + (count - suc rank)) 0 = ap (λ n. gap_from after n 0) split in
    let second : gap_from before count 0 ≡ gap_from before (rank + suc (count - suc rank)) 0 = ap (λ n. gap_from before n 0) other in
    omega (arith, most, least, first, second)
  where
    zero_add : 0 + rank ≡ rank
    zero_add = omega arith
