-- Where the values that pass a test begin, where none that doesn't stands behind one that does.
use Rattle.std.proofs.Common.{◌≡◌, ◌∙◌, ap, ℕ, suc, ◌≤◌, ◌<◌, List, length, Bool, true, false, arith}
use Rattle.std.specs.Prelude.{slice_index_or}
use Rattle.std.proofs.lemmas.Option.{get_or_from_slice_get, slice_get_read}
use Rattle.std.specs.List.Sorted.{IsPartitionedBy, IsPartitionPoint}

-- what stands at a place of a list, whatever is read for one that isn't there
stands_at : {A : Type 0} (xs : List A) (m : ℕ) (x d : A) → m < length xs → x ≡ slice_index_or xs m x → slice_index_or xs m d ≡ x
stands_at xs m x d inside at = get_or_from_slice_get xs m x d (slice_get_read xs (length xs) m x (omega arith) inside at)

-- no value up to one that fails passes; here `q` is failing
fails_before : {A : Type 0} (q : A → Bool) (xs : List A) (m : ℕ) (x : A) → IsPartitionedBy q xs → m < length xs → x ≡ slice_index_or xs m x → q x ≡ true → (j : ℕ) (d : A) → j ≤ m → q (slice_index_or xs j d) ≡ true
fails_before q xs m x parted inside at fails j d low =
    parted j m d low inside (ap q (stands_at xs m x d inside at) ∙ fails)

-- the last value passes alone
pub last_passes : {A : Type 0} (q : A → Bool) (xs : List A) (m k : ℕ) (x y : A) → IsPartitionedBy q xs → k ≡ suc m → length xs ≡ suc k → x ≡ slice_index_or xs m x → q x ≡ true → y ≡ slice_index_or xs k y → q y ≡ false → IsPartitionPoint (λ v. q v ≡ true) (λ v. q v ≡ false) xs k
last_passes q xs m k x y parted next len before fails last passes = (
  λ j d low high. fails_before q xs m x parted (omega (arith, len, next)) before fails j d (omega (arith, high, next)),
  λ j d low high.
      let here : j ≡ k = omega (arith, low, high, len) in
      ap (λ n. q (slice_index_or xs n d)) here ∙ ap q (stands_at xs k y d (omega (arith, len)) last) ∙ passes,
)

-- no value passes
pub none_passes : {A : Type 0} (q : A → Bool) (xs : List A) (k : ℕ) (y : A) → IsPartitionedBy q xs → length xs ≡ suc k → y ≡ slice_index_or xs k y → q y ≡ true → IsPartitionPoint (λ v. q v ≡ true) (λ v. q v ≡ false) xs (length xs)
none_passes q xs k y parted len last fails = (
  λ j d low high. fails_before q xs k y parted (omega (arith, len)) last fails j d (omega (arith, high, len)),
  λ j d low high. absurd (omega (arith, low, high)),
)

-- the only value passes
pub alone_passes : {A : Type 0} (q : A → Bool) (xs : List A) (k : ℕ) (y : A) → length xs ≡ suc k → k ≡ 0 → y ≡ slice_index_or xs k y → q y ≡ false → IsPartitionPoint (λ v. q v ≡ true) (λ v. q v ≡ false) xs 0
alone_passes q xs k y len alone last passes = (
  λ j d low high. absurd (omega (arith, high)),
  λ j d low high.
      let here : j ≡ k = omega (arith, high, len, alone) in
      ap (λ n. q (slice_index_or xs n d)) here ∙ ap q (stands_at xs k y d (omega (arith, len)) last) ∙ passes,
)

-- there is no value
pub nothing_passes : {A : Type 0} (q : A → Bool) (xs : List A) → length xs ≡ 0 → IsPartitionPoint (λ v. q v ≡ true) (λ v. q v ≡ false) xs 0
nothing_passes q xs none = (λ j d low high. absurd (omega (arith, high)), λ j d low high. absurd (omega (arith, high, none)))
