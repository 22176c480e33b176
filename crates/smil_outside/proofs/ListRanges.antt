-- Parts of a list between two places.
use Rattle.std.proofs.Common.{◌≡◌, ℕ, ◌+◌, ◌-◌, ◌≤◌, min, List, ◌++◌, length, take, drop, slice_range, arith, ap, sym, ◌∙◌}
use Rattle.std.proofs.lemmas.List.{take-take, drop-take, drop-drop, length-take, length-drop, take-append-drop, take_at, take_min}
use Rattle.std.proofs.lemmas.Slice.{between_is}

pub length-slice_range : {X : Type 0} (xs : List X) (i j : ℕ) → j ≤ length xs → length (slice_range xs i j) ≡ j - i
length-slice_range xs i j h = simp (length-take, length-drop) (omega arith)

-- the front of a part
pub range_front : {X : Type 0} (xs : List X) (i j n : ℕ) → n ≤ j - i → slice_range xs i (i + n) ≡ take n (slice_range xs i j)
range_front xs i j n h =
    let e : (i + n) - i ≡ n = omega arith in
    ap (λ m. take m (drop i xs)) e ∙ sym (take-take n (j - i) (drop i xs) h)

-- what follows the front of a part
pub range_rest : {X : Type 0} (xs : List X) (i j n : ℕ) → n ≤ j - i → slice_range xs (i + n) j ≡ drop n (slice_range xs i j)
range_rest xs i j n h =
    let e : j - i ≡ n + (j - (i + n)) = omega arith in
    ap (λ ys. take (j - (i + n)) ys) (sym (drop-drop n i xs)) ∙ sym (drop-take n (j - (i + n)) (drop i xs)) ∙ ap (λ m. drop n (take m (drop i xs))) (sym e)

-- a part, cut in two
pub range_split : {X : Type 0} (xs : List X) (i m j : ℕ) → i ≤ m → m ≤ j → slice_range xs i j ≡ slice_range xs i m ++ slice_range xs m j
range_split xs i m j low high =
    let n : m - i ≤ j - i = omega arith in
    let e : i + (m - i) ≡ m = omega arith in
    let front : slice_range xs i m ≡ take (m - i) (slice_range xs i j) = ap (λ k. slice_range xs i k) (sym e) ∙ range_front xs i j (m - i) n in
    let rest : slice_range xs m j ≡ drop (m - i) (slice_range xs i j) = ap (λ k. slice_range xs k j) (sym e) ∙ range_rest xs i j (m - i) n in
    sym (rw (front, rest, take-append-drop))

-- two lists with the same front have the same parts in it
pub range_same : {X : Type 0} (xs ys : List X) (i j : ℕ) → take j xs ≡ take j ys → slice_range xs i j ≡ slice_range ys i j
range_same xs ys i j same = between_is xs i j ∙ ap (λ zs. drop i zs) same ∙ sym (between_is ys i j)

-- a buffer that was moved and then read into, as a `Vec` shows it: the parts in front of the read stay
pub moved_and_filled : (xs tail tail' moved filled : List ℕ) (len from to at low : ℕ) →
    length moved ≡ len → length filled ≡ len → take at filled ≡ take at (take len (moved ++ tail)) →
    slice_range moved low at ≡ slice_range xs from to →
    slice_range (take len (filled ++ tail')) low at ≡ slice_range xs from to
moved_and_filled xs tail tail' moved filled len from to at low a b front part =
    let e : take len (filled ++ tail') ≡ filled = take_at filled tail' len b in
    let e' : take len (moved ++ tail) ≡ moved = take_at moved tail len a in
    let front' : take at filled ≡ take at moved = front ∙ ap (λ zs. take at zs) e' in
    ap (λ zs. slice_range zs low at) e ∙ range_same filled moved low at front' ∙ part

-- and the first `most` bytes of the read follow them
pub moved_and_read : (xs tail tail' moved filled : List ℕ) (len from to at low n most : ℕ) →
    length moved ≡ len → length filled ≡ len → take at filled ≡ take at (take len (moved ++ tail)) →
    slice_range moved low at ≡ slice_range xs from to → low ≤ at → at + n ≤ len →
    slice_range (take len (filled ++ tail')) low (at + min n most) ≡ slice_range xs from to ++ take most (slice_range filled at (at + n))
moved_and_read xs tail tail' moved filled len from to at low n most a b front part order fits =
    let e : take len (filled ++ tail') ≡ filled = take_at filled tail' len b in
    let held = moved_and_filled xs tail tail' moved filled len from to at low a b front part in
    let l : length (slice_range filled at (at + n)) ≡ n = length-slice_range filled at (at + n) (omega arith) ∙ omega arith in
    let m : min n most ≡ min most n = omega arith in
    let came : slice_range filled at (at + min n most) ≡ take most (slice_range filled at (at + n)) =
    range_front filled at (at + n) (min n most) (omega arith)
    ∙ ap (λ k. take k (slice_range filled at (at + n))) (m ∙ ap (λ k. min most k) (sym l))
    ∙ take_min most (slice_range filled at (at + n)) in
    ap (λ zs. slice_range zs low (at + min n most)) e
    ∙ range_split filled low at (at + min n most) order (omega arith)
    ∙ ap (λ zs. zs ++ slice_range filled at (at + min n most)) (sym (ap (λ zs. slice_range zs low at) e) ∙ held)
    ∙ ap (λ zs. slice_range xs from to ++ zs) came
