-- Where a line feed stands in a list of bytes.
use Rattle.std.proofs.Common.{◌≡◌, ◌≢◌, ◌==◌, true, ℕ, ◌+◌, ◌-◌, ◌<◌, ◌≤◌, List, length, take, drop, slice_index, arith, sym, ap, subst, ◌∙◌, inl, inr}
use Rattle.std.proofs.lemmas.Bool.{cases_lt, eq-eqb, eqb-true}
use Rattle.std.proofs.lemmas.List.{get_or-drop, length-drop, take_rest}
use Rattle.memchr.specs.Find.{NoneBefore}
use Rattle.smil_outside.specs.Lines.{HasNoLineFeed}
use Rattle.smil_model.specs.document.Words.{line_feed}

-- a place behind `from` is one of what is left from there on
index_behind : (xs : List ℕ) (from k : ℕ) → from ≤ k → slice_index (drop from xs) (k - from) ≡ slice_index xs k
index_behind xs from k h =
    let e : from + (k - from) ≡ k = omega arith in
    get_or-drop from xs (k - from) 0 ∙ ap (λ j. slice_index xs j) e

-- what a search finds in the part of `ys` behind a place, where `ys` is `xs`
part_behind : (xs ys : List ℕ) (from : ℕ) → ys ≡ xs → take (length ys - from) (drop from ys) ≡ drop from xs
part_behind xs ys from same = take_rest ys from ∙ ap (λ zs. drop from zs) same

abbrev IsFeed : List ℕ → ℕ → Type 0
IsFeed xs k = (slice_index xs k == line_feed) ≡ true

-- no line feed in front of a place, and none behind it
pub none_anywhere : (xs ys : List ℕ) (from : ℕ) → ys ≡ xs →
    ((k : ℕ) → k < from → slice_index xs k ≢ line_feed) →
    ((k : ℕ) → 0 ≤ k → k < length (take (length ys - from) (drop from ys)) → ¬ IsFeed (take (length ys - from) (drop from ys)) k) →
    HasNoLineFeed xs
none_anywhere xs ys from same before behind = λ k inside is.
    let e = part_behind xs ys from same in
    let here = subst (λ zs. (j : ℕ) → 0 ≤ j → j < length zs → ¬ IsFeed zs j) e behind in
    elim (cases_lt k from) [
      | inl low ↦ before k low is
      | inr high ↦
          here (k - from) (omega arith) (omega (arith, length-drop from xs)) (eq-eqb _ _ (index_behind xs from k high ∙ is))
    ]

-- no line feed in front of a place, and one at `at` behind it, and none between
pub first_feed : (xs ys : List ℕ) (from at : ℕ) → ys ≡ xs → from ≤ length xs →
    ((k : ℕ) → k < from → slice_index xs k ≢ line_feed) →
    NoneBefore (IsFeed (take (length ys - from) (drop from ys))) 0 (length (take (length ys - from) (drop from ys))) at →
    IsFeed (take (length ys - from) (drop from ys)) at →
    (from + at < length xs) × (slice_index xs (from + at) ≡ line_feed) × ((k : ℕ) → k < from + at → slice_index xs k ≢ line_feed)
first_feed xs ys from at same fits before none is =
    let e = part_behind xs ys from same in
    let high : at < length (drop from xs) = subst (λ zs. at < length zs) e none.high in
    let is' : IsFeed (drop from xs) at = subst (λ zs. IsFeed zs at) e is in
    let none' = subst (λ zs. (k : ℕ) → 0 ≤ k → k < at → ¬ IsFeed zs k) e none.before in (
      omega (arith, length-drop from xs),
      sym (get_or-drop from xs at 0) ∙ eqb-true _ _ is',
      λ k low here. elim (cases_lt k from) [
        | inl before_from ↦ before k before_from here
        | inr behind ↦ none' (k - from) (omega arith) (omega arith) (eq-eqb _ _ (index_behind xs from k behind ∙ here))
      ],
    )
