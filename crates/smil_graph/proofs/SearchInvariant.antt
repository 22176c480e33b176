-- A search: what holds while it goes on, and what it came to.
use Rattle.std.proofs.Common.{◌≡◌, sym, ◌∙◌, ap, ℕ, ◌<◌, ◌≤◌, ◌+◌, List, [], length, get_or, Bool, true, arith, inl, inr, nat_eq}
use Rattle.std.specs.Prelude.{◌⊎◌}
use Rattle.std.specs.List.{IsDistinct}
use Rattle.std.proofs.lemmas.Bool.{or_left, or_right, or_cases}
use Rattle.std.proofs.lemmas.Map.Steps.{length-le_from_distinct_below}
use Rattle.indexmap.specs.IndexSet.{insert_all}
use Rattle.smil_model.specs.document.Closure.{has}
use Rattle.smil_graph.specs.Links.{row, links, AreBelow, StayBelow, IsKeptAlongLinks, IsReached}
use Rattle.smil_graph.proofs.PlaceLists.{has_get, has_is, index_of, has_more, longer_more, front_more, distinct_more}

-- the links of the first places of the set have been followed
pub record IsSearch (rows : List (List ℕ)) (starts places : List ℕ) (next : ℕ) : Type 0 where
  pub begun : (i : ℕ) → has starts i ≡ true → has places i ≡ true
  pub distinct : IsDistinct nat_eq places
  pub below : AreBelow (length rows) places
  pub followed : (k j : ℕ) → k < next → has (row rows (get_or places k 0)) j ≡ true → has places j ≡ true
  pub least : (test : ℕ → Bool) → ((i : ℕ) → has starts i ≡ true → test i ≡ true) → IsKeptAlongLinks rows test → (i : ℕ) → has places i ≡ true → test i ≡ true
  pub within : next ≤ length places

module _ (rows : List (List ℕ)) (starts : List ℕ) where
  pub first : AreBelow (length rows) starts → IsSearch rows starts (insert_all nat_eq [] starts) 0
  unfolding IsDistinct
  first low = record {
    begun = λ i q. has_more [] starts i ∙ q;
    distinct = distinct_more [] starts tt;
    below = λ i q. low i (sym (has_more [] starts i) ∙ q);
    followed = λ k j l. absurd (omega (arith, l));
    least = λ test at kept i q. at i (sym (has_more [] starts i) ∙ q);
    within = omega arith;
  }

  pub few : (places : List ℕ) (next : ℕ) → IsSearch rows starts places next → length places ≤ length rows
  few places next s = length-le_from_distinct_below places (length rows) s.distinct (λ q at. s.below q (has_is places q ∙ at))

  pub step : (places : List ℕ) (next : ℕ) → StayBelow (length rows) rows → IsSearch rows starts places next → next < length places → IsSearch rows starts (insert_all nat_eq places (row rows (get_or places next 0))) (next + 1)
  step places next stay s l = record {
    begun = λ i q. has_more places is i ∙ or_left _ _ (s.begun i q);
    distinct = distinct_more places is s.distinct;
    below = λ i q. by_below i (or_cases _ _ (sym (has_more places is i) ∙ q));
    followed = λ k j k_l q. by_place k j k_l q (cases k_l);
    least = λ test at kept i q. by_least test at kept i (or_cases _ _ (sym (has_more places is i) ∙ q));
    within = omega (arith, l, longer_more places is);
  }
    where
      is : List ℕ
      is = row rows (get_or places next 0)

      by_below : (i : ℕ) → (has places i ≡ true) ⊎ (has is i ≡ true) → i < length rows
      by_below i (inl q) = s.below i q
      by_below i (inr q) = stay (get_or places next 0) i q

      cases : {k : ℕ} → k < next + 1 → (k < next) ⊎ (k ≡ next)
      cases k_l = grind arith

      by_place : (k j : ℕ) → k < next + 1 → has (row rows (get_or (insert_all nat_eq places is) k 0)) j ≡ true → (k < next) ⊎ (k ≡ next) → has (insert_all nat_eq places is) j ≡ true
      by_place k j k_l q (inl less) = has_more places is j ∙ or_left _ _ (s.followed k j less (sym (ap (λ p. has (row rows p) j) (front_more places is k (omega (arith, less, l)))) ∙ q))
      by_place k j k_l q (inr same) =
          has_more places is j
          ∙ or_right _ _ (sym (ap (λ p. has (row rows p) j) (front_more places is k (omega (arith, same, l)) ∙ ap (λ m. get_or places m 0) same)) ∙ q)

      by_least : (test : ℕ → Bool) → ((i : ℕ) → has starts i ≡ true → test i ≡ true) → IsKeptAlongLinks rows test → (i : ℕ) → (has places i ≡ true) ⊎ (has is i ≡ true) → test i ≡ true
      by_least test at kept i (inl q) = s.least test at kept i q
      by_least test at kept i (inr q) = kept (get_or places next 0) i (s.least test at kept (get_or places next 0) (has_get places next l)) q

  pub done : (places : List ℕ) (next : ℕ) → IsSearch rows starts places next → length places ≤ next → IsReached rows starts places
  done places next s l = record {
    begun = s.begun;
    kept = λ i j q r. by_index j r (index_of places i q);
    least = s.least;
  }
    where
      by_index : {i : ℕ} (j : ℕ) → links rows i j ≡ true → (k : ℕ) × (k < length places) × (get_or places k 0 ≡ i) → has places j ≡ true
      by_index j r found = s.followed found.0 j (omega (arith, found.1, l)) (ap (λ p. has (row rows p) j) found.2 ∙ r)
