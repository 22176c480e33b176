-- Tables of the places of serials: what they answer, and when two are the same.
use Rattle.std.proofs.Common.{◌≡◌, ◌∙◌, refl, ap, sym, ℕ, zero, suc, ◌≤◌, ◌<◌, Bool, true, false, cond, List, [], ◌∷◌, ◌++◌, Option, Some, None, length, arith, ◌⊎◌, inl, inr}
use Rattle.std.specs.Prelude.{◌==◌, ◌||◌, nat_eq, nat_lt, IsSome, is_some}
use Rattle.std.specs.Map.{keys_of, lookup}
use Rattle.std.specs.Ordering.{nat_cmp, eq_by_cmp}
use Rattle.std.specs.Cmp.{unsigned_tied, nat_cmp_total}
use Rattle.std.specs.FinMap.{FinMap, find, get, get-from_entries, nat_cmp-IsAntisymmetric, same_map}
use Rattle.std.proofs.lemmas.Bool.{cases_lt, eqb-true, eq-eqb, le-ltb, lt-ltb, ltb-false, ltb-true}
use Rattle.std.proofs.Math.Bool.{or-true}
use Rattle.std.proofs.lemmas.Bool.Decides.{nat_tests}
use Rattle.std.proofs.lemmas.List.{get_or_past}
use Rattle.std.proofs.lemmas.List.Folds.{list_any-append}
use Rattle.smil_model.specs.declared.serial_table.TheConstants.{ABSENT, LOW}
use Rattle.smil_model.specs.document.Closure.{has}
use Rattle.smil_model.specs.SerialTable.{entries_of, low_place, place_in, place_told, serials_below, table_of, with_place}

same_number : (s k : ℕ) → eq_by_cmp nat_cmp s k ≡ (k == s)
same_number s k = unsigned_tied s k ∙ grind (arith, nat_tests)

none_at : (h : Bool) (p : Option ℕ) → p ≡ None → cond h p None ≡ p
none_at true p none = refl
none_at false p none = sym none

-- the entry of one more serial
found_next : (s k : ℕ) (entries : List (ℕ × ℕ)) (h : Bool) (p : Option ℕ) (t : Bool) (o : Option ℕ) → eq_by_cmp nat_cmp s k ≡ t → (t ≡ true → o ≡ p) → find nat_cmp s entries ≡ cond h p None → find nat_cmp s (with_place k o entries) ≡ cond (t || h) p None
found_next s k entries h p true None tie same found = found ∙ none_at h p (sym (same refl))
found_next s k entries h p true (Some v) tie same found = ap (λ t. cond t (Some v) (find nat_cmp s entries)) tie ∙ same refl
found_next s k entries h p false None tie same found = found
found_next s k entries h p false (Some v) tie same found = ap (λ t. cond t (Some v) (find nat_cmp s entries)) tie ∙ found

found : (place : ℕ → Option ℕ) (serials : List ℕ) (s : ℕ) → find nat_cmp s (entries_of place serials) ≡ cond (has serials s) (place s) None
found place [] s = refl
found place (k ∷ serials) s =
    found_next s k (entries_of place serials) (has serials s) (place s) (k == s) (place k) (same_number s k) (λ t. ap place (eqb-true k s t)) (found place serials s)

has_below : (n s : ℕ) → s < n → has (serials_below n) s ≡ true
has_below zero s less = absurd (omega (arith, less))
has_below (suc n) s less = by_case (cases_lt s n) (has_below n s)
  where
    by_case : (s < n) ⊎ (n ≤ s) → (s < n → has (serials_below n) s ≡ true) → has (serials_below (suc n)) s ≡ true
    by_case (inl lower) rest = ap (λ t. (n == s) || t) (rest lower) ∙ or-true (n == s)
    by_case (inr from) rest = ap (λ t. t || has (serials_below n) s) (eq-eqb n s (omega (arith, less, from)))

no_key : (entries : List (ℕ × ℕ)) (s : ℕ) → has (keys_of entries) s ≡ false → lookup (nat_eq s) entries ≡ None
no_key [] s none = refl
no_key (e ∷ entries) s none = by_case (e.0 == s) (has (keys_of entries) s) refl refl none (no_key entries s)
  where
    by_case : (t u : Bool) → (e.0 == s) ≡ t → has (keys_of entries) s ≡ u → (t || u) ≡ false → (has (keys_of entries) s ≡ false → lookup (nat_eq s) entries ≡ None) → lookup (nat_eq s) (e ∷ entries) ≡ None
    by_case true u is listed never rest = let no : true ≡ false = never in cc
    by_case false true is listed never rest = let no : true ≡ false = never in cc
    by_case false false is listed never rest =
        let other : nat_eq s e.0 ≡ false = grind (arith, nat_tests, is) in
        ap (λ t. cond t (Some e.1) (lookup (nat_eq s) entries)) other ∙ rest listed

-- a serial that has no entry has no place
unlisted : (low : List ℕ) (high : List (ℕ × ℕ)) (s : ℕ) → has (serials_below (length low) ++ keys_of high) s ≡ false → place_in low high s ≡ None
unlisted low high s none = by_case (nat_lt s LOW)
  where
    parts : (has (serials_below (length low)) s || has (keys_of high) s) ≡ false
    parts = sym (list_any-append (λ y. y == s) (serials_below (length low)) (keys_of high)) ∙ none

    past : length low ≤ s
    past = by_place (cases_lt s (length low))
      where
        by_place : (s < length low) ⊎ (length low ≤ s) → length low ≤ s
        by_place (inl lower) = let never : true ≡ false = sym (ap (λ t. t || has (keys_of high) s) (has_below (length low) s lower)) ∙ parts in cc
        by_place (inr from) = from

    by_case : (t : Bool) → cond t (low_place low s) (lookup (nat_eq s) high) ≡ None
    by_case true = ap place_told (get_or_past low s ABSENT past)
    by_case false = no_key high s (in_second _ _ parts)
      where
        in_second : (t u : Bool) → (t || u) ≡ false → u ≡ false
        in_second true u never = let no : true ≡ false = never in cc
        in_second false u is = is

-- what the table answers
pub get-table_of : (low : List ℕ) (high : List (ℕ × ℕ)) (s : ℕ) → get (table_of low high) s ≡ place_in low high s
unfolding table_of
get-table_of low high s =
    get-from_entries nat_cmp_total (entries_of (place_in low high) (serials_below (length low) ++ keys_of high)) s
    ∙ found (place_in low high) (serials_below (length low) ++ keys_of high) s
    ∙ by_case _ refl
  where
    by_case : (t : Bool) → has (serials_below (length low) ++ keys_of high) s ≡ t → cond t (place_in low high s) None ≡ place_in low high s
    by_case true is = refl
    by_case false is = sym (unlisted low high s is)

-- no serial has a place where there are none
pub no_places : (s : ℕ) → place_in [] [] s ≡ None
no_places s = unlisted [] [] s refl

-- two tables with the same places are the same
pub same_table : (m n : FinMap nat_cmp ℕ) → ((s : ℕ) → get m s ≡ get n s) → m ≡ n
same_table m n same = same_map nat_cmp_total nat_cmp-IsAntisymmetric m n same

module _ (low : List ℕ) (high : List (ℕ × ℕ)) (m : FinMap nat_cmp ℕ) (is : table_of low high ≡ m) where
  -- what a table answers whose fields these are
  pub told : (s : ℕ) → get m s ≡ place_in low high s
  told s = ap (λ m. get m s) (sym is) ∙ get-table_of low high s

  pub told_low : (s : ℕ) → s < LOW → get m s ≡ low_place low s
  told_low s less = told s ∙ ap (λ t. cond t (low_place low s) (lookup (nat_eq s) high)) (lt-ltb s LOW less)

  pub told_high : (s : ℕ) → LOW ≤ s → get m s ≡ lookup (nat_eq s) high
  told_high s from = told s ∙ ap (λ t. cond t (low_place low s) (lookup (nat_eq s) high)) (le-ltb s LOW from)

  -- a low serial that has a place is within the list
  pub low_within : (s : ℕ) → s < LOW → IsSome (get m s) → s < length low
  low_within s less some = by_case (cases_lt s (length low))
    where
      by_case : (s < length low) ⊎ (length low ≤ s) → s < length low
      by_case (inl within) = within
      by_case (inr past) =
          let never : true ≡ false = sym some ∙ ap is_some (told_low s less ∙ ap place_told (get_or_past low s ABSENT past)) in
          cc

  -- one low serial gets another place, or none
  pub low_changed : (new : List ℕ) (serial : ℕ) (o : Option ℕ) → serial < LOW → ((s : ℕ) → low_place new s ≡ cond (serial == s) o (low_place low s)) → (s : ℕ) → get (table_of new high) s ≡ cond (serial == s) o (get m s)
  low_changed new serial o less changed s =
      get-table_of new high s ∙ by_case (nat_lt s LOW) (serial == s) refl refl ∙ ap (cond (serial == s) o) (sym (told s))
    where
      by_case : (t u : Bool) → nat_lt s LOW ≡ t → (serial == s) ≡ u → cond t (low_place new s) (lookup (nat_eq s) high) ≡ cond u o (cond t (low_place low s) (lookup (nat_eq s) high))
      by_case true u lower same = changed s ∙ ap (λ u. cond u o (low_place low s)) same
      by_case false true from same = absurd (omega (arith, less, ltb-false s LOW from, eqb-true serial s same))
      by_case false false from same = refl

  -- one of the others gets another place, or none
  pub high_changed : (new : List (ℕ × ℕ)) (serial : ℕ) (o : Option ℕ) → LOW ≤ serial → ((s : ℕ) → lookup (nat_eq s) new ≡ cond (serial == s) o (lookup (nat_eq s) high)) → (s : ℕ) → get (table_of low new) s ≡ cond (serial == s) o (get m s)
  high_changed new serial o from changed s =
      get-table_of low new s ∙ by_case (nat_lt s LOW) (serial == s) refl refl ∙ ap (cond (serial == s) o) (sym (told s))
    where
      by_case : (t u : Bool) → nat_lt s LOW ≡ t → (serial == s) ≡ u → cond t (low_place low s) (lookup (nat_eq s) new) ≡ cond u o (cond t (low_place low s) (lookup (nat_eq s) high))
      by_case false u higher same = changed s ∙ ap (λ u. cond u o (lookup (nat_eq s) high)) same
      by_case true true lower same = absurd (omega (arith, from, ltb-true s LOW lower, eqb-true serial s same))
      by_case true false lower same = refl
