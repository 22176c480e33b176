-- Which child is named, and the ends that are put to one.
use Rattle.std.proofs.Common.{◌≡◌, refl, ◌∙◌, ap, sym, ℕ, ℤ, zero, suc, ◌<◌, List, [], ◌∷◌, length, get_or, set, Option, Some, None, Bool, true, false, arith}
use Rattle.std.specs.Prelude.{◌+◌, slice_get, cond, not, nat_lt, map, find, unwrap_or, option_map, IfSome}
use Rattle.std.specs.List.{position, position_or_len}
use Rattle.std.proofs.lemmas.Bool.{ltb-false}
use Rattle.std.proofs.lemmas.List.{length-map}
use Rattle.std.proofs.lemmas.List.Folds.{find_at}
use Rattle.std.proofs.lemmas.Option.{slice_get_past}
use Rattle.smil_model.specs.declared.times.Time.{Time}
use Rattle.smil_model.specs.declared.times.Time.TheVariants.{Unresolved}
use Rattle.smil_model.specs.declared.interval.ChildEnd.{ChildEnd}
use Rattle.smil_model.specs.interval.Durations.{named_end}
use Rattle.smil_endsync.specs.declared.ends.EndSummary.{EndSummary}
use Rattle.smil_endsync.specs.declared.ends.Summing.{Summing}
use Rattle.smil_endsync.specs.Ends.{one_end, set_ends, AreSummed}

abbrev is_named : ChildEnd → Bool
is_named c = c.named

pub set_length : (cs : List ChildEnd) (k : ℕ) (first latest : Option Time) → length (set_ends cs k first latest) ≡ length cs
set_length [] k first latest = refl
set_length (c ∷ cs) zero first latest = refl
set_length (c ∷ cs) (suc k) first latest = ap suc (set_length cs k first latest)

same_first : (cs : List ChildEnd) (k : ℕ) (first latest : Option Time) → position_or_len is_named (set_ends cs k first latest) ≡ position_or_len is_named cs
same_first [] k first latest = refl
same_first (c ∷ cs) zero first latest = refl
same_first (c ∷ cs) (suc k) first latest = ap (λ n. cond (not c.named) (1 + n) 0) (same_first cs k first latest)

-- which child is named stays
named_stays : (cs : List ChildEnd) (k : ℕ) (first latest : Option Time) → position (λ (c : ChildEnd). c.named) cs ≡ position (λ (c : ChildEnd). c.named) (set_ends cs k first latest)
named_stays cs k first latest =
    sym (λ i. cond (nat_lt (same_first cs k first latest i) (set_length cs k first latest i)) (Some (same_first cs k first latest i)) None)

-- the ends of a child with its name are put in its place
set_is : (cs : List ChildEnd) (k : ℕ) (first latest : Option Time) (d : ChildEnd) → k < length cs → set cs k (record { named = (get_or cs k d).named; first = first; latest = latest }) ≡ set_ends cs k first latest
set_is [] k first latest d lt = absurd (omega (arith, lt))
set_is (c ∷ cs) zero first latest d lt = refl
set_is (c ∷ cs) (suc k) first latest d lt = ap (λ rest. c ∷ rest) (set_is cs k first latest d (omega (arith, lt)))

pub set_kept : (cs : List ChildEnd) (k : ℕ) (first latest : Option Time) (own : ChildEnd) → own ≡ get_or cs k own → k < length cs → set cs k (record { named = own.named; first = first; latest = latest }) ≡ set_ends cs k first latest
set_kept cs k first latest own is lt =
    ap (λ (x : ChildEnd). set cs k (record { named = x.named; first = first; latest = latest })) is ∙ set_is cs k first latest own lt

sums_set : (rule : Summing) (cs : List ChildEnd) (k : ℕ) (end' : ChildEnd) → set (map (one_end rule) cs) k (one_end rule end') ≡ map (one_end rule) (set cs k end')
sums_set rule [] k end' = refl
sums_set rule (c ∷ cs) zero end' = refl
sums_set rule (c ∷ cs) (suc k) end' = ap (λ rest. one_end rule c ∷ rest) (sums_set rule cs k end')

-- where the children are summed there are as many summaries
pub long_enough : (rule : Summing) (cs : List ChildEnd) (summaries : Option (List EndSummary)) (k : ℕ) → IfSome summaries (λ (all : List EndSummary). all ≡ map (one_end rule) cs) → k < length cs → IfSome summaries (λ (all : List EndSummary). k < length all)
long_enough rule cs None k own lt = tt
long_enough rule cs (Some all) k own lt = omega (arith, lt, ap (λ (xs : List EndSummary). length xs) own, length-map cs (one_end rule))

-- the summaries have that of the child where they are kept
sums_next : (rule : Summing) (cs : List ChildEnd) (old : Option (List EndSummary)) (k : ℕ) (end' : ChildEnd) → IfSome old (λ (all : List EndSummary). all ≡ map (one_end rule) cs) → IfSome (option_map (λ (all : List EndSummary). set all k (one_end rule end')) old) (λ (all : List EndSummary). all ≡ map (one_end rule) (set cs k end'))
sums_next rule cs None k end' own = tt
sums_next rule cs (Some all) k end' own = ap (λ xs. set xs k (one_end rule end')) own ∙ sums_set rule cs k end'

-- after the ends of a child are put
pub summed_next : (rule : Summing) (children : List ChildEnd) (named : Option ℕ) (old : Option (List EndSummary)) (child : ℕ) (first latest : Option Time) (own : ChildEnd) → AreSummed children named rule old → own ≡ get_or children child own → child < length children → AreSummed (set children child (record { named = own.named; first = first; latest = latest })) named rule (option_map (λ (all : List EndSummary). set all child (one_end rule (record { named = own.named; first = first; latest = latest }))) old)
summed_next rule children named old child first latest own was is within = record {
  own = sums_next rule children old child (record { named = own.named; first = first; latest = latest }) was.own;
  named_is =
      was.named_is
      ∙ named_stays children child first latest
      ∙ ap (position (λ (c : ChildEnd). c.named)) (sym (set_kept children child first latest own is within));
}

-- ---- the named child is found at its place

there_at : (xs : List ChildEnd) (j : ℕ) (d : ChildEnd) → j < length xs → slice_get xs j ≡ Some (get_or xs j d)
there_at [] j d less = absurd (omega (arith, less))
there_at (x ∷ xs) zero d less = refl
there_at (x ∷ xs) (suc j) d less = there_at xs j d (omega (arith, less))

found_at : (cs : List ChildEnd) (k : ℕ) (d : ChildEnd) → position (λ (c : ChildEnd). c.named) cs ≡ Some k → k < length cs → find is_named cs ≡ Some (get_or cs k d)
found_at cs k d q lt = by_test (nat_lt (position_or_len is_named cs) (length cs)) refl q
  where
    by_test : (t : Bool) → nat_lt (position_or_len is_named cs) (length cs) ≡ t → cond t (Some (position_or_len is_named cs)) None ≡ Some k → find is_named cs ≡ Some (get_or cs k d)
    by_test false e r = cc
    by_test true e r =
        let same : position_or_len is_named cs ≡ k = cc in
        find_at is_named cs ∙ ap (slice_get cs) same ∙ there_at cs k d lt

pub named_found : (start : ℤ) (cs : List ChildEnd) (k : ℕ) (d : ChildEnd) → Some k ≡ position (λ (c : ChildEnd). c.named) cs → k < length cs → unwrap_or (get_or cs k d).first Unresolved ≡ named_end start cs (find (λ (c : ChildEnd). c.named) cs)
named_found start cs k d q lt = sym (ap (named_end start cs) (found_at cs k d (sym q) lt))

none_named : (cs : List ChildEnd) → position (λ (c : ChildEnd). c.named) cs ≡ None → find is_named cs ≡ None
none_named cs q = by_test (nat_lt (position_or_len is_named cs) (length cs)) refl q
  where
    by_test : (t : Bool) → nat_lt (position_or_len is_named cs) (length cs) ≡ t → cond t (Some (position_or_len is_named cs)) None ≡ None → find is_named cs ≡ None
    by_test true e r = cc
    by_test false e r = find_at is_named cs ∙ slice_get_past cs _ (ltb-false (position_or_len is_named cs) (length cs) e)

pub nobody_named : (start : ℤ) (cs : List ChildEnd) → None ≡ position (λ (c : ChildEnd). c.named) cs → named_end start cs (find (λ (c : ChildEnd). c.named) cs) ≡ named_end start cs None
nobody_named start cs q = ap (named_end start cs) (none_named cs (sym q))
