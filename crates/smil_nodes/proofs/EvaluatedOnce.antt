-- The elements that were evaluated, each once.
use Rattle.std.proofs.Common.{◌≡◌, refl, ◌∙◌, ap, sym, subst, ℕ, suc, ◌+◌, ◌<◌, ◌≤◌, List, [], ◌∷◌, ◌++◌, length, ℤ, Bool, true, false, get_or, arith, inl, inr}
use Rattle.std.specs.Prelude.{◌==◌, ◌⊎◌, not, nat_eq}
use Rattle.std.specs.List.{AllByRecursion, IsDistinct}
use Rattle.std.proofs.lemmas.Bool.{eq-eqb, eqb-true, or_left, or_right, or_cases, or_parts, and_parts}
use Rattle.smil_model.specs.declared.diary.Entry.{Entry}
use Rattle.smil_model.specs.declared.diary.LogEntry.{LogEntry}
use Rattle.smil_model.specs.declared.document.Node.{Node}
use Rattle.smil_model.specs.document.Closure.{has}
use Rattle.smil_model.specs.diary.Diary.{History}
use Rattle.std.proofs.lemmas.List.Folds.{list_any-append}
use Rattle.smil_model.specs.reach.Reach.{reads}
use Rattle.smil_laws.specs.Touched.{in_reaches}
use Rattle.smil_laws.proofs.TouchedReached.{reaches_hold}
use Rattle.smil_graph.specs.Graph.{IsGraphOrder}
use Rattle.smil_rounds.specs.declared.current_rows.CurrentRow.{CurrentRow}
use Rattle.smil_rounds.specs.Current.{interval_in}
use Rattle.smil_rounds.specs.Round.{IsRowEvaluated}
use Rattle.smil_cells.specs.Evaluated.{AreChanged, IsDue, is_noted_by}
use Rattle.smil_nodes.specs.Work.{HasSame, IsBelow, IsCounted}
use Rattle.smil_nodes.specs.Agenda.{IsLeastTaken}
use Rattle.smil_cells.proofs.DistinctElements.{one_place}
use Rattle.smil_nodes.proofs.ElementRanks.{element_of}
use Rattle.smil_nodes.proofs.IntervalsApart.{IsLaterReader}

each_has : (P : ℕ → Type 0) (xs : List ℕ) → ((x : ℕ) → has xs x ≡ true → P x) → AllByRecursion P xs
each_has P [] f = tt
each_has P (x ∷ xs) f = (f x (or_left _ _ (eq-eqb x x refl)), each_has P xs (λ y q. f y (or_right _ _ q)))

module _ (h : History) (moment : ℤ) (nodes : List Node) (log : List LogEntry) (entries : List Entry) (order : List ℕ) (first : List CurrentRow) (start : ℕ) where
  -- nothing is evaluated yet
  pub none_counted : (listed : ℕ → Bool) → ((r : ℕ) → listed r ≡ true → r < length order) → ((r : ℕ) → listed r ≡ true → in_reaches nodes log entries (get_or order r 0) ≡ true)
      → ((r : ℕ) → listed r ≡ true → is_noted_by nodes log (interval_in first) entries (get_or order r 0) ≡ true) → IsCounted h moment nodes log entries order listed first first start start
  unfolding IsDistinct
  none_counted listed within reached noted = record {
    next = 0;
    taken = [];
    made = refl;
    steps_are = omega arith;
    distinct = tt;
    reached = λ s q. cc;
    due = λ s q. let never : false ≡ true = q in cc;
    below = λ s q. let never : false ≡ true = q in cc;
    others = λ s q. refl;
    above = λ r on. (omega arith, within r on);
    listed_reached = reached;
    listed_due = λ r on. inl (noted r on);
  }

  module _ (old : List ℕ) (before after : List CurrentRow) (steps rank who : ℕ) (is : IsGraphOrder nodes order) (apart : IsDistinct nat_eq order) (mid : List ℕ) (lt : rank < length order) (at : get_or order rank 0 ≡ who) (off : IsLeastTaken old rank mid) (others : (s : ℕ) → who == s ≡ false → interval_in after s ≡ interval_in before s) (so_far : IsCounted h moment nodes log entries order (has old) first before start steps) where
    -- a rank is listed that was, or that of a later reader where the interval changed
    abbrev IsLaterListed : ℕ → Type 0
    IsLaterListed r = (has mid r ≡ true) ⊎ (IsLaterReader nodes order rank who r × (HasSame who before after → ⊥))

    who_reached : in_reaches nodes log entries who ≡ true
    who_reached = ap (in_reaches nodes log entries) (sym at) ∙ so_far.listed_reached rank off.member

    below_rank : so_far.next ≤ rank
    below_rank = (so_far.above rank off.member).0

    not_taken : (s : ℕ) → has so_far.taken s ≡ true → (t : Bool) → nat_eq who s ≡ t → t ≡ false
    not_taken s q false e = refl
    not_taken s q true e =
        let was = so_far.below s q in
        let same : was.rank ≡ rank = one_place order was.rank rank apart was.within lt (was.at ∙ sym (eqb-true who s e) ∙ sym at) in
        absurd (omega (arith, same, was.below, below_rank))

    mid_above : (r : ℕ) → has mid r ≡ true → (suc rank ≤ r) × (has old r ≡ true)
    mid_above r q =
        let parts = and_parts (not (r == rank)) (has old r) (sym (off.rest r) ∙ q) in
        (past_rank (r == rank) refl parts.0 (off.least r parts.1), parts.1)
      where
        past_rank : (t : Bool) → r == rank ≡ t → not t ≡ true → rank ≤ r → suc rank ≤ r
        past_rank true e never le = cc
        past_rank false e other le = omega (arith, le, differs)
          where
            differs : r ≡ rank → ⊥
            differs same = let never : true ≡ false = sym (eq-eqb r rank same) ∙ e in cc

    reader_reached : (r : ℕ) → IsLaterReader nodes order rank who r → in_reaches nodes log entries (get_or order r 0) ≡ true
    reader_reached r reader =
        let at = element_of nodes order r is reader.within in
        ap (in_reaches nodes log entries) (sym at.1)
        ∙ (reaches_hold nodes log entries).readers who at.0 at.2 who_reached (ap (reads nodes who) at.1 ∙ reader.reading)

    listed_above : (r : ℕ) → IsLaterListed r → (suc rank ≤ r) × (r < length order)
    listed_above r (inl q) = let was = mid_above r q in (was.0, (so_far.above r was.1).1)
    listed_above r (inr q) = let above : rank < r = (q.0).above in (omega (arith, above), (q.0).within)

    -- it had been its first interval until now
    first_until : interval_in before who ≡ interval_in first who
    first_until = so_far.others who (untaken (has so_far.taken who) refl)
      where
        untaken : (t : Bool) → has so_far.taken who ≡ t → t ≡ false
        untaken false q = refl
        untaken true q = sym (eq-eqb who who refl) ∙ not_taken who q (nat_eq who who) refl

    -- what has its first interval had it until now
    same_before : (s : ℕ) → interval_in after s ≡ interval_in first s → interval_in before s ≡ interval_in first s
    same_before s same = by_test (who == s) refl
      where
        by_test : (t : Bool) → who == s ≡ t → interval_in before s ≡ interval_in first s
        by_test true e = subst (λ y. interval_in before y ≡ interval_in first y) (eqb-true who s e) first_until
        by_test false e = sym (others s e) ∙ same

    -- what was told has another interval still
    pub told_still : (told changed : List ℕ) → AreChanged told changed (interval_in first) (interval_in before) → AreChanged told changed (interval_in first) (interval_in after)
    told_still told changed are s on = elim (are s on) [ inl was ↦ inl was | inr differs ↦ inr (λ same. differs (same_before s same)) ]

    -- and so has what is told besides
    pub told_more : (told changed new : List ℕ) → AreChanged told changed (interval_in first) (interval_in before) → (HasSame who before after → ⊥) → new ≡ changed ++ who ∷ [] → AreChanged told new (interval_in first) (interval_in after)
    told_more told changed new are changes pushed s on =
        by_case (or_cases (has changed s) (has (who ∷ []) s) (sym (list_any-append (λ y. y == s) changed (who ∷ [])) ∙ sym (ap (λ xs. has xs s) pushed) ∙ on))
      where
        other : who ≡ s → interval_in after s ≡ interval_in first s → ⊥
        other one same = changes (ap (interval_in after) one ∙ same ∙ ap (interval_in first) (sym one) ∙ sym first_until)

        by_case : (has changed s ≡ true) ⊎ (has (who ∷ []) s ≡ true) → (has told s ≡ true) ⊎ (interval_in after s ≡ interval_in first s → ⊥)
        by_case (inl was) = told_still told changed are s was
        by_case (inr last) = elim (or_cases (who == s) false last) [ inl here ↦ inr (other (eqb-true who s here)) | inr never ↦ absurd (cc) ]

    -- what was due is so still
    still_due : (s : ℕ) → IsDue nodes log entries (interval_in first) (interval_in before) s → IsDue nodes log entries (interval_in first) (interval_in after) s
    still_due s (inl noted) = inl noted
    still_due s (inr (x, reading, differs)) = inr (x, reading, λ same. differs (same_before x same))

    -- only ranks above it are listed from now on
    pub rank_passed : (new : ℕ → Bool) → ((r : ℕ) → new r ≡ true → IsLaterListed r) → (r : ℕ) → r ≤ rank → new r ≡ false
    rank_passed new from r le = by_test (new r) refl
      where
        by_test : (t : Bool) → new r ≡ t → t ≡ false
        by_test false q = refl
        by_test true q = let above = (listed_above r (from r q)).0 in absurd (omega (arith, above, le))

    -- one more is evaluated
    pub one_counted : (new : ℕ → Bool) → ((r : ℕ) → new r ≡ true → IsLaterListed r) → (now : ℕ) → now ≡ steps + 1 → IsRowEvaluated h moment who before after → IsCounted h moment nodes log entries order new first after start now
    unfolding IsDistinct
    one_counted new from now counts evaluated = record {
      next = suc rank;
      taken = who ∷ so_far.taken;
      made = (before, so_far.made, evaluated);
      steps_are = let before_are : steps ≡ start + length so_far.taken = so_far.steps_are in omega (arith, counts, before_are);
      distinct = (each_has (λ s. nat_eq who s ≡ false) so_far.taken (λ s q. not_taken s q (nat_eq who s) refl), so_far.distinct);
      reached = λ s q. is_reached s (or_cases (who == s) (has so_far.taken s) q);
      due = λ s q. still_due s (was_due s (or_cases (who == s) (has so_far.taken s) q));
      below = λ s q. is_below s (or_cases (who == s) (has so_far.taken s) q);
      others = λ s q. let parts = or_parts (who == s) (has so_far.taken s) q in others s parts.0 ∙ so_far.others s parts.1;
      above = λ r on. listed_above r (from r on);
      listed_reached = λ r on. is_listed r (from r on);
      listed_due = λ r on. is_due r (from r on);
    }
      where
        is_reached : (s : ℕ) → (who == s ≡ true) ⊎ (has so_far.taken s ≡ true) → in_reaches nodes log entries s ≡ true
        is_reached s (inl e) = ap (in_reaches nodes log entries) (sym (eqb-true who s e)) ∙ who_reached
        is_reached s (inr q) = so_far.reached s q

        was_due : (s : ℕ) → (who == s ≡ true) ⊎ (has so_far.taken s ≡ true) → IsDue nodes log entries (interval_in first) (interval_in before) s
        was_due s (inl e) =
            subst (IsDue nodes log entries (interval_in first) (interval_in before)) (at ∙ eqb-true who s e) (so_far.listed_due rank off.member)
        was_due s (inr q) = so_far.due s q

        is_below : (s : ℕ) → (who == s ≡ true) ⊎ (has so_far.taken s ≡ true) → IsBelow order (suc rank) s
        is_below s (inl e) = record { rank = rank; below = omega arith; within = lt; at = at ∙ eqb-true who s e }
        is_below s (inr q) =
            let was = so_far.below s q in
            record { rank = was.rank; below = omega (arith, was.below, below_rank); within = was.within; at = was.at }

        is_listed : (r : ℕ) → IsLaterListed r → in_reaches nodes log entries (get_or order r 0) ≡ true
        is_listed r (inl q) = so_far.listed_reached r (mid_above r q).1
        is_listed r (inr q) = reader_reached r q.0

        is_due : (r : ℕ) → IsLaterListed r → IsDue nodes log entries (interval_in first) (interval_in after) (get_or order r 0)
        is_due r (inl q) = still_due (get_or order r 0) (so_far.listed_due r (mid_above r q).1)
        is_due r (inr q) =
            inr (who, (q.0).reading, λ same. q.1 (same ∙ sym first_until))
