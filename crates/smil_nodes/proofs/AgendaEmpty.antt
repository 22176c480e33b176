-- Nothing is listed any more.
use Rattle.std.proofs.Common.{◌≡◌, refl, ◌∙◌, ap, subst, sym, ℕ, ◌+◌, ◌-◌, ◌≤◌, List, [], ◌∷◌, ◌++◌, length, Option, ℤ, Bool, true, false, arith, inl, inr}
use Rattle.std.specs.Prelude.{◌&&◌, ◌==◌, not, is_some}
use Rattle.std.proofs.lemmas.Bool.{eqb-true, or_left, or_parts}
use Rattle.std.proofs.lemmas.List.Folds.{list_any-append}
use Rattle.smil_model.specs.declared.diary.Entry.{Entry}
use Rattle.smil_model.specs.declared.diary.LogEntry.{LogEntry}
use Rattle.smil_model.specs.declared.interval.Interval.{Interval}
use Rattle.smil_model.specs.declared.document.Node.{Node}
use Rattle.smil_model.specs.document.Document.{elements, node_at}
use Rattle.smil_model.specs.document.Closure.{has}
use Rattle.smil_model.specs.document.Valid.{IsDistinct}
use Rattle.smil_model.specs.diary.Diary.{History}
use Rattle.smil_model.specs.interval.Current.{current_interval}
use Rattle.smil_model.specs.reach.Bounds.{reaches}
use Rattle.smil_laws.specs.Edited.{IsOrdered}
use Rattle.smil_graph.specs.Graph.{IsGraphOrder}
use Rattle.smil_rounds.specs.declared.current_rows.CurrentRow.{CurrentRow}
use Rattle.smil_rounds.specs.Current.{AreCurrent, interval_in}
use Rattle.smil_rounds.specs.Round.{AreRowsEvaluated, StayUnchanged}
use Rattle.smil_cells.specs.CellsState.{any_interval, fresh, is_same_interval}
use Rattle.smil_rounds.proofs.CurrentRowsExact.{all_current}
use Rattle.smil_cells.proofs.SettlingSteps.{same_self}
use Rattle.smil_cells.specs.Evaluated.{AreChanged, IsDue, is_noted_by}
use Rattle.smil_nodes.specs.Work.{AreDueOnce, AreSettled, IsCounted}
use Rattle.smil_nodes.proofs.ElementsCounted.{passing_within, within_reaches}
use Rattle.smil_nodes.proofs.RowAtElement.{current_intervals}
use Rattle.smil_nodes.proofs.ElementRanks.{element_of}
use Rattle.smil_laws.proofs.Lists.{filter_shorter}

-- rows that are as the intervals of all give them are current
pub taken_current : (h : History) (now : ℤ) (order : List ℕ) (rows : List CurrentRow) → IsOrdered h.nodes → IsGraphOrder h.nodes order → AreRowsEvaluated h now order (length order) rows → AreCurrent rows h now
taken_current h now order rows ordered is taken =
    (all_current h now order rows ordered is taken).current

pub settled_current : (h : History) (now : ℤ) (order : List ℕ) (listed : ℕ → Bool) (rows : List CurrentRow) → IsOrdered h.nodes → IsGraphOrder h.nodes order → AreSettled h now order listed rows → ((r : ℕ) → listed r ≡ false) → AreCurrent rows h now
settled_current h now order listed rows ordered is settled none =
    taken_current h now order rows ordered is
    (record {
      of_elements = settled.of_elements;
      rows_are = λ k place e row less at here got. settled.rows_are k place e row less at (none k) here got;
    })

-- ---- what is told of intervals that change

pub told_pushed : (old new : List ℕ) (who : ℕ) (before after : List CurrentRow) → ((s : ℕ) → who == s ≡ false → interval_in after s ≡ interval_in before s) → new ≡ old ++ who ∷ [] → StayUnchanged old new before after
told_pushed old new who before after others pushed = record {
  more = λ s among. ap (λ xs. has xs s) pushed ∙ list_any-append (λ y. y == s) old (who ∷ []) ∙ or_left _ _ among;
  others = λ s out. others s (or_parts _ _ ((or_parts _ _ (sym (list_any-append (λ y. y == s) old (who ∷ [])) ∙ sym (ap (λ xs. has xs s) pushed) ∙ out)).1)).0;
}

pub told_same : (old new : List ℕ) (who : ℕ) (before after : List CurrentRow) → ((s : ℕ) → who == s ≡ false → interval_in after s ≡ interval_in before s) → new ≡ old → interval_in after who ≡ interval_in before who → StayUnchanged old new before after
told_same old new who before after others same stays = record {
  more = λ s among. ap (λ xs. has xs s) same ∙ among;
  others = λ s out. by_test s (who == s) refl;
}
  where
    by_test : (s : ℕ) (t : Bool) → who == s ≡ t → interval_in after s ≡ interval_in before s
    by_test s true q = let one : who ≡ s = eqb-true who s q in ap (interval_in after) (sym one) ∙ stays ∙ ap (interval_in before) one
    by_test s false q = others s q

-- the current interval of each element that is not told stays
pub untold_stay : (front h : History) (now : ℤ) (old new : List CurrentRow) (told changed : List ℕ) → AreCurrent old front now → AreCurrent new h now → StayUnchanged told changed old new → (s : ℕ) → has changed s ≡ false → current_interval h now s ≡ current_interval front now s
untold_stay front h now old new told changed before after unchanged s out =
    sym (current_intervals new h now after s) ∙ unchanged.others s out ∙ current_intervals old front now before s

-- what is told has another current interval
pub told_differ : (front h : History) (now : ℤ) (old new : List CurrentRow) (told changed : List ℕ) → AreCurrent old front now → AreCurrent new h now → AreChanged told changed (interval_in old) (interval_in new) → AreChanged told changed (current_interval front now) (current_interval h now)
told_differ front h now old new told changed before after are s on =
    elim (are s on) [
      | inl was ↦ inl was
      | inr differs ↦ inr (λ same. differs (current_intervals new h now after s ∙ same ∙ sym (current_intervals old front now before s)))
    ]

-- ---- how many were evaluated

module _ (h : History) (moment : ℤ) (nodes : List Node) (log : List LogEntry) (entries : List Entry) (order : List ℕ) (listed : ℕ → Bool) (first rows : List CurrentRow) (start steps : ℕ) (counted : IsCounted h moment nodes log entries order listed first rows start steps) where
  -- at most as many as the entries reach
  pub counted_most : steps - start ≤ reaches nodes log entries
  counted_most =
      let steps_are : steps ≡ start + length counted.taken = counted.steps_are in
      let most : length counted.taken ≤ reaches nodes log entries = within_reaches nodes log entries counted.taken counted.distinct counted.reached in
      omega (arith, steps_are, most)

  -- the elements that are due by the intervals at the end, each once
  pub evaluated_due : IsGraphOrder nodes order → (before after : ℕ → Option Interval) → ((s : ℕ) → interval_in first s ≡ before s) → ((s : ℕ) → interval_in rows s ≡ after s) → AreDueOnce h moment nodes log entries first rows before after (steps - start)
  evaluated_due ordered before after was is = record {
    told = record {
      evaluated = counted.taken;
      as_many = let steps_are : steps ≡ start + length counted.taken = counted.steps_are in omega (arith, steps_are);
      are = record {
        distinct = counted.distinct;
        are_elements = λ s q.
            let ranked = counted.below s q in
            let there = element_of nodes order ranked.rank ordered ranked.within in
            ap (λ x. is_some (node_at (elements nodes) x)) (sym ranked.at ∙ sym there.1) ∙ ap is_some there.2;
        due = λ s q. is_due s (counted.due s q);
        others = λ s q. sym (is s) ∙ counted.others s q ∙ was s;
      };
    };
    made = counted.made;
  }
    where
      is_due : (s : ℕ) → IsDue nodes log entries (interval_in first) (interval_in rows) s → IsDue nodes log entries before after s
      is_due s (inl noted) = inl (subst (λ (g : ℕ → Option Interval). is_noted_by nodes log g entries s ≡ true) (λ i x. was x i) noted)
      is_due s (inr (x, reading, differs)) = inr (x, reading, λ same. differs (is x ∙ same ∙ sym (was x)))

  -- at least as many as have an interval that they had not
  pub counted_least : (before after : ℕ → Option Interval) → IsDistinct nodes → ((s : ℕ) → interval_in first s ≡ before s) → ((s : ℕ) → interval_in rows s ≡ after s) → fresh nodes before after ≤ steps - start
  counted_least before after distinct was is =
      let steps_are : steps ≡ start + length counted.taken = counted.steps_are in
      let least : fresh nodes before after ≤ length counted.taken =
      passing_within nodes (λ (e : Node). is_some (after e.serial) && not (is_same_interval (before e.serial) (after e.serial))) counted.taken distinct
      (λ e here passes. evaluated e.serial (has counted.taken e.serial) refl passes) in
      omega (arith, steps_are, least)
    where
      evaluated : (s : ℕ) (t : Bool) → has counted.taken s ≡ t → is_some (after s) && not (is_same_interval (before s) (after s)) ≡ true → t ≡ true
      evaluated s true q passes = refl
      evaluated s false q passes =
          let same : after s ≡ before s = sym (is s) ∙ counted.others s q ∙ was s in
          let never : false ≡ true = sym (same_self (after s)) ∙ ap (λ x. is_some (after s) && not (is_same_interval x (after s))) same ∙ passes in
          cc

pub any_least : (nodes : List Node) (intervals : ℕ → Option Interval) (start steps : ℕ) → steps ≡ start + length (elements nodes) → any_interval nodes intervals ≤ steps - start
any_least nodes intervals start steps are =
    let few : any_interval nodes intervals ≤ length (elements nodes) = filter_shorter (λ (e : Node). is_some (intervals e.serial)) (elements nodes) in
    omega (arith, are, few)
