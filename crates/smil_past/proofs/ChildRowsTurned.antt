-- Rows as time children are turned one after another.
use Rattle.std.proofs.Common.{◌≡◌, refl, sym, ◌∙◌, ap, ℕ, ◌+◌, ◌<◌, List, length, take, Option, Some, None, Bool, true, false}
use Rattle.std.specs.Prelude.{cond, not, ◌==◌, ◌||◌, option_map, slice_get}
use Rattle.std.specs.List.{list_any}
use Rattle.std.proofs.lemmas.Bool.{eqb-true}
use Rattle.std.proofs.lemmas.List.Folds.{list_any_more}
use Rattle.std.proofs.lemmas.Option.{get_or_from_slice_get}
use Rattle.smil_model.specs.declared.document.Node.{Node}
use Rattle.smil_past.specs.declared.plays.facts.PlayFacts.{PlayFacts}
use Rattle.smil_past.specs.Rows.{row_of, turned, IsPut, IsAfterParent, AreAfterParent}
use Rattle.smil_past.specs.Followed.{child_after}

-- ---- one row

pub turn_none : (who : ℕ) (birth : Bool) (rows : List (ℕ × PlayFacts)) → row_of rows who ≡ None → IsAfterParent who birth rows rows
turn_none who birth rows none = record { same_keys = refl; rows = λ s. by_test s (who == s) refl }
  where
    by_test : (s : ℕ) (t : Bool) → who == s ≡ t → row_of rows s ≡ turned t birth (row_of rows s)
    by_test s true e =
        let gone : row_of rows s ≡ None = ap (row_of rows) (sym (eqb-true who s e)) ∙ none in
        gone ∙ sym (ap (option_map (child_after birth (not birth))) gone)
    by_test s false e = refl

pub turn_put : (who : ℕ) (birth : Bool) (r : PlayFacts) (before after : List (ℕ × PlayFacts)) → row_of before who ≡ Some r → IsPut who (child_after birth (not birth) r) before after → IsAfterParent who birth before after
turn_put who birth r before after had put = record { same_keys = put.same_keys; rows = λ s. put.rows s ∙ by_test s (who == s) refl }
  where
    by_test : (s : ℕ) (t : Bool) → who == s ≡ t → cond t (option_map (λ (q : PlayFacts). child_after birth (not birth) r) (row_of before s)) (row_of before s) ≡ turned t birth (row_of before s)
    by_test s true e =
        let here : row_of before s ≡ Some r = ap (row_of before) (sym (eqb-true who s e)) ∙ had in
        ap (option_map (λ (q : PlayFacts). child_after birth (not birth) r)) here ∙ sym (ap (option_map (child_after birth (not birth))) here)
    by_test s false e = refl

-- ---- one row after another

twice : (b : Bool) (o : Option PlayFacts) → option_map (child_after b (not b)) (option_map (child_after b (not b)) o) ≡ option_map (child_after b (not b)) o
twice true None = refl
twice false None = refl
twice true (Some r) = refl
twice false (Some r) = refl

pub turned_more : (kids : List Node) (k serial : ℕ) (b : Bool) (old cur new : List (ℕ × PlayFacts)) (n : Node) → slice_get kids k ≡ Some n → n.serial ≡ serial → k < length kids → AreAfterParent (take k kids) b old cur → IsAfterParent serial b cur new → AreAfterParent (take (k + 1) kids) b old new
turned_more kids k serial b old cur new n at is less are turn = record {
  same_keys = turn.same_keys ∙ are.same_keys;
  rows = λ s.
      turn.rows s ∙ ap (λ o. cond (serial == s) (option_map (child_after b (not b)) o) o) (are.rows s)
      ∙ by_both (serial == s) (list_any (λ (m : Node). m.serial == s) (take k kids)) (row_of old s)
      ∙ sym (ap (λ t. cond t (option_map (child_after b (not b)) (row_of old s)) (row_of old s))
      (list_any_more (λ (m : Node). m.serial == s) kids k n less
      ∙ ap (λ (m : Node). list_any (λ (x : Node). x.serial == s) (take k kids) || (m.serial == s)) (get_or_from_slice_get kids k n n at)
      ∙ ap (λ j. list_any (λ (x : Node). x.serial == s) (take k kids) || (j == s)) is));
}
  where
    by_both : (u t : Bool) (o : Option PlayFacts) → cond u (option_map (child_after b (not b)) (cond t (option_map (child_after b (not b)) o) o)) (cond t (option_map (child_after b (not b)) o) o) ≡ cond (t || u) (option_map (child_after b (not b)) o) o
    by_both true true o = twice b o
    by_both true false o = refl
    by_both false true o = refl
    by_both false false o = refl
