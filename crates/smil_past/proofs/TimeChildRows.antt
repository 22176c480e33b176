-- The time children of an element, by their time parent, and their rows after a step of it.
use Rattle.std.proofs.Common.{◌≡◌, refl, sym, ◌∙◌, ap, ℕ, List, [], ◌∷◌, Option, Some, None, Bool, true, false}
use mathlib.Core.Bool.{and-false}
use Rattle.std.specs.Prelude.{cond, not, ◌==◌, ◌||◌, ◌&&◌, filter, option_map}
use Rattle.std.specs.List.{list_any}
use Rattle.std.proofs.lemmas.Bool.{eqb-true}
use Rattle.smil_model.specs.declared.diary.Step.{Step}
use Rattle.smil_model.specs.declared.document.Node.{Node}
use Rattle.smil_model.specs.document.Document.{elements, is_element, has_serial, is_time_child, time_parent, time_children}
use Rattle.smil_model.specs.diary.Lawful.{has_element}
use Rattle.smil_model.specs.diary.Plays.{is_birth_under}
use Rattle.smil_laws.proofs.LineageParents.{same_eqb}
use Rattle.smil_past.specs.declared.plays.facts.PlayFacts.{PlayFacts}
use Rattle.smil_past.specs.Rows.{row_of, AreAfterParent, AreChildrenTaken}
use Rattle.smil_past.specs.Followed.{is_death_under, child_after}
use Rattle.smil_past.proofs.PlayRows.{found_any}

any_child : (nodes : List Node) (who s : ℕ) (ns : List Node) → list_any (λ (n : Node). n.serial == s) (filter (is_time_child nodes who) ns) ≡ (list_any (λ (n : Node). n.serial == s) (filter is_element ns) && has_serial who (time_parent nodes s))
any_child nodes who s [] = refl
any_child nodes who s (n ∷ ns) = by_test (n.serial == s) (is_element n) (has_serial who (time_parent nodes n.serial)) refl refl (any_child nodes who s ns)
  where
    kids : List Node
    kids = filter (is_time_child nodes who) ns

    es : List Node
    es = filter is_element ns

    by_test : (t u v : Bool) → n.serial == s ≡ t → has_serial who (time_parent nodes n.serial) ≡ v → list_any (λ (m : Node). m.serial == s) kids ≡ (list_any (λ (m : Node). m.serial == s) es && has_serial who (time_parent nodes s)) → list_any (λ (m : Node). m.serial == s) (cond (u && v) (n ∷ kids) kids) ≡ (list_any (λ (m : Node). m.serial == s) (cond u (n ∷ es) es) && has_serial who (time_parent nodes s))
    by_test t false v e f more = more
    by_test true true true e f more =
        ap (λ w. w || list_any (λ (m : Node). m.serial == s) kids) e
        ∙ sym (ap (λ w. (w || list_any (λ (m : Node). m.serial == s) es) && has_serial who (time_parent nodes s)) e ∙ ap (λ k. has_serial who (time_parent nodes k)) (sym (eqb-true n.serial s e)) ∙ f)
    by_test true true false e f more =
        let off : has_serial who (time_parent nodes s) ≡ false = ap (λ k. has_serial who (time_parent nodes k)) (sym (eqb-true n.serial s e)) ∙ f in
        more ∙ ap (λ w. list_any (λ (m : Node). m.serial == s) es && w) off ∙ and-false (list_any (λ (m : Node). m.serial == s) es)
        ∙ sym (ap (λ w. (w || list_any (λ (m : Node). m.serial == s) es) && has_serial who (time_parent nodes s)) e ∙ off)
    by_test false true true e f more = ap (λ w. w || list_any (λ (m : Node). m.serial == s) kids) e ∙ more ∙ sym (ap (λ w. (w || list_any (λ (m : Node). m.serial == s) es) && has_serial who (time_parent nodes s)) e)
    by_test false true false e f more = more ∙ sym (ap (λ w. (w || list_any (λ (m : Node). m.serial == s) es) && has_serial who (time_parent nodes s)) e)

is_child : (nodes : List Node) (who s : ℕ) → has_element nodes s ≡ true → list_any (λ (n : Node). n.serial == s) (time_children nodes who) ≡ has_serial who (time_parent nodes s)
is_child nodes who s q = any_child nodes who s nodes ∙ ap (λ t. t && has_serial who (time_parent nodes s)) (sym (found_any s (elements nodes)) ∙ q)

same_map : (o : Option PlayFacts) → o ≡ option_map (child_after false false) o
same_map None = refl
same_map (Some r) = refl

-- a step of `who` by which its time children are born, or are left
pub children_taken : (nodes : List Node) (step : Step) (who : ℕ) (birth : Bool) (old new : List (ℕ × PlayFacts)) → ((p : Node) → is_birth_under (Some p) step ≡ (birth && (who == p.serial))) → ((p : Node) → is_death_under (Some p) step ≡ (not birth && (who == p.serial))) → AreAfterParent (time_children nodes who) birth old new → AreChildrenTaken nodes step old new
children_taken nodes step who birth old new born left are = record {
  same_keys = are.same_keys;
  rows = λ s known.
      are.rows s ∙ ap (λ t. cond t (option_map (child_after birth (not birth)) (row_of old s)) (row_of old s)) (is_child nodes who s known)
      ∙ under (time_parent nodes s) (row_of old s);
}
  where
    by_both : (b t : Bool) (o : Option PlayFacts) → cond t (option_map (child_after b (not b)) o) o ≡ option_map (child_after (b && t) (not b && t)) o
    by_both true true o = refl
    by_both false true o = refl
    by_both true false o = same_map o
    by_both false false o = same_map o

    under : (o : Option Node) (r : Option PlayFacts) → cond (has_serial who o) (option_map (child_after birth (not birth)) r) r ≡ option_map (child_after (is_birth_under o step) (is_death_under o step)) r
    under None r = same_map r
    under (Some p) r =
        ap (λ t. cond t (option_map (child_after birth (not birth)) r) r) (same_eqb p.serial who)
        ∙ by_both birth (who == p.serial) r
        ∙ ap (λ b. option_map (child_after b (not birth && (who == p.serial))) r) (sym (born p))
        ∙ ap (λ d. option_map (child_after (is_birth_under (Some p) step) d) r) (sym (left p))
