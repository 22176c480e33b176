-- In a lawful diary nothing happens below an element that has not begun; so one step is the same for both documents.
use Rattle.std.proofs.Common.{◌≡◌, refl, sym, ◌∙◌, ap, ℕ, List, [], ◌∷◌, ◌++◌, Option, Some, None, Bool, true, false, append_assoc}
use Rattle.std.specs.Prelude.{not, ◌&&◌, is_some}
use Rattle.std.proofs.lemmas.Bool.{and_parts, or_parts}
use Rattle.std.proofs.lemmas.List.Folds.{list_any-append}
use Rattle.smil_model.specs.declared.diary.Entry.{Entry}
use Rattle.smil_model.specs.declared.diary.LogEntry.{LogEntry}
use Rattle.smil_model.specs.declared.diary.Step.{Step}
use Rattle.smil_model.specs.declared.diary.Step.TheVariants.{Began, Repeated, Ended, Cut, Paused, Resumed, Deferred, Passed, Logged}
use Rattle.smil_model.specs.declared.diary.StepKind.TheVariants as kind
use Rattle.smil_model.specs.declared.document.Node.{Node}
use Rattle.smil_model.specs.document.Document.{elements, node_at}
use Rattle.smil_model.specs.diary.Diary.{History, is_active, is_alive, is_paused, with_past, is_step}
use Rattle.smil_model.specs.diary.Lawful.{has_element, may_begin, is_lawful_step, AllLawful, IsLawful}
use Rattle.smil_laws.specs.Agreement.{IsAside, DifferBelow, is_on, SparesAll, SameStep}
use Rattle.smil_model.specs.reach.Bounds.{has_begun}
use Rattle.smil_model.specs.happening.Resolution.{Progress}
use Rattle.smil_laws.proofs.RoundsRest.{find-serial}
use Rattle.smil_laws.proofs.AsideDocuments.{names_itself, each_append, inactive, spared, never_alive}
use Rattle.smil_laws.proofs.AsideIntervals.{current_none, current_same}
use Rattle.smil_laws.proofs.ResolutionsAgree.{next_same}

module _ (aside : ℕ → Bool) (p : ℕ) (nodes : List Node) (b : IsAside aside p nodes) (log : List LogEntry) where
  abbrev with : List Entry → History
  with ds = record { nodes = nodes; log = log; diary = ds }

  module _ (ds : List Entry) (free : SparesAll aside ds) (never : has_begun ds p ≡ false) where
    none_waits : (who : ℕ) → (has_element nodes who && may_begin (with ds) who) ≡ true → aside who ≡ false
    none_waits who q = by_case (aside who) refl
      where
        parts : (has_element nodes who ≡ true) × (may_begin (with ds) who ≡ true)
        parts = and_parts (has_element nodes who) (may_begin (with ds) who) q

        alive : is_alive (with ds) who ≡ true
        alive = (and_parts _ _ parts.1).0

        by_node : aside who ≡ true → (o : Option Node) → node_at (elements nodes) who ≡ o → ((e : Node) → o ≡ Some e → e.serial ≡ who) → is_some o ≡ true → aside who ≡ false
        by_node a None r f t = cc
        by_node a (Some e) r f t =
            let one : e.serial ≡ who = f e refl in
            let dead : is_alive (with ds) e.serial ≡ false = never_alive aside p nodes b log ds free never e (ap (node_at (elements nodes)) one ∙ r) (ap aside one ∙ a) in
            let never_so : false ≡ true = sym dead ∙ ap (is_alive (with ds)) one ∙ alive in cc

        by_case : (t : Bool) → aside who ≡ t → aside who ≡ false
        by_case true a = by_node a (node_at (elements nodes) who) refl (find-serial who (elements nodes)) parts.0
        by_case false a = a

    none_active : (who : ℕ) → is_active ds who ≡ true → aside who ≡ false
    none_active who q = by_case (aside who) refl
      where
        by_case : (t : Bool) → aside who ≡ t → aside who ≡ false
        by_case true a = let never_so : false ≡ true = sym (inactive ds who (spared aside p ds who free a)) ∙ q in cc
        by_case false a = a

    step_spares : (step : Step) → is_lawful_step (with ds) step ≡ true → is_on aside step ≡ false
    step_spares (Began who begin) q = none_waits who q
    step_spares (Deferred who begin) q = none_waits who q
    step_spares (Passed who begin) q = none_waits who q
    step_spares (Repeated who start) q = none_active who (and_parts (has_element nodes who) _ q).1
    step_spares (Ended who end') q = none_active who (and_parts (has_element nodes who) _ q).1
    step_spares (Cut who) q = none_active who (and_parts (has_element nodes who) _ q).1
    step_spares (Paused who) q = none_active who (and_parts (is_active ds who) (not (is_paused ds who)) (and_parts (has_element nodes who) _ q).1).0
    step_spares (Resumed who) q = none_active who (and_parts (is_active ds who) _ (and_parts (has_element nodes who) _ q).1).0
    step_spares (Logged place) q = refl

  spares_from : (ds before xs : List Entry) → SparesAll aside before → has_begun (before ++ xs) p ≡ false → AllLawful (with ds) (with_past before xs) → SparesAll aside xs
  spares_from ds before [] free never all = tt
  spares_from ds before (x ∷ xs) free never all =
      let front : has_begun before p ≡ false = (or_parts _ _ (sym (list_any-append (λ (y : Entry). is_step kind.Began p y.step) before (x ∷ xs)) ∙ never)).0 in
      let here : is_on aside x.step ≡ false = step_spares before free front x.step all.0 in (
        here,
        spares_from ds (before ++ x ∷ []) xs (each_append (λ (y : Entry). is_on aside y.step ≡ false) before (x ∷ []) free (here, tt))
            (ap (λ ys. has_begun ys p) (append_assoc before (x ∷ []) xs) ∙ never) all.1,
      )

  pub lawful_spares : (ds : List Entry) → IsLawful (with ds) → has_begun ds p ≡ false → SparesAll aside ds
  lawful_spares ds lawful never = spares_from ds [] ds tt never lawful.steps

pub steps_agree : (aside : ℕ → Bool) (p : ℕ) (old new : List Node) (log : List LogEntry) (last : ℕ) (at : Progress) → DifferBelow aside p old new → IsLawful (record { nodes = old; log = log; diary = at.diary }) → has_begun at.diary p ≡ false → SameStep aside old new log last at
steps_agree aside p old new log last at differ lawful never =
    let free = lawful_spares aside p old differ.in_old log at.diary lawful never in
    record {
      none = λ now s a. current_none aside p old new differ log log at.diary free never (names_itself log at.diary) now s a;
      same = λ now s. current_same aside p old new differ log log at.diary free never (names_itself log at.diary) now s;
      next = next_same aside p old new differ log last at free never;
    }
