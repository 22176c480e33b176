-- A diary taken in from its first entry on.
use Rattle.std.proofs.Common.{◌≡◌, refl, sym, ◌∙◌, ap, subst, ℕ, ◌+◌, List, [], ◌∷◌, ◌++◌, Some, take}
use Rattle.std.specs.Prelude.{slice_get}
use Rattle.smil_model.specs.declared.diary.Entry.{Entry}
use Rattle.smil_model.specs.declared.diary.LogEntry.{LogEntry}
use Rattle.smil_model.specs.declared.diary.Step.{Step}
use Rattle.smil_model.specs.declared.diary.Step.TheVariants.{Began}
use Rattle.smil_model.specs.declared.document.Node.{Node}
use Rattle.smil_model.specs.document.Document.{Document}
use Rattle.smil_model.specs.diary.Diary.{History, with_past, with_entry}
use Rattle.smil_model.specs.diary.Lawful.{AllLawful, IsLawful, is_lawful_step}
use Rattle.smil_stretch.specs.declared.clock.NodeClock.{NodeClock}
use Rattle.smil_stretch.specs.Clocks.{AreClocksOf, IsLawfulFor}
use Rattle.smil_stretch.proofs.LawfulDiaries.{lawful_first}
use Rattle.smil_stretch.proofs.IdleClocks.{next_first}
use Rattle.smil_instances.specs.Entry.{IsAtHand}
use Rattle.smil_instances.specs.Intake.{history_of}

-- ---- lawful with any log

abbrev by : List Node → List LogEntry → List Entry → History
by nodes log diary = record { nodes = nodes; log = log; diary = diary }

step_same : (nodes : List Node) (one other : List LogEntry) (ds : List Entry) (s : Step) → is_lawful_step (by nodes one ds) s ≡ is_lawful_step (by nodes other ds) s
step_same nodes one other ds (Began who begin) = refl
step_same nodes one other ds _ = refl

all_same : (nodes : List Node) (one other : List LogEntry) (diary ds before : List Entry) → AllLawful (by nodes one diary) (with_past before ds) → AllLawful (by nodes other diary) (with_past before ds)
all_same nodes one other diary [] before all = tt
all_same nodes one other diary (x ∷ xs) before all =
    (step_same nodes other one before x.step ∙ all.0, all_same nodes one other diary xs (before ++ x ∷ []) all.1)

pub lawful_of : (document : Document) (log : List LogEntry) (diary : List Entry) → IsLawfulFor document diary → IsLawful (history_of document log diary)
lawful_of document log diary for =
    let h = for.past in
    let own : IsLawful (by h.nodes log h.diary) = record {
      moments = for.history.lawful.moments;
      steps = all_same h.nodes h.log log h.diary h.diary [] for.history.lawful.steps;
    } in
    subst (λ ds. IsLawful (by document.nodes log ds)) for.history.same_diary (subst (λ ns. IsLawful (by ns log h.diary)) for.history.same_nodes own)

-- ---- one entry more

module _ (document : Document) (log : List LogEntry) (diary : List Entry) (k : ℕ) (y : Entry) (at : slice_get diary k ≡ Some y) where
  abbrev whole : History
  whole = history_of document log diary

  pub next_is : with_entry (history_of document log (take k diary)) y ≡ history_of document log (take (k + 1) diary)
  next_is = next_first whole k y at

  pub next_front : take k diary ++ y ∷ [] ≡ take (k + 1) diary
  next_front = ap (λ (h : History). h.diary) next_is

  pub next_lawful : IsLawful whole → IsLawful (with_entry (history_of document log (take k diary)) y)
  next_lawful lawful = subst IsLawful (sym next_is) (lawful_first whole (k + 1) lawful)

  pub at_hand : (clocks : List NodeClock) (front : List Entry) → IsLawful whole → AreClocksOf clocks (history_of document log (take k diary)) → front ≡ take k diary ++ y ∷ [] → IsAtHand document clocks log front
  at_hand clocks front lawful known is = record {
    past = history_of document log (take k diary);
    entry = y;
    is_entry = record { same_nodes = refl; same_log = refl; same_diary = is; lawful = next_lawful lawful; known = known };
  }
