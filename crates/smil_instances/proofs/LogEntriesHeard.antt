-- What is kept goes by those log entries alone that were heard.
use Rattle.std.proofs.Common.{◌≡◌, refl, ◌∙◌, ap, ℕ, suc, List, [], ◌∷◌, ◌++◌, Option, Some, None, ℤ, Bool, arith}
use Rattle.std.specs.Prelude.{cond, ◌+ℤ◌, ◌&&◌, All, slice_get}
use Rattle.std.specs.List.{cons_option}
use Rattle.smil_model.specs.declared.times.Time.{Time}
use Rattle.smil_model.specs.declared.diary.Entry.{Entry}
use Rattle.smil_model.specs.declared.diary.LogEntry.{LogEntry}
use Rattle.smil_model.specs.declared.diary.Step.{Step}
use Rattle.smil_model.specs.declared.diary.Step.TheVariants.{Logged}
use Rattle.smil_model.specs.declared.document.Node.{Node}
use Rattle.smil_model.specs.declared.document.Edge.{Edge}
use Rattle.smil_model.specs.declared.document.Edge.TheVariants.{Begin, End}
use Rattle.smil_model.specs.declared.document.Item.{Item}
use Rattle.smil_model.specs.declared.document.Item.TheVariants.{Offset, Sync, Event, Repeat, Key, Indefinite}
use Rattle.smil_model.specs.Times.{within_horizon}
use Rattle.smil_model.specs.document.Document.{previous_in_seq, element_named, target}
use Rattle.smil_model.specs.diary.Diary.{History, birth, with_past, up_to}
use Rattle.smil_model.specs.diary.Clocks.{outer}
use Rattle.smil_model.specs.reach.Reach.{is_option, logged_key}
use Rattle.smil_model.specs.interval.Instances.{hears, is_event, is_log_event, is_press}
use Rattle.smil_instance_rows.specs.Rows.{at_place, from_place}
use Rattle.smil_instances.specs.SettledTimes.{heard_time, offset_instances, named_instances, event_instances, instances_of, occurs_event, occurs_key}
use Rattle.smil_instances.proofs.PlacedLists.{placed}

-- the two logs have the same where the step hears an entry
abbrev pub IsSameHeard : List LogEntry → List LogEntry → Step → Type 0
IsSameHeard log more (Logged place) = slice_get more place ≡ slice_get log place
IsSameHeard log more _ = Unit {0}

same_event : (log more : List LogEntry) (x : ℕ) (name : List ℕ) (step : Step) → IsSameHeard log more step → is_event more x name step ≡ is_event log x name step
same_event log more x name (Logged place) q = ap (is_log_event x name) q
same_event log more x name _ q = refl

same_press : (log more : List LogEntry) (key : ℕ) (step : Step) → IsSameHeard log more step → is_press more key step ≡ is_press log key step
same_press log more key (Logged place) q = ap (λ o. is_option key (logged_key o)) q
same_press log more key _ q = refl

module _ (h : History) (more : List LogEntry) where
  abbrev grown : History
  grown = record { nodes = h.nodes; log = more; diary = h.diary }

  module _ (e : Node) (side : Edge) (item : Item) (offset : ℤ) (occurs : History → Step → Bool) (alike : (past : List Entry) (step : Step) → IsSameHeard h.log more step → occurs (up_to grown past) step ≡ occurs (up_to h past) step) where
    abbrev by : History → List Entry × Entry → Option Time
    by k = λ (p : List Entry × Entry). heard_time k e side item offset occurs p.0 p.1

    heard_same : (k : ℕ) (before ds : List Entry) → All (λ (z : Entry). IsSameHeard h.log more z.step) ds → placed (by grown) k (with_past before ds) ≡ placed (by h) k (with_past before ds)
    heard_same k before [] same = refl
    heard_same k before (z ∷ zs) same =
        ap (λ b. cons_option (at_place k (cond (b && hears (up_to h before) e side item) (Some (within_horizon (outer h e.serial z.moment +ℤ offset))) None)) (placed (by grown) (suc k) (with_past (before ++ z ∷ []) zs)))
        (alike before z.step (same 0 z (omega arith)))
        ∙ ap (λ ps. cons_option (at_place k (by h (before, z))) ps) (heard_same (suc k) (before ++ z ∷ []) zs (λ j d below. same (suc j) d (omega (arith, below))))

  pub kept_grown : (e : Node) (side : Edge) (item : Item) → All (λ (z : Entry). IsSameHeard h.log more z.step) h.diary → instances_of grown e side item ≡ instances_of h e side item
  kept_grown e side (Offset offset) same = by_before (previous_in_seq h.nodes e.serial)
    where
      by_before : (o : Option Node) → offset_instances grown e.serial offset o ≡ offset_instances h e.serial offset o
      by_before None = refl
      by_before (Some b) = refl
  kept_grown e side (Sync who edge offset) same = by_node (element_named h.nodes who)
    where
      by_node : (o : Option Node) → named_instances grown e.serial offset edge o ≡ named_instances h e.serial offset edge o
      by_node None = refl
      by_node (Some x) = refl
  kept_grown e side (Event who name offset) same = by_target (target h.nodes e.serial who)
    where
      by_target : (o : Option ℕ) → event_instances grown e side (Event who name offset) offset name o ≡ event_instances h e side (Event who name offset) offset name o
      by_target None = refl
      by_target (Some x) = ap (from_place (birth h e.serial)) (heard_same e side (Event who name offset) offset (occurs_event x name) (λ past step q. same_event h.log more x name step q) 0 [] h.diary same)
  kept_grown e side (Repeat who n offset) same = refl
  kept_grown e side (Key key offset) same =
      ap (from_place (birth h e.serial)) (heard_same e side (Key key offset) offset (occurs_key key) (λ past step q. same_press h.log more key step q) 0 [] h.diary same)
  kept_grown e Begin Indefinite same = refl
  kept_grown e End Indefinite same = refl
