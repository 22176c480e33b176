-- A log of which the diary does not name the last entries.
use Rattle.std.proofs.Common.{◌≡◌, refl, sym, ◌∙◌, ap, subst, ℕ, suc, zero, List, [], ◌∷◌, ◌++◌, take, length, length-append, arith}
use Rattle.std.specs.Prelude.{All, map}
use Rattle.std.proofs.Math.Seq.{take-length}
use Rattle.std.proofs.lemmas.List.{take-append-le}
use Rattle.smil_model.specs.declared.diary.Entry.{Entry}
use Rattle.smil_model.specs.declared.diary.LogEntry.{LogEntry}
use Rattle.smil_model.specs.declared.diary.Step.{Step}
use Rattle.smil_model.specs.declared.diary.Step.TheVariants.{Logged}
use Rattle.smil_model.specs.declared.document.Node.{Node}
use Rattle.smil_model.specs.declared.document.Edge.{Edge}
use Rattle.smil_model.specs.declared.document.Edge.TheVariants.{Begin, End}
use Rattle.smil_model.specs.declared.document.Item.{Item}
use Rattle.smil_model.specs.document.Document.{Document, elements}
use Rattle.smil_model.specs.document.Defaults.{begin_list, end_list}
use Rattle.smil_laws.specs.Cut.{IsNamedBelow, NamesBelow}
use Rattle.smil_laws.proofs.AsideDocuments.{media_same}
use Rattle.smil_laws.proofs.LongerLogs.{get_longer, longer_alike}
use Rattle.smil_laws.proofs.CourseCut.{names_weaker}
use Rattle.smil_past.specs.declared.plays.facts.PlayFacts.{PlayFacts}
use Rattle.smil_past.specs.Played.{played, all_played}
use Rattle.smil_instances.specs.SettledTimes.{instances_of, row_of, settled_rows}
use Rattle.smil_instances.proofs.LogEntriesHeard.{IsSameHeard, kept_grown}
use Rattle.smil_instances.specs.Intake.{history_of}
use Rattle.smil_past.specs.declared.readings.Readings.{Readings}
use Rattle.smil_past.specs.Past.{IsPossible}
use Rattle.smil_past.specs.Readings.{Holds, AreReadingsOf}

-- ---- what is named

heard_alike : (log more : List LogEntry) (step : Step) → IsNamedBelow (length log) step → IsSameHeard log (log ++ more) step
heard_alike log more (Logged place) named = get_longer log more place named
heard_alike log more _ named = tt

all_alike : (log more : List LogEntry) (diary : List Entry) → NamesBelow (length log) diary → All (λ (z : Entry). IsSameHeard log (log ++ more) z.step) diary
all_alike log more [] named k d below = absurd (omega (arith, below))
all_alike log more (x ∷ xs) named zero d below = heard_alike log more x.step named.0
all_alike log more (x ∷ xs) named (suc k) d below = all_alike log more xs named.1 k d (omega (arith, below))

-- ---- what is kept

module _ (document : Document) (log more : List LogEntry) (diary : List Entry) (named : NamesBelow (length log) diary) where
  played_same : (s : ℕ) → played (history_of document (log ++ more) diary) s ≡ played (history_of document log diary) s
  played_same s = ap (λ t. record (played (history_of document log diary) s) { length = t }) (media_same (log ++ more) log document.nodes document.nodes diary (longer_alike log more diary named) s)

  abbrev play_row : List LogEntry → Node → ℕ × PlayFacts
  play_row l e = (e.serial, played (history_of document l diary) e.serial)

  plays_same : (es : List Node) → map (play_row (log ++ more)) es ≡ map (play_row log) es
  plays_same [] = refl
  plays_same (e ∷ es) =
      ap (λ p. (e.serial, p) ∷ map (play_row (log ++ more)) es) (played_same e.serial) ∙ ap (λ rows. play_row log e ∷ rows) (plays_same es)

  pub plays_longer : all_played (history_of document (log ++ more) diary) ≡ all_played (history_of document log diary)
  plays_longer = plays_same (elements document.nodes)

  item_same : (e : Node) (side : Edge) (item : Item) → instances_of (history_of document (log ++ more) diary) e side item ≡ instances_of (history_of document log diary) e side item
  item_same e side item = kept_grown (history_of document log diary) (log ++ more) e side item (all_alike log more diary named)

  items_same : (e : Node) (side : Edge) (is : List Item) → map (instances_of (history_of document (log ++ more) diary) e side) is ≡ map (instances_of (history_of document log diary) e side) is
  items_same e side [] = refl
  items_same e side (i ∷ is) =
      ap (λ ts. ts ∷ map (instances_of (history_of document (log ++ more) diary) e side) is) (item_same e side i)
      ∙ ap (λ rest. instances_of (history_of document log diary) e side i ∷ rest) (items_same e side is)

  row_same : (e : Node) → row_of (history_of document (log ++ more) diary) e ≡ row_of (history_of document log diary) e
  row_same e =
      ap (λ ts. record (row_of (history_of document (log ++ more) diary) e) { begins = ts }) (items_same e Begin (begin_list document.nodes e))
      ∙ ap (λ ts. record (row_of (history_of document log diary) e) { ends = ts }) (items_same e End (end_list e))

  rows_same : (es : List Node) → map (row_of (history_of document (log ++ more) diary)) es ≡ map (row_of (history_of document log diary)) es
  rows_same [] = refl
  rows_same (e ∷ es) =
      ap (λ r. r ∷ map (row_of (history_of document (log ++ more) diary)) es) (row_same e)
      ∙ ap (λ rows. row_of (history_of document log diary) e ∷ rows) (rows_same es)

  pub rows_longer : settled_rows (history_of document (log ++ more) diary) ≡ settled_rows (history_of document log diary)
  rows_longer = rows_same (elements document.nodes)

  -- the same is kept with the longer log and with the shorter
  pub kept_longer : (readings : Readings) → AreReadingsOf readings document log diary → AreReadingsOf readings document (log ++ more) diary
  kept_longer readings known = record {
    clocks_are = record {
      next = known.clocks_are.next;
      document = known.clocks_are.document;
      lawful = record { moments = known.clocks_are.lawful.moments; steps = known.clocks_are.lawful.steps };
      value = known.clocks_are.value;
    };
    plays_are = known.plays_are ∙ sym plays_longer;
    queues_are = known.queues_are;
    instances_are = record {
      rows = known.instances_are.rows ∙ sym rows_longer;
      dependents = known.instances_are.dependents;
    };
  }

  pub kept_shorter : (readings : Readings) → AreReadingsOf readings document (log ++ more) diary → AreReadingsOf readings document log diary
  kept_shorter readings known = record {
    clocks_are = record {
      next = known.clocks_are.next;
      document = known.clocks_are.document;
      lawful = record { moments = known.clocks_are.lawful.moments; steps = known.clocks_are.lawful.steps };
      value = known.clocks_are.value;
    };
    plays_are = known.plays_are ∙ plays_longer;
    queues_are = known.queues_are;
    instances_are = record {
      rows = known.instances_are.rows ∙ rows_longer;
      dependents = known.instances_are.dependents;
    };
  }

  pub possible_longer : IsPossible document log diary → IsPossible document (log ++ more) diary
  possible_longer possible = record {
    valid = possible.valid;
    lawful = record { moments = possible.lawful.moments; steps = possible.lawful.steps };
    near = possible.near;
    named = names_weaker (length log) (length (log ++ more)) diary (omega (arith, length-append log more)) possible.named;
    few = possible.few;
  }

  pub possible_shorter : IsPossible document (log ++ more) diary → IsPossible document log diary
  possible_shorter possible = record {
    valid = possible.valid;
    lawful = record { moments = possible.lawful.moments; steps = possible.lawful.steps };
    near = possible.near;
    named = named;
    few = possible.few;
  }

  pub holds_longer : (readings : Readings) → Holds document log diary readings → Holds document (log ++ more) diary readings
  holds_longer readings holds = record { possible = possible_longer holds.possible; readings_are = kept_longer readings holds.readings_are }

  pub holds_shorter : (readings : Readings) → Holds document (log ++ more) diary readings → Holds document log diary readings
  holds_shorter readings holds = record { possible = possible_shorter holds.possible; readings_are = kept_shorter readings holds.readings_are }

-- ---- one log entry more, and one less

pub heard : (document : Document) (log now : List LogEntry) (entry : LogEntry) (diary : List Entry) (readings : Readings) → now ≡ log ++ entry ∷ [] → Holds document log diary readings → Holds document now diary readings
heard document log now entry diary readings is holds =
    subst (λ l. Holds document l diary readings) (sym is) (holds_longer document log (entry ∷ []) diary holds.possible.named readings holds)

pub unheard : (document : Document) (log full now : List LogEntry) (entry : LogEntry) (diary : List Entry) (readings : Readings) → full ≡ log ++ entry ∷ [] → now ≡ log → NamesBelow (length log) diary → Holds document full diary readings → Holds document now diary readings
unheard document log full now entry diary readings is cut named holds =
    subst (λ l. Holds document l diary readings) (sym cut)
    (holds_shorter document log (entry ∷ []) diary named readings (subst (λ l. Holds document l diary readings) is holds))

-- what is left of a log when its last entry is taken away
pub cut_heard : (log full now : List LogEntry) (entry : LogEntry) (place : ℕ) → full ≡ log ++ entry ∷ [] → place ≡ length log → now ≡ take place full → now ≡ log
cut_heard log full now entry place is at cut =
    cut ∙ ap (take place) is ∙ ap (λ k. take k (log ++ entry ∷ [])) at ∙ take-append-le (length log) log (entry ∷ []) (omega arith) ∙ take-length log
