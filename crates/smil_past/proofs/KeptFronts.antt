-- Readings of first entries of a diary that are kept.
use Rattle.std.proofs.Common.{◌≡◌, refl, sym, ◌∙◌, ap, subst, ℕ, ◌≤◌, Bool, true, List, [], ◌∷◌, ◌++◌, take, length, length-append, get_or, None, Some, arith}
use Rattle.std.specs.Prelude.{All, drop, filter, slice_get}
use Rattle.std.specs.List.{AllByRecursion}
use Rattle.std.proofs.lemmas.List.{length_push, length-take, length-take-le, take-append-drop, take-append-le, take-take}
use Rattle.std.proofs.lemmas.List.Elements.{All-filter, All-weaker, filter_passes}
use Rattle.std.proofs.lemmas.Option.{get_or_from_slice_get, slice_get_within}
use Rattle.smil_model.specs.declared.diary.Entry.{Entry}
use Rattle.smil_model.specs.declared.diary.LogEntry.{LogEntry}
use Rattle.smil_model.specs.document.Document.{Document}
use Rattle.smil_laws.specs.Near.{HasNear}
use Rattle.smil_laws.specs.Cut.{NamesBelow}
use Rattle.smil_tree.proofs.KinLists.{each_left}
use Rattle.smil_stretch.proofs.LawfulDiaries.{lawful_first}
use Rattle.smil_instance_rows.specs.Notes.{MarkedRows}
use Rattle.smil_instances.specs.Intake.{history_of}
use Rattle.smil_past.specs.declared.chronicle.Chronicle.{Chronicle}
use Rattle.smil_past.specs.declared.kept.KeptReadings.{KeptReadings}
use Rattle.smil_past.specs.Past.{IsPossible}
use Rattle.smil_past.specs.Readings.{Holds}
use Rattle.smil_past.specs.Chronicle.{Lags, Tells}
use Rattle.smil_past.specs.Kept.{AreKept, AreWithin, IsBroughtUp, IsKept, KeepsPast}
use Rattle.smil_past.proofs.LogGrown.{holds_longer, holds_shorter}
use Rattle.smil_past.proofs.Catching.{names_front}
use Rattle.smil_past.proofs.Marks.{backs_none}

-- ---- the first entries of a diary

module _ (document : Document) (log : List LogEntry) (diary : List Entry) (len : ℕ) where
  few_left : length (take len diary) ≤ length diary
  few_left =
      let both : length (take len diary ++ drop len diary) ≡ length diary = ap length (take-append-drop len diary) in
      omega (arith, both, length-append (take len diary) (drop len diary))

  -- they were possible too
  pub possible_front : IsPossible document log diary → IsPossible document log (take len diary)
  possible_front possible = record {
    valid = possible.valid;
    lawful = lawful_first (history_of document log diary) len possible.lawful;
    near =
        each_left (λ (x : Entry). HasNear x.step) (take len diary) (drop len diary)
        (subst (AllByRecursion (λ (x : Entry). HasNear x.step)) (sym (take-append-drop len diary)) possible.near);
    named = names_front (length log) len diary possible.named;
    few = omega (arith, possible.few, few_left);
  }

  -- a chronicle that does not have more lags behind them
  pub lags_front : (c : Chronicle) → length c.book ≤ len → len ≤ length diary → Lags document log diary c → Lags document log (take len diary) c
  lags_front c low within lags = record {
    within = omega (arith, low, length-take-le len diary within);
    first = lags.first ∙ sym (take-take (length c.book) len diary low);
    tells = lags.tells;
  }

  -- one that has them lags behind the diary
  pub lags_behind : (c : Chronicle) → len ≤ length diary → c.book ≡ take len diary → Tells document log c → Lags document log diary c
  lags_behind c within is tells =
      let reached : length c.book ≡ len = ap length is ∙ length-take-le len diary within in
      record {
        within = omega (arith, reached, within);
        first = is ∙ sym (ap (λ k. take k diary) reached);
        tells = tells;
      }

  -- readings that are not of more are kept of them
  kept_front : (k : KeptReadings) → k.len ≤ len → IsKept document log diary k → IsKept document log (take len diary) k
  kept_front k low is = record {
    within = omega (arith, low, is.within, length-take len diary);
    holds = subst (λ ds. Holds document log ds k.readings) (sym (take-take k.len len diary low)) is.holds;
  }

  pub kept_filtered : (test : KeptReadings → Bool) → ((k : KeptReadings) → test k ≡ true → k.len ≤ len) → (kept : List KeptReadings) → AreKept document log diary kept → AreKept document log (take len diary) (filter test kept)
  kept_filtered test says kept are = λ place default below.
      let k = get_or (filter test kept) place default in
      kept_front k (says k (filter_passes test kept place default below)) (All-filter test (IsKept document log diary) kept are place default below)

-- ---- readings and chronicles

-- the readings of a chronicle that lags are kept
pub kept_of : (document : Document) (log : List LogEntry) (diary : List Entry) (c : Chronicle) (k : KeptReadings) → k.len ≡ length c.book → k.readings ≡ c.readings → Lags document log diary c → IsKept document log diary k
kept_of document log diary c k len same lags = record {
  within = omega (arith, len, lags.within);
  holds =
      subst (λ ds. Holds document log ds k.readings) (lags.first ∙ sym (ap (λ n. take n diary) len))
      (subst (λ r. Holds document log c.book r) (sym same) lags.tells);
}

-- a chronicle with kept readings lags
pub lags_of : (document : Document) (log : List LogEntry) (diary : List Entry) (c : Chronicle) (k : KeptReadings) → c.book ≡ take k.len diary → c.readings ≡ k.readings → IsKept document log diary k → Lags document log diary c
lags_of document log diary c k is same kept =
    let reached : length c.book ≡ k.len = ap length is ∙ length-take-le k.len diary kept.within in
    record {
      within = omega (arith, reached, kept.within);
      first = is ∙ sym (ap (λ n. take n diary) reached);
      tells = subst (λ ds. Holds document log ds c.readings) (sym is) (subst (λ r. Holds document log (take k.len diary) r) (sym same) kept.holds);
    }

-- ---- one entry more

pub kept_push : (document : Document) (log : List LogEntry) (diary : List Entry) (y : Entry) (kept : List KeptReadings) → AreKept document log diary kept → AreKept document log (diary ++ y ∷ []) kept
kept_push document log diary y =
    All-weaker (IsKept document log diary) (IsKept document log (diary ++ y ∷ []))
    (λ k is. record {
      within = omega (arith, is.within, length_push diary y);
      holds = subst (λ ds. Holds document log ds k.readings) (sym (take-append-le k.len diary (y ∷ []) is.within)) is.holds;
    })

-- ---- a longer log, and a shorter one

module _ (document : Document) (log more : List LogEntry) (diary : List Entry) (kept : List KeptReadings) where
  kept_longer : AreKept document log diary kept → AreKept document (log ++ more) diary kept
  kept_longer =
      All-weaker (IsKept document log diary) (IsKept document (log ++ more) diary)
      (λ k is. record { within = is.within; holds = holds_longer document log more (take k.len diary) is.holds.possible.named k.readings is.holds })
      kept

  kept_shorter : NamesBelow (length log) diary → AreKept document (log ++ more) diary kept → AreKept document log diary kept
  kept_shorter named =
      All-weaker (IsKept document (log ++ more) diary) (IsKept document log diary)
      (λ k is. record { within = is.within; holds = holds_shorter document log more (take k.len diary) (names_front (length log) k.len diary named) k.readings is.holds })
      kept

pub kept_heard : (document : Document) (log now : List LogEntry) (entry : LogEntry) (diary : List Entry) (kept : List KeptReadings) → now ≡ log ++ entry ∷ [] → AreKept document log diary kept → AreKept document now diary kept
kept_heard document log now entry diary kept is are =
    subst (λ l. AreKept document l diary kept) (sym is) (kept_longer document log (entry ∷ []) diary kept are)

pub kept_unheard : (document : Document) (log full now : List LogEntry) (entry : LogEntry) (diary : List Entry) (kept : List KeptReadings) → full ≡ log ++ entry ∷ [] → now ≡ log → NamesBelow (length log) diary → AreKept document full diary kept → AreKept document now diary kept
kept_unheard document log full now entry diary kept is cut named are =
    subst (λ l. AreKept document l diary kept) (sym cut)
    (kept_shorter document log (entry ∷ []) diary kept named (subst (λ l. AreKept document l diary kept) is are))

-- the first entries of the log are enough
pub kept_cut : (document : Document) (log now : List LogEntry) (len : ℕ) (diary : List Entry) (kept : List KeptReadings) → now ≡ take len log → NamesBelow (length (take len log)) diary → AreKept document log diary kept → AreKept document now diary kept
kept_cut document log now len diary kept cut named are =
    subst (λ l. AreKept document l diary kept) (sym cut)
    (kept_shorter document (take len log) (drop len log) diary kept named (subst (λ l. AreKept document l diary kept) (sym (take-append-drop len log)) are))

-- ---- what is kept where it goes back

-- none is kept
pub kept_none : (document : Document) (log : List LogEntry) (diary : List Entry) → AreKept document log diary []
kept_none document log diary = λ place default below. absurd (omega (arith, below))

-- of those that are kept, the ones that are not of more entries
pub kept_there : (document : Document) (log : List LogEntry) (diary : List Entry) (heard len : ℕ) (before kept : List KeptReadings) → IsPossible document (take heard log) (take len diary) → ((d : Document) (l : List LogEntry) (ds : List Entry) → AreKept d l ds before → AreKept d l (take len ds) kept) → AreKept document log diary before → AreKept document (take heard log) (take len diary) kept
kept_there document log diary heard len before kept possible left are =
    kept_cut document log (take heard log) heard (take len diary) kept refl possible.named (left document log diary are)

pub kept_within : (document : Document) (log : List LogEntry) (diary : List Entry) (len : ℕ) (kept : List KeptReadings) → AreKept document log (take len diary) kept → AreWithin (length diary) kept
kept_within document log diary len kept are = λ place default below.
    omega (arith, (are place default below).within, few_left document log diary len)

-- the readings at a place
pub kept_at : (P : KeptReadings → Type 0) (kept : List KeptReadings) (place : ℕ) (k : KeptReadings) → slice_get kept place ≡ Some k → All P kept → P k
kept_at P kept place k at all =
    subst P (get_or_from_slice_get kept place k k at) (all place k (slice_get_within kept place k at))

pub keeps_brought : (document : Document) (log : List LogEntry) (entries : List Entry) (c : Chronicle) (noted : MarkedRows) (kept : List KeptReadings) → IsBroughtUp document log entries c kept → KeepsPast document log c noted None kept
keeps_brought document log entries c noted kept brought = record {
  tells = brought.tells;
  backs_up = backs_none document log c.book c.readings noted;
  kept_are = subst (λ ds. AreKept document log ds kept) (sym brought.book_is) brought.kept_are;
}
