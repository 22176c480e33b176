-- A diary with one entry more.
use Rattle.std.proofs.Common.{◌≡◌, sym, ◌∙◌, ap, subst, ℕ, ◌+◌, ◌-◌, ◌≤◌, List, [], ◌∷◌, ◌++◌, take, length, arith}
use Rattle.std.proofs.Math.Seq.{take-length}
use Rattle.std.proofs.lemmas.List.{take-append-le, length_push}
use Rattle.smil_model.specs.declared.limits.TheConstants.{DIARY_ENTRIES}
use Rattle.smil_model.specs.declared.diary.Entry.{Entry}
use Rattle.smil_model.specs.declared.diary.LogEntry.{LogEntry}
use Rattle.smil_model.specs.document.Document.{Document}
use Rattle.smil_model.specs.diary.Diary.{with_entry}
use Rattle.smil_model.specs.diary.Lawful.{IsLawful}
use Rattle.smil_laws.specs.Near.{HasNear}
use Rattle.smil_laws.specs.Cut.{IsNamedBelow}
use Rattle.smil_laws.proofs.Lists.{each_push}
use Rattle.smil_stretch.specs.Clocks.{AreClocksOf}
use Rattle.smil_past.specs.Played.{all_played}
use Rattle.smil_past.specs.Queues.{kept_queues}
use Rattle.smil_instances.specs.Instances.{IsSettled}
use Rattle.smil_instances.specs.Intake.{history_of}
use Rattle.smil_past.specs.declared.readings.Readings.{Readings}
use Rattle.smil_past.specs.Past.{IsPossible}
use Rattle.smil_past.specs.Readings.{Holds, AreReadingsOf, IsLast}

-- ---- lists

pub cut_last : {A : Type 0} (xs ys : List A) (y : A) (n : ℕ) → ys ≡ xs ++ y ∷ [] → n ≡ length ys → take (n - 1) ys ≡ xs
cut_last xs ys y n is len =
    let long : length ys ≡ length xs + 1 = ap length is ∙ length_push xs y in
    let at : n - 1 ≡ length xs = omega (arith, len, long) in
    ap (λ k. take k ys) at ∙ ap (take (length xs)) is ∙ take-append-le (length xs) xs (y ∷ []) (omega arith) ∙ take-length xs

-- ---- what may have happened

pub below_full : (n limit : ℕ) → n ≤ limit → (n ≡ limit → ⊥) → n + 1 ≤ limit
below_full n limit few other = omega (arith, few, other)

pub possible_push : (document : Document) (log : List LogEntry) (diary : List Entry) (y : Entry) → IsPossible document log diary → IsLawful (with_entry (history_of document log diary) y) → HasNear y.step → IsNamedBelow (length log) y.step → length diary + 1 ≤ DIARY_ENTRIES → IsPossible document log (diary ++ y ∷ [])
possible_push document log diary y possible lawful near named few = record {
  valid = possible.valid;
  lawful = lawful;
  near = each_push (λ (x : Entry). HasNear x.step) diary y possible.near near;
  named = each_push (λ (x : Entry). IsNamedBelow (length log) x.step) diary y possible.named named;
  few = omega (arith, few, length_push diary y);
}

-- the entry is the last one of the longer diary
pub is_last : (document : Document) (log : List LogEntry) (diary more : List Entry) (y : Entry) (readings : Readings) → AreReadingsOf readings document log diary → IsLawful (with_entry (history_of document log diary) y) → HasNear y.step → more ≡ diary ++ y ∷ [] → IsLast readings y document log more
is_last document log diary more y readings known lawful near is = record {
  before = diary;
  diary_is = is;
  readings_are = known;
  lawful = lawful;
  near = near;
}

-- what is kept of the longer diary, by what is kept of it with one entry more
pub taken_in : (document : Document) (log : List LogEntry) (before diary : List Entry) (y : Entry) (readings : Readings) → diary ≡ before ++ y ∷ [] → AreClocksOf readings.clocks (with_entry (history_of document log before) y) → readings.plays ≡ all_played (with_entry (history_of document log before) y) → readings.queues ≡ kept_queues (with_entry (history_of document log before) y) → IsSettled readings.instances document log diary → AreReadingsOf readings document log diary
taken_in document log before diary y readings is clocks plays queues instances =
    subst (λ ds. AreReadingsOf readings document log ds) (sym is)
    (record {
      clocks_are = clocks;
      plays_are = plays;
      queues_are = queues;
      instances_are = subst (λ ds. IsSettled readings.instances document log ds) is instances;
    })

-- ---- the same values

pub holds_by : (document : Document) (log : List LogEntry) (diary now : List Entry) (readings other : Readings) → now ≡ diary → other ≡ readings → Holds document log diary readings → Holds document log now other
holds_by document log diary now readings other is same holds =
    subst (λ ds. Holds document log ds other) (sym is) (subst (λ k. Holds document log diary k) (sym same) holds)

pub holds_now : (document : Document) (log : List LogEntry) (diary now : List Entry) (readings : Readings) → now ≡ diary → IsPossible document log diary → AreReadingsOf readings document log now → Holds document log now readings
holds_now document log diary now readings is possible known = record { possible = subst (IsPossible document log) (sym is) possible; readings_are = known }
