-- Sums of reaches, and how far an edit leaves the diary as it was.
use Rattle.std.specs.Prelude.{ℕ, List, [], ◌∷◌, length, sum_by, Bool, if◌then◌else◌}
use Rattle.std.specs.List.{list_any}
use Rattle.smil_model.specs.declared.diary.Entry.{Entry}
use Rattle.smil_model.specs.declared.diary.LogEntry.{LogEntry}
use Rattle.smil_model.specs.declared.diary.StepKind.TheVariants as kind
use Rattle.smil_model.specs.declared.document.Node.{Node}
use Rattle.smil_model.specs.diary.Diary.{is_step}
use Rattle.smil_model.specs.reach.Reach.{reach}

-- the sum, over the entries, of the numbers of elements in their reaches
abbrev pub reaches : List Node → List LogEntry → List Entry → ℕ
reaches nodes log entries = sum_by (λ entry. length (reach nodes log entry)) entries

-- whether a diary has a begin of the element with this serial
abbrev pub has_begun : List Entry → ℕ → Bool
has_begun diary serial = list_any (λ (x : Entry). is_step kind.Began serial x.step) diary

-- the part of a diary through the first begin of the element; all where there is none
abbrev pub through_begin : ℕ → List Entry → List Entry
through_begin serial [] = []
through_begin serial (x ∷ xs) =
    let rest = through_begin serial xs in
    if is_step kind.Began serial x.step then x ∷ [] else x ∷ rest
