-- What a diary's index keeps: where the last entries on each element stand.
use Rattle.std.specs.Prelude.{◌≡◌, ℕ, suc, ◌≤◌, List, length, Bool, ◌&&◌, ◌==◌, if◌then◌else◌, nat_eq, Option, Some, None, option_map, unwrap_or}
use Rattle.std.specs.List.{position}
use Rattle.std.specs.Map.{lookup}
use Rattle.smil_model.specs.declared.limits.TheConstants.{DIARY_ENTRIES}
use Rattle.smil_model.specs.declared.diary.Entry.{Entry}
use Rattle.smil_model.specs.declared.diary.Step.{Step}
use Rattle.smil_model.specs.declared.diary.Step.TheVariants.{Began, Repeated, Ended, Cut, Paused, Resumed, Deferred, Passed, Logged}
use Rattle.smil_model.specs.declared.diary.StepKind.{StepKind}
use Rattle.smil_model.specs.declared.diary.StepKind.TheVariants as kind
use Rattle.smil_model.specs.diary.Diary.{iteration_from, last_step}
use Rattle.smil_diary.specs.declared.element.ElementPlaces.{ElementPlaces}
use Rattle.smil_diary.specs.declared.element.TheConstants.{NOTHING}
use Rattle.smil_diary.specs.Places.{is_later, later_of, is_from}

-- the element that a step is on, and the step's kind
abbrev pub subject : Step → Option (ℕ × StepKind)
subject (Began who begin) = Some (who, kind.Began)
subject (Repeated who start) = Some (who, kind.Repeated)
subject (Ended who end') = Some (who, kind.Ended)
subject (Cut who) = Some (who, kind.Cut)
subject (Paused who) = Some (who, kind.Paused)
subject (Resumed who) = Some (who, kind.Resumed)
subject (Deferred who begin) = Some (who, kind.Deferred)
subject (Passed who begin) = Some (who, kind.Passed)
subject (Logged place) = None

-- the last place of one kind
abbrev pub last_of : ElementPlaces → StepKind → Option ℕ
last_of e kind.Began = e.began
last_of e kind.Repeated = e.repeated
last_of e kind.Ended = e.ended
last_of e kind.Cut = e.cut
last_of e kind.Paused = e.paused
last_of e kind.Resumed = e.resumed
last_of e kind.Deferred = e.deferred
last_of e kind.Passed = e.passed

-- the element is active: the last begin is after all ends and cuts
abbrev pub active_by : ElementPlaces → Bool
active_by e = is_later e.began (later_of e.ended e.cut)

-- it is active and paused: the last pause is after all resumes and begins
abbrev pub paused_by : ElementPlaces → Bool
paused_by e = active_by e && is_later e.paused (later_of e.resumed e.began)

-- the last begin or repeat, by which its children are born
abbrev pub birth_by : ElementPlaces → Option ℕ
birth_by e = later_of e.began e.repeated

-- the last begin, pass, end or cut, by which it is no longer deferred
abbrev pub decision_by : ElementPlaces → Option ℕ
decision_by e = later_of (later_of e.began e.passed) (later_of e.ended e.cut)

-- it is deferred while its parent is active: the last deferral is not before its birth,
-- and after all of those
abbrev pub deferred_by : ℕ → ElementPlaces → Bool
deferred_by birth e = is_from birth e.deferred && is_later e.deferred (decision_by e)

-- one more entry
abbrev pub noted : StepKind → ℕ → ElementPlaces → ElementPlaces
noted kind.Began p e = record e { began = Some p; repeats = Some 0 }
noted kind.Repeated p e = record e { repeated = Some p; repeats = option_map suc e.repeats }
noted kind.Ended p e = record e { ended = Some p }
noted kind.Cut p e = record e { cut = Some p }
noted kind.Paused p e = record e { paused = Some p }
noted kind.Resumed p e = record e { resumed = Some p }
noted kind.Deferred p e = record e { deferred = Some p }
noted kind.Passed p e = record e { passed = Some p }

-- the first row of an index for a serial
abbrev pub row_of : List (ℕ × ElementPlaces) → ℕ → Option ℕ
row_of elements serial = position (λ (e : ℕ × ElementPlaces). e.0 == serial) elements

-- a row without entries
abbrev pub cleared : ℕ × ElementPlaces → ℕ × ElementPlaces
cleared row = (row.0, NOTHING)

-- the places that an index has for a serial
abbrev pub kept : List (ℕ × ElementPlaces) → ℕ → ElementPlaces
kept elements serial = unwrap_or (lookup (nat_eq serial) elements) NOTHING

-- one more entry on one element
abbrev pub noted_at : ℕ → StepKind → ℕ → ℕ → ElementPlaces → ElementPlaces
noted_at who k p serial e = if who == serial then noted k p e else e

-- one more entry, by the element that it is on and its kind
abbrev pub noted_by : Option (ℕ × StepKind) → ℕ → ℕ → ElementPlaces → ElementPlaces
noted_by None p serial e = e
noted_by (Some on) p serial e = noted_at on.0 on.1 p serial e

-- ---- of a diary

-- what the index keeps of an element
unfoldable pub element_of : List Entry → ℕ → ElementPlaces
element_of diary serial = record {
  began = last_step diary kind.Began serial;
  ended = last_step diary kind.Ended serial;
  cut = last_step diary kind.Cut serial;
  repeated = last_step diary kind.Repeated serial;
  repeats = iteration_from serial diary;
  paused = last_step diary kind.Paused serial;
  resumed = last_step diary kind.Resumed serial;
  deferred = last_step diary kind.Deferred serial;
  passed = last_step diary kind.Passed serial;
}

-- a diary that isn't too long, and an index that has of each element what it keeps
abbrev pub IsBook : List Entry → List (ℕ × ElementPlaces) → Type 0
IsBook diary index =
    (length diary ≤ DIARY_ENTRIES) × ((serial : ℕ) → kept index serial ≡ element_of diary serial)
