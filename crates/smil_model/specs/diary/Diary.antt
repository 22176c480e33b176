-- What a diary says of an element: its birth, whether it is active, alive, paused or deferred,
-- and its iteration.
use Rattle.std.specs.Prelude.{ℕ, ℤ, pos, suc, List, [], ◌∷◌, ◌++◌, drop, length, fold, Bool, true, false, ◌&&◌, ◌||◌, ◌==◌, if◌then◌else◌, Option, Some, None, is_some, option_map, unwrap_or}
use Rattle.std.specs.Option.{option_map_or}
use Rattle.smil_model.specs.declared.diary.Entry.{Entry}
use Rattle.smil_model.specs.declared.diary.LogEntry.{LogEntry}
use Rattle.smil_model.specs.declared.diary.Step.{Step}
use Rattle.smil_model.specs.declared.diary.StepKind.{StepKind}
use Rattle.smil_model.specs.declared.diary.StepKind.TheVariants as kind
use Rattle.smil_model.specs.declared.diary.Step.TheVariants.{Began, Repeated, Ended, Cut, Paused, Resumed, Deferred, Passed}
use Rattle.smil_model.specs.declared.document.Node.{Node}
use Rattle.smil_model.specs.document.Document.{time_parent}

-- a document, a log, and what has happened so far
pub record History : Type 0 where
  pub nodes : List Node
  pub log : List LogEntry
  pub diary : List Entry

-- the place of the last one that passes
abbrev pub later_place : Bool → Option ℕ → Option ℕ
later_place passes (Some k) = Some (suc k)
later_place true None = Some 0
later_place false None = None

abbrev pub last_place : {A : Type 0} → (A → Bool) → List A → Option ℕ
last_place test [] = None
last_place test (x ∷ xs) = later_place (test x) (last_place test xs)

-- a begin or a repeat of the element, which is the birth of its time children
abbrev pub gives_birth : ℕ → Step → Bool
gives_birth serial (Began who begin) = who == serial
gives_birth serial (Repeated who start) = who == serial
gives_birth serial _ = false

-- how many entries there are up to and with the birth:
-- the last begin or repeat of the time parent. It is none for the root,
-- and all where the time parent never began
abbrev pub birth_under : Option Node → List Entry → ℕ
birth_under None diary = 0
birth_under (Some p) diary =
    option_map_or suc (last_place (λ (x : Entry). gives_birth p.serial x.step) diary) (length diary)

abbrev pub birth : History → ℕ → ℕ
birth h serial = birth_under (time_parent h.nodes serial) h.diary

-- the entries since birth
abbrev pub since_birth : History → ℕ → List Entry
since_birth h serial = drop (birth h serial) h.diary

-- the element is active from its begin to its next end or cut
abbrev pub active_after : ℕ → Bool → Step → Bool
active_after serial before (Began who begin) = (who == serial) || before
active_after serial before (Ended who end') = if who == serial then false else before
active_after serial before (Cut who) = if who == serial then false else before
active_after serial before _ = before

abbrev pub is_active : List Entry → ℕ → Bool
is_active diary serial = fold (λ before (x : Entry). active_after serial before x.step) false diary

-- the element is paused from its last pause to its next resume or begin, while it is active
abbrev pub paused_after : ℕ → Bool → Step → Bool
paused_after serial before (Began who begin) = if who == serial then false else before
paused_after serial before (Paused who) = (who == serial) || before
paused_after serial before (Resumed who) = if who == serial then false else before
paused_after serial before _ = before

abbrev pub is_paused : List Entry → ℕ → Bool
is_paused diary serial =
    is_active diary serial
    && fold (λ before (x : Entry). paused_after serial before x.step) false diary

-- an element is alive while its time parent is active, and the root always
abbrev pub lives_under : Option Node → List Entry → Bool
lives_under None diary = true
lives_under (Some p) diary = is_active diary p.serial

abbrev pub is_alive : History → ℕ → Bool
is_alive h serial = lives_under (time_parent h.nodes serial) h.diary

-- the entry by which the element is deferred: that of its last begin, end, cut,
-- deferral or pass since birth
abbrev pub deferral_after : ℕ → Entry → Option Entry → Step → Option Entry
deferral_after serial here before (Began who begin) = if who == serial then None else before
deferral_after serial here before (Ended who end') = if who == serial then None else before
deferral_after serial here before (Cut who) = if who == serial then None else before
deferral_after serial here before (Deferred who begin) = if who == serial then Some here else before
deferral_after serial here before (Passed who begin) = if who == serial then None else before
deferral_after serial here before _ = before

abbrev pub deferral : History → ℕ → Option Entry
deferral h serial =
    if is_alive h serial
    then fold (λ before (x : Entry). deferral_after serial x before x.step) None
    (since_birth h serial)
    else None

-- whether the element is deferred
abbrev pub is_deferred : History → ℕ → Bool
is_deferred h serial = is_some (deferral h serial)

-- the repeats since the last begin since birth; none where it did not begin since birth
abbrev pub iteration_after : ℕ → Option ℕ → Step → Option ℕ
iteration_after serial before (Began who begin) = if who == serial then Some 0 else before
iteration_after serial before (Repeated who start) =
    if who == serial then option_map suc before else before
iteration_after serial before _ = before

abbrev pub iteration_from : ℕ → List Entry → Option ℕ
iteration_from serial entries =
    fold (λ before (x : Entry). iteration_after serial before x.step) None entries

-- the number of the iteration of the present play, or of the last one since birth, or 0
abbrev pub iteration : History → ℕ → ℕ
iteration h serial = unwrap_or (iteration_from serial (since_birth h serial)) 0

-- ---- earlier states, and places

-- the history whose diary goes no further than these entries
abbrev pub up_to : History → List Entry → History
up_to h diary = record { nodes = h.nodes; log = h.log; diary = diary }

-- the history with one entry more
abbrev pub with_entry : History → Entry → History
with_entry h y = up_to h (h.diary ++ y ∷ [])

-- the moment of the last entry, and 0 where there is none
abbrev pub last_moment : List Entry → ℤ
last_moment diary = fold (λ before (x : Entry). x.moment) (pos 0) diary

-- each entry with those before it
abbrev pub with_past : List Entry → List Entry → List (List Entry × Entry)
with_past before [] = []
with_past before (x ∷ xs) = (before, x) ∷ with_past (before ++ x ∷ []) xs

-- whether a step is of this kind and on this element
abbrev pub is_step : StepKind → ℕ → Step → Bool
is_step kind.Began serial (Began who begin) = who == serial
is_step kind.Repeated serial (Repeated who start) = who == serial
is_step kind.Ended serial (Ended who end') = who == serial
is_step kind.Cut serial (Cut who) = who == serial
is_step kind.Paused serial (Paused who) = who == serial
is_step kind.Resumed serial (Resumed who) = who == serial
is_step kind.Deferred serial (Deferred who begin) = who == serial
is_step kind.Passed serial (Passed who begin) = who == serial
is_step _ serial _ = false

-- the place of the last step of this kind on this element
abbrev pub last_step : List Entry → StepKind → ℕ → Option ℕ
last_step diary kind serial = last_place (λ (x : Entry). is_step kind serial x.step) diary
