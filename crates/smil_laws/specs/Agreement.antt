-- Two documents that are the same but for the descendants of one element,
-- and the diaries that agree until it begins.
use Rattle.std.specs.Prelude.{◌≡◌, ℕ, ℤ, suc, List, filter, reverse, Bool, true, false, not, ◌||◌, ◌==◌, is_some, Some, None}
use Rattle.std.specs.List.{AllByRecursion, list_any}
use Rattle.smil_model.specs.declared.diary.Entry.{Entry}
use Rattle.smil_model.specs.declared.diary.LogEntry.{LogEntry}
use Rattle.smil_model.specs.declared.diary.Step.{Step}
use Rattle.smil_model.specs.declared.diary.Step.TheVariants.{Began, Repeated, Ended, Cut, Paused, Resumed, Deferred, Passed, Logged}
use Rattle.smil_model.specs.declared.document.Node.{Node}
use Rattle.smil_model.specs.document.Document.{is_element, elements, node_at, time_parent, element_named, serial_of}
use Rattle.smil_model.specs.document.Dependencies.{leads_to, is_sync_with, all_items}
use Rattle.smil_laws.specs.Locality.{ParentsBefore}
use Rattle.smil_model.specs.interval.Current.{current_interval}
use Rattle.smil_model.specs.diary.Lawful.{IsLawful}
use Rattle.smil_model.specs.reach.Bounds.{has_begun, through_begin}
use Rattle.smil_model.specs.happening.Resolution.{Course, Progress, outset, history_at, next_step, after_steps, Reaches, resolved, diary_of}

-- a node is set aside exactly where its parent is p or is set aside, and p is no priorityClass
abbrev pub IsPlaced : (ℕ → Bool) → ℕ → Node → Type 0
IsPlaced aside p n =
    (aside n.serial ≡ ((n.parent == p) || aside n.parent))
    × (n.serial == p ≡ true → is_element n ≡ true)

-- the nodes of a document that are set aside are the descendants of p
pub record IsAside (aside : ℕ → Bool) (p : ℕ) (nodes : List Node) : Type 0 where
  pub first : ParentsBefore (reverse nodes)
  pub placed : AllByRecursion (IsPlaced aside p) nodes
  pub under : (e : Node) → node_at (elements nodes) e.serial ≡ Some e → aside e.serial ≡ true
      → is_some (time_parent nodes e.serial) ≡ true

abbrev pub without_aside : (ℕ → Bool) → List Node → List Node
without_aside aside nodes = filter (λ (n : Node). not (aside n.serial)) nodes

-- two documents are the same but for the descendants of p; an id names the same element in both,
-- or none, and a reference of a node outside is looped in both or in none
pub record DifferBelow (aside : ℕ → Bool) (p : ℕ) (old new : List Node) : Type 0 where
  pub same : without_aside aside old ≡ without_aside aside new
  pub in_old : IsAside aside p old
  pub in_new : IsAside aside p new
  pub ids : (id : List ℕ) → serial_of (element_named old id) ≡ serial_of (element_named new id)
  pub loops : (e : Node) (x : ℕ) → node_at (elements old) e.serial ≡ Some e → aside e.serial ≡ false
      → list_any (is_sync_with old x) (all_items old e) ≡ true
      → leads_to old e.serial x ≡ leads_to new e.serial x

-- whether a step other than Logged is on one of these
abbrev pub is_on : (ℕ → Bool) → Step → Bool
is_on test (Began who begin) = test who
is_on test (Repeated who start) = test who
is_on test (Ended who end') = test who
is_on test (Cut who) = test who
is_on test (Paused who) = test who
is_on test (Resumed who) = test who
is_on test (Deferred who begin) = test who
is_on test (Passed who begin) = test who
is_on test (Logged place) = false

-- nothing of the diary has happened to them
abbrev pub SparesAll : (ℕ → Bool) → List Entry → Type 0
SparesAll aside diary = AllByRecursion (λ (x : Entry). is_on aside x.step ≡ false) diary

abbrev pub course_on : List Node → List LogEntry → ℕ → Course
course_on nodes log last = record { nodes = nodes; log = log; last = last }

-- the resolutions of two documents that are the same but for the descendants of p are the same up
-- to and with the step by which p begins first
abbrev pub AgreesUntilBegun : Type 0
AgreesUntilBegun =
    (aside : ℕ → Bool) (p : ℕ) (old new : List Node) (log : List LogEntry) (last k : ℕ)
    → DifferBelow aside p old new
    → has_begun (after_steps (course_on old log last) k outset).diary p ≡ false
    → after_steps (course_on old log last) (suc k) outset
    ≡ after_steps (course_on new log last) (suc k) outset

-- so the resolution of the new document comes to the part of the old diary through the first begin
-- of p
abbrev pub AgreesThroughBegin : Type 0
AgreesThroughBegin =
    (aside : ℕ → Bool) (p : ℕ) (old new : List Node) (log : List LogEntry) (last k : ℕ)
    → DifferBelow aside p old new
    → (r : Progress) × Reaches (course_on new log last) r
    × (r.diary ≡ through_begin p (after_steps (course_on old log last) k outset).diary)

-- and where p does not begin, the diaries are the same
abbrev pub SameUnlessBegun : Type 0
SameUnlessBegun =
    (aside : ℕ → Bool) (p : ℕ) (old new : List Node) (log : List LogEntry) (last : ℕ)
    → DifferBelow aside p old new
    → has_begun (resolved (course_on old log last)).diary p ≡ false
    → diary_of (course_on old log last) ≡ diary_of (course_on new log last)

-- one step: by a diary that is lawful and in which p has not begun,
-- both documents give no interval to what is set aside, the same current intervals to all,
-- and the same next step
pub record SameStep (aside : ℕ → Bool) (old new : List Node) (log : List LogEntry) (last : ℕ)
    (at : Progress) : Type 0 where
  pub none : (now : ℤ) (s : ℕ) → aside s ≡ true
      → current_interval (history_at (course_on old log last) at) now s ≡ None
  pub same : (now : ℤ) (s : ℕ) → current_interval (history_at (course_on old log last) at) now s
      ≡ current_interval (history_at (course_on new log last) at) now s
  pub next : next_step (course_on old log last) at ≡ next_step (course_on new log last) at

abbrev pub StepsAgree : Type 0
StepsAgree =
    (aside : ℕ → Bool) (p : ℕ) (old new : List Node) (log : List LogEntry) (last : ℕ)
    (at : Progress)
    → DifferBelow aside p old new
    → IsLawful (history_at (course_on old log last) at)
    → has_begun at.diary p ≡ false
    → SameStep aside old new log last at
