-- Histories by which the same is current: what the passing of time, and a log that grows,
-- leave as it was.
use Rattle.std.specs.Prelude.{◌≡◌, ℕ, ◌+◌, ℤ, pos, List, ◌++◌, length, reverse}
use Rattle.smil_model.specs.declared.diary.LogEntry.{LogEntry}
use Rattle.smil_model.specs.declared.document.Node.{Node}
use Rattle.smil_model.specs.declared.view.View.{View}
use Rattle.smil_model.specs.diary.Diary.{History}
use Rattle.smil_model.specs.diary.Clocks.{until}
use Rattle.smil_model.specs.interval.Current.{current_table, current_interval}
use Rattle.smil_model.specs.happening.Keys.{DueChange, coming_of}
use Rattle.smil_model.specs.shown.Views.{view_of}
use Rattle.smil_laws.specs.Locality.{ParentsBefore}
use Rattle.smil_laws.specs.Cut.{NamesBelow}

-- what comes of an element, and how it is shown
abbrev pub comings_at : History → ℤ → ℕ → Node → List DueChange
comings_at h now place e = coming_of h (current_interval h now) now place e

abbrev pub view_at : History → ℤ → Node → View
view_at h now e = view_of h now (current_interval h now) e

-- by two histories of one document and one diary the same is current, the same comes,
-- and the same is shown
pub record IsSame (h : History) (m : ℤ) (k : History) (n : ℤ) : Type 0 where
  pub nodes : k.nodes ≡ h.nodes
  pub diary : k.diary ≡ h.diary
  pub table : current_table k n ≡ current_table h m
  pub comings : (place : ℕ) (e : Node) → comings_at k n place e ≡ comings_at h m place e
  pub view : (e : Node) → view_at k n e ≡ view_at h m e

-- where no entry is later than a moment, all is the same any number of milliseconds later
abbrev pub TimePassesQuietly : Type 0
TimePassesQuietly =
    (h : History) (m n : ℕ) → ParentsBefore (reverse h.nodes) → until (pos m) h.diary ≡ h.diary
    → IsSame h (pos m) h (pos (m + n))

abbrev pub with_log : History → List LogEntry → History
with_log h more = record { nodes = h.nodes; log = h.log ++ more; diary = h.diary }

-- log entries that the diary does not name change nothing
abbrev pub LogMayBeLonger : Type 0
LogMayBeLonger =
    (h : History) (more : List LogEntry) (now : ℤ) → NamesBelow (length h.log) h.diary
    → IsSame h now (with_log h more) now
