-- Quiet moments: while nothing happens, the passing of time changes nothing but the moment.
use Rattle.std.specs.Prelude.{◌≡◌, ℕ, suc, ◌+◌, ◌≤◌, pos, int_le, reverse, true, Some, slice_get}
use Rattle.smil_model.specs.declared.diary.LogEntry.{LogEntry}
use Rattle.smil_model.specs.diary.Diary.{History}
use Rattle.smil_model.specs.diary.Clocks.{until}
use Rattle.smil_model.specs.interval.Current.{current_interval}
use Rattle.smil_model.specs.happening.Keys.{DueChange, coming, first_coming}
use Rattle.smil_model.specs.happening.Resolution.{Course, Progress, history_at, after_steps}
use Rattle.smil_model.specs.shown.Views.{views}
use Rattle.smil_laws.specs.Locality.{ParentsBefore}

-- a millisecond later the current intervals, what comes, and the views are the same
pub record IsSameLater (h : History) (m : ℕ) : Type 0 where
  pub intervals : (s : ℕ) → current_interval h (pos (suc m)) s ≡ current_interval h (pos m) s
  pub coming : coming h (pos (suc m)) ≡ coming h (pos m)
  pub views : views h (pos (suc m)) ≡ views h (pos m)

-- so it is where no entry is later than the moment
abbrev pub QuietChangesNothing : Type 0
QuietChangesNothing =
    (h : History) (m : ℕ) → ParentsBefore (reverse h.nodes) → until (pos m) h.diary ≡ h.diary
    → IsSameLater h m

-- nothing comes, and nothing is logged, before so many milliseconds have passed
pub record IsQuietFor (c : Course) (p : Progress) (n : ℕ) : Type 0 where
  pub past : until (pos p.moment) p.diary ≡ p.diary
  pub coming :
      (next : DueChange) → first_coming (coming (history_at c p) (pos p.moment)) ≡ Some next
      → int_le (pos (p.moment + n)) next.key.value ≡ true
  pub log : (entry : LogEntry) → slice_get c.log p.heard ≡ Some entry
      → int_le (pos (p.moment + n)) entry.moment ≡ true
  pub last : p.moment + n ≤ c.last

-- the resolution with so many milliseconds passed
abbrev pub later_by : ℕ → Progress → Progress
later_by n p = record { moment = p.moment + n; heard = p.heard; diary = p.diary }

-- then the resolution comes to that moment with the same diary, so quiet moments may be jumped
abbrev pub QuietMayBeJumped : Type 0
QuietMayBeJumped =
    (c : Course) (p : Progress) (n : ℕ) → ParentsBefore (reverse c.nodes) → IsQuietFor c p n
    → after_steps c n p ≡ later_by n p
