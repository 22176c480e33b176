-- The diary of a document and a log, from moment 0 on, millisecond by millisecond.
use Rattle.std.specs.Prelude.{ℕ, zero, suc, ◌+◌, ◌≡◌, pos, int_le, List, [], ◌∷◌, ◌++◌, length, nat_lt, nat_le, if◌then◌else◌, Option, Some, None, slice_get}
use Rattle.std.specs.Option.{option_map_or}
use Rattle.smil_model.specs.declared.diary.Entry.{Entry}
use Rattle.smil_model.specs.declared.diary.LogEntry.{LogEntry}
use Rattle.smil_model.specs.declared.diary.Step.TheVariants.{Logged}
use Rattle.smil_model.specs.declared.limits.TheConstants.{DIARY_ENTRIES}
use Rattle.smil_model.specs.declared.document.Node.{Node}
use Rattle.smil_model.specs.diary.Diary.{History}
use Rattle.smil_model.specs.happening.Keys.{DueChange, coming, first_coming, is_due}
use Rattle.smil_model.specs.happening.Groups.{group}

-- a document with its log, up to a last moment
pub record Course : Type 0 where
  pub nodes : List Node
  pub log : List LogEntry
  pub last : ℕ

-- how far its resolution has come: the moment, how many log entries were heard, and the diary
pub record Progress : Type 0 where
  pub moment : ℕ
  pub heard : ℕ
  pub diary : List Entry

-- before the first step
abbrev pub outset : Progress
outset = record { moment = 0; heard = 0; diary = [] }

-- what has happened so far
abbrev pub history_at : Course → Progress → History
history_at c p = record { nodes = c.nodes; log = c.log; diary = p.diary }

-- where nothing is due and nothing is to be heard, the next moment comes
abbrev pub after_quiet : Course → Progress → Option Progress
after_quiet c p =
    if nat_lt p.moment c.last
    then Some (record { moment = suc p.moment; heard = p.heard; diary = p.diary })
    else None

-- where nothing is due, the next log entry of the moment is heard
abbrev pub after_settling : Course → Progress → Option LogEntry → Option Progress
after_settling c p None = after_quiet c p
after_settling c p (Some entry) =
    if int_le entry.moment (pos p.moment)
    then Some (record {
      moment = p.moment;
      heard = suc p.heard;
      diary = p.diary ++ record { moment = pos p.moment; step = Logged p.heard } ∷ [];
    })
    else after_quiet c p

-- what is due happens first, that of the least key
abbrev pub after_coming : Course → Progress → Option DueChange → Option Progress
after_coming c p None = after_settling c p (slice_get c.log p.heard)
after_coming c p (Some next) =
    if is_due (pos p.moment) next.key
    then Some (record {
      moment = p.moment;
      heard = p.heard;
      diary = p.diary ++ group (history_at c p) (pos p.moment) next.key.serial next.change;
    })
    else after_settling c p (slice_get c.log p.heard)

-- the next step of the resolution, until the last moment is settled
abbrev pub next_step : Course → Progress → Option Progress
next_step c p = after_coming c p (first_coming (coming (history_at c p) (pos p.moment)))

-- so many steps, or as many as there are
abbrev pub after_steps : Course → ℕ → Progress → Progress
after_steps c zero p = p
after_steps c (suc k) p = option_map_or (λ q. after_steps c k q) (next_step c p) p

-- the diary comes this far, without a bound on its length
abbrev pub Reaches : Course → Progress → Type 0
Reaches c p = (k : ℕ) × (after_steps c k outset ≡ p)

-- each step appends an entry or takes the next moment,
-- so the resolution has ended or has too many entries by then
abbrev pub resolved : Course → Progress
resolved c = after_steps c (suc (DIARY_ENTRIES + c.last)) outset

-- the diary of the course, where it has no more entries than so many,
-- which are not more than may be
abbrev pub diary_within : ℕ → Course → Option (List Entry)
diary_within entries c =
    if nat_le (length (resolved c).diary) entries then Some (resolved c).diary else None

-- the diary of the course, where it has no more entries than may be
abbrev pub diary_of : Course → Option (List Entry)
diary_of c = diary_within DIARY_ENTRIES c
