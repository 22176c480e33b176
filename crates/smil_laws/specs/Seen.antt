-- Which views entries leave as they were.
use Rattle.std.specs.Prelude.{◌≡◌, ℕ, ℤ, List, [], ◌∷◌, ◌++◌, reverse, Bool, true, false, ◌||◌, ◌&&◌, Option, Some, None}
use Rattle.smil_model.specs.declared.diary.Entry.{Entry}
use Rattle.smil_model.specs.declared.diary.LogEntry.{LogEntry}
use Rattle.smil_model.specs.declared.diary.Step.{Step}
use Rattle.smil_model.specs.declared.diary.Step.TheVariants.{Began, Resumed}
use Rattle.smil_model.specs.declared.document.Node.{Node}
use Rattle.smil_model.specs.document.Document.{elements, node_at, is_within, time_parent, is_in_seq, is_in_excl}
use Rattle.smil_model.specs.diary.Diary.{History, up_to}
use Rattle.smil_model.specs.interval.Current.{current_interval}
use Rattle.smil_model.specs.reach.Reach.{shares_parent, subject_of}
use Rattle.smil_laws.specs.Locality.{ParentsBefore}
use Rattle.smil_laws.specs.Same.{view_at}

-- a begin or a resume, which may displace frozen siblings
abbrev pub starts : Step → Bool
starts (Began who begin) = true
starts (Resumed who) = true
starts _ = false

-- an entry shows in the views of its element and of those below it,
-- and where the element begins or resumes in a seq or an excl also in those of its siblings and of
-- those below them
abbrev pub shows_in : List Node → Step → ℕ → ℕ → Bool
shows_in nodes step x s =
    is_within nodes x s
    || (starts step && (is_in_seq nodes x || is_in_excl nodes x)
    && shares_parent nodes (time_parent nodes x) s)

abbrev pub shows_from : List Node → Step → Option ℕ → ℕ → Bool
shows_from nodes step None s = false
shows_from nodes step (Some x) s = shows_in nodes step x s

abbrev pub any_shows : List Node → List LogEntry → List Entry → ℕ → Bool
any_shows nodes log [] s = false
any_shows nodes log (y ∷ ys) s =
    shows_from nodes y.step (subject_of log y.step) s || any_shows nodes log ys s

-- entries leave the view of each element in which none of them shows and whose current interval
-- stays
abbrev pub LeavesViews : Type 0
LeavesViews =
    (h : History) (entries : List Entry) (now : ℤ) (e : Node) → ParentsBefore (reverse h.nodes)
    → node_at (elements h.nodes) e.serial ≡ Some e
    → any_shows h.nodes h.log entries e.serial ≡ false
    → current_interval (up_to h (h.diary ++ entries)) now e.serial ≡ current_interval h now e.serial
    → view_at (up_to h (h.diary ++ entries)) now e ≡ view_at h now e
