-- The verdict on a diary: whether it is that of its document, its log and its last moment, and
-- else the first place at which it is wrong.
use Rattle.std.specs.Prelude.{ℕ, suc, ◌+◌, ℤ, pos, int_le, List, [], ◌∷◌, length, take, Bool, true, ◌&&◌, Option, Some, None, nat_le, if◌then◌else◌}
use Rattle.smil_model.specs.declared.diary.Entry.{Entry}
use Rattle.smil_model.specs.declared.diary.LogEntry.{LogEntry}
use Rattle.smil_model.specs.declared.document.Node.{Node}
use Rattle.smil_model.specs.happening.Resolution.{Course, after_steps, outset}
use Rattle.smil_laws.specs.Agreement.{course_on}
use Rattle.smil_laws.specs.Cut.{is_logged, logged}
use Rattle.smil_audit.specs.Entries.{agreed}

-- ---- log entries in their places

-- the moment of the last log entry so far
abbrev pub heard_at : ℤ → Entry → ℤ
heard_at from entry = if is_logged entry.step then entry.moment else from

-- a log entry is in its place where its moment is from that of the one before it to the last moment
abbrev pub is_in_place : ℤ → ℤ → Entry → Bool
is_in_place from last entry =
    if is_logged entry.step then int_le from entry.moment && int_le entry.moment last else true

-- the entries before the first log entry that is out of its place
abbrev pub placed : ℤ → ℤ → List Entry → List Entry
placed from last [] = []
placed from last (entry ∷ entries) =
    if is_in_place from last entry then entry ∷ placed (heard_at from entry) last entries else []

-- ---- the verdict

-- what the document and the log come to by the last moment, without a bound: the whole diary,
-- or more than so many entries of it
abbrev pub entries_past : ℕ → Course → List Entry
entries_past count c = (after_steps c (suc (count + c.last)) outset).diary

-- as far as the front agrees with what was made: nothing is wrong where that is the whole of both
abbrev pub wrong_after : ℕ → List Entry → List Entry → Option ℕ
wrong_after same entries made =
    if nat_le (length entries) same && nat_le (length made) same then None else Some (suc same)

abbrev pub wrong_by : List Entry → List Entry → List Entry → Option ℕ
wrong_by front entries made = wrong_after (agreed front made) entries made

-- the first place, from 1, at which the entries are wrong, by those before the first log entry that
-- is out of its place and by the part of the log that they name; None where none is wrong
abbrev pub first_wrong_by : List Node → List LogEntry → List Entry → ℕ → List Entry → Option ℕ
first_wrong_by nodes log entries last front =
    wrong_by front entries
    (entries_past (length front) (course_on nodes (take (logged front) log) last))

abbrev pub first_wrong : List Node → List LogEntry → List Entry → ℕ → Option ℕ
first_wrong nodes log entries last =
    first_wrong_by nodes log entries last (placed (pos 0) (pos last) entries)
