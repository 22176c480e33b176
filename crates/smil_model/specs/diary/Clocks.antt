-- Clocks: an element's own, which stands while it or an ancestor is paused,
-- and that of its time parent.
use Rattle.std.specs.Prelude.{ℕ, suc, zero, ◌+◌, ℤ, pos, negsuc, ◌+ℤ◌, ◌-ℤ◌, int_le, List, filter, fold, Bool, false, ◌==◌, ◌&&◌, if◌then◌else◌, Option, Some, None}
use Rattle.std.specs.List.{list_any}
use Rattle.smil_model.specs.declared.diary.Entry.{Entry}
use Rattle.smil_model.specs.declared.diary.Step.{Step}
use Rattle.smil_model.specs.declared.diary.Step.TheVariants.{Began, Repeated}
use Rattle.smil_model.specs.declared.document.Node.{Node}
use Rattle.smil_model.specs.document.Document.{is_element, time_parent, lineage}
use Rattle.smil_model.specs.diary.Diary.{History, is_paused}

-- the entries of moments up to this one
abbrev pub until : ℤ → List Entry → List Entry
until moment diary = filter (λ (x : Entry). int_le x.moment moment) diary

-- whether the element or an element above it is paused by these entries
abbrev pub stands_by : List Node → List Entry → ℕ → Bool
stands_by nodes diary serial =
    list_any (λ (n : Node). is_element n && is_paused diary n.serial) (lineage nodes serial)

-- the milliseconds before the moment, less those in which the element or an ancestor was paused
abbrev pub elapsed : History → ℕ → ℕ → ℕ
elapsed h serial zero = 0
elapsed h serial (suc moment) =
    elapsed h serial moment
    + (if stands_by h.nodes (until (pos moment) h.diary) serial then 0 else 1)

-- the element's own clock at a moment
abbrev pub run : History → ℕ → ℤ → ℤ
run h serial (pos moment) = pos (elapsed h serial moment)
run h serial (negsuc before) = negsuc before

-- the clock of the time parent at a moment; for the root it is the moment
abbrev pub outer_under : History → Option Node → ℤ → ℤ
outer_under h None moment = moment
outer_under h (Some p) moment = run h p.serial moment

abbrev pub outer : History → ℕ → ℤ → ℤ
outer h serial moment = outer_under h (time_parent h.nodes serial) moment

-- whether the element's own clock, and that of its time parent, stand by what has happened so far
abbrev pub stands : History → ℕ → Bool
stands h serial = stands_by h.nodes h.diary serial

abbrev pub stands_under : History → Option Node → Bool
stands_under h None = false
stands_under h (Some p) = stands h p.serial

abbrev pub outer_stands : History → ℕ → Bool
outer_stands h serial = stands_under h (time_parent h.nodes serial)

-- a value on the time parent's clock, in document time, at a moment
abbrev pub to_document : History → ℕ → ℤ → ℤ → ℤ
to_document h serial value now = now +ℤ (value -ℤ outer h serial now)

-- a value on the outer clock of one element, on that of another, at a moment
abbrev pub between : History → ℕ → ℕ → ℤ → ℤ → ℤ
between h from to value moment = outer h to moment +ℤ (value -ℤ outer h from moment)

-- the play start of a begin with a value at a moment, on the element's own clock
abbrev pub start_of : History → ℕ → ℤ → ℤ → ℤ
start_of h serial moment begin = run h serial moment +ℤ (begin -ℤ outer h serial moment)

-- the play start of the element's last begin
abbrev pub play_start_after : History → ℕ → ℤ → ℤ → Step → ℤ
play_start_after h serial moment before (Began who begin) =
    if who == serial then start_of h serial moment begin else before
play_start_after h serial moment before _ = before

abbrev pub play_start : History → ℕ → ℤ
play_start h serial =
    fold (λ before (x : Entry). play_start_after h serial x.moment before x.step) (pos 0) h.diary

-- the start of the element's last iteration, on its own clock
abbrev pub iteration_start_after : History → ℕ → ℤ → ℤ → Step → ℤ
iteration_start_after h serial moment before (Began who begin) =
    if who == serial then start_of h serial moment begin else before
iteration_start_after h serial moment before (Repeated who start) =
    if who == serial then start else before
iteration_start_after h serial moment before _ = before

abbrev pub iteration_start : History → ℕ → ℤ
iteration_start h serial =
    fold (λ before (x : Entry). iteration_start_after h serial x.moment before x.step)
    (pos 0) h.diary

-- the play start for children: that of the time parent's last iteration, and 0 for the root
abbrev pub start_under : History → Option Node → ℤ
start_under h None = pos 0
start_under h (Some p) = iteration_start h p.serial

abbrev pub parent_start : History → ℕ → ℤ
parent_start h serial = start_under h (time_parent h.nodes serial)
