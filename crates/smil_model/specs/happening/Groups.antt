-- The group of entries that one happening appends: the cuts of what it stops, the entry itself,
-- and what an excl does.
use Rattle.std.specs.Prelude.{ℕ, ℤ, List, [], ◌∷◌, ◌++◌, reverse, map, filter, ◌&&◌, if◌then◌else◌, Option, Some, None}
use Rattle.smil_model.specs.declared.diary.Entry.{Entry}
use Rattle.smil_model.specs.declared.diary.Step.{Step}
use Rattle.smil_model.specs.declared.diary.Step.TheVariants.{Began, Repeated, Ended, Cut, Paused, Resumed, Deferred, Passed}
use Rattle.smil_model.specs.declared.document.Node.{Node}
use Rattle.smil_model.specs.declared.document.Act.{Act}
use Rattle.smil_model.specs.declared.document.Act.TheVariants.{Stop, Pause, Defer, Never}
use Rattle.smil_model.specs.document.Document.{has_serial, descendants, is_excl_kind, time_parent}
use Rattle.smil_model.specs.diary.Diary.{History, is_active, is_paused}
use Rattle.smil_model.specs.diary.Clocks.{outer}
use Rattle.smil_model.specs.happening.Queue.{playing_child, queue_of, decision}
use Rattle.smil_model.specs.happening.Keys.{Change, begins, ends, repeats}

-- the cuts of those of these nodes that are active, later ones first
abbrev pub cut_steps : List Entry → List Node → List Step
cut_steps diary nodes =
    map (λ (n : Node). Cut n.serial)
    (reverse (filter (λ (n : Node). is_active diary n.serial) nodes))

-- the active descendants are cut
abbrev pub cuts : History → ℕ → List Step
cuts h serial = cut_steps h.diary (descendants h.nodes serial)

-- the first of the queue resumes where it was paused, and begins where it was deferred
abbrev pub follower : History → ℤ → List ℕ → List Step
follower h moment [] = []
follower h moment (first ∷ rest) =
    if is_paused h.diary first then Resumed first ∷ [] else Began first (outer h first moment) ∷ []

-- after the end of the playing child of an excl its queue goes on
abbrev pub followers : History → ℤ → ℕ → Option Node → List Step
followers h moment serial None = []
followers h moment serial (Some p) =
    if is_excl_kind p.kind && has_serial serial (playing_child h p.serial)
    then follower h moment (queue_of h p.serial)
    else []

-- an end: the active descendants are cut, then the element ends,
-- and where it played in an excl the queue goes on
abbrev pub end_steps : History → ℤ → ℕ → ℤ → List Step
end_steps h moment serial value =
    cuts h serial ++ (Ended serial value ∷ followers h moment serial (time_parent h.nodes serial))

-- a repeat: the active descendants are cut, then the element repeats
abbrev pub repeat_steps : History → ℕ → ℤ → List Step
repeat_steps h serial start = cuts h serial ++ (Repeated serial start ∷ [])

-- a begin in an excl while another child plays: the playing child stops, or pauses,
-- or the newcomer is deferred, or passed
abbrev pub interruption : History → ℤ → ℕ → ℤ → ℕ → Act → List Step
interruption h moment serial value playing Stop =
    cuts h playing ++ (Ended playing (outer h playing moment) ∷ Began serial value ∷ [])
interruption h moment serial value playing Pause = Paused playing ∷ Began serial value ∷ []
interruption h moment serial value playing Defer = Deferred serial value ∷ []
interruption h moment serial value playing Never = Passed serial value ∷ []

abbrev pub begin_beside : History → ℤ → ℕ → ℤ → Option Node → List Step
begin_beside h moment serial value None = Began serial value ∷ []
begin_beside h moment serial value (Some p) =
    interruption h moment serial value p.serial (decision h.nodes p.serial serial)

abbrev pub begin_under : History → ℤ → ℕ → ℤ → Option Node → List Step
begin_under h moment serial value None = Began serial value ∷ []
begin_under h moment serial value (Some p) =
    if is_excl_kind p.kind
    then begin_beside h moment serial value (playing_child h p.serial)
    else Began serial value ∷ []

abbrev pub steps_of : History → ℤ → ℕ → Change → List Step
steps_of h moment serial (begins value) =
    begin_under h moment serial value (time_parent h.nodes serial)
steps_of h moment serial (ends value) = end_steps h moment serial value
steps_of h moment serial (repeats start) = repeat_steps h serial start

abbrev pub at_moment : ℤ → List Step → List Entry
at_moment moment steps = map (λ step. record { moment = moment; step = step }) steps

-- the group: the entries of one happening, all at its moment
abbrev pub group : History → ℤ → ℕ → Change → List Entry
group h moment serial change = at_moment moment (steps_of h moment serial change)
