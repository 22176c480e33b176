-- What is kept for an item after one more entry, from what was kept before it.
use Rattle.std.specs.Prelude.{ℕ, min, ℤ, pos, List, [], ◌∷◌, ◌++◌, length, Bool, if◌then◌else◌, Option, Some, None}
use Rattle.smil_model.specs.declared.times.Time.{Time}
use Rattle.smil_model.specs.declared.diary.Entry.{Entry}
use Rattle.smil_model.specs.declared.diary.Step.{Step}
use Rattle.smil_model.specs.declared.document.Node.{Node}
use Rattle.smil_model.specs.declared.document.Edge.{Edge}
use Rattle.smil_model.specs.declared.document.Edge.TheVariants.{End}
use Rattle.smil_model.specs.declared.document.Item.{Item}
use Rattle.smil_model.specs.declared.document.Item.TheVariants.{Offset, Sync, Event, Repeat, Key, Indefinite}
use Rattle.smil_model.specs.document.Document.{element_named, previous_in_seq, time_parent, target}
use Rattle.smil_model.specs.diary.Diary.{History, with_entry, birth, gives_birth}
use Rattle.smil_model.specs.diary.Clocks.{iteration_start_after}
use Rattle.smil_model.specs.interval.Instances.{edge_time}
use Rattle.smil_instance_rows.specs.declared.item_times.InstanceTime.{InstanceTime}
use Rattle.smil_instance_rows.specs.Rows.{from_place, instance_at}
use Rattle.smil_instances.specs.SettledTimes.{heard_time, at_start, occurs_event, occurs_repeat, occurs_key}

-- with the time that the entry gives, by the clocks and the diary before it
abbrev pub with_time : ℕ → Option Time → List InstanceTime → List InstanceTime
with_time place None kept = kept
with_time place (Some t) kept = kept ++ instance_at place t ∷ []

abbrev pub next_edges : History → Entry → ℕ → ℕ → ℤ → Edge → List InstanceTime → List InstanceTime
next_edges h y e x offset edge kept =
    from_place (min (birth (with_entry h y) e) (birth (with_entry h y) x))
    (with_time (length h.diary) (edge_time h e x offset y.moment edge y.step) kept)

abbrev pub next_heard : History → Entry → Node → Edge → Item → ℤ → (History → Step → Bool)
    → List InstanceTime → List InstanceTime
next_heard h y e side item offset occurs kept =
    from_place (birth (with_entry h y) e.serial)
    (with_time (length h.diary) (heard_time h e side item offset occurs h.diary y) kept)

-- a reset of the time parent gives the offset anew
abbrev pub next_start : History → Entry → Option Node → ℤ → List InstanceTime → List InstanceTime
next_start h y None offset kept = kept
next_start h y (Some p) offset kept =
    if gives_birth p.serial y.step
    then at_start offset (iteration_start_after h p.serial y.moment (pos 0) y.step)
    else kept

abbrev pub next_offset : History → Entry → ℕ → ℤ → Option Node → List InstanceTime → List InstanceTime
next_offset h y e offset None kept = next_start h y (time_parent h.nodes e) offset kept
next_offset h y e offset (Some before) kept = next_edges h y e before.serial offset End kept

abbrev pub next_named : History → Entry → ℕ → ℤ → Edge → Option Node → List InstanceTime → List InstanceTime
next_named h y e offset edge None kept = kept
next_named h y e offset edge (Some x) kept = next_edges h y e x.serial offset edge kept

abbrev pub next_event : History → Entry → Node → Edge → Item → ℤ → List ℕ → Option ℕ
    → List InstanceTime → List InstanceTime
next_event h y e side item offset name None kept = kept
next_event h y e side item offset name (Some x) kept = next_heard h y e side item offset (occurs_event x name) kept

abbrev pub next_repeat : History → Entry → Node → Edge → Item → ℤ → ℕ → Option ℕ → List InstanceTime → List InstanceTime
next_repeat h y e side item offset n None kept = kept
next_repeat h y e side item offset n (Some x) kept = next_heard h y e side item offset (occurs_repeat x n) kept

-- what is kept for an item after the entry, from what was kept before it
abbrev pub next_of : History → Entry → Node → Edge → Item → List InstanceTime → List InstanceTime
next_of h y e side (Offset offset) kept = next_offset h y e.serial offset (previous_in_seq h.nodes e.serial) kept
next_of h y e side (Sync who edge offset) kept =
    next_named h y e.serial offset edge (element_named h.nodes who) kept
next_of h y e side (Event who name offset) kept =
    next_event h y e side (Event who name offset) offset name (target h.nodes e.serial who) kept
next_of h y e side (Repeat who n offset) kept =
    next_repeat h y e side (Repeat who n offset) offset n (target h.nodes e.serial who) kept
next_of h y e side (Key key offset) kept = next_heard h y e side (Key key offset) offset (occurs_key key) kept
next_of h y e side Indefinite kept = kept
