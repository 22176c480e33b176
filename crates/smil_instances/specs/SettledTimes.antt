-- The times that a diary alone gives to an item, each with the place of the entry that gives it.
use Rattle.std.specs.Prelude.{ℕ, suc, min, ℤ, ◌+ℤ◌, List, [], ◌∷◌, map, filter_map, Bool, ◌&&◌, if◌then◌else◌, Option, Some, None}
use Rattle.smil_instance_rows.specs.declared.item_times.InstanceTime.{InstanceTime}
use Rattle.smil_model.specs.declared.times.Time.{Time}
use Rattle.smil_model.specs.declared.times.Time.TheVariants as time
use Rattle.smil_model.specs.declared.diary.Entry.{Entry}
use Rattle.smil_model.specs.declared.diary.Step.{Step}
use Rattle.smil_model.specs.declared.document.Node.{Node}
use Rattle.smil_model.specs.declared.document.Edge.{Edge}
use Rattle.smil_model.specs.declared.document.Edge.TheVariants.{Begin, End}
use Rattle.smil_model.specs.declared.document.Item.{Item}
use Rattle.smil_model.specs.declared.document.Item.TheVariants.{Offset, Sync, Event, Repeat, Key, Indefinite}
use Rattle.smil_model.specs.Times.{within_horizon}
use Rattle.smil_model.specs.document.Document.{element_named, previous_in_seq, elements, target}
use Rattle.smil_model.specs.document.Defaults.{begin_list, end_list}
use Rattle.smil_model.specs.diary.Diary.{History, birth, with_past, up_to}
use Rattle.smil_model.specs.diary.Clocks.{outer, parent_start}
use Rattle.smil_model.specs.interval.Instances.{edge_time, hears, is_event, is_press, is_repeat}
use Rattle.smil_instance_rows.specs.Rows.{ElementTimes, at_place, from_place, instance_at}

-- each with its place in the list
abbrev pub numbered : {A : Type 0} → ℕ → List A → List (ℕ × A)
numbered place [] = []
numbered place (x ∷ xs) = (place, x) ∷ numbered (suc place) xs

-- ---- begins and ends of another element

abbrev pub all_edges : History → ℕ → ℕ → ℤ → Edge → List InstanceTime
all_edges h e x offset edge =
    filter_map
    (λ (p : ℕ × Entry). at_place p.0 (edge_time h e x offset (p.1).moment edge (p.1).step))
    (numbered 0 h.diary)

abbrev pub edge_instances : History → ℕ → ℕ → ℤ → Edge → List InstanceTime
edge_instances h e x offset edge =
    from_place (min (birth h e) (birth h x)) (all_edges h e x offset edge)

-- ---- events

-- the time that an entry gives to an item that hears it, by what was before
abbrev pub heard_time :
    History → Node → Edge → Item → ℤ → (History → Step → Bool) → List Entry → Entry → Option Time
heard_time h e side item offset occurs before y =
    if occurs (up_to h before) y.step && hears (up_to h before) e side item
    then Some (within_horizon (outer h e.serial y.moment +ℤ offset))
    else None

abbrev pub all_heard :
    History → Node → Edge → Item → ℤ → (History → Step → Bool) → List InstanceTime
all_heard h e side item offset occurs =
    filter_map
    (λ (p : ℕ × (List Entry × Entry)). at_place p.0
    (heard_time h e side item offset occurs (p.1).0 (p.1).1))
    (numbered 0 (with_past [] h.diary))

abbrev pub heard_instances :
    History → Node → Edge → Item → ℤ → (History → Step → Bool) → List InstanceTime
heard_instances h e side item offset occurs =
    from_place (birth h e.serial) (all_heard h e side item offset occurs)

abbrev pub occurs_event : ℕ → List ℕ → History → Step → Bool
occurs_event x name past step = is_event past.log x name step

abbrev pub occurs_repeat : ℕ → ℕ → History → Step → Bool
occurs_repeat x n past step = is_repeat past x n step

abbrev pub occurs_key : ℕ → History → Step → Bool
occurs_key key past step = is_press past.log key step

-- ---- items

-- an offset from where the parent's present iteration began
abbrev pub at_start : ℤ → ℤ → List InstanceTime
at_start offset start = instance_at 0 (within_horizon (start +ℤ offset)) ∷ []

abbrev pub offset_instances : History → ℕ → ℤ → Option Node → List InstanceTime
offset_instances h e offset None = at_start offset (parent_start h e)
offset_instances h e offset (Some before) = edge_instances h e before.serial offset End

abbrev pub named_instances : History → ℕ → ℤ → Edge → Option Node → List InstanceTime
named_instances h e offset edge None = []
named_instances h e offset edge (Some x) = edge_instances h e x.serial offset edge

abbrev pub event_instances :
    History → Node → Edge → Item → ℤ → List ℕ → Option ℕ → List InstanceTime
event_instances h e side item offset name None = []
event_instances h e side item offset name (Some x) =
    heard_instances h e side item offset (occurs_event x name)

abbrev pub repeat_instances : History → Node → Edge → Item → ℤ → ℕ → Option ℕ → List InstanceTime
repeat_instances h e side item offset n None = []
repeat_instances h e side item offset n (Some x) =
    heard_instances h e side item offset (occurs_repeat x n)

-- what is kept for an item
abbrev pub instances_of : History → Node → Edge → Item → List InstanceTime
instances_of h e side (Offset offset) =
    offset_instances h e.serial offset (previous_in_seq h.nodes e.serial)
instances_of h e side (Sync who edge offset) =
    named_instances h e.serial offset edge (element_named h.nodes who)
instances_of h e side (Event who name offset) =
    event_instances h e side (Event who name offset) offset name (target h.nodes e.serial who)
instances_of h e side (Repeat who n offset) =
    repeat_instances h e side (Repeat who n offset) offset n (target h.nodes e.serial who)
instances_of h e side (Key key offset) =
    heard_instances h e side (Key key offset) offset (occurs_key key)
instances_of h e Begin Indefinite = []
instances_of h e End Indefinite = instance_at 0 time.Indefinite ∷ []

-- ---- all that is kept

abbrev pub row_of : History → Node → ElementTimes
row_of h e = record {
  serial = e.serial;
  begins = map (instances_of h e Begin) (begin_list h.nodes e);
  ends = map (instances_of h e End) (end_list e);
}

abbrev pub settled_rows : History → List ElementTimes
settled_rows h = map (row_of h) (elements h.nodes)
