-- What an entry gives to an item.
use Rattle.std.specs.Prelude.{ℕ, ℤ, List, length, Option, Some, None, ◌+ℤ◌, pos, if◌then◌else◌, ◌≤ℤ◌, ◌&&◌, ◌==◌, Bool, false, true, is_some, not}
use Rattle.smil_model.specs.declared.times.Time.{Time}
use Rattle.smil_model.specs.declared.diary.Entry.{Entry}
use Rattle.smil_model.specs.declared.diary.Step.{Step}
use Rattle.smil_model.specs.declared.diary.Step.TheVariants.{Began, Ended, Cut}
use Rattle.smil_model.specs.declared.document.Node.{Node}
use Rattle.smil_model.specs.declared.document.Edge.{Edge}
use Rattle.smil_model.specs.declared.document.Edge.TheVariants.{Begin, End}
use Rattle.smil_model.specs.declared.document.Item.{Item}
use Rattle.smil_model.specs.declared.document.Item.TheVariants.{Offset, Sync, Event, Repeat, Key, Indefinite}
use Rattle.smil_model.specs.document.Document.{element_named, previous_in_seq, time_parent, target}
use Rattle.smil_model.specs.diary.Diary.{History, gives_birth, last_moment}
use Rattle.smil_model.specs.interval.Instances.{edge_time, hears}
use Rattle.smil_instance_rows.specs.declared.item_times.InstanceTime.{InstanceTime}
use Rattle.smil_model.specs.reach.Reach.{is_option}
use Rattle.smil_instances.specs.declared.source.Source.{Source}
use Rattle.smil_instances.specs.declared.source.Source.TheVariants as source
use Rattle.smil_instances.specs.SettledTimes.{heard_time, occurs_event, occurs_repeat, occurs_key}
use Rattle.smil_model.specs.Times.{within_horizon}
use Rattle.smil_model.specs.diary.Clocks.{iteration_start_after, outer}
use Rattle.smil_instance_rows.specs.Rows.{at_place, instance_at}
use Rattle.smil_instances.specs.Occurrence.{occurs_in}
use Rattle.smil_stretch.specs.declared.clock.NodeClock.{NodeClock}
use Rattle.smil_stretch.specs.Clocks.{AreClocksOf}

-- ---- the time that an entry gives

abbrev pub given_edge : History → Entry → ℕ → ℤ → Edge → Option Node → Option Time
given_edge h y e offset edge None = None
given_edge h y e offset edge (Some x) = edge_time h e x.serial offset y.moment edge y.step

abbrev pub given_event : History → Entry → Node → Edge → Item → ℤ → List ℕ → Option ℕ → Option Time
given_event h y e side item offset name None = None
given_event h y e side item offset name (Some x) =
    heard_time h e side item offset (occurs_event x name) h.diary y

abbrev pub given_repeat : History → Entry → Node → Edge → Item → ℤ → ℕ → Option ℕ → Option Time
given_repeat h y e side item offset n None = None
given_repeat h y e side item offset n (Some x) =
    heard_time h e side item offset (occurs_repeat x n) h.diary y

abbrev pub given_by : History → Entry → Node → Edge → Item → Option Time
given_by h y e side (Offset offset) =
    given_edge h y e.serial offset End (previous_in_seq h.nodes e.serial)
given_by h y e side (Sync who edge offset) =
    given_edge h y e.serial offset edge (element_named h.nodes who)
given_by h y e side (Event who name offset) =
    given_event h y e side (Event who name offset) offset name (target h.nodes e.serial who)
given_by h y e side (Repeat who n offset) =
    given_repeat h y e side (Repeat who n offset) offset n (target h.nodes e.serial who)
given_by h y e side (Key key offset) =
    heard_time h e side (Key key offset) offset (occurs_key key) h.diary y
given_by h y e side Indefinite = None

-- ---- what is cut after it

-- the birth of the time parent's children gives an offset anew
abbrev pub start_time : History → Entry → ℤ → Option Node → Option InstanceTime
start_time h y offset None = None
start_time h y offset (Some p) =
    if gives_birth p.serial y.step
    then Some (instance_at 0
    (within_horizon (iteration_start_after h p.serial y.moment (pos 0) y.step +ℤ offset)))
    else None

abbrev pub offset_given : History → Entry → ℕ → ℤ → Option Node → Option InstanceTime
offset_given h y e offset None = start_time h y offset (time_parent h.nodes e)
offset_given h y e offset (Some before) =
    at_place (length h.diary) (given_edge h y e offset End (Some before))

-- what the entry gives to an item of e, by the clocks and the diary before it
abbrev pub given_at : History → Entry → Node → Edge → Item → Option InstanceTime
given_at h y e side (Offset offset) =
    offset_given h y e.serial offset (previous_in_seq h.nodes e.serial)
given_at h y e side item = at_place (length h.diary) (given_by h y e side item)

-- these are the clocks of the history, and the moment is not before its last entry
pub record AreClocksAt (h : History) (clocks : List NodeClock) (moment : ℤ) : Type 0 where
  pub known : AreClocksOf clocks h
  pub after : last_moment h.diary ≤ℤ moment

-- the milliseconds by which an item is moved
abbrev pub offset_of : Item → ℤ
offset_of (Offset offset) = offset
offset_of (Sync who edge offset) = offset
offset_of (Event who name offset) = offset
offset_of (Repeat who n offset) = offset
offset_of (Key key offset) = offset
offset_of Indefinite = pos 0

-- whether the step is the begin, or an end, of x
abbrev pub is_edge : Edge → ℕ → Step → Bool
is_edge Begin x (Began who begin) = who == x
is_edge End x (Ended who end') = who == x
is_edge End x (Cut who) = who == x
is_edge _ x _ = false

-- whether an entry with this step, which is on this element or on none, may give something to an
-- item with this source
abbrev pub may_give : Option ℕ → Step → Source → Bool
may_give on step source.Start = true
may_give on step (source.Syncbase x edge) = is_edge edge x step
may_give on step (source.Eventbase x) = is_option x on
may_give on step (source.Key key) = not (is_some on)
may_give on step source.Nothing = false

-- whether an item with this source is one for an event or a key in an end list
abbrev pub is_end_heard : Source → Edge → Bool
is_end_heard (source.Eventbase x) End = true
is_end_heard (source.Key key) End = true
is_end_heard s edge = false

-- what an entry gives to an item that means the element `of` or waits for a key:
-- a time where it is what the item waits for and e hears it
abbrev pub given_heard : History → Entry → Node → Edge → Item → Option ℕ → Option InstanceTime
given_heard h y e side item of =
    at_place (length h.diary)
    (if occurs_in h y of item && hears h e side item
    then Some (within_horizon (outer h e.serial y.moment +ℤ offset_of item))
    else None)
