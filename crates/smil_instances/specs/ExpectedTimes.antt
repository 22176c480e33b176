-- The times of an item that follow from the current intervals of other elements.
use Rattle.std.specs.Prelude.{◌≡◌, ℕ, ℤ, List, [], flat_map, int_le, if◌then◌else◌, Option, Some, None}
use Rattle.smil_model.specs.declared.interval.Interval.{Interval}
use Rattle.smil_model.specs.declared.times.Time.{Time}
use Rattle.smil_model.specs.declared.document.Node.{Node}
use Rattle.smil_model.specs.declared.document.Edge.{Edge}
use Rattle.smil_model.specs.declared.document.Edge.TheVariants.{End}
use Rattle.smil_model.specs.declared.document.Item.{Item}
use Rattle.smil_model.specs.declared.document.Item.TheVariants.{Offset, Sync}
use Rattle.smil_model.specs.Times.{numbers, time_le}
use Rattle.smil_model.specs.document.Document.{element_named, previous_in_seq}
use Rattle.smil_model.specs.document.Defaults.{begin_list, end_list}
use Rattle.smil_model.specs.document.Dependencies.{leads_to}
use Rattle.smil_model.specs.diary.Diary.{History}
use Rattle.smil_model.specs.interval.Instances.{expected_times, begin_times, end_times}
use Rattle.smil_instances.specs.SettledTimes.{row_of}
use Rattle.smil_instance_rows.specs.Values.{begins_of, ends_of}
use Rattle.smil_model.specs.Rising.{poured}

abbrev pub expected_before : History → (ℕ → Option Interval) → ℤ → ℕ → ℤ → Option Node → List Time
expected_before h intervals now e offset None = []
expected_before h intervals now e offset (Some before) =
    expected_times h intervals now e before.serial offset End

abbrev pub expected_named :
    History → (ℕ → Option Interval) → ℤ → ℕ → ℤ → Edge → Option Node → List Time
expected_named h intervals now e offset edge None = []
expected_named h intervals now e offset edge (Some x) =
    if leads_to h.nodes e x.serial then []
    else expected_times h intervals now e x.serial offset edge

abbrev pub expected_of : History → (ℕ → Option Interval) → ℤ → Node → Item → List Time
expected_of h intervals now e (Offset offset) =
    expected_before h intervals now e.serial offset (previous_in_seq h.nodes e.serial)
expected_of h intervals now e (Sync who edge offset) =
    expected_named h intervals now e.serial offset edge (element_named h.nodes who)
expected_of h intervals now e _ = []

-- the instance times of an element are those that are kept,
-- with the expected ones put in their places
pub record AreMerged
    (h : History) (intervals : ℕ → Option Interval) (now : ℤ) (e : Node) : Type 0 where
  pub begins :
      begin_times h intervals now e
      ≡ poured int_le (numbers (flat_map (expected_of h intervals now e) (begin_list h.nodes e)))
      (begins_of (row_of h e).begins)
  pub ends :
      end_times h intervals now e
      ≡ poured time_le (flat_map (expected_of h intervals now e) (end_list e))
      (ends_of (row_of h e).ends)

-- they are so whatever the current intervals are
abbrev pub InstancesAreMerged : Type 0
InstancesAreMerged = (h : History) (intervals : ℕ → Option Interval) (now : ℤ) (e : Node)
    → AreMerged h intervals now e
