-- What is told of an element's end list, and the end instance times of one without.
use Rattle.std.proofs.Common.{◌≡◌, refl, ℕ, ℤ, List, [], Bool, true, false, Option, Some, None}
use Rattle.std.specs.Prelude.{if◌then◌else◌, is_some, flat_map}
use Rattle.std.specs.List.{list_any}
use Rattle.smil_model.specs.declared.interval.Interval.{Interval}
use Rattle.smil_model.specs.declared.interval.EndList.{EndList}
use Rattle.smil_model.specs.declared.interval.EndList.TheVariants.{Absent, Hearing, Plain}
use Rattle.smil_model.specs.declared.document.Edge.TheVariants.{End}
use Rattle.smil_model.specs.declared.document.Item.{Item}
use Rattle.smil_model.specs.declared.document.Node.{Node}
use Rattle.smil_model.specs.Times.{rising_times}
use Rattle.smil_model.specs.document.Defaults.{items_or}
use Rattle.smil_model.specs.diary.Diary.{History}
use Rattle.smil_model.specs.interval.Current.{end_list_of, is_event_item}
use Rattle.smil_model.specs.interval.Instances.{end_times, item_times}

abbrev pub is_there : EndList → Bool
is_there Absent = false
is_there Hearing = true
is_there Plain = true

pub there : (o : Option (List Item)) → is_there (end_list_of o) ≡ is_some o
there None = refl
there (Some items) = by (list_any is_event_item items)
  where
    by : (t : Bool) → is_there (if t then Hearing else Plain) ≡ true
    by true = refl
    by false = refl

pub there_unless : (list : EndList) → (list ≡ Absent → ⊥) → true ≡ is_there list
there_unless Absent other = absurd (other refl)
there_unless Hearing other = refl
there_unless Plain other = refl

pub no_ends : (h : History) (intervals : ℕ → Option Interval) (now : ℤ) (e : Node) → is_some e.attrs.«end» ≡ false → [] ≡ end_times h intervals now e
no_ends h intervals now e none = by e.attrs.«end» none
  where
    by : (o : Option (List Item)) → is_some o ≡ false → [] ≡ rising_times (flat_map (item_times h intervals now e End) (items_or [] o))
    by None q = refl
    by (Some items) q = cc
