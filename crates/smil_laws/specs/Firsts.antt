-- What happens first, by its key, and what that key stands for.
use Rattle.std.specs.Prelude.{◌≡◌, ℕ, ℤ, Bool, true, false, Option, Some, None, option_map}
use Rattle.smil_model.specs.declared.interval.Interval.{Interval}
use Rattle.smil_model.specs.declared.document.Node.{Node}
use Rattle.smil_model.specs.Times.{later_time}
use Rattle.smil_model.specs.document.Document.{elements, node_at}
use Rattle.smil_model.specs.document.Valid.{IsDistinct}
use Rattle.smil_model.specs.diary.Diary.{History, is_active}
use Rattle.smil_model.specs.diary.Clocks.{iteration_start}
use Rattle.smil_model.specs.interval.Instances.{number_of}
use Rattle.smil_model.specs.interval.Current.{simple_of, current_interval}
use Rattle.smil_model.specs.happening.Keys.{Change, DueChange, begins, ends, repeats, coming, first_coming, least_key, keys}

-- what comes first has the least key
abbrev pub FirstHasLeastKey : Type 0
FirstHasLeastKey =
    (h : History) (now : ℤ)
    → option_map (λ (c : DueChange). c.key) (first_coming (coming h now)) ≡ least_key (keys h now)

-- what a begin or an end of an element stands for, and what a repeat does
abbrev pub moved_by : Bool → Option Interval → Option Change
moved_by active None = None
moved_by true (Some i) = option_map ends (number_of i.«end»)
moved_by false (Some i) = Some (begins i.begin)

abbrev pub change_by : History → (ℕ → Option Interval) → Node → Bool → Option Change
change_by h intervals e true =
    option_map repeats
    (number_of (later_time (simple_of h intervals e) (iteration_start h e.serial)))
change_by h intervals e false = moved_by (is_active h.diary e.serial) (intervals e.serial)

-- it is of an element of the document, and is what its key stands for
pub record IsOfElement
    (h : History) (intervals : ℕ → Option Interval) (c : DueChange) : Type 0 where
  pub element : Node
  pub here : node_at (elements h.nodes) c.key.serial ≡ Some element
  pub change : change_by h intervals element c.key.repeat ≡ Some c.change

abbrev pub FirstIsOfElement : Type 0
FirstIsOfElement =
    (h : History) (now : ℤ) (c : DueChange) → IsDistinct h.nodes
    → first_coming (coming h now) ≡ Some c
    → IsOfElement h (current_interval h now) c
