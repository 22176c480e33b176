-- Laws of what is kept, each the contract of a function of its own.
use Rattle.std.specs.Prelude.{◌≡◌, ℤ, List, Some, int_le, true, All}
use Rattle.smil_model.specs.declared.diary.Entry.{Entry}
use Rattle.smil_model.specs.declared.document.Node.{Node}
use Rattle.smil_model.specs.diary.Diary.{History}
use Rattle.smil_model.specs.document.Document.{elements, node_at}
use Rattle.smil_model.specs.interval.Instances.{settled_begins, settled_ends}
use Rattle.smil_instances.specs.SettledTimes.{settled_rows}
use Rattle.smil_instance_rows.specs.Readings.{begins_in, ends_in}

-- no entry is later than this moment
abbrev pub IsUpTo : ℤ → List Entry → Type 0
IsUpTo moment diary = All (λ (z : Entry). int_le z.moment moment ≡ true) diary

-- the rows tell the instance times of an element that the diary alone gives
pub record RowsTell (h : History) (now : ℤ) (e : Node) : Type 0 where
  pub begins : begins_in (settled_rows h) e.serial ≡ settled_begins h now e
  pub ends : ends_in (settled_rows h) e.serial ≡ settled_ends h now e

-- they do so for each element of the document
abbrev pub RowsTellInstances : Type 0
RowsTellInstances =
    (h : History) (now : ℤ) (e : Node) → node_at (elements h.nodes) e.serial ≡ Some e
    → RowsTell h now e
