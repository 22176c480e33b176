-- Instance times that a diary alone gives, and what they follow from.
use Rattle.std.specs.Prelude.{◌≡◌, ℕ, ℤ, List, map, Some, slice_get}
use Rattle.smil_model.specs.declared.times.Time.{Time}
use Rattle.smil_model.specs.declared.times.Time.TheVariants.{At}
use Rattle.smil_model.specs.declared.diary.Entry.{Entry}
use Rattle.smil_model.specs.declared.diary.LogEntry.{LogEntry}
use Rattle.smil_model.specs.declared.document.Node.{Node}
use Rattle.smil_model.specs.declared.document.Edge.{Edge}
use Rattle.smil_model.specs.declared.document.Edge.TheVariants.{Begin, End}
use Rattle.smil_model.specs.document.Document.{Document, elements, node_at}
use Rattle.smil_model.specs.diary.Diary.{History}
use Rattle.smil_model.specs.interval.Instances.{settled_begins, settled_ends}
use Rattle.smil_instance_rows.specs.Rows.{ElementTimes}
use Rattle.smil_instances.specs.SettledTimes.{settled_rows}
use Rattle.smil_instances.specs.Dependents.{DocumentDependents, AreDependentsOf}
use Rattle.smil_instances.specs.Intake.{history_of}

-- a row of instance times for each element, with the sources and the readers of each, and the items
-- that wait for each key
pub record SettledInstances : Type 0 where
  pub rows : List ElementTimes
  pub dependents : DocumentDependents

-- these are the instance times of a document after the entries of its diary
pub record IsSettled (value : SettledInstances) (document : Document) (log : List LogEntry)
    (diary : List Entry) : Type 0 where
  pub rows : value.rows ≡ settled_rows (history_of document log diary)
  pub dependents : AreDependentsOf document.nodes value.dependents

-- these are the instance times of a document after the entries of its diary,
-- and e is its element with this serial
pub record IsElementOf (value : SettledInstances) (who : ℕ) (h : History) (e : Node) : Type 0 where
  pub rows : value.rows ≡ settled_rows h
  pub known : node_at (elements h.nodes) who ≡ Some e

-- and e is its element with this index
pub record IsElementAt (value : SettledInstances) (index : ℕ) (h : History) (e : Node) : Type 0 where
  pub rows : value.rows ≡ settled_rows h
  pub here : slice_get (elements h.nodes) index ≡ Some e

-- the begins or the ends that the diary alone gives, as times
abbrev pub settled_times : History → ℤ → Node → Edge → List Time
settled_times h now e Begin = map At (settled_begins h now e)
settled_times h now e End = settled_ends h now e
