-- What items wait for gives their expected times.
use Rattle.std.proofs.Common.{◌≡◌, ◌∙◌, ap, refl, ℕ, ℤ, List, [], ◌∷◌, ◌++◌, Bool, true, false}
use Rattle.std.specs.Prelude.{Option, None, Some, filter_map, flat_map, if◌then◌else◌}
use Rattle.std.specs.List.{cons_option}
use Rattle.smil_model.specs.declared.times.Time.{Time}
use Rattle.smil_model.specs.declared.interval.Interval.{Interval}
use Rattle.smil_model.specs.declared.document.Node.{Node}
use Rattle.smil_model.specs.declared.document.Edge.{Edge}
use Rattle.smil_model.specs.declared.document.Item.{Item}
use Rattle.smil_model.specs.declared.document.Item.TheVariants.{Offset, Sync}
use Rattle.smil_model.specs.document.Document.{element_named, previous_in_seq}
use Rattle.smil_model.specs.document.Defaults.{items_of}
use Rattle.smil_model.specs.document.Dependencies.{leads_to}
use Rattle.smil_model.specs.diary.Diary.{History}
use Rattle.smil_model.specs.interval.Instances.{expected_times}
use Rattle.smil_instances.specs.ExpectedTimes.{expected_before, expected_named, expected_of}
use Rattle.smil_instances.specs.declared.syncbase.Syncbase.{Syncbase}
use Rattle.smil_past.specs.Syncs.{SyncsTellExpected, expected_by, from_end, from_named, sync_of}

module _ (h : History) (intervals : ℕ → Option Interval) (now : ℤ) (e : Node) where
  abbrev times_by : List Syncbase → List Time
  times_by syncs = flat_map (expected_by h intervals now e.serial) syncs

  abbrev waits : Item → Option Syncbase
  waits item = sync_of h.nodes e.serial item

  before_head : (offset : ℤ) (before : Option Node) (syncs : List Syncbase) → expected_before h intervals now e.serial offset before ++ times_by syncs ≡ times_by (cons_option (from_end offset before) syncs)
  before_head offset None syncs = refl
  before_head offset (Some before) syncs = refl

  named_some : (offset : ℤ) (edge : Edge) (x : Node) (t : Bool) (syncs : List Syncbase) → (if t then [] else expected_times h intervals now e.serial x.serial offset edge) ++ times_by syncs ≡ times_by (cons_option (if t then None else Some (record { of = x.serial; edge = edge; offset = offset })) syncs)
  named_some offset edge x true syncs = refl
  named_some offset edge x false syncs = refl

  named_head : (offset : ℤ) (edge : Edge) (named : Option Node) (syncs : List Syncbase) → expected_named h intervals now e.serial offset edge named ++ times_by syncs ≡ times_by (cons_option (from_named h.nodes e.serial offset edge named) syncs)
  named_head offset edge None syncs = refl
  named_head offset edge (Some x) syncs = named_some offset edge x (leads_to h.nodes e.serial x.serial) syncs

  head : (item : Item) (syncs : List Syncbase) → expected_of h intervals now e item ++ times_by syncs ≡ times_by (cons_option (waits item) syncs)
  head (Offset offset) syncs = before_head offset (previous_in_seq h.nodes e.serial) syncs
  head (Sync who edge offset) syncs = named_head offset edge (element_named h.nodes who) syncs
  head _ syncs = refl

  told : (items : List Item) → flat_map (expected_of h intervals now e) items ≡ times_by (filter_map waits items)
  told [] = refl
  told (item ∷ items) = ap (λ times. expected_of h intervals now e item ++ times) (told items) ∙ head item (filter_map waits items)

pub syncs_tell : SyncsTellExpected
syncs_tell h intervals now e side = told h intervals now e (items_of h.nodes side e)
