-- The references of each element that give a time before it has happened: to the begin or the end
-- of another element, unless they are looped, and the offsets of a child of a seq, which count from
-- the end of the child before.
use Rattle.std.specs.Prelude.{◌≡◌, ℕ, ℤ, List, [], ◌∷◌, filter_map, flat_map, map, if◌then◌else◌, Bool, true, false, Option, Some, None, slice_get}
use Rattle.std.specs.List.{cons_option}
use Rattle.smil_model.specs.declared.times.Time.{Time}
use Rattle.smil_model.specs.declared.interval.Interval.{Interval}
use Rattle.smil_model.specs.declared.document.Node.{Node}
use Rattle.smil_model.specs.declared.document.Edge.{Edge}
use Rattle.smil_model.specs.declared.document.Edge.TheVariants.{Begin, End}
use Rattle.smil_model.specs.declared.document.Item.{Item}
use Rattle.smil_model.specs.declared.document.Item.TheVariants.{Offset, Sync}
use Rattle.smil_model.specs.document.Document.{elements, element_named, node_at, previous_in_seq}
use Rattle.smil_model.specs.document.Defaults.{items_of}
use Rattle.smil_model.specs.document.Dependencies.{leads_to}
use Rattle.smil_model.specs.diary.Diary.{History}
use Rattle.smil_model.specs.interval.Instances.{expected_times}
use Rattle.smil_instances.specs.ExpectedTimes.{expected_of}
use Rattle.smil_instances.specs.declared.source.Source.{Source}
use Rattle.smil_instances.specs.declared.source.Source.TheVariants as source
use Rattle.smil_instances.specs.declared.syncbase.Syncbase.{Syncbase}
use Rattle.smil_past.specs.declared.makeup.Makeup.{Makeup}
use Rattle.smil_past.specs.Makeups.{makeup_of}

abbrev pub from_end : ℤ → Option Node → Option Syncbase
from_end offset None = None
from_end offset (Some before) = Some (record { of = before.serial; edge = End; offset = offset })

abbrev pub from_named : List Node → ℕ → ℤ → Edge → Option Node → Option Syncbase
from_named nodes e offset edge None = None
from_named nodes e offset edge (Some x) =
    if leads_to nodes e x.serial then None
    else Some (record { of = x.serial; edge = edge; offset = offset })

-- what an item of an element waits for
abbrev pub sync_of : List Node → ℕ → Item → Option Syncbase
sync_of nodes e (Offset offset) = from_end offset (previous_in_seq nodes e)
sync_of nodes e (Sync who edge offset) = from_named nodes e offset edge (element_named nodes who)
sync_of nodes e _ = None

-- what the items of one list of an element wait for, in their order
abbrev pub syncs_of : List Node → Edge → Node → List Syncbase
syncs_of nodes side e = filter_map (sync_of nodes e.serial) (items_of nodes side e)

abbrev pub is_empty : List Syncbase → Bool
is_empty [] = true
is_empty (s ∷ ss) = false

pub record SyncRow : Type 0 where
  pub serial : ℕ
  pub begins : List Syncbase
  pub ends : List Syncbase
  pub makeup : Makeup

abbrev pub sync_row : List Node → Node → SyncRow
sync_row nodes e =
    record {
      serial = e.serial;
      begins = syncs_of nodes Begin e;
      ends = syncs_of nodes End e;
      makeup = makeup_of nodes e;
    }

abbrev pub all_syncs : List Node → List SyncRow
all_syncs nodes = map (sync_row nodes) (elements nodes)

-- what the items of one side of an element wait for
abbrev pub syncs_on : Edge → SyncRow → List Syncbase
syncs_on Begin row = row.begins
syncs_on End row = row.ends

abbrev pub serials_in : List SyncRow → List ℕ
serials_in rows = map (λ (row : SyncRow). row.serial) rows

-- ---- by sources

-- the offset of an item that counts from a begin or an end, or from the start of the time parent's
-- iteration
abbrev pub offset_of : Item → Option ℤ
offset_of (Offset offset) = Some offset
offset_of (Sync who edge offset) = Some offset
offset_of _ = None

abbrev pub sync_from : Option ℤ → Source → Option Syncbase
sync_from None s = None
sync_from (Some offset) (source.Syncbase x edge) =
    Some (record { of = x; edge = edge; offset = offset })
sync_from (Some offset) _ = None

-- what an item waits for, which is looped or not and has this source
abbrev pub sync_by : Bool → Item → Source → Option Syncbase
sync_by true item s = None
sync_by false item s = sync_from (offset_of item) s

-- the one that is there, as a list
abbrev pub listed : Option Syncbase → List Syncbase
listed sync = cons_option sync []

-- the items of one side of an element, which stands at this place and has this serial
pub record IsListOf
    (nodes : List Node) (place who : ℕ) (side : Edge) (e : Node) (items : List Item) : Type 0 where
  pub here : slice_get (elements nodes) place ≡ Some e
  pub known : node_at (elements nodes) who ≡ Some e
  pub same : items_of nodes side e ≡ items

-- ---- the law

-- the expected times of an element are those of what its items wait for
abbrev pub expected_by : History → (ℕ → Option Interval) → ℤ → ℕ → Syncbase → List Time
expected_by h intervals now e s = expected_times h intervals now e s.of s.offset s.edge

abbrev pub SyncsTellExpected : Type 0
SyncsTellExpected =
    (h : History) (intervals : ℕ → Option Interval) (now : ℤ) (e : Node) (side : Edge)
    → flat_map (expected_of h intervals now e) (items_of h.nodes side e)
    ≡ flat_map (expected_by h intervals now e.serial) (syncs_of h.nodes side e)
