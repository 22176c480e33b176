-- What is kept for an item after one more entry, and which items an entry concerns.
use Rattle.std.specs.Prelude.{◌≡◌, ℕ, min, List, ◌++◌, Bool, true, false, Option, Some, None, option_to_list, is_some}
use Rattle.smil_model.specs.declared.diary.Entry.{Entry}
use Rattle.smil_model.specs.declared.diary.Step.{Step}
use Rattle.smil_model.specs.declared.document.Node.{Node}
use Rattle.smil_model.specs.declared.document.Edge.{Edge}
use Rattle.smil_model.specs.declared.document.Item.{Item}
use Rattle.smil_model.specs.document.Document.{elements, node_at, time_parent}
use Rattle.smil_model.specs.diary.Diary.{History, birth, with_entry}
use Rattle.smil_model.specs.diary.Lawful.{has_element}
use Rattle.smil_model.specs.diary.Plays.{is_birth_under}
use Rattle.smil_model.specs.reach.Reach.{subject_of, key_of}
use Rattle.smil_laws.specs.Resolved.{is_opening}
use Rattle.smil_instance_rows.specs.declared.item_times.InstanceTime.{InstanceTime}
use Rattle.smil_instances.specs.declared.source.Source.{Source}
use Rattle.smil_instances.specs.declared.source.Source.TheVariants as source
use Rattle.smil_instances.specs.Laws.{IsUpTo}
use Rattle.smil_instance_rows.specs.Places.{last_alone}
use Rattle.smil_instance_rows.specs.Rows.{from_place}
use Rattle.smil_instances.specs.SettledTimes.{instances_of}
use Rattle.smil_instances.specs.Sources.{base_of, is_concerned, is_keyed, source_of}
use Rattle.smil_instances.specs.Contribution.{given_at}

-- what is still kept for an item of e with this source, by the births in the history
abbrev pub remaining : History → ℕ → Source → List InstanceTime → List InstanceTime
remaining h e source.Start kept = last_alone kept
remaining h e (source.Syncbase x edge) kept = from_place (min (birth h e) (birth h x)) kept
remaining h e (source.Eventbase x) kept = from_place (birth h e) kept
remaining h e (source.Key key) kept = from_place (birth h e) kept
remaining h e source.Nothing kept = kept

-- what is kept for an item after the entry is what was kept and what it gives, trimmed
abbrev pub EntriesAreTakenIn : Type 0
EntriesAreTakenIn =
    (h : History) (y : Entry) (e : Node) (side : Edge) (item : Item) → IsUpTo y.moment h.diary
    → instances_of (with_entry h y) e side item
    ≡ remaining (with_entry h y) e.serial (source_of h.nodes e.serial item)
    (instances_of h e side item ++ option_to_list (given_at h y e side item))

-- whether an entry on this element, or a press of this key,
-- can change what is kept for an item of e with this source
abbrev pub concerned_by : List Node → Bool → Option ℕ → Option ℕ → ℕ → Source → Bool
concerned_by nodes is_birth None key e s = is_keyed key s
concerned_by nodes is_birth (Some x) key e s = is_concerned nodes is_birth x e s

-- an entry changes what is kept for the items alone that it concerns
abbrev pub OnlyConcernedChange : Type 0
OnlyConcernedChange =
    (h : History) (y : Entry) (e : Node) (side : Edge) (item : Item) → IsUpTo y.moment h.diary
    → concerned_by h.nodes (is_opening y.step) (subject_of h.log y.step)
    (key_of h.log y.step) e.serial
    (source_of h.nodes e.serial item)
    ≡ false
    → instances_of (with_entry h y) e side item ≡ instances_of h e side item

-- an item names elements alone
abbrev pub BasesAreElements : Type 0
BasesAreElements =
    (nodes : List Node) (e : Node) (item : Item) (x : ℕ)
    → node_at (elements nodes) e.serial ≡ Some e
    → base_of (source_of nodes e.serial item) ≡ Some x
    → is_some (node_at (elements nodes) x) ≡ true

-- the step is no birth of any element
abbrev pub BearsNone : List Node → Step → Type 0
BearsNone nodes step =
    (s : ℕ) → has_element nodes s ≡ true → is_birth_under (time_parent nodes s) step ≡ false
