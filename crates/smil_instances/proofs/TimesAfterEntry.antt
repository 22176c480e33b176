-- What is kept for an item after an entry, by what was kept and what the entry gives.
use Rattle.std.proofs.Common.{◌≡◌, refl, sym, ◌∙◌, ap, ℕ, List, ◌∷◌, [], ◌++◌, length, Option, Some, None, ℤ, Bool, true, false}
use Rattle.std.specs.Prelude.{cond, min, option_to_list}
use Rattle.std.proofs.lemmas.List.{append-nil}
use Rattle.smil_model.specs.declared.times.Time.{Time}
use Rattle.smil_model.specs.declared.diary.Entry.{Entry}
use Rattle.smil_model.specs.declared.document.Node.{Node}
use Rattle.smil_model.specs.declared.document.Edge.{Edge}
use Rattle.smil_model.specs.declared.document.Edge.TheVariants.{End}
use Rattle.smil_model.specs.declared.document.Item.{Item}
use Rattle.smil_model.specs.declared.document.Item.TheVariants.{Offset, Sync, Event, Repeat, Key, Indefinite}
use Rattle.smil_model.specs.document.Document.{element_named, previous_in_seq, time_parent, target}
use Rattle.smil_model.specs.diary.Diary.{History, birth, gives_birth, with_entry}
use Rattle.smil_model.specs.diary.Clocks.{parent_start}
use Rattle.smil_instance_rows.specs.declared.item_times.InstanceTime.{InstanceTime}
use Rattle.smil_instances.specs.declared.source.Source.TheVariants as source
use Rattle.smil_instances.specs.Laws.{IsUpTo}
use Rattle.smil_instance_rows.specs.Places.{last_alone}
use Rattle.smil_instances.specs.Contribution.{given_edge, given_event, given_repeat, given_at, offset_given, start_time}
use Rattle.smil_instance_rows.specs.Rows.{at_place, from_place}
use Rattle.smil_instances.specs.SettledTimes.{at_start, heard_time, occurs_key, instances_of, offset_instances}
use Rattle.smil_instances.proofs.NextItemTimes.{next_of, next_offset, next_start, next_named, next_event, next_repeat, with_time}
use Rattle.smil_instances.specs.Sources.{eventbase, source_of, syncbase_or}
use Rattle.smil_instances.specs.Updates.{remaining}
use Rattle.smil_instances.proofs.NotedEntry.{kept-next}

time_last : (place : ℕ) (o : Option Time) (kept : List InstanceTime) → with_time place o kept ≡ kept ++ option_to_list (at_place place o)
time_last place None kept = sym (append-nil kept)
time_last place (Some t) kept = refl

module _ (h : History) (y : Entry) (e : Node) (side : Edge) where
  -- no time is given, and nothing is cut
  abbrev same : (kept : List InstanceTime) → kept ≡ kept ++ []
  same kept = sym (append-nil kept)

  -- the time is put last, and then what is of earlier places is cut
  abbrev from_birth : (birth' : ℕ) (o : Option Time) (kept : List InstanceTime) → from_place birth' (with_time (length h.diary) o kept) ≡ from_place birth' (kept ++ option_to_list (at_place (length h.diary) o))
  from_birth birth' o kept = ap (from_place birth') (time_last (length h.diary) o kept)

  start_taken : (offset start : ℤ) (o : Option Node) → next_start h y o offset (at_start offset start) ≡ last_alone (at_start offset start ++ option_to_list (start_time h y offset o))
  start_taken offset start None = refl
  start_taken offset start (Some p) = by_test (gives_birth p.serial y.step) _
    where
      by_test : (t : Bool) (anew : InstanceTime) → cond t (anew ∷ []) (at_start offset start) ≡ last_alone (at_start offset start ++ option_to_list (cond t (Some anew) None))
      by_test true anew = refl
      by_test false anew = refl

  offset_taken : (offset : ℤ) (o : Option Node) → next_offset h y e.serial offset o (offset_instances h e.serial offset o) ≡ remaining (with_entry h y) e.serial (syncbase_or source.Start End o) (offset_instances h e.serial offset o ++ option_to_list (offset_given h y e.serial offset o))
  offset_taken offset None = start_taken offset (parent_start h e.serial) (time_parent h.nodes e.serial)
  offset_taken offset (Some b) = from_birth (min (birth (with_entry h y) e.serial) (birth (with_entry h y) b.serial)) (given_edge h y e.serial offset End (Some b)) (offset_instances h e.serial offset (Some b))

  named_taken : (offset : ℤ) (edge : Edge) (o : Option Node) (kept : List InstanceTime) → next_named h y e.serial offset edge o kept ≡ remaining (with_entry h y) e.serial (syncbase_or source.Nothing edge o) (kept ++ option_to_list (at_place (length h.diary) (given_edge h y e.serial offset edge o)))
  named_taken offset edge None kept = same kept
  named_taken offset edge (Some x) kept = from_birth (min (birth (with_entry h y) e.serial) (birth (with_entry h y) x.serial)) (given_edge h y e.serial offset edge (Some x)) kept

  event_taken : (item : Item) (offset : ℤ) (name : List ℕ) (o : Option ℕ) (kept : List InstanceTime) → next_event h y e side item offset name o kept ≡ remaining (with_entry h y) e.serial (eventbase o) (kept ++ option_to_list (at_place (length h.diary) (given_event h y e side item offset name o)))
  event_taken item offset name None kept = same kept
  event_taken item offset name (Some x) kept = from_birth (birth (with_entry h y) e.serial) (given_event h y e side item offset name (Some x)) kept

  repeat_taken : (item : Item) (offset : ℤ) (n : ℕ) (o : Option ℕ) (kept : List InstanceTime) → next_repeat h y e side item offset n o kept ≡ remaining (with_entry h y) e.serial (eventbase o) (kept ++ option_to_list (at_place (length h.diary) (given_repeat h y e side item offset n o)))
  repeat_taken item offset n None kept = same kept
  repeat_taken item offset n (Some x) kept = from_birth (birth (with_entry h y) e.serial) (given_repeat h y e side item offset n (Some x)) kept

  next_taken : (item : Item) → next_of h y e side item (instances_of h e side item) ≡ remaining (with_entry h y) e.serial (source_of h.nodes e.serial item) (instances_of h e side item ++ option_to_list (given_at h y e side item))
  next_taken (Offset offset) = offset_taken offset (previous_in_seq h.nodes e.serial)
  next_taken (Sync who edge offset) = named_taken offset edge (element_named h.nodes who) (instances_of h e side (Sync who edge offset))
  next_taken (Event who name offset) = event_taken (Event who name offset) offset name (target h.nodes e.serial who) (instances_of h e side (Event who name offset))
  next_taken (Repeat who n offset) = repeat_taken (Repeat who n offset) offset n (target h.nodes e.serial who) (instances_of h e side (Repeat who n offset))
  next_taken (Key key offset) =
      from_birth (birth (with_entry h y) e.serial) (heard_time h e side (Key key offset) offset (occurs_key key) h.diary y) (instances_of h e side (Key key offset))
  next_taken Indefinite = same (instances_of h e side Indefinite)

  pub taken_in : (item : Item) → IsUpTo y.moment h.diary → instances_of (with_entry h y) e side item ≡ remaining (with_entry h y) e.serial (source_of h.nodes e.serial item) (instances_of h e side item ++ option_to_list (given_at h y e side item))
  taken_in item timely = kept-next h y timely e side item ∙ next_taken item
