-- What is kept has the times that the definition gives where no current interval is known.
use Rattle.std.proofs.Common.{◌≡◌, refl, sym, ◌∙◌, ap, ℕ, List, [], ◌++◌, Option, Some, None, ℤ, Bool, true, false, arith}
use Rattle.std.specs.Prelude.{cond, map, filter_map, min, ◌+ℤ◌, ◌||◌, drop, option_to_list}
use Rattle.std.proofs.lemmas.List.{append-nil}
use Rattle.smil_model.specs.declared.times.Time.{Time}
use Rattle.smil_model.specs.declared.diary.Entry.{Entry}
use Rattle.smil_model.specs.declared.diary.Step.{Step}
use Rattle.smil_model.specs.declared.document.Node.{Node}
use Rattle.smil_model.specs.declared.document.Edge.{Edge}
use Rattle.smil_model.specs.declared.document.Edge.TheVariants.{Begin, End}
use Rattle.smil_model.specs.declared.document.Item.{Item}
use Rattle.smil_model.specs.declared.document.Item.TheVariants.{Offset, Sync, Event, Repeat, Key, Indefinite}
use Rattle.smil_model.specs.Times.{within_horizon}
use Rattle.smil_model.specs.document.Document.{previous_in_seq, element_named, target}
use Rattle.smil_model.specs.document.Dependencies.{leads_to}
use Rattle.smil_model.specs.diary.Diary.{History, is_active, birth, with_past}
use Rattle.smil_model.specs.diary.Clocks.{between, outer_stands}
use Rattle.smil_model.specs.interval.Instances.{edge_time, happened_times, expected_times, interval_edge, sync_times, heard_times, event_times, repeat_times, offset_times, named_times, item_times}
use Rattle.smil_instance_rows.specs.Rows.{from_place}
use Rattle.smil_instances.specs.SettledTimes.{edge_instances, heard_time, heard_instances, offset_instances, named_instances, event_instances, repeat_instances, instances_of, occurs_event, occurs_repeat, occurs_key}
use Rattle.smil_instance_rows.specs.Values.{times_of}
use Rattle.smil_instances.proofs.PlacedLists.{placed, times_from}

from_start : {A : Type 0} (f : A → Option Time) (n : ℕ) (xs : List A) → filter_map f (drop n xs) ≡ times_of (from_place n (placed f 0 xs))
from_start f n xs = sym (times_from f n 0 xs) ∙ ap (λ j. times_of (from_place j (placed f 0 xs))) (omega arith)

module _ (h : History) where
  pub happened-times : (e x : ℕ) (offset : ℤ) (edge : Edge) → happened_times h e x offset edge ≡ times_of (edge_instances h e x offset edge)
  happened-times e x offset edge =
      from_start (λ (z : Entry). edge_time h e x offset z.moment edge z.step) (min (birth h e) (birth h x)) h.diary

  pub heard-times : (e : Node) (side : Edge) (item : Item) (offset : ℤ) (occurs : History → Step → Bool) → heard_times h e side item offset occurs ≡ times_of (heard_instances h e side item offset occurs)
  heard-times e side item offset occurs =
      from_start (λ (p : List Entry × Entry). heard_time h e side item offset occurs p.0 p.1) (birth h e.serial) (with_past [] h.diary)

  no_edge : (edge : Edge) (active : Bool) → interval_edge edge active None ≡ None
  no_edge Begin true = refl
  no_edge Begin false = refl
  no_edge End true = refl
  no_edge End false = refl

  none_expected : (now : ℤ) (e x : ℕ) (offset : ℤ) (edge : Edge) → expected_times h (λ _. None) now e x offset edge ≡ []
  none_expected now e x offset edge = by_held (outer_stands h e || outer_stands h x)
    where
      by_held : (t : Bool) → cond t [] (map (λ value. within_horizon (between h x e value now +ℤ offset)) (option_to_list (interval_edge edge (is_active h.diary x) None))) ≡ []
      by_held true = refl
      by_held false = ap (λ o. map (λ value. within_horizon (between h x e value now +ℤ offset)) (option_to_list o)) (no_edge edge (is_active h.diary x))

  sync-times : (now : ℤ) (e x : ℕ) (offset : ℤ) (edge : Edge) (cyclic : Bool) → sync_times h (λ _. None) now e x offset edge cyclic ≡ times_of (edge_instances h e x offset edge)
  sync-times now e x offset edge true = append-nil (happened_times h e x offset edge) ∙ happened-times e x offset edge
  sync-times now e x offset edge false =
      ap (λ ts. happened_times h e x offset edge ++ ts) (none_expected now e x offset edge)
      ∙ append-nil (happened_times h e x offset edge) ∙ happened-times e x offset edge

  offset-times : (now : ℤ) (e : ℕ) (offset : ℤ) (o : Option Node) → offset_times h (λ _. None) now e offset o ≡ times_of (offset_instances h e offset o)
  offset-times now e offset None = refl
  offset-times now e offset (Some b) = sync-times now e b.serial offset End false

  named-times : (now : ℤ) (e : ℕ) (offset : ℤ) (edge : Edge) (o : Option Node) → named_times h (λ _. None) now e offset edge o ≡ times_of (named_instances h e offset edge o)
  named-times now e offset edge None = refl
  named-times now e offset edge (Some x) = sync-times now e x.serial offset edge (leads_to h.nodes e x.serial)

  pub event-times : (e : Node) (side : Edge) (item : Item) (offset : ℤ) (name : List ℕ) (o : Option ℕ) → event_times h e side item offset name o ≡ times_of (event_instances h e side item offset name o)
  event-times e side item offset name None = refl
  event-times e side item offset name (Some x) = heard-times e side item offset (occurs_event x name)

  pub repeat-times : (e : Node) (side : Edge) (item : Item) (offset : ℤ) (n : ℕ) (o : Option ℕ) → repeat_times h e side item offset n o ≡ times_of (repeat_instances h e side item offset n o)
  repeat-times e side item offset n None = refl
  repeat-times e side item offset n (Some x) = heard-times e side item offset (occurs_repeat x n)

  pub kept-times : (now : ℤ) (e : Node) (side : Edge) (item : Item) → item_times h (λ _. None) now e side item ≡ times_of (instances_of h e side item)
  kept-times now e side (Offset offset) = offset-times now e.serial offset (previous_in_seq h.nodes e.serial)
  kept-times now e side (Sync who edge offset) = named-times now e.serial offset edge (element_named h.nodes who)
  kept-times now e side (Event who name offset) = event-times e side (Event who name offset) offset name (target h.nodes e.serial who)
  kept-times now e side (Repeat who n offset) = repeat-times e side (Repeat who n offset) offset n (target h.nodes e.serial who)
  kept-times now e side (Key key offset) = heard-times e side (Key key offset) offset (occurs_key key)
  kept-times now e Begin Indefinite = refl
  kept-times now e End Indefinite = refl
