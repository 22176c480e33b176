-- The instance times are those that are kept, with the expected ones put in their places.
use Rattle.std.proofs.Common.{◌≡◌, refl, sym, ◌∙◌, ap, ℕ, List, [], ◌∷◌, ◌++◌, ℤ, Bool, false, Option, Some, None}
use Rattle.std.specs.Prelude.{map, flat_map, cond, int_le}
use Rattle.std.proofs.lemmas.List.{append-nil}
use Rattle.smil_model.specs.declared.interval.Interval.{Interval}
use Rattle.smil_model.specs.declared.times.Time.{Time}
use Rattle.smil_model.specs.declared.document.Node.{Node}
use Rattle.smil_model.specs.declared.document.Edge.{Edge}
use Rattle.smil_model.specs.declared.document.Edge.TheVariants.{Begin, End}
use Rattle.smil_model.specs.declared.document.Item.{Item}
use Rattle.smil_model.specs.declared.document.Item.TheVariants.{Offset, Sync, Event, Repeat, Key, Indefinite}
use Rattle.smil_model.specs.Times.{numbers, rising, rising_times, time_le}
use Rattle.smil_model.specs.document.Document.{previous_in_seq, element_named, target}
use Rattle.smil_model.specs.document.Defaults.{begin_list, end_list}
use Rattle.smil_model.specs.document.Dependencies.{leads_to}
use Rattle.smil_model.specs.diary.Diary.{History}
use Rattle.smil_model.specs.interval.Instances.{expected_times, sync_times, offset_times, named_times, item_times, begin_times, end_times}
use Rattle.smil_instances.specs.SettledTimes.{instances_of, edge_instances, offset_instances, named_instances, row_of, occurs_key}
use Rattle.smil_instance_rows.specs.Values.{times_of, begins_of, ends_of}
use Rattle.smil_model.specs.Rising.{poured}
use Rattle.smil_instances.specs.ExpectedTimes.{expected_before, expected_named, expected_of, AreMerged}
use Rattle.smil_instances.proofs.KeptTimes.{heard-times, happened-times, event-times, repeat-times}
use Rattle.smil_model.proofs.NumberOrders.{numbers_order, times_order}
use Rattle.smil_model.proofs.RisingLists.{parts_apart}
use Rattle.smil_instance_rows.proofs.SideValues.{flat_map_same, numbers_append, numbers_of_each}

each_mapped : {X Y A : Type 0} (f : Y → List A) (k : X → Y) (xs : List X) → flat_map (λ x. f (k x)) xs ≡ flat_map f (map k xs)
each_mapped f k [] = refl
each_mapped f k (x ∷ xs) = ap (λ ys. f (k x) ++ ys) (each_mapped f k xs)

module _ (h : History) (J : ℕ → Option Interval) (now : ℤ) where
  sync_parts : (e x : ℕ) (offset : ℤ) (edge : Edge) (cyclic : Bool) → sync_times h J now e x offset edge cyclic ≡ times_of (edge_instances h e x offset edge) ++ cond cyclic [] (expected_times h J now e x offset edge)
  sync_parts e x offset edge cyclic = ap (λ ts. ts ++ cond cyclic [] (expected_times h J now e x offset edge)) (happened-times h e x offset edge)

  offset_parts : (e : ℕ) (offset : ℤ) (o : Option Node) → offset_times h J now e offset o ≡ times_of (offset_instances h e offset o) ++ expected_before h J now e offset o
  offset_parts e offset None = refl
  offset_parts e offset (Some b) = sync_parts e b.serial offset End false

  named_parts : (e : ℕ) (offset : ℤ) (edge : Edge) (o : Option Node) → named_times h J now e offset edge o ≡ times_of (named_instances h e offset edge o) ++ expected_named h J now e offset edge o
  named_parts e offset edge None = refl
  named_parts e offset edge (Some x) = sync_parts e x.serial offset edge (leads_to h.nodes e x.serial)

  pub item_parts : (e : Node) (side : Edge) (i : Item) → item_times h J now e side i ≡ times_of (instances_of h e side i) ++ expected_of h J now e i
  item_parts e side (Offset offset) = offset_parts e.serial offset (previous_in_seq h.nodes e.serial)
  item_parts e side (Sync who edge offset) = named_parts e.serial offset edge (element_named h.nodes who)
  item_parts e side (Event who name offset) =
      event-times h e side (Event who name offset) offset name (target h.nodes e.serial who) ∙ sym (append-nil (times_of (instances_of h e side (Event who name offset))))
  item_parts e side (Repeat who n offset) =
      repeat-times h e side (Repeat who n offset) offset n (target h.nodes e.serial who) ∙ sym (append-nil (times_of (instances_of h e side (Repeat who n offset))))
  item_parts e side (Key key offset) =
      heard-times h e side (Key key offset) offset (occurs_key key) ∙ sym (append-nil (times_of (instances_of h e side (Key key offset))))
  item_parts e Begin Indefinite = refl
  item_parts e End Indefinite = refl

  -- the numbers of an item's times
  number_parts : (e : Node) (i : Item) → numbers (item_times h J now e Begin i) ≡ numbers (times_of (instances_of h e Begin i)) ++ numbers (expected_of h J now e i)
  number_parts e i = ap numbers (item_parts e Begin i) ∙ numbers_append (times_of (instances_of h e Begin i)) (expected_of h J now e i)

  begins_merged : (e : Node) → begin_times h J now e ≡ poured int_le (numbers (flat_map (expected_of h J now e) (begin_list h.nodes e))) (begins_of (row_of h e).begins)
  begins_merged e =
      let is = begin_list h.nodes e in
      let kept : List ℤ = flat_map (λ i. numbers (times_of (instances_of h e Begin i))) is in
      let same : poured int_le kept [] ≡ begins_of (row_of h e).begins =
      ap rising (sym (numbers_of_each (λ i. times_of (instances_of h e Begin i)) is))
      ∙ ap (λ ts. rising (numbers ts)) (each_mapped times_of (instances_of h e Begin) is)
      in
      ap rising (numbers_of_each (item_times h J now e Begin) is)
      ∙ ap rising (flat_map_same (λ i. numbers (item_times h J now e Begin i)) (λ i. numbers (times_of (instances_of h e Begin i)) ++ numbers (expected_of h J now e i)) (number_parts e) is)
      ∙ parts_apart int_le numbers_order (λ i. numbers (times_of (instances_of h e Begin i))) (λ i. numbers (expected_of h J now e i)) is
      ∙ ap (λ xs. poured int_le xs (poured int_le kept [])) (sym (numbers_of_each (expected_of h J now e) is))
      ∙ ap (poured int_le (numbers (flat_map (expected_of h J now e) is))) same

  ends_merged : (e : Node) → end_times h J now e ≡ poured time_le (flat_map (expected_of h J now e) (end_list e)) (ends_of (row_of h e).ends)
  ends_merged e =
      let is = end_list e in
      let kept : List Time = flat_map (λ i. times_of (instances_of h e End i)) is in
      ap rising_times (flat_map_same (item_times h J now e End) (λ i. times_of (instances_of h e End i) ++ expected_of h J now e i) (item_parts e End) is)
      ∙ parts_apart time_le times_order (λ i. times_of (instances_of h e End i)) (expected_of h J now e) is
      ∙ ap (poured time_le (flat_map (expected_of h J now e) is)) (ap rising_times (each_mapped times_of (instances_of h e End) is))

  pub are_merged : (e : Node) → AreMerged h J now e
  are_merged e = record { begins = begins_merged e; ends = ends_merged e }
