-- The instance times that a diary gives are of places within it.
use Rattle.std.proofs.Common.{◌≡◌, refl, ◌∙◌, ap, ℕ, suc, ◌+◌, ◌<◌, ◌≤◌, List, [], ◌∷◌, length, Option, Some, None, ℤ, Bool, true, false, map, arith}
use Rattle.std.specs.Prelude.{cond, nat_le, nat_lt}
use Rattle.std.specs.List.{AllByRecursion, cons_option}
use Rattle.smil_model.specs.declared.times.Time.{Time}
use Rattle.smil_model.specs.declared.diary.Entry.{Entry}
use Rattle.smil_model.specs.declared.diary.Step.{Step}
use Rattle.smil_model.specs.declared.document.Node.{Node}
use Rattle.smil_model.specs.declared.document.Edge.{Edge}
use Rattle.smil_model.specs.declared.document.Edge.TheVariants.{Begin, End}
use Rattle.smil_model.specs.declared.document.Item.{Item}
use Rattle.smil_model.specs.declared.document.Item.TheVariants.{Offset, Sync, Event, Repeat, Key, Indefinite}
use Rattle.smil_model.specs.document.Document.{element_named, elements, previous_in_seq, target}
use Rattle.smil_model.specs.document.Defaults.{begin_list, end_list}
use Rattle.smil_model.specs.diary.Diary.{History, with_past}
use Rattle.smil_model.specs.interval.Instances.{edge_time}
use Rattle.smil_diary.proofs.PlaceLists.{past-length}
use Rattle.smil_instance_rows.specs.declared.item_times.InstanceTime.{InstanceTime}
use Rattle.smil_instance_rows.specs.Rows.{at_place, before_place, from_place, row_before, rows_before}
use Rattle.smil_instances.specs.SettledTimes.{all_edges, all_heard, event_instances, heard_time, instances_of, named_instances, occurs_event, occurs_key, occurs_repeat, offset_instances, repeat_instances, row_of, settled_rows}
use Rattle.smil_instances.proofs.PlacedLists.{placed}

module _ (n : ℕ) where
  abbrev AreEarly : List InstanceTime → Type 0
  AreEarly ks = AllByRecursion (λ (k : InstanceTime). k.place < n) ks

  early_stay : (ks : List InstanceTime) → AreEarly ks → before_place n ks ≡ ks
  early_stay [] all = refl
  early_stay (k ∷ ks) all =
      let here : k.place < n = all.0 in
      let yes : nat_lt k.place n ≡ true = grind (arith, here) in
      ap (λ t. cond t (k ∷ before_place n ks) (before_place n ks)) yes
      ∙ ap (λ rest. k ∷ rest) (early_stay ks all.1)

  early_from : (p : ℕ) (ks : List InstanceTime) → AreEarly ks → AreEarly (from_place p ks)
  early_from p [] all = tt
  early_from p (k ∷ ks) all = step (nat_le p k.place) (early_from p ks all.1)
    where
      step : (t : Bool) → AreEarly (from_place p ks) → AreEarly (cond t (k ∷ from_place p ks) (from_place p ks))
      step true rest = (all.0, rest)
      step false rest = rest

  early_placed : {A : Type 0} (f : A → Option Time) (k : ℕ) (xs : List A) → k + length xs ≤ n → AreEarly (placed f k xs)
  early_placed f k [] up = tt
  early_placed f k (x ∷ xs) up = step (f x) (early_placed f (suc k) xs (omega (arith, up)))
    where
      step : (o : Option Time) → AreEarly (placed f (suc k) xs) → AreEarly (cons_option (at_place k o) (placed f (suc k) xs))
      step None rest = rest
      step (Some t) rest = (omega (arith, up), rest)

  module _ (h : History) (some : 0 < n) (within : length h.diary ≤ n) where
    module _ (e : Node) (side : Edge) where
      edges_early : (m x : ℕ) (offset : ℤ) (edge : Edge) → AreEarly (from_place m (all_edges h e.serial x offset edge))
      edges_early m x offset edge =
          early_from m (all_edges h e.serial x offset edge)
          (early_placed (λ (z : Entry). edge_time h e.serial x offset z.moment edge z.step) 0 h.diary (omega (arith, within)))

      heard_early : (m : ℕ) (item : Item) (offset : ℤ) (occurs : History → Step → Bool) → AreEarly (from_place m (all_heard h e side item offset occurs))
      heard_early m item offset occurs =
          early_from m (all_heard h e side item offset occurs)
          (early_placed (λ (w : List Entry × Entry). heard_time h e side item offset occurs w.0 w.1) 0 (with_past [] h.diary) (omega (arith, within, past-length [] h.diary)))

      offset_early : (offset : ℤ) (o : Option Node) → AreEarly (offset_instances h e.serial offset o)
      offset_early offset None = (some, tt)
      offset_early offset (Some b) = edges_early _ b.serial offset End

      named_early : (offset : ℤ) (edge : Edge) (o : Option Node) → AreEarly (named_instances h e.serial offset edge o)
      named_early offset edge None = tt
      named_early offset edge (Some x) = edges_early _ x.serial offset edge

      event_early : (item : Item) (offset : ℤ) (name : List ℕ) (o : Option ℕ) → AreEarly (event_instances h e side item offset name o)
      event_early item offset name None = tt
      event_early item offset name (Some x) = heard_early _ item offset (occurs_event x name)

      repeat_early : (item : Item) (offset : ℤ) (m : ℕ) (o : Option ℕ) → AreEarly (repeat_instances h e side item offset m o)
      repeat_early item offset m None = tt
      repeat_early item offset m (Some x) = heard_early _ item offset (occurs_repeat x m)

    items_early : (e : Node) (side : Edge) (item : Item) → AreEarly (instances_of h e side item)
    items_early e side (Offset offset) = offset_early e side offset (previous_in_seq h.nodes e.serial)
    items_early e side (Sync who edge offset) = named_early e side offset edge (element_named h.nodes who)
    items_early e side (Event who name offset) = event_early e side (Event who name offset) offset name (target h.nodes e.serial who)
    items_early e side (Repeat who m offset) = repeat_early e side (Repeat who m offset) offset m (target h.nodes e.serial who)
    items_early e side (Key key offset) = heard_early e side _ (Key key offset) offset (occurs_key key)
    items_early e Begin Indefinite = tt
    items_early e End Indefinite = (some, tt)

    lists_stay : (e : Node) (side : Edge) (items : List Item) → map (before_place n) (map (instances_of h e side) items) ≡ map (instances_of h e side) items
    lists_stay e side [] = refl
    lists_stay e side (i ∷ is) =
        ap (λ ks. ks ∷ map (before_place n) (map (instances_of h e side) is)) (early_stay (instances_of h e side i) (items_early e side i))
        ∙ ap (λ ls. instances_of h e side i ∷ ls) (lists_stay e side is)

    row_stays : (e : Node) → row_before n (row_of h e) ≡ row_of h e
    row_stays e =
        ap (λ bs. record { serial = e.serial; begins = bs; ends = map (before_place n) (map (instances_of h e End) (end_list e)) }) (lists_stay e Begin (begin_list h.nodes e))
        ∙ ap (λ es. record { serial = e.serial; begins = map (instances_of h e Begin) (begin_list h.nodes e); ends = es }) (lists_stay e End (end_list e))

    rows_stay : (es : List Node) → rows_before n (map (row_of h) es) ≡ map (row_of h) es
    rows_stay [] = refl
    rows_stay (e ∷ es) =
        ap (λ r. r ∷ rows_before n (map (row_of h) es)) (row_stays e)
        ∙ ap (λ rs. row_of h e ∷ rs) (rows_stay es)

    -- so nothing is taken out of them by a mark behind the diary
    pub settled_early : rows_before n (settled_rows h) ≡ settled_rows h
    settled_early = rows_stay (elements h.nodes)
