-- Entries that give nothing to an item.
use mathlib.Core.Bool.{and-false}
use Rattle.std.proofs.Common.{◌≡◌, refl, sym, ◌∙◌, ap, ℕ, ℤ, List, length, Option, Some, None, Bool, true, false}
use Rattle.std.specs.Prelude.{cond, not, is_some, slice_get, ◌&&◌, ◌+ℤ◌}
use Rattle.std.specs.List.{list_any}
use Rattle.smil_model.specs.declared.diary.Entry.{Entry}
use Rattle.smil_model.specs.declared.diary.LogEntry.{LogEntry}
use Rattle.smil_model.specs.declared.diary.Step.{Step}
use Rattle.smil_model.specs.declared.document.Node.{Node}
use Rattle.smil_model.specs.declared.document.Edge.{Edge}
use Rattle.smil_model.specs.declared.document.Edge.TheVariants.{Begin, End}
use Rattle.smil_model.specs.declared.document.Item.{Item}
use Rattle.smil_model.specs.declared.document.Item.TheVariants.{Offset, Sync, Event, Repeat, Key, Indefinite}
use Rattle.smil_model.specs.document.Document.{elements, element_named, previous_in_seq, serial_of, target}
use Rattle.smil_model.specs.Times.{within_horizon}
use Rattle.smil_model.specs.document.Defaults.{begin_list, items_of, restart_of}
use Rattle.smil_model.specs.diary.Clocks.{outer, outer_stands}
use Rattle.smil_model.specs.diary.Diary.{History, is_active, is_alive, up_to}
use Rattle.smil_model.specs.interval.Instances.{hears, is_press, is_same_event, is_sensitive}
use Rattle.smil_model.specs.reach.Reach.{subject_of}
use Rattle.smil_instance_rows.specs.declared.cell.Cell.{Cell}
use Rattle.smil_instance_rows.specs.Rows.{at_place}
use Rattle.smil_instances.specs.declared.source.Source.{Source}
use Rattle.smil_instances.specs.declared.source.Source.TheVariants as source
use Rattle.smil_instances.specs.Sources.{eventbase, source_at, source_by, source_of, syncbase_or}
use Rattle.smil_instances.specs.Contribution.{given_at, given_edge, given_event, given_repeat, is_end_heard, may_give, offset_given}
use Rattle.smil_instances.specs.Intake.{given_item, given_to, given_under, IsCellOf}
use Rattle.smil_instances.specs.SettledTimes.{heard_time, occurs_event, occurs_key, occurs_repeat}
use Rattle.smil_instances.proofs.ConcernedCells.{source_here}
use Rattle.smil_instances.proofs.EntryGifts.{gift_is, source_of_item}
use Rattle.smil_instances.proofs.UnconcernedItems.{no_press}
use Rattle.smil_instances.proofs.UntouchedItems.{event_other, other_edge, repeat_other, unheard}

-- ---- by the source of the item

-- a step on an element is no press
press_off : (log : List LogEntry) (key : ℕ) (step : Step) → not (is_some (subject_of log step)) ≡ false → is_press log key step ≡ false
press_off log key step q = by (subject_of log step) refl q
  where
    by : (o : Option ℕ) → subject_of log step ≡ o → not (is_some o) ≡ false → is_press log key step ≡ false
    by None on r = cc
    by (Some x) on r = no_press log step x key on

module _ (h : History) (y : Entry) where
  spared : (e : Node) (side : Edge) (item : Item) → may_give (subject_of h.log y.step) y.step (source_of h.nodes e.serial item) ≡ false → given_at h y e side item ≡ None
  spared e side (Offset offset) q = by (previous_in_seq h.nodes e.serial) q
    where
      by : (o : Option Node) → may_give (subject_of h.log y.step) y.step (syncbase_or source.Start End o) ≡ false → offset_given h y e.serial offset o ≡ None
      by None r = cc
      by (Some x) r = ap (at_place (length h.diary)) (other_edge h e.serial x.serial offset y.moment End y.step r)
  spared e side (Sync who edge offset) q = ap (at_place (length h.diary)) (by (element_named h.nodes who) q)
    where
      by : (o : Option Node) → may_give (subject_of h.log y.step) y.step (syncbase_or source.Nothing edge o) ≡ false → given_edge h y e.serial offset edge o ≡ None
      by None r = refl
      by (Some x) r = other_edge h e.serial x.serial offset y.moment edge y.step r
  spared e side (Event who name offset) q = ap (at_place (length h.diary)) (by (target h.nodes e.serial who) q)
    where
      by : (o : Option ℕ) → may_give (subject_of h.log y.step) y.step (eventbase o) ≡ false → given_event h y e side (Event who name offset) offset name o ≡ None
      by None r = refl
      by (Some x) r = unheard h y e side (Event who name offset) offset (occurs_event x name) (event_other h.log x name y.step r)
  spared e side (Repeat who n offset) q = ap (at_place (length h.diary)) (by (target h.nodes e.serial who) q)
    where
      by : (o : Option ℕ) → may_give (subject_of h.log y.step) y.step (eventbase o) ≡ false → given_repeat h y e side (Repeat who n offset) offset n o ≡ None
      by None r = refl
      by (Some x) r = unheard h y e side (Repeat who n offset) offset (occurs_repeat x n) (repeat_other h.log (up_to h h.diary) x n y.step r)
  spared e side (Key key offset) q =
      ap (at_place (length h.diary)) (unheard h y e side (Key key offset) offset (occurs_key key) (press_off h.log key y.step q))
  spared e side Indefinite q = refl

  -- an item whose source is of no such entry is given nothing
  pub none_given : (cell : Cell) → may_give (subject_of h.log y.step) y.step (source_at h.nodes cell) ≡ false → given_to h y cell ≡ None
  none_given cell q = by (slice_get (elements h.nodes) cell.row) refl
    where
      by_item : (e : Node) (o : Option Item) → may_give (subject_of h.log y.step) y.step (source_by h.nodes e.serial o) ≡ false → given_item h y e cell.side o ≡ None
      by_item e None r = refl
      by_item e (Some item) r = spared e cell.side item r

      by : (o : Option Node) → slice_get (elements h.nodes) cell.row ≡ o → given_under h y cell o ≡ None
      by None here = refl
      by (Some e) here = by_item e (slice_get (items_of h.nodes cell.side e) cell.item) (ap (may_give (subject_of h.log y.step) y.step) (sym (source_here h.nodes cell e here)) ∙ q)

  -- and so is one of no row
  no_element : (cell : Cell) (o : Option Node) → serial_of o ≡ None → given_under h y cell o ≡ None
  no_element cell None q = refl
  no_element cell (Some e) q = cc

  pub none_there : (cell : Cell) → None ≡ serial_of (slice_get (elements h.nodes) cell.row) → given_to h y cell ≡ None
  none_there cell q = no_element cell (slice_get (elements h.nodes) cell.row) (sym q)

-- ---- an element that is not active hears nothing for its end items

module _ (h : History) (y : Entry) (e : Node) (off : is_active h.diary e.serial ≡ false) where
  abbrev awake : Bool
  awake = is_alive h e.serial && not (outer_stands h e.serial)

  silent : (item : Item) → hears h e End item ≡ false
  silent item =
      ap (λ active. awake && is_sensitive active (restart_of h.nodes e) End (list_any (is_same_event h.nodes e.serial item) (begin_list h.nodes e))) off
      ∙ and-false awake

  unheard_end : (item : Item) (offset : ℤ) (occurs : History → Step → Bool) → heard_time h e End item offset occurs h.diary y ≡ None
  unheard_end item offset occurs =
      ap (λ t. cond t (Some (within_horizon (outer h e.serial y.moment +ℤ offset))) None)
      (ap (λ t. occurs (up_to h h.diary) y.step && t) (silent item) ∙ and-false (occurs (up_to h h.diary) y.step))

  deaf_item : (item : Item) → is_end_heard (source_of h.nodes e.serial item) End ≡ true → given_at h y e End item ≡ None
  deaf_item (Offset offset) q = by (previous_in_seq h.nodes e.serial) q
    where
      by : (o : Option Node) → is_end_heard (syncbase_or source.Start End o) End ≡ true → offset_given h y e.serial offset o ≡ None
      by None r = cc
      by (Some x) r = cc
  deaf_item (Sync who edge offset) q = by (element_named h.nodes who) q
    where
      by : (o : Option Node) → is_end_heard (syncbase_or source.Nothing edge o) End ≡ true → at_place (length h.diary) (given_edge h y e.serial offset edge o) ≡ None
      by None r = cc
      by (Some x) r = cc
  deaf_item (Event who name offset) q = ap (at_place (length h.diary)) (by (target h.nodes e.serial who))
    where
      by : (o : Option ℕ) → given_event h y e End (Event who name offset) offset name o ≡ None
      by None = refl
      by (Some x) = unheard_end (Event who name offset) offset (occurs_event x name)
  deaf_item (Repeat who n offset) q = ap (at_place (length h.diary)) (by (target h.nodes e.serial who))
    where
      by : (o : Option ℕ) → given_repeat h y e End (Repeat who n offset) offset n o ≡ None
      by None = refl
      by (Some x) = unheard_end (Repeat who n offset) offset (occurs_repeat x n)
  deaf_item (Key key offset) q = ap (at_place (length h.diary)) (unheard_end (Key key offset) offset (occurs_key key))
  deaf_item Indefinite q = refl

-- and is given nothing for them
pub none_for_deaf : (h : History) (y : Entry) (cell : Cell) (who : ℕ) (s : Source) → IsCellOf h.nodes cell who s → is_end_heard s cell.side ≡ true → is_active h.diary who ≡ false → given_to h y cell ≡ None
none_for_deaf h y cell who s is q off =
    gift_is h.nodes cell who s is h y refl ∙ by_side cell.side refl (slice_get (items_of h.nodes cell.side is.element) cell.item) refl
  where
    by_item : (item : Item) → slice_get (items_of h.nodes cell.side is.element) cell.item ≡ Some item → is_end_heard (source_of h.nodes is.element.serial item) cell.side ≡ true
    by_item item at = ap (λ n. is_end_heard (source_of h.nodes n item) cell.side) is.serial ∙ ap (λ t. is_end_heard t cell.side) (sym (source_of_item h.nodes cell who s is item at)) ∙ q

    by_side : (side : Edge) → cell.side ≡ side → (o : Option Item) → slice_get (items_of h.nodes cell.side is.element) cell.item ≡ o → given_item h y is.element cell.side o ≡ None
    by_side side on None at = refl
    by_side Begin on (Some item) at =
        let never : is_end_heard (source_of h.nodes is.element.serial item) Begin ≡ true = ap (is_end_heard (source_of h.nodes is.element.serial item)) (sym on) ∙ by_item item at in
        by_source (source_of h.nodes is.element.serial item) never
      where
        by_source : (t : Source) → is_end_heard t Begin ≡ true → given_at h y is.element cell.side item ≡ None
        by_source source.Start r = cc
        by_source (source.Syncbase x edge) r = cc
        by_source (source.Eventbase x) r = cc
        by_source (source.Key key) r = cc
        by_source source.Nothing r = cc
    by_side End on (Some item) at =
        ap (λ side. given_at h y is.element side item) on
        ∙ deaf_item h y is.element (ap (is_active h.diary) is.serial ∙ off) item
        (ap (is_end_heard (source_of h.nodes is.element.serial item)) (sym on) ∙ by_item item at)
