-- The interval of an element follows, of its time children, from their ends alone.
use Rattle.std.proofs.Common.{◌≡◌, refl, ◌∙◌, ap, ℕ, Option, Some, None, ℤ, Bool, true, false}
use Rattle.std.proofs.lemmas.Bool.{or_left, or_right, eq-eqb}
use Rattle.std.proofs.lemmas.List.Folds.{list_any-append}
use Rattle.smil_model.specs.declared.document.Edge.{Edge}
use Rattle.smil_model.specs.declared.document.Edge.TheVariants.{Begin, End}
use Rattle.smil_model.specs.declared.document.Item.{Item}
use Rattle.smil_model.specs.declared.document.Item.TheVariants as item
use Rattle.smil_model.specs.declared.document.Node.{Node}
use Rattle.smil_model.specs.declared.interval.Interval.{Interval}
use Rattle.smil_model.specs.Times.{rising_times, rising, numbers}
use Rattle.smil_model.specs.document.Document.{element_named, has_serial, previous_in_seq}
use Rattle.smil_model.specs.document.Defaults.{begin_list, end_list}
use Rattle.smil_model.specs.document.Dependencies.{is_sync_with, all_items, leads_to}
use Rattle.smil_model.specs.diary.Diary.{History}
use Rattle.smil_model.specs.interval.Instances.{sync_times, offset_times, named_times, item_times, begin_times, end_times}
use Rattle.smil_model.specs.interval.Current.{simple_of, interval_given}
use Rattle.smil_model.specs.interval.Intervals.{interval_of}
use Rattle.smil_model.specs.happening.Keys.{coming_by}
use Rattle.smil_concern_laws.specs.Unconcerned.{AgreeByEnds, IntervalsFollowFromEnds}
use Rattle.smil_concern_laws.proofs.GivenStays.{Member, flat_same, facts_by}
use Rattle.smil_concern_laws.proofs.SimpleSame.{simple_same}

module _ (h : History) (J K : ℕ → Option Interval) (now : ℤ) (e : Node) (agree : AgreeByEnds h J K e) where
  sync_agrees : (x : ℕ) (offset : ℤ) (edge : Edge) (looped : Bool) → (looped ≡ false → K x ≡ J x) → sync_times h K now e.serial x offset edge looped ≡ sync_times h J now e.serial x offset edge looped
  sync_agrees x offset edge true f = refl
  sync_agrees x offset edge false f = rw (f refl)

  offset_agrees : (offset : ℤ) (o : Option Node) → ((b : Node) → o ≡ Some b → K b.serial ≡ J b.serial) → offset_times h K now e.serial offset o ≡ offset_times h J now e.serial offset o
  offset_agrees offset None f = refl
  offset_agrees offset (Some b) f = sync_agrees b.serial offset End false (λ _. f b refl)

  named_agrees : (offset : ℤ) (edge : Edge) (o : Option Node) → ((x : Node) → o ≡ Some x → leads_to h.nodes e.serial x.serial ≡ false → K x.serial ≡ J x.serial) → named_times h K now e.serial offset edge o ≡ named_times h J now e.serial offset edge o
  named_agrees offset edge None f = refl
  named_agrees offset edge (Some x) f = sync_agrees x.serial offset edge (leads_to h.nodes e.serial x.serial) (f x refl)

  item_agrees : (side : Edge) (i : Item) → Member i (all_items h.nodes e) → item_times h K now e side i ≡ item_times h J now e side i
  item_agrees side (item.Offset offset) m = offset_agrees offset (previous_in_seq h.nodes e.serial) agree.previous
  item_agrees side (item.Sync who edge offset) m =
      named_agrees offset edge (element_named h.nodes who)
      (λ x q. agree.named x.serial (m (is_sync_with h.nodes x.serial) (ap (has_serial x.serial) q ∙ eq-eqb x.serial x.serial refl)))
  item_agrees side (item.Event who name offset) m = refl
  item_agrees side (item.Repeat who n offset) m = refl
  item_agrees side (item.Key key offset) m = refl
  item_agrees Begin item.Indefinite m = refl
  item_agrees End item.Indefinite m = refl

  begins_agree : begin_times h K now e ≡ begin_times h J now e
  begins_agree =
      ap (λ ts. rising (numbers ts))
      (flat_same (item_times h K now e Begin) (item_times h J now e Begin) (begin_list h.nodes e)
      (λ i m. item_agrees Begin i (λ test q. list_any-append test (begin_list h.nodes e) (end_list e) ∙ or_left _ _ (m test q))))

  ends_agree : end_times h K now e ≡ end_times h J now e
  ends_agree =
      ap rising_times
      (flat_same (item_times h K now e End) (item_times h J now e End) (end_list e)
      (λ i m. item_agrees End i (λ test q. list_any-append test (begin_list h.nodes e) (end_list e) ∙ or_right _ _ (m test q))))

  simple_agrees : simple_of h K e ≡ simple_of h J e
  simple_agrees = simple_same h h.diary J K e refl refl refl agree.children

  interval_agrees : interval_given h K now e ≡ interval_given h J now e
  interval_agrees =
      ap (λ simple. interval_of (facts_by h simple now e) (begin_times h K now e) (end_times h K now e)) simple_agrees
      ∙ ap (λ bs. interval_of (facts_by h (simple_of h J e) now e) bs (end_times h K now e)) begins_agree
      ∙ ap (λ es. interval_of (facts_by h (simple_of h J e) now e) (begin_times h J now e) es) ends_agree

pub follow_from_ends : IntervalsFollowFromEnds
follow_from_ends h J K now e agree = record {
  interval = interval_agrees h J K now e agree;
  coming = λ own place.
      ap (λ o. coming_by h o (simple_of h K e) now place e) own
      ∙ ap (λ simple. coming_by h (J e.serial) simple now place e) (simple_agrees h J K now e agree);
}
