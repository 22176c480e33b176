-- The rows tell the instance times that a diary alone gives.
use Rattle.std.proofs.Common.{◌≡◌, refl, sym, ◌∙◌, ap, ℕ, List, [], ◌∷◌, ◌++◌, ℤ, Bool, true, false, Option, Some, None}
use Rattle.std.specs.Prelude.{map, flat_map, cond, ◌==◌}
use Rattle.std.specs.Option.{option_map, option_map_or}
use Rattle.smil_model.specs.declared.document.Node.{Node}
use Rattle.smil_model.specs.declared.document.Edge.{Edge}
use Rattle.smil_model.specs.declared.document.Edge.TheVariants.{Begin, End}
use Rattle.smil_model.specs.declared.document.Item.{Item}
use Rattle.smil_model.specs.Times.{rising, rising_times, numbers}
use Rattle.smil_model.specs.document.Document.{elements, node_at}
use Rattle.smil_model.specs.document.Defaults.{begin_list, end_list}
use Rattle.smil_model.specs.diary.Diary.{History}
use Rattle.smil_model.specs.interval.Instances.{item_times, settled_begins, settled_ends}
use Rattle.smil_instance_rows.specs.Rows.{ElementTimes}
use Rattle.smil_instances.specs.SettledTimes.{row_of, instances_of}
use Rattle.smil_instance_rows.specs.Values.{times_of, begins_of, ends_of}
use Rattle.smil_instance_rows.specs.Readings.{row_in}
use Rattle.smil_instances.specs.Laws.{RowsTell}
use Rattle.smil_instances.proofs.KeptTimes.{kept-times}

module _ (h : History) where
  found_row : (s : ℕ) (ns : List Node) → row_in (map (row_of h) ns) s ≡ option_map (row_of h) (node_at ns s)
  found_row s [] = refl
  found_row s (n ∷ ns) = step (n.serial == s) (found_row s ns)
    where
      step : (t : Bool) → row_in (map (row_of h) ns) s ≡ option_map (row_of h) (node_at ns s) → cond t (Some (row_of h n)) (row_in (map (row_of h) ns) s) ≡ option_map (row_of h) (cond t (Some n) (node_at ns s))
      step true rest = refl
      step false rest = rest

  items_kept : (now : ℤ) (e : Node) (side : Edge) (is : List Item) → flat_map times_of (map (instances_of h e side) is) ≡ flat_map (item_times h (λ _. None) now e side) is
  items_kept now e side [] = refl
  items_kept now e side (i ∷ is) =
      ap (λ ts. ts ++ flat_map times_of (map (instances_of h e side) is)) (sym (kept-times h now e side i))
      ∙ ap (λ ts. item_times h (λ _. None) now e side i ++ ts) (items_kept now e side is)

  -- the row of an element has its instance times
  pub own_begins : (now : ℤ) (e : Node) → begins_of (row_of h e).begins ≡ settled_begins h now e
  own_begins now e = ap (λ ts. rising (numbers ts)) (items_kept now e Begin (begin_list h.nodes e))

  pub own_ends : (now : ℤ) (e : Node) → ends_of (row_of h e).ends ≡ settled_ends h now e
  own_ends now e = ap rising_times (items_kept now e End (end_list e))

  pub rows_tell : (now : ℤ) (e : Node) → node_at (elements h.nodes) e.serial ≡ Some e → RowsTell h now e
  rows_tell now e here = record {
    begins =
        ap (λ (o : Option ElementTimes). option_map_or (λ (r : ElementTimes). begins_of r.begins) o []) (found_row e.serial (elements h.nodes) ∙ ap (option_map (row_of h)) here)
        ∙ own_begins now e;
    ends =
        ap (λ (o : Option ElementTimes). option_map_or (λ (r : ElementTimes). ends_of r.ends) o []) (found_row e.serial (elements h.nodes) ∙ ap (option_map (row_of h)) here)
        ∙ own_ends now e;
  }
