-- What the rows tell of an element.
use Rattle.std.proofs.Common.{◌≡◌, refl, sym, ◌∙◌, ap, ℕ, [], Option, Some, None, map}
use Rattle.std.specs.Prelude.{ℤ, ◌==◌}
use Rattle.std.specs.Option.{option_map_or}
use Rattle.std.proofs.lemmas.Bool.{eqb-true}
use Rattle.smil_model.specs.declared.times.Time.TheVariants.{At}
use Rattle.smil_model.specs.declared.document.Node.{Node}
use Rattle.smil_model.specs.declared.document.Edge.{Edge}
use Rattle.smil_model.specs.declared.document.Edge.TheVariants.{Begin, End}
use Rattle.smil_model.specs.document.Document.{elements, node_at}
use Rattle.smil_model.specs.diary.Diary.{History}
use Rattle.smil_model.specs.interval.Instances.{settled_begins, settled_ends}
use Rattle.smil_laws.proofs.AsideDocuments.{find_true}
use Rattle.smil_instance_rows.specs.Readings.{begins_in, ends_in, row_in, row_times, times_in}
use Rattle.smil_instances.proofs.EmptyRows.{mapped_at}
use Rattle.smil_instances.specs.Laws.{RowsTell, RowsTellInstances}
use Rattle.smil_instance_rows.specs.Changes.{no_row, row_at}
use Rattle.smil_instance_rows.specs.Values.{begins_of}
use Rattle.smil_instance_rows.specs.Rows.{ElementTimes}
use Rattle.smil_instances.specs.SettledTimes.{row_of, settled_rows}
use Rattle.smil_instances.specs.Instances.{IsElementAt, IsElementOf, SettledInstances, settled_times}

-- the row of the element at an index
pub row_there : (value : SettledInstances) (index : ℕ) (h : History) (e : Node) → IsElementAt value index h e → row_at value.rows index ≡ row_of h e
row_there value index h e is = mapped_at (row_of h) (elements h.nodes) value.rows index e no_row is.rows is.here

begin_times : (o : Option ElementTimes) → option_map_or (λ (r : ElementTimes). row_times r Begin) o [] ≡ map At (option_map_or (λ (r : ElementTimes). begins_of r.begins) o [])
begin_times None = refl
begin_times (Some r) = refl

module _ (value : SettledInstances) (h : History) (now : ℤ) (who : ℕ) (e : Node) (law : RowsTellInstances) (is : IsElementOf value who h e) where
  same : e.serial ≡ who
  same = eqb-true e.serial who (find_true (λ (m : Node). m.serial == who) (elements h.nodes) e is.known)

  tell : RowsTell h now e
  tell = law h now e (ap (node_at (elements h.nodes)) same ∙ is.known)

  pub begins_told : begins_in value.rows who ≡ settled_begins h now e
  begins_told = ap (λ rows. begins_in rows who) is.rows ∙ ap (begins_in (settled_rows h)) (sym same) ∙ tell.begins

  pub ends_told : ends_in value.rows who ≡ settled_ends h now e
  ends_told = ap (λ rows. ends_in rows who) is.rows ∙ ap (ends_in (settled_rows h)) (sym same) ∙ tell.ends

  pub times_told : (side : Edge) → times_in value.rows who side ≡ settled_times h now e side
  times_told Begin = begin_times (row_in value.rows who) ∙ ap (map At) begins_told
  times_told End = ends_told
