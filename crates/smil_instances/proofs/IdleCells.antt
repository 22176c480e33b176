-- An item for which nothing is kept has nothing to lose.
use Rattle.std.proofs.Common.{◌≡◌, refl, sym, ◌∙◌, ap, ℕ, List, [], Option, Some, None}
use Rattle.std.specs.Prelude.{slice_get}
use Rattle.smil_model.specs.declared.document.Node.{Node}
use Rattle.smil_model.specs.document.Document.{elements}
use Rattle.smil_model.specs.diary.Diary.{History}
use Rattle.smil_instance_rows.specs.declared.cell.Cell.{Cell}
use Rattle.smil_instance_rows.specs.Rows.{ElementTimes}
use Rattle.smil_instance_rows.specs.Changes.{cell_of, with_cell}
use Rattle.smil_instance_rows.proofs.Noted.{cell_stays}
use Rattle.smil_instances.specs.declared.source.Source.{Source}
use Rattle.smil_instances.specs.declared.source.Source.TheVariants as source
use Rattle.smil_instances.specs.Sources.{source_at}
use Rattle.smil_instances.specs.Updates.{remaining}
use Rattle.smil_instances.specs.Intake.{remaining_at, remaining_under, with_remainder}

none_left : (h : History) (e : ℕ) (s : Source) → remaining h e s [] ≡ []
none_left h e source.Start = refl
none_left h e (source.Syncbase x edge) = refl
none_left h e (source.Eventbase x) = refl
none_left h e (source.Key key) = refl
none_left h e source.Nothing = refl

none_under : (h : History) (cell : Cell) (o : Option Node) → remaining_under h cell o [] ≡ []
none_under h cell None = refl
none_under h cell (Some e) = none_left h e.serial (source_at h.nodes cell)

pub idle_keeps_all : (h : History) (rows : List ElementTimes) (cell : Cell) → cell_of rows cell ≡ []
    → remaining_at h cell (cell_of rows cell) ≡ cell_of rows cell
idle_keeps_all h rows cell none =
    ap (remaining_at h cell) none
    ∙ none_under h cell (slice_get (elements h.nodes) cell.row)
    ∙ sym none

pub idle_stays : (h : History) (rows : List ElementTimes) (cell : Cell) → cell_of rows cell ≡ []
    → rows ≡ with_remainder h rows cell
idle_stays h rows cell none =
    sym (ap (with_cell rows cell) (idle_keeps_all h rows cell none) ∙ cell_stays rows cell)
