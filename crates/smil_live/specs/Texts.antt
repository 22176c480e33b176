-- The document of a presentation, whose plain texts may be others than those of the document that
-- its cells were made of.
use Rattle.std.specs.Prelude.{List, ◌≡◌, Option, Some, None}
use Rattle.smil_model.specs.declared.document.Node.{Node}
use Rattle.smil_model.specs.declared.view.View.{View}
use Rattle.smil_model.specs.document.Document.{Document, node_at}
use Rattle.smil_model.specs.document.Valid.{IsValid}
use Rattle.smil_text_laws.specs.PlainTexts.{DifferInTexts}
use Rattle.smil_cells.specs.CellsState.{CellsState}
use Rattle.smil_shown.specs.ShownViews.{IsPlaying}
use Rattle.smil_live.specs.declared.edits.Site.{Site}
use Rattle.smil_live.specs.declared.edits.Site.TheVariants as site

-- the document: that of the cells, unless its plain texts were edited since
abbrev pub current : Document → Option Document → Document
current made None = made
current made (Some edited) = edited

-- cells play a valid document that is theirs but for plain texts
pub record IsPlayed (s : CellsState) (shown : List View) (document : Document) : Type 0 where
  pub playing : IsPlaying s shown
  pub valid : IsValid document
  pub differ : DifferInTexts s.presentation.document.nodes document.nodes

-- the node of a site is there behind an edit too, with the same attributes but for plain texts
abbrev pub AgreeButForTexts : Document → Document → Site → Type 0
AgreeButForTexts before after (site.Old serial) =
    (old : Node) × (new : Node) × (node_at before.nodes serial ≡ Some old)
    × (node_at after.nodes serial ≡ Some new)
    × (new.attrs ≡ record old.attrs { texts = new.attrs.texts })
AgreeButForTexts before after site.New = ⊥
