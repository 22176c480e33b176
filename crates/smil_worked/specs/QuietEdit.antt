-- An edit that leaves references as they are: the begin of the image of a par is moved.
use Rattle.std.specs.Prelude.{ℕ, pos, List, [], ◌∷◌, codes}
use Rattle.smil_model.specs.declared.document.Attr.TheVariants.{Begin}
use Rattle.smil_model.specs.declared.document.Item.TheVariants.{Offset}
use Rattle.smil_model.specs.declared.document.Kind.TheVariants.{Par}
use Rattle.smil_model.specs.document.Document.{Document}
use Rattle.smil_laws.specs.Edited.{sets, IsQuietEdit}
use Rattle.smil_model.specs.document.Edits.{no_attrs}
use Rattle.smil_laws.specs.Image.{image, node}

abbrev pub name : List ℕ
name = codes "a"

abbrev pub with_image : Document
with_image = record { nodes = image 5 2 name; next = 3 }

abbrev pub QuietEdit : Type 0
QuietEdit = IsQuietEdit with_image (sets 2 (Begin (Offset (pos 7) ∷ []))) (node 1 Par 0 no_attrs)
