-- The reaches of a document of two branches, and where nodes are inserted and removed in it.
use Rattle.std.specs.Prelude.{◌≡◌, pos, List, [], ◌∷◌, Some}
use Rattle.smil_model.specs.declared.document.Node.{Node}
use Rattle.smil_model.specs.declared.document.Kind.TheVariants.{Par, Img}
use Rattle.smil_model.specs.declared.document.Item.TheVariants.{Offset}
use Rattle.smil_model.specs.declared.document.Dur.TheVariants.{Clock}
use Rattle.smil_model.specs.document.Document.{Document, serials}
use Rattle.smil_model.specs.document.Edits.{node_inserted, node_removed, no_attrs}
use Rattle.smil_model.specs.reach.Reach.{down}
use Rattle.smil_laws.specs.Image.{node}

abbrev pub branches : List Node
branches =
    node 1 Par 0 (record no_attrs { dur = Some (Clock (pos 60)) })
    ∷ node 2 Par 1 (record no_attrs { dur = Some (Clock (pos 50)) })
    ∷ node 3 Img 2
    (record no_attrs { begin = Some (Offset (pos 1) ∷ []); dur = Some (Clock (pos 2)) })
    ∷ node 4 Par 1 (record no_attrs { dur = Some (Clock (pos 50)) })
    ∷ node 5 Img 4
    (record no_attrs { begin = Some (Offset (pos 5) ∷ []); dur = Some (Clock (pos 2)) })
    ∷ []

abbrev pub document : Document
document = record { nodes = branches; next = 6 }

-- the root reaches all, a branch the root and what it holds, an image its branch
pub record Reaches : Type 0 where
  pub root : down branches 1 ≡ 1 ∷ 2 ∷ 3 ∷ 4 ∷ 5 ∷ []
  pub branch : down branches 2 ≡ 1 ∷ 2 ∷ 3 ∷ []
  pub image : down branches 3 ≡ 2 ∷ 3 ∷ []

-- a child is inserted before the child at its place, or behind the last descendant;
-- a removed node takes its descendants
pub record Edits : Type 0 where
  pub between : serials (node_inserted document 1 2 Img no_attrs).nodes ≡ 1 ∷ 2 ∷ 3 ∷ 6 ∷ 4 ∷ 5 ∷ []
  pub behind : serials (node_inserted document 2 2 Img no_attrs).nodes ≡ 1 ∷ 2 ∷ 3 ∷ 6 ∷ 4 ∷ 5 ∷ []
  pub removed : serials (node_removed document 2).nodes ≡ 1 ∷ 4 ∷ 5 ∷ []
