-- An element that begins at its own end plays once where its length is 0.
-- One millisecond stands for one second.
use Rattle.std.specs.Prelude.{◌≡◌, pos, [], ◌∷◌, Some, codes}
use Rattle.smil_model.specs.declared.document.Kind.TheVariants.{Par, Img}
use Rattle.smil_model.specs.declared.document.Item.TheVariants.{Offset, Sync}
use Rattle.smil_model.specs.declared.document.Edge.TheVariants.{End}
use Rattle.smil_model.specs.declared.document.Dur.TheVariants as dur
use Rattle.smil_worked.specs.Rows.{Active, Frozen, Document, no_attrs, node, first_views, at, view}

abbrev pub document : Document
document = record {
  nodes = node 1 Par 0 (record no_attrs { dur = Some (dur.Clock (pos 1)) })
      ∷ node 2 Img 1 (record no_attrs {
        id = Some (codes "a");
        begin = Some (Offset (pos 0) ∷ Sync (codes "a") End (pos 0) ∷ []);
      })
      ∷ [];
  next = 3;
}

pub record SelfReference : Type 0 where
  pub step_1 : first_views document ≡ view 1 Active (at 0) (at 1) 0 0
      ∷ view 2 Frozen (at 0) (at 0) 0 1 ∷ []
