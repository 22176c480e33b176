-- A par with one image. One millisecond stands for one second.
use Rattle.std.specs.Prelude.{◌≡◌, pos, [], ◌∷◌, Some, codes}
use Rattle.smil_model.specs.declared.document.Kind.TheVariants.{Par, Img}
use Rattle.smil_model.specs.declared.document.Item.TheVariants.{Offset}
use Rattle.smil_model.specs.declared.document.Dur.TheVariants as dur
use Rattle.smil_worked.specs.Rows.{Waiting, Active, Frozen, Done, Document, no_attrs, changes_through, node, unheard, first_views, at, view}

abbrev pub document : Document
document = record {
  nodes = node 1 Par 0 no_attrs
      ∷ node 2 Img 1 (record no_attrs {
        id = Some (codes "a");
        begin = Some (Offset (pos 1) ∷ []);
        dur = Some (dur.Clock (pos 2));
      })
      ∷ [];
  next = 3;
}

pub record OneImage : Type 0 where
  pub step_1 : first_views document ≡ view 1 Active (at 0) (at 3) 0 0
      ∷ view 2 Waiting (at 1) (at 3) 0 0 ∷ []
  pub step_2 : changes_through (unheard document 0) 5 ≡ (1, view 2 Active (at 1) (at 3) 0 0)
      ∷ (3, view 1 Frozen (at 0) (at 3) 0 1)
      ∷ (3, view 2 Done (at 1) (at 3) 0 1) ∷ []
