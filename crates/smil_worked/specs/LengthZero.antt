-- Elements of length 0: they begin and end at one moment, containers after their children.
-- One millisecond stands for one second.
use Rattle.std.specs.Prelude.{◌≡◌, [], ◌∷◌, Some, codes}
use Rattle.smil_model.specs.declared.document.Kind.TheVariants.{Par, Img}
use Rattle.smil_worked.specs.Rows.{Frozen, Document, no_attrs, node, first_views, at, view}

abbrev pub document : Document
document = record {
  nodes = node 1 Par 0 no_attrs
      ∷ node 2 Par 1 (record no_attrs { id = Some (codes "e") })
      ∷ node 3 Img 1 (record no_attrs { id = Some (codes "i") })
      ∷ [];
  next = 4;
}

pub record LengthZero : Type 0 where
  pub step_1 : first_views document ≡ view 1 Frozen (at 0) (at 0) 0 1
      ∷ view 2 Frozen (at 0) (at 0) 0 1
      ∷ view 3 Frozen (at 0) (at 0) 0 1 ∷ []
