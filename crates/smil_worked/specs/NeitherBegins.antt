-- Two elements that each wait for the begin of the other never begin.
-- One millisecond stands for one second.
use Rattle.std.specs.Prelude.{◌≡◌, pos, [], ◌∷◌, Some, codes}
use Rattle.smil_model.specs.declared.document.Kind.TheVariants.{Par, Img}
use Rattle.smil_model.specs.declared.document.Item.TheVariants.{Sync}
use Rattle.smil_model.specs.declared.document.Edge.TheVariants.{Begin}
use Rattle.smil_model.specs.declared.document.Dur.TheVariants as dur
use Rattle.smil_worked.specs.Rows.{Active, Done, Document, no_attrs, changes_through, node, unheard, first_views, at, view}

abbrev pub document : Document
document = record {
  nodes = node 1 Par 0 (record no_attrs { id = Some (codes "p"); dur = Some (dur.Clock (pos 10)) })
      ∷ node 2 Img 1 (record no_attrs {
        id = Some (codes "a");
        begin = Some (Sync (codes "b") Begin (pos 1) ∷ []);
        dur = Some (dur.Clock (pos 1));
      })
      ∷ node 3 Img 1 (record no_attrs {
        id = Some (codes "b");
        begin = Some (Sync (codes "a") Begin (pos 1) ∷ []);
        dur = Some (dur.Clock (pos 1));
      })
      ∷ [];
  next = 4;
}

pub record NeitherBegins : Type 0 where
  pub step_1 : first_views document ≡ view 1 Active (at 0) (at 10) 0 0 ∷ []
  pub step_2 : changes_through (unheard document 0) 10
      ≡ (10, view 1 Done (at 0) (at 10) 0 1) ∷ []
