-- Two elements that begin at each other's ends take turns. One millisecond stands for one second.
use Rattle.std.specs.Prelude.{◌≡◌, pos, [], ◌∷◌, Some, codes}
use Rattle.smil_model.specs.declared.document.Kind.TheVariants.{Par, Audio}
use Rattle.smil_model.specs.declared.document.Item.TheVariants.{Offset, Sync}
use Rattle.smil_model.specs.declared.document.Edge.TheVariants.{End}
use Rattle.smil_model.specs.declared.document.Dur.TheVariants as dur
use Rattle.smil_worked.specs.Rows.{Active, Done, Document, no_attrs, changes_through, node, unheard, first_views, at, view}

abbrev pub document : Document
document = record {
  nodes = node 1 Par 0 (record no_attrs { dur = Some (dur.Clock (pos 60)) })
      ∷ node 2 Audio 1 (record no_attrs {
        id = Some (codes "a");
        begin = Some (Offset (pos 0)
            ∷ Sync (codes "b") End (pos 0) ∷ []);
        dur = Some (dur.Clock (pos 5));
      })
      ∷ node 3 Audio 1 (record no_attrs {
        id = Some (codes "b");
        begin = Some (Sync (codes "a") End (pos 0) ∷ []);
        dur = Some (dur.Clock (pos 3));
      })
      ∷ [];
  next = 4;
}

pub record PingPong : Type 0 where
  pub step_1 : first_views document ≡ view 1 Active (at 0) (at 60) 0 0
      ∷ view 2 Active (at 0) (at 5) 0 0 ∷ []
  pub step_2 : changes_through (unheard document 0) 20 ≡ (5, view 2 Done (at 0) (at 5) 0 1)
      ∷ (5, view 3 Active (at 5) (at 8) 0 0)
      ∷ (8, view 2 Active (at 8) (at 13) 0 1)
      ∷ (8, view 3 Done (at 5) (at 8) 0 1)
      ∷ (13, view 2 Done (at 8) (at 13) 0 2)
      ∷ (13, view 3 Active (at 13) (at 16) 0 1)
      ∷ (16, view 2 Active (at 16) (at 21) 0 2)
      ∷ (16, view 3 Done (at 13) (at 16) 0 2) ∷ []
