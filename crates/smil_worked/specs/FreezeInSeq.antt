-- Freeze and hold in a seq. One millisecond stands for one second.
use Rattle.std.specs.Prelude.{◌≡◌, pos, [], ◌∷◌, Some, codes}
use Rattle.smil_model.specs.declared.document.Kind.TheVariants.{Seq, Img}
use Rattle.smil_model.specs.declared.document.Item.TheVariants.{Offset}
use Rattle.smil_model.specs.declared.document.Dur.TheVariants as dur
use Rattle.smil_model.specs.declared.document.Fill.TheVariants as fill
use Rattle.smil_worked.specs.Rows.{Waiting, Active, Frozen, Done, Document, no_attrs, changes_through, node, unheard, first_views, at, view}

abbrev pub document : Document
document = record {
  nodes = node 1 Seq 0 (record no_attrs { dur = Some (dur.Clock (pos 10)) })
      ∷ node 2 Img 1 (record no_attrs {
        id = Some (codes "a");
        dur = Some (dur.Clock (pos 2));
        fill = Some fill.Freeze;
      })
      ∷ node 3 Img 1 (record no_attrs {
        id = Some (codes "b");
        dur = Some (dur.Clock (pos 2));
        begin = Some (Offset (pos 1) ∷ []);
        fill = Some fill.Hold;
      })
      ∷ node 4 Img 1 (record no_attrs { id = Some (codes "c"); dur = Some (dur.Clock (pos 2)) })
      ∷ [];
  next = 5;
}

pub record FreezeInSeq : Type 0 where
  pub step_1 : first_views document ≡ view 1 Active (at 0) (at 10) 0 0
      ∷ view 2 Active (at 0) (at 2) 0 0
      ∷ view 3 Waiting (at 3) (at 5) 0 0
      ∷ view 4 Waiting (at 5) (at 7) 0 0 ∷ []
  pub step_2 : changes_through (unheard document 0) 12
      ≡ (2, view 2 Frozen (at 0) (at 2) 0 1)
      ∷ (3, view 2 Done (at 0) (at 2) 0 1)
      ∷ (3, view 3 Active (at 3) (at 5) 0 0)
      ∷ (5, view 3 Frozen (at 3) (at 5) 0 1)
      ∷ (5, view 4 Active (at 5) (at 7) 0 0)
      ∷ (7, view 4 Done (at 5) (at 7) 0 1)
      ∷ (10, view 1 Done (at 0) (at 10) 0 1)
      ∷ (10, view 3 Done (at 3) (at 5) 0 1) ∷ []
