-- A fraction of a repeat, and a repeat that ties with the end.
-- One millisecond stands for one second.
use Rattle.std.specs.Prelude.{◌≡◌, pos, [], ◌∷◌, Some, codes}
use Rattle.smil_model.specs.declared.document.Kind.TheVariants.{Par, Audio}
use Rattle.smil_model.specs.declared.document.Dur.TheVariants as dur
use Rattle.smil_model.specs.declared.document.Count.TheVariants as count
use Rattle.smil_worked.specs.Rows.{Active, Done, Document, no_attrs, changes_through, node, unheard, first_views, at, view}

abbrev pub document : Document
document = record {
  nodes = node 1 Par 0 no_attrs
      ∷ node 2 Audio 1 (record no_attrs {
        id = Some (codes "a");
        dur = Some (dur.Clock (pos 4));
        repeat_count = Some (count.Thousandths 2500);
      })
      ∷ node 3 Audio 1 (record no_attrs {
        id = Some (codes "b");
        dur = Some (dur.Clock (pos 4));
        repeat_count = Some (count.Thousandths 2000);
      })
      ∷ [];
  next = 4;
}

pub record FractionOfRepeat : Type 0 where
  pub step_1 : first_views document ≡ view 1 Active (at 0) (at 10) 0 0
      ∷ view 2 Active (at 0) (at 10) 0 0
      ∷ view 3 Active (at 0) (at 8) 0 0 ∷ []
  pub step_2 : changes_through (unheard document 0) 9
      ≡ (4, view 2 Active (at 0) (at 10) 1 0)
      ∷ (4, view 3 Active (at 0) (at 8) 1 0)
      ∷ (8, view 2 Active (at 0) (at 10) 2 0)
      ∷ (8, view 3 Done (at 0) (at 8) 1 1) ∷ []
