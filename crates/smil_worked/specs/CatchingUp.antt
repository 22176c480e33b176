-- An element that began long before its parent is in its last iteration at once.
-- One millisecond stands for one second.
use Rattle.std.specs.Prelude.{◌≡◌, pos, negsuc, [], ◌∷◌, Some, codes}
use Rattle.smil_model.specs.declared.document.Kind.TheVariants.{Par, Audio}
use Rattle.smil_model.specs.declared.document.Item.TheVariants.{Offset}
use Rattle.smil_model.specs.declared.document.Dur.TheVariants as dur
use Rattle.smil_model.specs.declared.document.Count.TheVariants as count
use Rattle.smil_model.specs.declared.view.Shown.TheVariants as shown
use Rattle.smil_worked.specs.Rows.{Active, Document, no_attrs, node, first_views, at, view}

abbrev pub document : Document
document = record {
  nodes = node 1 Par 0 no_attrs
      ∷ node 2 Audio 1
      (record no_attrs {
        id = Some (codes "a");
        begin = Some (Offset (negsuc 24) ∷ []);
        dur = Some (dur.Clock (pos 10));
        repeat_count = Some (count.Thousandths 3000);
      })
      ∷ [];
  next = 3;
}

pub record CatchingUp : Type 0 where
  pub step_1 : first_views document ≡ view 1 Active (at 0) (at 5) 0 0
      ∷ view 2 Active (shown.At (negsuc 24)) (at 5) 2 0 ∷ []
