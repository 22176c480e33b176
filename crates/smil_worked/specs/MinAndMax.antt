-- Where `max` is less than `min` both are absent; `min` prolongs an early end.
-- One millisecond stands for one second.
use Rattle.std.specs.Prelude.{◌≡◌, pos, [], ◌∷◌, Some, codes}
use Rattle.smil_model.specs.declared.times.Time.TheVariants as time
use Rattle.smil_model.specs.declared.document.Kind.TheVariants.{Par, Audio}
use Rattle.smil_model.specs.declared.document.Item.TheVariants.{Offset}
use Rattle.smil_model.specs.declared.document.Dur.TheVariants as dur
use Rattle.smil_worked.specs.Rows.{Active, Document, no_attrs, node, first_views, at, view}

abbrev pub document : Document
document = record {
  nodes = node 1 Par 0 no_attrs
      ∷ node 2 Audio 1 (record no_attrs {
        id = Some (codes "a");
        dur = Some (dur.Clock (pos 6));
        min = Some (pos 8);
        max = Some (time.At (pos 5));
      })
      ∷ node 3 Audio 1 (record no_attrs {
        id = Some (codes "b");
        dur = Some (dur.Clock (pos 10));
        min = Some (pos 5);
        «end» = Some (Offset (pos 3) ∷ []);
      })
      ∷ [];
  next = 4;
}

pub record MinAndMax : Type 0 where
  pub step_1 : first_views document ≡ view 1 Active (at 0) (at 6) 0 0
      ∷ view 2 Active (at 0) (at 6) 0 0
      ∷ view 3 Active (at 0) (at 5) 0 0 ∷ []
