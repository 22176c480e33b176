-- A begin that leads its base moves into the past when the base ends early.
-- One millisecond stands for one second.
use Rattle.std.specs.Prelude.{◌≡◌, pos, negsuc, [], ◌∷◌, Some, None, Ok, codes}
use Rattle.smil_model.specs.declared.document.Kind.TheVariants.{Par, Text, Video}
use Rattle.smil_model.specs.declared.document.Item.TheVariants.{Sync, Event}
use Rattle.smil_model.specs.declared.document.Edge.TheVariants.{End}
use Rattle.smil_model.specs.declared.document.Dur.TheVariants as dur
use Rattle.smil_model.specs.declared.diary.Happening.TheVariants as happening
use Rattle.smil_model.specs.document.Limits.{limits}
use Rattle.smil_model.specs.shown.Orders.{with_logged}
use Rattle.smil_worked.specs.Rows.{Waiting, Active, Done, Document, no_attrs, views_of, changed, changes_through, node, unheard, clicked, first_views, at, view}

abbrev pub document : Document
document = record {
  nodes = node 1 Par 0 no_attrs
      ∷ node 2 Video 1 (record no_attrs {
        id = Some (codes "b");
        dur = Some (dur.Clock (pos 10));
        «end» = Some (Event None (codes "click") (pos 0) ∷ []);
      })
      ∷ node 3 Text 1 (record no_attrs {
        id = Some (codes "c");
        begin = Some (Sync (codes "b") End (negsuc 1) ∷ []);
        dur = Some (dur.Clock (pos 5));
      })
      ∷ [];
  next = 4;
}

pub record ForeseenBegin : Type 0 where
  pub step_1 : first_views document ≡ view 1 Active (at 0) (at 13) 0 0
      ∷ view 2 Active (at 0) (at 10) 0 0
      ∷ view 3 Waiting (at 8) (at 13) 0 0 ∷ []
  pub step_2 : changes_through (unheard document 0) 4 ≡ []
  pub click : with_logged limits (unheard document 4) (happening.Event 2 (codes "click"))
      ≡ Ok (clicked document 2 4 4)
  pub step_3 : changed (views_of (unheard document 4)) (views_of (clicked document 2 4 4))
      ≡ view 1 Active (at 0) (at 7) 0 0
      ∷ view 2 Done (at 0) (at 4) 0 1
      ∷ view 3 Active (at 2) (at 7) 0 0 ∷ []
