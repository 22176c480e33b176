-- A repeat of the parent forgets the events that its children heard.
-- One millisecond stands for one second.
use Rattle.std.specs.Prelude.{◌≡◌, pos, [], ◌∷◌, Some, codes}
use Rattle.smil_model.specs.declared.document.Kind.TheVariants.{Par, Img, Text}
use Rattle.smil_model.specs.declared.document.Item.TheVariants.{Event}
use Rattle.smil_model.specs.declared.document.Dur.TheVariants as dur
use Rattle.smil_model.specs.declared.document.Count.TheVariants as count
use Rattle.smil_model.specs.declared.view.Shown.TheVariants as shown
use Rattle.smil_worked.specs.Rows.{Idle, Active, Document, no_attrs, views_of, changed, changes_through, node, unheard, clicked, first_views, at, view}

abbrev pub document : Document
document = record {
  nodes = node 1 Par 0 (record no_attrs {
    id = Some (codes "p");
    dur = Some (dur.Clock (pos 10));
    repeat_count = Some (count.Thousandths 2000);
  })
      ∷ node 2 Text 1 (record no_attrs {
        id = Some (codes "a");
        begin = Some
            (Event (Some (codes "k")) (codes "click") (pos 0) ∷ []);
        dur = Some dur.Indefinite;
      })
      ∷ node 3 Img 1 (record no_attrs { id = Some (codes "k"); dur = Some dur.Indefinite })
      ∷ [];
  next = 4;
}

pub record ForgottenEvent : Type 0 where
  pub step_1 : first_views document ≡ view 1 Active (at 0) (at 20) 0 0
      ∷ view 3 Active (at 0) shown.Indefinite 0 0 ∷ []
  pub step_2 : changes_through (unheard document 0) 3 ≡ []
  pub step_3 : changed (views_of (unheard document 3)) (views_of (clicked document 3 3 3))
      ≡ view 2 Active (at 3) shown.Indefinite 0 0 ∷ []
  pub step_4 : changes_through (clicked document 3 3 3) 8
      ≡ (10, view 1 Active (at 0) (at 20) 1 0)
      ∷ (10, view 2 Idle shown.Nothing shown.Nothing 0 0)
      ∷ (10, view 3 Active (at 10) shown.Indefinite 0 0) ∷ []
