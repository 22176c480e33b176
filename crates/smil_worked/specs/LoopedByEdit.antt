-- An edit makes a reference looped, so that its times are gone.
-- One millisecond stands for one second.
use Rattle.std.specs.Prelude.{◌≡◌, pos, negsuc, [], ◌∷◌, Some, codes}
use Rattle.smil_model.specs.declared.document.Kind.TheVariants.{Par, Text}
use Rattle.smil_model.specs.declared.document.Item.TheVariants.{Sync}
use Rattle.smil_model.specs.declared.document.Edge.TheVariants.{End}
use Rattle.smil_model.specs.declared.document.Dur.TheVariants as dur
use Rattle.smil_model.specs.declared.view.Shown.TheVariants as shown
use Rattle.smil_model.specs.declared.document.Attrs.{Attrs}
use Rattle.smil_model.specs.declared.document.AttrName.TheVariants as name
use Rattle.smil_model.specs.document.Edits.{attr_unset}
use Rattle.smil_worked.specs.Rows.{Idle, Waiting, Active, Frozen, Document, no_attrs, views_of, changed, changes_through, node, unheard, first_views, at, view}

-- a par with these attributes, and in it a text that begins before the end of `p`
abbrev pub with_text : Attrs → Document
with_text attrs = record {
  nodes = node 1 Par 0 attrs
      ∷ node 2 Text 1 (record no_attrs {
        id = Some (codes "c");
        begin = Some (Sync (codes "p") End (negsuc 1) ∷ []);
        dur = Some (dur.Clock (pos 1));
      })
      ∷ [];
  next = 3;
}

abbrev pub document : Document
document = with_text (record no_attrs { id = Some (codes "p"); dur = Some (dur.Clock (pos 10)) })

abbrev pub document_2 : Document
document_2 = with_text (record no_attrs { id = Some (codes "p") })

pub record LoopedByEdit : Type 0 where
  pub step_1 : first_views document ≡ view 1 Active (at 0) (at 10) 0 0
      ∷ view 2 Waiting (at 8) (at 9) 0 0 ∷ []
  pub step_2 : changes_through (unheard document 0) 5 ≡ []
  pub unset : attr_unset document 1 name.Dur ≡ document_2
  pub step_3 : changed (views_of (unheard document 5)) (views_of (unheard document_2 5))
      ≡ view 1 Frozen (at 0) (at 0) 0 1
      ∷ view 2 Idle shown.Nothing shown.Nothing 0 0 ∷ []
