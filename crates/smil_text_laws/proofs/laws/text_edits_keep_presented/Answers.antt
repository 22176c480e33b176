use Rattle.smil_model.specs.declared.document.Attr.TheVariants as attr
use Rattle.smil_model.specs.declared.document.AttrName.TheVariants as name
use Rattle.smil_model.specs.document.Edits.{attr_set, attr_unset}
use Rattle.smil_text_laws.proofs.BarePresentations.{presented_same, set_differs, unset_differs}
use Rattle.smil_text_laws.proofs.laws.text_edits_keep_presented.Goals as goal

pub returns : goal.returns
returns c =
    λ p serial given text. record {
      set = presented_same p (attr_set p.document serial (attr.Text given text)) (set_differs p.document serial given text);
      unset = presented_same p (attr_unset p.document serial (name.Text given)) (unset_differs p.document serial given);
    }
