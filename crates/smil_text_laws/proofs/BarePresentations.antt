-- Presentations whose documents differ in plain texts alone, and edits of these.
use Rattle.std.proofs.Common.{◌≡◌, refl, sym, ◌∙◌, ap, ℕ, List, Bool, true, false}
use Rattle.std.specs.Prelude.{cond, ◌==◌, pos}
use Rattle.smil_model.specs.declared.diary.Entry.{Entry}
use Rattle.smil_model.specs.declared.document.Node.{Node}
use Rattle.smil_model.specs.declared.document.Attrs.{Attrs}
use Rattle.smil_model.specs.declared.document.Attr.TheVariants as attr
use Rattle.smil_model.specs.declared.document.AttrName.TheVariants as name
use Rattle.smil_model.specs.declared.texts.TextName.{TextName}
use Rattle.smil_model.specs.document.Document.{Document}
use Rattle.smil_model.specs.document.Edits.{with_attr, without_attr, changed_at, attr_set, attr_unset}
use Rattle.smil_model.specs.happening.Resolution.{Course, Progress, resolved, diary_within}
use Rattle.smil_model.specs.shown.Views.{views}
use Rattle.smil_model.specs.shown.Orders.{Presentation}
use Rattle.smil_laws.specs.Agreement.{course_on}
use Rattle.smil_text_laws.specs.PlainTexts.{without_texts, bare, DifferInTexts, history_in, with_document, IsPresentedSame}
use Rattle.smil_text_laws.proofs.BareLists.{map_mapped}
use Rattle.smil_text_laws.proofs.BareHappenings.{resolved_same, diary_same}
use Rattle.smil_text_laws.proofs.BareViews.{views_same}
use Rattle.smil_text_laws.proofs.BareSame.{same_of}

module _ (p : Presentation) (document : Document) (differ : DifferInTexts p.document.nodes document.nodes) where
  abbrev course : List Node → Course
  course ns = course_on ns p.log p.now

  abbrev diary : List Node → List Entry
  diary ns = (resolved (course ns)).diary

  diary_bare : (ns : List Node) → diary (bare ns) ≡ diary ns
  diary_bare ns = ap (λ (at : Progress). at.diary) (resolved_same (course ns))

  views_bare : (ns : List Node) → views (history_in (bare ns) p.log (diary (bare ns))) (pos p.now) ≡ views (history_in ns p.log (diary ns)) (pos p.now)
  views_bare ns =
      ap (λ entries. views (history_in (bare ns) p.log entries) (pos p.now)) (diary_bare ns)
      ∙ views_same (history_in ns p.log (diary ns)) (pos p.now)

  pub presented_same : IsPresentedSame p (with_document p document)
  presented_same = record {
    diary = same_of diary diary_bare p.document.nodes document.nodes differ;
    full = λ entries. same_of (λ ns. diary_within entries (course ns)) (λ ns. diary_same (course ns) entries) p.document.nodes document.nodes differ;
    views = same_of (λ ns. views (history_in ns p.log (diary ns)) (pos p.now)) views_bare p.document.nodes document.nodes differ;
  }

-- ---- edits

-- a change of plain texts alone
changed_differs : (change : Attrs → Attrs) → ((n : Node) → without_texts (record n { attrs = change n.attrs }) ≡ without_texts n) → (s : ℕ) (ns : List Node) → DifferInTexts ns (changed_at change s ns)
changed_differs change same s ns = sym (map_mapped (λ (n : Node). cond (n.serial == s) (record n { attrs = change n.attrs }) n) without_texts without_texts (λ n. by_test n (n.serial == s)) ns)
  where
    by_test : (n : Node) (t : Bool) → without_texts (cond t (record n { attrs = change n.attrs }) n) ≡ without_texts n
    by_test n true = same n
    by_test n false = refl

pub set_differs : (document : Document) (s : ℕ) (given : TextName) (text : List ℕ) → DifferInTexts document.nodes (attr_set document s (attr.Text given text)).nodes
set_differs document s given text = changed_differs (λ attrs. with_attr attrs (attr.Text given text)) (λ n. refl) s document.nodes

pub unset_differs : (document : Document) (s : ℕ) (given : TextName) → DifferInTexts document.nodes (attr_unset document s (name.Text given)).nodes
unset_differs document s given = changed_differs (λ attrs. without_attr attrs (name.Text given)) (λ n. refl) s document.nodes
