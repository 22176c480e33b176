-- The edit that an order makes, and where it takes place.
use Rattle.std.proofs.Common.{◌≡◌, refl, sym, ◌∙◌, ap, subst, ℕ, suc, List, Option, Some, None, Bool, true, false, Result, Ok, Err}
use Rattle.std.specs.Prelude.{nat_lt, nat_le, length, ◌||◌, ◌==◌}
use Rattle.smil_model.specs.declared.document.Attr.{Attr}
use Rattle.smil_model.specs.declared.document.Attr.TheVariants as attr
use Rattle.smil_model.specs.declared.document.AttrName.{AttrName}
use Rattle.smil_model.specs.declared.document.AttrName.TheVariants as attr_name
use Rattle.smil_model.specs.declared.document.Attrs.{Attrs}
use Rattle.smil_model.specs.declared.document.Kind.{Kind}
use Rattle.smil_model.specs.declared.document.Node.{Node}
use Rattle.smil_model.specs.declared.limits.TheConstants.{SERIALS}
use Rattle.smil_model.specs.declared.order.Order.{Order}
use Rattle.smil_model.specs.declared.order.Order.TheVariants as order
use Rattle.smil_model.specs.declared.order.Refusal.{Refusal}
use Rattle.smil_model.specs.declared.order.Refusal.TheVariants.{DuplicateId, Root, TooManyElements, TooManyReferences}
use Rattle.smil_model.specs.declared.order.Who.{Who}
use Rattle.smil_model.specs.declared.texts.TextName.{TextName}
use Rattle.smil_model.specs.document.Document.{Document, node_at}
use Rattle.smil_model.specs.document.Edits.{attr_set, attr_unset, changed_at, node_inserted, node_removed, with_attr, without_attr}
use Rattle.smil_model.specs.document.Limits.{limits}
use Rattle.smil_model.specs.document.Valid.{IsNumberedTree, is_id_taken, kind_of, references}
use Rattle.smil_model.specs.shown.Orders.{Presentation, and_then, attr_set_by, attr_unset_by, found, id_in, insert_checked, may_insert, node_inserted_by, node_of, node_removed_from, set_checked, unless}
use Rattle.smil_grammar.specs.Formats.{formats}
use Rattle.smil_laws.specs.Edited.{inserts, removes, sets, unsets}
use Rattle.smil_tree.specs.Places.{with_attrs}
use Rattle.smil_live.specs.Counts.{edits_text, is_text, is_text_name, serial_or_0}
use Rattle.smil_live.specs.Editing.{edit_of}
use Rattle.smil_live.specs.Sites.{IsMade, site_next, site_of}
use Rattle.smil_live.specs.Telling.{is_edit}
use Rattle.smil_live.specs.Texts.{AgreeButForTexts}
use Rattle.smil_live.specs.declared.edits.Site.{Site}
use Rattle.smil_live.specs.declared.edits.Site.TheVariants as site
use Rattle.smil_live.proofs.OrderOutcomes.{known}
use Rattle.smil_live.proofs.UnchangedDocuments.{changed_node}

-- ---- what was not refused

record Goes {A B : Type 0} (r : Result A Refusal) (next : A → Result B Refusal) (y : B) : Type 0 where
  made : A
  is : r ≡ Ok made
  then : next made ≡ Ok y

goes : {A B : Type 0} (r : Result A Refusal) (next : A → Result B Refusal) (y : B) → and_then r next ≡ Ok y → Goes r next y
goes (Ok x) next y e = record { made = x; is = refl; then = e }
goes (Err refusal) next y e = cc

not_refused : {A : Type 0} (t : Bool) (refusal : Refusal) (x y : A) → unless t refusal x ≡ Ok y → x ≡ y
not_refused true refusal x y e = cc
not_refused false refusal x y e = cc

of_ok : (x y : Document) → ◌≡◌ {A = Result Document Refusal} (Ok x) (Ok y) → x ≡ y
of_ok x y e = cc

is_found : (o : Option Node) (n : Node) → found o ≡ Ok n → o ≡ Some n
is_found None n e = cc
is_found (Some m) n e = let one : m ≡ n = cc in ap Some one

serial_is : (o : Option Node) (n : Node) → found o ≡ Ok n → n.serial ≡ serial_or_0 o
serial_is o n e = sym (ap serial_or_0 (is_found o n e))

-- ---- one edit after another

checked : (d : Document) (n : Node) (given : Attr) (after : Document) → set_checked limits d n given ≡ Ok after → attr_set d n.serial given ≡ after
checked d n given after e =
    let first = goes (unless (is_id_taken d.nodes n.serial (id_in given)) DuplicateId (attr_set d n.serial given)) (λ (x : Document). unless (nat_lt limits.references (references x.nodes)) TooManyReferences x) after e in
    not_refused (is_id_taken d.nodes n.serial (id_in given)) DuplicateId (attr_set d n.serial given) first.made first.is
    ∙ not_refused (nat_lt limits.references (references first.made.nodes)) TooManyReferences first.made after first.then

room : (d : Document) (under place : ℕ) (kind : Kind) (attrs : Attrs) (after : Document) → insert_checked limits d under place kind attrs ≡ Ok after → node_inserted d under place kind attrs ≡ after
room d under place kind attrs after e =
    let first = goes (unless (is_id_taken d.nodes d.next attrs.id) DuplicateId (node_inserted d under place kind attrs)) (λ (x : Document). and_then (unless (nat_lt limits.nodes (length x.nodes) || nat_le SERIALS d.next) TooManyElements x) (λ (y : Document). unless (nat_lt limits.references (references y.nodes)) TooManyReferences y)) after e in
    let second = goes (unless (nat_lt limits.nodes (length first.made.nodes) || nat_le SERIALS d.next) TooManyElements first.made) (λ (y : Document). unless (nat_lt limits.references (references y.nodes)) TooManyReferences y) after first.then in
    not_refused (is_id_taken d.nodes d.next attrs.id) DuplicateId (node_inserted d under place kind attrs) first.made first.is
    ∙ (not_refused (nat_lt limits.nodes (length first.made.nodes) || nat_le SERIALS d.next) TooManyElements first.made second.made second.is
    ∙ not_refused (nat_lt limits.references (references second.made.nodes)) TooManyReferences second.made after second.then)

-- the edited document comes of an edit at the site of the order
pub edit_made : (p : Presentation) (o : Order) (d : Document) → is_edit o ≡ true → edit_of p o ≡ Ok d → IsMade p.document (site_of p.document o) d
edit_made p (order.Set who name value name_column column) d edits e =
    let at = goes (found (node_of p.document.nodes who)) (λ (n : Node). attr_set_by limits formats p.document n name value name_column column) d e in
    let set = goes (formats.read_attr at.made.kind (kind_of (node_at p.document.nodes at.made.parent)) name value name_column column) (set_checked limits p.document at.made) d at.then in
    record {
      edit = sets at.made.serial set.made;
      document_is = checked p.document at.made set.made d set.then;
      serial_is = serial_is (node_of p.document.nodes who) at.made at.is;
      nodes_are = refl;
      next_is = sym (ap (λ (x : Document). x.next) (checked p.document at.made set.made d set.then));
    }
edit_made p (order.Unset who name column) d edits e =
    let at = goes (found (node_of p.document.nodes who)) (λ (n : Node). attr_unset_by formats p.document n name column) d e in
    let unset = goes (formats.read_name at.made.kind name column) (λ (given : AttrName). Ok (attr_unset p.document at.made.serial given)) d at.then in
    let same : attr_unset p.document at.made.serial unset.made ≡ d = of_ok (attr_unset p.document at.made.serial unset.made) d unset.then in
    record {
      edit = unsets at.made.serial unset.made;
      document_is = same;
      serial_is = serial_is (node_of p.document.nodes who) at.made at.is;
      nodes_are = refl;
      next_is = sym (ap (λ (x : Document). x.next) same);
    }
edit_made p (order.Insert who place line column) d edits e =
    let at = goes (found (node_of p.document.nodes who)) (λ (n : Node). node_inserted_by limits formats p.document n place line column) d e in
    let kind = goes (and_then (formats.read_kind line column) (may_insert p.document at.made place)) (λ (k : Kind). and_then (formats.read_attrs at.made.kind line column) (insert_checked limits p.document at.made.serial place k)) d at.then in
    let attrs = goes (formats.read_attrs at.made.kind line column) (insert_checked limits p.document at.made.serial place kind.made) d kind.then in
    let same = room p.document at.made.serial place kind.made attrs.made d attrs.then in
    record {
      edit = inserts at.made.serial place kind.made attrs.made;
      document_is = same;
      serial_is = refl;
      nodes_are = ap (λ (x : Document). x.nodes) same;
      next_is = sym (ap (λ (x : Document). x.next) same);
    }
edit_made p (order.Remove who) d edits e =
    let at = goes (found (node_of p.document.nodes who)) (λ (n : Node). node_removed_from p.document n) d e in
    record {
      edit = removes at.made.serial;
      document_is = not_refused (at.made.parent == 0) Root (node_removed p.document at.made.serial) d at.then;
      serial_is = serial_is (node_of p.document.nodes who) at.made at.is;
      nodes_are = refl;
      next_is = sym (ap (λ (x : Document). x.next) (not_refused (at.made.parent == 0) Root (node_removed p.document at.made.serial) d at.then));
    }
edit_made p _ d edits e = absurd cc

-- the next serial after an insertion
pub new_next : (before after : Document) (at : Site) → at ≡ site.New → IsMade before at after → after.next ≡ suc before.next
new_next before after at is made = made.next_is ∙ ap (site_next before) is

-- ---- an edit of a plain text

text_of : (r : Result Attr Refusal) → is_text r ≡ true → (given : TextName) × (text : List ℕ) × (r ≡ Ok (attr.Text given text))
text_of (Ok (attr.Text given text)) e = (given, text, refl)
text_of (Ok _) e = absurd cc
text_of (Err refusal) e = absurd cc

text_name_of : (r : Result AttrName Refusal) → is_text_name r ≡ true → (given : TextName) × (r ≡ Ok (attr_name.Text given))
text_name_of (Ok (attr_name.Text given)) e = (given, refl)
text_name_of (Ok _) e = absurd cc
text_name_of (Err refusal) e = absurd cc

-- a node whose plain texts alone are changed
module _ (before : Document) (who : Who) (n : Node) (change : Attrs → Attrs) (numbered : IsNumberedTree before) (named : node_of before.nodes who ≡ Some n) (alone : change n.attrs ≡ record n.attrs { texts = (change n.attrs).texts }) where
  changed_agrees : (after : Document) → record before { nodes = changed_at change n.serial before.nodes } ≡ after → AgreeButForTexts before after (site.Old (serial_or_0 (node_of before.nodes who)))
  changed_agrees after is =
      let at = known before who n numbered named in
      subst (λ (o : Option Node). AgreeButForTexts before after (site.Old (serial_or_0 o))) (sym named)
      (subst (λ (x : Document). AgreeButForTexts before x (site.Old n.serial)) is
      (n, with_attrs change n, at, changed_node change n.serial before.nodes n at, alone))

-- the node that is edited then agrees with the old one but for plain texts
pub text_agrees : (p : Presentation) (o : Order) (d : Document) → IsNumberedTree p.document → edits_text p o ≡ true → edit_of p o ≡ Ok d → AgreeButForTexts p.document d (site_of p.document o)
text_agrees p (order.Set who name value name_column column) d numbered text e =
    let at = goes (found (node_of p.document.nodes who)) (λ (n : Node). attr_set_by limits formats p.document n name value name_column column) d e in
    let read = formats.read_attr at.made.kind (kind_of (node_at p.document.nodes at.made.parent)) name value name_column column in
    let here : is_text read ≡ true =
    ap (λ (r : Result Node Refusal). is_text (and_then r (λ (n : Node). formats.read_attr n.kind (kind_of (node_at p.document.nodes n.parent)) name value name_column column))) (sym at.is) ∙ text in
    let given = text_of read here in
    let set : set_checked limits p.document at.made (attr.Text given.0 given.1) ≡ Ok d = ap (λ (r : Result Attr Refusal). and_then r (set_checked limits p.document at.made)) (sym given.2) ∙ at.then in
    changed_agrees p.document who at.made (λ attrs. with_attr attrs (attr.Text given.0 given.1)) numbered (is_found (node_of p.document.nodes who) at.made at.is) refl d (checked p.document at.made (attr.Text given.0 given.1) d set)
text_agrees p (order.Unset who name column) d numbered text e =
    let at = goes (found (node_of p.document.nodes who)) (λ (n : Node). attr_unset_by formats p.document n name column) d e in
    let read = formats.read_name at.made.kind name column in
    let here : is_text_name read ≡ true = ap (λ (r : Result Node Refusal). is_text_name (and_then r (λ (n : Node). formats.read_name n.kind name column))) (sym at.is) ∙ text in
    let given = text_name_of read here in
    let unset : ◌≡◌ {A = Result Document Refusal} (Ok (attr_unset p.document at.made.serial (attr_name.Text given.0))) (Ok d) =
    ap (λ (r : Result AttrName Refusal). and_then r (λ (x : AttrName). Ok (attr_unset p.document at.made.serial x))) (sym given.1) ∙ at.then in
    changed_agrees p.document who at.made (λ attrs. without_attr attrs (attr_name.Text given.0)) numbered (is_found (node_of p.document.nodes who) at.made at.is) refl d (of_ok (attr_unset p.document at.made.serial (attr_name.Text given.0)) d unset)
text_agrees p _ d numbered text e = absurd cc
