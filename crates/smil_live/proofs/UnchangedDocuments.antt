-- Edits that leave the document as it was but for plain texts, or leave what a graph reads of it.
use Rattle.std.proofs.Common.{◌≡◌, refl, sym, ◌∙◌, ap, ℕ, suc, ◌≤◌, ◌-◌, List, [], ◌∷◌, ◌++◌, map, append-nil, append_assoc, Bool, true, false, Option, Some, None, cond, arith}
use Rattle.std.specs.Prelude.{◌==◌, filter, not, IsSome}
use Rattle.std.specs.List.{list_any}
use Rattle.std.proofs.lemmas.Bool.{eq-eqb, eqb-true, or_left}
use Rattle.std.proofs.lemmas.Slice.Eq.{bytes_eq-Decides}
use Rattle.smil_model.specs.declared.diary.Entry.{Entry}
use Rattle.smil_model.specs.declared.document.Attrs.{Attrs}
use Rattle.smil_model.specs.declared.document.Node.{Node}
use Rattle.smil_model.specs.declared.view.View.{View}
use Rattle.smil_model.specs.document.Document.{Document, is_within, lineage, node_at}
use Rattle.smil_model.specs.document.Edits.{changed_at, with_attr, without_attr}
use Rattle.smil_model.specs.document.Valid.{IsNumberedTree}
use Rattle.smil_model.specs.happening.Resolution.{diary_of}
use Rattle.smil_model.specs.shown.Orders.{IsState, Presentation, at_moment, changed as changed_views, changes_between, course_of, views_of}
use Rattle.smil_graph.specs.Reduced.{all_reduced, reduced}
use Rattle.smil_laws.specs.Edited.{Edit, edited, edited_node, inserts, removes, sets, unsets}
use Rattle.smil_laws.proofs.NumberedTrees.{ordered}
use Rattle.smil_text_laws.specs.PlainTexts.{DifferInTexts, bare, without_texts}
use Rattle.smil_text_laws.proofs.BareLists.{map_append}
use Rattle.smil_report.specs.Tellings.{Telling, gone_told}
use Rattle.smil_grammar.specs.Formats.{formats}
use Rattle.smil_tree.specs.Places.{with_attrs}
use Rattle.smil_tree.proofs.AttributesChanged.{serial_of}
use Rattle.smil_tree.proofs.IdOwners.{around}
use Rattle.smil_tree.proofs.NodeFamilies.{chain_of}
use Rattle.smil_cells.specs.CellsState.{WhereTold}
use Rattle.smil_live.specs.Counts.{bare_document, is_saved_alike, least_editing, least_loading}
use Rattle.smil_live.specs.Editing.{IsEdited}
use Rattle.smil_live.specs.Moves.{edited_to, told_of}
use Rattle.smil_live.specs.Sites.{IsMade}
use Rattle.smil_live.specs.declared.edits.Site.TheVariants as site
use Rattle.smil_live.proofs.AdvanceChanges.{same_unchanged}
use Rattle.smil_live.proofs.OrderOutcomes.{none_gone}
use Rattle.smil_live.proofs.QuietViews.{HasDiary}
use Rattle.smil_live.proofs.TextsApart.{gone_same, room_same, shown_same}

-- ---- a node with other attributes

some_node : (n m : Node) → Some n ≡ Some m → n ≡ m
some_node n m e = cc

pub changed_node : (change : Attrs → Attrs) (s : ℕ) (ns : List Node) (old : Node) → node_at ns s ≡ Some old → node_at (changed_at change s ns) s ≡ Some (with_attrs change old)
changed_node change s [] old at = cc
changed_node change s (n ∷ ns) old at = step (n.serial == s) refl at (changed_node change s ns old)
  where
    edit : Bool → Node
    edit t = cond t (with_attrs change n) n

    step : (t : Bool) → n.serial == s ≡ t → cond t (Some n) (node_at ns s) ≡ Some old → (node_at ns s ≡ Some old → node_at (changed_at change s ns) s ≡ Some (with_attrs change old))
        → node_at (changed_at change s (n ∷ ns)) s ≡ Some (with_attrs change old)
    step true e at rest =
        ap (λ (t : Bool). cond ((edit t).serial == s) (Some (edit t)) (node_at (changed_at change s ns) s)) e
        ∙ (ap (λ (t : Bool). cond t (Some (with_attrs change n)) (node_at (changed_at change s ns) s)) e ∙ ap (λ (m : Node). Some (with_attrs change m)) (some_node n old at))
    step false e at rest =
        ap (λ (t : Bool). cond ((edit t).serial == s) (Some (edit t)) (node_at (changed_at change s ns) s)) e
        ∙ (ap (λ (t : Bool). cond t (Some n) (node_at (changed_at change s ns) s)) e ∙ rest at)

-- where a function gives the same of it, so it does of all nodes
other_mapped : (f : Node → Node) (change : Attrs → Attrs) (before : Document) (s : ℕ) (old : Node) → IsNumberedTree before → node_at before.nodes s ≡ Some old → f old ≡ f (with_attrs change old)
    → map f before.nodes ≡ map f (changed_at change s before.nodes)
other_mapped f change before s old numbered at same =
    let a = around change s before.nodes old numbered.distinct at in
    ap (map f) a.before
    ∙ (map_append f a.front (old ∷ a.back)
    ∙ (ap (λ (n : Node). map f a.front ++ n ∷ map f a.back) same
    ∙ (sym (map_append f a.front (with_attrs change old ∷ a.back)) ∙ sym (ap (map f) a.after))))

one_node : (change : Attrs → Attrs) (before : Document) (s : ℕ) (old new : Node) → node_at before.nodes s ≡ Some old → node_at (changed_at change s before.nodes) s ≡ Some new → with_attrs change old ≡ new
one_node change before s old new at there = some_node (with_attrs change old) new (sym (changed_node change s before.nodes old at) ∙ there)

-- where its plain texts alone are others, the documents differ in these alone
other_texts : (change : Attrs → Attrs) (before : Document) (s : ℕ) (old new : Node) → IsNumberedTree before → node_at before.nodes s ≡ Some old
    → node_at (changed_at change s before.nodes) s ≡ Some new → new.attrs ≡ record old.attrs { texts = new.attrs.texts } → DifferInTexts before.nodes (changed_at change s before.nodes)
other_texts change before s old new numbered at there same =
    let attrs = ap (λ (n : Node). n.attrs) (one_node change before s old new at there) ∙ same in
    other_mapped without_texts change before s old numbered at (sym (ap (λ (a : Attrs). without_texts (record old { attrs = a })) attrs))

-- where a graph reads the same of it, it reads the same of both documents
other_read : (change : Attrs → Attrs) (before : Document) (s : ℕ) (old new : Node) → IsNumberedTree before → node_at before.nodes s ≡ Some old
    → node_at (changed_at change s before.nodes) s ≡ Some new → reduced old ≡ reduced new → all_reduced before.nodes ≡ all_reduced (changed_at change s before.nodes)
other_read change before s old new numbered at there same =
    other_mapped reduced change before s old numbered at (same ∙ ap reduced (sym (one_node change before s old new at there)))

-- ---- a node that is taken away

own_within : (before : Document) (s : ℕ) (old : Node) → IsNumberedTree before → node_at before.nodes s ≡ Some old → is_within before.nodes s s ≡ true
own_within before s old numbered at =
    ap (list_any (λ (a : Node). a.serial == s)) (chain_of before.nodes (ordered before numbered) s old at)
    ∙ or_left (old.serial == s) (list_any (λ (a : Node). a.serial == s) (lineage before.nodes old.parent)) (eq-eqb old.serial s (serial_of before.nodes s old at))

not_left : (u : ℕ → Bool) (s : ℕ) (ns : List Node) (n : Node) → u s ≡ true → node_at (filter (λ (m : Node). not (u m.serial)) ns) s ≡ Some n → ⊥
not_left u s [] n passes at = cc
not_left u s (m ∷ ns) n passes at = by_left (not (u m.serial)) refl at (not_left u s ns n passes)
  where
    left : List Node
    left = filter (λ (x : Node). not (u x.serial)) ns

    by_serial : (t : Bool) → m.serial == s ≡ t → not (u m.serial) ≡ true → cond t (Some m) (node_at left s) ≡ Some n → (node_at left s ≡ Some n → ⊥) → ⊥
    by_serial true e stays at rest = let never : true ≡ false = sym stays ∙ ap not (ap u (eqb-true m.serial s e) ∙ passes) in cc
    by_serial false e stays at rest = rest at

    by_left : (t : Bool) → not (u m.serial) ≡ t → node_at (cond t (m ∷ left) left) s ≡ Some n → (node_at left s ≡ Some n → ⊥) → ⊥
    by_left true stays at rest = by_serial (m.serial == s) refl stays at rest
    by_left false stays at rest = rest at

-- ---- an edit of a node

-- a change of the attributes of one node
record IsChanged (before after : Document) (s : ℕ) : Type 0 where
  change : Attrs → Attrs
  is : record before { nodes = changed_at change s before.nodes } ≡ after

-- an edit of a node that is there before and after
changed : (before after : Document) (s : ℕ) (old new : Node) → IsNumberedTree before → IsMade before (site.Old s) after → node_at before.nodes s ≡ Some old → node_at after.nodes s ≡ Some new → IsChanged before after s
changed before after s old new numbered made at there = by_edit made.edit made.document_is made.serial_is made.next_is
  where
    by_edit : (e : Edit) → edited before e ≡ after → edited_node before e ≡ s → after.next ≡ before.next → IsChanged before after s
    by_edit (sets x given) is serial next = record { change = λ attrs. with_attr attrs given; is = ap (λ (k : ℕ). edited before (sets k given)) (sym serial) ∙ is }
    by_edit (unsets x given) is serial next = record { change = λ attrs. without_attr attrs given; is = ap (λ (k : ℕ). edited before (unsets k given)) (sym serial) ∙ is }
    by_edit (inserts under place kind attrs) is serial next =
        let more : suc before.next ≡ after.next = ap (λ (d : Document). d.next) is in
        absurd (omega (arith, more, next))
    by_edit (removes x) is serial next =
        let here : edited before (removes s) ≡ after = ap (λ (k : ℕ). edited before (removes k)) (sym serial) ∙ is in
        absurd (not_left (is_within before.nodes s) s before.nodes new (own_within before s old numbered at) (ap (λ (d : Document). node_at d.nodes s) here ∙ there))

-- so it is of one that is edited
pub differ : (before after : Document) (s : ℕ) (old new : Node) → IsNumberedTree before → IsMade before (site.Old s) after → node_at before.nodes s ≡ Some old → node_at after.nodes s ≡ Some new
    → new.attrs ≡ record old.attrs { texts = new.attrs.texts } → DifferInTexts before.nodes after.nodes
differ before after s old new numbered made at there same =
    let to = changed before after s old new numbered made at there in
    other_texts to.change before s old new numbered at (ap (λ (d : Document). node_at d.nodes s) to.is ∙ there) same
    ∙ ap (λ (d : Document). bare d.nodes) to.is

-- and so what a graph reads
pub read_alike : (before after : Document) (s : ℕ) (old new : Node) → IsNumberedTree before → IsMade before (site.Old s) after → node_at before.nodes s ≡ Some old → node_at after.nodes s ≡ Some new
    → reduced old ≡ reduced new → all_reduced before.nodes ≡ all_reduced after.nodes
read_alike before after s old new numbered made at there same =
    let to = changed before after s old new numbered made at there in
    other_read to.change before s old new numbered at (ap (λ (d : Document). node_at d.nodes s) to.is ∙ there) same
    ∙ ap (λ (d : Document). all_reduced d.nodes) to.is

-- ---- what is told of it, and how often it has intervals evaluated

told_on : (o : Option (List Entry)) → IsSome o → (d : List Entry) × (o ≡ Some d)
told_on None h = cc
told_on (Some d) h = (d, refl)

module _ {I : Type 0} (tell : Telling I) where
  none_told_of : (p : Presentation) (d : Document) → DifferInTexts p.document.nodes d.nodes → IsState p → (has : (entries : List Entry) × (diary_of (course_of p) ≡ Some entries))
      → gone_told tell p (edited_to p d) ++ told_of tell (edited_to p d) (changes_between p (edited_to p d)) ≡ []
  none_told_of p d differ state has =
      let diary : HasDiary p has.0 = record { numbered = state.document.numbered; logged = state.logged; settled = has.1 } in
      let gone : gone_told tell p (edited_to p d) ≡ [] = sym (gone_same p d differ tell (edited_to p d)) ∙ none_gone tell (edited_to p d) (edited_to p d) refl in
      ap (λ (l : List I). l ++ told_of tell (edited_to p d) (changes_between p (edited_to p d))) gone
      ∙ ap (λ (vs : List View). told_of tell (edited_to p d) (at_moment p.now (changed_views (views_of p) vs))) (shown_same p d differ)
      ∙ ap (λ (vs : List View). told_of tell (edited_to p d) (at_moment p.now vs)) (same_unchanged p has.0 diary)

  pub retold : (p : Presentation) (d : Document) (out : List I) → DifferInTexts p.document.nodes d.nodes → IsState p → IsSome (diary_of (course_of p)) → IsEdited tell p d (edited_to p d) out out
  retold p d out differ state settled =
      let has = told_on (diary_of (course_of p)) settled in
      record {
        state = refl;
        diary = has.0;
        settled = room_same p d differ ∙ has.1;
        told =
            sym (append-nil out) ∙ ap (λ (l : List I). out ++ l) (sym (none_told_of p d differ state has))
            ∙ sym (append_assoc out (gone_told tell p (edited_to p d)) (told_of tell (edited_to p d) (changes_between p (edited_to p d))));
      }

alike : (p : Presentation) (d : Document) → DifferInTexts p.document.nodes d.nodes → d.next ≡ p.document.next → is_saved_alike p.document d ≡ true
alike p d differ next =
    let same : bare_document p.document ≡ bare_document d = λ i. record { nodes = differ i; next = sym next i } in
    (bytes_eq-Decides (formats.saved (bare_document p.document)) (formats.saved (bare_document d))).1 (ap formats.saved same)

pub least_retold : (counts : Bool) (p : Presentation) (d : Document) (rise : ℕ) → DifferInTexts p.document.nodes d.nodes → d.next ≡ p.document.next → WhereTold counts (least_editing p (edited_to p d) ≤ rise)
least_retold false p d rise differ next = tt
least_retold true p d rise differ next = let none : ◌≡◌ {A = ℕ} (least_editing p (edited_to p d)) 0 = ap (λ (t : Bool). cond t 0 (least_loading (edited_to p d))) (alike p d differ next) in omega (arith, none)

pub none_told : (counts : Bool) (steps most : ℕ) → WhereTold counts (steps - steps ≤ most)
none_told false steps most = tt
none_told true steps most = omega arith

fewer : (t : Bool) (n rise : ℕ) → n ≤ rise → cond t 0 n ≤ rise
fewer true n rise h = omega arith
fewer false n rise h = h

pub least_edited : (counts : Bool) (p q : Presentation) (rise : ℕ) → WhereTold counts (least_loading q ≤ rise) → WhereTold counts (least_editing p q ≤ rise)
least_edited false p q rise h = tt
least_edited true p q rise h = fewer (is_saved_alike p.document q.document) (least_loading q) rise h
