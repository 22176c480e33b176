-- What an edited presentation comes to.
use Rattle.std.proofs.Common.{◌≡◌, ℕ, ℤ, List, ◌++◌, length, drop, true, not, Some, Result, Ok, Err, refl, sym, ap, ◌∙◌, subst, append_assoc}
use Rattle.std.specs.Prelude.{pos, flat_map, filter, is_some, is_err, IsSome, OnErr, OnOk}
use Rattle.std.proofs.Math.Seq.{drop-append_seam}
use Rattle.smil_model.specs.declared.document.Node.{Node}
use Rattle.smil_model.specs.declared.order.Order.{Order}
use Rattle.smil_model.specs.declared.order.Refusal.{Refusal}
use Rattle.smil_model.specs.declared.order.Who.{Who}
use Rattle.smil_model.specs.declared.view.View.{View}
use Rattle.smil_model.specs.document.Document.{Document, elements, node_at}
use Rattle.smil_model.specs.document.Valid.{IsValid}
use Rattle.smil_model.specs.happening.Resolution.{diary_of}
use Rattle.smil_model.specs.shown.Answers.{IsRefusedBy, Refuses}
use Rattle.smil_model.specs.shown.Lines.{name_of}
use Rattle.smil_model.specs.shown.Orders.{IsState, Presentation, at_moment, changed, changes_between, course_of, node_of, on_node, views_of}
use Rattle.smil_report.specs.Tellings.{Telling, Tells, change_told, gone_told}
use Rattle.smil_grammar.specs.Formats.{formats}
use Rattle.smil_cells.specs.CellsState.{CellsState}
use Rattle.smil_live.specs.Editing.{IsEdited, edit_of}
use Rattle.smil_revision.specs.Editing.{at_node}
use Rattle.smil_shown.specs.ShownViews.{IsPlaying, views_at}
use Rattle.smil_live.specs.Moves.{IsReplayed, IsTooFull, edited_to, told_of}
use Rattle.smil_live.specs.Telling.{is_edit}
use Rattle.smil_revision.proofs.EditedCopies.{at_there, some_from}
use Rattle.smil_live.proofs.EditOrders.{edit_accepted, is_found, state_refused}
use Rattle.smil_live.proofs.GrowingTexts.{is_appended}
use Rattle.smil_live.proofs.OrderOutcomes.{known}
use Rattle.smil_live.proofs.ResolvedHistory.{has_room, no_room}

-- ---- the node that an order names

-- a node that is named so, with this serial
abbrev pub Named : Presentation → Who → ℕ → Type 0
Named p named s = (n : Node) × (node_of p.document.nodes named ≡ Some n) × (s ≡ n.serial)

node_known : (p : Presentation) (d : Document) (named : Who) (s : ℕ) → IsValid d → d ≡ p.document → (h : Named p named s) → node_at d.nodes s ≡ Some h.0
node_known p d named s valid same h =
    ap (λ t. node_at d.nodes t) h.2 ∙ known d named h.0 valid.numbered (ap (λ (e : Document). node_of e.nodes named) same ∙ h.1)

pub node_there : (p : Presentation) (d : Document) (named : Who) (s : ℕ) → IsValid d → d ≡ p.document → Named p named s → IsSome (node_at d.nodes s)
node_there p d named s valid same h = some_from (node_at d.nodes s) h.0 (node_known p d named s valid same h)

pub edit_there : {A : Type 0} (p : Presentation) (d : Document) (named : Who) (s : ℕ) (next : Document → Node → Result A Refusal) → IsValid d → d ≡ p.document → Named p named s → on_node p named (next p.document) ≡ at_node d.nodes s (next d)
edit_there p d named s next valid same h =
    is_found p named (next p.document) h.0 h.1
    ∙ sym (ap (λ (e : Document). next e h.0) same)
    ∙ sym (at_there d.nodes s (next d) h.0 (node_known p d named s valid same h))

-- what refuses one refuses the other
pub refused_at : (x y : Result Document Refusal) (e : Refusal) → x ≡ y → IsRefusedBy y e → IsRefusedBy x e
refused_at x y e same refused = subst (λ (r : Result Document Refusal). IsRefusedBy r e) (sym same) refused

-- ---- the answer

module _ {I : Type 0} (tell : Telling I) where
  -- the two parts of what is told as one
  whole_told : (p q : Presentation) (d : Document) (old new : List I) → IsEdited tell p d q old new → new ≡ old ++ (gone_told tell p q ++ told_of tell q (changes_between p q))
  whole_told p q d old new is = is.told ∙ append_assoc old (gone_told tell p q) (told_of tell q (changes_between p q))

  pub edited_appended : (p q : Presentation) (d : Document) (old new : List I) → IsEdited tell p d q old new → new ≡ old ++ drop (length old) new
  edited_appended p q d old new is = is_appended old new (gone_told tell p q ++ told_of tell q (changes_between p q)) (whole_told p q d old new is)

-- ---- the edited presentation

pub edited_state : (p : Presentation) (d : Document) → IsState p → IsValid d → IsState (edited_to p d)
edited_state p d state valid = record { document = valid; log = state.log; logged = state.logged; now = state.now }

module _ {I : Type 0} (tell : Telling I) where
  pub edited_accepted : (p q : Presentation) (o : Order) (d : Document) (old new : List I) → is_edit o ≡ true → edit_of p o ≡ Ok d → IsEdited tell p d q old new → Tells tell formats p q o (drop (length old) new)
  edited_accepted p q o d old new edits edited is =
      edit_accepted tell p q o d (drop (length old) new) edits edited (has_room (edited_to p d) q is.diary is.state is.settled)
      (ap (drop (length old)) (whole_told tell p q d old new is) ∙ drop-append_seam old (gone_told tell p q ++ told_of tell q (changes_between p q)))

pub not_edited : (p : Presentation) (o : Order) (d : Document) (e : Refusal) → is_edit o ≡ true → edit_of p o ≡ Ok d → IsTooFull (edited_to p d) e → Refuses formats p o e
not_edited p o d e edits edited full = state_refused p o d e edits edited (no_room (edited_to p d) e full)

pub on_ok_always : {T E P : Type 0} (r : Result T E) → P → OnOk r P
on_ok_always (Ok x) h = h
on_ok_always (Err e) h = tt

pub on_err_always : {T E P : Type 0} (r : Result T E) → P → OnErr r P
on_err_always (Ok x) h = tt
on_err_always (Err e) h = h

pub plays : (q : Presentation) (s : CellsState) (shown : List View) → IsState q → IsReplayed q s → shown ≡ views_at s → IsPlaying s shown
plays q s shown state is seen = record {
  shown_is = record {
    state = subst IsState (sym is.presentation_is) state;
    sound = is.sound;
    settled = is.settled;
    views_are = seen;
  };
  unmarked = is.unmarked;
}

-- cells of a presentation are replayed ones of their own
pub replayed_own : (q : Presentation) (s : CellsState) → IsReplayed q s → IsReplayed s.presentation s
replayed_own q s is = record { presentation_is = refl; sound = is.sound; unmarked = is.unmarked; settled = is.settled }

module _ {I : Type 0} (tell : Telling I) where
  pub edited_anew : (p q : Presentation) (d : Document) (s : CellsState) (old new : List I) → IsReplayed (edited_to p d) s → q ≡ s.presentation → new ≡ old ++ gone_told tell p s.presentation ++ told_of tell s.presentation (changes_between p s.presentation) → IsEdited tell p d q old new
  edited_anew p q d s old new is same said = record {
    state = same ∙ is.presentation_is;
    diary = s.diary;
    settled = subst (λ (t : Presentation). diary_of (course_of t) ≡ Some s.diary) (sym same) is.settled;
    told = subst (λ (t : Presentation). new ≡ old ++ gone_told tell p t ++ told_of tell t (changes_between p t)) (sym same) said;
  }

-- ---- by what came of a call

-- where a call has failed
pub where_err : {A E : Type 0} (r : Result A E) (P : Type 0) → is_err r ≡ true → OnErr r P → P
where_err (Ok x) P q h = cc
where_err (Err e) P q h = h

-- ---- what is told

module _ {I : Type 0} (tell : Telling I) where
  pub told_edited : (p q : Presentation) (b a e : Document) (moment : ℤ) (before after : List View) (old mid new : List I) → b ≡ p.document → a ≡ q.document → e ≡ q.document → moment ≡ pos q.now → before ≡ views_of p → after ≡ views_of q → mid ≡ old ++ flat_map (λ (n : Node). tell.gone moment (name_of n) n.serial) (filter (λ (n : Node). not (is_some (node_at a.nodes n.serial))) (elements b.nodes)) → new ≡ mid ++ flat_map (change_told tell e.nodes) (at_moment q.now (changed before after)) → new ≡ old ++ gone_told tell p q ++ told_of tell q (changes_between p q)
  told_edited p q b a e moment before after old mid new bs same_after shown ms befores afters gone diffs =
      let g : flat_map (λ (n : Node). tell.gone moment (name_of n) n.serial) (filter (λ (n : Node). not (is_some (node_at a.nodes n.serial))) (elements b.nodes)) ≡ gone_told tell p q =
      ap (λ (d : Document). flat_map (λ (n : Node). tell.gone moment (name_of n) n.serial) (filter (λ (n : Node). not (is_some (node_at a.nodes n.serial))) (elements d.nodes))) bs
      ∙ ap (λ (d : Document). flat_map (λ (n : Node). tell.gone moment (name_of n) n.serial) (filter (λ (n : Node). not (is_some (node_at d.nodes n.serial))) (elements p.document.nodes))) same_after
      ∙ ap (λ (m : ℤ). flat_map (λ (n : Node). tell.gone m (name_of n) n.serial) (filter (λ (n : Node). not (is_some (node_at q.document.nodes n.serial))) (elements p.document.nodes))) ms in
      let t : flat_map (change_told tell e.nodes) (at_moment q.now (changed before after)) ≡ told_of tell q (changes_between p q) =
      ap (λ (d : Document). flat_map (change_told tell d.nodes) (at_moment q.now (changed before after))) shown
      ∙ ap (λ (vs : List View). flat_map (change_told tell q.document.nodes) (at_moment q.now (changed vs after))) befores
      ∙ ap (λ (vs : List View). flat_map (change_told tell q.document.nodes) (at_moment q.now (changed (views_of p) vs))) afters in
      diffs ∙ ap (λ m. m ++ flat_map (change_told tell e.nodes) (at_moment q.now (changed before after))) gone
      ∙ ap (λ x. old ++ x ++ flat_map (change_told tell e.nodes) (at_moment q.now (changed before after))) g
      ∙ ap (λ x. old ++ gone_told tell p q ++ x) t
