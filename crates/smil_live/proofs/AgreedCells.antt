-- Cells that go on with an edited document from the part of the diary that stays, and how often
-- edits and backward seeks have intervals evaluated.
use Rattle.std.proofs.Common.{◌≡◌, refl, sym, ◌∙◌, ap, cond, subst, ℕ, ◌+◌, ◌≤◌, ◌++◌, List, length, take, drop, ℤ, negsuc, Bool, true, false, Result, Ok, Err, arith}
use Rattle.std.specs.Prelude.{IfErr, OnOk, filter, int_le, nat_abs, nat_lt, pos, ◌<ℤ◌, ◌≤ℤ◌}
use Rattle.std.proofs.lemmas.Bool.{lt-ltb}
use Rattle.std.proofs.lemmas.Int.{ints}
use Rattle.std.proofs.lemmas.Result.{IfErr-weaker, on_ok_weaker}
use Rattle.smil_model.specs.declared.diary.LogEntry.{LogEntry}
use Rattle.smil_model.specs.declared.order.Order.{Order}
use Rattle.smil_model.specs.declared.order.Order.TheVariants as order
use Rattle.smil_model.specs.declared.order.Refusal.{Refusal}
use Rattle.smil_model.specs.declared.view.View.{View}
use Rattle.smil_model.specs.document.Document.{Document, elements}
use Rattle.smil_model.specs.document.Valid.{IsNumberedTree, IsValid}
use Rattle.smil_model.specs.document.Values.{is_clock}
use Rattle.smil_model.specs.shown.Answers.{Refuses}
use Rattle.smil_model.specs.shown.Orders.{IsState, Presentation, course_of}
use Rattle.smil_report.specs.Tellings.{Telling, Tells}
use Rattle.smil_grammar.specs.Formats.{formats}
use Rattle.smil_cells.specs.CellsState.{IsRebuilt, MayRebuild, CellsState, WhereTold}
use Rattle.smil_live.specs.Counted.{IsAtLeast, IsAtMost, KeepsToCounts, IsFree}
use Rattle.smil_live.specs.Counts.{diary_at, edits_text, least_between, least_editing, least_loading, least_seeking, most_between, most_number, most_seeking, reached_behind, told_where}
use Rattle.smil_live.specs.Editing.{IsEdited, edit_of}
use Rattle.smil_shown.specs.ShownViews.{IsPlaying}
use Rattle.smil_live.specs.Moves.{IsReplayed, IsTooFull, IsUnderWay, edited_to, sought_of}
use Rattle.smil_live.specs.Sites.{IsMade, most_resolving, site_of, staying}
use Rattle.smil_live.specs.Telling.{is_edit}
use Rattle.smil_live.specs.Texts.{AgreeButForTexts}
use Rattle.smil_live.specs.declared.edits.Site.{Site}
use Rattle.smil_live.proofs.CountedOrders.{at_least, at_most, free_too_full}
use Rattle.smil_live.proofs.EditedPresentations.{edited_accepted, edited_appended, edited_state, not_edited}
use Rattle.smil_live.proofs.AgreedEdits.{text_agrees}
use Rattle.smil_live.proofs.AgreedParts.{staying_part, staying_within}
use Rattle.smil_shown.proofs.SettledDiaries.{diary_is}
use Rattle.smil_live.proofs.LogParts.{log_parts}
use Rattle.smil_live.proofs.OrderOutcomes.{clock_from, sought_state}
use Rattle.smil_live.proofs.RebuiltCells.{may_rebuild, rebuilt_way}
use Rattle.smil_live.proofs.RebuiltParts.{IsPart, front_until}

-- settled cells are those of their own presentation
pub own_replayed : (s : CellsState) (shown : List View) → IsPlaying s shown → IsReplayed s.presentation s
own_replayed s shown is = record { presentation_is = refl; sound = is.shown_is.sound; unmarked = is.unmarked; settled = is.shown_is.settled }

-- ---- an edit

-- what plays a presentation, an edit of its document, a copy of what the edit makes, and how many
-- entries are kept by it
pub record IsEditedAt (s : CellsState) (shown : List View) (p : Presentation) (d e : Document) (at : Site) (len : ℕ) : Type 0 where
  pub is : IsPlaying s shown
  pub view : s.presentation ≡ p
  pub same : d ≡ e
  pub valid : IsValid d
  pub made : IsMade p.document at e
  pub count : len ≡ staying p e at

module _ {s : CellsState} {shown : List View} {p : Presentation} {d e : Document} {at : Site} {len : ℕ} (edit : IsEditedAt s shown p d e at len) where
  pub edited_is : edited_to s.presentation d ≡ edited_to p e
  edited_is = ap (λ (q : Presentation). edited_to q d) edit.view ∙ ap (edited_to p) edit.same

  pub edited_stands : IsState (edited_to s.presentation d)
  edited_stands = edited_state s.presentation d edit.is.shown_is.state edit.valid

  made_here : IsMade s.presentation.document at d
  made_here = subst (λ (q : Presentation). IsMade q.document at d) (sym edit.view) (subst (λ (x : Document). IsMade p.document at x) (sym edit.same) edit.made)

  count_here : len ≡ staying s.presentation d at
  count_here = subst (λ (q : Presentation). len ≡ staying q d at) (sym edit.view) (subst (λ (x : Document). len ≡ staying p x at) (sym edit.same) edit.count)

  part : IsPart d.nodes s.presentation.log (take len s.diary) s.presentation.now
  part =
      subst (λ (n : ℕ). IsPart d.nodes s.presentation.log (take n s.diary) s.presentation.now) (sym count_here)
      (staying_part s.presentation d at s.diary edit.is.shown_is.state.document.numbered edit.valid.numbered edit.is.shown_is.state.log made_here edit.is.shown_is.settled)

  within : len ≤ length s.diary
  within =
      subst (λ (n : ℕ). n ≤ length s.diary) (sym count_here)
      (staying_within s.presentation d at s.diary edit.is.shown_is.state.document.numbered edit.valid.numbered edit.is.shown_is.state.log made_here edit.is.shown_is.settled)

  pub edited_rebuild : MayRebuild s d len
  edited_rebuild = may_rebuild s d len s.presentation.now edit.valid within edit.is.unmarked part

  pub edited_way : (t : CellsState) → IsRebuilt s d len t → IsUnderWay (edited_to s.presentation d) (length t.presentation.log) t
  edited_way t rebuilt = rebuilt_way s t d len s.presentation.now rebuilt part (edited_to s.presentation d) refl refl refl

  pub edited_count : length (elements d.nodes) + reached_behind len (edited_to s.presentation d) ≡ most_resolving p at e
  edited_count =
      ap (λ (x : Document). length (elements x.nodes) + reached_behind len (edited_to s.presentation d)) edit.same
      ∙ (ap (λ (q : Presentation). length (elements e.nodes) + reached_behind len q) edited_is
      ∙ ap (λ (n : ℕ). length (elements e.nodes) + reached_behind n (edited_to p e)) edit.count)

-- ---- how often an edit has intervals evaluated

most_is : (p : Presentation) (o : Order) (d : Document) → is_edit o ≡ true → cond (edits_text p o) 0 (most_resolving p (site_of p.document o) d) ≡ most_between p o (edited_to p d)
most_is p (order.Set who name value name_column column) d edits = refl
most_is p (order.Unset who name column) d edits = refl
most_is p (order.Insert who place line column) d edits = refl
most_is p (order.Remove who) d edits = refl
most_is p _ d edits = absurd cc

least_is : (p q : Presentation) (o : Order) → is_edit o ≡ true → least_editing p q ≡ least_between p o q
least_is p q (order.Set who name value name_column column) edits = refl
least_is p q (order.Unset who name column) edits = refl
least_is p q (order.Insert who place line column) edits = refl
least_is p q (order.Remove who) edits = refl
least_is p q _ edits = absurd cc

module _ {I : Type 0} (tell : Telling I) where
  edited_most : (r : Result (Unit {0}) Refusal) (counts : Bool) (p q : Presentation) (o : Order) (d : Document) (at : Site) (old new : List I) (rise : ℕ) → IsNumberedTree p.document → is_edit o ≡ true → edit_of p o ≡ Ok d → at ≡ site_of p.document o
      → OnOk r (IsEdited tell p d q old new) → OnOk r (WhereTold counts (rise ≤ most_resolving p at d)) → (AgreeButForTexts p.document d at → OnOk r (WhereTold counts (rise ≤ 0))) → OnOk r (IsAtMost counts p o rise)
  edited_most (Err e) counts p q o d at old new rise numbered edits edited here is most free = tt
  edited_most (Ok x) counts p q o d at old new rise numbered edits edited here is most free =
      at_most counts p q o rise (edited_accepted tell p q o d old new edits edited is).state
      (subst (λ (n : ℕ). WhereTold counts (rise ≤ n)) (ap (λ (x : Site). cond (edits_text p o) 0 (most_resolving p x d)) here ∙ (most_is p o d edits ∙ ap (most_between p o) (sym is.state))) (by_test (edits_text p o) refl))
    where
      by_test : (t : Bool) → edits_text p o ≡ t → WhereTold counts (rise ≤ cond t 0 (most_resolving p at d))
      by_test true text = free (subst (λ (x : Site). AgreeButForTexts p.document d x) (sym here) (text_agrees p o d numbered text edited))
      by_test false other = most

  edited_least : (r : Result (Unit {0}) Refusal) (counts : Bool) (p q : Presentation) (o : Order) (d : Document) (old new : List I) (rise : ℕ) → is_edit o ≡ true → edit_of p o ≡ Ok d
      → OnOk r (IsEdited tell p d q old new) → OnOk r (WhereTold counts (least_editing p (edited_to p d) ≤ rise)) → OnOk r (IsAtLeast counts p o rise)
  edited_least (Err e) counts p q o d old new rise edits edited is least = tt
  edited_least (Ok x) counts p q o d old new rise edits edited is least =
      at_least counts p q o rise (edited_accepted tell p q o d old new edits edited is).state
      (subst (λ (n : ℕ). WhereTold counts (n ≤ rise)) (ap (least_editing p) (sym is.state) ∙ least_is p q o edits) least)

  edited_bounded : (r : Result (Unit {0}) Refusal) (counts : Bool) (p q : Presentation) (o : Order) (d : Document) (at : Site) (old new : List I) (rise : ℕ) → IsNumberedTree p.document → is_edit o ≡ true → edit_of p o ≡ Ok d → at ≡ site_of p.document o
      → OnOk r (IsEdited tell p d q old new) → OnOk r (WhereTold counts (rise ≤ most_resolving p at d)) → (AgreeButForTexts p.document d at → OnOk r (WhereTold counts (rise ≤ 0)))
      → OnOk r (WhereTold counts (least_editing p (edited_to p d) ≤ rise)) → IfErr r (IsTooFull (edited_to p d))
      → KeepsToCounts counts p o r rise
  edited_bounded r counts p q o d at old new rise numbered edits edited here is most free least refused = record {
    most = edited_most r counts p q o d at old new rise numbered edits edited here is most free;
    least = edited_least r counts p q o d old new rise edits edited is least;
    free =
        IfErr-weaker r (IsTooFull (edited_to p d)) (λ (e : Refusal). IsFree counts p o e rise)
        (λ e full. free_too_full (told_where counts (most_number p o)) (edited_to p d) e rise full) refused;
  }

  -- what an order that edits is answered, and how often it has intervals evaluated
  pub record IsAnswered (r : Result (Unit {0}) Refusal) (counts : Bool) (p q : Presentation) (o : Order) (old new : List I) (rise : ℕ) : Type 0 where
    pub ok : OnOk r (Tells tell formats p q o (drop (length old) new))
    pub appended : OnOk r (new ≡ old ++ drop (length old) new)
    pub refused : IfErr r (Refuses formats p o)
    pub bounded : KeepsToCounts counts p o r rise

  pub edit_answered : (r : Result (Unit {0}) Refusal) (counts : Bool) (p q : Presentation) (o : Order) (d : Document) (at : Site) (old new : List I) (rise : ℕ) → IsNumberedTree p.document → is_edit o ≡ true → edit_of p o ≡ Ok d → at ≡ site_of p.document o
      → OnOk r (IsEdited tell p d q old new) → OnOk r (WhereTold counts (rise ≤ most_resolving p at d)) → (AgreeButForTexts p.document d at → OnOk r (WhereTold counts (rise ≤ 0)))
      → OnOk r (WhereTold counts (least_editing p (edited_to p d) ≤ rise)) → IfErr r (IsTooFull (edited_to p d))
      → IsAnswered r counts p q o old new rise
  edit_answered r counts p q o d at old new rise numbered edits edited here is most free least refused = record {
    ok = on_ok_weaker r (edited_accepted tell p q o d old new edits edited) is;
    appended = on_ok_weaker r (edited_appended tell p q d old new) is;
    refused = IfErr-weaker r (IsTooFull (edited_to p d)) (Refuses formats p o) (λ e h. not_edited p o d e edits edited h) refused;
    bounded = edited_bounded r counts p q o d at old new rise numbered edits edited here is most free least refused;
  }

-- ---- a seek back

pub sought_stands : (p : Presentation) (to : ℤ) → IsState p → is_clock to ≡ true → IsState (sought_of p to)
sought_stands p to state clock =
    sought_state p p.log (length (filter (λ (x : LogEntry). int_le x.moment to) p.log)) to state clock refl (front_until to (pos 0) p.log (log_parts p.log state.log).0)

below : (to : ℤ) (n : ℕ) → pos 0 ≤ℤ to → to <ℤ pos n → nat_lt (nat_abs to) n ≡ true
below (pos k) n from back = lt-ltb k n (omega (arith, ints, back))
below (negsuc k) n from back = absurd (omega (arith, ints, from))

module _ {I : Type 0} (tell : Telling I) where
  pub sought_most : (r : Result (Unit {0}) Refusal) (counts : Bool) (p q : Presentation) (s : CellsState) (to : ℤ) (text : List I) (rise : ℕ) → is_clock to ≡ true → to <ℤ pos p.now → IsReplayed (sought_of p to) s
      → OnOk r (q ≡ s.presentation) → OnOk r (Tells tell formats p q (order.Seek to) text) → WhereTold counts (rise ≤ length (elements p.document.nodes)) → OnOk r (IsAtMost counts p (order.Seek to) rise)
  sought_most (Err e) counts p q s to text rise clock back is here accepted most = tt
  sought_most (Ok x) counts p q s to text rise clock back is here accepted most =
      at_most counts p q (order.Seek to) rise accepted.state
      (subst (λ (t : Bool). WhereTold counts (rise ≤ most_seeking t p q)) (sym (below to p.now (clock_from to clock).0 back))
      (subst (λ (z : Presentation). WhereTold counts (rise ≤ length (elements z.document.nodes))) (sym (here ∙ is.presentation_is)) most))

  pub sought_least : (r : Result (Unit {0}) Refusal) (counts : Bool) (p q : Presentation) (s : CellsState) (to : ℤ) (text : List I) (rise : ℕ) → is_clock to ≡ true → to <ℤ pos p.now → IsReplayed (sought_of p to) s
      → OnOk r (q ≡ s.presentation) → OnOk r (Tells tell formats p q (order.Seek to) text) → WhereTold counts (least_loading (sought_of p to) ≤ rise) → OnOk r (IsAtLeast counts p (order.Seek to) rise)
  sought_least (Err e) counts p q s to text rise clock back is here accepted least = tt
  sought_least (Ok x) counts p q s to text rise clock back is here accepted least =
      at_least counts p q (order.Seek to) rise accepted.state
      (subst (λ (t : Bool). WhereTold counts (least_seeking t p q ≤ rise)) (sym (below to p.now (clock_from to clock).0 back))
      (subst (λ (z : Presentation). WhereTold counts (least_loading z ≤ rise)) (sym (here ∙ is.presentation_is)) least))

-- ---- the diary that is kept

pub diary_kept : (s : CellsState) (shown : List View) (p : Presentation) → IsPlaying s shown → s.presentation ≡ p → s.diary ≡ diary_at p
diary_kept s shown p is view = sym (diary_is (course_of s.presentation) s.diary is.shown_is.settled) ∙ ap diary_at view
