-- Moves of a presentation whose plain texts are others than those that its cells were made of.
use Rattle.std.proofs.Common.{◌≡◌, refl, sym, ◌∙◌, ap, subst, ℕ, ℤ, List, ◌++◌, Option, Result, Ok, Err}
use Rattle.std.specs.Prelude.{OnErr, OnOk}
use Rattle.smil_model.specs.declared.order.Refusal.{Refusal}
use Rattle.smil_model.specs.declared.view.View.{View}
use Rattle.smil_model.specs.document.Document.{Document}
use Rattle.smil_model.specs.document.Valid.{IsValid}
use Rattle.smil_model.specs.shown.Orders.{Presentation, at_moment, changed, changes_between, views_of}
use Rattle.smil_text_laws.specs.PlainTexts.{DifferInTexts, with_document}
use Rattle.smil_report.specs.Tellings.{Telling, gone_told}
use Rattle.smil_cells.specs.CellsState.{CellsState}
use Rattle.smil_shown.specs.ShownViews.{IsPlaying}
use Rattle.smil_live.specs.Counts.{element_count, least_loading, least_onward, most_onward}
use Rattle.smil_live.specs.Moves.{IsReplayed, IsTooFull, MayMove, changes_by, made, sought_of, told_of}
use Rattle.smil_live.specs.Texts.{IsPlayed, current}
use Rattle.smil_live.specs.declared.moves.Move.{Move}
use Rattle.smil_live.specs.declared.moves.Move.TheVariants as move
use Rattle.smil_live.proofs.OrderOutcomes.{none_gone}
use Rattle.smil_live.proofs.TextsApart.{cells_with, changes_same, count_same, full_same, gone_same, least_same, loading_same, made_differs, made_same, most_same, room_same, shown_same, told_same}

-- a move leaves the document
pub document_made : (p : Presentation) (step : Move) → (made p step).document ≡ p.document
document_made p (move.Pass to) = refl
document_made p (move.Settle to) = refl
document_made p (move.Hear entry) = refl

may_with : (p : Presentation) (d : Document) (step : Move) → MayMove (with_document p d) step → MayMove p step
may_with p d (move.Pass to) may = may
may_with p d (move.Settle to) may = may
may_with p d (move.Hear entry) may = may

-- cells that have gone on with the same document play the same one
pub played_then : (old new : CellsState) (before after : List View) (edited : Option Document) → IsPlayed old before (current old.presentation.document edited) → IsPlaying new after
    → new.presentation.document ≡ old.presentation.document → IsPlayed new after (current new.presentation.document edited)
played_then old new before after edited is playing same = record {
  playing = playing;
  valid = subst (λ (x : Document). IsValid (current x edited)) (sym same) is.valid;
  differ = subst (λ (x : Document). DifferInTexts x.nodes (current x edited).nodes) (sym same) is.differ;
}

-- cells, the document that is played, and the presentation
module _ (s : CellsState) (shown : List View) (edited : Option Document) (p : Presentation) (is : IsPlayed s shown (current s.presentation.document edited)) (view : (cells_with s edited).presentation ≡ p) (step : Move) where
  abbrev d : Document
  d = current s.presentation.document edited

  there : with_document (made s.presentation step) d ≡ made p step
  there = sym (made_same s.presentation d is.differ step) ∙ ap (λ (q : Presentation). made q step) view

  pub may_there : MayMove p step → MayMove s.presentation step
  may_there may = may_with s.presentation d step (subst (λ (q : Presentation). MayMove q step) (sym view) may)

  pub state_there : (t : CellsState) → t.presentation ≡ made s.presentation step → (cells_with t edited).presentation ≡ made p step
  state_there t made_is =
      ap (λ (q : Presentation). with_document q (current q.document edited)) made_is
      ∙ (ap (λ (x : Document). with_document (made s.presentation step) (current x edited)) (document_made s.presentation step) ∙ there)

  pub document_there : (t : CellsState) → t.presentation ≡ made s.presentation step → t.presentation.document ≡ s.presentation.document
  document_there t made_is = ap (λ (q : Presentation). q.document) made_is ∙ document_made s.presentation step

  pub told_there : {I : Type 0} (tell : Telling I) → told_of tell s.presentation (changes_by s.presentation step) ≡ told_of tell p (changes_by p step)
  told_there tell =
      sym (told_same s.presentation d is.differ tell (changes_by s.presentation step))
      ∙ (ap (told_of tell (with_document s.presentation d)) (sym (changes_same s.presentation d is.differ step))
      ∙ ap (λ (q : Presentation). told_of tell q (changes_by q step)) view)

  pub full_there : (e : Refusal) → IsTooFull (made s.presentation step) e → IsTooFull (made p step) e
  full_there e full =
      subst (λ (q : Presentation). IsTooFull q e) there (full_same (made s.presentation step) d (made_differs s.presentation d is.differ step) e full)

  pub most_there : most_onward s.presentation (made s.presentation step) ≡ most_onward p (made p step)
  most_there =
      sym (most_same s.presentation (made s.presentation step) d is.differ (made_differs s.presentation d is.differ step))
      ∙ (ap (most_onward (with_document s.presentation d)) there ∙ ap (λ (q : Presentation). most_onward q (made p step)) view)

  pub least_there : least_onward s.presentation (made s.presentation step) ≡ least_onward p (made p step)
  least_there =
      sym (least_same s.presentation (made s.presentation step) d is.differ (made_differs s.presentation d is.differ step))
      ∙ (ap (least_onward (with_document s.presentation d)) there ∙ ap (λ (q : Presentation). least_onward q (made p step)) view)

-- ---- a seek back

module _ (s t : CellsState) (shown : List View) (edited : Option Document) (p : Presentation) (is : IsPlayed s shown (current s.presentation.document edited)) (view : (cells_with s edited).presentation ≡ p) (to : ℤ) (replayed : IsReplayed (sought_of s.presentation to) t) where
  abbrev e : Document
  e = current s.presentation.document edited

  abbrev q : Presentation
  q = (cells_with t edited).presentation

  sought_is : with_document (sought_of s.presentation to) e ≡ sought_of p to
  sought_is = ap (λ (x : Presentation). sought_of x to) view

  pub same_document : t.presentation.document ≡ s.presentation.document
  same_document = ap (λ (x : Presentation). x.document) replayed.presentation_is

  here : q ≡ sought_of p to
  here = ap (λ (x : Presentation). with_document x (current x.document edited)) replayed.presentation_is ∙ sought_is

  differ_here : DifferInTexts t.presentation.document.nodes (current t.presentation.document edited).nodes
  differ_here = subst (λ (x : Document). DifferInTexts x.nodes (current x edited).nodes) (sym same_document) is.differ

  pub replayed_there : IsReplayed (sought_of p to) (cells_with t edited)
  replayed_there = record {
    presentation_is = here;
    sound = replayed.sound;
    unmarked = replayed.unmarked;
    settled = room_same t.presentation (current t.presentation.document edited) differ_here ∙ replayed.settled;
  }

  pub sought_count : element_count s.presentation ≡ element_count p
  sought_count = sym (count_same s.presentation e is.differ) ∙ ap element_count view

  pub sought_loading : least_loading (sought_of s.presentation to) ≡ least_loading (sought_of p to)
  sought_loading = sym (loading_same (sought_of s.presentation to) e is.differ) ∙ ap least_loading sought_is

  between_here : changes_between s.presentation t.presentation ≡ changes_between p q
  between_here =
      sym ((λ i. at_moment t.presentation.now (changed (shown_same s.presentation e is.differ i) (shown_same t.presentation (current t.presentation.document edited) differ_here i))))
      ∙ ap (λ (x : Presentation). changes_between x q) view

  module _ {I : Type 0} (tell : Telling I) where
    gone_here : gone_told tell s.presentation t.presentation ≡ gone_told tell p q
    gone_here =
        none_gone tell s.presentation t.presentation same_document
        ∙ sym (none_gone tell p q (ap (λ (x : Presentation). x.document) (here ∙ sym sought_is) ∙ ap (λ (x : Presentation). x.document) view))

    pub sought_told : (old new : List I) → new ≡ old ++ gone_told tell s.presentation t.presentation ++ told_of tell t.presentation (changes_between s.presentation t.presentation)
        → new ≡ old ++ gone_told tell p q ++ told_of tell q (changes_between p q)
    sought_told old new told =
        told
        ∙ (ap (λ (l : List I). old ++ l ++ told_of tell t.presentation (changes_between s.presentation t.presentation)) gone_here
        ∙ (ap (λ (l : List I). old ++ gone_told tell p q ++ l) (sym (told_same t.presentation (current t.presentation.document edited) differ_here tell (changes_between s.presentation t.presentation)))
        ∙ ap (λ (l : List (ℕ × View)). old ++ gone_told tell p q ++ told_of tell q l) between_here))

-- one that is refused
pub sought_full : (s : CellsState) (shown : List View) (edited : Option Document) (p : Presentation) → IsPlayed s shown (current s.presentation.document edited) → (cells_with s edited).presentation ≡ p
    → (to : ℤ) (e : Refusal) → IsTooFull (sought_of s.presentation to) e → IsTooFull (sought_of p to) e
sought_full s shown edited p is view to e full =
    subst (λ (x : Presentation). IsTooFull (sought_of x to) e) view (full_same (sought_of s.presentation to) (current s.presentation.document edited) is.differ e full)

-- ---- an edit of times

-- what is told of other cells
pub edit_told : {I : Type 0} (tell : Telling I) (s : CellsState) (shown : List View) (edited : Option Document) (p q : Presentation) → IsPlayed s shown (current s.presentation.document edited) → (cells_with s edited).presentation ≡ p
    → (old new : List I) → new ≡ old ++ gone_told tell s.presentation q ++ told_of tell q (changes_between s.presentation q) → new ≡ old ++ gone_told tell p q ++ told_of tell q (changes_between p q)
edit_told tell s shown edited p q is view old new told =
    let d = current s.presentation.document edited in
    told
    ∙ ((λ i. old ++ sym (gone_same s.presentation d is.differ tell q) i ++ told_of tell q (at_moment q.now (changed (sym (shown_same s.presentation d is.differ) i) (views_of q))))
    ∙ ap (λ (x : Presentation). old ++ gone_told tell x q ++ told_of tell q (changes_between x q)) view)

-- ---- other cells, taken over or not

pub played_either : {A E : Type 0} (r : Result A E) (s t n : CellsState) (shown left : List View) (edited : Option Document) → IsPlayed s shown (current s.presentation.document edited) → t.presentation.document ≡ s.presentation.document
    → OnOk r (n ≡ t) → OnOk r (IsPlaying n left) → OnErr r ((n ≡ s) × (left ≡ shown)) → IsPlayed n left (current n.presentation.document edited)
played_either (Ok x) s t n shown left edited is same there playing kept = played_then s n shown left edited is playing (ap (λ (u : CellsState). u.presentation.document) there ∙ same)
played_either (Err x) s t n shown left edited is same there playing kept =
    subst (λ (u : CellsState). IsPlayed u left (current u.presentation.document edited)) (sym kept.0)
    (subst (λ (v : List View). IsPlayed s v (current s.presentation.document edited)) (sym kept.1) is)
