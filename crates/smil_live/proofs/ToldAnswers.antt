-- What a presentation answers to orders that tell something.
use Rattle.std.proofs.Common.{◌≡◌, refl, sym, ◌∙◌, ap, subst, ℕ, ℤ, List, ◌++◌, append_assoc, Option, Some, Result, Ok, Err, OnOk, pos}
use Rattle.std.specs.Prelude.{OnErr, flat_map}
use Rattle.std.specs.Option.{option_map_or}
use Rattle.smil_model.specs.declared.diary.Entry.{Entry}
use Rattle.smil_model.specs.declared.diary.LogEntry.{LogEntry}
use Rattle.smil_model.specs.declared.document.Node.{Node}
use Rattle.smil_model.specs.declared.order.Who.{Who}
use Rattle.smil_model.specs.declared.order.Who.TheVariants as who
use Rattle.smil_model.specs.declared.view.Layer.{Layer}
use Rattle.smil_model.specs.declared.view.View.{View}
use Rattle.smil_model.specs.diary.Diary.{History}
use Rattle.smil_model.specs.document.Document.{Document, elements, node_at}
use Rattle.smil_model.specs.document.Valid.{IsNumberedTree}
use Rattle.smil_model.specs.shown.Answers.{change_text, diary_text, gone_text, history_text, name_in, stack_text, told_line, values_on, values_text}
use Rattle.smil_model.specs.shown.Histories.{intervals_of}
use Rattle.smil_model.specs.shown.Lines.{entry_line, name_of, now_line, outline_end}
use Rattle.smil_model.specs.shown.Orders.{Formats, Presentation, at_moment, resolved_history, views_of}
use Rattle.smil_model.specs.shown.Sandwich.{layers, stack_of}
use Rattle.smil_model.specs.document.Words.{Begins}
use Rattle.smil_past.proofs.ItemReferences.{kept_known as kept_found}
use Rattle.smil_report.specs.Tellings.{as_text}
use Rattle.smil_cells.specs.CellsState.{IsSettled, CellsState, history_of}
use Rattle.smil_shown.specs.ShownViews.{IsPlaying}
use Rattle.smil_shown.specs.Sets.{AreOfElements, AreSetsAmong, AreSetsOf, LayerTable}
use Rattle.smil_live.specs.Telling.{element_named, layers_text}
use Rattle.smil_live.specs.Texts.{IsPlayed, current}
use Rattle.smil_shown.proofs.AllViews.{of_elements}
use Rattle.smil_shown.proofs.SetLayers.{among}
use Rattle.smil_shown.proofs.LineTexts.{begins_more}
use Rattle.smil_live.proofs.OrderOutcomes.{found_named, known, none_gone}
use Rattle.smil_live.proofs.ResolvedHistory.{resolved_is, views_are}
use Rattle.smil_live.proofs.TextsApart.{IsTwin, cells_with, twin_of}

-- ---- the views

-- the views that are kept are those of the elements of the document
pub kept_elements : (s : CellsState) (shown : List View) (d : Document) (vs : List View) → IsPlaying s shown → d ≡ s.presentation.document → vs ≡ shown → AreOfElements d.nodes vs
kept_elements s shown d vs playing same is = of_elements s d vs same (is ∙ playing.shown_is.views_are)

-- and so are their layers
pub kept_sets : (s : CellsState) (shown : List View) (d : Document) (vs : List View) (sets : LayerTable) → IsPlaying s shown → d ≡ s.presentation.document → vs ≡ shown
    → AreSetsOf sets (layers d.nodes vs) → (all : List (ℕ × Layer)) × AreSetsAmong d.nodes sets all
kept_sets s shown d vs sets playing same is are = (layers d.nodes vs, among d.nodes sets vs (kept_elements s shown d vs playing same is) are)

-- the views are those of the presentation
pub kept_views : (s : CellsState) (shown : List View) (p : Presentation) (vs : List View) → IsPlaying s shown → s.presentation ≡ p → vs ≡ shown → vs ≡ views_of p
kept_views s shown p vs playing same is =
    is ∙ playing.shown_is.views_are ∙ sym (views_are s.presentation s.diary playing.shown_is.settled) ∙ ap views_of same

-- ---- nothing is gone

shown_text : (p : Presentation) (d : Document) (vs : List View) → d ≡ p.document → vs ≡ views_of p
    → flat_map (change_text d.nodes) (at_moment p.now vs) ≡ gone_text p p ++ flat_map (change_text p.document.nodes) (at_moment p.now (views_of p))
shown_text p d vs same is =
    ap (λ (x : Document). flat_map (change_text x.nodes) (at_moment p.now vs)) same
    ∙ ap (λ (ws : List View). flat_map (change_text p.document.nodes) (at_moment p.now ws)) is
    ∙ ap (λ (t : List ℕ). t ++ flat_map (change_text p.document.nodes) (at_moment p.now (views_of p))) (sym (none_gone as_text p p refl))

pub shown_answer : (p : Presentation) (d : Document) (vs : List View) (out new : List ℕ) → d ≡ p.document → vs ≡ views_of p → new ≡ out ++ flat_map (change_text d.nodes) (at_moment p.now vs)
    → new ≡ out ++ (gone_text p p ++ flat_map (change_text p.document.nodes) (at_moment p.now (views_of p)))
shown_answer p d vs out new same is told = told ∙ ap (λ (t : List ℕ). out ++ t) (shown_text p d vs same is)

pub begins_or : {A E : Type 0} (r : Result A E) (a b x : List ℕ) → OnOk r (b ≡ a ++ x) → OnErr r (Begins a b) → Begins a b
begins_or (Ok y) a b x more begun = begins_more a b x more
begins_or (Err y) a b x more begun = begun

-- ---- sets

stack_told : (d : Document) (vs : List View) (p : Presentation) (n : Node) (target : ℕ) (attr : List ℕ) → d ≡ p.document → vs ≡ views_of p → n.serial ≡ target
    → layers_text d.nodes (stack_of (layers d.nodes vs) target attr) ≡ stack_text p attr (Some n)
stack_told d vs p n target attr same is own =
    ap (λ (x : Document). layers_text x.nodes (stack_of (layers x.nodes vs) target attr)) same
    ∙ ap (λ (ws : List View). layers_text p.document.nodes (stack_of (layers p.document.nodes ws) target attr)) is
    ∙ ap (λ (t : ℕ). layers_text p.document.nodes (stack_of (layers p.document.nodes (views_of p)) t attr)) (sym own)

values_told : (d : Document) (vs : List View) (p : Presentation) → d ≡ p.document → vs ≡ views_of p → flat_map (values_on d.nodes (layers d.nodes vs)) d.nodes ≡ values_text p
values_told d vs p same is =
    ap (λ (x : Document). flat_map (values_on x.nodes (layers x.nodes vs)) x.nodes) same
    ∙ ap (λ (ws : List View). flat_map (values_on p.document.nodes (layers p.document.nodes ws)) p.document.nodes) is

pub stack_answer : (d : Document) (vs : List View) (p : Presentation) (n : Node) (target : ℕ) (attr out new : List ℕ) → d ≡ p.document → vs ≡ views_of p → n.serial ≡ target
    → new ≡ out ++ layers_text d.nodes (stack_of (layers d.nodes vs) target attr) → new ≡ out ++ stack_text p attr (Some n)
stack_answer d vs p n target attr out new same is own told = told ∙ ap (λ (t : List ℕ). out ++ t) (stack_told d vs p n target attr same is own)

pub values_answer : (d : Document) (vs : List View) (p : Presentation) (out new : List ℕ) → d ≡ p.document → vs ≡ views_of p → new ≡ out ++ flat_map (values_on d.nodes (layers d.nodes vs)) d.nodes → new ≡ out ++ values_text p
values_answer d vs p out new same is told = told ∙ ap (λ (t : List ℕ). out ++ t) (values_told d vs p same is)

-- ---- the diary

four_parts : (a s o f n : List ℕ) → a ++ s ++ o ++ f ++ n ≡ a ++ (s ++ o ++ f ++ n)
four_parts a s o f n =
    ap (λ t. t ++ f ++ n) (append_assoc a s o) ∙ ap (λ t. t ++ n) (append_assoc a (s ++ o) f) ∙ append_assoc a (s ++ o ++ f) n

pub diary_told : (formats : Formats) (p : Presentation) (log : List LogEntry) (book : List Entry) (m : ℤ) (a b c e new : List ℕ)
    → log ≡ p.log → book ≡ (resolved_history p).diary → m ≡ pos p.now
    → b ≡ a ++ formats.saved p.document → c ≡ b ++ outline_end → e ≡ c ++ flat_map (entry_line log) book → new ≡ e ++ now_line m
    → new ≡ a ++ diary_text formats p
diary_told formats p log book m a b c e new logs books at one two three four =
    four
    ∙ ap (λ t. t ++ now_line m) (three ∙ ap (λ t. t ++ flat_map (entry_line log) book) (two ∙ ap (λ t. t ++ outline_end) one))
    ∙ ap (λ (l : List LogEntry). a ++ formats.saved p.document ++ outline_end ++ flat_map (entry_line l) book ++ now_line m) logs
    ∙ ap (λ (ds : List Entry). a ++ formats.saved p.document ++ outline_end ++ flat_map (entry_line p.log) ds ++ now_line m) books
    ∙ ap (λ (z : ℤ). a ++ formats.saved p.document ++ outline_end ++ flat_map (entry_line p.log) (resolved_history p).diary ++ now_line z) at
    ∙ four_parts a (formats.saved p.document) outline_end (flat_map (entry_line p.log) (resolved_history p).diary) (now_line (pos p.now))

pub kept_diary : (s : CellsState) (p : Presentation) → IsSettled s → s.presentation ≡ p → s.diary ≡ (resolved_history p).diary
kept_diary s p settled same = sym (ap (λ (h : History). h.diary) (resolved_is s.presentation s.diary settled)) ∙ ap (λ (q : Presentation). (resolved_history q).diary) same

-- ---- the element that an order names

-- an element that is named is found by its serial
pub record IsAt (p : Presentation) (d : Document) (serial : ℕ) (n : Node) : Type 0 where
  pub node : node_at d.nodes serial ≡ Some n
  pub element : node_at (elements d.nodes) serial ≡ Some n
  pub name : name_in d.nodes serial ≡ name_of n

pub named_element : (p : Presentation) (d : Document) (w : Who) (n : Node) (serial : ℕ) → IsNumberedTree p.document → d ≡ p.document → element_named p w ≡ Ok n → serial ≡ n.serial → IsAt p d serial n
named_element p d w n serial numbered same q own =
    let is = found_named p w n q in
    let here : node_at d.nodes serial ≡ Some n = ap (λ (x : Document). node_at x.nodes serial) same ∙ ap (node_at p.document.nodes) own ∙ known p.document w n numbered is.0 in
    record {
      node = here;
      element = kept_found d.nodes serial n here is.1;
      name = ap (λ (o : Option Node). option_map_or name_of o (who.Serial serial)) here;
    }

-- the element of the document that cells were made of, which has its serial
pub twin_named : (s : CellsState) (shown : List View) (edited : Option Document) (p : Presentation) → IsPlayed s shown (current s.presentation.document edited) → (cells_with s edited).presentation ≡ p
    → (serial : ℕ) (w : Who) (n : Node) → element_named p w ≡ Ok n → serial ≡ n.serial → IsTwin s.presentation.document.nodes serial n
twin_named s shown edited p is view serial w n q own =
    let d = current s.presentation.document edited in
    let at = named_element p d w n serial (subst (λ (x : Presentation). IsNumberedTree x.document) view is.valid.numbered) (ap (λ (x : Presentation). x.document) view) q own in
    twin_of s.presentation.document.nodes d.nodes serial n is.differ at.element

history_told : (s : CellsState) (p : Presentation) (n : Node) (name : Who) → s.presentation ≡ p → IsSettled s → name ≡ name_of n
    → flat_map (told_line name) (intervals_of (history_of s) (pos s.presentation.now) n) ≡ history_text p (Some n)
history_told s p n name same settled is =
    ap (λ (w : Who). flat_map (told_line w) (intervals_of (history_of s) (pos s.presentation.now) n)) is
    ∙ ap (λ (h : History). flat_map (told_line (name_of n)) (intervals_of h (pos s.presentation.now) n)) (sym (resolved_is s.presentation s.diary settled))
    ∙ ap (λ (q : Presentation). flat_map (told_line (name_of n)) (intervals_of (resolved_history q) (pos q.now) n)) same

pub history_answer : (s : CellsState) (p : Presentation) (n : Node) (name : Who) (out new : List ℕ) → s.presentation ≡ p → IsSettled s → name ≡ name_of n
    → new ≡ out ++ flat_map (told_line name) (intervals_of (history_of s) (pos s.presentation.now) n) → new ≡ out ++ history_text p (Some n)
history_answer s p n name out new same settled is told = told ∙ ap (λ (t : List ℕ). out ++ t) (history_told s p n name same settled is)
