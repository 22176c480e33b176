-- Presentations whose documents differ in plain texts alone: orders make the same of them, they
-- tell the same, and have intervals evaluated as often.
use Rattle.std.proofs.Common.{◌≡◌, refl, sym, ◌∙◌, ap, ℕ, suc, zero, ◌+◌, ◌-◌, List, [], ◌∷◌, ◌++◌, length, Option, Some, None, inl, inr}
use Rattle.std.specs.Prelude.{Bool, map, drop, filter, flat_map, is_some, nat_abs, not, option_map, pos, ℤ, ◌-ℤ◌, ◌&&◌}
use Rattle.std.specs.Option.{option_map_or}
use Rattle.smil_model.specs.declared.diary.Entry.{Entry}
use Rattle.smil_model.specs.declared.document.Node.{Node}
use Rattle.smil_model.specs.declared.interval.Interval.{Interval}
use Rattle.smil_model.specs.declared.limits.TheConstants.{DIARY_ENTRIES}
use Rattle.smil_model.specs.declared.order.Refusal.{Refusal}
use Rattle.smil_model.specs.declared.order.Who.TheVariants as who
use Rattle.smil_model.specs.declared.view.State.{State}
use Rattle.smil_model.specs.declared.view.State.TheVariants as state
use Rattle.smil_model.specs.declared.view.View.{View}
use Rattle.smil_model.specs.diary.Diary.{History}
use Rattle.smil_model.specs.diary.Plays.{FinishedInterval}
use Rattle.smil_model.specs.document.Document.{Document, elements, node_at}
use Rattle.smil_model.specs.document.Valid.{IsValid}
use Rattle.smil_model.specs.happening.Keys.{coming}
use Rattle.smil_model.specs.happening.Resolution.{diary_of}
use Rattle.smil_model.specs.interval.Current.{current_interval}
use Rattle.smil_model.specs.reach.Bounds.{reaches}
use Rattle.smil_model.specs.shown.Answers.{name_in}
use Rattle.smil_model.specs.shown.Histories.{intervals_of}
use Rattle.smil_model.specs.shown.Lines.{name_of}
use Rattle.smil_model.specs.shown.Orders.{IsState, Presentation, as_of, at_moment, changed, changes_between, changes_through, course_of, gone_from, views_of}
use Rattle.smil_model.specs.shown.Views.{views}
use Rattle.smil_text_laws.specs.PlainTexts.{DifferInTexts, bare, history_in, with_document, without_texts}
use Rattle.smil_text_laws.proofs.BareDocuments.{elements_bare, node_bare, read_same}
use Rattle.smil_text_laws.proofs.BareHappenings.{coming_same}
use Rattle.smil_text_laws.proofs.BareHistories.{bare_of, iteration_start_same, last_finished_same, outer_same, run_same, stands_same}
use Rattle.smil_text_laws.proofs.BareIntervals.{current_same}
use Rattle.smil_text_laws.proofs.BareLists.{filter_mapped, length_mapped}
use Rattle.smil_text_laws.proofs.BarePresentations.{presented_same}
use Rattle.smil_text_laws.proofs.BareReaches.{reaches_same}
use Rattle.smil_text_laws.proofs.BareSame.{same_at, same_of}
use Rattle.smil_text_laws.proofs.BareViews.{listed_same, views_same}
use Rattle.smil_report.specs.Tellings.{Telling, changes_told, gone_told}
use Rattle.smil_cells.specs.CellsState.{CellsState, IsRebuilt, MayRebuild, any_interval, fresh, history_of, is_same_interval}
use Rattle.smil_house.specs.Screen.{on_screen, position_by, showing_by, since_iteration}
use Rattle.smil_shown.specs.ShownViews.{IsPlaying}
use Rattle.smil_live.specs.Counts.{diary_at, element_count, interval_by, least_loading, least_onward, most_onward, reached_behind}
use Rattle.smil_live.specs.Moves.{IsTooFull, changes_by, made, told_of}
use Rattle.smil_live.specs.Texts.{IsPlayed, current}
use Rattle.smil_live.specs.declared.moves.Move.{Move}
use Rattle.smil_live.specs.declared.moves.Move.TheVariants as move

-- ---- lists

flat_mapped : {A B C : Type 0} (f : A → B) (g : B → List C) (h : A → List C) → ((x : A) → g (f x) ≡ h x) → (xs : List A) → flat_map g (map f xs) ≡ flat_map h xs
flat_mapped f g h same [] = refl
flat_mapped f g h same (x ∷ xs) = λ i. same x i ++ flat_mapped f g h same xs i

-- ---- what is read of the nodes

name_bare : (ns : List Node) (s : ℕ) → name_in (bare ns) s ≡ name_in ns s
name_bare ns s =
    ap (λ (o : Option Node). option_map_or name_of o (who.Serial s)) (node_bare ns s)
    ∙ read_same (λ (o : Option Node). option_map_or name_of o (who.Serial s)) (λ (o : Option Node). option_map_or name_of o (who.Serial s)) refl (λ n. refl) (node_at ns s)

counted_bare : (test : Node → Bool) → ((n : Node) → test (without_texts n) ≡ test n) → (ns : List Node) → length (filter test (elements (bare ns))) ≡ length (filter test (elements ns))
counted_bare test same ns =
    ap (λ (es : List Node). length (filter test es)) (elements_bare ns)
    ∙ (ap length (filter_mapped without_texts test test same (elements ns)) ∙ length_mapped without_texts (filter test (elements ns)))

fresh_bare : (before after : ℕ → Option Interval) (ns : List Node) → fresh (bare ns) before after ≡ fresh ns before after
fresh_bare before after ns = counted_bare (λ (e : Node). is_some (after e.serial) && not (is_same_interval (before e.serial) (after e.serial))) (λ n. refl) ns

any_bare : (intervals : ℕ → Option Interval) (ns : List Node) → any_interval (bare ns) intervals ≡ any_interval ns intervals
any_bare intervals ns = counted_bare (λ (e : Node). is_some (intervals e.serial)) (λ n. refl) ns

module _ {I : Type 0} (tell : Telling I) where
  told_bare : (changes : List (ℕ × View)) (ns : List Node) → changes_told tell (bare ns) changes ≡ changes_told tell ns changes
  told_bare changes ns = λ i. flat_map (λ (c : ℕ × View). tell.change (pos c.0) (name_bare ns (c.1).serial i) c.1) changes

  abbrev gone_of : ℤ → Node → List I
  gone_of moment n = tell.gone moment (name_of n) n.serial

  gone_bare : (moment : ℤ) (after ns : List Node) → flat_map (gone_of moment) (gone_from after (bare ns)) ≡ flat_map (gone_of moment) (gone_from after ns)
  gone_bare moment after ns =
      let test : Node → Bool = λ n. not (is_some (node_at after n.serial)) in
      ap (λ (es : List Node). flat_map (gone_of moment) (filter test es)) (elements_bare ns)
      ∙ (ap (flat_map (gone_of moment)) (filter_mapped without_texts test test (λ n. refl) (elements ns))
      ∙ flat_mapped without_texts (gone_of moment) (gone_of moment) (λ n. refl) (filter test (elements ns)))

-- ---- a presentation with another document

module _ (p : Presentation) (d : Document) (differ : DifferInTexts p.document.nodes d.nodes) where
  pub diary_same : diary_at (with_document p d) ≡ diary_at p
  diary_same = sym (presented_same p d differ).diary

  pub shown_same : views_of (with_document p d) ≡ views_of p
  shown_same = sym (presented_same p d differ).views

  pub room_same : diary_of (course_of (with_document p d)) ≡ diary_of (course_of p)
  room_same = sym ((presented_same p d differ).full DIARY_ENTRIES)

  pub state_same : IsState p → IsValid d → IsState (with_document p d)
  state_same state valid = record { document = valid; log = state.log; logged = state.logged; now = state.now }

  pub full_same : (e : Refusal) → IsTooFull p e → IsTooFull (with_document p d) e
  full_same e (inl memory) = inl memory
  full_same e (inr full) = inr (full.0, room_same ∙ full.1)

  pub count_same : element_count (with_document p d) ≡ element_count p
  count_same = sym (same_of (λ ns. length (elements ns)) (λ ns. ap length (elements_bare ns) ∙ length_mapped without_texts (elements ns)) p.document.nodes d.nodes differ)

  pub reached_same : (len : ℕ) → reached_behind len (with_document p d) ≡ reached_behind len p
  reached_same len =
      ap (λ (entries : List Entry). reaches d.nodes p.log (drop len entries)) diary_same
      ∙ sym (same_of (λ ns. reaches ns p.log (drop len (diary_at p))) (λ ns. reaches_same ns p.log (drop len (diary_at p))) p.document.nodes d.nodes differ)

  pub interval_same : (s : ℕ) → interval_by (with_document p d) s ≡ interval_by p s
  interval_same s =
      ap (λ (entries : List Entry). current_interval (history_in d.nodes p.log entries) (pos p.now) s) diary_same
      ∙ sym (same_of (λ ns. current_interval (history_in ns p.log (diary_at p)) (pos p.now) s) (λ ns. current_same (history_in ns p.log (diary_at p)) (pos p.now) s) p.document.nodes d.nodes differ)

  pub loading_same : least_loading (with_document p d) ≡ least_loading p
  loading_same =
      (λ i. any_interval d.nodes (λ s. interval_same s i))
      ∙ sym (same_of (λ ns. any_interval ns (interval_by p)) (any_bare (interval_by p)) p.document.nodes d.nodes differ)

  module _ {I : Type 0} (tell : Telling I) where
    pub told_same : (changes : List (ℕ × View)) → told_of tell (with_document p d) changes ≡ told_of tell p changes
    told_same changes = sym (same_of (λ ns. changes_told tell ns changes) (told_bare tell changes) p.document.nodes d.nodes differ)

    pub gone_same : (q : Presentation) → gone_told tell (with_document p d) q ≡ gone_told tell p q
    gone_same q = sym (same_of (λ ns. flat_map (gone_of tell (pos q.now)) (gone_from q.document.nodes ns)) (gone_bare tell (pos q.now) q.document.nodes) p.document.nodes d.nodes differ)

-- ---- from one to another

module _ (p q : Presentation) (d : Document) (differ : DifferInTexts p.document.nodes d.nodes) (other : DifferInTexts q.document.nodes d.nodes) where
  pub most_same : most_onward (with_document p d) (with_document q d) ≡ most_onward p q
  most_same = ap (λ (entries : List Entry). reached_behind (length entries) (with_document q d)) (diary_same p d differ) ∙ reached_same q d other (length (diary_at p))

  pub least_same : least_onward (with_document p d) (with_document q d) ≡ least_onward p q
  least_same =
      (λ i. fresh d.nodes (λ s. interval_same p d differ s i) (λ s. interval_same q d other s i))
      ∙ sym (same_of (λ ns. fresh ns (interval_by p) (interval_by q)) (fresh_bare (interval_by p) (interval_by q)) p.document.nodes d.nodes differ)

  pub between_same : changes_between (with_document p d) (with_document q d) ≡ changes_between p q
  between_same = λ i. at_moment q.now (changed (shown_same p d differ i) (shown_same q d other i))

pub through_same : (p : Presentation) (d : Document) → DifferInTexts p.document.nodes d.nodes → (k : ℕ) → changes_through (with_document p d) k ≡ changes_through p k
through_same p d differ zero = refl
through_same p d differ (suc k) =
    λ i. through_same p d differ k i
    ++ at_moment (suc (p.now + k)) (changed (shown_same (as_of p (p.now + k)) d differ i) (shown_same (as_of p (suc (p.now + k))) d differ i))

-- ---- a move

module _ (p : Presentation) (d : Document) (differ : DifferInTexts p.document.nodes d.nodes) where
  pub made_same : (step : Move) → made (with_document p d) step ≡ with_document (made p step) d
  made_same (move.Pass to) = refl
  made_same (move.Settle to) = refl
  made_same (move.Hear entry) = refl

  pub made_differs : (step : Move) → DifferInTexts (made p step).document.nodes d.nodes
  made_differs (move.Pass to) = differ
  made_differs (move.Settle to) = differ
  made_differs (move.Hear entry) = differ

  pub changes_same : (step : Move) → changes_by (with_document p d) step ≡ changes_by p step
  changes_same (move.Pass to) = through_same p d differ (nat_abs to - p.now)
  changes_same (move.Settle to) = between_same p (made p (move.Settle to)) d differ differ
  changes_same (move.Hear entry) = between_same p (made p (move.Hear entry)) d differ differ

-- ---- cells

-- cells with another document
abbrev pub cells_with : CellsState → Option Document → CellsState
cells_with s edited = record s { presentation = with_document s.presentation (current s.presentation.document edited) }

pub cells_playing : (s : CellsState) (shown : List View) (edited : Option Document) → IsPlayed s shown (current s.presentation.document edited) → IsPlaying (cells_with s edited) shown
cells_playing s shown edited is =
    let d = current s.presentation.document edited in
    let p = s.presentation in
    record {
      shown_is = record {
        state = state_same p d is.differ is.playing.shown_is.state is.valid;
        sound = is.playing.shown_is.sound;
        settled = room_same p d is.differ ∙ is.playing.shown_is.settled;
        views_are =
            is.playing.shown_is.views_are
            ∙ same_of (λ ns. views (history_in ns p.log s.diary) (pos p.now)) (λ ns. views_same (history_in ns p.log s.diary) (pos p.now)) p.document.nodes d.nodes is.differ;
      };
      unmarked = is.playing.unmarked;
    }

-- cells of their own document
pub played_own : (s : CellsState) (shown : List View) → IsPlaying s shown → IsPlayed s shown s.presentation.document
played_own s shown is = record { playing = is; valid = is.shown_is.state.document; differ = refl }

-- they are rebuilt in the same way
module _ (s : CellsState) (edited : Option Document) {document : Document} {len : ℕ} where
  pub rebuilds_own : MayRebuild (cells_with s edited) document len → MayRebuild s document len
  rebuilds_own may = record {
    valid = may.valid;
    within = may.within;
    unmarked = may.unmarked;
    at = may.at;
    diary_is = may.diary_is;
    moment_is = may.moment_is;
    reached = may.reached;
  }

  pub rebuilt_with : {t : CellsState} → IsRebuilt s document len t → IsRebuilt (cells_with s edited) document len t
  rebuilt_with is = record {
    document_is = is.document_is;
    diary_is = is.diary_is;
    log_is = is.log_is;
    moment_is = is.moment_is;
    sound = is.sound;
    unmarked = is.unmarked;
  }

-- what comes is the same
pub coming_with : (s : CellsState) (shown : List View) (edited : Option Document) → IsPlayed s shown (current s.presentation.document edited)
    → coming (history_of s) (pos s.presentation.now) ≡ coming (history_of (cells_with s edited)) (pos s.presentation.now)
coming_with s shown edited is =
    let p = s.presentation in
    same_of (λ ns. coming (history_in ns p.log s.diary) (pos p.now)) (λ ns. coming_same (history_in ns p.log s.diary) (pos p.now)) p.document.nodes (current p.document edited).nodes is.differ

-- the element of the other document that has the same serial
pub record IsTwin (ns : List Node) (serial : ℕ) (n : Node) : Type 0 where
  pub twin : Node
  pub found : node_at (elements ns) serial ≡ Some twin
  pub alike : without_texts twin ≡ without_texts n

pub twin_of : (old new : List Node) (serial : ℕ) (n : Node) → DifferInTexts old new → node_at (elements new) serial ≡ Some n → IsTwin old serial n
twin_of old new serial n differ at = by_case (node_at (elements old) serial) refl
  where
    element_bare : (ns : List Node) → node_at (elements (bare ns)) serial ≡ option_map without_texts (node_at (elements ns) serial)
    element_bare ns = ap (λ (es : List Node). node_at es serial) (elements_bare ns) ∙ node_bare (elements ns) serial

    both : option_map without_texts (node_at (elements old) serial) ≡ Some (without_texts n)
    both = sym (element_bare old) ∙ (ap (λ (ns : List Node). node_at (elements ns) serial) differ ∙ (element_bare new ∙ ap (option_map without_texts) at))

    by_case : (o : Option Node) → node_at (elements old) serial ≡ o → IsTwin old serial n
    by_case None none = let never : ◌≡◌ {A = Option Node} None (Some (without_texts n)) = sym (ap (option_map without_texts) none) ∙ both in absurd cc
    by_case (Some m) some =
        let same : ◌≡◌ {A = Option Node} (Some (without_texts m)) (Some (without_texts n)) = sym (ap (option_map without_texts) some) ∙ both in
        record { twin = m; found = some; alike = cc }

-- which has the same intervals
pub listed_with : (s : CellsState) (shown : List View) (edited : Option Document) (m n : Node) → IsPlayed s shown (current s.presentation.document edited) → without_texts m ≡ without_texts n
    → intervals_of (history_of s) (pos s.presentation.now) m ≡ intervals_of (history_of (cells_with s edited)) (pos s.presentation.now) n
listed_with s shown edited m n is alike =
    let p = s.presentation in
    same_at (λ ns e. intervals_of (history_in ns p.log s.diary) (pos p.now) e) (λ ns e. listed_same (history_in ns p.log s.diary) (pos p.now) e) p.document.nodes (current p.document edited).nodes is.differ m n alike

-- ---- what is on the screen

module _ (h : History) where
  since_same : (s : ℕ) (now : ℤ) → since_iteration (bare_of h) s now ≡ since_iteration h s now
  since_same s now = λ i. run_same h s now i -ℤ iteration_start_same h s i

  position_same : (s : ℕ) (now : ℤ) (state : State) → position_by (bare_of h) s now state ≡ position_by h s now state
  position_same s now state.Active = since_same s now
  position_same s now state.Paused = since_same s now
  position_same s now state.Frozen = λ i. since_same s now i -ℤ option_map_or (λ (f : FinishedInterval). outer_same h s now i -ℤ f.finish.value) (last_finished_same h s i) (pos 0)
  position_same s now state.Idle = refl
  position_same s now state.Waiting = refl
  position_same s now state.Deferred = refl
  position_same s now state.Done = refl

  screen_same : (now : ℤ) (v : View) → on_screen (bare_of h) now v ≡ on_screen h now v
  screen_same now v = λ i. record {
    serial = v.serial;
    showing = showing_by (stands_same h v.serial i) v.state;
    position = position_same v.serial now v.state i;
    iteration = v.iteration;
  }

pub screen_with : (s : CellsState) (shown : List View) (edited : Option Document) (v : View) → IsPlayed s shown (current s.presentation.document edited)
    → on_screen (history_of s) (pos s.presentation.now) v ≡ on_screen (history_of (cells_with s edited)) (pos s.presentation.now) v
screen_with s shown edited v is =
    let p = s.presentation in
    same_of (λ ns. on_screen (history_in ns p.log s.diary) (pos p.now) v) (λ ns. screen_same (history_in ns p.log s.diary) (pos p.now) v) p.document.nodes (current p.document edited).nodes is.differ
