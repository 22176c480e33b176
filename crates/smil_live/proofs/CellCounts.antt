-- How often cells that go on have intervals evaluated: by one standing after another, and by the
-- presentations.
use Rattle.std.proofs.Common.{◌≡◌, refl, sym, ◌∙◌, ap, subst, ℕ, ◌+◌, ◌-◌, ◌≤◌, List, [], ◌++◌, Bool, arith, length, drop, append-nil}
use Rattle.std.specs.Prelude.{pos, Result, Ok, Err, OnOk}
use Rattle.smil_model.specs.declared.diary.Entry.{Entry}
use Rattle.smil_model.specs.declared.diary.LogEntry.{LogEntry}
use Rattle.smil_model.specs.declared.view.View.{View}
use Rattle.smil_model.specs.document.Document.{Document}
use Rattle.smil_model.specs.diary.Diary.{History}
use Rattle.smil_model.specs.interval.Current.{current_interval}
use Rattle.smil_model.specs.reach.Bounds.{reaches}
use Rattle.smil_model.specs.shown.Orders.{Presentation, course_of, as_of}
use Rattle.smil_cells.specs.CellsState.{GoesOn, IsSettled, CellsState, WhereTold, fresh, fresh_since, interval_at, reached_since}
use Rattle.smil_cells.proofs.SettlingSteps.{drops, fresh_through, joined, least_adds_up, most_adds_up, nothing_fresh, nothing_reached, reached_through}
use Rattle.smil_live.specs.Counts.{diary_at, interval_by, least_onward, most_onward}
use Rattle.smil_live.specs.Moves.{IsShownAt, made}
use Rattle.smil_live.specs.declared.moves.Move.{Move}
use Rattle.smil_live.specs.declared.moves.Move.TheVariants as move
use Rattle.smil_shown.proofs.SettledDiaries.{diary_is}
use Rattle.smil_live.proofs.ResolvedHistory.{resolved_is}

-- ---- one standing after another

-- a standing goes on from another, and so often were intervals evaluated by then
pub record IsCounted (counts : Bool) (old new : CellsState) (before after : ℕ) : Type 0 where
  pub diary : (more : List Entry) × (new.diary ≡ old.diary ++ more)
  pub from : before ≤ after
  pub most : WhereTold counts (after - before ≤ reached_since old new)
  pub least : WhereTold counts (fresh_since old new ≤ after - before)

pub counted_first : (counts : Bool) (s : CellsState) (steps : ℕ) → IsCounted counts s s steps steps
counted_first counts s steps = record {
  diary = ([], sym (append-nil s.diary));
  from = omega arith;
  most = nothing_reached s counts steps;
  least = nothing_fresh s counts steps;
}

-- two standings, one after the other, with the same document; the first entries reach as many
-- elements by the new log
module _ (old mid new : CellsState) (document : mid.presentation.document ≡ old.presentation.document)
    (m n : List Entry) (first : mid.diary ≡ old.diary ++ m) (second : new.diary ≡ mid.diary ++ n)
    (by_mid : reached_since old mid ≡ reaches old.presentation.document.nodes new.presentation.log m) (a b c : ℕ) (later : b ≤ c) where
  pub counted_by : (counts : Bool) → IsCounted counts old mid a b → WhereTold counts (c - b ≤ reached_since mid new) → WhereTold counts (fresh_since mid new ≤ c - b) → IsCounted counts old new a c
  counted_by counts is most least = record {
    diary = (m ++ n, joined old.diary mid.diary new.diary m n first second);
    from = let f = is.from in omega (arith, f, later);
    most = most_adds_up counts a b c (reached_since old mid) (reached_since mid new) (reached_since old new) is.from later (reached_through old mid new document m n first second by_mid) is.most most;
    least = least_adds_up counts a b c (fresh_since old mid) (fresh_since mid new) (fresh_since old new) is.from later (fresh_through old mid new document) is.least least;
  }

-- a standing at a later moment that goes on from the one before
pub counted_then : (counts : Bool) (old mid new : CellsState) (moment : ℕ) (shown : List View) (a b c : ℕ) → mid.presentation ≡ as_of old.presentation mid.presentation.now → IsCounted counts old mid a b
    → b ≤ c → IsShownAt (as_of mid.presentation moment) new shown → GoesOn mid new → WhereTold counts (c - b ≤ reached_since mid new) → WhereTold counts (fresh_since mid new ≤ c - b)
    → IsCounted counts old new a c
counted_then counts old mid new moment shown a b c moved is later at on most least =
    let nodes = old.presentation.document.nodes in
    let log : new.presentation.log ≡ mid.presentation.log = ap (λ (p : Presentation). p.log) at.presentation_is in
    let by_mid : reached_since old mid ≡ reaches nodes new.presentation.log is.diary.0 =
    ap (λ (l : List LogEntry). reaches nodes l (drop (length old.diary) mid.diary)) (sym log) ∙ ap (reaches nodes new.presentation.log) (drops old.diary is.diary.0 mid.diary is.diary.1) in
    counted_by old mid new (ap (λ (p : Presentation). p.document) moved) is.diary.0 on.diary.0 is.diary.1 on.diary.1 by_mid a b c later counts is most least

pub counted_last : {A E : Type 0} (r : Result A E) (counts : Bool) (old mid new : CellsState) (moment : ℕ) (shown : List View) (a b c : ℕ) → mid.presentation ≡ as_of old.presentation mid.presentation.now
    → IsCounted counts old mid a b → b ≤ c → OnOk r (IsShownAt (as_of mid.presentation moment) new shown) → OnOk r (GoesOn mid new) → OnOk r (WhereTold counts (c - b ≤ reached_since mid new))
    → OnOk r (WhereTold counts (fresh_since mid new ≤ c - b)) → OnOk r (IsCounted counts old new a c)
counted_last (Err e) counts old mid new moment shown a b c moved is later at on most least = tt
counted_last (Ok x) counts old mid new moment shown a b c moved is later at on most least =
    counted_then counts old mid new moment shown a b c moved is later at on most least

-- ---- by the presentations

reached_is : (old new : CellsState) → IsSettled old → IsSettled new → new.presentation.document ≡ old.presentation.document
    → reached_since old new ≡ most_onward old.presentation new.presentation
reached_is old new was settled document =
    ap (λ (d : List Entry). reaches old.presentation.document.nodes new.presentation.log (drop (length d) new.diary)) (sym (diary_is (course_of old.presentation) old.diary was))
    ∙ ap (λ (d : List Entry). reaches old.presentation.document.nodes new.presentation.log (drop (length (diary_at old.presentation)) d)) (sym (diary_is (course_of new.presentation) new.diary settled))
    ∙ ap (λ (d : Document). reaches d.nodes new.presentation.log (drop (length (diary_at old.presentation)) (diary_at new.presentation))) (sym document)

fresh_is : (old new : CellsState) → IsSettled old → IsSettled new → fresh_since old new ≡ least_onward old.presentation new.presentation
fresh_is old new was settled =
    ap (λ (h : History). fresh old.presentation.document.nodes (current_interval h (pos old.presentation.now)) (interval_at new)) (sym (resolved_is old.presentation old.diary was))
    ∙ ap (λ (h : History). fresh old.presentation.document.nodes (interval_by old.presentation) (current_interval h (pos new.presentation.now))) (sym (resolved_is new.presentation new.diary settled))

-- a move stays with the document
made_document : (p : Presentation) (step : Move) → (made p step).document ≡ p.document
made_document p (move.Pass to) = refl
made_document p (move.Settle to) = refl
made_document p (move.Hear entry) = refl

pub most_made : {A E : Type 0} (r : Result A E) (counts : Bool) (old new : CellsState) (p : Presentation) (step : Move) (shown : List View) (rise : ℕ) → IsSettled old → old.presentation ≡ p
    → OnOk r (IsShownAt (made old.presentation step) new shown) → OnOk r (WhereTold counts (rise ≤ reached_since old new)) → OnOk r (WhereTold counts (rise ≤ most_onward p (made p step)))
most_made (Err e) counts old new p step shown rise was here at most = tt
most_made (Ok x) counts old new p step shown rise was here at most =
    subst (λ (q : Presentation). WhereTold counts (rise ≤ most_onward q (made q step))) here
    (subst (λ (q : Presentation). WhereTold counts (rise ≤ most_onward old.presentation q)) at.presentation_is
    (subst (λ (n : ℕ). WhereTold counts (rise ≤ n))
    (reached_is old new was at.shown_is.settled (ap (λ (q : Presentation). q.document) at.presentation_is ∙ made_document old.presentation step)) most))

pub least_made : {A E : Type 0} (r : Result A E) (counts : Bool) (old new : CellsState) (p : Presentation) (step : Move) (shown : List View) (rise : ℕ) → IsSettled old → old.presentation ≡ p
    → OnOk r (IsShownAt (made old.presentation step) new shown) → OnOk r (WhereTold counts (fresh_since old new ≤ rise)) → OnOk r (WhereTold counts (least_onward p (made p step) ≤ rise))
least_made (Err e) counts old new p step shown rise was here at least = tt
least_made (Ok x) counts old new p step shown rise was here at least =
    subst (λ (q : Presentation). WhereTold counts (least_onward q (made q step) ≤ rise)) here
    (subst (λ (q : Presentation). WhereTold counts (least_onward old.presentation q ≤ rise)) at.presentation_is
    (subst (λ (n : ℕ). WhereTold counts (n ≤ rise)) (fresh_is old new was at.shown_is.settled) least))
