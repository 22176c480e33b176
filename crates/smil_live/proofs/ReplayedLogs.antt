-- Presentations made anew, entry by entry of a log.
use Rattle.std.proofs.Common.{◌≡◌, refl, sym, ◌∙◌, ap, subst, ℕ, suc, ◌≤◌, ◌+◌, List, [], ◌∷◌, ◌++◌, Some, None, true, ℤ, arith, inl, inr, length, take, drop, negsuc, w64, FitsSigned}
use Rattle.std.specs.Prelude.{◌⊎◌, min, pos, int_le, nat_abs, slice_get, ◌≤ℤ◌}
use Rattle.std.proofs.lemmas.Int.{ints}
use Rattle.std.proofs.lemmas.List.{length-take, take_all}
use Rattle.smil_model.specs.declared.diary.LogEntry.{LogEntry}
use Rattle.smil_model.specs.declared.order.Refusal.{Refusal}
use Rattle.smil_model.specs.declared.times.TheConstants.{HORIZON}
use Rattle.smil_model.specs.document.Document.{Document}
use Rattle.smil_model.specs.document.Valid.{IsNumberedTree}
use Rattle.smil_model.specs.diary.Logs.{may_happen, moments_rise}
use Rattle.smil_model.specs.happening.Resolution.{diary_of}
use Rattle.smil_model.specs.shown.Orders.{IsState, Presentation, course_of, as_of}
use Rattle.smil_model.proofs.NumberOrders.{le_self, le_both, le_from}
use Rattle.smil_diary.specs.declared.fault.BookFault.{BookFault}
use Rattle.smil_diary.specs.Refusals.{of_book}
use Rattle.smil_diary.specs.declared.fault.BookFault.TheVariants as book_fault
use Rattle.smil_laws.specs.Agreement.{course_on}
use Rattle.smil_laws.proofs.CourseFurther.{le_same}
use Rattle.smil_cells.specs.CellsState.{GoesOn, IsSettled, CellsState, with_logged}
use Rattle.smil_live.specs.Moves.{IsReplayed, IsTooFull, IsUnderWay, heard_at}
use Rattle.smil_live.proofs.FullDiaries.{full_further, full_by_first}
use Rattle.smil_live.proofs.LogParts.{IsAt, at, all_at, log_parts, none_before}

-- ---- numbers

pub not_below : (n : ℕ) (z : ℤ) → pos n ≤ℤ z → pos (nat_abs z) ≡ z
not_below n (pos k) from = refl
not_below n (negsuc k) from = absurd (omega (arith, ints, from))

no_more : (x : ℤ) (n : ℕ) → pos (nat_abs x) ≡ x → int_le x (pos n) ≡ true → nat_abs x ≤ n
no_more (pos k) n e q = grind (arith, ints)
no_more (negsuc k) n e q = cc

pub fits : (n : ℕ) (z : ℤ) → pos n ≤ℤ z → z ≤ℤ HORIZON → FitsSigned w64 z
fits n (pos k) from within = record { sfits = omega (arith, ints, from, within) }
fits n (negsuc k) from within = absurd (omega (arith, ints, from))

-- ---- what a refusal tells

-- a fault of cells that answered none, where what they were to come to has too many entries
pub refused_as : (p q : Presentation) (s : CellsState) (fault : BookFault) → s.fault ≡ None → (fault ≡ book_fault.DiaryFull → (s.fault ≡ Some fault) ⊎ (diary_of (course_of q) ≡ None)) → (diary_of (course_of q) ≡ None → diary_of (course_of p) ≡ None) → IsTooFull p (of_book fault)
refused_as p q s book_fault.Memory sound full more = inl refl
refused_as p q s book_fault.DiaryFull sound full more = by_cause (full refl)
  where
    by_cause : (s.fault ≡ Some book_fault.DiaryFull) ⊎ (diary_of (course_of q) ≡ None) → IsTooFull p (of_book book_fault.DiaryFull)
    by_cause (inl was) = let never : None ≡ Some book_fault.DiaryFull = sym sound ∙ was in cc
    by_cause (inr none) = inr (refl, more none)

-- an entry more at the same moment
pub full_heard : (p : Presentation) (x : LogEntry) → IsNumberedTree p.document → x.moment ≡ pos p.now → diary_of (course_of p) ≡ None → diary_of (course_of (with_logged p x)) ≡ None
full_heard p x numbered here none =
    full_further p.document p.log (x ∷ []) p.now p.now numbered (ap (int_le (pos p.now)) here ∙ le_same p.now, tt) (omega arith) none

-- ---- under way to a presentation

-- the next entry, at which they may settle
pub record IsNextOf (p : Presentation) (place : ℕ) (s : CellsState) (x : LogEntry) : Type 0 where
  pub from : pos s.presentation.now ≤ℤ x.moment
  pub within : x.moment ≤ℤ HORIZON
  pub may : may_happen x.what ≡ true
  pub numbered : IsNumberedTree s.presentation.document
  pub natural : pos (nat_abs x.moment) ≡ x.moment
  pub until : nat_abs x.moment ≤ p.now
  pub here : IsAt (pos s.presentation.now) p.log place x

-- no more was heard than there is
pub heard_within : (p : Presentation) (place : ℕ) (s : CellsState) → IsUnderWay p place s → length s.presentation.log ≤ length p.log
heard_within p place s way =
    let same : length s.presentation.log ≡ min place (length p.log) = ap (λ (l : List LogEntry). length l) way.log_is ∙ length-take place p.log in
    omega (arith, same)

module _ (p : Presentation) (state : IsState p) where
  pub under_way : (s : CellsState) → s.presentation ≡ record { document = p.document; log = []; now = 0 } → s.fault ≡ None → s.marked ≡ None → IsUnderWay p 0 s
  under_way s is sound unmarked = record {
    document_is = ap (λ (q : Presentation). q.document) is;
    log_is = ap (λ (q : Presentation). q.log) is;
    rise = ap (λ (q : Presentation). moments_rise (pos q.now) p.log) is ∙ (log_parts p.log state.log).0;
    until = let start = ap (λ (q : Presentation). q.now) is in omega (arith, start);
    sound = sound;
    unmarked = unmarked;
  }

  module _ (place : ℕ) (s : CellsState) (way : IsUnderWay p place s) (x : LogEntry) (is : slice_get p.log place ≡ Some x) where
    pub next_of : IsNextOf p place s x
    next_of =
        let here = at (pos s.presentation.now) p.log place x way.rise is in
        let whole = not_below s.presentation.now x.moment (le_from (pos s.presentation.now) x.moment here.from) in
        let sooner = all_at (λ (y : LogEntry). int_le y.moment (pos p.now)) p.log place x state.logged is in
        record {
          from = le_from (pos s.presentation.now) x.moment here.from;
          within = le_from x.moment HORIZON (le_both x.moment (pos p.now) HORIZON sooner state.now);
          may = all_at (λ (y : LogEntry). may_happen y.what) p.log place x (log_parts p.log state.log).1 is;
          numbered = subst (λ (d : Document). IsNumberedTree d) (sym way.document_is) state.document.numbered;
          natural = whole;
          until = no_more x.moment p.now whole sooner;
          here = here;
        }

    -- the cells behind that entry
    abbrev heard : Presentation
    heard = heard_at s.presentation x

    pub goes_on : (t : CellsState) → t.presentation ≡ heard → t.fault ≡ None → t.marked ≡ s.marked → IsUnderWay p (place + 1) t
    goes_on t is' sound marked =
        let next = next_of in
        let now_is : pos t.presentation.now ≡ x.moment = ap (λ (q : Presentation). pos q.now) is' ∙ next.natural in
        subst (λ (n : ℕ). IsUnderWay p n t) one_more (record {
          document_is = ap (λ (q : Presentation). q.document) is' ∙ way.document_is;
          log_is = ap (λ (q : Presentation). q.log) is' ∙ ap (λ (l : List LogEntry). l ++ x ∷ []) way.log_is ∙ sym next.here.front;
          rise = ap (λ (m : ℤ). moments_rise m (drop (suc place) p.log)) now_is ∙ next.here.later;
          until = let there = ap (λ (q : Presentation). q.now) is' in let until = next.until in omega (arith, there, until);
          sound = sound;
          unmarked = marked ∙ way.unmarked;
        })
      where
        one_more : suc place ≡ place + 1
        one_more = omega arith

    -- where it has too many entries, so has the whole
    pub too_full : (given : Refusal) → IsTooFull heard given → IsTooFull p given
    too_full given (inl memory) = inl memory
    too_full given (inr (full, none)) = inr (full, whole_full)
      where
        next : IsNextOf p place s x
        next = next_of

        here : s.presentation.log ++ x ∷ [] ≡ take (suc place) p.log
        here = ap (λ (l : List LogEntry). l ++ x ∷ []) way.log_is ∙ sym next.here.front

        first : diary_of (course_on p.document.nodes (take (suc place) p.log) (nat_abs x.moment)) ≡ None
        first =
            subst (λ (d : Document). diary_of (course_on d.nodes (take (suc place) p.log) (nat_abs x.moment)) ≡ None) way.document_is
            (subst (λ (l : List LogEntry). diary_of (course_on s.presentation.document.nodes l (nat_abs x.moment)) ≡ None) here none)

        whole_full : diary_of (course_of p) ≡ None
        whole_full =
            full_by_first p.document p.log (suc place) (nat_abs x.moment) p.now state.document.numbered
            (none_before (pos (nat_abs x.moment)) x.moment (drop (suc place) p.log) (ap (λ (m : ℤ). int_le m x.moment) next.natural ∙ le_self x.moment) next.here.later) next.until first

  -- ---- at the end

  module _ (place : ℕ) (s : CellsState) (way : IsUnderWay p place s) (past : length p.log ≤ place) where
    pub at_end : as_of s.presentation p.now ≡ p
    at_end = made s.presentation p way.document_is (way.log_is ∙ take_all place p.log past)
      where
        by_parts : (d e : Document) (l m : List LogEntry) (n : ℕ) → d ≡ e → l ≡ m → as_of (record { document = d; log = l; now = n }) n ≡ record { document = e; log = m; now = n }
        by_parts d e l m n p q = cc

        made : (a b : Presentation) → a.document ≡ b.document → a.log ≡ b.log → as_of a b.now ≡ b
        made a b d l = by_parts a.document b.document a.log b.log b.now d l

    pub arrived : (t : CellsState) → t.presentation ≡ as_of s.presentation p.now → IsSettled t → GoesOn s t → IsReplayed p t
    arrived t is settled on = record {
      presentation_is = is ∙ at_end;
      sound = on.sound;
      unmarked = on.marked ∙ way.unmarked;
      settled = settled;
    }

    pub refused_there : (fault : BookFault) → (fault ≡ book_fault.DiaryFull → (s.fault ≡ Some fault) ⊎ (diary_of (course_of (as_of s.presentation p.now)) ≡ None)) → IsTooFull p (of_book fault)
    refused_there fault full =
        refused_as p (as_of s.presentation p.now) s fault way.sound full (subst (λ (q : Presentation). diary_of (course_of q) ≡ None) at_end)
