-- A presentation passed through from one due moment to the next: what was told by then, and what is
-- left.
use Rattle.std.proofs.Common.{◌≡◌, refl, sym, ◌∙◌, ap, subst, ℕ, ◌<◌, ◌≤◌, ◌+◌, ◌-◌, List, ◌++◌, Some, None, ℤ, arith, inl, inr, append_assoc, append-nil}
use Rattle.std.specs.Prelude.{pos, negsuc, nat_abs, ◌≤ℤ◌, ◌+ℤ◌}
use Rattle.std.proofs.lemmas.Int.{ints}
use Rattle.std.proofs.lemmas.Grind.{flat_map-append}
use Rattle.smil_model.specs.declared.diary.Entry.{Entry}
use Rattle.smil_model.specs.declared.order.Refusal.{Refusal}
use Rattle.smil_model.specs.declared.view.View.{View}
use Rattle.smil_model.specs.document.Document.{Document}
use Rattle.smil_model.specs.document.Valid.{IsNumberedTree}
use Rattle.smil_model.specs.happening.Keys.{DueChange}
use Rattle.smil_model.specs.happening.Resolution.{diary_of}
use Rattle.smil_model.specs.shown.Orders.{Presentation, as_of, course_of, changes_between, changes_through}
use Rattle.smil_report.specs.Tellings.{Telling, change_told}
use Rattle.smil_cells.specs.CellsState.{NothingBefore, CellsState}
use Rattle.smil_cells.proofs.SettlingSteps.{sooner}
use Rattle.smil_rounds.proofs.MomentEntries.{over}
use Rattle.smil_shown.specs.ShownViews.{IsShown}
use Rattle.smil_live.specs.Moves.{IsFirstDue, IsShownAt, IsTooFull, told_of}
use Rattle.smil_live.proofs.FullDiaries.{full_later}
use Rattle.smil_live.proofs.QuietViews.{HasDiary, IsQuiet}
use Rattle.smil_live.proofs.ReplayedLogs.{not_below}
use Rattle.smil_live.proofs.SettledCells.{has_diary, nothing_before}
use Rattle.smil_live.proofs.AdvanceChanges.{in_two, through_quiet}

-- ---- what was told

module _ {I : Type 0} (tell : Telling I) where
  -- what is told of what is passed up to a moment, and then of what is different at a later one before
  -- which nothing comes
  told_on : (p : Presentation) (a n : ℕ) (d : List Entry) (front text text' : List I) → HasDiary (as_of p (p.now + a)) d → IsQuiet (as_of p (p.now + a)) d (pos ((p.now + a) + n))
      → text ≡ front ++ told_of tell p (changes_through p a)
      → text' ≡ text ++ told_of tell p (changes_between (as_of p (p.now + a)) (as_of p ((p.now + a) + n)))
      → text' ≡ front ++ told_of tell p (changes_through p (a + n))
  told_on p a n d front text text' has quiet told new =
      new
      ∙ (ap (λ (l : List I). l ++ told_of tell p (changes_between (as_of p (p.now + a)) (as_of p ((p.now + a) + n)))) told
      ∙ (ap (λ (cs : List (ℕ × View)). (front ++ told_of tell p (changes_through p a)) ++ told_of tell p cs) (sym (through_quiet (as_of p (p.now + a)) d has n quiet))
      ∙ (append_assoc front (told_of tell p (changes_through p a)) (told_of tell p (changes_through (as_of p (p.now + a)) n))
      ∙ ap (λ (l : List I). front ++ l) (sym (ap (told_of tell p) (in_two p a n) ∙ flat_map-append (change_told tell p.document.nodes) (changes_through p a) (changes_through (as_of p (p.now + a)) n))))))

  built : (p q : Presentation) (a : ℕ) → q ≡ as_of p q.now → p.now + a ≡ q.now → as_of p (p.now + a) ≡ q
  built p q a is there = ap (as_of p) there ∙ sym is

  -- the same where the later presentation has a name of its own
  pub told_from : (p q : Presentation) (a n : ℕ) (d : List Entry) (front text text' : List I) → q ≡ as_of p q.now → p.now + a ≡ q.now → HasDiary q d → IsQuiet q d (pos (q.now + n))
      → text ≡ front ++ told_of tell p (changes_through p a)
      → text' ≡ text ++ told_of tell q (changes_between q (as_of q (q.now + n)))
      → text' ≡ front ++ told_of tell p (changes_through p (a + n))
  told_from p q a n d front text text' is there =
      subst (λ (x : Presentation). HasDiary x d → IsQuiet x d (pos (x.now + n)) → text ≡ front ++ told_of tell p (changes_through p a) → text' ≡ text ++ told_of tell x (changes_between x (as_of x (x.now + n))) → text' ≡ front ++ told_of tell p (changes_through p (a + n)))
      (built p q a is there)
      (told_on p a n d front text text')

  -- ---- on the way

  -- a presentation was passed through up to the moment of a standing, and this is what is shown there
  -- and was told by then
  pub record IsPassing (p : Presentation) (front : List I) (to : ℤ) (s : CellsState) (shown : List View) (text : List I) : Type 0 where
    pub presentation_is : s.presentation ≡ as_of p s.presentation.now
    pub from : p.now ≤ s.presentation.now
    pub within : pos s.presentation.now ≤ℤ to
    pub shown_is : IsShown s shown
    pub told : text ≡ front ++ told_of tell p (changes_through p (s.presentation.now - p.now))

  pub sets_out : (s : CellsState) (shown : List View) (text : List I) (to : ℤ) → IsShown s shown → pos s.presentation.now ≤ℤ to → IsPassing s.presentation text to s shown text
  sets_out s shown text to is within = record {
    presentation_is = refl;
    from = omega arith;
    within = within;
    shown_is = is;
    told = sym (ap (λ (n : ℕ). text ++ told_of tell s.presentation (changes_through s.presentation n)) none ∙ append-nil text);
  }
    where
      none : s.presentation.now - s.presentation.now ≡ 0
      none = omega arith

module _ {I : Type 0} {tell : Telling I} {p : Presentation} {front : List I} {to : ℤ} {s : CellsState} {shown : List View} {text : List I} (way : IsPassing tell p front to s shown text) where
  -- the moved presentation
  pub moved_is : (m : ℕ) → as_of s.presentation m ≡ as_of p m
  moved_is m = ap (λ (q : Presentation). as_of q m) way.presentation_is

  module _ {text' : List I} {v : ℤ} (from : pos s.presentation.now ≤ℤ v) (quiet : NothingBefore s v)
      (new : text' ≡ text ++ told_of tell s.presentation (changes_between s.presentation (as_of s.presentation (nat_abs v)))) where
    told_then : text' ≡ front ++ told_of tell p (changes_through p (nat_abs v - p.now))
    told_then = by_number (over s.presentation.now v from)
      where
        by_number : (n : ℕ) × (v ≡ pos (s.presentation.now + n)) → text' ≡ front ++ told_of tell p (changes_through p (nat_abs v - p.now))
        by_number (n, e) =
            let on = way.from in
            let here : nat_abs v ≡ s.presentation.now + n = ap nat_abs e in
            let first : p.now + (s.presentation.now - p.now) ≡ s.presentation.now = omega (arith, on) in
            let whole : (s.presentation.now - p.now) + n ≡ nat_abs v - p.now = omega (arith, on, here) in
            subst (λ (m : ℕ). text' ≡ front ++ told_of tell p (changes_through p m)) whole
            (told_from tell p s.presentation (s.presentation.now - p.now) n s.diary front text text' way.presentation_is first (has_diary s shown way.shown_is)
            (subst (λ (x : ℤ). NothingBefore s x) e quiet) way.told
            (subst (λ (m : ℕ). text' ≡ text ++ told_of tell s.presentation (changes_between s.presentation (as_of s.presentation m))) here new))

  module _ {due : ℤ} (first : IsFirstDue s due) where
    due_later : (pos s.presentation.now +ℤ pos 1) ≤ℤ due
    due_later = subst (λ (x : ℤ). (pos s.presentation.now +ℤ pos 1) ≤ℤ x) first.due_is (nothing_before s way.shown_is.settled first.coming first.first)

    pub due_from : pos s.presentation.now ≤ℤ due
    due_from = sooner (pos s.presentation.now) due due_later

    quiet_until : NothingBefore s due
    quiet_until c e =
        let same : Some first.coming ≡ Some c = sym first.first ∙ e in
        let one : first.coming ≡ c = cc in
        subst (λ (x : DueChange). due ≤ℤ x.key.value) one (no_less due first.coming.key.value first.due_is)
      where
        no_less : (x y : ℤ) → y ≡ x → x ≤ℤ y
        no_less x y e = omega (arith, ints, e)

    module _ (within : due ≤ℤ to) {next : CellsState} {shown' : List View} {text' : List I} (is : IsShownAt (as_of s.presentation (nat_abs due)) next shown')
        (new : text' ≡ text ++ told_of tell s.presentation (changes_between s.presentation (as_of s.presentation (nat_abs due)))) where
      at_due : next.presentation ≡ as_of p (nat_abs due)
      at_due = is.presentation_is ∙ moved_is (nat_abs due)

      now_is : next.presentation.now ≡ nat_abs due
      now_is = ap (λ (q : Presentation). q.now) at_due

      due_is : pos (nat_abs due) ≡ due
      due_is = not_below s.presentation.now due due_from

      -- one due moment further
      pub passes_on : IsPassing tell p front to next shown' text'
      passes_on = record {
        presentation_is = at_due ∙ ap (as_of p) (sym now_is);
        from = let a = way.from in let b = due_later in numbers p.now s.presentation.now next.presentation.now due a b (ap pos now_is ∙ due_is);
        within = subst (λ (x : ℤ). x ≤ℤ to) (sym (ap pos now_is ∙ due_is)) within;
        shown_is = is.shown_is;
        told = subst (λ (m : ℕ). text' ≡ front ++ told_of tell p (changes_through p (m - p.now))) (sym now_is) (told_then due_from quiet_until new);
      }
        where
          numbers : (a b c : ℕ) (x : ℤ) → a ≤ b → (pos b +ℤ pos 1) ≤ℤ x → pos c ≡ x → a ≤ c
          numbers a b c x l g e = omega (arith, ints, l, g, e)

      -- and fewer milliseconds are left
      pub comes_nearer : nat_abs to - next.presentation.now < nat_abs to - s.presentation.now
      comes_nearer = numbers s.presentation.now next.presentation.now due to due_later (ap pos now_is ∙ due_is) within
        where
          numbers : (a b : ℕ) (x y : ℤ) → (pos a +ℤ pos 1) ≤ℤ x → pos b ≡ x → x ≤ℤ y → nat_abs y - b < nat_abs y - a
          numbers a b x (pos k) l e g = omega (arith, ints, l, e, g)
          numbers a b x (negsuc k) l e g = absurd (omega (arith, ints, l, e, g))

    -- what is too full by then is too full in the end
    pub too_full_then : (within : due ≤ℤ to) (given : Refusal) → IsTooFull (as_of s.presentation (nat_abs due)) given → IsTooFull (as_of p (nat_abs to)) given
    too_full_then within given (inl memory) = inl memory
    too_full_then within given (inr (full, none)) =
        inr (
          full,
          full_later p.document p.log (nat_abs due) (nat_abs to) numbered (numbers s.presentation.now due to due_later within)
              (subst (λ (q : Presentation). diary_of (course_of q) ≡ None) (moved_is (nat_abs due)) none),
        )
      where
        numbered : IsNumberedTree p.document
        numbered = subst (λ (d : Document). IsNumberedTree d) (ap (λ (q : Presentation). q.document) way.presentation_is) way.shown_is.state.document.numbered

        numbers : (a : ℕ) (x y : ℤ) → (pos a +ℤ pos 1) ≤ℤ x → x ≤ℤ y → nat_abs x ≤ nat_abs y
        numbers a (pos j) (pos k) l g = omega (arith, ints, l, g)
        numbers a (pos j) (negsuc k) l g = absurd (omega (arith, ints, l, g))
        numbers a (negsuc j) y l g = absurd (omega (arith, ints, l))

  -- ---- the rest of the way

  module _ (silence : NothingBefore s (to +ℤ pos 1)) where
    quiet_to : NothingBefore s to
    quiet_to c e = sooner to c.key.value (silence c e)

    pub arrives : {text' : List I} → text' ≡ text ++ told_of tell s.presentation (changes_between s.presentation (as_of s.presentation (nat_abs to))) → text' ≡ front ++ told_of tell p (changes_through p (nat_abs to - p.now))
    arrives new = told_then way.within quiet_to new
