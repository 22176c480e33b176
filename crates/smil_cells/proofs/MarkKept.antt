-- What has happened, with more of it appended: what the mark goes back to stays.
use Rattle.std.proofs.Common.{◌≡◌, refl, sym, ◌∙◌, ap, subst, ℕ, ◌≤◌, ℤ, List, ◌∷◌, [], ◌++◌, Option, Some, None, Bool, true, arith, length, take, length-append, append-nil}
use Rattle.std.specs.Prelude.{pos, nat_abs, is_some}
use Rattle.std.proofs.lemmas.List.{take-append-le}
use Rattle.smil_model.specs.declared.diary.Entry.{Entry}
use Rattle.smil_model.specs.declared.diary.LogEntry.{LogEntry}
use Rattle.smil_model.specs.diary.Diary.{History}
use Rattle.smil_model.specs.diary.Logs.{is_log}
use Rattle.smil_model.specs.shown.Orders.{Presentation}
use Rattle.smil_diary.specs.declared.fault.BookFault.{BookFault}
use Rattle.smil_past.specs.Past.{MarkedHistory, IsPresent, logged_entry, with_diary, with_heard}
use Rattle.smil_cells.specs.CellsState.{IsRefusing, history_of}
use Rattle.smil_cells.specs.Standings.{IsSoundUnderMark, IsSound, WhereMarked, at_mark, marked_by, standing_of}

pub record IsLonger (past new : MarkedHistory) : Type 0 where
  pub document : new.document ≡ past.document
  pub marked : new.marked ≡ past.marked
  pub log : (more : List LogEntry) × (new.log ≡ past.log ++ more)
  pub diary : (more : List Entry) × (new.diary ≡ past.diary ++ more)

pub with_entries : (past new : MarkedHistory) (more : List Entry) → new ≡ with_diary past (past.diary ++ more) → IsLonger past new
with_entries past new more is = record {
  document = ap (λ (x : MarkedHistory). x.document) is;
  marked = ap (λ (x : MarkedHistory). x.marked) is;
  log = ([], ap (λ (x : MarkedHistory). x.log) is ∙ sym (append-nil past.log));
  diary = (more, ap (λ (x : MarkedHistory). x.diary) is);
}

pub with_entry : (past new : MarkedHistory) (entry : LogEntry) → new ≡ with_heard past entry → IsLonger past new
with_entry past new entry is = record {
  document = ap (λ (x : MarkedHistory). x.document) is;
  marked = ap (λ (x : MarkedHistory). x.marked) is;
  log = (entry ∷ [], ap (λ (x : MarkedHistory). x.log) is);
  diary = (logged_entry (length past.log) entry.moment ∷ [], ap (λ (x : MarkedHistory). x.diary) is);
}

still_within : {A : Type 0} (n : ℕ) (xs ys : List A) → (more : List A) × (ys ≡ xs ++ more) → n ≤ length xs → n ≤ length ys
still_within n xs ys more l = omega (arith, l, ap length more.1, length-append xs more.0)

still_first : {A : Type 0} (n : ℕ) (xs ys : List A) → (more : List A) × (ys ≡ xs ++ more) → n ≤ length xs → take n ys ≡ take n xs
still_first n xs ys more l = ap (take n) more.1 ∙ take-append-le n xs more.0 l

module _ (past new : MarkedHistory) (longer : IsLonger past new) (lens : (l : ℕ × ℕ) → past.marked ≡ Some l → (l.0 ≤ length past.log) × (l.1 ≤ length past.diary)) where
  pub same_mark : (mark : Option ℤ) → marked_by new mark new.marked ≡ marked_by past mark past.marked
  same_mark mark = ap (marked_by new mark) longer.marked ∙ by mark past.marked lens
    where
      by : (mark : Option ℤ) (at : Option (ℕ × ℕ)) → ((l : ℕ × ℕ) → at ≡ Some l → (l.0 ≤ length past.log) × (l.1 ≤ length past.diary)) → marked_by new mark at ≡ marked_by past mark at
      by None at in_it = refl
      by (Some m) None in_it = refl
      by (Some m) (Some l) in_it =
          let log = still_first l.0 past.log new.log longer.log (in_it l refl).0 in
          let diary = still_first l.1 past.diary new.diary longer.diary (in_it l refl).1 in
          λ i. Some (record { document = longer.document i; log = log i; now = nat_abs m }, diary i)

  pub refusing : (m : ℤ) (fault : Option BookFault) (f : BookFault) (mark : Option ℤ) (touched touched' : List ℕ) → IsRefusing (standing_of past m fault mark touched) (standing_of new m (Some f) mark touched') f
  refusing m fault f mark touched touched' = record { fault_is = refl; document = longer.document; marked = same_mark mark }

module _ (past new : MarkedHistory) (longer : IsLonger past new) (is_current is_marked is_current' is_marked' : History → ℤ → Type 0) (has_mark has_mark' : Bool) (m : ℤ) (fault fault' : Option BookFault) (mark : Option ℤ) (touched touched' : List ℕ) where
  -- the cells are kept
  pub kept : ((h : History) (now : ℤ) → is_marked h now → is_marked' h now) → has_mark' ≡ has_mark → IsPresent new m → is_log new.log ≡ true
      → (fault' ≡ None → IsSound is_current' (standing_of new m fault' mark touched'))
      → IsSoundUnderMark is_current is_marked has_mark past m fault mark touched
      → IsSoundUnderMark is_current' is_marked' has_mark' new m fault' mark touched'
  kept given has present log sound was = record {
    present = present;
    log = log;
    sound = sound;
    marked = subst (λ (x : Option (Presentation × List Entry)). WhereMarked is_marked' touched' x) (sym (same_mark past new longer was.lens mark)) (by_mark (marked_by past mark past.marked) was.marked);
    table_mark = has ∙ was.table_mark;
    past_mark = ap is_some longer.marked ∙ was.past_mark;
    mark_from = was.mark_from;
    lens = λ l e.
        let within = was.lens l (sym longer.marked ∙ e) in
        (still_within l.0 past.log new.log longer.log within.0, still_within l.1 past.diary new.diary longer.diary within.1);
  }
    where
      by_mark : (x : Option (Presentation × List Entry)) → WhereMarked is_marked touched x → WhereMarked is_marked' touched' x
      by_mark None k = k
      by_mark (Some x) k = record { state = k.state; reached = k.reached; current = given (history_of (at_mark touched x)) (pos x.0.now) k.current }
