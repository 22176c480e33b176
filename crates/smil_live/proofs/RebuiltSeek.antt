-- Cells of an earlier moment, rebuilt from the entries up to it.
use Rattle.std.proofs.Common.{◌≡◌, sym, ◌∙◌, ap, subst, ℕ, ◌-◌, ◌≤◌, List, [], ◌++◌, Some, None, ℤ, negsuc, Bool, true, false, arith, length, take, drop, append-nil}
use Rattle.std.specs.Prelude.{filter, pos, int_le, nat_abs, ◌⊎◌, ◌≤ℤ◌}
use Rattle.std.proofs.Math.Seq.{drop-length}
use Rattle.std.proofs.lemmas.Int.{ints}
use Rattle.smil_model.specs.declared.diary.Entry.{Entry}
use Rattle.smil_model.specs.declared.diary.LogEntry.{LogEntry}
use Rattle.smil_model.specs.declared.times.TheConstants.{HORIZON}
use Rattle.smil_model.specs.diary.Clocks.{until}
use Rattle.smil_model.specs.document.Document.{Document, elements}
use Rattle.smil_model.specs.happening.Resolution.{diary_of}
use Rattle.smil_model.specs.reach.Bounds.{reaches}
use Rattle.smil_model.specs.shown.Orders.{IsState, Presentation, course_of, as_of}
use Rattle.smil_diary.specs.declared.fault.BookFault.{BookFault}
use Rattle.smil_diary.specs.Refusals.{of_book}
use Rattle.smil_diary.specs.declared.fault.BookFault.TheVariants as book_fault
use Rattle.smil_laws.specs.Cut.{logged}
use Rattle.smil_cells.specs.CellsState.{GoesOn, IsRebuilt, IsSettled, MayRebuild, CellsState, WhereTold, reached_since}
use Rattle.smil_live.specs.Moves.{IsReplayed, IsTooFull, sought_of}
use Rattle.smil_shown.proofs.PresentMoments.{within_horizon}
use Rattle.smil_live.proofs.LogParts.{log_parts}
use Rattle.smil_live.proofs.RebuiltCells.{may_rebuild, not_later}
use Rattle.smil_live.proofs.RebuiltParts.{IsPart, front_until, log_until, part_until}
use Rattle.smil_live.proofs.RebuiltSame.{same_until}
use Rattle.smil_live.proofs.ReplayedLogs.{not_below, refused_as}

pub back_by : (to : ℤ) (now : ℕ) → pos 0 ≤ℤ to → to ≤ℤ pos now → nat_abs to ≤ now
back_by (pos k) now from back = omega (arith, ints, back)
back_by (negsuc k) now from back = absurd (omega (arith, ints, from))

-- the entries up to a moment, of the same diary at the same moment
pub until_same : (len : ℕ) (book diary : List Entry) (to m : ℤ) → book ≡ diary → m ≡ to → pos 0 ≤ℤ to → take len book ≡ until m book → take len diary ≡ until (pos (nat_abs to)) diary
until_same len book diary to m same there from first =
    subst (λ (l : List Entry). take len l ≡ until (pos (nat_abs to)) l) same
    (subst (λ (z : ℤ). take len book ≡ until z book) (there ∙ sym (not_below 0 to from)) first)

pub not_beyond : (p : Presentation) (to m : ℤ) → IsState p → to ≤ℤ pos p.now → m ≡ to → m ≤ℤ HORIZON
not_beyond p to m state back there = let most = within_horizon p state in omega (arith, ints, most, back, there)

-- settled cells of a presentation, and how many entries are not later than a moment
pub record IsBack (s : CellsState) (to : ℤ) (len : ℕ) : Type 0 where
  pub state : IsState s.presentation
  pub replayed : IsReplayed s.presentation s
  pub before : nat_abs to ≤ s.presentation.now
  pub within : len ≤ length s.diary
  pub first : take len s.diary ≡ until (pos (nat_abs to)) s.diary

module _ {s : CellsState} {to : ℤ} {len : ℕ} (back : IsBack s to len) where
  part : IsPart s.presentation.document.nodes s.presentation.log (take len s.diary) (nat_abs to)
  part =
      subst (λ (l : List Entry). IsPart s.presentation.document.nodes s.presentation.log l (nat_abs to)) (sym back.first)
      (part_until s.presentation.document s.presentation.log s.presentation.now (nat_abs to) s.diary back.state.document.numbered back.state.log back.state.logged back.replayed.settled back.before)

  pub may_go_back : MayRebuild s s.presentation.document len
  may_go_back = may_rebuild s s.presentation.document len (nat_abs to) back.state.document back.within back.replayed.unmarked part

  module _ {t : CellsState} (rebuilt : IsRebuilt s s.presentation.document len t) where
    pub not_after : t.presentation.now ≤ nat_abs to
    not_after = not_later s t s.presentation.document len (nat_abs to) rebuilt part

    log_is : t.presentation.log ≡ filter (λ (x : LogEntry). int_le x.moment (pos (nat_abs to))) s.presentation.log
    log_is =
        rebuilt.log_is
        ∙ (ap (λ (l : List Entry). take (logged l) s.presentation.log) (rebuilt.diary_is ∙ back.first)
        ∙ log_until (course_of s.presentation) s.diary (pos (nat_abs to)) back.state.log back.state.logged back.replayed.settled)

    -- at that moment they are those of the presentation that is sought
    pub moved_back : as_of t.presentation (nat_abs to) ≡ sought_of s.presentation to
    moved_back = by_parts t.presentation.document s.presentation.document t.presentation.log (filter (λ (x : LogEntry). int_le x.moment (pos (nat_abs to))) s.presentation.log) rebuilt.document_is log_is
      where
        by_parts : (a b : Document) (l m : List LogEntry) → a ≡ b → l ≡ m → ◌≡◌ {A = Presentation} (record { document = a; log = l; now = nat_abs to }) (record { document = b; log = m; now = nat_abs to })
        by_parts a b l m p q = cc

    pub refused_back : (fault : BookFault) → (fault ≡ book_fault.DiaryFull → (t.fault ≡ Some fault) ⊎ (diary_of (course_of (as_of t.presentation (nat_abs to))) ≡ None)) → IsTooFull (sought_of s.presentation to) (of_book fault)
    refused_back fault full =
        refused_as (sought_of s.presentation to) (as_of t.presentation (nat_abs to)) t fault rebuilt.sound full (subst (λ (q : Presentation). diary_of (course_of q) ≡ None) moved_back)

    module _ {u : CellsState} (there : u.presentation ≡ as_of t.presentation (nat_abs to)) (settled : IsSettled u) (on : GoesOn t u) where
      pub arrived_back : IsReplayed (sought_of s.presentation to) u
      arrived_back = record {
        presentation_is = there ∙ moved_back;
        sound = on.sound;
        unmarked = on.marked ∙ rebuilt.unmarked;
        settled = settled;
      }

      -- no entry is added on the way
      none_added : on.diary.0 ≡ []
      none_added =
          same_until s.presentation.document s.presentation.log s.presentation.now (nat_abs to) s.diary u.diary on.diary.0 back.state.document.numbered back.state.log back.replayed.settled back.before
          (front_until (pos (nat_abs to)) (pos 0) s.presentation.log (log_parts s.presentation.log back.state.log).0)
          (subst (λ (q : Presentation). diary_of (course_of q) ≡ Some u.diary) (there ∙ moved_back) settled)
          (on.diary.1 ∙ ap (λ (l : List Entry). l ++ on.diary.0) (rebuilt.diary_is ∙ back.first))

      nothing_reached : reached_since t u ≡ 0
      nothing_reached =
          let same_diary : u.diary ≡ t.diary = on.diary.1 ∙ (ap (λ (l : List Entry). t.diary ++ l) none_added ∙ append-nil t.diary) in
          ap (λ (l : List Entry). reaches t.presentation.document.nodes u.presentation.log (drop (length t.diary) l)) same_diary
          ∙ ap (reaches t.presentation.document.nodes u.presentation.log) (drop-length t.diary)

      pub most_back : (counts : Bool) (a b c : ℕ) → a ≤ b → b ≤ c → WhereTold counts (b - a ≤ length (elements s.presentation.document.nodes)) → WhereTold counts (c - b ≤ reached_since t u) → WhereTold counts (c - a ≤ length (elements s.presentation.document.nodes))
      most_back false a b c earlier later most more = tt
      most_back true a b c earlier later most more =
          let none = nothing_reached in
          omega (arith, none, earlier, later, most, more)
