-- The present moment of settled cells: no entry is later, and the numbers of intervals are near.
use Rattle.std.proofs.Common.{◌≡◌, refl, sym, ◌∙◌, ap, subst, ℕ, zero, suc, ℤ, List, [], ◌∷◌, Option, Some, None, Bool, true, false, length, arith}
use Rattle.std.specs.Prelude.{cond, ◌==◌, pos, map, ◌≤ℤ◌, IfSome}
use Rattle.std.proofs.lemmas.Int.{ints}
use Rattle.smil_model.specs.declared.diary.Entry.{Entry}
use Rattle.smil_model.specs.declared.document.Node.{Node}
use Rattle.smil_model.specs.declared.interval.Interval.{Interval}
use Rattle.smil_model.specs.document.Document.{elements}
use Rattle.smil_model.specs.diary.Clocks.{until}
use Rattle.smil_model.specs.diary.Diary.{History, last_moment}
use Rattle.smil_model.specs.happening.Resolution.{diary_of}
use Rattle.smil_model.specs.interval.Current.{current_interval, in_table, interval_given, table}
use Rattle.smil_model.specs.declared.times.TheConstants.{HORIZON}
use Rattle.smil_model.specs.Times.{IsMoment}
use Rattle.smil_model.specs.shown.Orders.{IsState, Presentation, course_of}
use Rattle.smil_model.proofs.NumberOrders.{le_from}
use Rattle.smil_laws.specs.Near.{AllNear, IsIntervalNear}
use Rattle.smil_laws.proofs.CourseFurther.{is_past}
use Rattle.smil_laws.proofs.NearIntervals.{interval_near}
use Rattle.smil_past.specs.Past.{MarkedHistory, IsPresent}
use Rattle.smil_past.specs.Past as past_of
use Rattle.smil_cells.specs.CellsState.{CellsState, IsSettled, history_of}
use Rattle.smil_rounds.proofs.MomentEntries.{is_late}
use Rattle.smil_shown.proofs.SettledDiaries.{has_ended}

pub from_zero : (n : ℕ) → pos 0 ≤ℤ pos n
from_zero n = omega (arith, ints)

-- a state is not beyond the horizon
pub within_horizon : (p : Presentation) → IsState p → pos p.now ≤ℤ HORIZON
within_horizon p state = le_from (pos p.now) HORIZON state.now

pub is_moment : (p : Presentation) → IsState p → IsMoment (pos p.now)
is_moment p state = record { low = from_zero p.now; high = within_horizon p state }

-- no entry of a settled diary is later than the present moment
pub settled_until : (p : Presentation) (d : List Entry) → diary_of (course_of p) ≡ Some d → until (pos p.now) d ≡ d
settled_until p d settled =
    let end = has_ended (course_of p) d settled in
    sym (ap (λ (m : ℕ). until (pos m) d) end.moment_is) ∙ ap (until (pos end.at.moment)) (sym end.diary_is) ∙ (is_past (course_of p) end.at end.reached).entries ∙ end.diary_is

pub settled_late : (p : Presentation) (d : List Entry) → diary_of (course_of p) ≡ Some d → last_moment d ≤ℤ pos p.now
settled_late p d settled = is_late (pos p.now) d (from_zero p.now) (settled_until p d settled)

pub present_is : (s : CellsState) (past : MarkedHistory) → IsState s.presentation → IsSettled s → past_of.history_of past ≡ history_of s → IsPresent past (pos s.presentation.now)
present_is s past state settled same = record {
  past_is = subst (λ (l : List Entry). until (pos s.presentation.now) l ≡ l) (sym (ap (λ (h : History). h.diary) same)) (settled_until s.presentation s.diary settled);
  from = from_zero s.presentation.now;
  within = within_horizon s.presentation state;
}

-- the numbers of a current interval are near
pub current_near : (h : History) (now : ℤ) (s : ℕ) → AllNear h.diary → IfSome (current_interval h now s) IsIntervalNear
current_near h now s near = in_round (length (elements h.nodes))
  where
    in_rows : (known : ℕ → Option Interval) (es : List Node) → IfSome (in_table (map (λ (e : Node). (e.serial, interval_given h known now e)) es) s) IsIntervalNear
    in_rows known [] = tt
    in_rows known (e ∷ es) = by_test (e.serial == s) (by_interval (interval_given h known now e) refl) (in_rows known es)
      where
        by_interval : (o : Option Interval) → interval_given h known now e ≡ o → IfSome o IsIntervalNear
        by_interval None q = tt
        by_interval (Some i) q = interval_near h known now e i near q

        by_test : (t : Bool) → IfSome (interval_given h known now e) IsIntervalNear
            → IfSome (in_table (map (λ (e : Node). (e.serial, interval_given h known now e)) es) s) IsIntervalNear
            → IfSome (cond t (interval_given h known now e) (in_table (map (λ (e : Node). (e.serial, interval_given h known now e)) es) s)) IsIntervalNear
        by_test true own rest = own
        by_test false own rest = rest

    in_round : (k : ℕ) → IfSome (in_table (table h now k) s) IsIntervalNear
    in_round zero = tt
    in_round (suc k) = in_rows (in_table (table h now k)) (elements h.nodes)
