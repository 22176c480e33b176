-- Cells that went back to their mark.
use Rattle.std.proofs.Common.{◌≡◌, refl, sym, subst, ℕ, List, Option, None, Some, ℤ, Bool, true, false, length, take}
use Rattle.std.specs.Prelude.{pos, nat_abs, ◌≤ℤ◌, is_some, unwrap_or}
use Rattle.smil_model.specs.declared.times.TheConstants.{HORIZON}
use Rattle.smil_model.specs.diary.Diary.{History}
use Rattle.smil_model.specs.diary.Clocks.{until}
use Rattle.smil_laws.specs.Courses.{ReachedIsPast}
use Rattle.smil_past.specs.Past as past_of
use Rattle.smil_past.specs.Past.{MarkedHistory}
use Rattle.smil_cells.specs.Standings.{IsSoundUnderMark, IsSound, WhereMarked, at_mark, marked_by}
use Rattle.smil_rounds.proofs.MomentEntries.{positive}
use Rattle.smil_model.proofs.NumberOrders.{le_from}

module _ (is_marked is_current is_next : History → ℤ → Type 0) (has_mark : Bool) (past : MarkedHistory) (touched : List ℕ) where
  module _ (is_past : ReachedIsPast) (given : (h : History) (now : ℤ) → is_marked h now → is_current h now) (none : has_mark ≡ false) where
    at_lens : (m : ℤ) (lens : ℕ × ℕ) → pos 0 ≤ℤ m → IsSound is_marked (at_mark touched (record { document = past.document; log = take lens.0 past.log; now = nat_abs m }, take lens.1 past.diary))
        → IsSoundUnderMark is_current is_next has_mark (past_of.at_mark past lens) m None None touched
    at_lens m lens from was =
        let whole : pos (nat_abs m) ≡ m = sym (positive m from) in
        record {
          present = record {
            past_is = subst (λ (z : ℤ). until z (take lens.1 past.diary) ≡ take lens.1 past.diary) whole
                (is_past past.document (take lens.0 past.log) (nat_abs m) (record { moment = nat_abs m; heard = length (take lens.0 past.log); diary = take lens.1 past.diary }) was.reached).entries;
            from = from;
            within = subst (λ (z : ℤ). z ≤ℤ HORIZON) whole (le_from (pos (nat_abs m)) HORIZON was.state.now);
          };
          log = was.state.log;
          sound = λ e. record {
            state = was.state;
            reached = was.reached;
            current = given (record { nodes = past.document.nodes; log = take lens.0 past.log; diary = take lens.1 past.diary }) (pos (nat_abs m)) was.current;
          };
          marked = tt;
          table_mark = none;
          past_mark = refl;
          mark_from = λ x e. cc;
          lens = λ x e. cc;
        }

    pub back_to : (mark : Option ℤ) (lens : Option (ℕ × ℕ)) (new : MarkedHistory) (v : ℤ) → is_some (marked_by past mark lens) ≡ true → WhereMarked is_marked touched (marked_by past mark lens)
        → ((m : ℤ) → mark ≡ Some m → pos 0 ≤ℤ m) → ((l : ℕ × ℕ) → lens ≡ Some l → new ≡ past_of.at_mark past l) → v ≡ unwrap_or mark (pos 0)
        → IsSoundUnderMark is_current is_next has_mark new v None None touched
    back_to None lens new v some was from made told = let never : false ≡ true = some in cc
    back_to (Some m) None new v some was from made told = let never : false ≡ true = some in cc
    back_to (Some m) (Some l) new v some was from made told =
        subst (λ (p : MarkedHistory). IsSoundUnderMark is_current is_next has_mark p v None None touched) (sym (made l refl))
        (subst (λ (z : ℤ). IsSoundUnderMark is_current is_next has_mark (past_of.at_mark past l) z None None touched) (sym told) (at_lens m l (from m refl) was))
