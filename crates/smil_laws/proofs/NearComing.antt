-- The number of what comes is near where those of the diary are.
use Rattle.std.proofs.Common.{◌≡◌, sym, ℕ, zero, suc, List, [], ◌∷◌, ◌++◌, Option, Some, None, ℤ, Bool, true, false}
use Rattle.std.specs.Prelude.{cond, pos, not, ◌==◌, ◌||◌, ◌&&◌, fold, length, map, is_some}
use Rattle.std.specs.List.{AllByRecursion}
use Rattle.smil_model.specs.declared.document.Node.{Node}
use Rattle.smil_model.specs.declared.interval.Interval.{Interval}
use Rattle.smil_model.specs.declared.times.Time.{Time}
use Rattle.smil_model.specs.declared.times.Time.TheVariants.{At, Indefinite, Unresolved}
use Rattle.smil_model.specs.Times.{time_le, later_time, IsNear}
use Rattle.smil_model.specs.document.Document.{elements}
use Rattle.smil_model.specs.diary.Diary.{History, is_active, iteration}
use Rattle.smil_model.specs.diary.Clocks.{stands, outer_stands, play_start, iteration_start}
use Rattle.smil_model.specs.interval.Durations.{bounds_of, intermediate_end}
use Rattle.smil_model.specs.interval.Current.{simple_of, interval_given, in_table, table, current_table}
use Rattle.smil_model.specs.happening.Keys.{DueChange, coming_begin, coming_end_at, coming_end, coming_repeat_at, coming_repeat, coming_of, coming_from, coming, earlier_coming, comes_before}
use Rattle.smil_laws.proofs.AsideDocuments.{each_append}
use Rattle.smil_laws.specs.Near.{AllNear, IsTimeNear, ComingIsNear, value_in}
use Rattle.smil_laws.proofs.NearIntervals.{IntervalNear, given_near_all, later_near}

module _ (h : History) (now : ℤ) (a : AllNear h.diary) where
  -- ---- the current intervals

  row_near : (J : ℕ → Option Interval) (es : List Node) (serial : ℕ) → IntervalNear (in_table (map (λ (e : Node). (e.serial, interval_given h J now e)) es) serial)
  row_near J [] serial = tt
  row_near J (e ∷ es) serial = by_serial (e.serial == serial) (row_near J es serial)
    where
      by_serial : (b : Bool) → IntervalNear (in_table (map (λ (x : Node). (x.serial, interval_given h J now x)) es) serial) → IntervalNear (cond b (interval_given h J now e) (in_table (map (λ (x : Node). (x.serial, interval_given h J now x)) es) serial))
      by_serial true r = given_near_all h J now e a
      by_serial false r = r

  table_near : (k serial : ℕ) → IntervalNear (in_table (table h now k) serial)
  table_near zero serial = tt
  table_near (suc k) serial = row_near (in_table (table h now k)) (elements h.nodes) serial

  -- ---- what comes

  abbrev Near : DueChange → Type 0
  Near c = IsNear (value_in c.change)

  each_choice : (t : Bool) (xs ys : List DueChange) → AllByRecursion Near xs → AllByRecursion Near ys → AllByRecursion Near (cond t xs ys)
  each_choice true xs ys p q = p
  each_choice false xs ys p q = q

  module _ (J : ℕ → Option Interval) (given : (serial : ℕ) → IntervalNear (J serial)) where
    module _ (place : ℕ) (e : Node) where
      begin_near : (r : Option Interval) → IntervalNear r → AllByRecursion Near (coming_begin h now place e r)
      begin_near None n = tt
      begin_near (Some i) n = (n.begin, tt)

      end_at_near : (begin : ℤ) (t : Time) → IsTimeNear t → AllByRecursion Near (coming_end_at h now place e begin t)
      end_at_near begin (At v) n = (n, tt)
      end_at_near begin Indefinite n = tt
      end_at_near begin Unresolved n = tt

      end_near : (r : Option Interval) → IntervalNear r → AllByRecursion Near (coming_end h now place e r)
      end_near None n = tt
      end_near (Some i) n = end_at_near i.begin i.«end» n.finish

      repeat_at_near : (simple t : Time) → IsTimeNear t → AllByRecursion Near (coming_repeat_at h now place e simple t)
      repeat_at_near simple (At over) n =
          each_choice
          (not (time_le simple (At (pos 0)))
          && not (time_le (intermediate_end (bounds_of e.attrs) simple (play_start h e.serial) (iteration_start h e.serial) (iteration h e.serial)) (At over)))
          _ [] (n, tt) tt
      repeat_at_near simple Indefinite n = tt
      repeat_at_near simple Unresolved n = tt

      repeat_near : AllByRecursion Near (coming_repeat h (simple_of h J e) now place e)
      repeat_near =
          each_choice ((is_some e.attrs.repeat_count || is_some e.attrs.repeat_dur) && not (stands h e.serial))
          (coming_repeat_at h now place e (simple_of h J e) (later_time (simple_of h J e) (iteration_start h e.serial))) []
          (repeat_at_near (simple_of h J e) (later_time (simple_of h J e) (iteration_start h e.serial)) (later_near (simple_of h J e) (iteration_start h e.serial))) tt

      element_near : AllByRecursion Near (coming_of h J now place e)
      element_near =
          each_choice (is_active h.diary e.serial)
          (cond (outer_stands h e.serial) [] (coming_end h now place e (J e.serial)) ++ coming_repeat h (simple_of h J e) now place e)
          (cond (outer_stands h e.serial) [] (coming_begin h now place e (J e.serial)))
          (each_append Near (cond (outer_stands h e.serial) [] (coming_end h now place e (J e.serial))) (coming_repeat h (simple_of h J e) now place e)
          (each_choice (outer_stands h e.serial) [] (coming_end h now place e (J e.serial)) tt (end_near (J e.serial) (given e.serial)))
          repeat_near)
          (each_choice (outer_stands h e.serial) [] (coming_begin h now place e (J e.serial)) tt (begin_near (J e.serial) (given e.serial)))

    all_near : (place : ℕ) (es : List Node) → AllByRecursion Near (coming_from h J now place es)
    all_near place [] = tt
    all_near place (e ∷ es) = each_append Near (coming_of h J now place e) (coming_from h J now (suc place) es) (element_near place e) (all_near (suc place) es)

  abbrev NearOption : Option DueChange → Type 0
  NearOption None = Unit {0}
  NearOption (Some c) = Near c

  earlier_near : (o : Option DueChange) (c : DueChange) → NearOption o → Near c → NearOption (earlier_coming o c)
  earlier_near None c p q = q
  earlier_near (Some b) c p q = choose (comes_before c.key b.key)
    where
      choose : (t : Bool) → NearOption (cond t (Some c) (Some b))
      choose true = q
      choose false = p

  least_near : (o : Option DueChange) (cs : List DueChange) → NearOption o → AllByRecursion Near cs → NearOption (fold earlier_coming o cs)
  least_near o [] p q = p
  least_near o (c ∷ cs) p q = least_near (earlier_coming o c) cs (earlier_near o c p q.0) q.1

  same_coming : (o p : Option DueChange) → o ≡ p → NearOption o → NearOption p
  same_coming o p e n = rw (sym e) n

pub coming_is_near : ComingIsNear
coming_is_near h now c a is =
    same_coming h now a (fold earlier_coming None (coming h now)) (Some c) is
    (least_near h now a None (coming h now) tt
    (all_near h now a (in_table (current_table h now)) (table_near h now a (length (elements h.nodes))) 0 (elements h.nodes)))
