-- The keys of all that comes are near.
use Rattle.std.proofs.Common.{◌≡◌, ◌∙◌, ap, sym, subst, ℕ, suc, ◌+◌, ◌<◌, ◌≤◌, ℤ, Bool, true, false, List, [], ◌∷◌, ◌++◌, Option, Some, None, length, arith}
use Rattle.std.specs.Prelude.{cond, pos, negsuc, ◌+ℤ◌, ◌-ℤ◌, ◌^◌, int_lt, not, ◌&&◌, ◌||◌, is_some, slice_get}
use Rattle.std.specs.List.{AllByRecursion}
use Rattle.std.proofs.lemmas.Int.{ints}
use Rattle.std.proofs.lemmas.Option.{slice_get_within}
use Rattle.smil_model.specs.declared.document.Node.{Node}
use Rattle.smil_model.specs.declared.interval.Interval.{Interval}
use Rattle.smil_model.specs.declared.times.Time.{Time}
use Rattle.smil_model.specs.declared.times.Time.TheVariants.{At, Indefinite, Unresolved}
use Rattle.smil_model.specs.Times.{IsCarried, IsMoment, IsNear, time_le, later_time}
use Rattle.smil_model.specs.document.Document.{elements}
use Rattle.smil_model.specs.diary.Diary.{History, is_active, iteration}
use Rattle.smil_model.specs.diary.Clocks.{run, stands, outer_stands, play_start, iteration_start}
use Rattle.smil_model.specs.interval.Durations.{bounds_of, intermediate_end}
use Rattle.smil_model.specs.interval.Current.{current_interval, simple_of}
use Rattle.smil_model.specs.happening.Keys as model
use Rattle.smil_model.specs.happening.Keys.{Change, begins, ends, repeats, coming_at, coming_begin, coming_end, coming_end_at, coming_repeat, coming_repeat_at, coming_of, coming_from, coming}
use Rattle.smil_laws.specs.Edited.{IsOrdered}
use Rattle.smil_laws.specs.Near.{AllNear, IsTimeNear}
use Rattle.smil_laws.proofs.AsideDocuments.{each_append}
use Rattle.smil_laws.proofs.NumberedTrees.{ordered}
use Rattle.smil_laws.proofs.NearDiary.{elapsed_within}
use Rattle.smil_laws.proofs.NearIntervals.{IntervalNear, given_near_all, later_near}
use Rattle.smil_element.proofs.PlaysNear.{document_within}
use Rattle.smil_past.specs.Past.{IsPossible, IsPresent, MarkedHistory, history_of}
use Rattle.smil_rounds.proofs.RowEvaluated.{elements_differ, elements_few}
use Rattle.smil_rounds.proofs.RowsBesideElements.{there_at}
use Rattle.smil_nodes.specs.Slots.{IsNearKey}
use Rattle.smil_nodes.specs.Schedule.{HaveNearKeys}
use Rattle.smil_nodes.proofs.RowAtElement.{fixed}

abbrev Near : model.DueChange → Type 0
Near c = IsNearKey c.key

choice : (t : Bool) (xs ys : List model.DueChange) → AllByRecursion Near xs → AllByRecursion Near ys → AllByRecursion Near (cond t xs ys)
choice true xs ys a b = a
choice false xs ys a b = b

module _ (h : History) (now : ℤ) (moment : IsMoment now) (place : ℕ) (few : place < 2 ^ 13) (e : Node) where
  key_near : (value : ℤ) (class : ℕ) (change : Change) → IsCarried value → class < 4 → Near (coming_at value class place e change)
  key_near value class change near least = record {
    low = omega (arith, ints, near.low);
    high = omega (arith, ints, near.high);
    class = least;
    place = few;
  }

  begin_near : (i : Option Interval) → IntervalNear i → AllByRecursion Near (coming_begin h now place e i)
  begin_near None n = tt
  begin_near (Some i) n = (key_near _ 2 (begins i.begin) (document_within h e.serial i.begin now n.begin moment) (omega arith), tt)

  end_class : (t : Bool) → cond t 1 3 < 4
  end_class true = omega arith
  end_class false = omega arith

  end_at_near : (begin : ℤ) (t : Time) → IsTimeNear t → AllByRecursion Near (coming_end_at h now place e begin t)
  end_at_near begin (At v) n = (key_near _ _ (ends v) (document_within h e.serial v now n moment) (end_class (int_lt begin v)), tt)
  end_at_near begin Indefinite n = tt
  end_at_near begin Unresolved n = tt

  end_near : (i : Option Interval) → IntervalNear i → AllByRecursion Near (coming_end h now place e i)
  end_near None n = tt
  end_near (Some i) n = end_at_near i.begin i.«end» n.finish

  -- the moment at which the own clock of the element shows a near value
  shown_within : (over m : ℤ) → IsNear over → IsMoment m → IsCarried (m +ℤ (over -ℤ run h e.serial m))
  shown_within over (pos m) near at = let most = elapsed_within h e.serial m in record { low = grind (arith, ints, most, near.low, at.high); high = grind (arith, ints, most, near.high, at.high) }
  shown_within over (negsuc m) near at = absurd (omega (arith, ints, at.low))

  repeat_at_near : (simple t : Time) → IsTimeNear t → AllByRecursion Near (coming_repeat_at h now place e simple t)
  repeat_at_near simple (At over) n =
      choice
      (not (time_le simple (At (pos 0)))
      && not (time_le (intermediate_end (bounds_of e.attrs) simple (play_start h e.serial) (iteration_start h e.serial) (iteration h e.serial)) (At over)))
      _ [] (key_near _ 1 (repeats over) (shown_within over now n moment) (omega arith), tt) tt
  repeat_at_near simple Indefinite n = tt
  repeat_at_near simple Unresolved n = tt

  repeat_near : (J : ℕ → Option Interval) → AllByRecursion Near (coming_repeat h (simple_of h J e) now place e)
  repeat_near J =
      choice ((is_some e.attrs.repeat_count || is_some e.attrs.repeat_dur) && not (stands h e.serial))
      (coming_repeat_at h now place e (simple_of h J e) (later_time (simple_of h J e) (iteration_start h e.serial))) []
      (repeat_at_near (simple_of h J e) (later_time (simple_of h J e) (iteration_start h e.serial)) (later_near (simple_of h J e) (iteration_start h e.serial))) tt

  element_near : (J : ℕ → Option Interval) → IntervalNear (J e.serial) → AllByRecursion Near (coming_of h J now place e)
  element_near J given =
      choice (is_active h.diary e.serial)
      (cond (outer_stands h e.serial) [] (coming_end h now place e (J e.serial)) ++ coming_repeat h (simple_of h J e) now place e)
      (cond (outer_stands h e.serial) [] (coming_begin h now place e (J e.serial)))
      (each_append Near (cond (outer_stands h e.serial) [] (coming_end h now place e (J e.serial))) (coming_repeat h (simple_of h J e) now place e)
      (choice (outer_stands h e.serial) [] (coming_end h now place e (J e.serial)) tt (end_near (J e.serial) given))
      (repeat_near J))
      (choice (outer_stands h e.serial) [] (coming_begin h now place e (J e.serial)) tt (begin_near (J e.serial) given))

-- ---- of all elements

module _ (h : History) (now : ℤ) (moment : IsMoment now) (near : AllNear h.diary) (ordered : IsOrdered h.nodes) (few : length (elements h.nodes) ≤ 2 ^ 13) where
  given_near : (place : ℕ) (e : Node) → slice_get (elements h.nodes) place ≡ Some e → IntervalNear (current_interval h now e.serial)
  given_near place e at =
      subst IntervalNear
      (sym (fixed h now e ordered.first (there_at (elements h.nodes) place e (elements_differ h.nodes ordered.distinct) at)))
      (given_near_all h (current_interval h now) now e near)

  from_near : (place : ℕ) (es : List Node) → ((k : ℕ) → slice_get (elements h.nodes) (place + k) ≡ slice_get es k) → HaveNearKeys (coming_from h (current_interval h now) now place es)
  from_near place [] at = tt
  from_near place (e ∷ es) at =
      let here : slice_get (elements h.nodes) place ≡ Some e = ap (slice_get (elements h.nodes)) (omega arith) ∙ at 0 in
      let within : place < length (elements h.nodes) = slice_get_within (elements h.nodes) place e here in
      each_append Near (coming_of h (current_interval h now) now place e) (coming_from h (current_interval h now) now (suc place) es)
      (element_near h now moment place (omega (arith, within, few)) e (current_interval h now) (given_near place e here))
      (from_near (suc place) es (λ k. ap (slice_get (elements h.nodes)) (omega arith) ∙ at (suc k)))

  pub near_coming : HaveNearKeys (coming h now)
  near_coming = from_near 0 (elements h.nodes) (λ k. ap (slice_get (elements h.nodes)) (omega arith))

-- of those of a past at a present moment
pub near_present : (past : MarkedHistory) (moment : ℤ) → IsPossible past.document past.log past.diary → IsPresent past moment → HaveNearKeys (coming (history_of past) moment)
near_present past moment possible present =
    let some : length (elements past.document.nodes) ≤ length past.document.nodes = elements_few past.document.nodes in
    near_coming (history_of past) moment (record { low = present.from; high = present.within }) possible.near (ordered past.document possible.valid.numbered) (omega (arith, some, possible.valid.nodes))
