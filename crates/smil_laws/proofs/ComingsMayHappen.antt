-- What comes may happen: a begin comes of an element that is alive and not active, an end or a repeat of an active one.
use Rattle.std.proofs.Common.{◌≡◌, refl, sym, ◌∙◌, ap, ℕ, suc, zero, List, [], ◌∷◌, ◌++◌, length, Option, Some, None, ℤ, Bool, true, false}
use Rattle.std.specs.Prelude.{cond, pos, not, ◌==◌, ◌||◌, ◌&&◌, fold, find, map, is_some}
use Rattle.std.specs.List.{AllByRecursion}
use Rattle.std.proofs.lemmas.Bool.{and_parts, or_left, or_right, eqb-true, eq-eqb}
use Rattle.smil_model.specs.declared.diary.Entry.{Entry}
use Rattle.smil_model.specs.declared.diary.LogEntry.{LogEntry}
use Rattle.smil_model.specs.declared.document.Node.{Node}
use Rattle.smil_model.specs.declared.interval.Interval.{Interval}
use Rattle.smil_model.specs.declared.interval.Facts.{Facts}
use Rattle.smil_model.specs.declared.times.Time.{Time}
use Rattle.smil_model.specs.declared.times.Time.TheVariants.{At, Indefinite, Unresolved}
use Rattle.smil_model.specs.Times.{time_le, later_time}
use Rattle.smil_model.specs.document.Document.{elements}
use Rattle.smil_model.specs.diary.Diary.{History, is_active, is_alive, iteration}
use Rattle.smil_model.specs.diary.Clocks.{stands, outer_stands, play_start, iteration_start}
use Rattle.smil_model.specs.diary.Lawful.{has_element}
use Rattle.smil_model.specs.interval.Durations.{bounds_of, intermediate_end}
use Rattle.smil_model.specs.interval.Intervals.{coming_interval, interval_by}
use Rattle.smil_model.specs.interval.Instances.{begin_times, end_times}
use Rattle.smil_model.specs.interval.Current.{present_play, facts_of, interval_given, simple_of, in_table, table, current_table}
use Rattle.smil_model.specs.happening.Keys.{DueChange, coming_begin, coming_end_at, coming_end, coming_repeat_at, coming_repeat, coming_of, coming_from, coming, earlier_coming, first_coming, comes_before}
use Rattle.smil_laws.specs.Edited.{IsOrdered}
use Rattle.smil_laws.proofs.AsideDocuments.{each_append}
use Rattle.smil_laws.proofs.ListMembers.{holds}
use Rattle.smil_laws.proofs.LawfulSteps.{by}
use Rattle.smil_laws.proofs.LawfulGroups.{MayHappen}
use Rattle.smil_laws.proofs.Lists.{each_weaker}

-- ---- an interval of an element that is not active

alive_of : (facts : Facts) (starts : List ℤ) (finishes : List Time) (i : Interval) → interval_by facts starts finishes None ≡ Some i → facts.alive ≡ true
alive_of facts starts finishes i q = by_test (facts.alive && not facts.deferred) refl q
  where
    by_test : (t : Bool) → (facts.alive && not facts.deferred) ≡ t → cond t (coming_interval facts starts finishes facts.last) None ≡ Some i → facts.alive ≡ true
    by_test true e r = (and_parts facts.alive (not facts.deferred) e).0
    by_test false e r = cc

no_play : (h : History) (now : ℤ) (e : Node) → is_active h.diary e.serial ≡ false → present_play h now e ≡ None
no_play h now e q = rw q refl

given_alive : (h : History) (J : ℕ → Option Interval) (now : ℤ) (e : Node) (i : Interval) → is_active h.diary e.serial ≡ false → interval_given h J now e ≡ Some i → is_alive h e.serial ≡ true
given_alive h J now e i idle q =
    alive_of (facts_of h J now e) (begin_times h J now e) (end_times h J now e) i
    (sym (ap (interval_by (facts_of h J now e) (begin_times h J now e) (end_times h J now e)) (no_play h now e idle)) ∙ q)

-- the same of an interval in a table
rows_alive : (h : History) (J : ℕ → Option Interval) (now : ℤ) (s : ℕ) (i : Interval) (es : List Node) → is_active h.diary s ≡ false → in_table (map (λ (e : Node). (e.serial, interval_given h J now e)) es) s ≡ Some i → is_alive h s ≡ true
rows_alive h J now s i [] idle q = cc
rows_alive h J now s i (e ∷ es) idle q = step (e.serial == s) refl q (rows_alive h J now s i es idle)
  where
    step : (t : Bool) → e.serial == s ≡ t → cond t (interval_given h J now e) (in_table (map (λ (d : Node). (d.serial, interval_given h J now d)) es) s) ≡ Some i → (in_table (map (λ (d : Node). (d.serial, interval_given h J now d)) es) s ≡ Some i → is_alive h s ≡ true) → is_alive h s ≡ true
    step true d r later =
        let one : e.serial ≡ s = eqb-true e.serial s d in
        ap (is_alive h) (sym one) ∙ given_alive h J now e i (ap (is_active h.diary) one ∙ idle) r
    step false d r later = later r

table_alive : (h : History) (now : ℤ) (s : ℕ) (i : Interval) (k : ℕ) → is_active h.diary s ≡ false → in_table (table h now k) s ≡ Some i → is_alive h s ≡ true
table_alive h now s i zero idle q = cc
table_alive h now s i (suc k) idle q = rows_alive h (in_table (table h now k)) now s i (elements h.nodes) idle q

-- ---- elements

found_some : (s : ℕ) (ns : List Node) → holds s ns ≡ true → is_some (find (λ (n : Node). n.serial == s) ns) ≡ true
found_some s [] q = cc
found_some s (n ∷ ns) q = step (n.serial == s) q (found_some s ns)
  where
    step : (t : Bool) → (t || holds s ns) ≡ true → (holds s ns ≡ true → is_some (find (λ (m : Node). m.serial == s) ns) ≡ true) → is_some (cond t (Some n) (find (λ (m : Node). m.serial == s) ns)) ≡ true
    step true r later = refl
    step false r later = later r

each_held : (ns : List Node) → AllByRecursion (λ (n : Node). holds n.serial ns ≡ true) ns
each_held [] = tt
each_held (n ∷ ns) =
    (or_left _ _ (eq-eqb n.serial n.serial refl), each_weaker (λ (m : Node). holds m.serial ns ≡ true) (λ (m : Node). holds m.serial (n ∷ ns) ≡ true) ns (each_held ns) (λ m q. or_right (n.serial == m.serial) (holds m.serial ns) q))

each_element : (nodes : List Node) → AllByRecursion (λ (e : Node). has_element nodes e.serial ≡ true) (elements nodes)
each_element nodes =
    each_weaker (λ (e : Node). holds e.serial (elements nodes) ≡ true) (λ (e : Node). has_element nodes e.serial ≡ true) (elements nodes) (each_held (elements nodes)) (λ e q. found_some e.serial (elements nodes) q)

-- ---- what comes

module _ (nodes : List Node) (o : IsOrdered nodes) (log : List LogEntry) (now : ℤ) (ds : List Entry) where
  abbrev h : History
  h = by nodes log ds

  abbrev May : DueChange → Type 0
  May c = MayHappen nodes o log now ds c.key.serial c.change

  each_choice : (t : Bool) (xs ys : List DueChange) → (t ≡ true → AllByRecursion May xs) → (t ≡ false → AllByRecursion May ys) → AllByRecursion May (cond t xs ys)
  each_choice true xs ys a b = a refl
  each_choice false xs ys a b = b refl

  module _ (J : ℕ → Option Interval) (lives : (s : ℕ) (i : Interval) → J s ≡ Some i → is_active ds s ≡ false → is_alive h s ≡ true) where
    begin_may : (place : ℕ) (e : Node) → has_element nodes e.serial ≡ true → is_active ds e.serial ≡ false → (r : Option Interval) → J e.serial ≡ r → AllByRecursion May (coming_begin h now place e r)
    begin_may place e known idle None q = tt
    begin_may place e known idle (Some i) q = ((known, lives e.serial i q idle, idle), tt)

    end_at_may : (place : ℕ) (e : Node) (begin : ℤ) (time : Time) → is_active ds e.serial ≡ true → AllByRecursion May (coming_end_at h now place e begin time)
    end_at_may place e begin (At v) active = (active, tt)
    end_at_may place e begin Indefinite active = tt
    end_at_may place e begin Unresolved active = tt

    end_may : (place : ℕ) (e : Node) (r : Option Interval) → is_active ds e.serial ≡ true → AllByRecursion May (coming_end h now place e r)
    end_may place e None active = tt
    end_may place e (Some i) active = end_at_may place e i.begin i.«end» active

    repeat_at_may : (place : ℕ) (e : Node) (simple time : Time) → is_active ds e.serial ≡ true → AllByRecursion May (coming_repeat_at h now place e simple time)
    repeat_at_may place e simple (At over) active =
        each_choice
        (not (time_le simple (At (pos 0)))
        && not (time_le (intermediate_end (bounds_of e.attrs) simple (play_start h e.serial) (iteration_start h e.serial) (iteration h e.serial)) (At over)))
        _ [] (λ t. (active, tt)) (λ t. tt)
    repeat_at_may place e simple Indefinite active = tt
    repeat_at_may place e simple Unresolved active = tt

    repeat_may : (place : ℕ) (e : Node) → is_active ds e.serial ≡ true → AllByRecursion May (coming_repeat h (simple_of h J e) now place e)
    repeat_may place e active =
        each_choice ((is_some e.attrs.repeat_count || is_some e.attrs.repeat_dur) && not (stands h e.serial))
        (coming_repeat_at h now place e (simple_of h J e) (later_time (simple_of h J e) (iteration_start h e.serial))) []
        (λ t. repeat_at_may place e (simple_of h J e) (later_time (simple_of h J e) (iteration_start h e.serial)) active) (λ t. tt)

    element_may : (place : ℕ) (e : Node) → has_element nodes e.serial ≡ true → AllByRecursion May (coming_of h J now place e)
    element_may place e known =
        each_choice (is_active ds e.serial)
        (cond (outer_stands h e.serial) [] (coming_end h now place e (J e.serial)) ++ coming_repeat h (simple_of h J e) now place e)
        (cond (outer_stands h e.serial) [] (coming_begin h now place e (J e.serial)))
        (λ active. each_append May (cond (outer_stands h e.serial) [] (coming_end h now place e (J e.serial))) (coming_repeat h (simple_of h J e) now place e)
        (each_choice (outer_stands h e.serial) [] (coming_end h now place e (J e.serial)) (λ t. tt) (λ t. end_may place e (J e.serial) active))
        (repeat_may place e active))
        (λ idle. each_choice (outer_stands h e.serial) [] (coming_begin h now place e (J e.serial)) (λ t. tt) (λ t. begin_may place e known idle (J e.serial) refl))

    all_may : (place : ℕ) (es : List Node) → AllByRecursion (λ (e : Node). has_element nodes e.serial ≡ true) es → AllByRecursion May (coming_from h J now place es)
    all_may place [] known = tt
    all_may place (e ∷ es) known =
        each_append May (coming_of h J now place e) (coming_from h J now (suc place) es) (element_may place e known.0) (all_may (suc place) es known.1)

  least_may : (before : Option DueChange) (cs : List DueChange) (c : DueChange) → ((b : DueChange) → before ≡ Some b → May b) → AllByRecursion May cs → fold earlier_coming before cs ≡ Some c → May c
  least_may before [] c first each q = first c q
  least_may before (k ∷ ks) c first each q = least_may (earlier_coming before k) ks c (next before first) each.1 q
    where
      next : (r : Option DueChange) → ((b : DueChange) → r ≡ Some b → May b) → (b : DueChange) → earlier_coming r k ≡ Some b → May b
      next None f b e = let one : k ≡ b = cc in rw (← one) each.0
      next (Some a) f b e = choose (comes_before k.key a.key) e
        where
          choose : (t : Bool) → cond t (Some k) (Some a) ≡ Some b → May b
          choose true d = let one : k ≡ b = cc in rw (← one) each.0
          choose false d = f b d

  -- what comes first may happen
  pub first_may : (c : DueChange) → first_coming (coming h now) ≡ Some c → MayHappen nodes o log now ds c.key.serial c.change
  first_may c q =
      least_may None (coming h now) c (λ b e. cc)
      (all_may (in_table (current_table h now)) (λ s i e idle. table_alive h now s i (length (elements nodes)) idle e) 0 (elements nodes) (each_element nodes)) q
