-- What comes first is of an element of the document, and is what its key stands for.
use Rattle.std.proofs.Common.{◌≡◌, refl, ◌∙◌, ap, ℕ, suc, List, [], ◌∷◌, ◌++◌, Option, Some, None, ℤ, Bool, true, false}
use Rattle.std.specs.Prelude.{cond, pos, not, ◌==◌, ◌||◌, ◌&&◌, fold, find, option_map, is_some}
use Rattle.std.specs.List.{AllByRecursion}
use Rattle.std.proofs.lemmas.Bool.{eq-eqb}
use Rattle.smil_model.specs.declared.document.Node.{Node}
use Rattle.smil_model.specs.declared.interval.Interval.{Interval}
use Rattle.smil_model.specs.declared.times.Time.{Time}
use Rattle.smil_model.specs.declared.times.Time.TheVariants.{At, Indefinite, Unresolved}
use Rattle.smil_model.specs.Times.{time_le, later_time}
use Rattle.smil_model.specs.document.Document.{elements, is_element}
use Rattle.smil_model.specs.document.Valid.{IsDistinct}
use Rattle.smil_model.specs.diary.Diary.{History, is_active, iteration}
use Rattle.smil_model.specs.diary.Clocks.{stands, outer_stands, play_start, iteration_start}
use Rattle.smil_model.specs.interval.Durations.{bounds_of, intermediate_end}
use Rattle.smil_model.specs.interval.Instances.{number_of}
use Rattle.smil_model.specs.interval.Current.{simple_of, current_interval}
use Rattle.smil_model.specs.happening.Keys.{DueChange, ends, repeats, coming_begin, coming_end_at, coming_end, coming_repeat_at, coming_repeat, coming_of, coming_from, coming, earlier_coming, first_coming, comes_before}
use Rattle.smil_laws.proofs.AsideDocuments.{each_append, each_both}
use Rattle.smil_laws.proofs.LineageParents.{swap_eqb}
use Rattle.smil_laws.proofs.ListMembers.{Differ, differ_all, differ_kept}
use Rattle.smil_laws.proofs.Lists.{each_weaker}
use Rattle.smil_laws.specs.Firsts.{moved_by, IsOfElement}

abbrev IsThere : List Node → Node → Type 0
IsThere ns e = find (λ (n : Node). n.serial == e.serial) ns ≡ Some e

-- of nodes with different serials each is the one with its serial
each_there : (ns : List Node) → Differ ns → AllByRecursion (IsThere ns) ns
each_there [] d = tt
each_there (n ∷ ns) d = (
  ap (λ t. cond t (Some n) (find (λ (m : Node). m.serial == n.serial) ns)) (eq-eqb n.serial n.serial refl),
  each_weaker (λ (m : Node). IsThere ns m × (m.serial == n.serial ≡ false)) (IsThere (n ∷ ns)) ns
      (each_both (IsThere ns) (λ (m : Node). m.serial == n.serial ≡ false) ns (each_there ns d.1) d.0)
      (λ m q. ap (λ t. cond t (Some n) (find (λ (x : Node). x.serial == m.serial) ns)) (swap_eqb m.serial n.serial q.1) ∙ q.0),
)

module _ (h : History) (now : ℤ) (J : ℕ → Option Interval) where
  abbrev Of : DueChange → Type 0
  Of c = IsOfElement h J c

  each_choice : (t : Bool) (xs ys : List DueChange) → (t ≡ true → AllByRecursion Of xs) → (t ≡ false → AllByRecursion Of ys) → AllByRecursion Of (cond t xs ys)
  each_choice true xs ys a b = a refl
  each_choice false xs ys a b = b refl

  module _ (place : ℕ) (e : Node) (here : IsThere (elements h.nodes) e) where
    begin_of : is_active h.diary e.serial ≡ false → (r : Option Interval) → J e.serial ≡ r → AllByRecursion Of (coming_begin h now place e r)
    begin_of idle None q = tt
    begin_of idle (Some i) q =
        (record { element = e; here = here; change = ap (λ t. moved_by t (J e.serial)) idle ∙ ap (moved_by false) q }, tt)

    end_at : is_active h.diary e.serial ≡ true → (i : Interval) → J e.serial ≡ Some i → (t : Time) → i.«end» ≡ t → AllByRecursion Of (coming_end_at h now place e i.begin t)
    end_at active i q (At v) r = (
      record {
        element = e;
        here = here;
        change = ap (λ t. moved_by t (J e.serial)) active ∙ ap (moved_by true) q ∙ ap (λ t. option_map ends (number_of t)) r;
      },
      tt,
    )
    end_at active i q Indefinite r = tt
    end_at active i q Unresolved r = tt

    end_of : is_active h.diary e.serial ≡ true → (r : Option Interval) → J e.serial ≡ r → AllByRecursion Of (coming_end h now place e r)
    end_of active None q = tt
    end_of active (Some i) q = end_at active i q i.«end» refl

    repeat_at : (t : Time) → later_time (simple_of h J e) (iteration_start h e.serial) ≡ t → AllByRecursion Of (coming_repeat_at h now place e (simple_of h J e) t)
    repeat_at (At over) q =
        each_choice
        (not (time_le (simple_of h J e) (At (pos 0)))
        && not (time_le (intermediate_end (bounds_of e.attrs) (simple_of h J e) (play_start h e.serial) (iteration_start h e.serial) (iteration h e.serial)) (At over)))
        _ [] (λ t. (record { element = e; here = here; change = ap (λ u. option_map repeats (number_of u)) q }, tt)) (λ t. tt)
    repeat_at Indefinite q = tt
    repeat_at Unresolved q = tt

    repeat_of : AllByRecursion Of (coming_repeat h (simple_of h J e) now place e)
    repeat_of =
        each_choice ((is_some e.attrs.repeat_count || is_some e.attrs.repeat_dur) && not (stands h e.serial))
        (coming_repeat_at h now place e (simple_of h J e) (later_time (simple_of h J e) (iteration_start h e.serial))) []
        (λ t. repeat_at (later_time (simple_of h J e) (iteration_start h e.serial)) refl) (λ t. tt)

    element_of : AllByRecursion Of (coming_of h J now place e)
    element_of =
        each_choice (is_active h.diary e.serial)
        (cond (outer_stands h e.serial) [] (coming_end h now place e (J e.serial)) ++ coming_repeat h (simple_of h J e) now place e)
        (cond (outer_stands h e.serial) [] (coming_begin h now place e (J e.serial)))
        (λ active. each_append Of (cond (outer_stands h e.serial) [] (coming_end h now place e (J e.serial))) (coming_repeat h (simple_of h J e) now place e)
        (each_choice (outer_stands h e.serial) [] (coming_end h now place e (J e.serial)) (λ t. tt) (λ t. end_of active (J e.serial) refl))
        repeat_of)
        (λ idle. each_choice (outer_stands h e.serial) [] (coming_begin h now place e (J e.serial)) (λ t. tt) (λ t. begin_of idle (J e.serial) refl))

  all_of : (place : ℕ) (es : List Node) → AllByRecursion (IsThere (elements h.nodes)) es → AllByRecursion Of (coming_from h J now place es)
  all_of place [] there = tt
  all_of place (e ∷ es) there =
      each_append Of (coming_of h J now place e) (coming_from h J now (suc place) es) (element_of place e there.0) (all_of (suc place) es there.1)

  least_of : (before : Option DueChange) (cs : List DueChange) (c : DueChange) → ((b : DueChange) → before ≡ Some b → Of b) → AllByRecursion Of cs → fold earlier_coming before cs ≡ Some c → Of c
  least_of before [] c first each q = first c q
  least_of before (k ∷ ks) c first each q = least_of (earlier_coming before k) ks c (next before first) each.1 q
    where
      next : (r : Option DueChange) → ((b : DueChange) → r ≡ Some b → Of b) → (b : DueChange) → earlier_coming r k ≡ Some b → Of b
      next None f b e = let one : k ≡ b = cc in rw (← one) each.0
      next (Some a) f b e = choose (comes_before k.key a.key) e
        where
          choose : (t : Bool) → cond t (Some k) (Some a) ≡ Some b → Of b
          choose true d = let one : k ≡ b = cc in rw (← one) each.0
          choose false d = f b d

pub first_of_element : (h : History) (now : ℤ) (c : DueChange) → IsDistinct h.nodes → first_coming (coming h now) ≡ Some c → IsOfElement h (current_interval h now) c
first_of_element h now c distinct q =
    least_of h now (current_interval h now) None (coming h now) c (λ b e. cc)
    (all_of h now (current_interval h now) 0 (elements h.nodes) (each_there (elements h.nodes) (differ_kept is_element h.nodes (differ_all h.nodes distinct)))) q
