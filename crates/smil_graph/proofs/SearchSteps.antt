-- One step of the search: a link is followed, or the last place of the path is left.
use Rattle.std.proofs.Common.{◌≡◌, refl, sym, ◌∙◌, ap, ℕ, ◌<◌, ◌≤◌, ◌+◌, ◌-◌, List, [], length, get_or, set, map, replicate, true, false, Some, None, arith, inl, inr}
use Rattle.std.specs.Prelude.{◌⊎◌, slice_get, slice_index}
use Rattle.std.proofs.lemmas.Bool.{cases_lt}
use Rattle.std.proofs.lemmas.List.Sums.{count_by-le-length}
use Rattle.std.proofs.lemmas.List.{get_or-set_same, get_or-replicate, length-replicate, get_or_past, nil_from_length, get_or-map, length-map}
use Rattle.smil_graph.specs.declared.components.Visit.{Visit}
use Rattle.smil_graph.specs.declared.components.Visit.TheVariants.{New, Open, Done}
use Rattle.smil_model.specs.document.Closure.{has}
use Rattle.smil_graph.specs.Links.{row, links, LeadsTo, StayBelow, AreLevels}
use Rattle.smil_graph.specs.Components.{Grouping, IsGrouping, mark_at, opened, merged, met, followed, left, links_left, untouched, level_of, is_new, is_unfinished, IsStep}
use Rattle.smil_graph.proofs.PlaceLists.{has_get}
use Rattle.smil_graph.proofs.StackLists.{top_listed, shorter_rest, no_top}
use Rattle.smil_graph.proofs.SearchGroups.{two_ways, one_way, opened_kept, opened_known, still_marked, all_lead, merged_kept, merged_met, followed_kept, less_left, done_fewer}
use Rattle.smil_graph.proofs.SearchLeaves.{left_kept, left_known, left_next, left_path, members_below}

module _ (rows : List (List ℕ)) (below : StayBelow (length rows) rows) (g : Grouping) (s : IsGrouping rows g) (p : ℕ) (top : slice_get g.path 0 ≡ Some p) where
  pub top_stands : p < length g.members
  top_stands = s.path.0 p (top_listed g.path p top)

  abbrev place : ℕ
  place = get_or g.members p 0

  here : mark_at g.marks place ≡ Open p
  here = s.placed p top_stands

  pub place_below : place < length rows
  place_below = omega (arith, members_below rows g s place (has_get g.members p top_stands), s.marks_count)

  -- there is a place whose group is not done
  pub more_done : g.closed < length rows
  more_done = let fewer = done_fewer g.marks place p 0 (omega (arith, place_below, s.marks_count)) here in omega (arith, fewer, s.few)

  -- ---- a link is followed
  module _ (more : get_or g.next place 0 < length (row rows place)) where
    abbrev target : ℕ
    target = get_or (row rows place) (get_or g.next place 0) 0

    link : links rows place target ≡ true
    link = has_get (row rows place) (get_or g.next place 0) more

    target_below : target < length rows
    target_below = below place target link

    less : links_left rows (set g.next place (get_or g.next place 0 + 1)) + 1 ≡ links_left rows g.next
    less = less_left rows g.next place s.next_count more

    led : (a q : ℕ) → mark_at g.marks a ≡ Open q → LeadsTo rows a target
    led a q e = two_ways rows a place target (all_lead rows g s p place top here a q e) (one_way rows place target link)

    from_last : (x : ℕ) → x ≤ p → x ≤ length g.members
    from_last x l = omega (arith, l, top_stands)

    step : (m : Visit) → mark_at g.marks target ≡ m → IsStep rows g (followed (met g target m) place)
    step New e = record {
      grouping = followed_kept rows (opened g target) (opened_kept rows g s target target_below e led) p place (still_marked rows g s target target_below e led (Open p) place (λ c. cc) here) more
          (rw (get_or-set_same g.marks target (Open (length g.members)) New (omega (arith, target_below, s.marks_count))) (λ x r l. from_last x l));
      known = opened_known rows g s target target_below e led;
      less = omega (arith, less);
    }
    step (Open q) e = record {
      grouping = followed_kept rows (merged g q) (merged_kept rows g s p place top here target q e link) p place here more (merged_met rows g s p place top here target q e link);
      known = λ a r. r;
      less = omega (arith, less);
    }
    step (Done k) e = record {
      grouping = followed_kept rows g s p place here more (rw e tt);
      known = λ a r. r;
      less = omega (arith, less);
    }

    link_step : IsStep rows g (followed (met g target (mark_at g.marks target)) place)
    link_step = step (mark_at g.marks target) refl

  -- the same by what is read
  pub link_step_at : (place' k target' : ℕ) (r : List ℕ) → place' ≡ place → r ≡ row rows place' → k ≡ get_or g.next place' 0 → k < length r → target' ≡ get_or r k 0 → IsStep rows g (followed (met g target' (mark_at g.marks target')) place')
  link_step_at place' k target' r at row_is next_is less is =
      let row_here : r ≡ row rows place = row_is ∙ ap (row rows) at in
      let next_here : k ≡ get_or g.next place 0 = next_is ∙ ap (λ x. get_or g.next x 0) at in
      let target_here : target' ≡ get_or (row rows place) (get_or g.next place 0) 0 = is ∙ ap (λ x. get_or x k 0) row_here ∙ ap (λ i. get_or (row rows place) i 0) next_here in
      rw (target_here, at) (link_step (omega (arith, less, ap length row_here, next_here)))

  -- ---- the last place is left
  leave_step : length (row rows place) ≤ get_or g.next place 0 → IsStep rows g (left g p)
  leave_step all = record {
    grouping = left_kept rows g s p top all;
    known = left_known rows g s p top all;
    less = rw (left_next g p, left_path g p) (omega (arith, shorter_rest g.path p top));
  }

  pub leave_step_at : (place' k : ℕ) (r : List ℕ) → place' ≡ place → r ≡ row rows place' → k ≡ get_or g.next place' 0 → length r ≤ k → IsStep rows g (left g p)
  leave_step_at place' k r at row_is next_is all =
      let row_here : r ≡ row rows place = row_is ∙ ap (row rows) at in
      let next_here : k ≡ get_or g.next place 0 = next_is ∙ ap (λ x. get_or g.next x 0) at in
      leave_step (omega (arith, all, ap length row_here, next_here))

-- ---- the beginning and the end

-- where the path is empty no group is open
pub none_open : (rows : List (List ℕ)) (g : Grouping) → IsGrouping rows g → slice_get g.path 0 ≡ None → g.members ≡ []
none_open rows g s e = nil_from_length g.members (by_case (cases_lt 0 (length g.members)))
  where
    by_case : (0 < length g.members) ⊎ (length g.members ≤ 0) → length g.members ≡ 0
    by_case (inl l) = absurd (no_top g.path 0 e (s.on_path 0 (s.first l)))
    by_case (inr l) = omega (arith, l)

new_at : (count a : ℕ) → mark_at (replicate count New) a ≡ New
new_at count a = by_case (cases_lt a count)
  where
    by_case : (a < count) ⊎ (count ≤ a) → mark_at (replicate count New) a ≡ New
    by_case (inl l) = get_or-replicate count a New New l
    by_case (inr l) = get_or_past (replicate count New) a New (omega (arith, l, length-replicate count New))

none_followed : (count a : ℕ) → slice_index (replicate count 0) a ≡ 0
none_followed count a = by_case (cases_lt a count)
  where
    by_case : (a < count) ⊎ (count ≤ a) → slice_index (replicate count 0) a ≡ 0
    by_case (inl l) = get_or-replicate {A = ℕ} count a 0 0 l
    by_case (inr l) = get_or_past {X = ℕ} (replicate count 0) a 0 (omega (arith, l, length-replicate {A = ℕ} count 0))

module _ (count : ℕ) where
  not_open : (a p : ℕ) → mark_at (replicate count New) a ≡ Open p → ⊥
  not_open a p e = let never : New ≡ Open p = sym (new_at count a) ∙ e in cc

  not_done : (a m : ℕ) → mark_at (replicate count New) a ≡ Done m → ⊥
  not_done a m e = let never : New ≡ Done m = sym (new_at count a) ∙ e in cc

  pub untouched_kept : (rows : List (List ℕ)) → count ≡ length rows → IsGrouping rows (untouched count)
  untouched_kept rows same = record {
    marks_count = length-replicate count New ∙ same;
    next_count = length-replicate {A = ℕ} count 0 ∙ same;
    placed = λ p l. absurd (omega (arith, l));
    stands = λ a p e. absurd (not_open a p e);
    leads = λ a b p q e f from. absurd (not_open a p e);
    met = λ a p k e l m. absurd (not_open a p e);
    finished = λ p l off. absurd (omega (arith, l));
    fresh = λ a e. none_followed count a;
    done = λ a b m e r. absurd (not_done a m e);
    numbered = λ a m e. absurd (not_done a m e);
    few = omega (arith, count_by-le-length is_unfinished (replicate count New), length-replicate count New, same);
    path = (λ y r. cc, tt);
    falling = tt;
    on_path = λ x r. cc;
    first = λ l. absurd (omega (arith, l));
  }

pub from_is_new : (m : Visit) → is_new m ≡ true → m ≡ New
from_is_new New e = refl
from_is_new _ e = cc

-- a search begins at a place where no group is open
pub begun : (rows : List (List ℕ)) (g : Grouping) → IsGrouping rows g → g.members ≡ [] → (place : ℕ) → place < length rows → is_new (mark_at g.marks place) ≡ true → IsGrouping rows (opened g place)
begun rows g s closed place low new = opened_kept rows g s place low (from_is_new (mark_at g.marks place) new) (λ a p e. absurd (omega (arith, (s.stands a p e).0, ap length closed)))

module _ (rows : List (List ℕ)) (g : Grouping) (s : IsGrouping rows g) (closed : g.members ≡ []) (known : (a : ℕ) → a < length rows → mark_at g.marks a ≡ New → ⊥) where
  level : ℕ → ℕ
  level a = get_or (map level_of g.marks) a 0

  -- each place is done
  all_done : (a : ℕ) → a < length rows → (m : ℕ) × (mark_at g.marks a ≡ Done m)
  all_done a l = by_mark (mark_at g.marks a) refl
    where
      by_mark : (m : Visit) → mark_at g.marks a ≡ m → (k : ℕ) × (mark_at g.marks a ≡ Done k)
      by_mark New e = absurd (known a l e)
      by_mark (Open p) e = absurd (omega (arith, (s.stands a p e).0, ap length closed))
      by_mark (Done k) e = (k, e)

  level_is : (a m : ℕ) → mark_at g.marks a ≡ Done m → (a < length g.marks) ⊎ (length g.marks ≤ a) → level a ≡ m
  unfolding level
  level_is a m e (inl l) = get_or-map level_of g.marks a New 0 l ∙ ap level_of e
  level_is a m e (inr l) = let never : New ≡ Done m = sym (get_or_past g.marks a New l) ∙ e in absurd (cc)

  link_below : (a b : ℕ) → links rows a b ≡ true → (a < length rows) ⊎ (length rows ≤ a) → a < length rows
  link_below a b r (inl l) = l
  link_below a b r (inr l) = let never : false ≡ true = ap (λ xs. has xs b) (sym (get_or_past rows a [] l)) ∙ r in absurd (cc)

  Falls : ℕ → ℕ → Type 0
  Falls a b = (level b ≤ level a) × (level a ≡ level b → LeadsTo rows b a)

  falls : (a b m : ℕ) → links rows a b ≡ true → mark_at g.marks a ≡ Done m → Falls a b
  unfolding Falls
  falls a b m r e =
      let to = s.done a b m e r in
      let here : level a ≡ m = level_is a m e (cases_lt a (length g.marks)) in
      let there : level b ≡ to.0 = level_is b to.0 to.1 (cases_lt b (length g.marks)) in
      (omega (arith, here, there, to.2), λ same. to.3 (omega (arith, here, there, same)))

  along : (a b : ℕ) → links rows a b ≡ true → Falls a b
  along a b r = let is = all_done a (link_below a b r (cases_lt a (length rows))) in falls a b is.0 r is.1

  pub leveled : (levels : List ℕ) → levels ≡ map level_of g.marks → AreLevels rows levels
  unfolding level Falls
  leveled levels are = rw are (record {
    count = length-map g.marks level_of ∙ s.marks_count;
    falling = λ a b r. (along a b r).0;
    looped = λ a b r same. (along a b r).1 same;
  })
