-- Leaving a place keeps what holds of the search, also where its group becomes done.
use Rattle.std.proofs.Common.{◌≡◌, refl, sym, ◌∙◌, ap, subst, ℕ, ◌<◌, ◌≤◌, ◌+◌, ◌-◌, List, [], ◌∷◌, length, get_or, set, take, drop, count_by, Bool, true, false, cond, Option, Some, None, arith, inl, inr}
use Rattle.std.specs.Prelude.{◌⊎◌, slice_get}
use Rattle.std.proofs.lemmas.Bool.{cases_lt, cases_eq, eqb-true, eq-eqb}
use Rattle.std.proofs.lemmas.List.{length-set, length-take-le, length-drop, get_or-take, get_or-drop, get_or-set_same, get_or-set_other, get_or_past}
use Rattle.smil_graph.specs.declared.components.Visit.{Visit}
use Rattle.smil_graph.specs.declared.components.Visit.TheVariants.{New, Open, Done}
use Rattle.smil_model.specs.document.Closure.{has}
use Rattle.smil_graph.specs.Links.{row, links, LeadsTo, AreBelow}
use Rattle.smil_graph.specs.Components.{Grouping, IsGrouping, IsFrom, IsMet, StayKnown, mark_at, is_unfinished, marked_all, closed_from, off_path, left}
use Rattle.smil_graph.proofs.PlaceLists.{has_get, index_of}
use Rattle.smil_graph.proofs.StackLists.{in_tail, is_head, head_or_tail, top_listed, below_top, under_top, up_to_top, from_rest, rest_falls, no_top}
use Rattle.smil_graph.proofs.SearchGroups.{met_within, done_few, done_fewer}
use Rattle.smil_model.specs.reach.Reach.{is_option}

-- ---- marks at many places

pub marked_count : (m : Visit) (places : List ℕ) (marks : List Visit) → length (marked_all m places marks) ≡ length marks
marked_count m [] marks = refl
marked_count m (x ∷ xs) marks = marked_count m xs (set marks x m) ∙ length-set marks x m

marked_not : (m : Visit) (places : List ℕ) (marks : List Visit) (a : ℕ) → has places a ≡ false → mark_at (marked_all m places marks) a ≡ mark_at marks a
marked_not m [] marks a q = refl
marked_not m (x ∷ xs) marks a q = marked_not m xs (set marks x m) a (tail (has xs a) refl) ∙ get_or-set_other marks x a m New other
  where
    other : a ≡ x → ⊥
    other e = let never : true ≡ false = sym (is_head x xs a e) ∙ q in cc

    tail : (t : Bool) → has xs a ≡ t → has xs a ≡ false
    tail true r = let never : true ≡ false = sym (in_tail x xs a r) ∙ q in absurd (cc)
    tail false r = r

marked_in : (m : Visit) (places : List ℕ) (marks : List Visit) (a : ℕ) → AreBelow (length marks) places → has places a ≡ true → mark_at (marked_all m places marks) a ≡ m
marked_in m [] marks a low q = cc
marked_in m (x ∷ xs) marks a low q = step (has xs a) refl (marked_in m xs (set marks x m) a (λ i r. omega (arith, low i (in_tail x xs i r), length-set marks x m)))
  where
    by_case : has xs a ≡ false → (a ≡ x) ⊎ (has xs a ≡ true) → mark_at (marked_all m xs (set marks x m)) a ≡ m
    by_case r (inl e) = marked_not m xs (set marks x m) a r ∙ ap (mark_at (set marks x m)) e ∙ get_or-set_same marks x m New (low x (is_head x xs x refl))
    by_case r (inr e) = let never : true ≡ false = sym e ∙ r in absurd (cc)

    step : (t : Bool) → has xs a ≡ t → (has xs a ≡ true → mark_at (marked_all m xs (set marks x m)) a ≡ m) → mark_at (marked_all m xs (set marks x m)) a ≡ m
    step true r later = later r
    step false r later = by_case r (head_or_tail x xs a q)

all_fewer : (k : ℕ) (places : List ℕ) (marks : List Visit) → count_by is_unfinished (marked_all (Done k) places marks) ≤ count_by is_unfinished marks
all_fewer k [] marks = omega arith
all_fewer k (x ∷ xs) marks = omega (arith, all_fewer k xs (set marks x (Done k)), done_few marks x k)

-- where the first of the places was open, less are not done
first_fewer : (k : ℕ) (places : List ℕ) (marks : List Visit) (q : ℕ) → 0 < length places → AreBelow (length marks) places → mark_at marks (get_or places 0 0) ≡ Open q → count_by is_unfinished (marked_all (Done k) places marks) < count_by is_unfinished marks
first_fewer k [] marks q l low e = absurd (omega (arith, l))
first_fewer k (x ∷ xs) marks q l low e = omega (arith, all_fewer k xs (set marks x (Done k)), done_fewer marks x q k (low x (is_head x xs x refl)) e)

-- what is listed past some places was listed
pub from_drop : (xs : List ℕ) (n a : ℕ) → has (drop n xs) a ≡ true → has xs a ≡ true
from_drop xs n a q = by_index (index_of (drop n xs) a q)
  where
    by_index : (k : ℕ) × (k < length (drop n xs)) × (get_or (drop n xs) k 0 ≡ a) → has xs a ≡ true
    by_index found = rw (sym found.2 ∙ get_or-drop n xs found.0 0) (has_get xs (n + found.0) (omega (arith, found.1, length-drop n xs)))

module _ (rows : List (List ℕ)) (g : Grouping) (s : IsGrouping rows g) where
  -- the open places are places
  pub members_below : AreBelow (length g.marks) g.members
  members_below i q = by_index (index_of g.members i q)
    where
      by_index : (k : ℕ) × (k < length g.members) × (get_or g.members k 0 ≡ i) → i < length g.marks
      by_index found = by_case (cases_lt i (length g.marks))
        where
          by_case : (i < length g.marks) ⊎ (length g.marks ≤ i) → i < length g.marks
          by_case (inl l) = l
          by_case (inr l) = let never : New ≡ Open found.0 = sym (get_or_past g.marks i New l) ∙ ap (mark_at g.marks) (sym found.2) ∙ s.placed found.0 found.1 in absurd (cc)

  module _ (p : ℕ) (top : slice_get g.path 0 ≡ Some p) (all : length (row rows (get_or g.members p 0)) ≤ get_or g.next (get_or g.members p 0) 0) where
    pub top_below : p < length g.members
    top_below = s.path.0 p (top_listed g.path p top)

    -- a place off what is left of the path has had all its links followed
    still_finished : (q : ℕ) → q < length g.members → has (drop 1 g.path) q ≡ false → length (row rows (get_or g.members q 0)) ≤ get_or g.next (get_or g.members q 0) 0
    still_finished q l off = by_case (cases_eq q p)
      where
        by_top : (t : Bool) → has g.path q ≡ t → (q ≡ p → ⊥) → has g.path q ≡ false
        by_top true r o = by_rest (below_top g.path p q top r)
          where
            by_rest : (q ≡ p) ⊎ (has (drop 1 g.path) q ≡ true) → has g.path q ≡ false
            by_rest (inl e) = absurd (o e)
            by_rest (inr e) = let never : true ≡ false = sym e ∙ off in absurd (cc)
        by_top false r o = r

        by_case : (q ≡ p) ⊎ (q ≡ p → ⊥) → length (row rows (get_or g.members q 0)) ≤ get_or g.next (get_or g.members q 0) 0
        by_case (inl e) = rw e all
        by_case (inr o) = s.finished q l (by_top (has g.path q) refl o)

    start_low : (x : ℕ) → has g.starts x ≡ true → x ≤ p
    start_low x r = up_to_top g.path p x top s.path.1 (s.on_path x r)

    start_or : (x : ℕ) → has g.starts x ≡ true → (x ≡ p → ⊥) → has (drop 1 g.path) x ≡ true
    start_or x r o = by_case (below_top g.path p x top (s.on_path x r))
      where
        by_case : (x ≡ p) ⊎ (has (drop 1 g.path) x ≡ true) → has (drop 1 g.path) x ≡ true
        by_case (inl e) = absurd (o e)
        by_case (inr e) = e

    -- ---- the place starts no group
    left_alone : (has g.starts p ≡ true → ⊥) → IsGrouping rows (off_path g)
    left_alone other = record {
      marks_count = s.marks_count;
      next_count = s.next_count;
      placed = s.placed;
      stands = s.stands;
      leads = s.leads;
      met = s.met;
      finished = still_finished;
      fresh = s.fresh;
      done = s.done;
      numbered = s.numbered;
      few = s.few;
      path = (λ x r. s.path.0 x (from_rest g.path x r), rest_falls g.path s.path.1);
      falling = s.falling;
      on_path = λ x r. start_or x r (λ e. other (subst (λ y. has g.starts y ≡ true) e r));
      first = s.first;
    }

    -- ---- the place starts the last group
    module _ (start : slice_get g.starts 0 ≡ Some p) where
      abbrev number : ℕ
      number = g.closed

      abbrev marks : List Visit
      marks = marked_all (Done number) (drop p g.members) g.marks

      abbrev AreClosed : ℕ → Type 0
      AreClosed a = ((q : ℕ) × (p ≤ q) × (mark_at g.marks a ≡ Open q) × (mark_at marks a ≡ Done number)) ⊎ ((mark_at marks a ≡ mark_at g.marks a) × ((q : ℕ) → mark_at g.marks a ≡ Open q → q < p))

      below_drop : AreBelow (length g.marks) (drop p g.members)
      below_drop i q = members_below i (from_drop g.members p i q)

      -- a place is of the group, or of one below it, or not open
      closed_or : (a : ℕ) → AreClosed a
      closed_or a = by_bool (has (drop p g.members) a) refl
        where
          by_index : has (drop p g.members) a ≡ true → (k : ℕ) × (k < length (drop p g.members)) × (get_or (drop p g.members) k 0 ≡ a) → AreClosed a
          by_index q found =
              let at : get_or g.members (p + found.0) 0 ≡ a = sym (get_or-drop p g.members found.0 0) ∙ found.2 in
              inl (p + found.0, omega arith, ap (mark_at g.marks) (sym at) ∙ s.placed (p + found.0) (omega (arith, found.1, length-drop p g.members)), marked_in (Done number) (drop p g.members) g.marks a below_drop q)

          under : has (drop p g.members) a ≡ false → (q : ℕ) → mark_at g.marks a ≡ Open q → (q < p) ⊎ (p ≤ q) → q < p
          under r q e (inl l) = l
          under r q e (inr l) =
              let at = s.stands a q e in
              let back : get_or (drop p g.members) (q - p) 0 ≡ a = get_or-drop p g.members (q - p) 0 ∙ ap (λ k. get_or g.members k 0) (omega (arith, l)) ∙ at.1 in
              let listed : has (drop p g.members) a ≡ true = ap (has (drop p g.members)) (sym back) ∙ has_get (drop p g.members) (q - p) (omega (arith, l, at.0, length-drop p g.members)) in
              let never : true ≡ false = sym listed ∙ r in absurd (cc)

          by_bool : (t : Bool) → has (drop p g.members) a ≡ t → AreClosed a
          by_bool true q = by_index q (index_of (drop p g.members) a q)
          by_bool false q = inr (marked_not (Done number) (drop p g.members) g.marks a q, λ k e. under q k e (cases_lt k p))

      -- what is open was so, below the group
      was_open : (a q : ℕ) → mark_at marks a ≡ Open q → AreClosed a → (mark_at g.marks a ≡ Open q) × (q < p)
      was_open a q e (inl c) = let never : Done number ≡ Open q = sym c.3 ∙ e in absurd (cc)
      was_open a q e (inr c) = let was : mark_at g.marks a ≡ Open q = sym c.0 ∙ e in (was, c.1 q was)

      was_new : (a : ℕ) → mark_at marks a ≡ New → AreClosed a → mark_at g.marks a ≡ New
      was_new a e (inl c) = let never : Done number ≡ New = sym c.3 ∙ e in absurd (cc)
      was_new a e (inr c) = sym c.0 ∙ e

      stays_open : (a q : ℕ) → mark_at g.marks a ≡ Open q → q < p → AreClosed a → mark_at marks a ≡ Open q
      stays_open a q e l (inl c) = let same : Open c.0 ≡ Open q = sym c.2 ∙ e in let one : c.0 ≡ q = cc in absurd (omega (arith, one, l, c.1))
      stays_open a q e l (inr c) = c.0 ∙ e

      now_done : (a q : ℕ) → mark_at g.marks a ≡ Open q → p ≤ q → AreClosed a → mark_at marks a ≡ Done number
      now_done a q e l (inl c) = c.3
      now_done a q e l (inr c) = absurd (omega (arith, l, c.1 q e))

      stays_done : (a k : ℕ) → mark_at g.marks a ≡ Done k → AreClosed a → mark_at marks a ≡ Done k
      stays_done a k e (inl c) = let never : Open c.0 ≡ Done k = sym c.2 ∙ e in absurd (cc)
      stays_done a k e (inr c) = c.0 ∙ e

      short : length (take p g.members) ≡ p
      short = length-take-le p g.members (omega (arith, top_below))

      placed : (q : ℕ) → q < length (take p g.members) → mark_at marks (get_or (take p g.members) q 0) ≡ Open q
      placed q l =
          let low : q < p = omega (arith, l, short) in
          ap (mark_at marks) (get_or-take p g.members q 0 low) ∙ stays_open (get_or g.members q 0) q (s.placed q (omega (arith, low, top_below))) low (closed_or (get_or g.members q 0))

      stands : (a q : ℕ) → mark_at marks a ≡ Open q → (q < length (take p g.members)) × (get_or (take p g.members) q 0 ≡ a)
      stands a q e =
          let was = was_open a q e (closed_or a) in
          (omega (arith, was.1, short), get_or-take p g.members q 0 was.1 ∙ (s.stands a q was.0).1)

      start_below : (x q : ℕ) → q < p → x ≤ q → has g.starts x ≡ true → has (drop 1 g.starts) x ≡ true
      start_below x q l m r = by_case (below_top g.starts p x start r)
        where
          by_case : (x ≡ p) ⊎ (has (drop 1 g.starts) x ≡ true) → has (drop 1 g.starts) x ≡ true
          by_case (inl e) = absurd (omega (arith, e, l, m))
          by_case (inr e) = e

      leads : (a b k m : ℕ) → mark_at marks a ≡ Open k → mark_at marks b ≡ Open m → IsFrom (drop 1 g.starts) k m → LeadsTo rows a b
      leads a b k m e f from =
          let was = was_open a k e (closed_or a) in
          s.leads a b k m was.0 (was_open b m f (closed_or b)).0 (λ x r low. from x (start_below x k was.1 low r) low)

      still_met : (q b : ℕ) → q < p → IsMet g.starts q (mark_at g.marks b) → AreClosed b → IsMet (drop 1 g.starts) q (mark_at marks b)
      still_met q b l was (inl c) = rw c.3 tt
      still_met q b l was (inr c) = rw c.0 (met_within g.starts (drop 1 g.starts) q (mark_at g.marks b) (λ x r m. from_rest g.starts x r) was)

      met : (a q k : ℕ) → mark_at marks a ≡ Open q → k < get_or g.next a 0 → k < length (row rows a) → IsMet (drop 1 g.starts) q (mark_at marks (get_or (row rows a) k 0))
      met a q k e l m =
          let was = was_open a q e (closed_or a) in
          still_met q (get_or (row rows a) k 0) was.1 (s.met a q k was.0 l m) (closed_or (get_or (row rows a) k 0))

      finished : (q : ℕ) → q < length (take p g.members) → has (drop 1 g.path) q ≡ false → length (row rows (get_or (take p g.members) q 0)) ≤ get_or g.next (get_or (take p g.members) q 0) 0
      finished q l off =
          let low : q < p = omega (arith, l, short) in
          rw (get_or-take p g.members q 0 low) (still_finished q (omega (arith, low, top_below)) off)

      abbrev Follows : ℕ → ℕ → ℕ → Type 0
      Follows a b m = (k : ℕ) × (mark_at marks b ≡ Done k) × (k ≤ m) × (k ≡ m → LeadsTo rows b a)

      -- a link that was met leads to the group, or to one that was done before
      inside : (a b q m : ℕ) → m ≡ number → p ≤ q → mark_at g.marks a ≡ Open q → (t : Visit) → mark_at g.marks b ≡ t → IsMet g.starts q t → Follows a b m
      inside a b q m same l e New f is = absurd is
      inside a b q m same l e (Open k) f is =
          (number, now_done b k f (is p (top_listed g.starts p start) l) (closed_or b), omega (arith, same), λ eq. s.leads b a k q f e (λ x r low. omega (arith, start_low x r, l)))
      inside a b q m same l e (Done k) f is =
          (k, stays_done b k f (closed_or b), omega (arith, same, s.numbered b k f), λ eq. absurd (omega (arith, eq, same, s.numbered b k f)))

      off_rest : (q : ℕ) → p ≤ q → (t : Bool) → has (drop 1 g.path) q ≡ t → has (drop 1 g.path) q ≡ false
      off_rest q l true r = absurd (omega (arith, l, under_top g.path p q top s.path.1 r))
      off_rest q l false r = r

      all_followed : (a q : ℕ) → p ≤ q → mark_at g.marks a ≡ Open q → length (row rows a) ≤ get_or g.next a 0
      all_followed a q l e =
          let at = s.stands a q e in
          subst (λ x. length (row rows x) ≤ get_or g.next x 0) at.1 (still_finished q at.0 (off_rest q l (has (drop 1 g.path) q) refl))

      by_link : (a b q m : ℕ) → m ≡ number → p ≤ q → mark_at g.marks a ≡ Open q → (k : ℕ) × (k < length (row rows a)) × (get_or (row rows a) k 0 ≡ b) → Follows a b m
      by_link a b q m same l e found =
          inside a b q m same l e (mark_at g.marks b) refl
          (subst (λ x. IsMet g.starts q (mark_at g.marks x)) found.2 (s.met a q found.0 e (omega (arith, found.1, all_followed a q l e)) found.1))

      done : (a b m : ℕ) → mark_at marks a ≡ Done m → links rows a b ≡ true → AreClosed a → Follows a b m
      done a b m e r (inl c) =
          let same : Done m ≡ Done number = sym e ∙ c.3 in
          by_link a b c.0 m (cc) c.1 c.2 (index_of (row rows a) b r)
      done a b m e r (inr c) =
          let was = s.done a b m (sym c.0 ∙ e) r in
          (was.0, stays_done b was.0 was.1 (closed_or b), was.2, was.3)

      numbered : (a m : ℕ) → mark_at marks a ≡ Done m → AreClosed a → m < number + 1
      numbered a m e (inl c) = let same : Done m ≡ Done number = sym e ∙ c.3 in let one : m ≡ number = cc in omega (arith, one)
      numbered a m e (inr c) = omega (arith, s.numbered a m (sym c.0 ∙ e))

      start_above : (x : ℕ) → has (drop 1 g.starts) x ≡ true → x < p
      start_above x r = under_top g.starts p x start s.falling r

      first : 0 < p → (0 ≡ p) ⊎ (has (drop 1 g.starts) 0 ≡ true) → has (drop 1 g.starts) 0 ≡ true
      first l (inl e) = absurd (omega (arith, l, e))
      first l (inr e) = e

      fewer : count_by is_unfinished marks < count_by is_unfinished g.marks
      fewer =
          first_fewer number (drop p g.members) g.marks p (omega (arith, top_below, length-drop p g.members)) below_drop
          (ap (mark_at g.marks) (get_or-drop p g.members 0 0 ∙ ap (λ k. get_or g.members k 0) (omega arith)) ∙ s.placed p top_below)

      left_closed : IsGrouping rows (closed_from (off_path g) p)
      left_closed = record {
        marks_count = marked_count (Done number) (drop p g.members) g.marks ∙ s.marks_count;
        next_count = s.next_count;
        placed = placed;
        stands = stands;
        leads = leads;
        met = met;
        finished = finished;
        fresh = λ a e. s.fresh a (was_new a e (closed_or a));
        done = λ a b m e r. done a b m e r (closed_or a);
        numbered = λ a m e. numbered a m e (closed_or a);
        few = omega (arith, s.few, fewer);
        path = (λ x r. omega (arith, short, under_top g.path p x top s.path.1 r), rest_falls g.path s.path.1);
        falling = rest_falls g.starts s.falling;
        on_path = λ x r. start_or x (from_rest g.starts x r) (λ e. omega (arith, e, start_above x r));
        first = λ l. first (omega (arith, l, short)) (below_top g.starts p 0 start (s.first (omega (arith, top_below))));
      }

    -- ---- either way

    begins : (o : Option ℕ) → slice_get g.starts 0 ≡ o → (is_option p o ≡ true → slice_get g.starts 0 ≡ Some p) × (is_option p o ≡ false → has g.starts p ≡ true → ⊥)
    begins None e = (λ q. cc, λ q r. no_top g.starts p e r)
    begins (Some x) e = (
      λ q. e ∙ ap Some (sym (eqb-true p x q)),
      λ q r. let never : true ≡ false = sym (eq-eqb p x (omega (arith, up_to_top g.starts x p e s.falling r, start_low x (top_listed g.starts x e)))) ∙ q in cc,
    )

    pub left_kept : IsGrouping rows (left g p)
    left_kept = step (is_option p (slice_get g.starts 0)) refl
      where
        step : (t : Bool) → is_option p (slice_get g.starts 0) ≡ t → IsGrouping rows (cond t (closed_from (off_path g) p) (off_path g))
        step true q = left_closed ((begins (slice_get g.starts 0) refl).0 q)
        step false q = left_alone ((begins (slice_get g.starts 0) refl).1 q)

    pub left_known : StayKnown g.marks (left g p).marks
    left_known a = step (is_option p (slice_get g.starts 0)) refl
      where
        step : (t : Bool) → is_option p (slice_get g.starts 0) ≡ t → mark_at (cond t (closed_from (off_path g) p) (off_path g)).marks a ≡ New → mark_at g.marks a ≡ New
        step true q e = let start = (begins (slice_get g.starts 0) refl).0 q in was_new start a e (closed_or start a)
        step false q e = e

pub left_next : (g : Grouping) (p : ℕ) → (left g p).next ≡ g.next
left_next g p = step (is_option p (slice_get g.starts 0))
  where
    step : (t : Bool) → (cond t (closed_from (off_path g) p) (off_path g)).next ≡ g.next
    step true = refl
    step false = refl

pub left_path : (g : Grouping) (p : ℕ) → (left g p).path ≡ drop 1 g.path
left_path g p = step (is_option p (slice_get g.starts 0))
  where
    step : (t : Bool) → (cond t (closed_from (off_path g) p) (off_path g)).path ≡ drop 1 g.path
    step true = refl
    step false = refl
