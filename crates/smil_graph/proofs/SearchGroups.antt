-- The steps of the search keep what holds of it.
use Rattle.std.proofs.Common.{◌≡◌, refl, sym, ◌∙◌, ap, subst, ℕ, suc, zero, ◌<◌, ◌≤◌, ◌+◌, List, [], ◌∷◌, ◌++◌, length, get_or, set, count_by, Bool, true, false, cond, Some, arith, inl, inr}
use Rattle.std.specs.Prelude.{◌⊎◌, slice_get}
use Rattle.std.proofs.lemmas.Bool.{cases_lt, cases_eq}
use Rattle.std.proofs.lemmas.List.Sums.{sum_by-set}
use Rattle.std.proofs.lemmas.List.{length-set, length_push, get_or-set_same, get_or-set_other, get_or_past, set_past}
use Rattle.smil_graph.specs.declared.components.Visit.{Visit}
use Rattle.smil_graph.specs.declared.components.Visit.TheVariants.{New, Open, Done}
use Rattle.smil_model.specs.document.Closure.{has}
use Rattle.smil_graph.specs.Links.{row, links, LeadsTo}
use Rattle.smil_graph.specs.Components.{Grouping, IsGrouping, IsFrom, IsMet, StayKnown, mark_at, is_unfinished, opened, merged, followed, without_above, links_left}
use Rattle.smil_graph.proofs.PlaceLists.{front_push, end_push}
use Rattle.smil_graph.proofs.StackLists.{is_head, in_tail, head_or_tail, up_to_top, without_in, without_low, without_keeps, without_falls}

-- ---- ways along links

pub no_way : (rows : List (List ℕ)) (a : ℕ) → LeadsTo rows a a
no_way rows a = λ test at kept. at

pub one_way : (rows : List (List ℕ)) (a b : ℕ) → links rows a b ≡ true → LeadsTo rows a b
one_way rows a b q = λ test at kept. kept a b at q

pub two_ways : (rows : List (List ℕ)) (a b c : ℕ) → LeadsTo rows a b → LeadsTo rows b c → LeadsTo rows a c
two_ways rows a b c f g = λ test at kept. g test (f test at kept) kept

-- ---- groups

pub met_within : (starts starts' : List ℕ) (p : ℕ) (m : Visit) → ((s : ℕ) → has starts' s ≡ true → s ≤ p → has starts s ≡ true) → IsMet starts p m → IsMet starts' p m
met_within starts starts' p New within n = n
met_within starts starts' p (Open q) within n = λ s r l. n s (within s r l) l
met_within starts starts' p (Done k) within n = tt

-- ---- how many places are not done

abbrev weight : Visit → ℕ
weight m = cond (is_unfinished m) 1 0

pub opened_few : (marks : List Visit) (a p : ℕ) → a < length marks → mark_at marks a ≡ New → count_by is_unfinished (set marks a (Open p)) ≡ count_by is_unfinished marks
opened_few marks a p l e = omega (arith, sum_by-set weight marks a (Open p) New l, ap weight e)

pub done_few : (marks : List Visit) (a k : ℕ) → count_by is_unfinished (set marks a (Done k)) ≤ count_by is_unfinished marks
done_few marks a k = by_case (cases_lt a (length marks))
  where
    by_case : (a < length marks) ⊎ (length marks ≤ a) → count_by is_unfinished (set marks a (Done k)) ≤ count_by is_unfinished marks
    by_case (inl l) = omega (arith, sum_by-set weight marks a (Done k) New l)
    by_case (inr l) = rw (set_past marks a (Done k) l) (omega arith)

pub done_fewer : (marks : List Visit) (a p k : ℕ) → a < length marks → mark_at marks a ≡ Open p → count_by is_unfinished (set marks a (Done k)) < count_by is_unfinished marks
done_fewer marks a p k l e = omega (arith, sum_by-set weight marks a (Done k) New l, ap weight e)

module _ (rows : List (List ℕ)) (g : Grouping) (s : IsGrouping rows g) where
  -- ---- a place is opened
  module _ (place : ℕ) (low : place < length rows) (new : mark_at g.marks place ≡ New) (led : (a p : ℕ) → mark_at g.marks a ≡ Open p → LeadsTo rows a place) where
    abbrev n : ℕ
    n = length g.members

    -- the place has its new mark, and another its old one
    abbrev IsMarked : ℕ → Type 0
    IsMarked a = ((a ≡ place) × (mark_at (opened g place).marks a ≡ Open n)) ⊎ ((a ≡ place → ⊥) × (mark_at (opened g place).marks a ≡ mark_at g.marks a))

    mark_of : (a : ℕ) → IsMarked a
    mark_of a = by_case (cases_eq a place)
      where
        by_case : (a ≡ place) ⊎ (a ≡ place → ⊥) → IsMarked a
        by_case (inl e) = inl (e, ap (mark_at (opened g place).marks) e ∙ get_or-set_same g.marks place (Open n) New (omega (arith, low, s.marks_count)))
        by_case (inr o) = inr (o, get_or-set_other g.marks place a (Open n) New o)

    same_or : (p : ℕ) → p < length (g.members ++ place ∷ []) → (p < n) ⊎ (p ≡ n)
    same_or p l = by_case (cases_lt p n)
      where
        by_case : (p < n) ⊎ (n ≤ p) → (p < n) ⊎ (p ≡ n)
        by_case (inl m) = inl m
        by_case (inr m) = inr (omega (arith, m, l, length_push g.members place))

    placed : (p : ℕ) → (p < n) ⊎ (p ≡ n) → mark_at (opened g place).marks (get_or (g.members ++ place ∷ []) p 0) ≡ Open p
    placed p (inl l) = by_mark (mark_of (get_or g.members p 0))
      where
        by_mark : IsMarked (get_or g.members p 0) → mark_at (opened g place).marks (get_or (g.members ++ place ∷ []) p 0) ≡ Open p
        by_mark (inl e) = let never : New ≡ Open p = sym new ∙ ap (mark_at g.marks) (sym e.0) ∙ s.placed p l in absurd (cc)
        by_mark (inr e) = ap (mark_at (opened g place).marks) (front_push g.members place p l) ∙ e.1 ∙ s.placed p l
    placed p (inr e) =
        ap (λ k. mark_at (opened g place).marks (get_or (g.members ++ place ∷ []) k 0)) e
        ∙ ap (mark_at (opened g place).marks) (end_push g.members place)
        ∙ get_or-set_same g.marks place (Open n) New (omega (arith, low, s.marks_count))
        ∙ ap Open (sym e)

    -- an open place stood there before, or is the new one
    abbrev Stood : ℕ → ℕ → Type 0
    Stood a p = ((a ≡ place) × (p ≡ n)) ⊎ ((a ≡ place → ⊥) × (mark_at g.marks a ≡ Open p))

    stood : (a p : ℕ) → mark_at (opened g place).marks a ≡ Open p → Stood a p
    stood a p q = by_mark (mark_of a)
      where
        by_mark : IsMarked a → Stood a p
        by_mark (inl e) = inl (e.0, cc)
        by_mark (inr e) = inr (e.0, sym e.1 ∙ q)

    stands : (a p : ℕ) → Stood a p → (p < length (g.members ++ place ∷ [])) × (get_or (g.members ++ place ∷ []) p 0 ≡ a)
    stands a p (inl e) = (omega (arith, e.1, length_push g.members place), ap (λ k. get_or (g.members ++ place ∷ []) k 0) e.1 ∙ end_push g.members place ∙ sym e.0)
    stands a p (inr e) = let at = s.stands a p e.1 in (omega (arith, at.0, length_push g.members place), front_push g.members place p at.0 ∙ at.1)

    leads : (a b p q : ℕ) → Stood a p → Stood b q → IsFrom (n ∷ g.starts) p q → LeadsTo rows a b
    leads a b p q (inl e) (inl f) from = rw (e.0, f.0) (no_way rows place)
    leads a b p q (inl e) (inr f) from = absurd (omega (arith, e.1, from n (is_head n g.starts n refl) (omega (arith, e.1)), (s.stands b q f.1).0))
    leads a b p q (inr e) (inl f) from = rw f.0 (led a p e.1)
    leads a b p q (inr e) (inr f) from = s.leads a b p q e.1 f.1 (λ x r l. from x (in_tail n g.starts x r) l)

    -- what a link that was followed leads to is not new
    met_still : (p b : ℕ) → p < n → IsMet g.starts p (mark_at g.marks b) → IsMet (n ∷ g.starts) p (mark_at (opened g place).marks b)
    met_still p b l was = by_mark (mark_of b)
      where
        by_start : (x : ℕ) → x ≤ p → (x ≡ n) ⊎ (has g.starts x ≡ true) → has g.starts x ≡ true
        by_start x m (inl e) = absurd (omega (arith, m, e, l))
        by_start x m (inr r) = r

        never : b ≡ place → ⊥
        never e = subst (IsMet g.starts p) (ap (mark_at g.marks) e ∙ new) was

        by_mark : IsMarked b → IsMet (n ∷ g.starts) p (mark_at (opened g place).marks b)
        by_mark (inl e) = absurd (never e.0)
        by_mark (inr e) = rw e.1 (met_within g.starts (n ∷ g.starts) p (mark_at g.marks b) (λ x r m. by_start x m (head_or_tail n g.starts x r)) was)

    met : (a p k : ℕ) → Stood a p → k < get_or g.next a 0 → k < length (row rows a) → IsMet (n ∷ g.starts) p (mark_at (opened g place).marks (get_or (row rows a) k 0))
    met a p k (inl e) l m = absurd (omega (arith, l, ap (λ x. get_or g.next x 0) e.0, s.fresh place new))
    met a p k (inr e) l m = met_still p (get_or (row rows a) k 0) (s.stands a p e.1).0 (s.met a p k e.1 l m)

    finished : (p : ℕ) → (p < n) ⊎ (p ≡ n) → has (n ∷ g.path) p ≡ false → length (row rows (get_or (g.members ++ place ∷ []) p 0)) ≤ get_or g.next (get_or (g.members ++ place ∷ []) p 0) 0
    finished p (inr e) off = let never : true ≡ false = sym (is_head n g.path p e) ∙ off in absurd (cc)
    finished p (inl l) off = rw (front_push g.members place p l) (s.finished p l (by_bool (has g.path p) refl))
      where
        by_bool : (t : Bool) → has g.path p ≡ t → has g.path p ≡ false
        by_bool true r = let never : true ≡ false = sym (in_tail n g.path p r) ∙ off in absurd (cc)
        by_bool false r = r

    -- a place that is new or done was so before
    unless_open : (a : ℕ) (m : Visit) → (Open n ≡ m → ⊥) → mark_at (opened g place).marks a ≡ m → mark_at g.marks a ≡ m
    unless_open a m o q = by_mark (mark_of a)
      where
        by_mark : IsMarked a → mark_at g.marks a ≡ m
        by_mark (inl e) = absurd (o (sym e.1 ∙ q))
        by_mark (inr e) = sym e.1 ∙ q

    pub still_marked : (m : Visit) (a : ℕ) → (New ≡ m → ⊥) → mark_at g.marks a ≡ m → mark_at (opened g place).marks a ≡ m
    still_marked m a o q = by_mark (mark_of a)
      where
        by_mark : IsMarked a → mark_at (opened g place).marks a ≡ m
        by_mark (inl e) = absurd (o (sym new ∙ ap (mark_at g.marks) (sym e.0) ∙ q))
        by_mark (inr e) = e.1 ∙ q

    was_done : (a k : ℕ) → mark_at (opened g place).marks a ≡ Done k → mark_at g.marks a ≡ Done k
    was_done a k q = unless_open a (Done k) (λ e. cc) q

    done : (a b m : ℕ) → mark_at (opened g place).marks a ≡ Done m → links rows a b ≡ true → (k : ℕ) × (mark_at (opened g place).marks b ≡ Done k) × (k ≤ m) × (k ≡ m → LeadsTo rows b a)
    done a b m q r =
        let before = s.done a b m (was_done a m q) r in
        (before.0, still_marked (Done before.0) b (λ e. cc) before.1, before.2, before.3)

    listed_below : (x : ℕ) → (x ≡ n) ⊎ (has g.path x ≡ true) → x < length (g.members ++ place ∷ [])
    listed_below x (inl e) = omega (arith, e, length_push g.members place)
    listed_below x (inr r) = omega (arith, s.path.0 x r, length_push g.members place)

    on_path : (x : ℕ) → (x ≡ n) ⊎ (has g.starts x ≡ true) → has (n ∷ g.path) x ≡ true
    on_path x (inl e) = is_head n g.path x e
    on_path x (inr r) = in_tail n g.path x (s.on_path x r)

    first : (0 < n) ⊎ (n ≤ 0) → has (n ∷ g.starts) 0 ≡ true
    first (inl l) = in_tail n g.starts 0 (s.first l)
    first (inr l) = is_head n g.starts 0 (omega (arith, l))

    pub opened_kept : IsGrouping rows (opened g place)
    opened_kept = record {
      marks_count = length-set g.marks place (Open n) ∙ s.marks_count;
      next_count = s.next_count;
      placed = λ p l. placed p (same_or p l);
      stands = λ a p q. stands a p (stood a p q);
      leads = λ a b p q e f from. leads a b p q (stood a p e) (stood b q f) from;
      met = λ a p k q l m. met a p k (stood a p q) l m;
      finished = λ p l off. finished p (same_or p l) off;
      fresh = λ a q. s.fresh a (unless_open a New (λ e. cc) q);
      done = done;
      numbered = λ a m q. s.numbered a m (was_done a m q);
      few = rw (opened_few g.marks place (length g.members) (omega (arith, low, s.marks_count)) new) s.few;
      path = (λ x r. listed_below x (head_or_tail n g.path x r), s.path);
      falling = (λ x r. s.path.0 x (s.on_path x r), s.falling);
      on_path = λ x r. on_path x (head_or_tail n g.starts x r);
      first = λ l. first (cases_lt 0 n);
    }

    pub opened_known : StayKnown g.marks (opened g place).marks
    opened_known a q = unless_open a New (λ e. cc) q

  -- ---- the last place of the path, whose links are followed
  module _ (p place : ℕ) (top : slice_get g.path 0 ≡ Some p) (here : mark_at g.marks place ≡ Open p) where
    -- it is in the last group
    pub last_start : (x : ℕ) → has g.starts x ≡ true → x ≤ p
    last_start x r = up_to_top g.path p x top s.path.1 (s.on_path x r)

    -- so each open place leads to it
    pub all_lead : (a q : ℕ) → mark_at g.marks a ≡ Open q → LeadsTo rows a place
    all_lead a q e = s.leads a place q p e here (λ x r l. last_start x r)

    -- ---- groups become one, along a link from that place
    module _ (j q : ℕ) (there : mark_at g.marks j ≡ Open q) (link : links rows place j ≡ true) where
      within : (x : ℕ) → has (without_above q g.starts) x ≡ true → has g.starts x ≡ true
      within x r = without_in q g.starts x r

      leads_back : (a b k m : ℕ) → mark_at g.marks a ≡ Open k → mark_at g.marks b ≡ Open m → IsFrom (without_above q g.starts) k m → (q < k) ⊎ (k ≤ q) → LeadsTo rows a b
      leads_back a b k m e f from (inl l) =
          two_ways rows a place b (all_lead a k e)
          (two_ways rows place j b (one_way rows place j link)
          (s.leads j b q m there f (λ x r low. from x (without_keeps q g.starts x r low) (omega (arith, low, l)))))
      leads_back a b k m e f from (inr l) = s.leads a b k m e f (λ x r low. from x (without_keeps q g.starts x r (omega (arith, low, l))) low)

      pub merged_kept : IsGrouping rows (merged g q)
      merged_kept = record {
        marks_count = s.marks_count;
        next_count = s.next_count;
        placed = s.placed;
        stands = s.stands;
        leads = λ a b k m e f from. leads_back a b k m e f from (cases_lt q k);
        met = λ a k i e l m. met_within g.starts (without_above q g.starts) k (mark_at g.marks (get_or (row rows a) i 0)) (λ x r low. within x r) (s.met a k i e l m);
        finished = s.finished;
        fresh = s.fresh;
        done = s.done;
        numbered = s.numbered;
        few = s.few;
        path = s.path;
        falling = without_falls q g.starts s.falling;
        on_path = λ x r. s.on_path x (within x r);
        first = λ l. without_keeps q g.starts 0 (s.first l) (omega arith);
      }

      pub merged_met : IsMet (without_above q g.starts) p (mark_at g.marks j)
      merged_met = rw there (λ x r l. without_low q g.starts x s.falling r)

  -- ---- a link of an open place was followed
  module _ (p place : ℕ) (here : mark_at g.marks place ≡ Open p) (more : get_or g.next place 0 < length (row rows place)) (met : IsMet g.starts p (mark_at g.marks (get_or (row rows place) (get_or g.next place 0) 0))) where
    abbrev next : ℕ
    next = get_or g.next place 0

    low : place < length g.next
    low = omega (arith, s.next_count, below (cases_lt place (length g.marks)))
      where
        below : (place < length g.marks) ⊎ (length g.marks ≤ place) → place < length rows
        below (inl l) = omega (arith, l, s.marks_count)
        below (inr l) = let never : New ≡ Open p = sym (get_or_past g.marks place New l) ∙ here in absurd (cc)

    -- one more link of the place was followed, and none of another
    abbrev IsNext : ℕ → Type 0
    IsNext a = ((a ≡ place) × (get_or (followed g place).next a 0 ≡ next + 1)) ⊎ ((a ≡ place → ⊥) × (get_or (followed g place).next a 0 ≡ get_or g.next a 0))

    next_of : (a : ℕ) → IsNext a
    next_of a = by_case (cases_eq a place)
      where
        by_case : (a ≡ place) ⊎ (a ≡ place → ⊥) → IsNext a
        by_case (inl e) = inl (e, ap (λ x. get_or (followed g place).next x 0) e ∙ get_or-set_same g.next place (next + 1) 0 low)
        by_case (inr o) = inr (o, get_or-set_other g.next place a (next + 1) 0 o)

    still_met : (a k i : ℕ) → mark_at g.marks a ≡ Open k → i < get_or (followed g place).next a 0 → i < length (row rows a) → IsMet g.starts k (mark_at g.marks (get_or (row rows a) i 0))
    still_met a k i e l m = by_next (next_of a)
      where
        by_place : a ≡ place → (i < next) ⊎ (next ≤ i) → i < next + 1 → IsMet g.starts k (mark_at g.marks (get_or (row rows a) i 0))
        by_place same (inl less) up = s.met a k i e (omega (arith, less, ap (λ x. get_or g.next x 0) same)) m
        by_place same (inr most) up =
            let at : i ≡ next = omega (arith, most, up) in
            let one : Open k ≡ Open p = sym e ∙ ap (mark_at g.marks) same ∙ here in
            let stand : k ≡ p = cc in
            rw (same, at, stand) met

        by_next : IsNext a → IsMet g.starts k (mark_at g.marks (get_or (row rows a) i 0))
        by_next (inl f) = by_place f.0 (cases_lt i next) (omega (arith, f.1, l))
        by_next (inr f) = s.met a k i e (omega (arith, f.1, l)) m

    not_less : (a : ℕ) → get_or g.next a 0 ≤ get_or (followed g place).next a 0
    not_less a = by_next (next_of a)
      where
        by_next : IsNext a → get_or g.next a 0 ≤ get_or (followed g place).next a 0
        by_next (inl f) = omega (arith, f.1, ap (λ x. get_or g.next x 0) f.0)
        by_next (inr f) = omega (arith, f.1)

    still_fresh : (a : ℕ) → mark_at g.marks a ≡ New → get_or (followed g place).next a 0 ≡ 0
    still_fresh a q = by_next (next_of a)
      where
        by_next : IsNext a → get_or (followed g place).next a 0 ≡ 0
        by_next (inl f) = let never : New ≡ Open p = sym q ∙ ap (mark_at g.marks) f.0 ∙ here in absurd (cc)
        by_next (inr f) = f.1 ∙ s.fresh a q

    pub followed_kept : IsGrouping rows (followed g place)
    followed_kept = record {
      marks_count = s.marks_count;
      next_count = length-set g.next place (next + 1) ∙ s.next_count;
      placed = s.placed;
      stands = s.stands;
      leads = s.leads;
      met = still_met;
      finished = λ k l off. omega (arith, s.finished k l off, not_less (get_or g.members k 0));
      fresh = still_fresh;
      done = s.done;
      numbered = s.numbered;
      few = s.few;
      path = s.path;
      falling = s.falling;
      on_path = s.on_path;
      first = s.first;
    }

-- ---- links left

pub less_left : (rows : List (List ℕ)) (next : List ℕ) (place : ℕ) → length next ≡ length rows → get_or next place 0 < length (row rows place) → links_left rows (set next place (get_or next place 0 + 1)) + 1 ≡ links_left rows next
less_left [] next place same l = absurd (omega (arith, l))
less_left (r ∷ rows) [] place same l = absurd (omega (arith, same))
less_left (r ∷ rows) (k ∷ next) zero same l = omega (arith, l)
less_left (r ∷ rows) (k ∷ next) (suc place) same l = omega (arith, less_left rows next place (omega (arith, same)) l)
