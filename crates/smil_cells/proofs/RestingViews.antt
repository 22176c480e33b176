-- Entries leave the view of each element in which none of them shows and whose current interval stays: a begin in a seq or an excl displaces only what may rest.
use Rattle.std.proofs.Common.{◌≡◌, refl, sym, ◌∙◌, ap, subst, ℕ, suc, ◌+◌, ◌<◌, List, [], ◌∷◌, ◌++◌, Option, Some, None, ℤ, Bool, true, false, arith, append_assoc, inl, inr, eqb-true}
use Rattle.std.specs.Prelude.{◌⊎◌, cond, ◌==◌, ◌||◌, ◌&&◌, not, reverse, drop, filter, find, is_some}
use Rattle.std.specs.List.{AllByRecursion, list_any}
use Rattle.std.proofs.lemmas.Bool.{or_parts, or_from, or_left, or_right, or_cases, and_parts, and_from, ne_eqb, eq-eqb, false_from_ne_true}
use Rattle.std.proofs.lemmas.List.{append-nil}
use Rattle.smil_model.specs.declared.interval.Interval.{Interval}
use Rattle.smil_model.specs.declared.diary.Entry.{Entry}
use Rattle.smil_model.specs.declared.diary.LogEntry.{LogEntry}
use Rattle.smil_model.specs.declared.diary.Step.{Step}
use Rattle.smil_model.specs.declared.diary.Step.TheVariants.{Began, Resumed, Paused}
use Rattle.smil_model.specs.declared.document.Node.{Node}
use Rattle.smil_model.specs.declared.view.View.{View}
use Rattle.smil_model.specs.document.Document.{is_element, elements, node_at, lineage, is_within, time_parent, has_serial, has_kind, is_in_seq, is_in_excl, is_seq_kind, is_excl_kind, is_time_child, time_children, just_before, previous_child, previous_in_seq}
use Rattle.smil_model.specs.diary.Diary.{History, up_to}
use Rattle.smil_model.specs.interval.Current.{current_interval}
use Rattle.smil_model.specs.reach.Reach.{shares_parent}
use Rattle.smil_model.specs.shown.Views.{is_sibling, sets_off_sibling, begins_next, view_facts, shows_under, is_frozen_in, view_by, time_ancestors}
use Rattle.smil_laws.specs.Locality.{ParentsBefore}
use Rattle.smil_laws.specs.Same.{view_at}
use Rattle.smil_laws.specs.Seen.{starts}
use Rattle.smil_laws.proofs.LineageParents.{upwards-head}
use Rattle.smil_laws.proofs.Lists.{each_chosen}
use Rattle.smil_laws.proofs.AsideDocuments.{each_drop, each_filter}
use Rattle.smil_laws.proofs.DescendantChains.{no_chain}
use Rattle.smil_laws.proofs.ForeignEntries.{Apart, is_about}
use Rattle.smil_laws.proofs.ListMembers.{holds, held_reverse, found_held}
use Rattle.smil_laws.proofs.UnreachedIntervals.{about_none, about_no_one, absent_up, absent_reverse}
use Rattle.smil_laws.proofs.ViewsAbove.{Unseen, all_unseen, no_set_off, no_begin_next}
use Rattle.smil_cells.specs.Evaluated.{acts_on}
use Rattle.smil_cells.specs.Shown.{sequenced, displaced_in, may_rest, any_rests, rests_under, shows_from, any_shows}
use Rattle.smil_cells.proofs.EntryDisplaces.{is_set_off, Unmoved, rest-then, view-then}

-- ---- lists

any_same : (t u : Node → Bool) (ns : List Node) → ((n : Node) → t n ≡ u n) → list_any t ns ≡ list_any u ns
any_same t u [] f = refl
any_same t u (n ∷ ns) f = ap (λ b. b || list_any t ns) (f n) ∙ ap (λ b. u n || b) (any_same t u ns f)

any_filtered : (t u : Node → Bool) (ns : List Node) → list_any t (filter u ns) ≡ false → list_any (λ (n : Node). u n && t n) ns ≡ false
any_filtered t u [] q = refl
any_filtered t u (n ∷ ns) q = by_own (u n) q (any_filtered t u ns)
  where
    by_own : (b : Bool) → list_any t (cond b (n ∷ filter u ns) (filter u ns)) ≡ false → (list_any t (filter u ns) ≡ false → list_any (λ (m : Node). u m && t m) ns ≡ false) → ((b && t n) || list_any (λ (m : Node). u m && t m) ns) ≡ false
    by_own true r rest = let parts = or_parts (t n) (list_any t (filter u ns)) r in or_from _ _ parts.0 (rest parts.1)
    by_own false r rest = rest r

-- what is found among those that pass is one of all and passes
record IsFound (t : Node → Bool) (ns : List Node) (e : Node) : Type 0 where
  passes : t e ≡ true
  one_of : (u : Node → Bool) → list_any u ns ≡ false → u e ≡ false

found_in : (t : Node → Bool) (s : ℕ) (ns : List Node) (e : Node) → node_at (filter t ns) s ≡ Some e → IsFound t ns e
found_in t s [] e q = cc
found_in t s (n ∷ ns) e q = by_own (t n) refl q (λ r. further (found_in t s ns e r))
  where
    further : IsFound t ns e → IsFound t (n ∷ ns) e
    further below = record { passes = below.passes; one_of = λ u free. below.one_of u ((or_parts (u n) (list_any u ns) free).1) }

    here : n ≡ e → t n ≡ true → IsFound t (n ∷ ns) e
    here one passes = record { passes = ap t (sym one) ∙ passes; one_of = λ u free. ap u (sym one) ∙ (or_parts (u n) (list_any u ns) free).0 }

    by_serial : (b : Bool) → t n ≡ true → cond b (Some n) (node_at (filter t ns) s) ≡ Some e → (node_at (filter t ns) s ≡ Some e → IsFound t (n ∷ ns) e) → IsFound t (n ∷ ns) e
    by_serial true passes r later = here (let one : n ≡ e = cc in one) passes
    by_serial false passes r later = later r

    by_own : (b : Bool) → t n ≡ b → node_at (cond b (n ∷ filter t ns) (filter t ns)) s ≡ Some e → (node_at (filter t ns) s ≡ Some e → IsFound t (n ∷ ns) e) → IsFound t (n ∷ ns) e
    by_own true passes r later = by_serial (n.serial == s) passes r later
    by_own false passes r later = later r

-- each of a chain is in it
each_in : (whole part : List Node) → ((k : ℕ) → list_any (λ (a : Node). a.serial == k) part ≡ true → list_any (λ (a : Node). a.serial == k) whole ≡ true) → AllByRecursion (λ (p : Node). list_any (λ (a : Node). a.serial == p.serial) whole ≡ true) part
each_in whole [] f = tt
each_in whole (p ∷ ps) f = (
  f p.serial (or_left _ _ (eq-eqb p.serial p.serial refl)),
  each_in whole ps (λ k q. f k (or_right _ _ q)),
)

pick : (P : ℕ → Type 0) (k : ℕ) (ns : List Node) → AllByRecursion (λ (p : Node). P p.serial) ns → list_any (λ (a : Node). a.serial == k) ns ≡ true → P k
pick P k [] each q = cc
pick P k (n ∷ ns) each q = by_case (or_cases (n.serial == k) (list_any (λ (a : Node). a.serial == k) ns) q) (pick P k ns each.1)
  where
    by_case : (n.serial == k ≡ true) ⊎ (list_any (λ (a : Node). a.serial == k) ns ≡ true) → (list_any (λ (a : Node). a.serial == k) ns ≡ true → P k) → P k
    by_case (inl p) later = subst P (eqb-true n.serial k p) each.0
    by_case (inr p) later = later p

-- the one before is one of the list
before_each : (P : Node → Type 0) (s : ℕ) (ns : List Node) (o : Option Node) (b : Node) → AllByRecursion P ns → (o ≡ Some b → P b) → just_before s o ns ≡ Some b → P b
before_each P s [] o b each first q = cc
before_each P s (n ∷ ns) o b each first q = step (n.serial == s) q (before_each P s ns (Some n) b each.1 here)
  where
    here : Some n ≡ Some b → P b
    here e = let one : n ≡ b = cc in rw (← one) each.0

    step : (t : Bool) → cond t o (just_before s (Some n) ns) ≡ Some b → (just_before s (Some n) ns ≡ Some b → P b) → P b
    step true r later = first r
    step false r later = later r

-- a serial above all
total : List Node → ℕ
total [] = 0
total (n ∷ ns) = n.serial + total ns

absent_above : (x : ℕ) (ns : List Node) → total ns < x → list_any (λ (n : Node). n.serial == x) ns ≡ false
unfolding total
absent_above x [] l = refl
absent_above x (n ∷ ns) l = or_from _ _ (ne_eqb n.serial x (λ e. absurd (omega (arith, e, l)))) (absent_above x ns (omega (arith, l)))

no_start : (step : Step) → acts_on step ≡ None → starts step ≡ false
no_start (Began who begin) q = cc
no_start (Resumed who) q = cc
no_start _ q = refl

-- ---- what a step on one element displaces

module _ (nodes : List Node) (first : ParentsBefore (reverse nodes)) where
  apart_chain : (x s : ℕ) (chain : List Node) → lineage nodes s ≡ chain → is_within nodes x s ≡ false → AllByRecursion (λ (p : Node). Apart nodes x p.serial) chain
  apart_chain x s chain q free = by_each chain (all_unseen nodes first (Paused x) x s chain q free refl)
    where
      by_each : (ns : List Node) → AllByRecursion (λ (p : Node). Unseen nodes first (Paused x) x p.serial) ns → AllByRecursion (λ (p : Node). Apart nodes x p.serial) ns
      by_each [] each = tt
      by_each (n ∷ ns) each = (each.0.apart, by_each ns each.1)

  -- a node above an element that is not within x is apart from x
  apart_above : (x s n : ℕ) → is_within nodes x s ≡ false → is_within nodes n s ≡ true → Apart nodes x n
  apart_above x s n free above = pick (Apart nodes x) n (lineage nodes s) (apart_chain x s (lineage nodes s) refl free) above

  -- a sibling that is set off is a child of the same time parent
  sibling_under : (o : Option Node) (s who : ℕ) (q : Node) → time_parent nodes who ≡ Some q → is_sibling nodes o s who ≡ true → has_serial q.serial o ≡ true
  sibling_under None s who q f t = cc
  sibling_under (Some p) s who q f t =
      let same : q.serial == p.serial ≡ true = sym (ap (has_serial p.serial) f) ∙ (and_parts (not (who == s)) (has_serial p.serial (time_parent nodes who)) t).1 in
      eq-eqb p.serial q.serial (sym (eqb-true q.serial p.serial same))

  next_under : (s who : ℕ) (q : Node) → time_parent nodes who ≡ Some q → has_serial s (previous_in_seq nodes who) ≡ true → has_serial q.serial (time_parent nodes s) ≡ true
  next_under s who q f t = by_seq (is_in_seq nodes who) (sym (ap (λ o. has_serial s (cond (is_in_seq nodes who) (previous_child nodes o who) None)) f) ∙ t)
    where
      by_before : (o : Option Node) → just_before who None (time_children nodes q.serial) ≡ o → has_serial s o ≡ true → has_serial q.serial (time_parent nodes s) ≡ true
      by_before None is r = cc
      by_before (Some b) is r =
          let child : is_time_child nodes q.serial b ≡ true = before_each (λ (n : Node). is_time_child nodes q.serial n ≡ true) who (time_children nodes q.serial) None b (each_filter (λ (n : Node). is_time_child nodes q.serial n ≡ true) (is_time_child nodes q.serial) nodes (λ n e. e)) (λ e. let never : None ≡ Some b = e in cc) is in
          ap (λ k. has_serial q.serial (time_parent nodes k)) (sym (eqb-true b.serial s r)) ∙ (and_parts (is_element b) (has_serial q.serial (time_parent nodes b.serial)) child).1

      by_seq : (b : Bool) → has_serial s (cond b (just_before who None (time_children nodes q.serial)) None) ≡ true → has_serial q.serial (time_parent nodes s) ≡ true
      by_seq true r = by_before (just_before who None (time_children nodes q.serial)) refl r
      by_seq false r = cc

  module _ (log : List LogEntry) (step : Step) (x : ℕ) (only : (t : ℕ) → t == x ≡ false → is_about log t step ≡ false) where
    -- the seq or excl in which an element is displaced
    record IsPushed (s : ℕ) : Type 0 where
      parent : Node
      displaced : displaced_in nodes step x ≡ Some parent
      child : has_serial parent.serial (time_parent nodes s) ≡ true

    about : (who : ℕ) → (who == x ≡ false → who == who ≡ false) → who ≡ x
    about who f = by_test (who == x) refl
      where
        by_test : (t : Bool) → who == x ≡ t → who ≡ x
        by_test true e = eqb-true who x e
        by_test false e = let never : true ≡ false = sym (eq-eqb who who refl) ∙ f e in cc

    under_parent : (st : Step) → ((t : ℕ) → t == x ≡ false → is_about log t st ≡ false) → (s : ℕ) (q : Node) → time_parent nodes x ≡ Some q → is_set_off nodes s st ≡ true → has_serial q.serial (time_parent nodes s) ≡ true
    under_parent (Began who begin) f s q g t = by_case (or_cases ((is_in_seq nodes s || is_in_excl nodes s) && is_sibling nodes (time_parent nodes s) s who) (has_serial s (previous_in_seq nodes who)) t)
      where
        here : time_parent nodes who ≡ Some q
        here = ap (time_parent nodes) (about who (f who)) ∙ g

        by_case : (((is_in_seq nodes s || is_in_excl nodes s) && is_sibling nodes (time_parent nodes s) s who) ≡ true) ⊎ (has_serial s (previous_in_seq nodes who) ≡ true) → has_serial q.serial (time_parent nodes s) ≡ true
        by_case (inl r) = sibling_under (time_parent nodes s) s who q here ((and_parts (is_in_seq nodes s || is_in_excl nodes s) (is_sibling nodes (time_parent nodes s) s who) r).1)
        by_case (inr r) = next_under s who q here r
    under_parent (Resumed who) f s q g t = by_case (or_cases ((is_in_seq nodes s || is_in_excl nodes s) && is_sibling nodes (time_parent nodes s) s who) false t)
      where
        here : time_parent nodes who ≡ Some q
        here = ap (time_parent nodes) (about who (f who)) ∙ g

        by_case : (((is_in_seq nodes s || is_in_excl nodes s) && is_sibling nodes (time_parent nodes s) s who) ≡ true) ⊎ (false ≡ true) → has_serial q.serial (time_parent nodes s) ≡ true
        by_case (inl r) = sibling_under (time_parent nodes s) s who q here ((and_parts (is_in_seq nodes s || is_in_excl nodes s) (is_sibling nodes (time_parent nodes s) s who) r).1)
        by_case (inr r) = cc
    under_parent _ f s q g t = absurd (none (is_in_seq nodes s || is_in_excl nodes s) t)
      where
        none : (b : Bool) → ((b && false) || false) ≡ true → ⊥
        none true r = cc
        none false r = cc

    -- a step that sets an element off is a begin or a resume in a seq or an excl
    beside : (s : ℕ) → Apart nodes x s → is_set_off nodes s step ≡ true → (starts step && (is_in_seq nodes x || is_in_excl nodes x) && shares_parent nodes (time_parent nodes x) s) ≡ true
    beside s apart t = by_test (starts step && (is_in_seq nodes x || is_in_excl nodes x) && shares_parent nodes (time_parent nodes x) s) refl
      where
        free : (starts step && (is_in_seq nodes x || is_in_excl nodes x) && shares_parent nodes (time_parent nodes x) s) ≡ false → is_set_off nodes s step ≡ false
        free q =
            let unseen : Unseen nodes first step x s = record { apart = apart; beside = q } in
            or_from _ _ (by_kind unseen (is_in_seq nodes s || is_in_excl nodes s) refl) (no_begin_next nodes first log x s step only unseen)
          where
            by_kind : Unseen nodes first step x s → (b : Bool) → (is_in_seq nodes s || is_in_excl nodes s) ≡ b → (b && sets_off_sibling nodes s step) ≡ false
            by_kind unseen true k = no_set_off nodes first log x s step only unseen k
            by_kind unseen false k = refl

        by_test : (b : Bool) → (starts step && (is_in_seq nodes x || is_in_excl nodes x) && shares_parent nodes (time_parent nodes x) s) ≡ b → b ≡ true
        by_test true e = refl
        by_test false e = sym (free e) ∙ t

    pushed : (s : ℕ) → Apart nodes x s → is_set_off nodes s step ≡ true → IsPushed s
    pushed s apart t = by_parent (time_parent nodes x) refl
      where
        started : (starts step ≡ true) × ((is_in_seq nodes x || is_in_excl nodes x) ≡ true)
        started = and_parts (starts step) (is_in_seq nodes x || is_in_excl nodes x)
            (and_parts (starts step && (is_in_seq nodes x || is_in_excl nodes x)) (shares_parent nodes (time_parent nodes x) s) (beside s apart t)).0

        by_parent : (o : Option Node) → time_parent nodes x ≡ o → IsPushed s
        by_parent None f = let never : false ≡ true = sym (ap (λ o. has_kind is_seq_kind o || has_kind is_excl_kind o) f) ∙ started.1 in cc
        by_parent (Some q) f = record {
          parent = q;
          displaced =
              ap (λ b. cond b (sequenced (time_parent nodes x)) None) started.0
              ∙ ap sequenced f
              ∙ ap (λ b. cond b (Some q) None) (sym (ap (λ o. has_kind is_seq_kind o || has_kind is_excl_kind o) f) ∙ started.1);
          child = under_parent step only s q f t;
        }

-- ---- one entry

module _ (h : History) (first : ParentsBefore (reverse h.nodes)) (y : Entry) (x : ℕ) (only : (s : ℕ) → s == x ≡ false → is_about h.log s y.step ≡ false) (s : ℕ) where
  -- of the children that the step displaces this one does not rest above the element
  abbrev Calm : Node → Type 0
  Calm p = (q : Node) → displaced_in h.nodes y.step x ≡ Some q → (is_time_child h.nodes q.serial p && (may_rest h p && is_within h.nodes p.serial s)) ≡ false

  unmoved : (p : Node) → is_element p ≡ true → Apart h.nodes x p.serial → Calm p → is_within h.nodes p.serial s ≡ true → Unmoved h first y x only p
  unmoved p element apart calm within = record { apart = apart; still = by_test (is_set_off h.nodes p.serial y.step) refl }
    where
      quiet : is_set_off h.nodes p.serial y.step ≡ true → may_rest h p ≡ true → false ≡ true
      quiet t rests =
          let push = pushed h.nodes first h.log y.step x only p.serial apart t in
          sym (calm push.parent push.displaced) ∙ and_from _ _ (and_from _ _ element push.child) (and_from _ _ rests within)

      by_test : (b : Bool) → is_set_off h.nodes p.serial y.step ≡ b → (is_set_off h.nodes p.serial y.step ≡ false) ⊎ (may_rest h p ≡ false)
      by_test true t = inr (false_from_ne_true (may_rest h p) (λ rests. let never : false ≡ true = quiet t rests in cc))
      by_test false t = inl t

  calm_nodes : (o : Option Node) → rests_under h o s ≡ false → (q : Node) → o ≡ Some q → list_any (λ (p : Node). is_time_child h.nodes q.serial p && (may_rest h p && is_within h.nodes p.serial s)) h.nodes ≡ false
  calm_nodes None free q is = cc
  calm_nodes (Some r) free q is =
      let one : r ≡ q = cc in
      any_filtered (λ (p : Node). may_rest h p && is_within h.nodes p.serial s) (is_time_child h.nodes q.serial) h.nodes
      (ap (λ (m : Node). any_rests h (time_children h.nodes m.serial) s) (sym one) ∙ free)

  calm_each : (ns : List Node) → ((q : Node) → displaced_in h.nodes y.step x ≡ Some q → list_any (λ (p : Node). is_time_child h.nodes q.serial p && (may_rest h p && is_within h.nodes p.serial s)) ns ≡ false) → AllByRecursion Calm ns
  calm_each [] f = tt
  calm_each (n ∷ ns) f = (λ q is. (or_parts _ _ (f q is)).0, calm_each ns (λ q is. (or_parts _ _ (f q is)).1))

  -- each element of a chain stays
  join : (ns : List Node) → AllByRecursion (λ (p : Node). Apart h.nodes x p.serial) ns → AllByRecursion Calm ns → AllByRecursion (λ (p : Node). is_within h.nodes p.serial s ≡ true) ns → AllByRecursion (λ (p : Node). is_element p ≡ true → Unmoved h first y x only p) ns
  join [] a c w = tt
  join (n ∷ ns) a c w = (λ element. unmoved n element a.0 c.0 w.0, join ns a.1 c.1 w.1)

abbrev view_given : History → ℤ → Option Interval → Node → View
view_given h now i e =
    view_by (view_facts h now i (shows_under h (is_frozen_in h (time_ancestors h.nodes e.serial)) (time_ancestors h.nodes e.serial)) (is_frozen_in h (time_ancestors h.nodes e.serial)) e)

module _ (h : History) (first : ParentsBefore (reverse h.nodes)) (y : Entry) (x : ℕ) (only : (s : ℕ) → s == x ≡ false → is_about h.log s y.step ≡ false) (e : Node) (here : node_at (elements h.nodes) e.serial ≡ Some e) (free : is_within h.nodes x e.serial ≡ false) (calm : rests_under h (displaced_in h.nodes y.step x) e.serial ≡ false) where
  found : IsFound is_element h.nodes e
  found = found_in is_element e.serial h.nodes e here

  own_within : is_within h.nodes e.serial e.serial ≡ true
  own_within = by_chain (lineage h.nodes e.serial) refl
    where
      by_chain : (chain : List Node) → lineage h.nodes e.serial ≡ chain → is_within h.nodes e.serial e.serial ≡ true
      by_chain [] q =
          let never : false ≡ true = sym (no_chain (reverse h.nodes) e.serial q) ∙ held_reverse e.serial h.nodes ∙ found_held is_element e.serial h.nodes (ap is_some here) in
          cc
      by_chain (m ∷ rest) q =
          ap (list_any (λ (a : Node). a.serial == e.serial)) q
          ∙ or_left _ _ (eq-eqb m.serial e.serial (upwards-head (reverse h.nodes) e.serial m rest q))

  calm_in : (q : Node) → displaced_in h.nodes y.step x ≡ Some q → list_any (λ (p : Node). is_time_child h.nodes q.serial p && (may_rest h p && is_within h.nodes p.serial e.serial)) h.nodes ≡ false
  calm_in = calm_nodes h first y x only e.serial (displaced_in h.nodes y.step x) calm

  own : Unmoved h first y x only e
  own =
      unmoved h first y x only e.serial e found.passes (apart_above h.nodes first x e.serial e.serial free own_within)
      (λ q is. found.one_of (λ (p : Node). is_time_child h.nodes q.serial p && (may_rest h p && is_within h.nodes p.serial e.serial)) (calm_in q is)) own_within

  chain_calm : AllByRecursion (Calm h first y x only e.serial) (lineage h.nodes e.serial)
  chain_calm = calm_each h first y x only e.serial (lineage h.nodes e.serial)
      (λ q is. absent_up (λ (p : Node). is_time_child h.nodes q.serial p && (may_rest h p && is_within h.nodes p.serial e.serial)) (reverse h.nodes) e.serial
      (absent_reverse (λ (p : Node). is_time_child h.nodes q.serial p && (may_rest h p && is_within h.nodes p.serial e.serial)) h.nodes (calm_in q is)))

  above : AllByRecursion (Unmoved h first y x only) (time_ancestors h.nodes e.serial)
  above =
      each_drop (Unmoved h first y x only) 1 (filter is_element (lineage h.nodes e.serial))
      (each_chosen (λ (p : Node). is_element p ≡ true → Unmoved h first y x only p) (Unmoved h first y x only) is_element (lineage h.nodes e.serial)
      (join h first y x only e.serial (lineage h.nodes e.serial) (apart_chain h.nodes first x e.serial (lineage h.nodes e.serial) refl free) chain_calm
      (each_in (lineage h.nodes e.serial) (lineage h.nodes e.serial) (λ k q. q)))
      (λ p element f. f element))

  view_apart : (now : ℤ) (i : Option Interval) → view_given (up_to h (h.diary ++ y ∷ [])) now i e ≡ view_given h now i e
  view_apart now i = view-then h first y x only now i e (time_ancestors h.nodes e.serial) own above

-- ---- the entries one after another

-- the history without its log, by which no view follows
abbrev bare : History → History
bare h = record { nodes = h.nodes; log = []; diary = h.diary }

-- whom an entry acts on, where it does not show in the element: some serial, that of no node where it acts on none
record IsElsewhere (h : History) (step : Step) (s : ℕ) : Type 0 where
  who : ℕ
  only : (t : ℕ) → t == who ≡ false → is_about [] t step ≡ false
  free : is_within h.nodes who s ≡ false
  calm : rests_under h (displaced_in h.nodes step who) s ≡ false

elsewhere : (h : History) (step : Step) (s : ℕ) (o : Option ℕ) → acts_on step ≡ o → shows_from h step o s ≡ false → IsElsewhere h step s
unfolding total
elsewhere h step s (Some x) on free =
    let parts = or_parts (is_within h.nodes x s) (rests_under h (displaced_in h.nodes step x) s) free in
    record { who = x; only = λ t other. about_none [] step x t on other; free = parts.0; calm = parts.1 }
elsewhere h step s None on free =
    let x = suc (total h.nodes) in
    record {
      who = x;
      only = λ t other. about_no_one [] step t on;
      free = absent_up (λ (n : Node). n.serial == x) (reverse h.nodes) s (absent_reverse (λ (n : Node). n.serial == x) h.nodes (absent_above x h.nodes (omega arith)));
      calm = ap (λ b. rests_under h (cond b (sequenced (time_parent h.nodes x)) None) s) (no_start step on);
    }

-- what may rest above an element in which no entry shows still may
rests_stay : (ys : List Entry) (h : History) (ds : List Entry) (s : ℕ) → ParentsBefore (reverse h.nodes) → any_shows (up_to h ds) ys s ≡ false → (n : Node) → is_within h.nodes n.serial s ≡ true → may_rest (up_to h (h.diary ++ ys)) n ≡ may_rest h n
rests_stay [] h ds s first free n within = ap (λ (zs : List Entry). may_rest (up_to h zs) n) (append-nil h.diary)
rests_stay (y ∷ ys) h ds s first free n within =
    let parts = or_parts (shows_from (up_to h ds) y.step (acts_on y.step) s) (any_shows (up_to h ds) ys s) free in
    let off = elsewhere (up_to h ds) y.step s (acts_on y.step) refl parts.0 in
    ap (λ (zs : List Entry). may_rest (up_to h zs) n) (sym (append_assoc h.diary (y ∷ []) ys))
    ∙ rests_stay ys (up_to h (h.diary ++ y ∷ [])) ds s first parts.1 n within
    ∙ rest-then (bare h) first y off.who off.only n (apart_above h.nodes first off.who s n.serial off.free within)

module _ (h : History) (ds : List Entry) (s : ℕ) (stay : (n : Node) → is_within h.nodes n.serial s ≡ true → may_rest (up_to h ds) n ≡ may_rest h n) where
  one_stays : (n : Node) → (may_rest (up_to h ds) n && is_within h.nodes n.serial s) ≡ (may_rest h n && is_within h.nodes n.serial s)
  one_stays n = by_test (is_within h.nodes n.serial s) refl
    where
      none : (b c : Bool) → (b && false) ≡ (c && false)
      none true true = refl
      none true false = refl
      none false true = refl
      none false false = refl

      by_test : (t : Bool) → is_within h.nodes n.serial s ≡ t → (may_rest (up_to h ds) n && t) ≡ (may_rest h n && t)
      by_test true e = ap (λ b. b && true) (stay n e)
      by_test false e = none (may_rest (up_to h ds) n) (may_rest h n)

  under_stays : (o : Option Node) → rests_under (up_to h ds) o s ≡ rests_under h o s
  under_stays None = refl
  under_stays (Some p) = any_same _ _ (time_children h.nodes p.serial) one_stays

  from_stays : (step : Step) (o : Option ℕ) → shows_from (up_to h ds) step o s ≡ shows_from h step o s
  from_stays step None = refl
  from_stays step (Some x) = ap (λ b. is_within h.nodes x s || b) (under_stays (displaced_in h.nodes step x))

view_all : (ys : List Entry) (h : History) → ParentsBefore (reverse h.nodes) → (now : ℤ) (i : Option Interval) (e : Node) → node_at (elements h.nodes) e.serial ≡ Some e → any_shows (up_to h (h.diary ++ ys)) ys e.serial ≡ false → view_given (up_to h (h.diary ++ ys)) now i e ≡ view_given h now i e
view_all [] h first now i e here free = ap (λ (zs : List Entry). view_given (up_to h zs) now i e) (append-nil h.diary)
view_all (y ∷ ys) h first now i e here free =
    let whole : List Entry = h.diary ++ y ∷ ys in
    let seam : whole ≡ (h.diary ++ y ∷ []) ++ ys = sym (append_assoc h.diary (y ∷ []) ys) in
    let parts = or_parts (shows_from (up_to h whole) y.step (acts_on y.step) e.serial) (any_shows (up_to h whole) ys e.serial) free in
    let off = elsewhere h y.step e.serial (acts_on y.step) refl (sym (from_stays h whole e.serial (rests_stay (y ∷ ys) h whole e.serial first free) y.step (acts_on y.step)) ∙ parts.0) in
    ap (λ (zs : List Entry). view_given (up_to h zs) now i e) seam
    ∙ view_all ys (up_to h (h.diary ++ y ∷ [])) first now i e here (subst (λ (zs : List Entry). any_shows (up_to h zs) ys e.serial ≡ false) seam parts.1)
    ∙ view_apart (bare h) first y off.who off.only e here off.free off.calm now i

pub views_stay : (h : History) (entries : List Entry) (now : ℤ) (e : Node) → ParentsBefore (reverse h.nodes) → node_at (elements h.nodes) e.serial ≡ Some e → any_shows (up_to h (h.diary ++ entries)) entries e.serial ≡ false → current_interval (up_to h (h.diary ++ entries)) now e.serial ≡ current_interval h now e.serial → view_at (up_to h (h.diary ++ entries)) now e ≡ view_at h now e
views_stay h entries now e first here free same =
    ap (λ i. view_given (up_to h (h.diary ++ entries)) now i e) same
    ∙ view_all entries h first now (current_interval h now e.serial) e here free
