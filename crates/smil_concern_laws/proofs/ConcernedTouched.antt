-- Whom entries concern, they touch.
use Rattle.std.proofs.Common.{◌≡◌, refl, sym, ◌∙◌, ap, ℕ, List, [], ◌∷◌, Option, Some, None, Bool, true, false, inl, inr}
use Rattle.std.specs.Prelude.{◌==◌, ◌||◌, ◌&&◌, ◌⊎◌, cond, drop, find, is_some, reverse, slice_get}
use Rattle.std.specs.List.{list_any}
use Rattle.std.proofs.lemmas.Bool.{or_left, or_right, or_cases, and_parts, and_from, eqb-true, eq-eqb, true_from_ne_false}
use Rattle.smil_model.specs.declared.diary.LogEntry.{LogEntry}
use Rattle.smil_model.specs.declared.diary.Happening.{Happening}
use Rattle.smil_model.specs.declared.diary.Happening.TheVariants as happening
use Rattle.smil_model.specs.declared.diary.Step.{Step}
use Rattle.smil_model.specs.declared.diary.Step.TheVariants.{Began, Repeated, Ended, Cut, Paused, Resumed, Deferred, Passed, Logged}
use Rattle.smil_model.specs.declared.document.Item.{Item}
use Rattle.smil_model.specs.declared.document.Item.TheVariants as item
use Rattle.smil_model.specs.declared.document.Node.{Node}
use Rattle.smil_model.specs.document.Document.{elements, serials, node_at, lineage, is_within, is_below, has_serial, previous_in_seq}
use Rattle.smil_model.specs.document.Dependencies.{is_sync_with, all_items, feeds_node}
use Rattle.smil_model.specs.document.Closure.{has}
use Rattle.smil_model.specs.reach.Reach.{is_event_of, reads, reads_node, subject_of, key_of}
use Rattle.smil_laws.specs.Touched.{is_touched, is_touched_from, is_touched_through, is_touched_by}
use Rattle.smil_laws.proofs.ReachClosed.{any_reverse, chain_begins, has_serials}
use Rattle.smil_concern_laws.specs.Concerned.{is_moved, follows, is_concerned_by_step, is_concerned_by_happening, is_concerned_by_logged, is_concerned, is_concerned_from, is_concerned_through, is_concerned_by, ConcernedIsTouched}
use Rattle.smil_concern_laws.proofs.Lineages.{any_serial, in_nodes}

-- ---- lists

any_weaker : {A : Type 0} (t q : A → Bool) (xs : List A) → ((x : A) → t x ≡ true → q x ≡ true) → list_any t xs ≡ true → list_any q xs ≡ true
any_weaker t q [] f h = h
any_weaker t q (x ∷ xs) f h = by_case (or_cases (t x) (list_any t xs) h) (any_weaker t q xs f)
  where
    by_case : (t x ≡ true) ⊎ (list_any t xs ≡ true) → (list_any t xs ≡ true → list_any q xs ≡ true) → list_any q (x ∷ xs) ≡ true
    by_case (inl e) later = or_left _ _ (f x e)
    by_case (inr r) later = or_right _ _ (later r)

any_rest : (test : Node → Bool) (chain : List Node) → list_any test (drop 1 chain) ≡ true → list_any test chain ≡ true
any_rest test [] q = q
any_rest test (n ∷ ns) q = or_right _ _ q

found_listed : (x : ℕ) (ns : List Node) → is_some (node_at ns x) ≡ true → list_any (λ (n : Node). n.serial == x) ns ≡ true
found_listed x [] q = cc
found_listed x (n ∷ ns) q = step (n.serial == x) q (found_listed x ns)
  where
    step : (t : Bool) → is_some (cond t (Some n) (find (λ (m : Node). m.serial == x) ns)) ≡ true → (is_some (node_at ns x) ≡ true → list_any (λ (m : Node). m.serial == x) ns ≡ true) → (t || list_any (λ (m : Node). m.serial == x) ns) ≡ true
    step true p later = refl
    step false p later = later p

module _ (nodes : List Node) (x : ℕ) (there : is_some (node_at (elements nodes) x) ≡ true) (s : ℕ) where
  listed : has (serials (elements nodes)) x ≡ true
  listed = has_serials x (elements nodes) (found_listed x (elements nodes) there)

  -- an element is within itself
  within_itself : is_within nodes x x ≡ true
  within_itself =
      true_from_ne_false (is_within nodes x x)
      (λ q. let other : x == x ≡ false = chain_begins (reverse nodes) x x (any_reverse (λ (n : Node). n.serial == x) nodes (in_nodes nodes x listed)) q in
      let never : true ≡ false = sym (eq-eqb x x refl) ∙ other in cc)

  -- what reads x is touched by an entry on it
  reader_touched : reads nodes x s ≡ true → is_touched nodes x s ≡ true
  reader_touched r = or_right _ _ (any_serial (λ b. is_within nodes x b && reads nodes b s) (elements nodes) x listed (and_from _ _ within_itself r))

  moved_reads : (step : Step) (e : Node) → follows nodes x step e ≡ true → reads_node nodes x e ≡ true
  moved_reads step e q = by_items (all_items nodes e) q (λ t. or_left _ _ (or_left _ _ (or_right _ _ t))) (λ t. or_left _ _ (or_right _ _ t)) (λ t. or_right _ _ t)
    where
      by_items : (is : List Item) → list_any (is_moved nodes e.serial x step) is ≡ true → (has_serial x (previous_in_seq nodes e.serial) ≡ true → reads_node nodes x e ≡ true) → (list_any (is_sync_with nodes x) is ≡ true → reads_node nodes x e ≡ true) → (list_any (is_event_of nodes e.serial x) is ≡ true → reads_node nodes x e ≡ true) → reads_node nodes x e ≡ true
      by_items [] r before named heard = cc
      by_items (i ∷ is) r before named heard = by_case (or_cases (is_moved nodes e.serial x step i) (list_any (is_moved nodes e.serial x step) is) r) (λ t. by_items is t before (λ u. named (or_right _ _ u)) (λ u. heard (or_right _ _ u)))
        where
          by_item : (j : Item) → is_moved nodes e.serial x step j ≡ true → (is_sync_with nodes x j ≡ true → reads_node nodes x e ≡ true) → (is_event_of nodes e.serial x j ≡ true → reads_node nodes x e ≡ true) → reads_node nodes x e ≡ true
          by_item (item.Offset offset) t n h = before ((and_parts _ _ t).0)
          by_item (item.Sync who edge offset) t n h = n ((and_parts _ _ t).0)
          by_item (item.Event who name offset) t n h = h t
          by_item (item.Repeat who count offset) t n h = h t
          by_item (item.Key key offset) t n h = h t
          by_item item.Indefinite t n h = h t

          by_case : (is_moved nodes e.serial x step i ≡ true) ⊎ (list_any (is_moved nodes e.serial x step) is ≡ true) → (list_any (is_moved nodes e.serial x step) is ≡ true → reads_node nodes x e ≡ true) → reads_node nodes x e ≡ true
          by_case (inl t) later = by_item i t (λ u. named (or_left _ _ u)) (λ u. heard (or_left _ _ u))
          by_case (inr t) later = later t

  step_touches : (step : Step) → is_concerned_by_step nodes x step s ≡ true → is_touched nodes x s ≡ true
  step_touches step q = by_case (or_cases _ _ q)
    where
      by_near : (is_within nodes x s ≡ true) ⊎ (list_any (λ (b : Node). is_below nodes x b.serial && reads nodes b.serial s) (elements nodes) ≡ true) → is_touched nodes x s ≡ true
      by_near (inl w) = or_left _ _ w
      by_near (inr r) =
          or_right _ _
          (any_weaker (λ (b : Node). is_below nodes x b.serial && reads nodes b.serial s) (λ (b : Node). is_within nodes x b.serial && reads nodes b.serial s) (elements nodes)
          (λ b t. let both = and_parts _ _ t in and_from _ _ (any_rest (λ (a : Node). a.serial == x) (lineage nodes b.serial) both.0) both.1) r)

      by_case : ((is_within nodes x s || list_any (λ (b : Node). is_below nodes x b.serial && reads nodes b.serial s) (elements nodes)) ≡ true) ⊎ (list_any (λ (e : Node). (e.serial == s) && follows nodes x step e) (elements nodes) ≡ true) → is_touched nodes x s ≡ true
      by_case (inl near) = by_near (or_cases _ _ near)
      by_case (inr f) =
          reader_touched
          (any_weaker (λ (e : Node). (e.serial == s) && follows nodes x step e) (λ (e : Node). (e.serial == s) && reads_node nodes x e) (elements nodes)
          (λ e t. let both = and_parts _ _ t in and_from _ _ both.0 (moved_reads step e both.1)) f)

  happening_touches : (w : Happening) → is_concerned_by_happening nodes x w s ≡ true → is_touched nodes x s ≡ true
  happening_touches (happening.Event who name) q =
      reader_touched
      (any_weaker (λ (e : Node). (e.serial == s) && list_any (is_event_of nodes e.serial x) (all_items nodes e)) (λ (e : Node). (e.serial == s) && reads_node nodes x e) (elements nodes)
      (λ e t. let both = and_parts (e.serial == s) (list_any (is_event_of nodes e.serial x) (all_items nodes e)) t in and_from (e.serial == s) (reads_node nodes x e) both.0 (or_right (feeds_node nodes x e) (list_any (is_event_of nodes e.serial x) (all_items nodes e)) both.1)) q)
  happening_touches (happening.Media who length) q = or_left _ _ (sym (ap (is_within nodes x) (eqb-true x s q)) ∙ within_itself)
  happening_touches (happening.Key key) q = cc

  entry_touches : (o : Option LogEntry) → is_concerned_by_logged nodes x o s ≡ true → is_touched nodes x s ≡ true
  entry_touches None q = cc
  entry_touches (Some entry) q = happening_touches entry.what q

  concerned_touches : (log : List LogEntry) (step : Step) → is_concerned nodes log x step s ≡ true → is_touched nodes x s ≡ true
  concerned_touches log (Logged place) q = entry_touches (slice_get log place) q
  concerned_touches log (Began who begin) q = step_touches (Began who begin) q
  concerned_touches log (Repeated who start) q = step_touches (Repeated who start) q
  concerned_touches log (Ended who end') q = step_touches (Ended who end') q
  concerned_touches log (Cut who) q = step_touches (Cut who) q
  concerned_touches log (Paused who) q = step_touches (Paused who) q
  concerned_touches log (Resumed who) q = step_touches (Resumed who) q
  concerned_touches log (Deferred who begin) q = step_touches (Deferred who begin) q
  concerned_touches log (Passed who begin) q = step_touches (Passed who begin) q

-- ---- entries

from_touches : (nodes : List Node) (log : List LogEntry) (on : Option ℕ) (step : Step) (s : ℕ) → is_concerned_from nodes log on step s ≡ true → is_touched_from nodes on s ≡ true
from_touches nodes log None step s q = cc
from_touches nodes log (Some x) step s q =
    let both = and_parts _ _ q in
    and_from _ _ both.0 (concerned_touches nodes x both.0 s log step both.1)

through_touches : (nodes : List Node) (log : List LogEntry) (key on : Option ℕ) (step : Step) (s : ℕ) → is_concerned_through nodes log key on step s ≡ true → is_touched_through nodes key on s ≡ true
through_touches nodes log (Some key) on step s q = q
through_touches nodes log None on step s q = from_touches nodes log on step s q

pub concerned_touched : ConcernedIsTouched
concerned_touched nodes log [] s q = cc
concerned_touched nodes log (y ∷ ys) s q = by_case (or_cases _ _ q) (concerned_touched nodes log ys s)
  where
    by_case : (is_concerned_through nodes log (key_of log y.step) (subject_of log y.step) y.step s ≡ true) ⊎ (is_concerned_by nodes log ys s ≡ true) → (is_concerned_by nodes log ys s ≡ true → is_touched_by nodes log ys s ≡ true) → is_touched_by nodes log (y ∷ ys) s ≡ true
    by_case (inl t) later = or_left _ _ (through_touches nodes log (key_of log y.step) (subject_of log y.step) y.step s t)
    by_case (inr r) later = or_right _ _ (later r)
