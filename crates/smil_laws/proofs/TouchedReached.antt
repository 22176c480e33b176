-- What entries touch is in their reaches, and what reads a reached element is reached.
use Rattle.std.proofs.Common.{◌≡◌, refl, ℕ, List, [], ◌∷◌, Option, Some, None, Bool, true, false, inl, inr}
use Rattle.std.specs.Prelude.{cond, ◌&&◌, ◌⊎◌, is_some}
use Rattle.std.specs.List.{list_any}
use Rattle.std.proofs.lemmas.Bool.{or_left, or_right, or_cases, and_parts, eq-eqb}
use Rattle.smil_model.specs.declared.diary.Entry.{Entry}
use Rattle.smil_model.specs.declared.diary.LogEntry.{LogEntry}
use Rattle.smil_model.specs.declared.document.Node.{Node}
use Rattle.smil_model.specs.document.Document.{elements, node_at, is_within, serials}
use Rattle.smil_model.specs.document.Closure.{has}
use Rattle.smil_model.specs.reach.Reach.{reads, is_near, near, down, down_from, waiters, down_key, subject_of, key_of, reach_by, reach}
use Rattle.smil_laws.proofs.ClosureExact.{has_filter, is_closed, has_set}
use Rattle.smil_laws.proofs.ReachClosed.{own_is_all}
use Rattle.smil_laws.specs.Touched.{is_touched, is_touched_from, is_touched_through, is_touched_by, in_reaches, ReachHolds}

-- what follows from each serial of these that passes follows from one that passes
pub from_any : (P : Type 0) (t : ℕ → Bool) (ns : List Node) → list_any (λ (n : Node). t n.serial) ns ≡ true → ((s : ℕ) → has (serials ns) s ≡ true → t s ≡ true → P) → P
from_any P t [] q f = cc
from_any P t (n ∷ ns) q f = by_case (or_cases (t n.serial) (list_any (λ (m : Node). t m.serial) ns) q) (λ r. from_any P t ns r (λ s i. f s (or_right _ _ i)))
  where
    by_case : (t n.serial ≡ true) ⊎ (list_any (λ (m : Node). t m.serial) ns ≡ true) → (list_any (λ (m : Node). t m.serial) ns ≡ true → P) → P
    by_case (inl e) later = f n.serial (or_left _ _ (eq-eqb n.serial n.serial refl)) e
    by_case (inr r) later = later r

module _ (nodes : List Node) where
  abbrev all : List ℕ
  all = serials (elements nodes)

  -- what is below x is in its reach
  within_down : (x s : ℕ) → has all s ≡ true → is_within nodes x s ≡ true → has (down nodes x) s ≡ true
  within_down x s i w =
      has_set (reads nodes) all (near nodes x) s i (has_filter (is_near nodes x) all s i (or_left _ _ (or_right _ _ w)))

  touched_down : (x s : ℕ) → has all s ≡ true → is_touched nodes x s ≡ true → has (down nodes x) s ≡ true
  touched_down x s i t = by_case (or_cases _ _ t)
    where
      by_case : (is_within nodes x s ≡ true) ⊎ (list_any (λ (b : Node). is_within nodes x b.serial && reads nodes b.serial s) (elements nodes) ≡ true) → has (down nodes x) s ≡ true
      by_case (inl w) = within_down x s i w
      by_case (inr r) =
          from_any (has (down nodes x) s ≡ true) (λ b. is_within nodes x b && reads nodes b s) (elements nodes) r
          (λ b j u.
          let both = and_parts (is_within nodes x b) (reads nodes b s) u in
          is_closed (reads nodes) all (near nodes x) b s (within_down x b j both.0) both.1 i)

  touched_from_down : (o : Option ℕ) (s : ℕ) → has all s ≡ true → is_touched_from nodes o s ≡ true → has (down_from nodes o) s ≡ true
  touched_from_down None s i t = cc
  touched_from_down (Some x) s i t = by_found (is_some (node_at (elements nodes) x)) t
    where
      by_found : (b : Bool) → (b && is_touched nodes x s) ≡ true → has (cond b (down nodes x) []) s ≡ true
      by_found true u = touched_down x s i u
      by_found false u = cc

  waiting_down : (key s : ℕ) → has all s ≡ true → has (waiters nodes key) s ≡ true → has (down_key nodes key) s ≡ true
  waiting_down key s i t = has_set (reads nodes) all (waiters nodes key) s i t

  touched_through_reach : (k o : Option ℕ) (s : ℕ) → has all s ≡ true → is_touched_through nodes k o s ≡ true → has (reach_by nodes k o) s ≡ true
  touched_through_reach None o s i t = touched_from_down o s i t
  touched_through_reach (Some key) o s i t = waiting_down key s i t

  touched_in : (log : List LogEntry) (ys : List Entry) (s : ℕ) → has all s ≡ true → is_touched_by nodes log ys s ≡ true → in_reaches nodes log ys s ≡ true
  touched_in log [] s i t = cc
  touched_in log (y ∷ ys) s i t = by_case (or_cases _ _ t) (touched_in log ys s i)
    where
      by_case : (is_touched_through nodes (key_of log y.step) (subject_of log y.step) s ≡ true) ⊎ (is_touched_by nodes log ys s ≡ true) → (is_touched_by nodes log ys s ≡ true → in_reaches nodes log ys s ≡ true) → in_reaches nodes log (y ∷ ys) s ≡ true
      by_case (inl u) later = or_left _ _ (touched_through_reach (key_of log y.step) (subject_of log y.step) s i u)
      by_case (inr u) later = or_right _ _ (later u)

  -- ---- readers

  reader_down : (o : Option ℕ) (s e : ℕ) → has all e ≡ true → has (down_from nodes o) s ≡ true → reads nodes s e ≡ true → has (down_from nodes o) e ≡ true
  reader_down None s e i q r = cc
  reader_down (Some x) s e i q r = by_found (is_some (node_at (elements nodes) x)) q
    where
      by_found : (b : Bool) → has (cond b (down nodes x) []) s ≡ true → has (cond b (down nodes x) []) e ≡ true
      by_found true u = is_closed (reads nodes) all (near nodes x) s e u r i
      by_found false u = cc

  reader_by : (k o : Option ℕ) (s e : ℕ) → has all e ≡ true → has (reach_by nodes k o) s ≡ true → reads nodes s e ≡ true → has (reach_by nodes k o) e ≡ true
  reader_by None o s e i q r = reader_down o s e i q r
  reader_by (Some key) o s e i q r = is_closed (reads nodes) all (waiters nodes key) s e q r i

  reader_in : (log : List LogEntry) (ys : List Entry) (s e : ℕ) → has all e ≡ true → in_reaches nodes log ys s ≡ true → reads nodes s e ≡ true → in_reaches nodes log ys e ≡ true
  reader_in log [] s e i q r = cc
  reader_in log (y ∷ ys) s e i q r = by_case (or_cases _ _ q) (λ u. reader_in log ys s e i u r)
    where
      by_case : (has (reach nodes log y) s ≡ true) ⊎ (in_reaches nodes log ys s ≡ true) → (in_reaches nodes log ys s ≡ true → in_reaches nodes log ys e ≡ true) → in_reaches nodes log (y ∷ ys) e ≡ true
      by_case (inl u) later = or_left _ _ (reader_by (key_of log y.step) (subject_of log y.step) s e i u r)
      by_case (inr u) later = or_right _ _ (later u)

pub reaches_hold : (nodes : List Node) (log : List LogEntry) (entries : List Entry) → ReachHolds nodes log entries
reaches_hold nodes log entries = record {
  touched = λ e here t. touched_in nodes log entries e.serial (own_is_all nodes e.serial e here) t;
  readers = λ s e here q r. reader_in nodes log entries s e.serial (own_is_all nodes e.serial e here) q r;
}
