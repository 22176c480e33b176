-- The row of an element in current rows.
use Rattle.std.proofs.Common.{◌≡◌, refl, sym, ◌∙◌, ap, ℕ, suc, zero, ◌+◌, List, [], ◌∷◌, length, map, Some, false, ℤ, arith}
use Rattle.std.specs.Prelude.{◌==◌, nat_eq, option_and_then, reverse, slice_get}
use Rattle.std.specs.List.{AllByRecursion, IsDistinct}
use Rattle.std.proofs.lemmas.Bool.{eq-eqb, eqb-true}
use Rattle.smil_model.specs.declared.document.Node.{Node}
use Rattle.smil_model.specs.document.Document.{elements, node_at, serials}
use Rattle.smil_model.specs.diary.Diary.{History}
use Rattle.smil_model.specs.interval.Current.{interval_given, simple_of, current_interval}
use Rattle.smil_model.specs.happening.Keys.{coming_by, coming_of}
use Rattle.smil_laws.specs.Edited.{IsOrdered}
use Rattle.smil_laws.specs.Locality.{ParentsBefore}
use Rattle.smil_laws.proofs.RoundsRest.{after_rounds, after_rounds-suc}
use Rattle.smil_laws.proofs.SettledRounds.{come_to_rest}
use Rattle.smil_rounds.specs.declared.current_rows.CurrentRow.{CurrentRow}
use Rattle.smil_rounds.specs.Current as plain
use Rattle.smil_rounds.specs.Current.{AreCurrent, interval_in}
use Rattle.smil_rounds.specs.Round.{IsRowOf}
use Rattle.smil_rounds.proofs.RowPut.{IsFirst}
use Rattle.smil_rounds.proofs.RowsBesideElements.{first_at, interval_at, there_at}
use Rattle.smil_rounds.proofs.CurrentRowsExact as current
use Rattle.smil_rounds.proofs.RowEvaluated.{elements_differ}
use Rattle.std.specs.FinSet as set
use Rattle.smil_model.specs.happening.Keys.{keys}
use Rattle.smil_rounds.proofs.FirstComing.{comings_at}

-- ---- current rows

pub plain_current : (rows : List CurrentRow) (h : History) (now : ℤ) → AreCurrent rows h now → plain.IsCurrent rows (set.from_list (keys h now)) h now
plain_current rows h now are = record { current = are; due_is = refl }

-- they have the current intervals
pub current_intervals : (rows : List CurrentRow) (h : History) (now : ℤ) → AreCurrent rows h now → (s : ℕ) → interval_in rows s ≡ current_interval h now s
current_intervals rows h now are s = current.current_intervals h now rows (set.from_list (keys h now)) (plain_current rows h now are) s

-- and are of the elements
pub current_elements : (rows : List CurrentRow) (h : History) (now : ℤ) → AreCurrent rows h now → map (λ (r : CurrentRow). r.serial) rows ≡ serials (elements h.nodes)
current_elements rows h now are = current.current_elements h now rows (set.from_list (keys h now)) (plain_current rows h now are)

-- ---- the current interval of an element is given by those of all

pub fixed : (h : History) (now : ℤ) (e : Node) → ParentsBefore (reverse h.nodes) → node_at (elements h.nodes) e.serial ≡ Some e → current_interval h now e.serial ≡ interval_given h (current_interval h now) now e
fixed h now e first here =
    let n = length (elements h.nodes) in
    let next : n + 1 ≡ suc n = omega arith in
    sym (come_to_rest h now 1 e.serial first)
    ∙ ap (λ k. after_rounds h now k e.serial) next
    ∙ after_rounds-suc h now n e.serial
    ∙ ap (option_and_then (interval_given h (current_interval h now) now)) here

-- ---- the row at a place

pub first_serial : (who : ℕ) (rows : List CurrentRow) (k : ℕ) (row : CurrentRow) → IsFirst who rows k → slice_get rows k ≡ Some row → row.serial ≡ who
first_serial who [] k row is got = elim is [ ]
first_serial who (x ∷ xs) zero row is got =
    let one : x ≡ row = cc in
    ap (λ (r : CurrentRow). r.serial) (sym one) ∙ eqb-true x.serial who is
first_serial who (x ∷ xs) (suc k) row is got = first_serial who xs k row is.1 got

-- of rows of different elements it is the first of its own
pub first_apart : (rows : List CurrentRow) (k : ℕ) (row : CurrentRow) → IsDistinct nat_eq (map (λ (r : CurrentRow). r.serial) rows) → slice_get rows k ≡ Some row → IsFirst row.serial rows k
unfolding IsDistinct
first_apart [] k row apart got = cc
first_apart (x ∷ xs) zero row apart got =
    let one : x ≡ row = cc in
    eq-eqb x.serial row.serial (ap (λ (r : CurrentRow). r.serial) one)
first_apart (x ∷ xs) (suc k) row apart got = (each xs k apart.0 got, first_apart xs k row apart.1 got)
  where
    each : (ys : List CurrentRow) (j : ℕ) → AllByRecursion (λ s. nat_eq x.serial s ≡ false) (map (λ (r : CurrentRow). r.serial) ys) → slice_get ys j ≡ Some row → x.serial == row.serial ≡ false
    each [] j all at = cc
    each (y ∷ ys) zero all at = let one : y ≡ row = cc in ap (λ (r : CurrentRow). nat_eq x.serial r.serial) (sym one) ∙ all.0
    each (y ∷ ys) (suc j) all at = each ys j all.1 at

-- it is as the intervals of all rows give it
pub row_of_current : (rows : List CurrentRow) (h : History) (now : ℤ) (place : ℕ) (e : Node) (row : CurrentRow) → IsOrdered h.nodes → AreCurrent rows h now → slice_get (elements h.nodes) place ≡ Some e → slice_get rows place ≡ Some row → IsRowOf h (interval_in rows) now place e row
row_of_current rows h now place e row ordered are here got = record {
  serial = first_serial e.serial rows place row first got;
  interval = own ∙ fixed h now e ordered.first there ∙ ap (λ J. interval_given h J now e) (sym same);
  comings =
      comings_at h now 0 (elements h.nodes) rows place place e row are.comings_are (omega arith) here got
      ∙ ap (λ J. coming_of h J now place e) (sym same)
      ∙ ap (λ i. coming_by h i (simple_of h (interval_in rows) e) now place e) at_own;
}
  where
    first : IsFirst e.serial rows place
    first = first_at (elements h.nodes) rows place e (elements_differ h.nodes ordered.distinct) (current_elements rows h now are) here

    there : node_at (elements h.nodes) e.serial ≡ Some e
    there = there_at (elements h.nodes) place e (elements_differ h.nodes ordered.distinct) here

    same : interval_in rows ≡ current_interval h now
    same = λ i s. current_intervals rows h now are s i

    at_own : interval_in rows e.serial ≡ row.interval
    at_own = interval_at e.serial rows place row first got

    own : row.interval ≡ current_interval h now e.serial
    own = sym at_own ∙ current_intervals rows h now are e.serial
