-- Rows that are as their own intervals give them are the current ones.
use Rattle.std.proofs.Common.{◌≡◌, refl, ◌∙◌, ap, sym, ℕ, suc, zero, ◌+◌, ◌<◌, List, [], ◌∷◌, length, Option, Some, ℤ, Bool, true, false, get_or, arith, map}
use Rattle.std.specs.Prelude.{◌==◌, ◌||◌, cond, is_some, slice_get, Result, Ok, Err, OnOk}
use Rattle.std.specs.List.{list_any}
use Rattle.std.specs.FinSet as set
use Rattle.std.proofs.lemmas.Bool.{or_left, or_right, eq-eqb, eqb-true}
use Rattle.std.proofs.lemmas.List.{length-map}
use Rattle.std.proofs.lemmas.List.Sorted.{length_permutation, list_any-IsPermutation}
use Rattle.smil_model.specs.declared.interval.Interval.{Interval}
use Rattle.smil_model.specs.declared.document.Node.{Node}
use Rattle.smil_model.specs.document.Document.{elements, node_at, serials}
use Rattle.smil_model.specs.document.Closure.{has}
use Rattle.smil_model.specs.diary.Diary.{History}
use Rattle.smil_model.specs.interval.Current.{interval_given, simple_of, in_table, table, current_table, current_interval}
use Rattle.smil_model.specs.happening.Keys.{coming_by, coming_of}
use Rattle.smil_laws.specs.Edited.{IsOrdered}
use Rattle.smil_laws.proofs.ListMembers.{Differ, none_held}
use Rattle.smil_laws.proofs.ReachClosed.{from_serials}
use Rattle.smil_laws.proofs.SettledRounds.{agreeing_all}
use Rattle.smil_due.specs.Order.{key_cmp}
use Rattle.smil_graph.specs.Graph.{IsGraphOrder}
use Rattle.smil_element.specs.Element.{both}
use Rattle.smil_element.specs.Comings.{HaveDueChanges}
use Rattle.smil_rounds.specs.declared.current_rows.CurrentRow.{CurrentRow}
use Rattle.smil_rounds.specs.Current.{interval_in, IsCurrent}
use Rattle.smil_rounds.specs.Round.{AreRowsEvaluated, IsRowOf, StayUnchanged, due_in}
use Rattle.smil_rounds.proofs.RowPut.{cons_interval}
use Rattle.smil_rounds.proofs.RowsBesideElements.{serials_in, by_elements, first_at, interval_at, listed_at, place_of_member}
use Rattle.smil_rounds.proofs.RowEvaluated.{elements_differ}
use Rattle.smil_rounds.proofs.KeyQueues.{due_come}

-- ---- tables

abbrev Pair : Type 0
Pair = ℕ × Option Interval

abbrev pair_of : CurrentRow → Pair
pair_of r = (r.serial, r.interval)

abbrev keys_in : List Pair → List ℕ
keys_in xs = map (λ (x : Pair). x.0) xs

-- what the rows have for a serial
pub table_in : (rows : List CurrentRow) (s : ℕ) → in_table (map pair_of rows) s ≡ interval_in rows s
table_in [] s = refl
table_in (r ∷ rs) s = ap (cond (r.serial == s) r.interval) (table_in rs s) ∙ sym (cons_interval s r rs)

pair_keys : (rows : List CurrentRow) → keys_in (map pair_of rows) ≡ serials_in rows
pair_keys [] = refl
pair_keys (r ∷ rs) = ap (λ ks. r.serial ∷ ks) (pair_keys rs)

-- tables of the same different elements, with the same for each
same_tables : (ns : List Node) (xs ys : List Pair) → Differ ns → keys_in xs ≡ serials ns → keys_in ys ≡ serials ns → ((s : ℕ) → has (serials ns) s ≡ true → in_table xs s ≡ in_table ys s) → xs ≡ ys
same_tables [] [] [] d p q each = refl
same_tables [] [] (y ∷ ys) d p q each = cc
same_tables [] (x ∷ xs) ys d p q each = cc
same_tables (n ∷ ns) [] ys d p q each = cc
same_tables (n ∷ ns) (x ∷ xs) [] d p q each = cc
same_tables (n ∷ ns) (x ∷ xs) (y ∷ ys) d p q each =
    let own : n.serial == n.serial ≡ true = eq-eqb n.serial n.serial refl in
    let at_x : x.0 ≡ n.serial = cc in
    let at_y : y.0 ≡ n.serial = cc in
    let rest_x : keys_in xs ≡ serials ns = cc in
    let rest_y : keys_in ys ≡ serials ns = cc in
    let first : x.1 ≡ y.1 = sym (head_in x xs at_x own) ∙ each n.serial (or_left _ _ own) ∙ head_in y ys at_y own in
    let rest : xs ≡ ys = same_tables ns xs ys d.1 rest_x rest_y (λ s among. sym (tail_in x xs s at_x among) ∙ each s (or_right _ _ among) ∙ tail_in y ys s at_y among) in
    ap (λ k. (k, x.1) ∷ xs) (at_x ∙ sym at_y) ∙ ap (λ i. (y.0, i) ∷ xs) first ∙ ap (λ zs. y ∷ zs) rest
  where
    head_in : (z : Pair) (zs : List Pair) → z.0 ≡ n.serial → n.serial == n.serial ≡ true → in_table (z ∷ zs) n.serial ≡ z.1
    head_in z zs at own = ap (λ k. cond (k == n.serial) z.1 (in_table zs n.serial)) at ∙ ap (λ t. cond t z.1 (in_table zs n.serial)) own

    apart : (s : ℕ) → has (serials ns) s ≡ true → n.serial == s ≡ false
    apart s among = by_test (n.serial == s) refl
      where
        by_test : (t : Bool) → n.serial == s ≡ t → n.serial == s ≡ false
        by_test false e = e
        by_test true e =
            let never : true ≡ false = sym (from_serials s ns among) ∙ ap (λ k. list_any (λ (m : Node). m.serial == k) ns) (sym (eqb-true n.serial s e)) ∙ none_held n.serial ns d.0 in
            cc

    tail_in : (z : Pair) (zs : List Pair) (s : ℕ) → z.0 ≡ n.serial → has (serials ns) s ≡ true → in_table (z ∷ zs) s ≡ in_table zs s
    tail_in z zs s at among = ap (λ k. cond (k == s) z.1 (in_table zs s)) at ∙ ap (λ t. cond t z.1 (in_table zs s)) (apart s among)

map_keys : (f : Node → Option Interval) (ns : List Node) → keys_in (map (λ (e : Node). (e.serial, f e)) ns) ≡ serials ns
map_keys f [] = refl
map_keys f (n ∷ ns) = ap (λ ks. n.serial ∷ ks) (map_keys f ns)

current_keys : (h : History) (now : ℤ) (es : List Node) → elements h.nodes ≡ es → keys_in (table h now (length es)) ≡ serials es
current_keys h now [] q = refl
current_keys h now (e ∷ es) q = map_keys (interval_given h (in_table (table h now (length es))) now) (elements h.nodes) ∙ ap serials q

-- ---- comings

comings_from : (h : History) (now : ℤ) (place : ℕ) (es : List Node) (rows : List CurrentRow) → serials_in rows ≡ serials es → ((k n : ℕ) (e : Node) (r : CurrentRow) → n ≡ place + k → slice_get es k ≡ Some e → slice_get rows k ≡ Some r → both r.comings.moved r.comings.repeat ≡ coming_of h (current_interval h now) now n e) → HaveDueChanges h now place es (map (λ (r : CurrentRow). r.comings) rows)
comings_from h now place [] [] same each = tt
comings_from h now place [] (r ∷ rs) same each = absurd (cc)
comings_from h now place (e ∷ es) [] same each = absurd (cc)
comings_from h now place (e ∷ es) (r ∷ rs) same each = (
  each 0 place e r (omega arith) refl refl,
  comings_from h now (suc place) es rs (rest same) (λ k n d q eq p t. each (suc k) n d q (omega (arith, eq)) p t),
)
  where
    rest : serials_in (r ∷ rs) ≡ serials (e ∷ es) → serials_in rs ≡ serials es
    rest s = cc

-- ---- the whole

module _ (h : History) (now : ℤ) (order : List ℕ) (rows : List CurrentRow) (ordered : IsOrdered h.nodes) (is : IsGraphOrder h.nodes order) (taken : AreRowsEvaluated h now order (length order) rows) where
  each_row : (k : ℕ) (e : Node) (r : CurrentRow) → slice_get (elements h.nodes) k ≡ Some e → slice_get rows k ≡ Some r → IsRowOf h (interval_in rows) now k e r
  each_row k e r here got =
      let among : has order e.serial ≡ true = sym (list_any-IsPermutation (λ y. y == e.serial) (serials (elements h.nodes)) order is.all) ∙ listed_at (elements h.nodes) k e here in
      let at = place_of_member e.serial order among in
      taken.rows_are at.0 k e r at.1 at.2 here got

  pub are_current : (s : ℕ) → interval_in rows s ≡ current_interval h now s
  are_current s =
      agreeing_all h now (interval_in rows) ordered.first
      (by_elements (interval_given h (interval_in rows) now) (elements h.nodes) rows taken.of_elements (λ k e r p q. (each_row k e r p q).interval)) s

  same_interval : interval_in rows ≡ current_interval h now
  same_interval = λ i s. are_current s i

  each_comings : (k : ℕ) (e : Node) (r : CurrentRow) → slice_get (elements h.nodes) k ≡ Some e → slice_get rows k ≡ Some r → both r.comings.moved r.comings.repeat ≡ coming_of h (current_interval h now) now k e
  each_comings k e r here got =
      let own : r.interval ≡ current_interval h now e.serial = sym (interval_at e.serial rows k r (first_at (elements h.nodes) rows k e (elements_differ h.nodes ordered.distinct) taken.of_elements here) got) ∙ are_current e.serial in
      (each_row k e r here got).comings
      ∙ ap (λ i. coming_by h i (simple_of h (interval_in rows) e) now k e) own
      ∙ ap (λ (J : ℕ → Option Interval). coming_by h (current_interval h now e.serial) (simple_of h J e) now k e) same_interval

  comings_are : HaveDueChanges h now 0 (elements h.nodes) (map (λ (r : CurrentRow). r.comings) rows)
  comings_are =
      comings_from h now 0 (elements h.nodes) rows taken.of_elements
      each_at
    where
      each_at : (k n : ℕ) (e : Node) (r : CurrentRow) → n ≡ 0 + k → slice_get (elements h.nodes) k ≡ Some e → slice_get rows k ≡ Some r → both r.comings.moved r.comings.repeat ≡ coming_of h (current_interval h now) now n e
      each_at k n e r eq p q =
          let same : k ≡ n = omega (arith, eq) in
          each_comings k e r p q ∙ ap (λ m. coming_of h (current_interval h now) now m e) same

  -- the rows are current, and so is the queue of their keys
  pub all_current : IsCurrent rows (due_in rows) h now
  all_current = record {
    current = record {
      rows_are =
          same_tables (elements h.nodes) (map pair_of rows) (current_table h now) (elements_differ h.nodes ordered.distinct)
          (pair_keys rows ∙ taken.of_elements) (current_keys h now (elements h.nodes) refl)
          (λ s among. table_in rows s ∙ are_current s);
      comings_are = comings_are;
    };
    due_is = due_come h now (elements h.nodes) rows comings_are;
  }

-- the rows of a current table are of the elements, and have the current intervals
pub current_intervals : (h : History) (now : ℤ) (rows : List CurrentRow) (due : set.FinSet key_cmp) → IsCurrent rows due h now → (s : ℕ) → interval_in rows s ≡ current_interval h now s
current_intervals h now rows due is s = sym (table_in rows s) ∙ ap (λ xs. in_table xs s) is.current.rows_are

pub current_elements : (h : History) (now : ℤ) (rows : List CurrentRow) (due : set.FinSet key_cmp) → IsCurrent rows due h now → serials_in rows ≡ serials (elements h.nodes)
current_elements h now rows due is = sym (pair_keys rows) ∙ ap keys_in is.current.rows_are ∙ current_keys h now (elements h.nodes) refl

-- ---- an order

member_at : (xs : List ℕ) (k : ℕ) → k < length xs → has xs (get_or xs k 0) ≡ true
member_at [] k lt = absurd (omega (arith, lt))
member_at (x ∷ xs) zero lt = or_left _ _ (eq-eqb x x refl)
member_at (x ∷ xs) (suc k) lt = or_right _ _ (member_at xs k (omega (arith, lt)))

node_of_member : (s : ℕ) (ns : List Node) → has (serials ns) s ≡ true → is_some (node_at ns s) ≡ true
node_of_member s [] q = cc
node_of_member s (n ∷ ns) q = by_test (n.serial == s) q (node_of_member s ns)
  where
    by_test : (t : Bool) → (t || has (serials ns) s) ≡ true → (has (serials ns) s ≡ true → is_some (node_at ns s) ≡ true) → is_some (cond t (Some n) (node_at ns s)) ≡ true
    by_test true r later = refl
    by_test false r later = later r

-- what stands in an order of the elements is one
pub ordered_element : (nodes : List Node) (order : List ℕ) (k : ℕ) → IsGraphOrder nodes order → k < length order → is_some (node_at (elements nodes) (get_or order k 0)) ≡ true
ordered_element nodes order k is lt =
    node_of_member (get_or order k 0) (elements nodes)
    (list_any-IsPermutation (λ y. y == get_or order k 0) (serials (elements nodes)) order is.all ∙ member_at order k lt)

-- and there are as many
pub order_length : (nodes : List Node) (order : List ℕ) → IsGraphOrder nodes order → length order ≡ length (elements nodes)
order_length nodes order is =
    length_permutation (serials (elements nodes)) order is.all ∙ length-map (elements nodes) (λ (n : Node). n.serial)

pub none_taken : (h : History) (now : ℤ) (order : List ℕ) (rows : List CurrentRow) → serials_in rows ≡ serials (elements h.nodes) → AreRowsEvaluated h now order 0 rows
none_taken h now order rows same = record { of_elements = same; rows_are = λ k place e row less. absurd (omega (arith, less)) }

-- ---- what a refresh tells

pub where_both : {A E : Type 0} (r : Result A E) (P Q R : Type 0) → OnOk r P → OnOk r Q → (P → Q → R) → OnOk r R
where_both (Ok a) P Q R p q f = f p q
where_both (Err e) P Q R p q f = tt

-- the current interval of each element that is not told stays
pub others_stay : (front h : History) (now : ℤ) (old : List CurrentRow) (old_due : set.FinSet key_cmp) (same new : List CurrentRow) (due : set.FinSet key_cmp) (told changed : List ℕ) → IsCurrent old old_due front now → same ≡ old → IsCurrent new due h now → StayUnchanged told changed same new → (s : ℕ) → has changed s ≡ false → current_interval h now s ≡ current_interval front now s
others_stay front h now old old_due same new due told changed before kept after unchanged s out =
    sym (current_intervals h now new due after s)
    ∙ unchanged.others s out
    ∙ ap (λ rows. interval_in rows s) kept
    ∙ current_intervals front now old old_due before s
