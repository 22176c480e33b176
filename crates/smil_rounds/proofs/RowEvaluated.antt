-- One element is evaluated, and its row put in its place.
use Rattle.std.proofs.Common.{◌≡◌, refl, ◌∙◌, ap, sym, subst, ℕ, suc, zero, ◌+◌, ◌<◌, ◌≤◌, List, [], ◌∷◌, ◌++◌, length, Option, Some, None, ℤ, Bool, true, false, get_or, set, arith}
use Rattle.std.specs.Prelude.{◌==◌, cond, not, nat_eq, nat_lt, slice_get, is_some}
use Rattle.std.specs.List.{position, position_or_len}
use Rattle.std.proofs.lemmas.Bool.{or_left, or_parts, eq-eqb, eqb-true, eqb-false, lt-ltb}
use Rattle.std.proofs.lemmas.List.Folds.{list_any-append}
use Rattle.std.proofs.lemmas.Option.{same_Some, slice_get_within}
use Rattle.smil_model.specs.declared.interval.Interval.{Interval}
use Rattle.smil_model.specs.declared.document.Node.{Node}
use Rattle.smil_model.specs.document.Document.{elements, is_element, node_at, serials}
use Rattle.smil_model.specs.document.Valid.{IsDistinct}
use Rattle.smil_model.specs.document.Closure.{has}
use Rattle.smil_model.specs.diary.Diary.{History}
use Rattle.smil_laws.proofs.ListMembers.{Differ, differ_all, differ_kept}
use Rattle.smil_laws.proofs.RoundsRest.{find-serial}
use Rattle.smil_graph.specs.Graph.{IsGraphOrder}
use Rattle.smil_element.specs.declared.outcome.Outcome.{Outcome}
use Rattle.smil_element.specs.Element.{IsOutcome}
use Rattle.smil_rounds.specs.declared.current_rows.CurrentRow.{CurrentRow}
use Rattle.smil_rounds.specs.Current.{interval_in}
use Rattle.smil_rounds.specs.Round.{AreRowsEvaluated, IsRowOf, IsRowEvaluated, StayUnchanged}
use Rattle.smil_rounds.proofs.RowPut.{IsFirst, set_serials, set_others, set_own}
use Rattle.smil_rounds.proofs.RowsBesideElements.{serials_in, there_at, apart_at, first_at, set_at, set_elsewhere}
use Rattle.smil_rounds.proofs.RowAgrees.{row_stays, agree_by_order}
use Rattle.smil_instances.proofs.IdTargets.{some_of}

pub elements_differ : (nodes : List Node) → IsDistinct nodes → Differ (elements nodes)
elements_differ nodes distinct = differ_kept is_element nodes (differ_all nodes distinct)

-- ---- where the row of an element is

position_first : (who : ℕ) (rows : List CurrentRow) (k : ℕ) → IsFirst who rows k → (position_or_len (λ (r : CurrentRow). r.serial == who) rows ≡ k) × (k < length rows)
position_first who [] k is = elim is [ ]
position_first who (x ∷ xs) zero is = (ap (λ t. cond (not t) (1 + position_or_len (λ (r : CurrentRow). r.serial == who) xs) 0) is, omega arith)
position_first who (x ∷ xs) (suc k) is =
    let later = position_first who xs k is.1 in
    (ap (λ t. cond (not t) (1 + position_or_len (λ (r : CurrentRow). r.serial == who) xs) 0) is.0 ∙ omega (arith, later.0), omega (arith, later.1))

pub placed : (who : ℕ) (rows : List CurrentRow) (k : ℕ) → IsFirst who rows k → position (λ (r : CurrentRow). r.serial == who) rows ≡ Some k
placed who rows k is =
    let at = position_first who rows k is in
    ap (λ n. cond (nat_lt n (length rows)) (Some n) None) at.0 ∙ ap (λ t. cond t (Some k) None) (lt-ltb k (length rows) at.1)

node_place : (who : ℕ) (ns : List Node) (e : Node) → node_at ns who ≡ Some e → (k : ℕ) × (slice_get ns k ≡ Some e) × (e.serial ≡ who)
node_place who [] e q = cc
node_place who (n ∷ ns) e q = by_test (n.serial == who) refl q (node_place who ns e)
  where
    by_test : (t : Bool) → n.serial == who ≡ t → cond t (Some n) (node_at ns who) ≡ Some e → (node_at ns who ≡ Some e → (k : ℕ) × (slice_get ns k ≡ Some e) × (e.serial ≡ who)) → (k : ℕ) × (slice_get (n ∷ ns) k ≡ Some e) × (e.serial ≡ who)
    by_test true t r later = let one : n ≡ e = cc in (0, r, sym (ap (λ (m : Node). m.serial) one) ∙ eqb-true n.serial who t)
    by_test false t r later = let found = later r in (suc found.0, found.1, found.2)

-- an element of a document whose elements have these rows, of which its own stands at this place
pub record IsFound (nodes : List Node) (rows : List CurrentRow) (who place : ℕ) : Type 0 where
  pub element : Node
  pub node : node_at (elements nodes) who ≡ Some element
  pub here : slice_get (elements nodes) place ≡ Some element
  pub is_who : element.serial ≡ who
  pub first : IsFirst who rows place
  pub within : place < length (elements nodes)

module _ (nodes : List Node) (rows : List CurrentRow) (who : ℕ) (distinct : IsDistinct nodes) (same : serials_in rows ≡ serials (elements nodes)) (has : is_some (node_at (elements nodes) who) ≡ true) where
  found_first : (place : ℕ) × IsFound nodes rows who place
  found_first =
      let some = some_of (node_at (elements nodes) who) has in
      let at = node_place who (elements nodes) some.0 some.1 in (
        at.0,
        record {
          element = some.0;
          node = some.1;
          here = at.1;
          is_who = at.2;
          first = subst (λ s. IsFirst s rows at.0) at.2 (first_at (elements nodes) rows at.0 some.0 (elements_differ nodes distinct) same at.1);
          within = slice_get_within (elements nodes) at.0 some.0 at.1;
        },
      )

  pub has_row : is_some (position (λ (r : CurrentRow). r.serial == who) rows) ≡ true
  has_row = ap is_some (placed who rows found_first.0 (found_first.1).first)

  pub found : (place : ℕ) → Some place ≡ position (λ (r : CurrentRow). r.serial == who) rows → IsFound nodes rows who place
  found place is = subst (IsFound nodes rows who) (sym (same_Some place found_first.0 (is ∙ placed who rows found_first.0 (found_first.1).first))) found_first.1

pub elements_few : (nodes : List Node) → length (elements nodes) ≤ length nodes
elements_few [] = omega arith
elements_few (n ∷ ns) = by_test (is_element n) (elements_few ns)
  where
    by_test : (t : Bool) → length (elements ns) ≤ length ns → length (cond t (n ∷ elements ns) (elements ns)) ≤ length (n ∷ ns)
    by_test true l = omega (arith, l)
    by_test false l = omega (arith, l)

-- the row of what an evaluation gives
pub row_made : (h : History) (given : ℕ → Option Interval) (now : ℤ) (place who : ℕ) (e : Node) (made : Outcome) → node_at (elements h.nodes) who ≡ Some e → IsOutcome h given now place e made → IsRowOf h given now place e (record { serial = who; interval = made.interval; comings = made.comings })
row_made h given now place who e made here is = record {
  serial = sym (find-serial who (elements h.nodes) e here);
  interval = is.interval;
  comings = is.comings;
}

-- an element is taken where its row is that by the rows as they were
pub taken_by : (h : History) (now : ℤ) (who place : ℕ) (before after : List CurrentRow) (row : CurrentRow) → (at : IsFound h.nodes before who place) → IsRowOf h (interval_in before) now place at.element row → after ≡ set before place row → IsRowEvaluated h now who before after
taken_by h now who place before after row at made after_is = record {
  place = place;
  element = at.element;
  row = row;
  here = at.here;
  is_who = at.is_who;
  made = made;
  after_is = after_is;
}

-- its row is put in the place of its own
pub own_first : (nodes : List Node) (rows : List CurrentRow) (who place : ℕ) (row : CurrentRow) → (at : IsFound nodes rows who place) → row.serial ≡ at.element.serial → IsFirst row.serial rows place
own_first nodes rows who place row at own = subst (λ s. IsFirst s rows place) (sym (own ∙ at.is_who)) at.first

-- and its interval is then that of the row
pub own_interval : (nodes : List Node) (rows : List CurrentRow) (who place : ℕ) (row : CurrentRow) → (at : IsFound nodes rows who place) → row.serial ≡ at.element.serial → (after : List CurrentRow) → after ≡ set rows place row → interval_in after who ≡ row.interval
own_interval nodes rows who place row at own after is =
    ap (λ xs. interval_in xs who) is
    ∙ ap (interval_in (set rows place row)) (sym (own ∙ at.is_who))
    ∙ set_own row rows place (own_first nodes rows who place row at own)

-- ---- what is told of an interval that changes

pub unchanged_pushed : (old new : List ℕ) (rows : List CurrentRow) (k : ℕ) (row : CurrentRow) → IsFirst row.serial rows k → new ≡ old ++ row.serial ∷ [] → StayUnchanged old new rows (set rows k row)
unchanged_pushed old new rows k row is pushed = record {
  more = λ s among. ap (λ xs. has xs s) pushed ∙ list_any-append (λ y. y == s) old (row.serial ∷ []) ∙ or_left _ _ among;
  others = λ s out. set_others row rows k s is (or_parts _ _ ((or_parts _ _ (sym (list_any-append (λ y. y == s) old (row.serial ∷ [])) ∙ sym (ap (λ xs. has xs s) pushed) ∙ out)).1)).0;
}

pub unchanged_same : (old new : List ℕ) (rows : List CurrentRow) (k : ℕ) (row : CurrentRow) → IsFirst row.serial rows k → new ≡ old → interval_in rows row.serial ≡ row.interval → StayUnchanged old new rows (set rows k row)
unchanged_same old new rows k row is same interval = record {
  more = λ s among. ap (λ xs. has xs s) same ∙ among;
  others = λ s out. by_test s (row.serial == s) refl;
}
  where
    by_test : (s : ℕ) (t : Bool) → row.serial == s ≡ t → interval_in (set rows k row) s ≡ interval_in rows s
    by_test s true q =
        let one : row.serial ≡ s = eqb-true row.serial s q in
        ap (interval_in (set rows k row)) (sym one) ∙ set_own row rows k is ∙ sym interval ∙ ap (interval_in rows) one
    by_test s false q = set_others row rows k s is q

pub unchanged_both : (a b c : List ℕ) (x y z : List CurrentRow) → StayUnchanged a b x y → StayUnchanged b c y z → StayUnchanged a c x z
unchanged_both a b c x y z first second = record {
  more = λ s among. second.more s (first.more s among);
  others = λ s out. second.others s out ∙ first.others s (before s (has b s) refl out);
}
  where
    before : (s : ℕ) (t : Bool) → has b s ≡ t → has c s ≡ false → has b s ≡ false
    before s true q out = let never : true ≡ false = sym (second.more s q) ∙ out in cc
    before s false q out = q

pub unchanged_none : (a : List ℕ) (x : List CurrentRow) → StayUnchanged a a x x
unchanged_none a x = record { more = λ s among. among; others = λ s out. refl }

-- ---- the rows with one element more of the order

pub take_next : (h : History) (now : ℤ) (order : List ℕ) (k who : ℕ) (before after : List CurrentRow) → IsDistinct h.nodes → IsGraphOrder h.nodes order → k < length order → get_or order k 0 ≡ who → AreRowsEvaluated h now order k before → IsRowEvaluated h now who before after → AreRowsEvaluated h now order (k + 1) after
take_next h now order k who before after distinct is lt at so_far taken = record {
  of_elements = ap serials_in taken.after_is ∙ set_serials taken.row before taken.place row_first ∙ so_far.of_elements;
  rows_are = λ j p e row less at_e here got. by_place j p e row less at_e here (got ∙ refl) (nat_eq p taken.place) refl;
}
  where
    differ : Differ (elements h.nodes)
    differ = elements_differ h.nodes distinct

    element_first : IsFirst (taken.element).serial before taken.place
    element_first = first_at (elements h.nodes) before taken.place taken.element differ so_far.of_elements taken.here

    row_first : IsFirst (taken.row).serial before taken.place
    row_first = subst (λ s. IsFirst s before taken.place) (sym (taken.made).serial) element_first

    others : (x : ℕ) → get_or order k 0 == x ≡ false → interval_in before x ≡ interval_in after x
    others x other =
        sym (ap (λ rows. interval_in rows x) taken.after_is
        ∙ set_others taken.row before taken.place x row_first (ap (λ s. s == x) ((taken.made).serial ∙ taken.is_who ∙ sym at) ∙ other))

    stays : (j p : ℕ) (e : Node) (row : CurrentRow) → j ≤ k → get_or order j 0 ≡ e.serial → slice_get (elements h.nodes) p ≡ Some e → IsRowOf h (interval_in before) now p e row → IsRowOf h (interval_in after) now p e row
    stays j p e row less at_e here row_is =
        row_stays h (interval_in before) (interval_in after) now e p row
        (agree_by_order h (interval_in before) (interval_in after) now e order k j is (there_at (elements h.nodes) p e differ here) lt less at_e others)
        row_is

    by_place : (j p : ℕ) (e : Node) (row : CurrentRow) → j < k + 1 → get_or order j 0 ≡ e.serial → slice_get (elements h.nodes) p ≡ Some e → slice_get after p ≡ Some row → (t : Bool) → nat_eq p taken.place ≡ t → IsRowOf h (interval_in after) now p e row
    by_place j p e row less at_e here got true q =
        let same : p ≡ taken.place = eqb-true p taken.place q in
        let one : taken.element ≡ e = same_node (sym taken.here ∙ ap (slice_get (elements h.nodes)) (sym same) ∙ here) in
        let own : taken.row ≡ row = same_row (sym (set_at (taken.row).serial before taken.place taken.row row_first) ∙ ap (λ rows. slice_get rows taken.place) (sym taken.after_is) ∙ ap (slice_get after) (sym same) ∙ got) in
        stays j p e row (omega (arith, less)) at_e here
        (subst (λ r. IsRowOf h (interval_in before) now p e r) own
        (subst (λ x. IsRowOf h (interval_in before) now p x taken.row) one
        (subst (λ n. IsRowOf h (interval_in before) now n taken.element taken.row) (sym same) taken.made)))
      where
        same_node : Some taken.element ≡ Some e → taken.element ≡ e
        same_node s = cc

        same_row : Some taken.row ≡ Some row → taken.row ≡ row
        same_row s = cc
    by_place j p e row less at_e here got false q =
        stays j p e row (omega (arith, before_k)) at_e here
        (so_far.rows_are j p e row before_k at_e here (sym (ap (λ rows. slice_get rows p) taken.after_is ∙ set_elsewhere before p taken.place taken.row (eqb-false p taken.place q)) ∙ got))
      where
        differs : j ≡ k → ⊥
        differs same =
            let one : p ≡ taken.place = apart_at (elements h.nodes) p taken.place e taken.element differ here taken.here (sym at_e ∙ ap (λ i. get_or order i 0) same ∙ at ∙ sym taken.is_who) in
            let never : true ≡ false = sym (eq-eqb p taken.place one) ∙ q in
            cc

        before_k : j < k
        before_k = omega (arith, less, differs)
