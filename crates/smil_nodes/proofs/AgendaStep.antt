-- An element is taken off the list and evaluated, and what follows from it is listed where its interval or its ending changed.
use Rattle.std.proofs.Common.{◌≡◌, refl, ◌∙◌, ap, sym, subst, ℕ, ◌<◌, ◌≤◌, List, length, Some, ℤ, Bool, true, false, get_or, inl, inr}
use Rattle.std.specs.Prelude.{◌&&◌, ◌==◌, ◌⊎◌, not, nat_eq, nat_lt, slice_get}
use Rattle.std.specs.List as list
use Rattle.std.specs.List.{list_any}
use Rattle.std.proofs.lemmas.Bool.{eq-eqb, eqb-true, eqb-false, ltb-true, ltb-false}
use Rattle.smil_model.specs.declared.document.Node.{Node}
use Rattle.smil_model.specs.document.Dependencies.{has_implicit_duration}
use Rattle.smil_model.specs.document.Document.{elements, is_time_child, node_at}
use Rattle.smil_model.specs.document.Valid.{IsDistinct}
use Rattle.smil_model.specs.diary.Diary.{History}
use Rattle.smil_concern_laws.specs.Unconcerned.{AgreeByEnds, SameEnds}
use Rattle.smil_laws.proofs.ListMembers.{Differ}
use Rattle.smil_graph.specs.Graph.{IsGraphOrder, is_follower_rank}
use Rattle.smil_rounds.specs.declared.current_rows.CurrentRow.{CurrentRow}
use Rattle.smil_rounds.specs.Current.{interval_in}
use Rattle.smil_rounds.specs.Round.{AreOfElements, IsRowOf, IsRowEvaluated}
use Rattle.smil_rounds.proofs.RowPut.{IsFirst, set_serials, set_others}
use Rattle.smil_rounds.proofs.RowsBesideElements.{serials_in, there_at, apart_at, first_at, set_at, set_elsewhere}
use Rattle.smil_rounds.proofs.RowAgrees.{agree_by_order}
use Rattle.smil_rounds.proofs.RowEvaluated.{elements_differ}
use Rattle.smil_nodes.specs.Work.{AreSettled}
use Rattle.smil_nodes.proofs.IntervalsApart.{agree_apart, agree_all, agree_by_ends, not_following, row_by_ends}

pub left_out : (old : ℕ → Bool) (rank r : ℕ) → (not (r == rank) && old r) ≡ false → (r ≡ rank) ⊎ (old r ≡ false)
left_out old rank r q = by_test (r == rank) refl q
  where
    by_test : (t : Bool) → r == rank ≡ t → (not t && old r) ≡ false → (r ≡ rank) ⊎ (old r ≡ false)
    by_test true e p = inl (eqb-true r rank e)
    by_test false e p = inr p

module _ (h : History) (now : ℤ) (who : ℕ) (before after : List CurrentRow) (distinct : IsDistinct h.nodes) (of_elements : AreOfElements h.nodes before) (taken : IsRowEvaluated h now who before after) where
  differ : Differ (elements h.nodes)
  differ = elements_differ h.nodes distinct

  row_first : IsFirst (taken.row).serial before taken.place
  row_first =
      subst (λ s. IsFirst s before taken.place) (sym (taken.made).serial)
      (first_at (elements h.nodes) before taken.place taken.element differ of_elements taken.here)

  pub of_elements_after : AreOfElements h.nodes after
  of_elements_after = ap serials_in taken.after_is ∙ set_serials taken.row before taken.place row_first ∙ of_elements

  -- the intervals of the other elements stay
  pub others_stay : (x : ℕ) → who == x ≡ false → interval_in after x ≡ interval_in before x
  others_stay x other =
      ap (λ rows. interval_in rows x) taken.after_is
      ∙ set_others taken.row before taken.place x row_first (ap (λ s. s == x) ((taken.made).serial ∙ taken.is_who) ∙ other)

  module _ (order : List ℕ) (rank : ℕ) (is : IsGraphOrder h.nodes order) (lt : rank < length order) (at : get_or order rank 0 ≡ who) where
    agree_before : (j : ℕ) (e : Node) → j ≤ rank → get_or order j 0 ≡ e.serial → node_at (elements h.nodes) e.serial ≡ Some e → AgreeByEnds h (interval_in before) (interval_in after) e
    agree_before j e le at_e there =
        agree_by_ends h (interval_in before) (interval_in after) e
        (agree_by_order h (interval_in before) (interval_in after) now e order rank j is there lt le at_e
        (λ x other. sym (others_stay x (ap (λ s. s == x) (sym at) ∙ other))))

    module _ (old new : ℕ → Bool) (so_far : AreSettled h now order old before) (left : (r : ℕ) → new r ≡ false → (r ≡ rank) ⊎ (old r ≡ false)) (free : (j : ℕ) (e : Node) → rank < j → j < length order → get_or order j 0 ≡ e.serial → node_at (elements h.nodes) e.serial ≡ Some e → new j ≡ false → AgreeByEnds h (interval_in before) (interval_in after) e) where
      at_any : (j p : ℕ) (e : Node) (row : CurrentRow) → j < length order → get_or order j 0 ≡ e.serial → new j ≡ false → slice_get (elements h.nodes) p ≡ Some e → IsRowOf h (interval_in before) now p e row → IsRowOf h (interval_in after) now p e row
      at_any j p e row within at_e off here row_is =
          row_by_ends h (interval_in before) (interval_in after) now e p row (agree (nat_lt rank j) refl) row_is
        where
          there : node_at (elements h.nodes) e.serial ≡ Some e
          there = there_at (elements h.nodes) p e differ here

          agree : (t : Bool) → nat_lt rank j ≡ t → AgreeByEnds h (interval_in before) (interval_in after) e
          agree true q = free j e (ltb-true rank j q) within at_e there off
          agree false q = agree_before j e (ltb-false rank j q) at_e there

      by_place : (j p : ℕ) (e : Node) (row : CurrentRow) → j < length order → get_or order j 0 ≡ e.serial → new j ≡ false → slice_get (elements h.nodes) p ≡ Some e → slice_get after p ≡ Some row → (t : Bool) → nat_eq p taken.place ≡ t → IsRowOf h (interval_in after) now p e row
      by_place j p e row within at_e off here got true q =
          let same : p ≡ taken.place = eqb-true p taken.place q in
          let one : taken.element ≡ e = same_node (sym taken.here ∙ ap (slice_get (elements h.nodes)) (sym same) ∙ here) in
          let own : taken.row ≡ row = same_row (sym (set_at (taken.row).serial before taken.place taken.row row_first) ∙ ap (λ rows. slice_get rows taken.place) (sym taken.after_is) ∙ ap (slice_get after) (sym same) ∙ got) in
          at_any j p e row within at_e off here
          (subst (λ r. IsRowOf h (interval_in before) now p e r) own
          (subst (λ x. IsRowOf h (interval_in before) now p x taken.row) one
          (subst (λ n. IsRowOf h (interval_in before) now n taken.element taken.row) (sym same) taken.made)))
        where
          same_node : Some taken.element ≡ Some e → taken.element ≡ e
          same_node s = cc

          same_row : Some taken.row ≡ Some row → taken.row ≡ row
          same_row s = cc
      by_place j p e row within at_e off here got false q = settled_before (left j off)
        where
          settled_before : (j ≡ rank) ⊎ (old j ≡ false) → IsRowOf h (interval_in after) now p e row
          settled_before (inl same) =
              let one : p ≡ taken.place = apart_at (elements h.nodes) p taken.place e taken.element differ here taken.here (sym at_e ∙ ap (λ i. get_or order i 0) same ∙ at ∙ sym taken.is_who) in
              let never : true ≡ false = sym (eq-eqb p taken.place one) ∙ q in
              cc
          settled_before (inr was) =
              at_any j p e row within at_e off here
              (so_far.rows_are j p e row within at_e was here (sym (ap (λ rows. slice_get rows p) taken.after_is ∙ set_elsewhere before p taken.place taken.row (eqb-false p taken.place q)) ∙ got))

      settled_next : AreSettled h now order new after
      settled_next = record {
        of_elements = of_elements_after;
        rows_are = λ j p e row within at_e off here got. by_place j p e row within at_e off here (got ∙ refl) (nat_eq p taken.place) refl;
      }

    -- where its interval stays, all that was settled still is
    pub settled_same : (old new : ℕ → Bool) → AreSettled h now order old before → ((r : ℕ) → new r ≡ false → (r ≡ rank) ⊎ (old r ≡ false)) → interval_in after who ≡ interval_in before who → AreSettled h now order new after
    settled_same old new so_far left same =
        settled_next old new so_far left
        (λ j e above within at_e there off. agree_by_ends h (interval_in before) (interval_in after) e (agree_all h (interval_in before) (interval_in after) e (λ x. each x (who == x) refl)))
      where
        each : (x : ℕ) (t : Bool) → who == x ≡ t → interval_in before x ≡ interval_in after x
        each x true q = let one : who ≡ x = eqb-true who x q in ap (interval_in before) (sym one) ∙ sym same ∙ ap (interval_in after) one
        each x false q = sym (others_stay x q)

    -- where its interval changes, it is so once what follows from it by an item is listed, and its container
    -- where its ending is another
    pub settled_changed : (old new : ℕ → Bool) → list.IsDistinct nat_eq order → AreSettled h now order old before → ((r : ℕ) → new r ≡ false → (r ≡ rank) ⊎ (old r ≡ false)) → ((r : ℕ) → r < length order → new r ≡ false → is_follower_rank h.nodes order who r ≡ false) → ((j : ℕ) (e : Node) → rank < j → j < length order → get_or order j 0 ≡ e.serial → node_at (elements h.nodes) e.serial ≡ Some e → new j ≡ false → has_implicit_duration e ≡ true → list_any (λ (c : Node). (c.serial == who) && is_time_child h.nodes e.serial c) h.nodes ≡ true → SameEnds h h (interval_in before who) (interval_in after who) who) → AreSettled h now order new after
    settled_changed old new apart so_far left more ends =
        settled_next old new so_far left
        (λ j e above within at_e there off.
        agree_apart h (interval_in before) (interval_in after) e who
        (not_following h.nodes order who j e apart within at_e there (more j within off))
        (ends j e above within at_e there off) others_stay)
