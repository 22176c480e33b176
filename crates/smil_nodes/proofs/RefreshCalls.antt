-- What the calls of a refresh tell, by the document's nodes and its order.
use Rattle.std.proofs.Common.{◌≡◌, refl, ◌∙◌, ap, sym, subst, ℕ, ◌<◌, ◌≤◌, List, [], length, drop, get_or, Some, Bool, true, false, arith, inl, inr}
use Rattle.std.specs.Prelude.{◌||◌, ◌&&◌, ◌==◌, ◌⊎◌, Option, is_some, not, nat_eq, nat_lt, slice_index}
use Rattle.std.specs.List.{IsDistinct, position}
use Rattle.std.proofs.lemmas.Bool.{and_parts, ltb-false, ltb-true, or_cases, or_parts}
use Rattle.smil_model.specs.declared.document.Node.{Node}
use Rattle.smil_model.specs.declared.interval.Interval.{Interval}
use Rattle.smil_model.specs.document.Closure.{has}
use Rattle.smil_model.specs.document.Document.{elements, node_at, time_parent}
use Rattle.smil_model.specs.document.Valid as valid
use Rattle.smil_graph.specs.Graph.{IsGraphOrder, OrderedNodes, is_follower_rank}
use Rattle.smil_past.specs.Past.{MarkedHistory}
use Rattle.smil_cells.specs.Evaluated.{is_container, is_noted_by}
use Rattle.smil_nodes.specs.Agenda.{IsLeastTaken}
use Rattle.smil_nodes.specs.Noted.{AreNoted, NotesEntries}
use Rattle.smil_nodes.proofs.AgendaStep.{left_out}
use Rattle.smil_nodes.proofs.ElementRanks.{found_place}
use Rattle.smil_nodes.proofs.IntervalsApart.{IsLaterReader, container_later, follower_later}
use Rattle.smil_cells.proofs.DistinctElements.{elements_distinct, order_distinct}

-- the order of a graph of these nodes
pub is_order : (graph : OrderedNodes) (nodes : List Node) (order : List ℕ) → graph.nodes ≡ nodes → IsGraphOrder graph.nodes order → IsGraphOrder nodes order
is_order graph nodes order same is = subst (λ ns. IsGraphOrder ns order) same is

pub differ_in : (nodes : List Node) (order : List ℕ) → valid.IsDistinct nodes → IsGraphOrder nodes order → IsDistinct nat_eq order
differ_in nodes order distinct is = order_distinct nodes order (elements_distinct nodes distinct) is

-- what the entries have listed
module _ (graph : OrderedNodes) (past : MarkedHistory) (before : ℕ → Option Interval) (from : ℕ) (old new order : List ℕ) (kept : order ≡ graph.order) (same : graph.nodes ≡ past.document.nodes) (none : old ≡ []) (notes : NotesEntries graph past before from old new) where
  noted : AreNoted order (is_noted_by past.document.nodes past.log before (drop from past.diary)) [] new
  noted =
      subst (λ o. AreNoted order (is_noted_by past.document.nodes past.log before (drop from past.diary)) o new) none
      (subst (λ ns. AreNoted order (is_noted_by ns past.log before (drop from past.diary)) old new) same
      (subst (λ o. AreNoted o (is_noted_by graph.nodes past.log before (drop from past.diary)) old new) (sym kept) notes))

  pub noted_told : (s r : ℕ) → position (λ t. t == s) order ≡ Some r → has new r ≡ is_noted_by past.document.nodes past.log before (drop from past.diary) s
  noted_told s r at = noted.listed s r at

  pub noted_within : (r : ℕ) → has new r ≡ true → r < length order
  noted_within r on = by_case (noted.ranks r on)
    where
      by_case : (has [] r ≡ true) ⊎ (r < length order) → r < length order
      by_case (inl never) = cc
      by_case (inr less) = less

-- what one element has listed, whose interval is another
module _ (graph : OrderedNodes) (nodes : List Node) (order : List ℕ) (distinct : valid.IsDistinct nodes) (is : IsGraphOrder nodes order) (kept : order ≡ graph.order) (same : graph.nodes ≡ nodes) (old taken mid later new : List ℕ) (rank who : ℕ) (ends : Bool) (lt : rank < length order) (at : get_or order rank 0 ≡ who) (known : is_some (node_at (elements nodes) who) ≡ true) (off : IsLeastTaken old rank taken) (stays : mid ≡ taken) (ranks : List ℕ) (followers : (r : ℕ) → has ranks r ≡ is_follower_rank graph.nodes graph.order (slice_index graph.order rank) r) (more : (r : ℕ) → has later r ≡ (has mid r || has ranks r)) (containers : AreNoted graph.order (λ (s : ℕ). ends && is_container (time_parent graph.nodes who) s) later new) where
  own : slice_index graph.order rank ≡ who
  own = ap (λ o. get_or o rank 0) (sym kept) ∙ at

  -- those that follow from it by an item
  told_followers : (r : ℕ) → has later r ≡ (has taken r || is_follower_rank nodes order who r)
  told_followers r =
      more r
      ∙ ap (λ l. has l r || has ranks r) stays
      ∙ ap (λ t. has taken r || t) (followers r)
      ∙ ap (λ ns. has taken r || is_follower_rank ns graph.order (slice_index graph.order rank) r) same
      ∙ ap (λ s. has taken r || is_follower_rank nodes graph.order s r) own
      ∙ ap (λ o. has taken r || is_follower_rank nodes o who r) (sym kept)

  -- and its container, where its kept ending is another
  told_containers : AreNoted order (λ (s : ℕ). ends && is_container (time_parent nodes who) s) later new
  told_containers =
      subst (λ ns. AreNoted order (λ (s : ℕ). ends && is_container (time_parent ns who) s) later new) same
      (subst (λ o. AreNoted o (λ (s : ℕ). ends && is_container (time_parent graph.nodes who) s) later new) (sym kept) containers)

  -- at a rank in the order
  at_rank : (r : ℕ) → r < length order → has new r ≡ (has later r || (ends && is_container (time_parent nodes who) (get_or order r 0)))
  at_rank r within = told_containers.listed (get_or order r 0) r (found_place (get_or order r 0) order r (differ_in nodes order distinct is) within refl)

  later_out : (r : ℕ) → r < length order → has new r ≡ false → has later r ≡ false
  later_out r within out = (or_parts _ _ (sym (at_rank r within) ∙ out)).0

  -- what is not listed was not, or is the element itself
  pub left_over : ((r : ℕ) → has old r ≡ true → r < length order) → (r : ℕ) → has new r ≡ false → (r ≡ rank) ⊎ (has old r ≡ false)
  left_over bound r out = by_test (nat_lt r (length order)) refl
    where
      by_old : (t : Bool) → has old r ≡ t → length order ≤ r → (r ≡ rank) ⊎ (has old r ≡ false)
      by_old false e past = inr e
      by_old true e past = let less : r < length order = bound r e in absurd (omega (arith, less, past))

      by_test : (t : Bool) → nat_lt r (length order) ≡ t → (r ≡ rank) ⊎ (has old r ≡ false)
      by_test true q = left_out (has old) rank r (sym (off.rest r) ∙ (or_parts _ _ (sym (told_followers r) ∙ later_out r (ltb-true r (length order) q) out)).0)
      by_test false q = by_old (has old r) refl (ltb-false r (length order) q)

  -- no follower by an item is
  pub no_follower : (r : ℕ) → r < length order → has new r ≡ false → is_follower_rank nodes order who r ≡ false
  no_follower r within out = (or_parts _ _ (sym (told_followers r) ∙ later_out r within out)).1

  -- where the container is not, the kept ending stays
  pub no_ending : (r : ℕ) → r < length order → has new r ≡ false → is_container (time_parent nodes who) (get_or order r 0) ≡ true → ends ≡ false
  no_ending r within out held = by_test ends ((or_parts _ _ (sym (at_rank r within) ∙ out)).1)
    where
      by_test : (t : Bool) → (t && is_container (time_parent nodes who) (get_or order r 0)) ≡ false → t ≡ false
      by_test false q = refl
      by_test true q = let never : true ≡ false = sym held ∙ q in cc

  -- what is listed was, or reads the element and stands behind it
  pub only_later : (r : ℕ) → has new r ≡ true → (has taken r ≡ true) ⊎ IsLaterReader nodes order rank who r
  only_later r on = by_case (told_containers.ranks r on)
    where
      by_later : has later r ≡ true → (has taken r ≡ true) ⊎ IsLaterReader nodes order rank who r
      by_later q = elim (or_cases _ _ (sym (told_followers r) ∙ q)) [
        | inl was ↦ inl was
        | inr follower ↦ inr (follower_later nodes order rank who distinct is lt at r follower)
      ]

      by_case : (has later r ≡ true) ⊎ (r < length order) → (has taken r ≡ true) ⊎ IsLaterReader nodes order rank who r
      by_case (inl q) = by_later q
      by_case (inr within) = elim (or_cases _ _ (sym (at_rank r within) ∙ on)) [
        | inl q ↦ by_later q
        | inr both ↦ inr (container_later nodes order rank who distinct is lt at r known within (and_parts ends (is_container (time_parent nodes who) (get_or order r 0)) both).1)
      ]

pub rest_of : (old taken mid : List ℕ) (rank : ℕ) → mid ≡ taken → IsLeastTaken old rank taken → (r : ℕ) → has mid r ≡ (not (r == rank) && has old r)
rest_of old taken mid rank stays off r = ap (λ l. has l r) stays ∙ off.rest r
