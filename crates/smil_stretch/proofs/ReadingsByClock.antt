-- What the calls that read clocks tell.
use Rattle.std.proofs.Common.{◌≡◌, refl, sym, ◌∙◌, ap, ℕ, zero, suc, ◌+◌, List, [], ◌∷◌, ℤ, Option, Some, None, Bool, true, false, length, get_or, add-one}
use Rattle.std.specs.Prelude.{cond, nat_lt, pos, negsuc, ◌==◌, ◌&&◌, ◌≤ℤ◌, drop, map, find, slice_get, option_map, option_and_then, is_some, IfSome}
use Rattle.std.specs.Option.{option_copied}
use Rattle.std.specs.Borrow.{Bor}
use Rattle.std.specs.List.{list_any, position, position_or_len}
use Rattle.std.proofs.lemmas.Bool.{eqb-true, ltb-true, ltb-false}
use Rattle.std.proofs.lemmas.List.Folds.{find_at}
use Rattle.std.proofs.lemmas.Option.{slice_get-map, slice_get_past, slice_get_read}
use Rattle.smil_model.specs.declared.document.Node.{Node}
use Rattle.smil_model.specs.document.Document.{node_at, lineage, is_element, elements, time_parent}
use Rattle.smil_model.specs.diary.Diary.{History, is_paused, last_moment}
use Rattle.smil_model.specs.diary.Lawful.{has_element}
use Rattle.smil_model.specs.diary.Clocks.{until, elapsed, run, outer, outer_under, stands, stands_under, outer_stands}
use Rattle.smil_laws.proofs.AsideDocuments.{find_true}
use Rattle.smil_laws.proofs.ListMembers.{found_held}
use Rattle.smil_stretch.specs.declared.clock.NodeClock.{NodeClock}
use Rattle.smil_stretch.specs.Clocks.{shown, is_standing, clock_by, clock_of, node_clock, AreClocksOf}
use Rattle.smil_tree.specs.Outline.{parent_place}
use Rattle.smil_stretch.specs.NodeClocks.{clock_at, at_place, parent_at, shown_by, stands_by, paused_by}
use Rattle.smil_stretch.proofs.ClockAtMoment.{run_later}
use Rattle.smil_stretch.proofs.NodesAbove.{known_element}
use Rattle.smil_stretch.proofs.NodePlaces.{place, IsParentAt, parent_at_place, no_parent_place}
use Rattle.smil_tree.proofs.NodeFamilies.{no_chain, node_of_place, none_held}

-- ---- what is no node

module _ (h : History) (s : ℕ) (none : lineage h.nodes s ≡ []) where
  free_elapsed : (m : ℕ) → elapsed h s m ≡ m
  free_elapsed zero = refl
  free_elapsed (suc m) =
      ap (λ c. elapsed h s m + cond (list_any (λ (n : Node). is_element n && is_paused (until (pos m) h.diary) n.serial) c) 0 1) none
      ∙ ap (λ n. n + 1) (free_elapsed m) ∙ add-one m

  free_run : (m : ℤ) → run h s m ≡ m
  free_run (pos m) = ap pos (free_elapsed m)
  free_run (negsuc m) = refl

  free_stands : stands h s ≡ false
  free_stands = ap (list_any (λ (n : Node). is_element n && is_paused h.diary n.serial)) none

-- ---- the clock of a node

-- by the place that a table gives
pub clock_by_place : (clocks : List NodeClock) (s : ℕ) (o : Option ℕ) → o ≡ position (λ (n : NodeClock). n.serial == s) clocks → at_place clocks o ≡ clock_at clocks s
clock_by_place clocks s o q =
    ap (at_place clocks) q ∙ by_test (nat_lt (position_or_len (λ (n : NodeClock). n.serial == s) clocks) (length clocks)) refl
    ∙ sym (find_at (λ (n : NodeClock). n.serial == s) clocks)
  where
    by_test : (t : Bool) → nat_lt (position_or_len (λ (n : NodeClock). n.serial == s) clocks) (length clocks) ≡ t → at_place clocks (cond t (Some (position_or_len (λ (n : NodeClock). n.serial == s) clocks)) None) ≡ slice_get clocks (position_or_len (λ (n : NodeClock). n.serial == s) clocks)
    by_test true e = refl
    by_test false e = sym (slice_get_past clocks (position_or_len (λ (n : NodeClock). n.serial == s) clocks) (ltb-false (position_or_len (λ (n : NodeClock). n.serial == s) clocks) (length clocks) e))

pub found_clock : (h : History) (s : ℕ) (ns : List Node) → clock_at (map (node_clock h) ns) s ≡ option_map (node_clock h) (node_at ns s)
found_clock h s [] = refl
found_clock h s (n ∷ ns) = step (n.serial == s) (found_clock h s ns)
  where
    step : (t : Bool) → clock_at (map (node_clock h) ns) s ≡ option_map (node_clock h) (node_at ns s) → cond t (Some (node_clock h n)) (clock_at (map (node_clock h) ns) s) ≡ option_map (node_clock h) (cond t (Some n) (node_at ns s))
    step true q = refl
    step false q = q

-- what `get` lends is the clock at a place
pub lent_at : (clocks : List NodeClock) (place : ℕ) (r : Option (Bor NodeClock)) → is_some r ≡ nat_lt place (length clocks) → IfSome r (λ x. x.now ≡ get_or clocks place x.now) → option_copied r ≡ slice_get clocks place
lent_at clocks place None some is = sym (slice_get_past clocks place (ltb-false place (length clocks) (sym some)))
lent_at clocks place (Some x) some is = sym (slice_get_read clocks (length clocks) place x.now refl (ltb-true place (length clocks) (sym some)) is)

pub standing : (t : Bool) (time from : ℤ) → is_standing (clock_by t time from) ≡ t
standing true time from = refl
standing false time from = refl

module _ (clocks : List NodeClock) (h : History) (are : AreClocksOf clocks h) where
  clock_is : (s : ℕ) → clock_at clocks s ≡ option_map (node_clock h) (node_at h.nodes s)
  clock_is s = ap (λ cs. clock_at cs s) are.value ∙ found_clock h s h.nodes

  -- the clock at the place of a node
  pub clock_there : (k : ℕ) (n : Node) → slice_get h.nodes k ≡ Some n → slice_get clocks k ≡ clock_at clocks n.serial
  clock_there k n at =
      ap (λ cs. slice_get cs k) are.value ∙ slice_get-map (node_clock h) h.nodes k ∙ ap (option_map (node_clock h)) at
      ∙ sym (clock_is n.serial ∙ ap (option_map (node_clock h)) (node_of_place h.nodes k n are.document.distinct at))

  serial_is : (s : ℕ) (n : Node) → node_at h.nodes s ≡ Some n → n.serial ≡ s
  serial_is s n q = eqb-true n.serial s (find_true (λ (m : Node). m.serial == s) h.nodes n q)

  pub run_told : (s : ℕ) (m : ℤ) → last_moment h.diary ≤ℤ m → shown_by (clock_at clocks s) m ≡ run h s m
  run_told s m le = ap (λ c. shown_by c m) (clock_is s) ∙ by_node (node_at h.nodes s) refl
    where
      by_node : (o : Option Node) → node_at h.nodes s ≡ o → shown_by (option_map (node_clock h) o) m ≡ run h s m
      by_node None q = sym (free_run h s (no_chain h.nodes s q) m)
      by_node (Some n) q = ap (λ x. shown (clock_of h x) m) (serial_is s n q) ∙ sym (run_later h s m are.lawful le)

  pub stands_told : (s : ℕ) → stands_by (clock_at clocks s) ≡ stands h s
  stands_told s = ap stands_by (clock_is s) ∙ by_node (node_at h.nodes s) refl
    where
      by_node : (o : Option Node) → node_at h.nodes s ≡ o → stands_by (option_map (node_clock h) o) ≡ stands h s
      by_node None q = sym (free_stands h s (no_chain h.nodes s q))
      by_node (Some n) q = standing (stands h n.serial) (run h n.serial (last_moment h.diary)) (last_moment h.diary) ∙ ap (stands h) (serial_is s n q)

  pub paused_told : (s : ℕ) → has_element h.nodes s ≡ true → paused_by (clock_at clocks s) ≡ is_paused h.diary s
  paused_told s known = ap paused_by (clock_is s) ∙ by_node (node_at h.nodes s) refl
    where
      by_node : (o : Option Node) → node_at h.nodes s ≡ o → paused_by (option_map (node_clock h) o) ≡ is_paused h.diary s
      by_node None q =
          let never : false ≡ true = sym (none_held s h.nodes q) ∙ found_held is_element s h.nodes known in cc
      by_node (Some n) q =
          let same = serial_is s n q in
          ap (λ t. t && is_paused h.diary n.serial)
          (known_element h.nodes (place s h.nodes) n are.document.distinct (sym (find_at (λ (m : Node). m.serial == s) h.nodes) ∙ q) (ap (λ x. is_some (node_at (elements h.nodes) x)) same ∙ known))
          ∙ ap (is_paused h.diary) same

  -- ---- the clock of its time parent

  parent_clock : (s : ℕ) (A : Type 0) (f : Option NodeClock → A) (g : Option Node → A) → f None ≡ g None → ((m p : Node) → m.serial ≡ p.serial → f (Some (node_clock h m)) ≡ g (Some p)) → f (parent_at clocks s) ≡ g (time_parent h.nodes s)
  parent_clock s A f g none some =
      ap (λ c. f (option_and_then (λ (n : NodeClock). at_place clocks n.parent) c)) (clock_is s) ∙ by_node (node_at h.nodes s) refl
    where
      by_parent : (n : Node) → slice_get h.nodes (place s h.nodes) ≡ Some n → (o : Option Node) → time_parent h.nodes n.serial ≡ o → f (at_place clocks (parent_place h.nodes n.serial)) ≡ g o
      by_parent n at None q = ap (λ k. f (at_place clocks k)) (no_parent_place h.nodes n.serial q) ∙ none
      by_parent n at (Some p) q =
          let found : IsParentAt h.nodes (place s h.nodes) n.serial p.serial = parent_at_place h.nodes (place s h.nodes) n p are.document.distinct at q in
          ap (λ k. f (at_place clocks k)) found.is_place
          ∙ ap (λ cs. f (slice_get cs found.parent)) are.value
          ∙ ap f (slice_get-map (node_clock h) h.nodes found.parent ∙ ap (option_map (node_clock h)) found.found.at)
          ∙ some found.found.node p found.found.serial

      by_node : (o : Option Node) → node_at h.nodes s ≡ o → f (option_and_then (λ (n : NodeClock). at_place clocks n.parent) (option_map (node_clock h) o)) ≡ g (time_parent h.nodes s)
      by_node None q = none ∙ ap (λ c. g (find is_element (drop 1 c))) (sym (no_chain h.nodes s q))
      by_node (Some n) q =
          by_parent n (sym (find_at (λ (m : Node). m.serial == s) h.nodes) ∙ q) (time_parent h.nodes n.serial) refl
          ∙ ap (λ x. g (time_parent h.nodes x)) (serial_is s n q)

  pub outer_told : (s : ℕ) (m : ℤ) → last_moment h.diary ≤ℤ m → shown_by (parent_at clocks s) m ≡ outer h s m
  outer_told s m le =
      parent_clock s ℤ (λ c. shown_by c m) (λ p. outer_under h p m) refl
      (λ n p same. sym (run_later h n.serial m are.lawful le) ∙ ap (λ x. run h x m) same)

  pub outer_stands_told : (s : ℕ) → stands_by (parent_at clocks s) ≡ outer_stands h s
  outer_stands_told s =
      parent_clock s Bool stands_by (stands_under h) refl
      (λ n p same. standing (stands h n.serial) (run h n.serial (last_moment h.diary)) (last_moment h.diary) ∙ ap (stands h) same)

-- ---- a value between two clocks, of which none stands

pub running : (stand : Bool) (value told : ℤ) → stand ≡ false → value ≡ told → Some value ≡ cond stand None (Some told)
running true value told run is = cc
running false value told run is = ap Some is
