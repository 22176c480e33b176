-- What a pause or its end makes of the clocks of a history.
use Rattle.std.proofs.Common.{◌≡◌, refl, sym, ◌∙◌, ap, subst, ℕ, suc, ◌+◌, ◌<◌, List, [], ◌∷◌, ◌++◌, Option, Some, None, Bool, true, false, length, arith}
use Rattle.std.specs.Prelude.{cond, not, pos, ◌==◌, ◌||◌, ◌≤ℤ◌, nat_lt, map, set, slice_get, option_map, is_some}
use Rattle.std.specs.List.{list_any, position, position_or_len}
use Rattle.std.proofs.lemmas.Bool.{ltb-true, lt-ltb}
use Rattle.std.proofs.lemmas.List.{length-map}
use Rattle.std.proofs.lemmas.List.Elements.{All-nil, All-cons}
use Rattle.std.proofs.lemmas.List.Sums.{fold_push}
use Rattle.std.proofs.lemmas.Option.{slice_get-map, same_Some}
use Rattle.smil_model.specs.declared.diary.Entry.{Entry}
use Rattle.smil_model.specs.declared.document.Node.{Node}
use Rattle.smil_model.specs.declared.times.TheConstants.{HORIZON}
use Rattle.smil_model.specs.document.Document.{is_element}
use Rattle.smil_model.specs.diary.Diary.{History, with_entry, last_moment}
use Rattle.smil_model.specs.diary.Lawful.{has_element, IsLawful}
use Rattle.smil_laws.proofs.NumberedTrees.{ordered}
use Rattle.smil_laws.proofs.ListMembers.{found_held}
use Rattle.smil_stretch.specs.declared.clock.NodeClock.{NodeClock}
use Rattle.smil_stretch.specs.Clocks.{node_clock, clocks_of, AreClocksOf}
use Rattle.smil_model.specs.Times.{IsMoment}
use Rattle.smil_model.proofs.NumberOrders.{le_from}
use Rattle.smil_stretch.specs.NodeClocks.{Fits, AllFit, ArePlacesOf, IsTurned, Turns}
use Rattle.smil_stretch.proofs.ClockAtMoment.{IsTimed, timed_of, clock_fits}
use Rattle.smil_stretch.proofs.NodePlaces.{place, IsFound, found_at}
use Rattle.smil_stretch.proofs.ClocksTurned.{set_flag, is_turned}

-- the moment of a lawful entry
pub entry_moment : (h : History) (y : Entry) → IsLawful (with_entry h y) → IsMoment y.moment
entry_moment h y lawful =
    let times : IsTimed (pos 0) (h.diary ++ y ∷ []) = timed_of (with_entry h y) lawful in
    let last : last_moment (h.diary ++ y ∷ []) ≡ y.moment = fold_push (λ before (x : Entry). x.moment) (pos 0) h.diary y in
    record {
      low = subst (λ m. pos 0 ≤ℤ m) last (le_from (pos 0) (last_moment (h.diary ++ y ∷ [])) times.low);
      high = subst (λ m. m ≤ℤ HORIZON) last (le_from (last_moment (h.diary ++ y ∷ [])) HORIZON times.high);
    }

-- ---- places

clock_place : (h : History) (s : ℕ) (ns : List Node) → position_or_len (λ (c : NodeClock). c.serial == s) (map (node_clock h) ns) ≡ place s ns
clock_place h s [] = refl
clock_place h s (n ∷ ns) = ap (λ k. cond (not (n.serial == s)) (1 + k) 0) (clock_place h s ns)

pub clock_position : (h : History) (s : ℕ) (ns : List Node) → position (λ (c : NodeClock). c.serial == s) (map (node_clock h) ns) ≡ cond (nat_lt (place s ns) (length ns)) (Some (place s ns)) None
clock_position h s ns =
    ap (λ k. cond (nat_lt k (length (map (node_clock h) ns))) (Some k) None) (clock_place h s ns)
    ∙ ap (λ l. cond (nat_lt (place s ns) l) (Some (place s ns)) None) (length-map ns (node_clock h))

pub places_same : (found : ℕ → Option ℕ) (h k : History) (ns : List Node) → ArePlacesOf found (map (node_clock h) ns) → ArePlacesOf found (map (node_clock k) ns)
places_same found h k ns are = λ s. are s ∙ clock_position h s ns ∙ sym (clock_position k s ns)

pub all_fit : (h : History) (ns : List Node) → IsLawful h → AllFit (map (node_clock h) ns)
all_fit h [] lawful = All-nil (λ (c : NodeClock). Fits c.clock)
all_fit h (n ∷ ns) lawful = All-cons (λ (c : NodeClock). Fits c.clock) (node_clock h n) (map (node_clock h) ns) (clock_fits h n.serial lawful) (all_fit h ns lawful)

-- an element of the document has a place
inside : (s : ℕ) (ns : List Node) → list_any (λ (n : Node). n.serial == s) ns ≡ true → place s ns < length ns
inside s [] q = cc
inside s (n ∷ ns) q = step (n.serial == s) q (inside s ns)
  where
    step : (t : Bool) → (t || list_any (λ (m : Node). m.serial == s) ns) ≡ true → (list_any (λ (m : Node). m.serial == s) ns ≡ true → place s ns < length ns) → cond (not t) (1 + place s ns) 0 < suc (length ns)
    step true r later = omega arith
    step false r later = omega (arith, later r)

pub known_place : (clocks : List NodeClock) (h : History) (s : ℕ) → AreClocksOf clocks h → has_element h.nodes s ≡ true → is_some (position (λ (c : NodeClock). c.serial == s) clocks) ≡ true
known_place clocks h s are known =
    ap (λ cs. is_some (position (λ (c : NodeClock). c.serial == s) cs)) are.value
    ∙ ap is_some (clock_position h s h.nodes)
    ∙ ap (λ t. is_some (cond t (Some (place s h.nodes)) None)) (lt-ltb (place s h.nodes) (length h.nodes) (inside s h.nodes (found_held is_element s h.nodes known)))

place_is : (h : History) (s k : ℕ) → Some k ≡ position (λ (c : NodeClock). c.serial == s) (clocks_of h) → IsFound h.nodes s k
place_is h s k q = by_test (nat_lt (place s h.nodes) (length h.nodes)) refl (q ∙ clock_position h s h.nodes)
  where
    by_test : (t : Bool) → nat_lt (place s h.nodes) (length h.nodes) ≡ t → Some k ≡ cond t (Some (place s h.nodes)) None → IsFound h.nodes s k
    by_test true e r = subst (IsFound h.nodes s) (sym (same_Some k (place s h.nodes) r)) (found_at s h.nodes (ltb-true (place s h.nodes) (length h.nodes) e))
    by_test false e r = cc

-- ---- the clocks turned

module _ (clocks : List NodeClock) (h : History) (y : Entry) (who k : ℕ) (paused : Bool) (e : NodeClock) (are : AreClocksOf clocks h) (lawful : IsLawful (with_entry h y)) (turns : Turns h y who paused) (at : Some k ≡ position (λ (c : NodeClock). c.serial == who) clocks) (here : slice_get clocks k ≡ Some e) where
  pub turned_from : IsTurned k y.moment (set clocks k (record e { paused = paused })) (clocks_of (with_entry h y))
  turned_from =
      let found = place_is h who k (at ∙ ap (position (λ (c : NodeClock). c.serial == who)) are.value) in
      let own : Turns h y found.node.serial paused = subst (λ s. Turns h y s paused) (sym found.serial) turns in
      let is : node_clock h found.node ≡ e =
      same_Some (node_clock h found.node) e
      (sym (slice_get-map (node_clock h) h.nodes k ∙ ap (option_map (node_clock h)) found.at) ∙ ap (λ cs. slice_get cs k) (sym are.value) ∙ here) in
      let o = ordered (record { nodes = h.nodes; next = are.next }) are.document in
      subst (λ before. IsTurned k y.moment before (clocks_of (with_entry h y)))
      (sym
      (ap (λ cs. set cs k (record e { paused = paused })) are.value
      ∙ ap (λ c. set (clocks_of h) k (record c { paused = paused })) (sym is)
      ∙ set_flag h y k found.node paused o are.document.tree are.lawful lawful found.at own))
      (is_turned h y k found.node paused o are.document.tree are.lawful lawful found.at own)

pub clocks_with : (clocks : List NodeClock) (h : History) (y : Entry) → AreClocksOf clocks h → IsLawful (with_entry h y) → (now : List NodeClock) → now ≡ clocks_of (with_entry h y) → AreClocksOf now (with_entry h y)
clocks_with clocks h y are lawful now is = record { next = are.next; document = are.document; lawful = lawful; value = is }
