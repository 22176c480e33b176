-- Clocks that are reset.
use Rattle.std.proofs.Common.{◌≡◌, refl, sym, ◌∙◌, ap, ℕ, suc, List, [], ◌∷◌, map, Option, Some, arith}
use Rattle.std.specs.Prelude.{◌==◌, cond, option_map}
use Rattle.std.specs.List.{position}
use Rattle.std.proofs.lemmas.List.Elements.{All-nil, All-cons}
use Rattle.smil_model.specs.declared.document.Node.{Node}
use Rattle.smil_model.specs.diary.Diary.{History, up_to}
use Rattle.smil_model.proofs.FirstPlaces.{position_cons}
use Rattle.smil_stretch.specs.declared.clock.NodeClock.{NodeClock}
use Rattle.smil_stretch.specs.Clocks.{AreClocksOf, node_clock}
use Rattle.smil_stretch.specs.NodeClocks.{AllFit, ArePlacesOf, Fits, idle_clock, reset_clock}
use Rattle.smil_stretch.proofs.IdleClocks.{idle_clocks_of}

-- each keeps its place
reset_place : (s : ℕ) (clocks : List NodeClock) → position (λ (n : NodeClock). n.serial == s) (map reset_clock clocks) ≡ position (λ (n : NodeClock). n.serial == s) clocks
reset_place s [] = refl
reset_place s (n ∷ ns) =
    position_cons (λ (m : NodeClock). m.serial == s) (reset_clock n) (map reset_clock ns)
    ∙ ap (λ o. cond (n.serial == s) (Some 0) (option_map suc o)) (reset_place s ns)
    ∙ sym (position_cons (λ (m : NodeClock). m.serial == s) n ns)

pub reset_places : (found : ℕ → Option ℕ) (clocks : List NodeClock) → ArePlacesOf found clocks → ArePlacesOf found (map reset_clock clocks)
reset_places found clocks are = λ s. are s ∙ sym (reset_place s clocks)

pub reset_fit : (clocks : List NodeClock) → AllFit (map reset_clock clocks)
reset_fit [] = All-nil (λ (n : NodeClock). Fits n.clock)
reset_fit (n ∷ ns) = All-cons (λ (m : NodeClock). Fits m.clock) (reset_clock n) (map reset_clock ns) (record { low = omega arith; high = omega arith }) (reset_fit ns)

-- they are those of the document to which nothing has happened yet
reset_idle : (h : History) (ns : List Node) → map reset_clock (map (node_clock h) ns) ≡ map (idle_clock h.nodes) ns
reset_idle h [] = refl
reset_idle h (n ∷ ns) = ap (λ cs. idle_clock h.nodes n ∷ cs) (reset_idle h ns)

pub reset_of : (clocks now : List NodeClock) (h k : History) → now ≡ map reset_clock clocks → AreClocksOf clocks h → k.nodes ≡ h.nodes → AreClocksOf now (up_to k [])
reset_of clocks now h k is are same =
    idle_clocks_of now (up_to k []) (record { nodes = h.nodes; next = are.next }) [] are.document
    (record { same_nodes = same; same_diary = refl; lawful = record { moments = refl; steps = tt } })
    (is ∙ ap (map reset_clock) are.value ∙ reset_idle h h.nodes)
