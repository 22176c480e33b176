-- The clock of a time parent, by the place that the clock of a node has.
use Rattle.std.proofs.Common.{◌≡◌, refl, ◌∙◌, ap, ℕ, List, Option, Some, None}
use Rattle.std.specs.Prelude.{option_and_then}
use Rattle.smil_stretch.specs.declared.clock.NodeClock.{NodeClock}
use Rattle.smil_stretch.specs.NodeClocks.{at_place, parent_of}

pub parent_found : (clocks : List NodeClock) (own : Option NodeClock) (place : Option ℕ) (found : Option NodeClock) → place ≡ option_and_then (λ (n : NodeClock). n.parent) own → found ≡ at_place clocks place → found ≡ parent_of clocks own
parent_found clocks own place found place_is found_is = found_is ∙ ap (at_place clocks) place_is ∙ by own
  where
    by : (o : Option NodeClock) → at_place clocks (option_and_then (λ (n : NodeClock). n.parent) o) ≡ option_and_then (λ (n : NodeClock). at_place clocks n.parent) o
    by None = refl
    by (Some n) = refl
