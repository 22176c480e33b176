use Rattle.std.proofs.Common.{◌≡◌, ℕ, take}
use Rattle.std.specs.FinMap.{get as place_of}
use Rattle.smil_tree.specs.Places.{place_among}
use Rattle.smil_tree.proofs.nodes.places_of.Given as goal

abbrev pub invariant-loop-place : goal.invariant-loop-place
invariant-loop-place l = (s : ℕ) → place_of l.places s ≡ place_among (take l.place l.nodes) s
