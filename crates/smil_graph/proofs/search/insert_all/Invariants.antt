use Rattle.std.proofs.Common.{◌≡◌, drop, nat_eq}
use Rattle.indexmap.specs.IndexSet.{insert_all}
use Rattle.smil_graph.proofs.search.insert_all.Given as goal

abbrev pub invariant-loop-place : goal.invariant-loop-place
invariant-loop-place l = insert_all nat_eq l.found.keys (drop l.place-index l.places) ≡ insert_all nat_eq l.fn.found.keys l.fn.places
