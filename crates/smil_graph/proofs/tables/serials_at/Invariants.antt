use Rattle.std.proofs.Common.{◌≡◌, ◌++◌, drop}
use Rattle.smil_graph.specs.Tables.{serials_of_places}
use Rattle.smil_graph.proofs.tables.serials_at.Given as goal

abbrev pub invariant-loop-place : goal.invariant-loop-place
invariant-loop-place l =
    l.serials ++ serials_of_places l.tree.nodes (drop l.place-index l.places) ≡ serials_of_places l.tree.nodes l.places
