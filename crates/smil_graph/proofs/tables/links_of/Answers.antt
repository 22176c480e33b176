use Rattle.std.proofs.Common.{length}
use Rattle.smil_graph.specs.Places.{feeds_place}
use Rattle.smil_graph.proofs.GraphTables.{feeds_low, levels_are, rows_stay}
use Rattle.smil_graph.proofs.tables.links_of.Goals as goal

pub levels-requires : goal.levels-requires
levels-requires c = rows_stay (length c.args.tree.now.nodes) (feeds_place c.args.tree.now.nodes) c.in_ok-feeders.feeders c.in_ok-feeders.ensures (λ i j l q. feeds_low c.args.tree.now.nodes i j q)

pub followers-requires-clause-previous : goal.followers-requires-clause-previous
followers-requires-clause-previous c = rw c.as_slice-2.ensures.value c.requires.times.before

pub followers-requires-clause-levels : goal.followers-requires-clause-levels
followers-requires-clause-levels c = rw c.as_slice.ensures.value (levels_are c.args.tree.now.nodes c.requires.tree.distinct c.in_ok-feeders.feeders c.in_ok-levels.levels.items c.in_ok-feeders.ensures c.in_ok-levels.ensures)

pub returns : goal.returns
returns c = record {
  leveled = levels_are c.args.tree.now.nodes c.requires.tree.distinct c.in_ok-feeders.feeders c.in_ok-levels.levels.items c.in_ok-feeders.ensures c.in_ok-levels.ensures;
  headed = c.in_ok-heads.ensures;
  followed = c.in_ok-followers.ensures;
}
