use Rattle.smil_graph.proofs.tables.feeders_of.Goals as goal

pub feeders-requires-clause-parents : goal.feeders-requires-clause-parents
feeders-requires-clause-parents c = rw c.as_slice.ensures.value c.requires.times.above

pub feeders-requires-clause-children : goal.feeders-requires-clause-children
feeders-requires-clause-children c = rw (c.as_slice-2.ensures.value, c.as_slice.ensures.value) c.requires.times.under

pub feeders-requires-clause-previous : goal.feeders-requires-clause-previous
feeders-requires-clause-previous c = rw c.as_slice-3.ensures.value c.requires.times.before
