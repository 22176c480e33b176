use Rattle.smil_graph.proofs.tables.time_places.Goals as goal

pub previous_in_seqs-requires-clause-parents : goal.previous_in_seqs-requires-clause-parents
previous_in_seqs-requires-clause-parents c = rw c.as_slice-3.ensures.value c.in_ok-parents.ensures

pub previous_in_seqs-requires-clause-children : goal.previous_in_seqs-requires-clause-children
previous_in_seqs-requires-clause-children c = rw (c.as_slice-4.ensures.value, c.as_slice-3.ensures.value) (rw c.as_slice-2.ensures.value at c.in_ok-children.ensures.children)

pub returns : goal.returns
returns c = record {
  above = c.in_ok-parents.ensures;
  count = c.in_ok-children.ensures.count;
  under = rw c.as_slice-2.ensures.value at c.in_ok-children.ensures.children;
  before = c.in_ok-previous.ensures;
}
