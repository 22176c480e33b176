use Rattle.std.proofs.Common.{◌≡◌, None, take}
use Rattle.smil_graph.specs.Graph.{document_of}
use Rattle.smil_past.proofs.past.Past.revised_by.Given as goal

-- the past by the first entries
abbrev pub invariant-loop-entry : goal.invariant-loop-entry
invariant-loop-entry l = l.past ≡ record { document = document_of l.fn.revised.graph; log = l.fn.log; diary = take l.entry-index l.entries; marked = None }
