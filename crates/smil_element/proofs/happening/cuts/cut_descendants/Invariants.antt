use Rattle.std.proofs.Common.{◌≡◌, ◌++◌}
use Rattle.smil_model.specs.happening.Groups.{at_moment, cut_steps}
use Rattle.smil_element.specs.Parts.{cuts_below}
use Rattle.smil_element.proofs.happening.cuts.cut_descendants.Given as goal

-- what is appended, and the cuts that are left, are all cuts
abbrev pub invariant-loop-node : goal.invariant-loop-node
invariant-loop-node l =
    l.fn.entries.items ++ at_moment l.parts.moment (cuts_below l.parts l.fn.who)
    ≡ l.entries.items ++ at_moment l.parts.moment (cut_steps l.parts.book.now l.node-iterator.iter)
