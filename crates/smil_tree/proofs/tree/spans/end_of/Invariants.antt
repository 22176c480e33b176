use Rattle.std.proofs.Common.{◌≡◌, ◌-◌, None, IsSome, length}
use Rattle.smil_model.specs.document.Document.{node_at}
use Rattle.smil_model.specs.document.Edits.{child_place, place_in}
use Rattle.smil_tree.proofs.tree.spans.end_of.Given as goal

abbrev pub invariant-loop-last : goal.invariant-loop-last
invariant-loop-last l = record {
  known : IsSome (node_at l.nodes l.at);
  same : child_place l.nodes l.at None ≡ child_place l.nodes l.fn.serial None;
}

abbrev pub decreases-loop-last : goal.decreases-loop-last
decreases-loop-last l = length l.nodes - place_in l.nodes l.at
