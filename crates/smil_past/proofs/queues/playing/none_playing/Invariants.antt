use Rattle.std.proofs.Common.{◌≡◌, map, false}
use Rattle.smil_tree.proofs.NodeWalks.{Walked}
use Rattle.smil_past.specs.Queues.{playing_line}
use Rattle.smil_past.proofs.queues.playing.none_playing.Given as goal

-- the lists of the nodes so far
abbrev pub invariant-loop-node : goal.invariant-loop-node
invariant-loop-node l = (walk : Walked l.tree.nodes l.node-iterator) × (l.playing.items ≡ map (playing_line l.tree.nodes (λ serial. false)) walk.past)
