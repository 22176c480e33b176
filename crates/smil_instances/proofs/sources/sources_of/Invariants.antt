use Rattle.std.proofs.Common.{◌≡◌, take, map}
use Rattle.smil_instances.specs.Sources.{source_of}
use Rattle.smil_instances.proofs.sources.sources_of.Given as goal

-- the sources of the first items
abbrev pub invariant-loop-item : goal.invariant-loop-item
invariant-loop-item l = l.sources.items ≡ map (source_of l.element.tree.now.nodes l.element.who) (take l.item-index l.fn.items)
