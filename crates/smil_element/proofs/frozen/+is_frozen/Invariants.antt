use Rattle.smil_element.proofs.FrozenAncestors.{height_of}
use Rattle.smil_element.proofs.frozen.+is_frozen.Given as goal

abbrev pub decreases-is_frozen : goal.decreases-is_frozen
decreases-is_frozen l = height_of l.past.now.document.nodes l.who
