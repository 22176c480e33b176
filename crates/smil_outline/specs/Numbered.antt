-- Serials from 1 in document order.
use Rattle.std.specs.Prelude.{ℕ, suc, ◌+◌, List, length, map, position, ◌==◌, option_map, unwrap_or}
use Rattle.smil_model.specs.declared.document.Node.{Node}
use Rattle.smil_model.specs.document.Document.{Document}

-- the position of the node with this serial, from 1, and 0 where there is none
abbrev pub number_of : List Node → ℕ → ℕ
number_of nodes serial =
    unwrap_or (option_map suc (position (λ (n : Node). n.serial == serial) nodes)) 0

-- the document of these nodes with their positions as serials
abbrev pub renumbered : List Node → Document
renumbered nodes = record {
  nodes = map (λ (n : Node). record n {
    serial = number_of nodes n.serial;
    parent = number_of nodes n.parent;
  }) nodes;
  next = length nodes + 1;
}
