use Rattle.std.proofs.Common.{take}
use Rattle.std.specs.List.{list_any}
use Rattle.smil_model.specs.reach.Reach.{is_key_item}
use Rattle.smil_graph.specs.Tables.{AreWithPlace}
use Rattle.smil_graph.proofs.waiting.push_keys.Given as goal

abbrev pub invariant-loop-item : goal.invariant-loop-item
invariant-loop-item l = AreWithPlace (λ key. list_any (is_key_item key) (take l.item-index l.item-items)) l.place l.fn.rows.items l.rows.items
