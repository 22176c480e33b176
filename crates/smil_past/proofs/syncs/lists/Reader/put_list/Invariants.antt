use Rattle.std.proofs.Common.{◌≡◌, ◌≤◌, ◌++◌, length, take}
use Rattle.std.specs.Prelude.{filter_map}
use Rattle.smil_model.specs.declared.document.Node.{Node}
use Rattle.smil_past.specs.Syncs.{IsListOf, sync_of}
use Rattle.smil_past.proofs.syncs.lists.Reader.put_list.Given as goal

-- what the first items wait for, after what was there
abbrev pub invariant-loop-at : goal.invariant-loop-at
invariant-loop-at l = record {
  told : (e : Node) → IsListOf l.self.graph.now.nodes l.place l.who l.side e l.fn.items → l.syncs.items ≡ l.initial.syncs.items ++ filter_map (sync_of l.self.graph.now.nodes e.serial) (take l.at l.fn.items);
  most : length l.initial.syncs.items ≤ length l.syncs.items;
}
