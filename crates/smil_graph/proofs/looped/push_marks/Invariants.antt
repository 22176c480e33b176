use Rattle.std.proofs.Common.{◌≡◌, ◌++◌, take}
use Rattle.std.specs.Prelude.{map, bytes_eq}
use Rattle.std.specs.HashMap.{get_by}
use Rattle.smil_model.specs.declared.document.Item.{Item}
use Rattle.smil_graph.specs.Places.{is_on_level, named_by}
use Rattle.smil_graph.proofs.looped.push_marks.Given as goal

abbrev pub invariant-loop-item : goal.invariant-loop-item
invariant-loop-item l = l.row ≡ l.fn.row ++ map (λ (item : Item). is_on_level l.loops.levels.now l.place (named_by (λ id. get_by (λ k. bytes_eq id k.now) l.loops.ids.now) item)) (take l.item-index l.item-items)
