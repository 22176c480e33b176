use Rattle.std.proofs.Common.{◌≡◌, ℕ, take}
use Rattle.std.specs.Prelude.{◌||◌, bytes_eq}
use Rattle.std.specs.HashMap.{get_by}
use Rattle.smil_model.specs.document.Closure.{has}
use Rattle.smil_graph.specs.Places.{leads_to_place, named_off_level}
use Rattle.smil_graph.proofs.followers.push_unlooped.Given as goal

abbrev pub invariant-loop-item : goal.invariant-loop-item
invariant-loop-item l = (i : ℕ) → has l.row i ≡ (has l.fn.row i || leads_to_place (named_off_level l.loops.levels.now (λ id. get_by (λ k. bytes_eq id k.now) l.loops.ids.now) l.place) (take l.item-index l.item-items) i)
