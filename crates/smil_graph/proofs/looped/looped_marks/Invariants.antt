use Rattle.std.specs.Prelude.{bytes_eq}
use Rattle.std.specs.HashMap.{get_by}
use Rattle.smil_graph.specs.Places.{HaveMarks}
use Rattle.smil_graph.proofs.looped.looped_marks.Given as goal

abbrev pub invariant-loop-place : goal.invariant-loop-place
invariant-loop-place l = HaveMarks l.tree.nodes l.side l.loops.levels.now (λ id. get_by (λ k. bytes_eq id k.now) l.loops.ids.now) l.place l.rows
