use Rattle.std.proofs.Common.{sym}
use mathlib.Core.Bool.{or-false}
use Rattle.smil_model.specs.document.Closure.{has}
use Rattle.smil_graph.proofs.FollowersByPlace.{ranks_more}
use Rattle.smil_graph.proofs.tables.push_ranks.Goals as goal

pub loop-place-init : goal.loop-place-init
loop-place-init c = λ order are r. sym (or-false (has c.args.row.now r))

pub loop-place-preserved : goal.loop-place-preserved
loop-place-preserved c = λ order are r.
    ranks_more c.args.tree.now.nodes order c.args.places.now c.loop-place.place-index r c.rank_at.result (has c.args.row.now r) (has c.loop-place.row r) (has c.push_one.new.row r) c.loop-place-test.true (c.rank_at.ensures order are) (c.loop-place.invariant order are r) (c.in_ok-push_one.ensures r)
