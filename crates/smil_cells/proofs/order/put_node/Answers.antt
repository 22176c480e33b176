use Rattle.std.proofs.lemmas.Result.{on_ok_weaker}
use Rattle.smil_cells.proofs.ElementsByPlace.{none_there}
use Rattle.smil_cells.proofs.ElementsTouched.{node_only, only_same}
use Rattle.smil_cells.proofs.order.put_node.Goals as goal

pub returns-in-None-clause-put : goal.returns-in-None-clause-put
returns-in-None-clause-put c = λ known. absurd (none_there c.args.tree.now.nodes c.args.tree.now.next c.valid.ensures.numbered c.args.serial c.in-None.ensures known)

pub returns-in-None-clause-only : goal.returns-in-None-clause-only
returns-in-None-clause-only c = only_same c.args.tree.now.nodes c.args.places.now _

pub returns-in-Some-clause-only : goal.returns-in-Some-clause-only
returns-in-Some-clause-only c =
    on_ok_weaker c.put.result
    (node_only c.args.tree.now.nodes c.args.tree.now.next c.valid.ensures.numbered c.args.serial c.in-Some.place c.args.places.now c.put.new.self c.in-Some.ensures)
    c.put.ensures.ok
