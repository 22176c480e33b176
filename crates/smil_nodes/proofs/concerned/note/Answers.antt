use Rattle.std.proofs.Common.{sym}
use Rattle.std.proofs.lemmas.Result.{on_ok_weaker}
use Rattle.smil_nodes.proofs.RanksListed.{one_noted}
use Rattle.smil_nodes.proofs.concerned.note.Goals as goal

pub returns-in-Some : goal.returns-in-Some
returns-in-Some c =
    on_ok_weaker c.put.result
    (one_noted c.args.graph.now.order c.args.serial c.in-Some.rank c.args.agenda.now c.put.new.self (sym c.in-Some.ensures))
    c.put.ensures.ok
