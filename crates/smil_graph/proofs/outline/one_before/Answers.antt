use Rattle.std.proofs.Common.{◌<◌, sym, ◌∙◌, arith}
use Rattle.smil_graph.proofs.PlacesInOrder.{found_before, one_back_is}
use Rattle.smil_graph.proofs.outline.one_before.Goals as goal

pub returns-in-Ok : goal.returns-in-Ok
returns-in-Ok c =
    let high : 0 < c.in-Ok.at = omega arith in
    one_back_is c.args.row.now c.in-Ok.at high ∙ sym (rw c.in-Ok.is at (found_before c.args.place c.args.row.now c.binary_search.result c.requires c.binary_search.ensures.position))

pub returns-in-Err : goal.returns-in-Err
returns-in-Err c = sym (rw c.in-Err.is at (found_before c.args.place c.args.row.now c.binary_search.result c.requires c.binary_search.ensures.position))
