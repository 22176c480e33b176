use Rattle.std.proofs.Common.{◌∙◌, ap}
use Rattle.smil_model.specs.Rising.{taken_out}
use Rattle.smil_model.proofs.RisingLists.{taken_put}
use Rattle.smil_instance_rows.proofs.item_times.add.Goals as goal

pub returns-in-Err-clause-sorted_stays : goal.returns-in-Err-clause-sorted_stays
returns-in-Err-clause-sorted_stays g c =
    let le = g.T.Instant.at_most in
    c.take_out.ensures ∙ ap (taken_out le _) c.in_ok-put.ensures.ok ∙ taken_put le g.T.Instant.order c.in-Some.value c.args.sorted.now
