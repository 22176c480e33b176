use Rattle.std.proofs.lemmas.Result.{on_ok_weaker}
use Rattle.smil_instances.proofs.intake.note_losses.Goals as goal

pub returns-clause-noted : goal.returns-clause-noted
returns-clause-noted c = on_ok_weaker c.note_each.result (λ each. λ log place is. each log) c.note_each.ensures.each
