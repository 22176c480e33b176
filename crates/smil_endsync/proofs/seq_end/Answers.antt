use Rattle.std.proofs.Common.{sym, ◌∙◌}
use Rattle.smil_endsync.proofs.ChildEndFolds.{seq_end_at}
use Rattle.smil_endsync.proofs.seq_end.Goals as goal

pub returns-in-Some : goal.returns-in-Some
returns-in-Some c = c.unwrap_or.ensures ∙ sym (seq_end_at c.args.ends.now _ (sym c.in-Some.ensures.value))
