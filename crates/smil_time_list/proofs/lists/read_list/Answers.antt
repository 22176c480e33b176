use Rattle.std.proofs.Common.{true, false}
use Rattle.smil_time_list.proofs.ListRoundTrip.{given_can_write}
use Rattle.smil_time_list.proofs.lists.read_list.Goals as goal

pub returns-then-matches-clause-can_write : goal.returns-then-matches-clause-can_write
returns-then-matches-clause-can_write c = given_can_write true c.args.bytes.now c.plain.result c.plain.ensures

pub returns-else-seq_child-clause-can_write : goal.returns-else-seq_child-clause-can_write
returns-else-seq_child-clause-can_write c = given_can_write false c.args.bytes.now c.few.result c.few.ensures
