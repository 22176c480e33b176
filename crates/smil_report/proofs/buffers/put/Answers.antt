use Rattle.std.proofs.Common.{arith}
use Rattle.std.proofs.lemmas.Slice.{drop-put_mid}
use Rattle.smil_report.proofs.buffers.put.Goals as goal

-- the copy ends at the place that is given
pub returns-clause-rest : goal.returns-clause-rest
returns-clause-rest c = search (arith, drop-put_mid)
