use Rattle.std.proofs.Common.{arith}
use Rattle.tenphsar.specs.Records.{record_of}
use Rattle.tenphsar.proofs.PiecesCopied.{copied-more}
use Rattle.tenphsar.proofs.records.copy.Goals as goal

pub loop-i-preserved : goal.loop-i-preserved
loop-i-preserved c =
    let loop = c.loop-i in
    let more = copied-more record_of c.args.changes.now loop.out c.args.out.now loop.i _ c.of.result c.of.ensures
    (omega (arith, c.min-count.ensures, c.loop-i-test.true)) (omega (arith, c.min-count.ensures, c.loop-i-test.true, loop.invariant.same)) loop.invariant.front loop.invariant.back loop.invariant.same
    in
    record { front = more.0; back = more.1; same = more.2 }
