use Rattle.std.proofs.Common.{min, subst}
use Rattle.std.specs.Prelude.{drop, map}
use Rattle.tenphsar.specs.Calls.{Copies}
use Rattle.tenphsar.specs.Records.{record_of}
use Rattle.tenphsar.proofs.PiecesCopied.{copies-behind}
use Rattle.tenphsar.proofs.calls.copy_changes.Goals as goal

pub returns : goal.returns
returns c =
    let changes = c.changes-changes.result.now in
    subst (λ cs. Copies c.copy.result (drop c.args.from (map record_of cs)) c.args.out.now c.copy.new.out) c.changes-changes.ensures
    (copies-behind record_of changes c.args.out.now c.copy.new.out c.args.from c.min.result c.copy.result c.min.ensures c.copy.ensures)
