use Rattle.std.proofs.Common.{ap, ◌∙◌, length, min}
use Rattle.tenphsar.proofs.PiecesCopied.{copies-pieces}
use Rattle.tenphsar.proofs.calls.copy_pieces.Goals as goal

pub returns : goal.returns
returns c =
    copies-pieces c.args.first.now c.args.last.now c.args.out.now c.put-copied.new.out c.put.new.out c.args.from c.min.result c.min-behind.result c.put-copied.result c.put.result
    c.min.ensures (c.min-behind.ensures ∙ ap (λ x. min x (length c.args.last.now)) c.saturating_sub.ensures) c.put-copied.ensures c.put.ensures
