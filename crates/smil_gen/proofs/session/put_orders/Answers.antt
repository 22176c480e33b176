use Rattle.std.specs.Prelude.{codes, decimal}
use Rattle.std.proofs.lemmas.Result.{on_ok_weaker}
use Rattle.smil_gen.proofs.PiecesJoined.{joined}
use Rattle.smil_gen.proofs.session.put_orders.Goals as goal

pub returns : goal.returns
returns c = on_ok_weaker c.append.result (joined c.args.out.now (codes "g advance 1s\ng event p") (decimal c.args.k) (codes " click\n") c.put.new.out c.append.new.self c.in_ok-put.ensures) c.append.ensures.ok
