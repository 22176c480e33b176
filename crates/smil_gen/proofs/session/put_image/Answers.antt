use Rattle.std.specs.Prelude.{◌+◌, ◌%◌, codes, decimal}
use Rattle.std.proofs.lemmas.Result.{on_ok_weaker}
use Rattle.smil_gen.proofs.PiecesJoined.{joined_twice}
use Rattle.smil_gen.proofs.session.put_image.Goals as goal

pub returns : goal.returns
returns c = on_ok_weaker c.append.result (joined_twice c.args.out.now (codes "    img id=\"p") (decimal c.args.k) (codes "\" dur=\"") (decimal (1 + c.args.k % 4)) (codes "s\" end=\"click\"\n") c.put.new.out c.put-2.new.out c.append.new.self c.in_ok-put.ensures c.in_ok-put-2.ensures) c.append.ensures.ok
