use Rattle.std.proofs.Common.{refl, ◌∙◌, arith}
use Rattle.smil_wall.proofs.RewrittenLines.{pieces_on}
use Rattle.smil_wall.proofs.rewriting.Rewriter.put_pieces.Goals as goal

pub pieces-preserved : goal.pieces-preserved
pieces-preserved c = record {
  within = omega (arith, c.pieces.invariant.within, c.in-Some.ensures.length);
  same = pieces_on c.args.self.now.root.now c.args.self.now.start c.pieces.from _ c.in-Some.piece.now c.in-Some.rest.now c.pieces.left.now c.pieces.out c.put_piece.new.out c.push.new.self
      refl c.in_ok-push.ensures.ok c.in-Some.ensures.pieces c.in_ok-put_piece.ensures
      ∙ c.pieces.invariant.same;
}
