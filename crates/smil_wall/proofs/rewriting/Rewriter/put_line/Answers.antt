use Rattle.std.proofs.Common.{refl, ◌∙◌, arith}
use Rattle.smil_wall.proofs.RewrittenLines.{parts_on}
use Rattle.smil_wall.proofs.rewriting.Rewriter.put_line.Goals as goal

pub parts-preserved : goal.parts-preserved
parts-preserved c = record {
  within = omega (arith, c.parts.invariant.within, c.in-Some.ensures.length);
  same = parts_on c.args.self.now.root.now c.args.self.now.start c.parts.place _ c.parts.before.now c.after-before.result.now c.in-Some.part.now c.in-Some.rest.now c.parts.left.now c.parts.out c.put_part.new.out c.push.new.self
      refl c.after-before.ensures c.in_ok-push.ensures.ok c.in-Some.ensures.pieces c.in_ok-put_part.ensures
      ∙ c.parts.invariant.same;
}
