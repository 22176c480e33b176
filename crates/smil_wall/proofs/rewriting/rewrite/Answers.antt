use Rattle.smil_wall.proofs.RewriteColumns.{line_within}
use Rattle.smil_wall.proofs.rewriting.rewrite.Goals as goal

pub returns-in-Some-clause-within : goal.returns-in-Some-clause-within
returns-in-Some-clause-within c = line_within c.in-Some.root.now _ c.args.line.now c.line.result c.line.ensures
