use Rattle.std.proofs.Common.{◌≡◌, [], length}
use Rattle.smil_grammar.specs.Nodes.{quote_pieces}
use Rattle.smil_wall.specs.Rewriting.{have_wall}
use Rattle.smil_wall.proofs.rewriting.have_wall.Given as goal

abbrev pub invariant-parts : goal.invariant-parts
invariant-parts l = have_wall l.before (quote_pieces l.left) ≡ have_wall [] (quote_pieces l.line)

abbrev pub decreases-parts : goal.decreases-parts
decreases-parts l = length l.left
