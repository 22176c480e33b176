use Rattle.std.proofs.Common.{◌≡◌, ◌+◌, [], length}
use Rattle.smil_grammar.specs.Nodes.{quote_pieces}
use Rattle.smil_wall.specs.Rewriting.{value_place}
use Rattle.smil_wall.proofs.roots.value_place.Given as goal

abbrev pub invariant-parts : goal.invariant-parts
invariant-parts l = record {
  within : l.place + length l.left ≡ length l.line;
  same : value_place l.name l.place l.before (quote_pieces l.left) ≡ value_place l.name 0 [] (quote_pieces l.line);
}

abbrev pub decreases-parts : goal.decreases-parts
decreases-parts l = length l.left
