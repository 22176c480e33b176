use Rattle.std.proofs.Common.{◌≡◌, ◌+◌, [], length}
use Rattle.smil_grammar.specs.Nodes.{quote_pieces}
use Rattle.smil_wall.specs.Rewriting.{parts_rewritten, with_front}
use Rattle.smil_wall.proofs.rewriting.Rewriter.put_line.Given as goal

abbrev pub invariant-parts : goal.invariant-parts
invariant-parts l = record {
  within : l.place + length l.left ≡ length l.line;
  same : with_front l.out (parts_rewritten l.self.root.now l.self.start l.place l.before (quote_pieces l.left)) ≡ with_front l.fn.out (parts_rewritten l.self.root.now l.self.start 0 [] (quote_pieces l.line));
}

abbrev pub decreases-parts : goal.decreases-parts
decreases-parts l = length l.left
