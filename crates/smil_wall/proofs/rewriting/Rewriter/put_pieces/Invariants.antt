use Rattle.std.proofs.Common.{◌≡◌, ◌+◌, length}
use Rattle.smil_grammar.specs.Lists.{item_pieces}
use Rattle.smil_wall.specs.Rewriting.{pieces_rewritten, with_front}
use Rattle.smil_wall.proofs.rewriting.Rewriter.put_pieces.Given as goal

abbrev pub invariant-pieces : goal.invariant-pieces
invariant-pieces l = record {
  within : l.from + length l.left ≡ l.place + length l.text;
  same : with_front l.out (pieces_rewritten l.self.root.now l.self.start l.from (item_pieces l.left)) ≡ with_front l.fn.out (pieces_rewritten l.self.root.now l.self.start l.place (item_pieces l.text));
}

abbrev pub decreases-pieces : goal.decreases-pieces
decreases-pieces l = length l.left
