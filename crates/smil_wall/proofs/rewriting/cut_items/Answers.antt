use Rattle.smil_lexis.proofs.CutPieces.{cut_says}
use Rattle.smil_wall.proofs.rewriting.cut_items.Goals as goal

pub returns : goal.returns
returns c = let s = cut_says 59 (λ cut. (cut.0.now, cut.1.now)) c.args.text.now c.cut.result c.cut.ensures in record { pieces = s.0; length = s.1 }
