use Rattle.smil_lexis.proofs.CutPieces.{cut_says}
use Rattle.smil_top.proofs.loads.first_line.Goals as goal

pub returns : goal.returns
returns c = let s = cut_says 10 (λ cut. (cut.0.now, cut.1.now)) c.args.text.now c.cut.result c.cut.ensures in record { lines = s.0; length = s.1 }
