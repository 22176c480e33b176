use Rattle.smil_outline.proofs.PrintedBytes.{outline_cut, outline_shown}
use Rattle.smil_outline.proofs.again.outline_lines.Goals as goal

pub returns : goal.returns
returns c = record { cut = outline_cut; shown = outline_shown }
