use Rattle.smil_outline.proofs.LargerLimits.{line_same, outline_same}
use Rattle.smil_outline.proofs.again.outlines_migrate.Goals as goal

pub returns : goal.returns
returns c = record {
  lines = λ small large outline line below m. line_same small large below outline line m;
  outlines = λ small large lines below m. outline_same small large below lines m;
}
