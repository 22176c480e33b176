use Rattle.smil_worked.proofs.MovedBegin.{moves_begin}
use Rattle.smil_worked.proofs.quiet_edit.Goals as goal

pub returns : goal.returns
returns c = moves_begin
