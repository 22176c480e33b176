use Rattle.std.specs.Prelude.{int_le}
use mir.Syntax.{w64}
use mir.Val.{of_z, to_z}
use Rattle.smil_interval.proofs.SearchParts.{up_to_parted}
use Rattle.smil_interval.proofs.rising.after.Goals as goal

pub passing-requires : goal.passing-requires
passing-requires c = up_to_parted (to_z w64 (of_z w64 c.args.value)) c.args.begins.now c.requires

pub returns-clause-rising : goal.returns-clause-rising
returns-clause-rising c = c.passing.ensures.rising int_le c.requires
