use Rattle.std.proofs.Common.{w64, arith}
use Rattle.std.specs.Prelude.{int_le}
use mir.Val.{of_z, to_z}
use Rattle.smil_model.specs.declared.times.Time.TheVariants.{At}
use Rattle.smil_model.specs.interval.Intervals.{after_end}
use Rattle.smil_interval.proofs.SearchParts.{before_parted, none_from}
use Rattle.smil_interval.proofs.rising.from_end.Goals as goal

pub passing-requires : goal.passing-requires
passing-requires c =
    before_parted (after_end (to_z w64 (of_z w64 c.args.interval.begin)) (At (to_z w64 (of_z w64 c.in-At.end)))) c.args.begins.now c.requires

pub returns-in-At-clause-rising : goal.returns-in-At-clause-rising
returns-in-At-clause-rising c = c.passing.ensures.rising int_le c.requires

pub returns-in_default : goal.returns-in_default
returns-in_default c = record {
  part = none_from c.args.interval.begin c.args.interval.«end» c.args.begins.now c.in_default.not-At;
  rising = λ i j d before inside. absurd (omega (arith, inside));
}
