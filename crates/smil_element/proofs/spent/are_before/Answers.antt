use Rattle.std.proofs.Common.{◌≡◌, sym, true, w64, rules}
use Rattle.std.specs.Prelude.{int_le, not}
use Rattle.std.proofs.lemmas.Int.{to_z-of_z}
use mir.Val.{SFits}
use Rattle.smil_model.specs.declared.times.Time.TheVariants.{At}
use Rattle.smil_model.specs.interval.Intervals.{after_end}
use Rattle.smil_element.proofs.AbsentIntervals.{before_end, last_from, without}
use Rattle.smil_element.proofs.spent.are_before.Goals as goal

pub returns-in-Some : goal.returns-in-Some
returns-in-Some c = λ q begin.
    let y = c.in-Some.begin.now in
    let fits : SFits w64 y = search rules in
    let same = to_z-of_z w64 y fits in
    let whole = to_z-of_z w64 c.args.finish c.ranges.finish in
    let told = c.is_before.ensures in
    let before : not (int_le c.args.finish y) ≡ true = cc in
    last_from (after_end begin (At c.args.finish)) c.args.begins.now y c.requires (sym c.in-Some.ensures.value) (before_end begin c.args.finish y before)

pub returns-in-None : goal.returns-in-None
returns-in-None c = λ q begin. without (after_end begin (At c.args.finish)) c.args.begins.now (sym c.in-None.ensures.value)
