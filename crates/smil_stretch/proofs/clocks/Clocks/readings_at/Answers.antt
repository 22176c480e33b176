use Rattle.std.proofs.Common.{ap, ◌∙◌}
use mir.Syntax.{w64}
use Rattle.std.proofs.lemmas.Int.{to_z-of_z}
use Rattle.smil_stretch.specs.NodeClocks.{parent_of, shown_by, stands_by}
use Rattle.smil_stretch.proofs.ReadingsByClock.{clock_there, run_told, outer_told, stands_told, outer_stands_told}
use Rattle.smil_stretch.proofs.clocks.Clocks.readings_at.Goals as goal

pub returns-clause-own : goal.returns-clause-own
returns-clause-own c = λ h n are le at.
    let clocks = c.args.self.now in
    c.readings_by.ensures.own ∙ ap (shown_by c.at.result) (to_z-of_z w64 c.args.moment c.ranges.moment)
    ∙ ap (λ k. shown_by k c.args.moment) (c.at.ensures.value ∙ clock_there clocks h are c.args.place n at)
    ∙ run_told clocks h are n.serial c.args.moment le

pub returns-clause-outer : goal.returns-clause-outer
returns-clause-outer c = λ h n are le at.
    let clocks = c.args.self.now in
    c.readings_by.ensures.outer ∙ ap (shown_by (parent_of clocks c.at.result)) (to_z-of_z w64 c.args.moment c.ranges.moment)
    ∙ ap (λ k. shown_by (parent_of clocks k) c.args.moment) (c.at.ensures.value ∙ clock_there clocks h are c.args.place n at)
    ∙ outer_told clocks h are n.serial c.args.moment le

pub returns-clause-own_stands : goal.returns-clause-own_stands
returns-clause-own_stands c = λ h n are at.
    let clocks = c.args.self.now in
    c.readings_by.ensures.own_stands
    ∙ ap stands_by (c.at.ensures.value ∙ clock_there clocks h are c.args.place n at)
    ∙ stands_told clocks h are n.serial

pub returns-clause-outer_stands : goal.returns-clause-outer_stands
returns-clause-outer_stands c = λ h n are at.
    let clocks = c.args.self.now in
    c.readings_by.ensures.outer_stands
    ∙ ap (λ k. stands_by (parent_of clocks k)) (c.at.ensures.value ∙ clock_there clocks h are c.args.place n at)
    ∙ outer_stands_told clocks h are n.serial
