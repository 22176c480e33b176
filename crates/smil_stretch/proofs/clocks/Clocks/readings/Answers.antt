use Rattle.std.proofs.Common.{ap, ◌∙◌}
use mir.Syntax.{w64}
use Rattle.std.proofs.lemmas.Int.{to_z-of_z}
use Rattle.smil_stretch.specs.NodeClocks.{parent_of, shown_by, stands_by}
use Rattle.smil_stretch.proofs.ReadingsByClock.{run_told, outer_told, stands_told, outer_stands_told}
use Rattle.smil_stretch.proofs.clocks.Clocks.readings.Goals as goal

pub returns-clause-own : goal.returns-clause-own
returns-clause-own c = λ h are le.
    c.readings_by.ensures.own ∙ ap (shown_by c.clock.result) (to_z-of_z w64 c.args.moment c.ranges.moment) ∙ ap (λ n. shown_by n c.args.moment) c.clock.ensures.value
    ∙ run_told c.args.self.now h are c.args.who c.args.moment le

pub returns-clause-outer : goal.returns-clause-outer
returns-clause-outer c = λ h are le.
    c.readings_by.ensures.outer ∙ ap (shown_by (parent_of c.args.self.now c.clock.result)) (to_z-of_z w64 c.args.moment c.ranges.moment) ∙ ap (λ n. shown_by (parent_of c.args.self.now n) c.args.moment) c.clock.ensures.value
    ∙ outer_told c.args.self.now h are c.args.who c.args.moment le

pub returns-clause-own_stands : goal.returns-clause-own_stands
returns-clause-own_stands c = λ h are.
    c.readings_by.ensures.own_stands ∙ ap stands_by c.clock.ensures.value ∙ stands_told c.args.self.now h are c.args.who

pub returns-clause-outer_stands : goal.returns-clause-outer_stands
returns-clause-outer_stands c = λ h are.
    c.readings_by.ensures.outer_stands ∙ ap (λ n. stands_by (parent_of c.args.self.now n)) c.clock.ensures.value
    ∙ outer_stands_told c.args.self.now h are c.args.who
