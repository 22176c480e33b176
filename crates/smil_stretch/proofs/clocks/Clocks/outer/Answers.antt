use Rattle.std.proofs.Common.{rules, ap, ◌∙◌}
use mir.Syntax.{w64}
use mir.Val.{SFits}
use Rattle.std.proofs.lemmas.Int.{to_z-of_z}
use Rattle.smil_stretch.specs.NodeClocks.{shown_by}
use Rattle.smil_stretch.proofs.ReadingsByClock.{outer_told}
use Rattle.smil_stretch.proofs.clocks.Clocks.outer.Goals as goal

pub returns-clause-value : goal.returns-clause-value
returns-clause-value c = λ h are le.
    let fits : SFits w64 c.shown_by.result = search rules in
    to_z-of_z w64 c.shown_by.result fits ∙ c.shown_by.ensures.value
    ∙ ap (shown_by c.parent.result) (to_z-of_z w64 c.args.moment c.ranges.moment)
    ∙ ap (λ n. shown_by n c.args.moment) c.parent.ensures.value
    ∙ outer_told c.args.self.now h are c.args.who c.args.moment le
