use Rattle.std.proofs.Common.{◌≡◌, rules, ap, ◌∙◌}
use mir.Syntax.{w64}
use mir.Val.{SFits}
use Rattle.std.proofs.lemmas.Int.{to_z-of_z}
use Rattle.smil_stretch.specs.NodeClocks.{parent_of, shown_by, stands_by}
use Rattle.smil_stretch.proofs.ParentPlaces.{parent_found}
use Rattle.smil_stretch.proofs.clocks.Clocks.readings_by.Goals as goal

pub returns-clause-own : goal.returns-clause-own
returns-clause-own c =
    let fits : SFits w64 c.shown_by.result = search rules in
    to_z-of_z w64 c.shown_by.result fits ∙ c.shown_by.ensures.value
    ∙ ap (shown_by c.args.own) (to_z-of_z w64 c.args.moment c.ranges.moment)

pub returns-clause-outer : goal.returns-clause-outer
returns-clause-outer c =
    let fits : SFits w64 c.shown_by-2.result = search rules in
    let outer_is : c.at-outer.result ≡ parent_of c.args.self.now c.args.own =
    parent_found c.args.self.now c.args.own c.parent_place.result c.at-outer.result c.parent_place.ensures c.at-outer.ensures.value in
    to_z-of_z w64 c.shown_by-2.result fits ∙ c.shown_by-2.ensures.value
    ∙ ap (shown_by c.at-outer.result) (to_z-of_z w64 c.args.moment c.ranges.moment)
    ∙ ap (λ n. shown_by n c.args.moment) outer_is

pub returns-clause-outer_stands : goal.returns-clause-outer_stands
returns-clause-outer_stands c =
    let outer_is : c.at-outer.result ≡ parent_of c.args.self.now c.args.own =
    parent_found c.args.self.now c.args.own c.parent_place.result c.at-outer.result c.parent_place.ensures c.at-outer.ensures.value in
    c.stands_by-2.ensures ∙ ap stands_by outer_is
