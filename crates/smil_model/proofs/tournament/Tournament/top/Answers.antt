use Rattle.std.proofs.Common.{◌∙◌, ap, List}
use Rattle.smil_model.specs.Tournaments.{at_place}
use Rattle.smil_model.proofs.Tournaments.{top_sums}
use Rattle.smil_model.proofs.tournament.Tournament.top.Goals as goal

pub returns : goal.returns
returns g c = λ sum is.
    let none = g.T.Contender.none in
    let both = g.T.Contender.both in
    let i = c.self.inside in
    let was = c.self.invariant in
    c.at.ensures
    ∙ ap (λ (places : List _). at_place none places 1) c.deref.ensures.value
    ∙ top_sums none both sum is i.places.items i.half was.height was.half_is was.enough was.decided
    ∙ ap sum c.self.view_is
