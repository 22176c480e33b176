use Rattle.std.proofs.Common.{◌∙◌, ap, set}
use Rattle.smil_model.proofs.tournament.decide.Goals as goal

pub returns : goal.returns
returns g c =
    ap (set c.args.places.now c.args.place) (c.with.ensures ∙ (λ i. g.T.Contender.both (c.at-first.ensures i) (c.at-second.ensures i)))
