use Rattle.std.proofs.Common.{ap, ◌∙◌}
use Rattle.smil_outline.specs.Branches.{is_among_ids}
use Rattle.smil_outline.proofs.IdSet.{found}
use Rattle.smil_outline.proofs.ids.Ids.has.Goals as goal

pub returns : goal.returns
returns c = c.contains.ensures ∙ found (λ id. id.items) c.self.inside.ids.keys c.args.id.now ∙ ap (λ ids. is_among_ids ids c.args.id.now) c.self.view_is
