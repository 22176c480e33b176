use Rattle.std.proofs.Common.{ap, ◌∙◌, ◌||◌}
use Rattle.std.specs.Str.{bytes_eq}
use Rattle.smil_outline.specs.Branches.{is_among_ids}
use Rattle.smil_outline.proofs.IdSet.{inserted}
use Rattle.smil_outline.proofs.ids.Ids.put.Goals as goal

pub returns-clause-ok : goal.returns-clause-ok
returns-clause-ok c other =
    inserted (λ id. id.items) c.self.inside.ids.keys c.insert.new.self.keys c.args.id c.in_ok-insert.field-0 c.in_ok-insert.ensures.keys c.in_ok-insert.ensures.added other
    ∙ ap (λ ids. is_among_ids ids other || bytes_eq c.args.id.items other) c.self.view_is
