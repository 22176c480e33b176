use Rattle.std.proofs.Common.{◌∙◌}
use Rattle.smil_model.specs.document.Document.{elements}
use Rattle.smil_instances.proofs.EmptyRows.{mapped_at}
use Rattle.smil_past.specs.Syncs.{sync_row}
use Rattle.smil_past.proofs.syncs.Syncs.at.Goals as goal

pub returns : goal.returns
returns c = λ nodes e same at.
    c.index.ensures
    ∙ mapped_at (sync_row nodes) (elements nodes) c.self.inside.rows.items c.args.index e c.index.result.now (c.self.view_is ∙ same) at
