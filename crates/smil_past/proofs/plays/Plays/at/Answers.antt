use Rattle.std.proofs.Common.{ap, ◌∙◌, ℕ}
use Rattle.smil_model.specs.declared.document.Node.{Node}
use Rattle.smil_model.specs.document.Document.{elements}
use Rattle.smil_instances.proofs.EmptyRows.{mapped_at}
use Rattle.smil_past.specs.declared.plays.facts.PlayFacts.{PlayFacts}
use Rattle.smil_past.specs.Played.{played}
use Rattle.smil_past.proofs.plays.Plays.at.Goals as goal

pub returns : goal.returns
returns c = λ h e same at.
    ap (λ (row : ℕ × PlayFacts). row.1)
    (c.index.ensures
    ∙ mapped_at (λ (n : Node). (n.serial, played h n.serial)) (elements h.nodes) c.self.inside.rows.items c.args.index e c.index.result.now (c.self.view_is ∙ same) at)
