use Rattle.std.proofs.Common.{◌∙◌, ap}
use Rattle.smil_model.specs.document.Document.{Document, serial_of}
use Rattle.smil_model.specs.shown.Orders.{node_of}
use Rattle.smil_live.proofs.presentation.PresentationOverPlayer.find.Goals as goal

pub returns : goal.returns
returns g c =
    c.find.ensures
    ∙ ap (λ (d : Document). serial_of (node_of d.nodes c.args.who.now)) (c.tree.ensures.document)
