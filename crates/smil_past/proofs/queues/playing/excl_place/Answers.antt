use Rattle.std.proofs.Common.{◌∙◌}
use Rattle.smil_model.specs.document.Document.{time_parent}
use Rattle.smil_past.specs.Queues.{excl_in}
use Rattle.smil_past.proofs.PlayingChildren.{place_of_excl}
use Rattle.smil_past.proofs.queues.playing.excl_place.Goals as goal

pub returns : goal.returns
returns c =
    let nodes = c.args.tree.now.nodes in
    c.position.ensures ∙ place_of_excl nodes (excl_in (time_parent nodes c.args.who)) c.in_ok-excl_above.field-0 c.in_ok-excl_above.ensures.above
