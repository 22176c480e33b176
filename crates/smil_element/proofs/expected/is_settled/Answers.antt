use Rattle.std.proofs.Common.{◌∙◌, ap}
use Rattle.smil_past.specs.Syncs.{is_empty, syncs_on}
use Rattle.smil_element.proofs.ExpectedTimes.{empty_told, side_told}
use Rattle.smil_element.proofs.expected.is_settled.Goals as goal

pub returns : goal.returns
returns c = λ e at.
    c.is_empty.ensures ∙ empty_told c.side.result.now
    ∙ ap is_empty (c.side.ensures ∙ ap (syncs_on c.args.side) (c.requires.row_is e at) ∙ side_told c.args.subject.now.present.past.now.document.nodes e c.args.side)
