use Rattle.std.proofs.Common.{◌∙◌, ap}
use Rattle.smil_model.specs.document.Document.{elements}
use Rattle.smil_rounds.proofs.RowsEmpty.{empty_serials}
use Rattle.smil_rounds.proofs.RowsBesideElements.{serials_in}
use Rattle.smil_plain.proofs.plain.PlainTableTable.of.Goals as goal

pub take_all-requires-clause-of_elements : goal.take_all-requires-clause-of_elements
take_all-requires-clause-of_elements g c =
    ap serials_in c.in_ok-of.ensures ∙ empty_serials (elements c.args.past.now.document.nodes)
