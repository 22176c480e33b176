use Rattle.std.proofs.Common.{◌∙◌, ◌<◌, ◌≤◌, length, arith}
use Rattle.std.proofs.lemmas.Option.{slice_get_within}
use Rattle.smil_model.specs.document.Document.{elements}
use Rattle.smil_instances.proofs.IdTargets.{element_of}
use Rattle.smil_past.specs.Past.{history_of}
use Rattle.smil_rounds.proofs.RowEvaluated.{elements_few, row_made}
use Rattle.smil_rounds.proofs.current_rows.row_of.Goals as goal

pub overflow_cast-index : goal.overflow_cast-index
overflow_cast-index g c =
    let nodes = c.args.element.now.present.past.now.document.nodes in
    let found = element_of nodes c.args.element.now.present.who c.requires.element in
    let within : c.args.element.now.index < length (elements nodes) = slice_get_within (elements nodes) c.args.element.now.index found.0 (c.requires.index ∙ found.1) in
    let few : length (elements nodes) ≤ length nodes = elements_few nodes in
    let all : length nodes ≤ 8000 = c.possible.ensures.valid.nodes in
    omega (arith, within, few, all)

pub returns-clause-row : goal.returns-clause-row
returns-clause-row g c = λ e here.
    let element = c.args.element.now.present in
    row_made (history_of element.past.now) (g.J.Intervals.given c.args.intervals.now) element.moment c.args.element.now.index element.who e c.in_ok-made.made here (c.in_ok-made.ensures.made e here)
