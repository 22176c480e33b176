use Rattle.std.proofs.Common.{◌∙◌, ap, sym}
use Rattle.std.specs.Prelude.{is_some}
use Rattle.smil_past.specs.Past.{history_of}
use Rattle.smil_rounds.proofs.RowEvaluated.{IsFound, found, has_row, own_first, placed, taken_by}
use Rattle.smil_audit.proofs.replay.evaluate.Given.{Over}
use Rattle.smil_audit.proofs.replay.evaluate.Goals as goal
use Rattle.smil_audit.proofs.replay.evaluate.Goals.{After-unwrap-index}

-- the element and its row
found_row : (g : Over) (c : After-unwrap-index g) → IsFound c.args.present.now.past.now.document.nodes c.args.known.now c.args.present.now.who c.unwrap-index.result
found_row g c = found _ _ _ c.possible.ensures.valid.numbered.distinct c.requires.of_elements c.requires.element c.unwrap-index.result (sym c.unwrap-index.ensures ∙ c.index_of.ensures)

pub unwrap-index-requires : goal.unwrap-index-requires
unwrap-index-requires g c = ap is_some c.index_of.ensures ∙ has_row _ _ _ c.possible.ensures.valid.numbered.distinct c.requires.of_elements c.requires.element

pub row_of-requires-clause-index : goal.row_of-requires-clause-index
row_of-requires-clause-index g c = let at = found_row g (goal.at.row_of-requires-clause-index g c).After-unwrap-index in at.here ∙ sym at.node

pub row_of-requires-clause-known : goal.row_of-requires-clause-known
row_of-requires-clause-known g c = λ e here implicit. tt

pub put-requires-clause-place : goal.put-requires-clause-place
put-requires-clause-place g c =
    let rows = c.args.known.now in
    let at = found_row g (goal.at.put-requires-clause-place g c).After-unwrap-index in
    placed c.in_ok-row.row.serial rows c.unwrap-index.result (own_first _ rows _ _ c.in_ok-row.row at (c.in_ok-row.ensures.row at.element at.node).serial)

pub put-requires-clause-near : goal.put-requires-clause-near
put-requires-clause-near g c = c.in_ok-row.ensures.near

pub returns-clause-evaluated : goal.returns-clause-evaluated
returns-clause-evaluated g c =
    let at = found_row g (goal.at.returns-clause-evaluated g c).After-unwrap-index in
    taken_by (history_of c.args.present.now.past.now) c.args.present.now.moment _ _ c.args.known.now c.put.new.self c.in_ok-row.row at (c.in_ok-row.ensures.row at.element at.node) c.put.ensures
