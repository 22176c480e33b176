use Rattle.std.proofs.Common.{Err, Some, sym, ◌∙◌, subst}
use Rattle.smil_model.specs.declared.document.Attrs.{Attrs}
use Rattle.smil_model.specs.declared.document.Kind.{Kind}
use Rattle.smil_model.specs.declared.order.Refusal.{Refusal}
use Rattle.smil_grammar.specs.declared.fault.NodeFault.TheVariants as node_fault
use Rattle.smil_grammar.specs.Formats.{attrs_in_line}
use Rattle.smil_grammar.specs.Gives.{GivesNode, GivesReading}
use Rattle.smil_grammar.specs.Nodes.{node_of}
use Rattle.smil_revision.proofs.OrderReadings.{attrs_read, attrs_refused, misplaced_node, node_in_text, node_refused}
use Rattle.smil_revision.proofs.values.read_line_attrs.Goals as goal
use Rattle.smil_revision.proofs.values.read_line_attrs.Goals.{In-Err}

pub returns-then-not-fits : goal.returns-then-not-fits
returns-then-not-fits c =
    attrs_refused c.args.kinds.parent c.args.line.text.now c.args.line.column node_fault.BadPlace
    (misplaced_node c.args.kinds.parent c.args.kinds.node c.args.line.text.now c.args.shape.now c.requires.shape c.requires.kind (sym c.fits.ensures ∙ c.if-not-fits.true))

-- the fault is that of the whole line
of_line : (c : In-Err) → GivesNode {A = Kind × Attrs} (Err c.in-Err.fault) (node_of (Some c.args.kinds.parent) c.args.line.text.now)
of_line c = node_refused c.args.kinds.parent c.args.kinds.node c.args.line.text.now c.args.shape.now c.requires.shape c.requires.kind c.in-Err.fault (sym c.fits.ensures ∙ c.if-not-fits.false) c.in-Err.ensures

pub refused_line-requires-clause-within : goal.refused_line-requires-clause-within
refused_line-requires-clause-within c = node_in_text (Some c.args.kinds.parent) c.args.line.text.now c.in-Err.fault c.requires.line (of_line (goal.at.refused_line-requires-clause-within c).In-Err)

pub returns-in-Ok : goal.returns-in-Ok
returns-in-Ok c = attrs_read c.args.kinds.parent c.args.kinds.node c.args.line.text.now c.args.shape.now c.requires.shape c.requires.kind c.in-Ok.attrs c.args.line.column (sym c.fits.ensures ∙ c.if-not-fits.false) c.in-Ok.ensures

pub returns-in-Err : goal.returns-in-Err
returns-in-Err c =
    subst (λ (e : Refusal). GivesReading {A = Attrs} (Err e) (attrs_in_line c.args.kinds.parent c.args.line.text.now c.args.line.column)) (sym c.refused_line.ensures)
    (attrs_refused c.args.kinds.parent c.args.line.text.now c.args.line.column c.in-Err.fault (of_line (goal.at.returns-in-Err c).In-Err))
