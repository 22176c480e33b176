use Rattle.std.proofs.Common.{Err, ap, sym, ◌-◌, ◌∙◌}
use Rattle.smil_grammar.specs.Nodes.{kind_of_shape}
use Rattle.smil_grammar.specs.Outlines.{in_line}
use Rattle.smil_revision.proofs.OrderReadings.{kind_in_text, kind_refused}
use Rattle.smil_revision.proofs.values.read_line_kind.Goals as goal

pub refused_line-requires-clause-within : goal.refused_line-requires-clause-within
refused_line-requires-clause-within c = kind_in_text c.args.line.text.now c.in-Err.fault c.requires.line (c.in-Err.ensures ∙ ap kind_of_shape (sym c.requires.shape))

pub returns-in-Ok : goal.returns-in-Ok
returns-in-Ok c = ap (in_line (c.args.line.column - 1)) (c.in-Ok.ensures ∙ ap kind_of_shape (sym c.requires.shape))

pub returns-in-Err : goal.returns-in-Err
returns-in-Err c =
    ap Err c.refused_line.ensures ∙ kind_refused c.args.line.text.now c.args.line.column c.in-Err.fault (c.in-Err.ensures ∙ ap kind_of_shape (sym c.requires.shape))
