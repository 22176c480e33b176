use Rattle.std.proofs.Common.{[], Err, ap, ◌∙◌}
use Rattle.smil_grammar.specs.Formats.{written_at}
use Rattle.smil_grammar.specs.Nodes.{at_column}
use Rattle.smil_grammar.specs.Outlines.{in_line}
use Rattle.smil_revision.proofs.OrderReadings.{name_placed, name_refused}
use Rattle.smil_revision.proofs.values.read_name.Goals as goal

pub refused_value-requires-clause-placed : goal.refused_value-requires-clause-placed
refused_value-requires-clause-placed c = name_placed c.args.named.kind c.args.named.name.now c.in-Err.fault c.in-Err.ensures

pub returns-in-Ok : goal.returns-in-Ok
returns-in-Ok c =
    ap (λ r. in_line 0 (at_column (written_at c.args.named.name.now [] c.args.named.column c.args.named.column) r)) c.in-Ok.ensures

pub returns-in-Err : goal.returns-in-Err
returns-in-Err c =
    ap Err c.refused_value.ensures
    ∙ name_refused c.args.named.kind c.args.named.name.now c.args.named.column c.in-Err.fault c.requires.column
    (name_placed c.args.named.kind c.args.named.name.now c.in-Err.fault c.in-Err.ensures) c.in-Err.ensures
