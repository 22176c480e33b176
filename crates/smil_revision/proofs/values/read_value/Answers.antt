use Rattle.std.proofs.Common.{Err, sym, ap, subst}
use Rattle.smil_model.specs.declared.document.Attr.{Attr}
use Rattle.smil_model.specs.declared.order.Refusal.{Refusal}
use Rattle.smil_model.specs.document.Values.{is_seq_parent}
use Rattle.smil_grammar.specs.Formats.{attr_in_line, written_at}
use Rattle.smil_grammar.specs.Nodes.{at_column}
use Rattle.smil_grammar.specs.Outlines.{in_line}
use Rattle.smil_grammar.specs.Gives.{GivesReading}
use Rattle.smil_revision.proofs.OrderReadings.{value_placed, value_refused}
use Rattle.smil_revision.proofs.values.read_value.Goals as goal

pub refused_value-requires-clause-placed : goal.refused_value-requires-clause-placed
refused_value-requires-clause-placed c =
    value_placed (is_seq_parent c.args.named.parent) c.args.named.kind c.args.named.name.now c.args.value.text.now c.in-Err.fault c.requires.value c.in-Err.ensures

pub returns-in-Ok : goal.returns-in-Ok
returns-in-Ok c =
    ap (λ r. in_line 0 (at_column (written_at c.args.named.name.now c.args.value.text.now c.args.named.column c.args.value.column) r)) c.in-Ok.ensures

pub returns-in-Err : goal.returns-in-Err
returns-in-Err c =
    subst (λ (e : Refusal). GivesReading {A = Attr} (Err e) (attr_in_line c.args.named.kind c.args.named.parent c.args.named.name.now c.args.value.text.now c.args.named.column c.args.value.column)) (sym c.refused_value.ensures)
    (value_refused c.args.named.kind c.args.named.parent c.args.named.name.now c.args.value.text.now c.args.named.column c.args.value.column c.in-Err.fault c.requires.column c.requires.value_column
    (value_placed (is_seq_parent c.args.named.parent) c.args.named.kind c.args.named.name.now c.args.value.text.now c.in-Err.fault c.requires.value c.in-Err.ensures)
    c.in-Err.ensures)
