use Rattle.std.proofs.Common.{◌∙◌}
use Rattle.smil_model.specs.shown.Orders.{changes_of_load}
use Rattle.smil_live.proofs.RecordLines.{changes_lines, records_told, text_told}
use Rattle.smil_live.proofs.laws.records_are_lines.Goals as goal

pub returns : goal.returns
returns c = record {
  orders = λ before after given state changes. records_told before after given state ∙ text_told before after given changes;
  loads = λ before loaded. changes_lines before loaded.document.nodes (changes_of_load loaded);
}
