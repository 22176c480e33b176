use Rattle.std.proofs.Common.{◌∙◌, []}
use Rattle.std.specs.FinMap.{get}
use Rattle.smil_model.specs.SerialTable.{table_of}
use Rattle.smil_model.proofs.SerialTables.{get-table_of, no_places}
use Rattle.smil_model.proofs.serial_table.SerialTable.new.Goals as goal

pub returns : goal.returns
returns c = λ s. (λ i. get (table_of (c.new.ensures.items i) (c.new-2.ensures.empty i)) s) ∙ get-table_of [] [] s ∙ no_places s
