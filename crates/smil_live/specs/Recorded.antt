-- What the records of changes say.
use Rattle.std.specs.Prelude.{◌≡◌, false, List, flat_map}
use Rattle.smil_model.specs.declared.document.Node.{Node}
use Rattle.smil_model.specs.declared.order.Order.{Order}
use Rattle.smil_model.specs.shown.Answers.{answer_text, load_text}
use Rattle.smil_model.specs.shown.Orders.{IsState, Presentation}
use Rattle.smil_report.specs.Records.{as_records, record_line}
use Rattle.smil_report.specs.Tellings.{is_telling, load_told, order_told}
use Rattle.smil_grammar.specs.Formats.{formats}

-- the lines of the records of an order, or of a load, are the text of its answer
pub record RecordsAreLines : Type 0 where
  pub orders : (before after : Presentation) (given : Order) → IsState before
      → is_telling given ≡ false
      → flat_map (record_line before.document.nodes after.document.nodes)
      (order_told as_records before after given)
      ≡ answer_text formats before after given
  pub loads : (before : List Node) (loaded : Presentation)
      → flat_map (record_line before loaded.document.nodes) (load_told as_records loaded)
      ≡ load_text loaded
