use Rattle.std.proofs.Common.{◌∙◌, sym, ap}
use Rattle.std.specs.Prelude.{is_some}
use Rattle.std.specs.Option.{option_copied}
use Rattle.smil_past.specs.Past.{history_of}
use Rattle.smil_past.proofs.ReferenceLent.{some_lent}
use Rattle.smil_element.proofs.ElementReadings.{has_row, row_told}
use Rattle.smil_live.proofs.screen.played_of.Goals as goal

pub unwrap-requires : goal.unwrap-requires
unwrap-requires c = some_lent c.of.result (ap is_some (c.of.ensures (history_of c.args.past.now) c.plays.ensures) ∙ has_row (history_of c.args.past.now) c.args.who c.requires)

pub returns : goal.returns
returns c = row_told (history_of c.args.past.now) c.args.who c.unwrap.result.now c.requires (sym (ap option_copied c.unwrap.ensures) ∙ c.of.ensures (history_of c.args.past.now) c.plays.ensures)
