use Rattle.std.proofs.Common.{◌∙◌, ap}
use Rattle.smil_past.specs.Rows.{row_of}
use Rattle.smil_past.proofs.ElementsAfterEntry.{row_is}
use Rattle.smil_past.proofs.plays.Plays.of.Goals as goal

pub returns : goal.returns
returns c = λ h is. c.row.ensures ∙ ap (λ rows. row_of rows c.args.who) is ∙ row_is h c.args.who
