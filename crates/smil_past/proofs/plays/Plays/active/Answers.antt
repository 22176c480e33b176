use Rattle.std.proofs.Common.{◌∙◌, ap}
use Rattle.smil_past.specs.Rows.{row_of}
use Rattle.smil_past.proofs.KeptActivity.{active_none, active_some}
use Rattle.smil_past.proofs.ElementsAfterEntry.{row_is}
use Rattle.smil_past.proofs.plays.Plays.active.Goals as goal

pub returns-in-Some : goal.returns-in-Some
returns-in-Some c = λ h next is document lawful.
    c.is_some.ensures
    ∙ active_some h next document c.args.who c.in-Some.row.now (c.in-Some.ensures ∙ ap (λ rows. row_of rows c.args.who) is ∙ row_is h c.args.who)

pub returns-in-None : goal.returns-in-None
returns-in-None c = λ h next is document lawful.
    active_none h next document c.args.who lawful (c.in-None.ensures ∙ ap (λ rows. row_of rows c.args.who) is ∙ row_is h c.args.who)
