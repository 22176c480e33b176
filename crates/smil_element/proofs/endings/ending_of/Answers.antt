use Rattle.smil_past.specs.Past.{history_of}
use Rattle.smil_element.proofs.endings.ending_of.Goals as goal

pub returns : goal.returns
returns c = c.ending_from.ensures (history_of c.args.past.now) c.args.who c.played_of.ensures
