use Rattle.smil_past.specs.Past.{history_of}
use Rattle.smil_past.proofs.past.Past.active.Goals as goal

pub returns : goal.returns
returns c =
    let past = c.args.self.now in
    c.active.ensures (history_of past) past.document.next c.plays.ensures c.possible.ensures.valid.numbered c.possible.ensures.lawful
