use Rattle.std.proofs.Common.{◌∙◌, ap}
use Rattle.smil_past.specs.Past.{history_of}
use Rattle.smil_past.specs.Played.{played}
use Rattle.smil_element.proofs.IndexedElements.{element_here, plays_within}
use Rattle.smil_element.proofs.endings.ending_at.Goals as goal

pub at-requires : goal.at-requires
at-requires c =
    let past = c.args.past.now in
    let here = element_here past.document.nodes c.args.index c.args.who c.requires.element c.requires.index in
    plays_within (history_of past) c.plays.result.now c.args.index c.plays.ensures here.within

pub returns : goal.returns
returns c =
    let past = c.args.past.now in
    let here = element_here past.document.nodes c.args.index c.args.who c.requires.element c.requires.index in
    c.ending_from.ensures (history_of past) c.args.who
    (c.at.ensures (history_of past) here.node c.plays.ensures here.at ∙ ap (played (history_of past)) here.serial)
