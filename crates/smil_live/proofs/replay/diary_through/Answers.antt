use Rattle.std.proofs.Common.{◌∙◌, sym}
use Rattle.smil_live.proofs.RebuiltParts.{through_place, through_whole}
use Rattle.smil_live.proofs.replay.diary_through.Goals as goal

pub returns-in-Some : goal.returns-in-Some
returns-in-Some c = sym (through_place c.args.who c.args.book.now c.in-Some.place (sym c.in-Some.ensures.value))

pub returns-in-None : goal.returns-in-None
returns-in-None c = c.len-all.ensures.value ∙ sym (through_whole c.args.who c.args.book.now (sym c.in-None.ensures.value))
