use Rattle.std.proofs.Common.{◌∙◌, ap}
use Rattle.smil_diary.specs.ElementPlaces.{paused_by}
use Rattle.smil_diary.proofs.HistoryReadings.{paused-of}
use Rattle.smil_diary.proofs.book.Book.paused.Goals as goal

pub returns : goal.returns
returns c = c.paused.ensures ∙ ap paused_by c.element.ensures.places ∙ paused-of c.args.who c.args.self.now
