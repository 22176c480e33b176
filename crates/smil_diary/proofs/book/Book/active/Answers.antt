use Rattle.std.proofs.Common.{◌∙◌, ap}
use Rattle.smil_diary.specs.ElementPlaces.{active_by}
use Rattle.smil_diary.proofs.ElementIndex.{playing}
use Rattle.smil_diary.proofs.book.Book.active.Goals as goal

pub returns : goal.returns
returns c = c.active.ensures ∙ ap active_by c.element.ensures.places ∙ playing c.args.self.now c.args.who
