use Rattle.std.proofs.Common.{◌&&◌, sym, ap, ◌∙◌}
use Rattle.smil_diary.specs.ElementPlaces.{element_of, deferred_by}
use Rattle.smil_diary.proofs.HistoryReadings.{deferred-of}
use Rattle.smil_diary.proofs.book.Book.deferred.Goals as goal

pub returns-then-lives_under : goal.returns-then-lives_under
returns-then-lives_under c = λ h of.
    c.deferred_since.ensures
    ∙ ap (deferred_by c.birth.result) c.element.ensures.places
    ∙ ap (λ alive. alive && deferred_by c.birth.result (element_of c.args.self.now c.args.who)) (sym c.if-lives_under.true)
    ∙ deferred-of h c.args.who c.birth.result c.args.parent c.args.self.now c.lives_under.result of c.birth.ensures c.lives_under.ensures
