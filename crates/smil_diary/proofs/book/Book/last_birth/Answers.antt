use Rattle.std.proofs.Common.{◌≡◌, ◌<◌, length, ap, sym, subst, ◌∙◌}
use Rattle.std.specs.Prelude.{IfSome}
use Rattle.smil_model.specs.declared.diary.Entry.{Entry}
use Rattle.smil_model.specs.diary.Diary.{last_place, gives_birth}
use Rattle.smil_diary.specs.ElementPlaces.{birth_by}
use Rattle.smil_diary.proofs.HistoryReadings.{birth-of}
use Rattle.smil_diary.proofs.LastPlaces.{last-within}
use Rattle.smil_diary.proofs.book.Book.last_birth.Goals as goal

value-of : (c : goal.After-last_birth) → c.last_birth.result ≡ last_place (λ (x : Entry). gives_birth c.args.who x.step) c.args.self.now
value-of c =
    c.last_birth.ensures
    ∙ ap birth_by c.element.ensures.places
    ∙ birth-of c.args.who c.args.self.now

pub returns-clause-value : goal.returns-clause-value
returns-clause-value c = value-of c

pub returns-clause-within : goal.returns-clause-within
returns-clause-within c =
    subst (λ o. IfSome o (λ k. k < length c.args.self.now)) (sym (value-of c))
    (last-within (λ (x : Entry). gives_birth c.args.who x.step) c.args.self.now)
