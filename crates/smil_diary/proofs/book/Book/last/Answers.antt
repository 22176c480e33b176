use Rattle.std.proofs.Common.{◌≡◌, ◌<◌, length, sym, subst, ◌∙◌}
use Rattle.std.specs.Prelude.{IfSome}
use Rattle.smil_model.specs.declared.diary.Entry.{Entry}
use Rattle.smil_model.specs.diary.Diary.{is_step, last_step}
use Rattle.smil_diary.proofs.ElementIndex.{last-kept}
use Rattle.smil_diary.proofs.LastPlaces.{last-within}
use Rattle.smil_diary.proofs.book.Book.last.Goals as goal

value-of : (c : goal.After-last) → c.last.result ≡ last_step c.args.self.now c.args.kind c.args.who
value-of c =
    c.last.ensures ∙ last-kept c.args.self.now c.args.kind c.args.who c.element.ensures.places

pub returns-clause-value : goal.returns-clause-value
returns-clause-value c = value-of c

pub returns-clause-within : goal.returns-clause-within
returns-clause-within c =
    subst (λ o. IfSome o (λ k. k < length c.args.self.now)) (sym (value-of c))
    (last-within (λ (x : Entry). is_step c.args.kind c.args.who x.step) c.args.self.now)
